-- Members of a class, one after the other.
use Rattle.std.proofs.Common.{◌≡◌, ◌<◌, ◌≤◌, ◌∙◌, Bool, slice_set, ℕ, zero, suc, List, [], ◌∷◌, length, map, get_or, slice_get, refl, sym, ap, arith}
use Rattle.cpp_types.specs.Class.{Member}
use Rattle.elab_entry.specs.elab_ctx.Ctx.{Traits, traits_of}
use Rattle.elab_entry.specs.elab_ctx.declared.env.Traits.{Traits as TraitsRec}
use Rattle.elab_entry.specs.elab_rules.Objects.{no_traits}
use Rattle.elab_entry.specs.elab_rules.Members.{member_type}
use Rattle.elab_implicit.specs.Written.{traits_in, marked_abstract}

pub type_of_member : (ms : List Member) (i : ℕ) (d : Member) → i < length ms → (get_or ms i d).typ ≡ member_type (slice_get ms i)
type_of_member [] i d h = absurd (omega arith)
type_of_member (m ∷ ms) zero d h = refl
type_of_member (m ∷ ms) (suc i) d h = type_of_member ms i d (omega arith)

pub shown_traits : (xs : List TraitsRec) (i : ℕ) (x : TraitsRec) → i < length xs → x ≡ get_or xs i x → traits_in (map traits_of xs) i ≡ traits_of x
shown_traits [] i x h e = absurd (omega arith)
shown_traits (y ∷ ys) zero x h e = ap traits_of (sym e)
shown_traits (y ∷ ys) (suc i) x h e = shown_traits ys i x (omega arith) e

pub no_traits_there : (xs : List TraitsRec) (i : ℕ) → length xs ≤ i → traits_in (map traits_of xs) i ≡ no_traits
no_traits_there [] i h = refl
no_traits_there (y ∷ ys) zero h = absurd (omega arith)
no_traits_there (y ∷ ys) (suc i) h = no_traits_there ys i (omega arith)

map_set : (xs : List TraitsRec) (i : ℕ) (y : TraitsRec) → map traits_of (slice_set xs i y) ≡ slice_set (map traits_of xs) i (traits_of y)
map_set [] i y = refl
map_set (x ∷ xs) zero y = refl
map_set (x ∷ xs) (suc i) y = ap (λ (z : List Traits). traits_of x ∷ z) (map_set xs i y)

pub marked_traits : (xs : List TraitsRec) (i : ℕ) (x : TraitsRec) (b : Bool) → i < length xs → x ≡ get_or xs i x
    → map traits_of (slice_set xs i (record x { is_abstract = b })) ≡ marked_abstract (map traits_of xs) i b
marked_traits xs i x b h e = map_set xs i (record x { is_abstract = b })
    ∙ ap (λ (z : Traits). slice_set (map traits_of xs) i (record z { is_abstract = b })) (sym (shown_traits xs i x h e))
