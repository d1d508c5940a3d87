-- What holds of each element of a list, by its index, holds of each of the list with one more.
use Rattle.std.proofs.Common.{◌≡◌, ◌∙◌, ◌+◌, ℕ, zero, suc, List, [], ◌∷◌, ◌++◌, length, map, Option, Some, None, refl, ap, subst, slice_get, arith, is_some}
use Rattle.std.proofs.Common.{String, Global, string_bytes}
use Rattle.std.specs.Option.{option_map}
use Rattle.std.proofs.lemmas.Option.{slice_get-map}
use Rattle.std.proofs.lemmas.Bool.{false≢true}
use Rattle.tx_code.specs.declared.object.Object.{Object}
use Rattle.tx_code.specs.Objects.{ObjectView, object_view}

abbrev some_or : ObjectView → Option ObjectView → ObjectView
some_or d (Some x) = x
some_or d None = d

some_is : (a b : ObjectView) → Some a ≡ Some b → a ≡ b
some_is a b is = ap (λ (z : Option ObjectView). some_or a z) is

pub each_too : (P : ℕ → ObjectView → Type 0) (os : List ObjectView) (last : ObjectView) → ((i : ℕ) (o : ObjectView) → slice_get os i ≡ Some o → P i o)
    → P (length os) last → (i : ℕ) (o : ObjectView) → slice_get (os ++ last ∷ []) i ≡ Some o → P i o
each_too P [] last each h zero o is = subst (λ (z : ObjectView). P 0 z) (some_is last o is) h
each_too P [] last each h (suc i) o is = absurd (false≢true (ap (λ (z : Option ObjectView). is_some z) is))
each_too P (x ∷ os) last each h zero o is = each zero o is
each_too P (x ∷ os) last each h (suc i) o is = each_too (λ (j : ℕ). P (suc j)) os last (λ j. each (suc j)) h i o is

pub views_too : (os : List Object) (last : Object) → map object_view (os ++ last ∷ []) ≡ map object_view os ++ object_view last ∷ []
views_too [] last = refl
views_too (o ∷ os) last = ap (λ (vs : List ObjectView). object_view o ∷ vs) (views_too os last)

pub one_more : (os : List ObjectView) (last : ObjectView) (n : ℕ) → length os ≡ n → length (os ++ last ∷ []) ≡ n + 1
one_more [] last n h = let e : 0 ≡ n = h in omega arith
one_more (o ∷ os) last n h = let e : length (os ++ last ∷ []) ≡ length os + 1 = one_more os last (length os) refl in omega arith

pub name_at : (names : List (String Global)) (i : ℕ) (name : String Global) → slice_get names i ≡ Some name
    → slice_get (map string_bytes names) i ≡ Some (string_bytes name)
name_at names i name e = slice_get-map string_bytes names i ∙ ap (option_map string_bytes) e
