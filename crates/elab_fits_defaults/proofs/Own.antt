-- The own initialiser of a member, where a constructor builds the object.
use Rattle.std.proofs.Common.{◌≡◌, refl, sym, ap, ◌∙◌, subst, ℕ, zero, Bool, true, false, not, Option, Some, None, slice_get, length}
use Rattle.elab_rules.specs.cpp_types.Typ.{Typ, ptr, class}
use Rattle.elab_rules.specs.cpp_types.Class.{Member}
use Rattle.elab_rules.specs.cpp_types.Equal.{typ_eq}
use Rattle.elab_rules.specs.cpp_types.declared.classes.At.{At}
use Rattle.elab_rules.specs.cpp_types.declared.ranks.Cat.TheVariants.{Prvalue}
use Rattle.elab_rules.specs.cpp_tree.declared.kinds.TKind.TheVariants.{Local, Load, Materialize, FullExpression}
use Rattle.elab_rules.specs.cpp_tree.declared.roles.Role.TheVariants.{Initialiser}
use Rattle.elab_rules.specs.cpp_tree.Notation.{plain}
use Rattle.elab_rules.specs.cpp_tree.Roles.{is_full}
use Rattle.elab_rules.specs.cpp_tree.Rows.{Setting}
use Rattle.elab_rules.specs.cpp_tree.Trees.{Tree, node, Trees, none, more, kind_of}
use Rattle.elab_rules.specs.cpp_tree.Typing.{passes}
use Rattle.elab_rules.specs.Names.{members_in, this_pointer}
use Rattle.elab_rules.specs.Members.{own_this}
use Rattle.elab_rules.specs.Braces.{ThisAt, relocated, all_relocated, moved_place}
use Rattle.elab_rules.specs.Statements.{holds_temporary, hold_temporary, is_temporary_with, is_not_none}
use Rattle.elab_fits.specs.Standing.{FitsAs, BuildsOne}
use Rattle.elab_fits.proofs.Equal.{typ_same}
use Rattle.elab_fits.proofs.Nodes.{or_right}
use Rattle.elab_fits_statements.specs.Anywhere.{FitsAnywhere}
use Rattle.elab_fits_statements.proofs.Anywhere.{anywhere}
use Rattle.elab_fits_bodies.specs.Built.{own_default}
use Rattle.elab_fits_bodies.specs.Parts.{HasThis}
use Rattle.elab_fits_braces.specs.Moving.{IsThis, DefaultFits, is_outermost}
use Rattle.elab_fits_braces.proofs.Defaults.{defaults_build}
use Rattle.elab_fits_braces.proofs.Found.{default_found}
use Rattle.elab_fits_braces.proofs.This.{own_is_this}
use Rattle.elab_fits_defaults.specs.Own.{OwnDefaultsBuild}
use Rattle.elab_fits_defaults.proofs.Kept.{no_or, or_parts}

not_true : (b : Bool) → not b ≡ true → b ≡ false
not_true true h = absurd cc
not_true false h = refl

-- What is moved has temporaries as before

module _ (by : ℕ) (this : ThisAt) (bare : (at : At) → holds_temporary (this at) ≡ false) where
  some_moved : (ts : Trees) → is_not_none (all_relocated by this ts) ≡ is_not_none ts
  some_moved none = refl
  some_moved (more t ts) = refl

  temporary_moved : (place : ℕ) (a : Bool) (kids : Trees)
      → is_temporary_with (Materialize (moved_place by place) a) (all_relocated by this kids) ≡ is_temporary_with (Materialize place a) kids
  temporary_moved place true kids = refl
  temporary_moved place false none = refl
  temporary_moved place false (more e ds) = some_moved ds

  mutual
    hold_moved : (e : Tree) → holds_temporary e ≡ false → holds_temporary (relocated by this e) ≡ false
    hold_moved (node (Load k false) t Prvalue at (more (node (Local zero) u cat p kids) none)) h = bare at
    hold_moved (node (Materialize place a) t cat at kids) h =
        let x = or_parts (is_temporary_with (Materialize place a) kids) (hold_temporary kids) h in
        no_or (is_temporary_with (Materialize (moved_place by place) a) (all_relocated by this kids)) (hold_temporary (all_relocated by this kids))
        (temporary_moved place a kids ∙ x.0) (all_moved kids x.1)
    hold_moved (node kind t cat at kids) h = all_moved kids h

    all_moved : (ts : Trees) → hold_temporary ts ≡ false → hold_temporary (all_relocated by this ts) ≡ false
    all_moved none h = refl
    all_moved (more e ts) h = let x = or_parts (holds_temporary e) (hold_temporary ts) h in
        no_or (holds_temporary (relocated by this e)) (hold_temporary (all_relocated by this ts)) (hold_moved e x.0) (all_moved ts x.1)

  without : (e : Tree) → holds_temporary e ≡ false → is_outermost (relocated by this e) ≡ true
  without e h = or_right (is_full (kind_of (relocated by this e))) (ap not (hold_moved e h))

  outermost_moved : (e : Tree) → is_outermost e ≡ true → is_outermost (relocated by this e) ≡ true
  outermost_moved (node FullExpression t cat at kids) h = refl
  outermost_moved (node kind t cat at kids) h = without (node kind t cat at kids) (not_true (holds_temporary (node kind t cat at kids)) h)

-- what builds an object inside of a full-expression builds it outside, where it may stand there
outside : (s : Setting) (e : Tree) → FitsAs s Initialiser e → is_outermost e ≡ true → FitsAnywhere s Initialiser e
outside s (node FullExpression t cat at kids) f h = λ p. f (record p { full = true }) refl
outside s (node kind t cat at kids) f h = anywhere s Initialiser (node kind t cat at kids) f (not_true (holds_temporary (node kind t cat at kids)) h)

-- The pointer `this` is the first item

first_is : (o : Option Typ) (t : Typ) → passes (typ_eq t) o ≡ true → o ≡ Some t
first_is (Some u) t h = ap Some (sym (typ_same t u h))
first_is None t h = absurd cc

own_this_is : (s : Setting) (n k : ℕ) → HasThis s n → k ≡ n → IsThis s (plain (ptr (plain (class k)))) (λ (at : At). this_pointer at (own_this k))
own_this_is s n k h e = own_is_this s k (first_is (slice_get s.function.frame 0) (plain (ptr (plain (class n)))) h
    ∙ ap (λ (j : ℕ). Some (plain (ptr (plain (class j))))) (sym e))

pub own_build : OwnDefaultsBuild
own_build s ds n i m d w all h e g r =
    let x = default_found n i ds d g in
    let y = all.each x.index d x.at in
    let f : slice_get (members_in (slice_get s.classes d.class)) d.member ≡ Some m =
    ap (λ (k : ℕ). slice_get (members_in (slice_get s.classes k)) d.member) x.class
    ∙ ap (λ (k : ℕ). slice_get (members_in (slice_get s.classes n)) k) x.member ∙ e in
    let z : Some y.member ≡ Some m = sym y.at ∙ f in
    let q : y.member ≡ m = cc in
    let k : DefaultFits s m.typ d = subst (λ (v : Member). DefaultFits s v.typ d) q (y.fits s.function) in
    let this : ThisAt = λ (at : At). this_pointer at (own_this d.class) in
    let b : BuildsOne s m.typ (own_default w d).tree = (defaults_build s w m.typ (λ (at : At). this_pointer at (own_this d.class)) d
    (own_this_is s n d.class h x.class) k r).0 in
    record {
      fits = outside s (own_default w d).tree b.fits
          (outermost_moved (length w.frame) (λ (at : At). this_pointer at (own_this d.class)) (λ at. refl) d.init k.outermost);
      builds = b.builds;
    }
