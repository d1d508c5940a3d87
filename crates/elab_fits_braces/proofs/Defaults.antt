-- Initialisers of members in the functions that build the objects.
use Rattle.std.proofs.Common.{◌≡◌, refl, sym, ap, ◌∙◌, subst, ℕ, zero, suc, ◌+◌, true, false, List, [], ◌∷◌, ◌++◌, length, Some, slice_get}
use Rattle.std.proofs.Common.{arith}
use Rattle.std.proofs.lemmas.Bool.{and_parts}
use Rattle.elab_rules.specs.cpp_types.Typ.{Typ, Signature, signature}
use Rattle.elab_rules.specs.cpp_types.declared.ranks.Cat.TheVariants.{Prvalue}
use Rattle.elab_rules.specs.cpp_tree.declared.kinds.TKind.TheVariants.{Local, Load, Materialize, FullExpression}
use Rattle.elab_rules.specs.cpp_tree.declared.program.FuncKind.TheVariants.{Constructor}
use Rattle.elab_rules.specs.cpp_tree.declared.roles.Role.TheVariants.{Initialiser}
use Rattle.elab_rules.specs.cpp_tree.Trees.{Tree, node, none, more, kind_of}
use Rattle.elab_rules.specs.cpp_tree.Typing.{head_of, builds, is_class_typ}
use Rattle.elab_rules.specs.cpp_tree.Rows.{Setting, result_in}
use Rattle.elab_rules.specs.elab_ctx.Ctx.{Work, Default}
use Rattle.elab_rules.specs.Braces.{ThisAt, moved_place, relocated, as_part, default_whole}
use Rattle.elab_fits.specs.Standing.{BuildsOne, Reaches}
use Rattle.elab_fits_braces.specs.Moving.{is_free, is_movable, are_movable, is_read, IsThis, IsMoved, this_typ, alone, DefaultsBuild}
use Rattle.elab_fits_braces.proofs.Plain.{builds_plain}
use Rattle.elab_fits_braces.proofs.Moved.{head_moved, moved_fit}

no_result : (g : Signature) → is_class_typ (result_in Constructor g) ≡ false
no_result (signature ps r safe) = refl

found_behind : {A : Type 0} (xs ys : List A) (i : ℕ) (x : A) → slice_get ys i ≡ Some x → slice_get (xs ++ ys) (i + length xs) ≡ Some x
found_behind {A} [] ys i x h = let e : i ≡ i + 0 = omega arith in subst (λ (j : ℕ). slice_get ys j ≡ Some x) e h
found_behind {A} (z ∷ xs) ys i x h =
    let e : suc (i + length xs) ≡ i + suc (length xs) = omega arith in
    subst (λ (j : ℕ). slice_get (z ∷ xs ++ ys) j ≡ Some x) e (found_behind xs ys i x h)

part_read : (e : Tree) → is_read (kind_of e) ≡ true → as_part e ≡ e
part_read (node FullExpression u cat at kids) h = absurd cc
part_read (node kind u cat at kids) h = refl

part_movable : (t : Typ) (e : Tree) → is_movable t e ≡ true → is_movable t (as_part e) ≡ true
part_movable t (node FullExpression u cat at (more e none)) h = (and_parts (is_movable t e) true (and_parts (is_free FullExpression) (are_movable t (more e none)) h).1).0
part_movable t (node kind u cat at kids) h = h

module _ (s : Setting) (w : Work) (t : Typ) (this : ThisAt) (d : Default) (i : IsThis s (this_typ d) this)
    (h : Reaches s (default_whole w this d).work) where
  behind : IsMoved (length w.frame) (this_typ d ∷ d.frame) s.function.frame
  behind zero x l g = absurd (omega arith)
  behind (suc place) x l g =
      let e : place + length w.frame ≡ moved_place (length w.frame) (suc place) = omega arith in
      subst (λ (j : ℕ). slice_get s.function.frame j ≡ Some x) e (h.frame (place + length w.frame) x (found_behind w.frame d.frame place x g))

  build : (e : Tree) → is_movable (this_typ d) e ≡ true → BuildsOne (alone s d) t e → BuildsOne s t (relocated (length w.frame) this e)
  build e m b = record {
    fits = moved_fit (alone s d) s.function (length w.frame) (this_typ d) this Initialiser e (no_result s.function.declared.signature) behind i m b.fits;
    builds = sym (builds_plain t (head_of (relocated (length w.frame) this e)))
        ∙ ap (builds t) (head_moved (alone s d) s.function (length w.frame) (this_typ d) this (no_result s.function.declared.signature) behind i e m)
        ∙ builds_plain t (head_of e) ∙ b.builds;
  }

  pub part_moved : (e : Tree) → as_part (relocated (length w.frame) this e) ≡ relocated (length w.frame) this (as_part e)
  part_moved (node (Load k false) u Prvalue at (more (node (Local zero) x cat p kids) none)) = part_read (this at) (i.read at)
  part_moved (node (Materialize place a) u cat at kids) = refl
  part_moved (node FullExpression u cat at none) = refl
  part_moved (node FullExpression u cat at (more e none)) = refl
  part_moved (node FullExpression u cat at (more e (more x es))) = refl
  part_moved (node kind u cat at kids) = refl

pub defaults_build : DefaultsBuild
defaults_build s w t this d i h g = (
  build s w t this d i g d.init h.movable h.one,
  subst (λ (e : Tree). BuildsOne s t e) (sym (part_moved s w t this d i g d.init))
      (build s w t this d i g (as_part d.init) (part_movable (this_typ d) d.init h.movable) h.part),
)
