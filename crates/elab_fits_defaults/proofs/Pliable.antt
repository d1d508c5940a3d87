-- What initialises a member by a value can be made anew with more qualifiers.
use Rattle.std.proofs.Common.{◌≡◌, refl, sym, ap, ◌∙◌, ℕ, Bool, true, false, ◌&&◌, Result, Ok, Err, eq-eqb}
use Rattle.elab_rules.specs.cpp_types.Typ.{Typ, typ, Form, void, int, enum, null, ptr, ref, array, func, class, closure, tx_ex}
use Rattle.elab_rules.specs.cpp_tree.declared.faults.ElabFault.{ElabFault}
use Rattle.elab_rules.specs.cpp_tree.Trees.{Tree, node, kind_of, typ_in}
use Rattle.elab_rules.specs.cpp_tree.Typing.{head_of, builds, form_in, same_shape, goes_both_ways}
use Rattle.elab_rules.specs.cpp_tree.Rows.{Setting}
use Rattle.elab_rules.specs.elab_ctx.Ctx.{Ctx, Work}
use Rattle.elab_rules.specs.elab_ctx.Steps.{Operand, Made}
use Rattle.elab_rules.specs.Values.{is_exception_form}
use Rattle.elab_rules.specs.Initialising.{initial, class_from}
use Rattle.elab_rules.specs.Statements.{copy_initialised}
use Rattle.elab_fits.specs.Standing.{BuildsOne, On}
use Rattle.elab_fits.proofs.Equal.{typ_same, typ_refl}
use Rattle.elab_fits.proofs.Steps.{skip, known}
use Rattle.elab_fits_braces.specs.Qualified.{is_pliable}
use Rattle.elab_movable.specs.Movable.{held}
use Rattle.elab_fits_defaults.specs.Kept.{is_member_form, is_member_typ}
use Rattle.elab_fits_defaults.proofs.Exceptions.{IsOwn, exception_own}
use Rattle.elab_fits_defaults.proofs.Movable.{is_plain_object, own_shape, pliable_by}

module _ (s : Setting) (g : Typ) where
  -- where it builds the member and holds nothing that stays
  abbrev Pliable : Typ → Made → Type 0
  Pliable t m = BuildsOne s t m.tree → held g m.tree ≡ 0 → is_pliable t m.tree ≡ true

  class_pliable : (n : ℕ) (q v : Bool) (m : Made) → Pliable (typ (class n) q v) m
  class_pliable n q v m b h = pliable_by s g (typ (class n) q v) m.tree b h refl refl (goes_both_ways (kind_of m.tree)) refl
      (λ e. shaped m.tree b.builds)
    where
      shaped : (x : Tree) → builds (typ (class n) q v) (head_of x) ≡ true → (true && same_shape (typ (class n) q v) (typ_in x)) ≡ true
      shaped (node k u cat at kids) y = own_shape (typ (class n) q v) u k cat y (eq-eqb n n refl) (λ z. z) refl

  no_exception : (f : Form) → is_member_form f ≡ true → is_exception_form f ≡ false
  no_exception (int k) h = refl
  no_exception (enum n x) h = refl
  no_exception null h = refl
  no_exception (ptr t) h = refl
  no_exception (class n) h = refl
  no_exception f h = absurd cc

  plain_member : (f : Form) → is_member_form f ≡ true → is_plain_object f ≡ true
  plain_member (int k) h = refl
  plain_member (enum n x) h = refl
  plain_member null h = refl
  plain_member (ptr t) h = refl
  plain_member (class n) h = refl
  plain_member f h = absurd cc

  exception_pliable : (f : Form) (d w q v : Bool) (m : Made) → is_member_form f ≡ true → IsOwn m.tree → Pliable (typ (tx_ex (typ f d w)) q v) m
  exception_pliable f d w q v m i o b h = pliable_by s g (typ (tx_ex (typ f d w)) q v) m.tree b h refl (plain_member f i) (goes_both_ways (kind_of m.tree)) refl
      (λ e. shaped m.tree b.builds (o e))
    where
      clash_form : (u : Typ) → is_exception_form (form_in u) ≡ true → typ f q v ≡ u → ⊥
      clash_form u x e = let a : is_exception_form f ≡ true = ap (λ (z : Typ). is_exception_form (form_in z)) e ∙ x in
          let n = no_exception f i in let y : false ≡ true = sym n ∙ a in absurd cc

      shaped : (x : Tree) → builds (typ (tx_ex (typ f d w)) q v) (head_of x) ≡ true → is_exception_form (form_in (typ_in x)) ≡ true
          → (true && same_shape (typ (tx_ex (typ f d w)) q v) (typ_in x)) ≡ true
      shaped (node k u cat at kids) y z = own_shape (typ (tx_ex (typ f d w)) q v) u k cat y (typ_refl (typ f d w))
          (λ a. absurd (clash_form u z (typ_same (typ f q v) u a))) refl

  pub copy_pliable : (c : Ctx) (w : Work) (t : Typ) (o : Operand) → is_member_typ t ≡ true → On (Pliable t) (copy_initialised c w t o)
  copy_pliable c w (typ (int j) q v) o i = skip (Pliable (typ (int j) q v)) (initial c w (typ (int j) q v) o) _ (λ m. (λ b h. refl))
  copy_pliable c w (typ (enum n x) q v) o i = skip (Pliable (typ (enum n x) q v)) (initial c w (typ (enum n x) q v) o) _ (λ m. (λ b h. refl))
  copy_pliable c w (typ null q v) o i = skip (Pliable (typ null q v)) (initial c w (typ null q v) o) _ (λ m. (λ b h. refl))
  copy_pliable c w (typ (ptr t) q v) o i = skip (Pliable (typ (ptr t) q v)) (initial c w (typ (ptr t) q v) o) _ (λ m. (λ b h. refl))
  copy_pliable c w (typ (array t n) q v) o i = tt
  copy_pliable c w (typ (class n) q v) o i = known (Pliable (typ (class n) q v)) (class_from c w (typ (class n) q v) o.at o) (λ m. class_pliable n q v m)
  copy_pliable c w (typ (tx_ex (typ f d x)) q v) o i = mapped_own (class_from c w (typ (tx_ex (typ f d x)) q v) o.at o)
      (exception_own c w (typ f d x) q v o.at o)
    where
      mapped_own : (r : Result Made ElabFault) → On (λ (m : Made). IsOwn m.tree) r → On (Pliable (typ (tx_ex (typ f d x)) q v)) r
      mapped_own (Ok m) h = exception_pliable f d x q v m i h
      mapped_own (Err e) h = tt
  copy_pliable c w (typ void q v) o i = absurd cc
  copy_pliable c w (typ (ref t) q v) o i = absurd cc
  copy_pliable c w (typ (func f) q v) o i = absurd cc
  copy_pliable c w (typ (closure n) q v) o i = absurd cc
