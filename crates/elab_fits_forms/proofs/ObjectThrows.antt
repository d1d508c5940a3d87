-- `throw` of objects of classes.
use Rattle.std.proofs.Common.{◌≡◌, refl, sym, ap, ◌∙◌, subst, ℕ, zero, suc, ◌+◌, Bool, true, false, not, nat_le, List, [], ◌∷◌, length, Option, Some, None, is_some}
use Rattle.std.proofs.Common.{Result, Ok, Err}
use Rattle.std.specs.Prelude.{if◌then◌else◌}
use Rattle.elab_rules.specs.tx_ints.declared.kinds.IntKind.{IntKind}
use Rattle.elab_rules.specs.cpp_types.Typ.{Typ, typ, Form, void, int, enum, null, ptr, ref, array, func, class, closure, tx_ex}
use Rattle.elab_rules.specs.cpp_types.Class.{Class}
use Rattle.elab_rules.specs.cpp_types.Equal.{form_eq}
use Rattle.elab_rules.specs.cpp_types.Conversion.{is_lvalue, decayed}
use Rattle.elab_rules.specs.cpp_types.declared.classes.At.{At}
use Rattle.elab_rules.specs.elab_ctx.tx_events.declared.TheConstants.{EXCEPTION_SIZE}
use Rattle.elab_rules.specs.cpp_tree.declared.faults.ElabFault.{ElabFault}
use Rattle.elab_rules.specs.cpp_tree.declared.faults.ElabFault.TheVariants.{Limit}
use Rattle.elab_rules.specs.cpp_tree.declared.faults.LimitKind.TheVariants.{Exception}
use Rattle.elab_rules.specs.cpp_tree.declared.faults.IllRule.TheVariants.{BadThrow, NoCopy, NotTriviallyCopyable}
use Rattle.elab_rules.specs.cpp_tree.declared.roles.Role.TheVariants.{Value, Scalar}
use Rattle.elab_rules.specs.cpp_tree.Trees.{Tree, Trees, none, more, typ_in}
use Rattle.elab_rules.specs.cpp_tree.Notation.{plain}
use Rattle.elab_rules.specs.cpp_tree.Typing.{head_of, form_in, is_class_typ, is_volatile_typ}
use Rattle.elab_rules.specs.cpp_tree.Parts.{are_scalars}
use Rattle.elab_rules.specs.cpp_tree.Rows.{Setting, is_thrown}
use Rattle.elab_rules.specs.cpp_tree.WellFormed.{heads_of}
use Rattle.elab_rules.specs.elab_ctx.Ctx.{Ctx, Work}
use Rattle.elab_rules.specs.elab_ctx.Steps.{and_then, Operand, Made}
use Rattle.elab_rules.specs.Objects.{size_of, followed_by, Part, parts_of, fields_of_parts, scalar_field, repeated, fields_in, fields_form, class_fields, fields}
use Rattle.elab_rules.specs.Objects.{traits_at}
use Rattle.elab_rules.specs.Initialising.{object_of, with_tree}
use Rattle.elab_rules.specs.Operators.{value, without_value}
use Rattle.elab_rules.specs.cpp_types.Class.{completion_of}
use Rattle.elab_rules.specs.Casts.{is_thrown_scalar, within_exception, throw_node, throw_object, throw_in, throw}
use Rattle.elab_fits_objects.proofs.Types.{ready_more}
use Rattle.elab_fits.specs.Standing.{FitsAs, Reaches, On}
use Rattle.elab_fits.specs.Objects.{AllFit, is_closure}
use Rattle.elab_fits.proofs.Equal.{form_refl}
use Rattle.elab_fits.proofs.Initials.{value_form_is}
use Rattle.elab_fits.proofs.Nodes.{both, clash, head_typ, head_cat}
use Rattle.elab_fits.proofs.Steps.{bind, checked}
use Rattle.elab_fits_forms.specs.Types.{IsWhole}
use Rattle.elab_fits_forms.specs.Meaning.{IsObject, ProperOperand}
use Rattle.elab_fits_forms.specs.Context.{Holds}
use Rattle.elab_fits_forms.specs.Forms.{MadeStands, ProperOperands, FieldsAgree}
use Rattle.elab_fits_forms.proofs.Proper.{object_fits}
use Rattle.elab_fits_forms.proofs.Temporaries.{object_is, object_typ}
use Rattle.elab_fits_forms.proofs.Wholes.{class_whole}
use Rattle.elab_fits_forms.proofs.Dropped.{nothing_proper}
use Rattle.elab_fits_forms.proofs.Throws.{throw_fits, rethrow_proper, no_object_thrown}

-- The scalars of an exception fit as such

module _ (s : Setting) (classes : List Class) (at : At) where
  append_fit : (ts us : Trees) → AllFit s Scalar ts → AllFit s Scalar us → AllFit s Scalar (followed_by ts us)
  append_fit none us h g = g
  append_fit (more t ts) us h g = (h.0, append_fit ts us h.1 g)

  scalar_fit : (offset : ℕ) (o : Option IntKind) → AllFit s Scalar (scalar_field at offset o)
  scalar_fit offset (Some k) = ((λ p full. refl), tt)
  scalar_fit offset None = tt

  repeated_fit : (each : ℕ → Trees) → ((o : ℕ) → AllFit s Scalar (each o)) → (n offset stride : ℕ) → AllFit s Scalar (repeated each offset stride n)
  repeated_fit each h zero offset stride = tt
  repeated_fit each h (suc n) offset stride = append_fit (each offset) (repeated each (offset + stride) stride n) (h offset)
      (repeated_fit each h n (offset + stride) stride)

  mutual
    typ_fit : (each : ℕ → ℕ → Trees) → ((n o : ℕ) → AllFit s Scalar (each n o)) → (t : Typ) (offset : ℕ) → AllFit s Scalar (fields_in each classes at offset t)
    typ_fit each h (typ f q v) offset = form_fit each h f offset

    form_fit : (each : ℕ → ℕ → Trees) → ((n o : ℕ) → AllFit s Scalar (each n o)) → (f : Form) (offset : ℕ)
        → AllFit s Scalar (fields_form each classes at offset f)
    form_fit each h (array t n) offset = repeated_fit (λ o. fields_in each classes at o t) (λ o. typ_fit each h t o) n offset (size_of classes t)
    form_fit each h (class n) offset = h n offset
    form_fit each h (closure n) offset = h n offset
    form_fit each h (tx_ex t) offset = typ_fit each h t offset
    form_fit each h void offset = tt
    form_fit each h (int k) offset = ((λ p full. refl), tt)
    form_fit each h (enum n e) offset = ((λ p full. refl), tt)
    form_fit each h null offset = ((λ p full. refl), tt)
    form_fit each h (ptr t) offset = ((λ p full. refl), tt)
    form_fit each h (ref t) offset = ((λ p full. refl), tt)
    form_fit each h (func g) offset = tt

  parts_fit : (each : Part → Trees) → ((p : Part) → AllFit s Scalar (each p)) → (ps : List Part) → AllFit s Scalar (fields_of_parts each ps)
  parts_fit each h [] = tt
  parts_fit each h (p ∷ ps) = append_fit (each p) (fields_of_parts each ps) (h p) (parts_fit each h ps)

  class_fit : (depth n offset : ℕ) → AllFit s Scalar (class_fields depth classes at n offset)
  class_fit zero n offset = tt
  class_fit (suc depth) n offset = parts_fit (λ (p : Part). fields_in (class_fields depth classes at) classes at (offset + p.offset) p.typ)
      (λ p. typ_fit (class_fields depth classes at) (class_fit depth) p.typ (offset + p.offset)) (parts_of classes n)

pub fields_fit : (s : Setting) (classes : List Class) (at : At) (t : Typ) → AllFit s Scalar (fields classes at t)
fields_fit s classes at t = typ_fit s classes at (class_fields (length classes) classes at) (class_fit s classes at (length classes)) t 0

-- What is thrown (C++14 15.1)

object_thrown : (f : Form) (e : Tree) → is_class_typ (plain f) ≡ true → is_lvalue (head_of e).cat ≡ true → form_in (head_of e).typ ≡ f
    → is_thrown (plain f) (head_of e) ≡ true
object_thrown (class n) e k l d = both l (ap (λ (z : Form). form_eq (class n) z) d ∙ form_refl (class n))
object_thrown (closure n) e k l d = both l (ap (λ (z : Form). form_eq (closure n) z) d ∙ form_refl (closure n))
object_thrown (tx_ex t) e k l d = both l (ap (λ (z : Form). form_eq (tx_ex t) z) d ∙ form_refl (tx_ex t))
object_thrown f e k l d = absurd cc

thrown_by : (s : Setting) (c : Ctx) (w : Work) (at : At) (t : Typ) (e : Tree) → FieldsAgree → Holds s c w → IsObject s c e → typ_in e ≡ t
    → is_class_typ t ≡ true → IsWhole c.classes t → nat_le (size_of c.classes t) EXCEPTION_SIZE ≡ true → FitsAs s Value (throw_node c at t e)
thrown_by s c w at (typ f q v) e agree h o d k x n = throw_fits s at f e (fields c.classes at (typ f q v)) (object_fits s c e o)
    (object_thrown f e k (ap is_lvalue (head_cat e ∙ o.category)) (ap form_in (head_typ e ∙ d))) (fields_fit s c.classes at (typ f q v))
    (ap (λ (cs : List Class). are_scalars cs (plain f) (heads_of (fields c.classes at (typ f q v)))) h.setting.classes
    ∙ agree c.classes at f q v h.setting.ordered x.sized (ready_more c.classes (is_closure f) (typ f q v) x.ready) k n)

small : (c : Ctx) (at : At) (t : Typ) → On (λ (b : Bool). nat_le (size_of c.classes t) EXCEPTION_SIZE ≡ true) (within_exception c at t)
small c at t = by (nat_le (size_of c.classes t) EXCEPTION_SIZE) refl
  where
    by : (b : Bool) → nat_le (size_of c.classes t) EXCEPTION_SIZE ≡ b
        → On (λ (z : Bool). nat_le (size_of c.classes t) EXCEPTION_SIZE ≡ true) (if b then Ok true else Err (Limit at Exception))
    by true h = h
    by false h = tt

abbrev ValueMade : Setting → Made → Type 0
ValueMade s m = Reaches s m.work → FitsAs s Value m.tree

throws_object : (s : Setting) (c : Ctx) (w : Work) (at : At) (o : Operand) → FieldsAgree → Holds s c w → ProperOperand s c o
    → is_class_typ (typ_in o.tree) ≡ true → IsWhole c.classes (typ_in o.tree) → On (ValueMade s) (throw_object c w at o)
throws_object s c w at o agree h x k y = checked (ValueMade s) o.at NoCopy (not (is_volatile_typ (typ_in o.tree))) _ (λ z.
    bind (λ (b : Bool). nat_le (size_of c.classes (typ_in o.tree)) EXCEPTION_SIZE ≡ true) (ValueMade s) (within_exception c at (typ_in o.tree)) _
    (small c at (typ_in o.tree)) (λ b n r. thrown_by s c w at (typ_in o.tree) (object_of c w o.at o.tree).tree agree h
    (object_is s c w o.at o.tree h.setting h.makers.specials x.proper k r) (object_typ c w o.at o.tree) k y n))

form_typ : (t : Typ) (f : Form) → form_in t ≡ f → is_class_typ (plain f) ≡ true → is_class_typ t ≡ true
form_typ (typ g q v) f e h = ap (λ (z : Form). is_class_typ (plain z)) e ∙ h

decayed_closure : (t : Typ) (n : ℕ) → form_in t ≡ closure n → decayed t ≡ closure n
decayed_closure (typ (closure m) q v) n e = e
decayed_closure (typ f q v) n e = absurd cc

thrown_in : (s : Setting) (c : Ctx) (w : Work) (at : At) (f : Form) (o : Operand) → FieldsAgree → Holds s c w → ProperOperand s c o
    → form_in (typ_in o.tree) ≡ f → On (ValueMade s) (throw_in c w at f o)
thrown_in s c w at (class n) o agree h x e = checked (ValueMade s) at NotTriviallyCopyable (traits_at c n).is_trivially_copyable _ (λ y.
    throws_object s c w at o agree h x (form_typ (typ_in o.tree) (class n) e refl)
    (class_whole s c w (typ_in o.tree) h x.proper.sound (form_typ (typ_in o.tree) (class n) e refl)
    (λ m q v d. let i : class n ≡ class m = sym e ∙ ap form_in d in let j : n ≡ m = cc in
    subst (λ (z : ℕ). is_some (completion_of c.classes z) ≡ true) j (h.copyable n y))))
thrown_in s c w at (tx_ex t) o agree h x e = throws_object s c w at o agree h x (form_typ (typ_in o.tree) (tx_ex t) e refl)
    (class_whole s c w (typ_in o.tree) h x.proper.sound (form_typ (typ_in o.tree) (tx_ex t) e refl)
    (λ m q v d. let i : tx_ex t ≡ class m = sym e ∙ ap form_in d in absurd (apart t m i)))
  where
    apart : (u : Typ) (m : ℕ) → tx_ex u ≡ class m → ⊥
    apart u m i = cc
thrown_in s c w at (closure n) o agree h x e = checked (ValueMade s) at BadThrow (is_thrown_scalar (form_in (typ_in (value o)))) _
    (λ y. clash _ (is_thrown_scalar (closure n)) refl
    (sym (ap is_thrown_scalar (value_form_is o.at o.tree ∙ decayed_closure (typ_in o.tree) n e)) ∙ y))
thrown_in s c w at f o agree h x e = given (throw_in c w at f o) (no_object_thrown s c w at f o refl x)
  where
    given : (r : Result Made ElabFault) → On (λ (m : Made). FitsAs s Value m.tree) r → On (ValueMade s) r
    given (Ok m) g = λ r. g
    given (Err z) g = tt

pub throws_stand : FieldsAgree → (s : Setting) (c : Ctx) (w : Work) (at : At) (os : List Operand) → Holds s c w → ProperOperands s c os
    → On (MadeStands s c) (throw c w at os)
throws_stand agree s c w at [] h x = λ r. rethrow_proper s c at
throws_stand agree s c w at (o ∷ os) h (ProperOperands.more x xs) =
    by (throw_in c w at (form_in (typ_in o.tree)) o) (thrown_in s c w at (form_in (typ_in o.tree)) o agree h x refl)
  where
    by : (r : Result Made ElabFault) → On (ValueMade s) r → On (MadeStands s c) (and_then r (λ (m : Made). Ok (with_tree (without_value at) m)))
    by (Ok m) g = λ r. nothing_proper s c at m.tree (g r)
    by (Err e) g = tt
