-- `throw` of scalars.
use Rattle.std.proofs.Common.{◌≡◌, refl, sym, ap, ◌∙◌, subst, ℕ, suc, true, false, List, [], ◌∷◌, length, Result, Ok, Err}
use Rattle.std.proofs.Common.{arith, le-leb}
use Rattle.elab_rules.specs.tx_ints.declared.kinds.IntKind.{IntKind}
use Rattle.elab_rules.specs.tx_ints.declared.kinds.IntKind.TheVariants.{Bool as BoolKind, Char, SChar, UChar, Short, UShort, Int, UInt, Long, ULong, LLong}
use Rattle.elab_rules.specs.tx_ints.declared.kinds.IntKind.TheVariants.{ULLong}
use Rattle.elab_rules.specs.cpp_types.Typ.{Typ, typ, Form, void, int, enum, class, tx_ex}
use Rattle.elab_rules.specs.cpp_types.Class.{Class}
use Rattle.elab_rules.specs.cpp_types.Equal.{typ_eq}
use Rattle.elab_rules.specs.cpp_types.declared.classes.At.{At}
use Rattle.elab_rules.specs.cpp_types.declared.ranks.Cat.TheVariants.{Prvalue}
use Rattle.elab_rules.specs.cpp_tree.declared.faults.IllRule.TheVariants.{BadThrow}
use Rattle.elab_rules.specs.cpp_tree.declared.kinds.TKind.TheVariants.{Throw, Rethrow, Field, Block}
use Rattle.elab_rules.specs.cpp_tree.declared.roles.Position.{Position}
use Rattle.elab_rules.specs.cpp_tree.declared.roles.Role.TheVariants.{Value, Scalar}
use Rattle.elab_rules.specs.cpp_tree.Trees.{Tree, node, Trees, none, more, one, kind_of, typ_in}
use Rattle.elab_rules.specs.cpp_tree.Notation.{plain}
use Rattle.elab_rules.specs.cpp_tree.Typing.{head_of, form_in, is_prvalue, is_class_typ}
use Rattle.elab_rules.specs.cpp_tree.Parts.{are_scalars}
use Rattle.elab_rules.specs.cpp_tree.Roles.{only, and_any}
use Rattle.elab_rules.specs.cpp_tree.Rows.{Setting, is_thrown}
use Rattle.elab_rules.specs.cpp_tree.WellFormed.{fits, kids_fit, heads_of, is_kid}
use Rattle.elab_rules.specs.elab_ctx.Ctx.{Ctx, Work}
use Rattle.elab_rules.specs.elab_ctx.Steps.{and_then, Operand, Made}
use Rattle.elab_rules.specs.Operators.{value, value_form, without_value}
use Rattle.elab_rules.specs.Casts.{is_thrown_scalar, throw_node, throw_in, throw}
use Rattle.elab_rules.specs.cpp_tree.declared.faults.ElabFault.{ElabFault}
use Rattle.elab_rules.specs.Initialising.{with_tree}
use Rattle.elab_fits.specs.Standing.{FitsAs, On}
use Rattle.elab_fits.specs.Scalars.{is_scalar, Gives}
use Rattle.elab_fits.specs.Objects.{AllFit}
use Rattle.elab_fits.proofs.Equal.{typ_refl}
use Rattle.elab_fits.proofs.Nodes.{both, node_fits, of_value, value_kid}
use Rattle.elab_fits.proofs.Steps.{checked}
use Rattle.elab_fits.proofs.Arithmetic.{value_of}
use Rattle.elab_fits.proofs.Values.{given_typ, given_cat}
use Rattle.elab_fits_forms.specs.Meaning.{Proper, ProperOperand}
use Rattle.elab_fits_forms.specs.Context.{Holds}
use Rattle.elab_fits_forms.specs.Forms.{MadeStands, ProperOperands}
use Rattle.elab_fits_forms.proofs.Dropped.{operand_is, nothing_proper}

-- Kids

scalar_kid : (s : Setting) (p : Position) (e : Tree) → fits s p Scalar e ≡ true → is_kid (kind_of e) ≡ true
scalar_kid s p (node (Block b) t cat at kids) h = absurd cc
scalar_kid s p (node kind t cat at kids) h = refl

scalar_kids : (s : Setting) (p : Position) (i : ℕ) (fs : Trees) → AllFit s Scalar fs → p.full ≡ true
    → kids_fit s p (and_any (Value ∷ []) Scalar) (suc i) fs ≡ true
scalar_kids s p i none h full = refl
scalar_kids s p i (more f fs) h full = both (both (scalar_kid s p f (h.0 p full)) (h.0 p full)) (scalar_kids s p (suc i) fs h.1 full)

-- what is thrown, and its scalars
pub throw_fits : (s : Setting) (at : At) (f : Form) (e : Tree) (fs : Trees) → FitsAs s Value e → is_thrown (plain f) (head_of e) ≡ true → AllFit s Scalar fs
    → are_scalars s.classes (plain f) (heads_of fs) ≡ true → FitsAs s Value (node Throw (plain f) Prvalue at (more e fs))
throw_fits s at f e fs h k g r = λ p full. node_fits s p Value Throw (plain f) Prvalue at (more e fs) (and_any (Value ∷ []) Scalar) refl refl refl refl
    (both (both (both refl (typ_refl (plain f))) k) r) refl (le-leb 1 (suc (length (heads_of fs))) (omega arith)) refl
    (both (both (value_kid s p e (h p full)) (h p full)) (scalar_kids s p 0 fs g full))

-- Scalars (C++14 15.1, profile)

one_field : (s : Setting) (k : IntKind) (at : At) → AllFit s Scalar (one (node (Field 0 k) (plain void) Prvalue at none))
one_field s k at = ((λ p full. refl), tt)

number_scalars : (classes : List Class) (k : IntKind) (at : At)
    → are_scalars classes (plain (int k)) (heads_of (one (node (Field 0 k) (plain void) Prvalue at none))) ≡ true
number_scalars classes BoolKind at = refl
number_scalars classes Char at = refl
number_scalars classes SChar at = refl
number_scalars classes UChar at = refl
number_scalars classes Short at = refl
number_scalars classes UShort at = refl
number_scalars classes Int at = refl
number_scalars classes UInt at = refl
number_scalars classes Long at = refl
number_scalars classes ULong at = refl
number_scalars classes LLong at = refl
number_scalars classes ULLong at = refl

scalar_thrown : (s : Setting) (f : Form) (e : Tree) → is_thrown_scalar f ≡ true → Gives s f e → is_thrown (plain f) (head_of e) ≡ true
scalar_thrown s (int k) e h g = both (ap is_prvalue (given_cat s (int k) e g)) (ap (λ (t : Typ). typ_eq (plain (int k)) t) (given_typ s (int k) e g)
    ∙ typ_refl (plain (int k)))
scalar_thrown s (enum n c) e h g = both (ap is_prvalue (given_cat s (enum n c) e g))
    (ap (λ (t : Typ). typ_eq (plain (enum n c)) t) (given_typ s (enum n c) e g) ∙ typ_refl (plain (enum n c)))
scalar_thrown s f e h g = absurd cc

scalar_throws : (s : Setting) (c : Ctx) (at : At) (f : Form) (e : Tree) → is_thrown_scalar f ≡ true → Gives s f e
    → FitsAs s Value (throw_node c at (plain f) e)
scalar_throws s c at (int k) e h g = throw_fits s at (int k) e (one (node (Field 0 k) (plain void) Prvalue at none)) g.fits
    (scalar_thrown s (int k) e h g) (one_field s k at) (number_scalars s.classes k at)
scalar_throws s c at (enum n b) e h g = throw_fits s at (enum n b) e (one (node (Field 0 Int) (plain void) Prvalue at none)) g.fits
    (scalar_thrown s (enum n b) e h g) (one_field s Int at) refl
scalar_throws s c at f e h g = absurd cc

pub scalar_throw_fits : (s : Setting) (c : Ctx) (at : At) (f : Form) (e : Tree) → is_thrown_scalar f ≡ true → Gives s f e
    → FitsAs s Value (throw_node c at (typ_in e) e)
scalar_throw_fits s c at f e h g = subst (λ (t : Typ). FitsAs s Value (throw_node c at t e)) (sym g.typed) (scalar_throws s c at f e h g)

pub rethrow_fits : (s : Setting) (at : At) → FitsAs s Value (node Rethrow (plain void) Prvalue at none)
rethrow_fits s at = λ p full. node_fits s p Value Rethrow (plain void) Prvalue at none (only []) refl refl refl refl refl refl refl refl refl

pub rethrow_proper : (s : Setting) (c : Ctx) (at : At) → Proper s c (node Rethrow (plain void) Prvalue at none)
rethrow_proper s c at = record {
  stands = of_value s (node Rethrow (plain void) Prvalue at none) refl refl (rethrow_fits s at);
  sound = refl;
  nothing = λ v. refl;
  whole = λ k. absurd cc;
  copied = λ k. absurd cc;
}

thrown_scalar : (f : Form) → is_thrown_scalar f ≡ true → is_scalar f ≡ true
thrown_scalar (int k) h = refl
thrown_scalar (enum n s) h = refl
thrown_scalar f h = absurd cc

-- `throw` (C++14 15.1)

pub no_object_thrown : (s : Setting) (c : Ctx) (w : Work) (at : At) (f : Form) (o : Operand) → is_class_typ (typ f false false) ≡ false → ProperOperand s c o
    → On (λ (m : Made). FitsAs s Value m.tree) (throw_in c w at f o)
no_object_thrown s c w at (class n) o k x = absurd cc
no_object_thrown s c w at (tx_ex t) o k x = absurd cc
no_object_thrown s c w at f o k x = checked (λ (m : Made). FitsAs s Value m.tree) at BadThrow (is_thrown_scalar (form_in (typ_in (value o)))) _
    (λ h. scalar_throw_fits s c at (value_form o) (value o) h (value_of s o (operand_is s c o x) (thrown_scalar (value_form o) h)))

no_class_form : (t : Typ) → is_class_typ t ≡ false → is_class_typ (typ (form_in t) false false) ≡ false
no_class_form (typ f q v) h = h

thrown_made : (s : Setting) (c : Ctx) (at : At) (r : Result Made ElabFault) → On (λ (m : Made). FitsAs s Value m.tree) r
    → On (MadeStands s c) (and_then r (λ (m : Made). Ok (with_tree (without_value at) m)))
thrown_made s c at (Ok m) h = λ r. nothing_proper s c at m.tree h
thrown_made s c at (Err e) h = tt

pub value_throws : (s : Setting) (c : Ctx) (w : Work) (at : At) (os : List Operand) → Holds s c w → ProperOperands s c os
    → ((o : Operand) (rest : List Operand) → os ≡ o ∷ rest → is_class_typ (typ_in o.tree) ≡ false) → On (MadeStands s c) (throw c w at os)
value_throws s c w at [] h x k = λ r. rethrow_proper s c at
value_throws s c w at (o ∷ os) h (ProperOperands.more x xs) k = thrown_made s c at (throw_in c w at (form_in (typ_in o.tree)) o)
    (no_object_thrown s c w at (form_in (typ_in o.tree)) o (no_class_form (typ_in o.tree) (k o os refl)) x)
