-- Operators give expressions of sound types.
use Rattle.std.proofs.Common.{◌≡◌, refl, sym, ap, ◌∙◌, ℕ, Bool, true, false, ◌&&◌, List, Option, Some, None, is_some, Result, Ok, Err}
use Rattle.std.specs.Prelude.{if◌then◌else◌}
use Rattle.elab_rules.specs.tx_ints.declared.kinds.IntKind.{IntKind}
use Rattle.elab_rules.specs.tx_ints.declared.kinds.IntKind.TheVariants.{Bool as BoolKind, Int}
use Rattle.elab_rules.specs.tx_ints.declared.kinds.BinOp.{BinOp}
use Rattle.elab_rules.specs.tx_ints.declared.kinds.BinOp.TheVariants.{Add, Sub}
use Rattle.elab_rules.specs.tx_ints.Integers.{is_shift, promote_of, usual_of}
use Rattle.elab_rules.specs.cpp_types.Typ.{Typ, typ, Form, int, enum, ptr, ref}
use Rattle.elab_rules.specs.cpp_types.Equal.{typ_eq, form_eq}
use Rattle.elab_rules.specs.cpp_types.Conversion.{is_lvalue}
use Rattle.elab_rules.specs.cpp_types.declared.classes.At.{At}
use Rattle.elab_rules.specs.cpp_types.declared.ranks.Cat.{Cat}
use Rattle.elab_rules.specs.cpp_types.declared.ranks.Cat.TheVariants.{Lvalue, Prvalue}
use Rattle.elab_rules.specs.cpp_tree.declared.faults.ElabFault.{ElabFault}
use Rattle.elab_rules.specs.cpp_tree.declared.faults.IllRule.TheVariants.{BadOperand, NotLvalue}
use Rattle.elab_rules.specs.cpp_tree.Trees.{Tree, typ_in, cat_of}
use Rattle.elab_rules.specs.cpp_tree.Typing.{form_in, is_void, is_reference, unqualified}
use Rattle.elab_rules.specs.cpp_tree.Rows.{Setting}
use Rattle.elab_rules.specs.elab_ctx.Ctx.{Ctx, Work}
use Rattle.elab_rules.specs.elab_ctx.Steps.{and_then, check, expect, Operand}
use Rattle.elab_rules.specs.Values.{retyped}
use Rattle.elab_rules.specs.Operators.{value, value_form, arithmetic, as_kind, pointed, is_null, is_comparison, compared, is_sum, arithmetic_of}
use Rattle.elab_rules.specs.Operators.{moved, movable, sum_of, comparison_by, comparison_in, binary, logical, negation, minus}
use Rattle.elab_rules.specs.Operators.{complement, plus, indirection, address_of, subscript, target, updated, compound_numbers}
use Rattle.elab_rules.specs.Operators.{compound_in, compound}
use Rattle.elab_fits.specs.Standing.{IsExpressionType, Stands, On}
use Rattle.elab_fits.specs.Scalars.{Gives, IsValue}
use Rattle.elab_fits.proofs.Steps.{skip, checked, expected, either}
use Rattle.elab_fits.proofs.Arithmetic.{as_kind_gives, pointed_form, pointer_of, add_gives, binary_gives}
use Rattle.elab_fits.proofs.Unary.{logical_gives, negation_gives, minus_gives, complement_gives, address_stands, lvalue_is}
use Rattle.elab_fits.proofs.Assigning.{target_is, compound_stands}
use Rattle.elab_fits_forms.specs.Types.{is_sound, is_sound_form, is_target}
use Rattle.elab_fits_forms.specs.Meaning.{Proper, ProperOperand}
use Rattle.elab_fits_forms.proofs.Types.{sound_target}
use Rattle.elab_fits_forms.proofs.Proper.{proper_lvalue, proper_value, proper_retyped, proper_valued}
use Rattle.elab_fits_forms.proofs.Dropped.{operand_is}
use Rattle.elab_fits_forms.proofs.Members.{pointer_word}
use Rattle.elab_fits_forms.proofs.Choices.{HasSound, value_sound, both_known}

pub unqualified_sound : (c : Ctx) (t : Typ) → is_sound c.classes t ≡ true → is_sound c.classes (unqualified t) ≡ true
unqualified_sound c (typ f q v) h = h

-- what an lvalue is of can be referred to
pub lvalue_target : (s : Setting) (c : Ctx) (e : Tree) → Proper s c e → cat_of e ≡ Lvalue → is_target c.classes (typ_in e) ≡ true
lvalue_target s c e p l = sound_target c.classes (typ_in e) p.sound (no_void (is_void (typ_in e)) refl) (no_reference (typ_in e) (cat_of e) p.stands.typed)
  where
    apart : Lvalue ≡ Prvalue → ⊥
    apart h = cc

    no_void : (b : Bool) → is_void (typ_in e) ≡ b → is_void (typ_in e) ≡ false
    no_void true h = absurd (apart (sym l ∙ p.nothing h))
    no_void false h = h

    no_reference : (t : Typ) (cat : Cat) → IsExpressionType t cat → is_reference t ≡ false
    no_reference (typ (ref t) q v) cat h = absurd h
    no_reference (typ f q v) cat h = refl

-- Operators of two operands

arithmetic_sound : (c : Ctx) (op : BinOp) (at : At) (i j : Option IntKind) (a b : Operand) → On (HasSound c) (arithmetic_of op at i j a b)
arithmetic_sound c op at (Some i) (Some j) a b = either (HasSound c) (is_shift op) _ _ (λ n. refl) (λ n. refl)
arithmetic_sound c op at (Some i) None a b = tt
arithmetic_sound c op at None j a b = tt

moved_sound : (c : Ctx) (op : BinOp) (at : At) (t : Typ) (p n : Operand) → is_sound c.classes (typ_in (value p)) ≡ true
    → On (HasSound c) (and_then (check at BadOperand (is_some (arithmetic (value_form n))))
    (λ y. and_then (movable c at p.at t) (λ z. Ok (moved c op at t p n))))
moved_sound c op at t p n h = checked (HasSound c) at BadOperand (is_some (arithmetic (value_form n))) _
    (λ y. skip (HasSound c) (movable c at p.at t) _ (λ z. unqualified_sound c (typ_in (value p)) h))

pub add_sound : (c : Ctx) (at : At) (t u : Option Typ) (a b : Operand) → is_sound c.classes (typ_in (value a)) ≡ true
    → is_sound c.classes (typ_in (value b)) ≡ true → On (HasSound c) (sum_of c Add at t u a b)
add_sound c at (Some t) None a b h k = moved_sound c Add at t a b h
add_sound c at None (Some u) a b h k = checked (HasSound c) at BadOperand (is_some (arithmetic (value_form a))) _
    (λ y. skip (HasSound c) (movable c at b.at u) _ (λ z. unqualified_sound c (typ_in (value b)) k))
add_sound c at (Some t) (Some u) a b h k = arithmetic_sound c Add at (arithmetic (value_form a)) (arithmetic (value_form b)) a b
add_sound c at None None a b h k = arithmetic_sound c Add at (arithmetic (value_form a)) (arithmetic (value_form b)) a b

subtract_sound : (c : Ctx) (at : At) (t u : Option Typ) (a b : Operand) → is_sound c.classes (typ_in (value a)) ≡ true
    → On (HasSound c) (sum_of c Sub at t u a b)
subtract_sound c at (Some t) (Some u) a b h = checked (HasSound c) at BadOperand (typ_eq t u) _ (λ y. skip (HasSound c) (movable c at a.at t) _ (λ z. refl))
subtract_sound c at (Some t) None a b h = moved_sound c Sub at t a b h
subtract_sound c at None (Some u) a b h = arithmetic_sound c Sub at (arithmetic (value_form a)) (arithmetic (value_form b)) a b
subtract_sound c at None None a b h = arithmetic_sound c Sub at (arithmetic (value_form a)) (arithmetic (value_form b)) a b

sum_sound : (c : Ctx) (op : BinOp) (at : At) (t u : Option Typ) (a b : Operand) → is_sum op ≡ true → is_sound c.classes (typ_in (value a)) ≡ true
    → is_sound c.classes (typ_in (value b)) ≡ true → On (HasSound c) (sum_of c op at t u a b)
sum_sound c Add at t u a b n h k = add_sound c at t u a b h k
sum_sound c Sub at t u a b n h k = subtract_sound c at t u a b h
sum_sound c op at t u a b n h k = absurd cc

comparison_sound_by : (c : Ctx) (op : BinOp) (at : At) (i j : Option IntKind) (a b : Operand) → On (HasSound c) (comparison_by op at i j a b)
comparison_sound_by c op at (Some i) (Some j) a b = refl
comparison_sound_by c op at (Some i) None a b = tt
comparison_sound_by c op at None j a b = tt

enum_sound : (c : Ctx) (op : BinOp) (at : At) (m : List ℕ) (g : Form) (a b : Operand)
    → On (HasSound c) (and_then (check at BadOperand (form_eq (enum m true) g)) (λ y. Ok (compared op Int at (value a) (value b))))
enum_sound c op at m g a b = checked (HasSound c) at BadOperand (form_eq (enum m true) g) _ (λ y. refl)

comparison_sound : (c : Ctx) (op : BinOp) (at : At) (f g : Form) (a b : Operand) → On (HasSound c) (comparison_in op at f g a b)
comparison_sound c op at (ptr t) (ptr u) a b = checked (HasSound c) at BadOperand (typ_eq t u) _ (λ y. refl)
comparison_sound c op at (ptr t) g a b = checked (HasSound c) at BadOperand (is_null b) _ (λ y. refl)
comparison_sound c op at f (ptr t) a b = checked (HasSound c) at BadOperand (is_null a) _ (λ y. refl)
comparison_sound c op at (enum m true) g a b = enum_sound c op at m g a b
comparison_sound c op at f g a b = comparison_sound_by c op at (arithmetic f) (arithmetic g) a b

binary_sound : (c : Ctx) (op : BinOp) (at : At) (a b : Operand) → is_sound c.classes (typ_in (value a)) ≡ true
    → is_sound c.classes (typ_in (value b)) ≡ true → On (HasSound c) (binary c op at a b)
binary_sound c op at a b h k = either (HasSound c) (is_comparison op) _ _ (λ n. comparison_sound c op at (value_form a) (value_form b) a b)
    (λ n. either (HasSound c) (is_sum op) _ _ (λ m. sum_sound c op at (pointed (value_form a)) (pointed (value_form b)) a b m h k)
    (λ m. arithmetic_sound c op at (arithmetic (value_form a)) (arithmetic (value_form b)) a b))

pub value_typ_sound : (s : Setting) (c : Ctx) (o : Operand) → ProperOperand s c o → is_sound c.classes (typ_in (value o)) ≡ true
value_typ_sound s c o x = (proper_valued s c o.at o.tree x.proper).sound

pub binary_proper : (s : Setting) (c : Ctx) (op : BinOp) (at : At) (a b : Operand) → ProperOperand s c a → ProperOperand s c b
    → On (Proper s c) (binary c op at a b)
binary_proper s c op at a b x y = both_known s c (binary c op at a b) (binary_gives s c op at a b (operand_is s c a x) (operand_is s c b y))
    (binary_sound c op at a b (value_typ_sound s c a x) (value_typ_sound s c b y))

-- Truth

truth_proper : (s : Setting) (c : Ctx) (r : Result Tree ElabFault) → On (Gives s (int BoolKind)) r → On (Proper s c) r
truth_proper s c (Ok e) g = proper_value s c (int BoolKind) e g refl
truth_proper s c (Err e) g = tt

pub logical_proper : (s : Setting) (c : Ctx) (w : Work) (is_and : Bool) (at : At) (a b : Operand) → ProperOperand s c a → ProperOperand s c b
    → On (Proper s c) (logical c w is_and at a b)
logical_proper s c w is_and at a b x y = truth_proper s c (logical c w is_and at a b)
    (logical_gives s c w is_and at a b (operand_is s c a x) (operand_is s c b y))

pub negation_proper : (s : Setting) (c : Ctx) (w : Work) (at : At) (a : Operand) → ProperOperand s c a → On (Proper s c) (negation c w at a)
negation_proper s c w at a x = truth_proper s c (negation c w at a) (negation_gives s c w at a (operand_is s c a x))

-- Operators of one operand

pub minus_proper : (s : Setting) (c : Ctx) (at : At) (a : Operand) → ProperOperand s c a → On (Proper s c) (minus at a)
minus_proper s c at a x = both_known s c (minus at a) (minus_gives s at a (operand_is s c a x))
    (expected (HasSound c) at BadOperand (arithmetic (value_form a)) _ (λ i e. refl))

pub complement_proper : (s : Setting) (c : Ctx) (at : At) (a : Operand) → ProperOperand s c a → On (Proper s c) (complement at a)
complement_proper s c at a x = both_known s c (complement at a) (complement_gives s at a (operand_is s c a x))
    (expected (HasSound c) at BadOperand (arithmetic (value_form a)) _ (λ i e. refl))

pub plus_proper : (s : Setting) (c : Ctx) (at : At) (a : Operand) → ProperOperand s c a → On (Proper s c) (plus at a)
plus_proper s c at a x = expected (Proper s c) at BadOperand (arithmetic (value_form a)) _
    (λ i e. proper_value s c (int (promote_of i)) (as_kind (promote_of i) a) (as_kind_gives s a i (promote_of i) (operand_is s c a x) e) refl)

pub address_proper : (s : Setting) (c : Ctx) (at : At) (a : Operand) → ProperOperand s c a → On (Proper s c) (address_of at a)
address_proper s c at a x = both_known s c (address_of at a) (address_stands s at a (operand_is s c a x))
    (checked (HasSound c) at NotLvalue (is_lvalue (cat_of a.tree)) _ (λ l. lvalue_target s c a.tree x.proper (lvalue_is (cat_of a.tree) l)))

form_target : (c : Ctx) (f : Form) (t : Typ) → is_sound_form c.classes f ≡ true → f ≡ ptr t → is_target c.classes t ≡ true
form_target c f t h e = sym (ap (λ (z : Form). is_sound_form c.classes z) e) ∙ h

pub indirection_proper : (s : Setting) (c : Ctx) (at : At) (a : Operand) → ProperOperand s c a → On (Proper s c) (indirection at a)
indirection_proper s c at a x = expected (Proper s c) at BadOperand (pointed (value_form a)) _
    (λ t e. by t (pointed_form (value_form a) t e))
  where
    by : (t : Typ) → value_form a ≡ ptr t → Proper s c (retyped at t Lvalue (value a))
    by t f = proper_retyped s c t at (value a) (pointer_word (typ_in (value a)) t (cat_of (value a)) f) (pointer_of s a t (operand_is s c a x) f).fits
        (form_target c (value_form a) t (value_sound s c a x) f)

behind_proper : (s : Setting) (c : Ctx) (at : At) (e : Tree) → IsValue s e → is_sound c.classes (typ_in e) ≡ true
    → On (Proper s c) (and_then (expect at BadOperand (pointed (form_in (typ_in e)))) (λ t. Ok (retyped at t Lvalue e)))
behind_proper s c at e g h = expected (Proper s c) at BadOperand (pointed (form_in (typ_in e))) _
    (λ t k. by t (pointed_form (form_in (typ_in e)) t k))
  where
    typ_form : (t : Typ) → is_sound c.classes t ≡ true → is_sound_form c.classes (form_in t) ≡ true
    typ_form (typ f q v) i = i

    by : (t : Typ) → form_in (typ_in e) ≡ ptr t → Proper s c (retyped at t Lvalue e)
    by t f = proper_retyped s c t at e (pointer_word (typ_in e) t (cat_of e) f) g.gives.fits
        (form_target c (form_in (typ_in e)) t (typ_form (typ_in e) h) f)

pub subscript_proper : (s : Setting) (c : Ctx) (at : At) (a b : Operand) → ProperOperand s c a → ProperOperand s c b → On (Proper s c) (subscript c at a b)
subscript_proper s c at a b x y = by (sum_of c Add at (pointed (value_form a)) (pointed (value_form b)) a b)
    (add_gives s c at a b (pointed (value_form a)) (pointed (value_form b)) (operand_is s c a x) (operand_is s c b y) refl refl)
    (add_sound c at (pointed (value_form a)) (pointed (value_form b)) a b (value_typ_sound s c a x) (value_typ_sound s c b y))
  where
    by : (r : Result Tree ElabFault) → On (IsValue s) r → On (HasSound c) r
        → On (Proper s c) (and_then r (λ (e : Tree). and_then (expect at BadOperand (pointed (form_in (typ_in e)))) (λ t. Ok (retyped at t Lvalue e))))
    by (Ok e) g h = behind_proper s c at e g h
    by (Err f) g h = tt

-- Assignments, increments and decrements

-- the object that was changed
abbrev pub IsTarget : Operand → Tree → Type 0
IsTarget a e = (typ_in e ≡ typ_in a.tree) × (cat_of e ≡ Lvalue)

changed_proper : (s : Setting) (c : Ctx) (a : Operand) (e : Tree) → ProperOperand s c a → cat_of a.tree ≡ Lvalue → Stands s e → IsTarget a e → Proper s c e
changed_proper s c a e x l h k = proper_lvalue s c e h k.1 (ap (λ (t : Typ). is_target c.classes t) k.0 ∙ lvalue_target s c a.tree x.proper l)

pub changed_known : (s : Setting) (c : Ctx) (a : Operand) (r : Result Tree ElabFault) → ProperOperand s c a → cat_of a.tree ≡ Lvalue → On (Stands s) r
    → On (IsTarget a) r → On (Proper s c) r
changed_known s c a (Ok e) x l h k = changed_proper s c a e x l h k
changed_known s c a (Err e) x l h k = tt

numbers_target : (op : BinOp) (at : At) (j k : IntKind) (a b : Operand) → IsTarget a (compound_numbers op at j k a b)
numbers_target op at j k a b = by (is_shift op)
  where
    by : (x : Bool) → IsTarget a (if x then updated op j (promote_of j) false at a (as_kind (promote_of k) b) else updated op j
        (usual_of j k) false at a (as_kind (usual_of j k) b))
    by true = (refl, refl)
    by false = (refl, refl)

compound_target : (c : Ctx) (op : BinOp) (at : At) (f : Form) (a b : Operand) → On (IsTarget a) (compound_in c op at f a b)
compound_target c op at (ptr t) a b = checked (IsTarget a) at BadOperand (is_sum op && is_some (arithmetic (value_form b))) _
    (λ n. skip (IsTarget a) (movable c at a.at t) _ (λ z. (refl, refl)))
compound_target c op at (int j) a b = expected (IsTarget a) at BadOperand (arithmetic (value_form b)) _ (λ k e. numbers_target op at j k a b)
compound_target c op at f a b = tt

-- behind the test of what is changed
pub known_target : {A : Type 0} (P : A → Type 0) (at : At) (a : Operand) (f : Bool → Result A ElabFault)
    → (cat_of a.tree ≡ Lvalue → On P (and_then (target at a) f)) → On P (and_then (target at a) f)
known_target {A} P at a f h = by (target at a) (target_is at a) h
  where
    by : (r : Result Bool ElabFault) → On (λ (b : Bool). cat_of a.tree ≡ Lvalue) r → (cat_of a.tree ≡ Lvalue → On P (and_then r f)) → On P (and_then r f)
    by (Ok b) l k = k l
    by (Err e) l k = tt

pub compound_proper : (s : Setting) (c : Ctx) (op : BinOp) (at : At) (a b : Operand) → ProperOperand s c a → ProperOperand s c b
    → On (Proper s c) (compound c op at a b)
compound_proper s c op at a b x y = known_target (Proper s c) at a (λ z. compound_in c op at (form_in (typ_in a.tree)) a b)
    (λ l. changed_known s c a (compound c op at a b) x l (compound_stands s c op at a b (operand_is s c a x) (operand_is s c b y))
    (skip (IsTarget a) (target at a) _ (λ z. compound_target c op at (form_in (typ_in a.tree)) a b)))
