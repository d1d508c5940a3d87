-- Casts to scalars and to `void`, and `sizeof`.
use Rattle.std.proofs.Common.{◌≡◌, refl, sym, subst, ℕ, Bool, true, false, not, ◌&&◌, nat_le, [], is_some, Result, Ok, Err}
use Rattle.std.proofs.lemmas.Bool.{and_parts}
use Rattle.std.specs.Prelude.{if◌then◌else◌}
use Rattle.elab_rules.specs.tx_ints.declared.kinds.IntKind.{IntKind}
use Rattle.elab_rules.specs.tx_ints.declared.kinds.IntKind.TheVariants.{Int, ULong}
use Rattle.elab_rules.specs.cpp_types.Typ.{Typ, typ, Form, void, int, enum, null, ptr, ref, array, func, class, closure, tx_ex}
use Rattle.elab_rules.specs.cpp_types.Conversion.{referred}
use Rattle.elab_rules.specs.cpp_types.declared.classes.At.{At}
use Rattle.elab_rules.specs.cpp_types.declared.ranks.Cat.TheVariants.{Prvalue}
use Rattle.elab_rules.specs.cpp_layout.declared.extents.TheConstants.{GREATEST_SIZE}
use Rattle.elab_rules.specs.cpp_tree.declared.faults.ElabFault.{ElabFault}
use Rattle.elab_rules.specs.cpp_tree.declared.faults.ElabFault.TheVariants.{Limit}
use Rattle.elab_rules.specs.cpp_tree.declared.faults.LimitKind.TheVariants.{Size}
use Rattle.elab_rules.specs.cpp_tree.declared.faults.IllRule.TheVariants.{BadInit, BadOperand, Incomplete}
use Rattle.elab_rules.specs.cpp_tree.declared.kinds.TKind.TheVariants.{Literal}
use Rattle.elab_rules.specs.cpp_tree.Trees.{Tree, node, none, typ_in}
use Rattle.elab_rules.specs.cpp_tree.Notation.{plain}
use Rattle.elab_rules.specs.cpp_tree.Typing.{passes, form_in, is_void, is_class_typ, is_reference, unqualified, kind_in, is_word_of}
use Rattle.elab_rules.specs.cpp_tree.Rows.{Setting}
use Rattle.elab_rules.specs.elab_ctx.Ctx.{Ctx, Work}
use Rattle.elab_rules.specs.elab_ctx.Steps.{and_then, check, Operand, Made}
use Rattle.elab_rules.specs.Values.{number, valued, converted}
use Rattle.elab_rules.specs.Objects.{size_of}
use Rattle.elab_rules.specs.Initialising.{initial}
use Rattle.elab_rules.specs.Operators.{value, value_form, is_function, measurable, is_sized, within_greatest, dropped}
use Rattle.elab_rules.specs.Types.{is_bounded}
use Rattle.elab_rules.specs.Casts.{is_numeric, scalar_cast, cast_in, cast, functional, size_literal}
use Rattle.elab_fits.specs.Standing.{Reaches, On}
use Rattle.elab_fits.specs.Scalars.{is_scalar, IsZero}
use Rattle.elab_fits.proofs.Steps.{checked, either}
use Rattle.elab_fits.proofs.Numbers.{zero_word}
use Rattle.elab_fits.proofs.Sizes.{small_word}
use Rattle.elab_fits.proofs.Values.{number_gives, value_stands, converted_gives}
use Rattle.elab_fits.proofs.Initials.{MadeGives, initial_gives}
use Rattle.elab_fits.proofs.Arithmetic.{value_of}
use Rattle.elab_fits_forms.specs.Types.{is_sound, is_sound_form}
use Rattle.elab_fits_forms.specs.Meaning.{Proper, ProperOperand}
use Rattle.elab_fits_forms.specs.Context.{Holds}
use Rattle.elab_fits_forms.specs.Forms.{MadeStands}
use Rattle.elab_fits_forms.proofs.Proper.{proper_value}
use Rattle.elab_fits_forms.proofs.Names.{word_gives}
use Rattle.elab_fits_forms.proofs.Dropped.{operand_is, dropped_value, nothing_proper}

-- `sizeof` (C++14 5.3.3)

size_proper : (s : Setting) (c : Ctx) (at : At) (n : ℕ) → nat_le n GREATEST_SIZE ≡ true → Proper s c (number ULong n at)
size_proper s c at n h = proper_value s c (int ULong) (number ULong n at) (number_gives s ULong n at (small_word n h)) refl

measured : (s : Setting) (c : Ctx) (p at : At) (t : Typ) → On (Proper s c) (and_then (measurable c p t) (λ z. Ok (number ULong (size_of c.classes t) at)))
measured s c p at t = by (is_sized c t)
  where
    small : (b : Bool) → nat_le (size_of c.classes t) GREATEST_SIZE ≡ b
        → On (Proper s c) (and_then (if b then Ok true else Err (Limit p Size)) (λ z. Ok (number ULong (size_of c.classes t) at)))
    small true h = size_proper s c at (size_of c.classes t) h
    small false h = tt

    by : (b : Bool) → On (Proper s c) (and_then (and_then (check p Incomplete b) (λ y. within_greatest c p t)) (λ z. Ok (number ULong (size_of c.classes t) at)))
    by true = small (nat_le (size_of c.classes t) GREATEST_SIZE) refl
    by false = tt

pub sizes_stand : (s : Setting) (c : Ctx) (at operand : At) (t : Typ) → On (Proper s c) (size_literal c at operand t)
sizes_stand s c at operand t = checked (Proper s c) at BadOperand (not (is_function (referred t)) && not (is_void (referred t))) _
    (λ y. checked (Proper s c) at Incomplete (is_bounded (referred t)) _ (λ x. measured s c at at (referred t)))

-- Casts to scalars (C++14 5.2.9, 5.4)

numeric_scalar : (f : Form) → is_numeric f ≡ true → is_scalar f ≡ true
numeric_scalar (int k) h = refl
numeric_scalar (enum n s) h = refl
numeric_scalar f h = absurd cc

-- the value of a literal 0 is that literal
zero_value : (at : At) (e : Tree) → IsZero e → IsZero (valued at e)
zero_value at e z = subst (λ (x : Tree). IsZero (valued at x)) (sym z.is) (record { kind = z.kind; place = z.place; is = refl })

scalar_stands : (s : Setting) (c : Ctx) (w : Work) (at : At) (f : Form) (q v : Bool) (o : Operand) → is_scalar f ≡ true → is_sound_form c.classes f ≡ true
    → ProperOperand s c o → On (MadeStands s c) (scalar_cast c w at (typ f q v) o)
scalar_stands s c w at f q v o k i p = either (MadeStands s c) (is_numeric (form_in (typ_in (value o))) && is_numeric f) _ _
    (λ h r. proper_value s c f (converted at (typ f q v) (value o))
    (converted_gives s at (value_form o) f q v (value o)
    (value_of s o (operand_is s c o p) (numeric_scalar (value_form o) (and_parts (is_numeric (value_form o)) (is_numeric f) h).0)) k) i)
    (λ h. by (initial c w (typ f false false) (record { tree = value o; at = at; zero = o.zero }))
    (initial_gives s c w f false false (record { tree = value o; at = at; zero = o.zero })
    (record { stands = value_stands s o.at o.tree p.proper.stands; zero = λ z. zero_value o.at o.tree (p.zero z) }) k))
  where
    by : (r : Result Made ElabFault) → On (MadeGives s f) r → On (MadeStands s c) r
    by (Ok m) g = λ x. proper_value s c f m.tree g i
    by (Err e) g = tt

pub void_stands : (s : Setting) (c : Ctx) (w : Work) (at : At) (t : Typ) (o : Operand) → Holds s c w → ProperOperand s c o
    → On (MadeStands s c) (cast_in c w at t void o)
void_stands s c w at t o h p = λ r. nothing_proper s c at (dropped c w o).tree (dropped_value s c w w o h p r)

-- neither a class nor a reference
pub value_casts : (s : Setting) (c : Ctx) (w : Work) (at : At) (t : Typ) (o : Operand) → Holds s c w → is_sound c.classes t ≡ true
    → is_class_typ t ≡ false → is_reference t ≡ false → ProperOperand s c o → On (MadeStands s c) (cast c w at t o)
value_casts s c w at (typ void q v) o h i k n p = void_stands s c w at (typ void q v) o h p
value_casts s c w at (typ (ref u) q v) o h i k n p = absurd cc
value_casts s c w at (typ (func g) q v) o h i k n p = tt
value_casts s c w at (typ (array u m) q v) o h i k n p = tt
value_casts s c w at (typ (int j) q v) o h i k n p = scalar_stands s c w at (int j) q v o refl i p
value_casts s c w at (typ (enum m e) q v) o h i k n p = scalar_stands s c w at (enum m e) q v o refl i p
value_casts s c w at (typ null q v) o h i k n p = scalar_stands s c w at null q v o refl i p
value_casts s c w at (typ (ptr u) q v) o h i k n p = scalar_stands s c w at (ptr u) q v o refl i p
value_casts s c w at (typ (class m) q v) o h i k n p = absurd cc
value_casts s c w at (typ (closure m) q v) o h i k n p = absurd cc
value_casts s c w at (typ (tx_ex u) q v) o h i k n p = absurd cc

-- Values of nothing (C++14 5.2.3 p2)

zero_words : (f : Form) → is_some (kind_in f) ≡ true → passes (λ (k : IntKind). is_word_of k 0) (kind_in f) ≡ true
zero_words (int k) h = zero_word k
zero_words (enum n s) h = zero_word Int
zero_words null h = zero_word ULong
zero_words (ptr t) h = zero_word ULong
zero_words (ref t) h = zero_word ULong
zero_words f h = absurd cc

plain_scalar : (f : Form) (q v : Bool) → is_some (kind_in f) ≡ true → is_reference (typ f q v) ≡ false → is_scalar f ≡ true
plain_scalar (int k) q v h n = refl
plain_scalar (enum m s) q v h n = refl
plain_scalar null q v h n = refl
plain_scalar (ptr t) q v h n = refl
plain_scalar (ref t) q v h n = absurd cc
plain_scalar f q v h n = absurd cc

zero_stands : (s : Setting) (c : Ctx) (at : At) (t : Typ) → is_sound c.classes t ≡ true → is_some (kind_in (form_in t)) ≡ true → is_reference t ≡ false
    → Proper s c (node (Literal 0) (unqualified t) Prvalue at none)
zero_stands s c at (typ f q v) i k n = proper_value s c f (node (Literal 0) (plain f) Prvalue at none)
    (word_gives s f 0 at (plain_scalar f q v k n) (zero_words f k)) i

pub from_none : (s : Setting) (c : Ctx) (w : Work) (at : At) (t : Typ) → is_sound c.classes t ≡ true → is_class_typ t ≡ false
    → On (MadeStands s c) (functional c w at t [])
from_none s c w at t i k = rw k (either (MadeStands s c) (is_void t) _ _
    (λ v r. nothing_proper s c at (number ULong 0 at) (number_gives s ULong 0 at (zero_word ULong)).fits)
    (λ v. checked (MadeStands s c) at BadInit (is_some (kind_in (form_in t)) && not (is_reference t)) _ (λ x. by x)))
  where
    is_not : (a b : Bool) → (a && not b) ≡ true → b ≡ false
    is_not a true h = absurd (by_false a h)
      where
        by_false : (a : Bool) → (a && false) ≡ true → ⊥
        by_false true h = absurd cc
        by_false false h = absurd cc
    is_not a false h = refl

    by : (is_some (kind_in (form_in t)) && not (is_reference t)) ≡ true
        → Reaches s w → Proper s c (node (Literal 0) (unqualified t) Prvalue at none)
    by x r = zero_stands s c at t i (and_parts (is_some (kind_in (form_in t))) (not (is_reference t)) x).0
        (is_not (is_some (kind_in (form_in t))) (is_reference t) x)
