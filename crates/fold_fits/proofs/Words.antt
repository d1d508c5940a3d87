-- The word that a node is folded to is one of its type.
use Rattle.std.proofs.Common.{◌≡◌, refl, ap, sym, ◌∙◌, ℕ, eq-eqb, Bool, true, false, ◌&&◌, Option, Some, None}
use Rattle.std.proofs.Common.{cond, Result, Ok, Err}
use Rattle.std.specs.Prelude.{ℤ, pos}
use Rattle.std.proofs.lemmas.Bool.{and_parts}
use Rattle.tx_ints.specs.declared.kinds.IntKind.{IntKind}
use Rattle.tx_ints.specs.declared.kinds.IntKind.TheVariants.{Bool as BoolKind}
use Rattle.tx_ints.specs.declared.kinds.BinOp.{BinOp}
use Rattle.tx_ints.specs.declared.kinds.BinOp.TheVariants.{Lt, Gt, Le, Ge, Eq, Ne}
use Rattle.tx_ints.specs.declared.kinds.ArithTrap.{ArithTrap}
use Rattle.tx_ints.specs.Integers.{InRange, apply_of, truth, reduced}
use Rattle.tx_ints.specs.Words.{word_of, value_of_word}
use Rattle.tx_ints.proofs.ConversionLaws.{converts_into_range}
use Rattle.tx_ints.proofs.OperatorLaws.{applies_into_range}
use Rattle.tx_ints.proofs.Values.{truth_in, reduced_kept}
use Rattle.tx_ints.proofs.WordLaws.{word_back}
use Rattle.cpp_tree.specs.cpp_types.Typ.{Typ, typ, int}
use Rattle.cpp_tree.specs.cpp_types.Equal.{typ_eq}
use Rattle.cpp_tree.specs.cpp_types.declared.ranks.Cat.{Cat}
use Rattle.cpp_tree.specs.cpp_types.declared.ranks.Cat.TheVariants.{Lvalue, Prvalue}
use Rattle.cpp_tree.specs.Typing.{is_word_of, is_scalar_value, is_prvalue, scalar_of, passes, kind_in, form_in}
use Rattle.cpp_tree.specs.Rows.{is_comparison}
use Rattle.src_mean.specs.Source.{converted, applied}
use Rattle.tree_fold.specs.declared.words.Operands.{Operands}
use Rattle.tree_fold.specs.Constants.{is_integer, value_word, operator_word, of_integer}
use Rattle.tree_fold.proofs.Types.{kind_same, typ_same}

-- words of numbers

word_in : (k : IntKind) (z : ℤ) → InRange k z → is_word_of k (word_of z) ≡ true
word_in k z r = let e = word_back k z r in eq-eqb (word_of (value_of_word k (word_of z))) (word_of z) (ap word_of e)

pub converted_word : (k : IntKind) (u : ℕ) → is_word_of k (converted k u) ≡ true
converted_word k u = word_in k (value_of_word k u) (converts_into_range k (pos u))

value_known : (r : Result ℤ ArithTrap) (w : ℕ) → value_word r ≡ Some w → (z : ℤ) × (r ≡ Ok z) × (word_of z ≡ w)
value_known (Ok z) w e = (z, refl, cc)
value_known (Err trap) w e = absurd cc

pub applied_word : (op : BinOp) (k : IntKind) (a b w : ℕ) → value_word (applied op k a b) ≡ Some w → is_word_of k w ≡ true
applied_word op k a b w e =
    let r = value_known (applied op k a b) w e in
    ap (is_word_of k) (sym r.2) ∙ word_in k r.0 (applies_into_range op k _ _ r.0 r.1)

-- a comparison gives 1 or 0
truth_word : (k : IntKind) (t : Bool) (z : ℤ) → ◌≡◌ {A = Result ℤ ArithTrap} (Ok (reduced k (truth t))) (Ok z) → is_word_of BoolKind (word_of z) ≡ true
truth_word k t z e =
    let f : reduced k (truth t) ≡ z = cc in
    let g : z ≡ truth t = sym f ∙ reduced_kept k (truth t) (truth_in k t) in
    ap (λ (x : ℤ). is_word_of BoolKind (word_of x)) g ∙ word_in BoolKind (truth t) (truth_in BoolKind t)

compared : (op : BinOp) (k : IntKind) (a b z : ℤ) → is_comparison op ≡ true → apply_of op k a b ≡ Ok z → is_word_of BoolKind (word_of z) ≡ true
unfolding apply_of
compared Lt k a b z c e = truth_word k _ z e
compared Gt k a b z c e = truth_word k _ z e
compared Le k a b z c e = truth_word k _ z e
compared Ge k a b z c e = truth_word k _ z e
compared Eq k a b z c e = truth_word k _ z e
compared Ne k a b z c e = truth_word k _ z e
compared op k a b z c e = absurd cc

pub compared_word : (op : BinOp) (k : IntKind) (a b w : ℕ) → is_comparison op ≡ true → value_word (applied op k a b) ≡ Some w → is_word_of BoolKind w ≡ true
compared_word op k a b w c e =
    let r = value_known (applied op k a b) w e in
    ap (is_word_of BoolKind) (sym r.2) ∙ compared op k _ _ r.0 c r.1

-- the value of an operator
pub operator_known : (op : BinOp) (k : IntKind) (o : Option Operands) (w : ℕ) → operator_word op k o ≡ Some w
    → (x : Operands) × (value_word (applied op k x.left x.right) ≡ Some w)
operator_known op k None w e = absurd cc
operator_known op k (Some x) w e = (x, e)

-- types

-- a literal of this type and word may stand
pub record IsWord (t : Typ) (cat : Cat) (w : ℕ) : Type 0 where
  pub kind : IntKind
  pub typ : t ≡ typ (int kind) false false
  pub prvalue : cat ≡ Prvalue
  pub word : is_word_of kind w ≡ true

pub prvalue_is : (cat : Cat) → is_prvalue cat ≡ true → cat ≡ Prvalue
prvalue_is Prvalue e = refl
prvalue_is Lvalue e = absurd cc

guarded : (b : Bool) (o : Option ℕ) (w : ℕ) → cond b o None ≡ Some w → (b ≡ true) × (o ≡ Some w)
guarded true o w e = (refl, e)
guarded false o w e = absurd cc

pub integer_known : (t : Typ) (cat : Cat) (o : Option ℕ) (w : ℕ) → of_integer t cat o ≡ Some w → (is_integer t ≡ true) × (cat ≡ Prvalue) × (o ≡ Some w)
integer_known t cat o w e =
    let g = guarded (is_integer t && is_prvalue cat) o w e in
    let p = and_parts (is_integer t) (is_prvalue cat) g.0 in
    (p.0, prvalue_is cat p.1, g.1)

-- an integer type of this kind
pub word_typ : (t : Typ) (cat : Cat) (k : IntKind) (w : ℕ) → is_integer t ≡ true → cat ≡ Prvalue → is_scalar_value t ≡ true → scalar_of k t ≡ true
    → is_word_of k w ≡ true → IsWord t cat w
word_typ (typ (int j) false false) cat k w i c s o e = record {
  kind = j;
  typ = refl;
  prvalue = c;
  word = ap (λ z. is_word_of z w) (kind_same j k o) ∙ e;
}
word_typ (typ (int j) true v) cat k w i c s o e = absurd cc
word_typ (typ (int j) false true) cat k w i c s o e = absurd cc
word_typ (typ f d v) cat k w i c s o e = absurd cc

-- that of a literal that fits
pub literal_typ : (t : Typ) (cat : Cat) (w : ℕ) → is_integer t ≡ true → cat ≡ Prvalue → is_scalar_value t ≡ true
    → passes (λ (k : IntKind). is_word_of k w) (kind_in (form_in t)) ≡ true → IsWord t cat w
literal_typ (typ (int j) false false) cat w i c s e = record { kind = j; typ = refl; prvalue = c; word = e }
literal_typ (typ (int j) true v) cat w i c s e = absurd cc
literal_typ (typ (int j) false true) cat w i c s e = absurd cc
literal_typ (typ f d v) cat w i c s e = absurd cc

pub bool_typ : (t : Typ) (cat : Cat) (w : ℕ) → cat ≡ Prvalue → typ_eq t (typ (int BoolKind) false false) ≡ true → is_word_of BoolKind w ≡ true → IsWord t cat w
bool_typ t cat w c e h = record { kind = BoolKind; typ = typ_same t (typ (int BoolKind) false false) e; prvalue = c; word = h }
