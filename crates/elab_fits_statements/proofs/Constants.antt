-- The words of constant expressions are those of their kinds.
use Rattle.std.proofs.Common.{◌≡◌, refl, sym, ap, ◌∙◌, subst, ℕ, Bool, true, false, not, ◌&&◌, ◌||◌, List, [], ◌∷◌, Option, Some, None, is_some}
use Rattle.std.proofs.Common.{Result, Ok, Err, eq-eqb, eqb-true, ap₂, inl, inr, ◌⊎◌}
use Rattle.std.specs.Prelude.{if◌then◌else◌, cond, ℤ, slice_get, option_map, ◌==◌, int_lt, int_le}
use Rattle.std.specs.Ordering.{int_eq}
use Rattle.std.proofs.lemmas.Bool.{and_parts}
use Rattle.tx_ints.proofs.ConversionLaws.{converts_into_range}
use Rattle.tx_ints.proofs.WordLaws.{word_back}
use Rattle.tx_ints.proofs.OperatorLaws.{applies_into_range}
use Rattle.elab_rules.specs.tx_ints.declared.kinds.ArithTrap.{ArithTrap}
use Rattle.elab_rules.specs.tx_ints.declared.kinds.IntKind.{IntKind}
use Rattle.elab_rules.specs.tx_ints.declared.kinds.IntKind.TheVariants.{Bool as BoolKind, Char, SChar, UChar, Short, UShort, Int, UInt, Long, ULong}
use Rattle.elab_rules.specs.tx_ints.declared.kinds.IntKind.TheVariants.{LLong, ULLong}
use Rattle.elab_rules.specs.tx_ints.declared.kinds.BinOp.{BinOp}
use Rattle.elab_rules.specs.tx_ints.declared.kinds.BinOp.TheVariants.{Lt, Gt, Le, Ge, Eq, Ne}
use Rattle.elab_rules.specs.tx_ints.Integers.{InRange, apply_of, reduced, truth}
use Rattle.elab_rules.specs.tx_ints.Words.{word_of, value_of_word}
use Rattle.elab_rules.specs.cpp_types.Typ.{Typ, typ, Form, void, int}
use Rattle.elab_rules.specs.cpp_types.Equal.{kind_eq, typ_eq, form_eq}
use Rattle.elab_rules.specs.cpp_types.Conversion.{is_lvalue}
use Rattle.elab_rules.specs.cpp_types.declared.classes.At.{At}
use Rattle.elab_rules.specs.cpp_types.declared.ranks.Cat.{Cat}
use Rattle.elab_rules.specs.cpp_types.declared.ranks.Cat.TheVariants.{Lvalue, Prvalue}
use Rattle.elab_rules.specs.cpp_tree.declared.kinds.TKind.{TKind}
use Rattle.elab_rules.specs.cpp_tree.declared.kinds.TKind.TheVariants.{Literal, Load, Convert, Retype, Binary, Conditional, Throw, Rethrow}
use Rattle.elab_rules.specs.cpp_tree.declared.kinds.TKind.TheVariants.{Global as GlobalNode}
use Rattle.elab_rules.specs.cpp_tree.declared.roles.Position.{Position}
use Rattle.elab_rules.specs.cpp_tree.declared.roles.Role.TheVariants.{Value}
use Rattle.elab_rules.specs.cpp_tree.Trees.{Tree, node, Trees, none, more, one, two, three, kind_of, typ_in, cat_of}
use Rattle.elab_rules.specs.cpp_tree.Units.{Global, Cell}
use Rattle.elab_rules.specs.cpp_tree.Typing.{Head, head_of, form_in, kind_in, is_kind, same_kind, word_kind, is_word_of, is_scalar_value, scalar_of}
use Rattle.elab_rules.specs.cpp_tree.Typing.{is_prvalue, is_void}
use Rattle.elab_rules.specs.cpp_tree.Typing.{without_exception, passes, is_promoted, gives, is_bool}
use Rattle.elab_rules.specs.cpp_tree.Roles.{is_throw}
use Rattle.elab_rules.specs.cpp_tree.Rows.{Setting, is_load, is_read, is_access, is_retyped, is_zero_literal, is_binary, is_right, is_comparison, is_branch}
use Rattle.elab_rules.specs.cpp_tree.Rows.{is_result_address, result_of}
use Rattle.elab_rules.specs.cpp_tree.WellFormed.{fits, is_kid}
use Rattle.elab_rules.specs.Constants.{constant, word_in, number_in, value_of_global, is_constant_type, result_word, applied, branch, right_kind}
use Rattle.elab_rules.specs.Constants
use Rattle.elab_fits.specs.Standing.{FitsAs}
use Rattle.elab_fits.proofs.Equal.{kind_same, form_same, typ_same}
use Rattle.elab_fits.proofs.Nodes.{clash, head_typ, head_cat}
use Rattle.elab_fits.proofs.Numbers.{zero_word}
use Rattle.elab_fits.proofs.Arithmetic.{or_case}
use Rattle.elab_fits_statements.proofs.Anywhere.{fitting}

-- Words

pub number_word : (k : IntKind) (v : ℤ) → InRange k v → is_word_of k (word_of v) ≡ true
number_word k v h = eq-eqb (word_of (value_of_word k (word_of v))) (word_of v) (ap word_of (word_back k v h))

pub in_word : (k : IntKind) (w : ℕ) → is_word_of k (word_in k w) ≡ true
in_word k w = number_word k (value_of_word k w) (converts_into_range k _)

cells_word : (k : IntKind) (cells : List Cell) → is_word_of k (number_in k cells) ≡ true
cells_word k [] = zero_word k
cells_word k (x ∷ xs) = in_word k x.value

ok_same : {A B : Type 0} (x y : A) → ◌≡◌ {A = Result A B} (Ok x) (Ok y) → x ≡ y
ok_same x y h = cc

-- a truth value as a number of a kind
truth_word : (k : IntKind) (b : Bool) → is_word_of BoolKind (word_of (reduced k (truth b))) ≡ true
unfolding word_of reduced
truth_word BoolKind true = refl
truth_word BoolKind false = refl
truth_word Char true = refl
truth_word Char false = refl
truth_word SChar true = refl
truth_word SChar false = refl
truth_word UChar true = refl
truth_word UChar false = refl
truth_word Short true = refl
truth_word Short false = refl
truth_word UShort true = refl
truth_word UShort false = refl
truth_word Int true = refl
truth_word Int false = refl
truth_word UInt true = refl
truth_word UInt false = refl
truth_word Long true = refl
truth_word Long false = refl
truth_word ULong true = refl
truth_word ULong false = refl
truth_word LLong true = refl
truth_word LLong false = refl
truth_word ULLong true = refl
truth_word ULLong false = refl

truth_of : (k : IntKind) (b : Bool) (z : ℤ) → ◌≡◌ {A = Result ℤ ArithTrap} (Ok (reduced k (truth b))) (Ok z) → is_word_of BoolKind (word_of z) ≡ true
truth_of k b z h = subst (λ (x : ℤ). is_word_of BoolKind (word_of x) ≡ true) (ok_same (reduced k (truth b)) z h) (truth_word k b)

-- Options

some_same : {A : Type 0} (x y : A) → Some x ≡ Some y → x ≡ y
some_same x y h = cc

none_some : {A : Type 0} (B : Type 0) (o : Option A) (x : A) → o ≡ None → o ≡ Some x → B
none_some B None x h k = absurd cc
none_some B (Some y) x h k = absurd cc

-- Kinds

kind_is : (k : IntKind) (o : Option IntKind) → is_kind k o ≡ true → o ≡ Some k
kind_is k None h = absurd cc
kind_is k (Some j) h = ap Some (kind_same j k h)

same_is : (k : IntKind) (o q : Option IntKind) → o ≡ Some k → same_kind o q ≡ true → q ≡ Some k
same_is k None q e h = absurd cc
same_is k (Some j) q e h = kind_is j q h ∙ e

-- Rows

-- what is loaded of a global has the kind of the load
load_kind : (result : Typ) (j k : IntKind) (t : Typ) (cat : Cat) (h : Head) (g : ℕ) → h.kind ≡ GlobalNode g → is_load result j false t cat h ≡ true
    → word_kind t cat ≡ Some k → k ≡ j
load_kind result j k t Lvalue h g e l w = some_same k ULong (sym w) ∙ sym (kind_same j ULong
    (and_parts (kind_eq j ULong) true (and_parts (kind_eq j ULong && true) (is_lvalue h.cat)
    (and_parts ((kind_eq j ULong && true) && is_lvalue h.cat) _ l).0).0).0)
load_kind result j k (typ f c v) Prvalue h g e l w = or_case (k ≡ j) (is_scalar_value (typ f c v) && is_read j false (typ f c v) h)
    (kind_eq j ULong && true && typ_eq (typ f c v) (typ void false false) && is_result_address result h) l read address
  where
    read : (is_scalar_value (typ f c v) && is_read j false (typ f c v) h) ≡ true → k ≡ j
    read x =
        let a = and_parts (is_scalar_value (typ f c v)) (is_read j false (typ f c v) h) x in
        let b = and_parts (is_lvalue h.cat && form_eq (form_in (without_exception h.typ)) f) (is_access j false (without_exception h.typ)) a.1 in
        let d = and_parts (is_lvalue h.cat) (form_eq (form_in (without_exception h.typ)) f) b.0 in
        let s = form_same (form_in (without_exception h.typ)) f d.1 in
        let m = access j (without_exception h.typ) b.1 in
        some_same k j (sym w ∙ ap kind_in (sym s) ∙ m)
      where
        access : (i : IntKind) (u : Typ) → is_access i false u ≡ true → kind_in (form_in u) ≡ Some i
        access i (typ g p q) y = kind_is i (kind_in g) (and_parts (is_kind i (kind_in g)) _ y).0

    address : (kind_eq j ULong && true && typ_eq (typ f c v) (typ void false false) && is_result_address result h) ≡ true → k ≡ j
    address x =
        let a = and_parts (kind_eq j ULong && true && typ_eq (typ f c v) (typ void false false)) (is_result_address result h) x in
        let b = and_parts (kind_eq j ULong && true) (typ_eq (typ f c v) (typ void false false)) a.0 in
        none_some (k ≡ j) (kind_in f) k (ap (λ (u : Typ). kind_in (form_in u)) (typ_same (typ f c v) (typ void false false) b.1)) w

scalar_kind : (j k : IntKind) (t : Typ) → scalar_of j t ≡ true → word_kind t Prvalue ≡ Some k → k ≡ j
scalar_kind j k (typ f c v) h w = some_same k j (sym w ∙ kind_is j (kind_in f) h)

-- a branch with a constant
no_throw : (gs : List Global) (w : ℕ) (kind : TKind) (u : Typ) (cat : Cat) (at : At) (kids : Trees) → constant gs (node kind u cat at kids) ≡ Some w
    → is_throw kind ≡ false
no_throw gs w Throw u cat at kids h = absurd cc
no_throw gs w Rethrow u cat at kids h = absurd cc
no_throw gs w kind u cat at kids h = refl

no_void : (A : Type 0) (k : IntKind) (f : Form) (c v : Bool) → kind_in f ≡ Some k → is_void (typ f c v) ≡ true → A
no_void A k void c v h i = absurd cc
no_void A k f c v h i = absurd cc

same_word : (k : IntKind) (f : Form) (c v : Bool) (u : Typ) (cat : Cat) → kind_in f ≡ Some k → (is_prvalue cat && typ_eq (typ f c v) u) ≡ true
    → word_kind u cat ≡ Some k
same_word k f c v u Lvalue h i = absurd cc
same_word k f c v u Prvalue h i = subst (λ (t : Typ). word_kind t Prvalue ≡ Some k) (typ_same (typ f c v) u i) h

branch_kind : (gs : List Global) (k : IntKind) (w : ℕ) (t : Typ) (e : Tree) → is_branch t Prvalue (head_of e) ≡ true → word_kind t Prvalue ≡ Some k
    → constant gs e ≡ Some w → word_kind (typ_in e) (cat_of e) ≡ Some k
branch_kind gs k w (typ f c v) (node kind u cat at kids) h x y = or_case _ (is_throw kind || is_void (typ f c v)) (is_prvalue cat && typ_eq (typ f c v) u) h
    (λ a. or_case _ (is_throw kind) (is_void (typ f c v)) a (λ i. clash _ (is_throw kind) (no_throw gs w kind u cat at kids y) i) (no_void _ k f c v x))
    (same_word k f c v u cat x)

-- The words

literal_word : (k : IntKind) (n w : ℕ) (t : Typ) (cat : Cat)
    → (is_prvalue cat && is_scalar_value t && passes (λ (j : IntKind). is_word_of j n) (kind_in (form_in t))) ≡ true → word_kind t cat ≡ Some k
    → Some n ≡ Some w → is_word_of k w ≡ true
literal_word k n w t Lvalue r i c = absurd cc
literal_word k n w (typ f q v) Prvalue r i c = subst (λ (m : ℕ). is_word_of k m ≡ true) (some_same n w c)
    (sym (ap (passes (λ (j : IntKind). is_word_of j n)) i)
    ∙ (and_parts (is_scalar_value (typ f q v)) (passes (λ (j : IntKind). is_word_of j n) (kind_in f)) r).1)

global_word : (k : IntKind) (w : ℕ) (o : Option Global) → value_of_global k o ≡ Some w → is_word_of k w ≡ true
global_word k w None h = absurd cc
global_word k w (Some g) h = by_typ (is_constant_type g.typ && g.defined) h
  where
    by_typ : (b : Bool) → (if b then Some (number_in k g.init) else None) ≡ Some w → is_word_of k w ≡ true
    by_typ true i = subst (λ (m : ℕ). is_word_of k m ≡ true) (some_same (number_in k g.init) w i) (cells_word k g.init)
    by_typ false i = absurd cc

mapped_word : (k : IntKind) (w : ℕ) (o : Option ℕ) → option_map (word_in k) o ≡ Some w → is_word_of k w ≡ true
mapped_word k w None h = absurd cc
mapped_word k w (Some x) h = subst (λ (m : ℕ). is_word_of k m ≡ true) (some_same (word_in k x) w h) (in_word k x)

-- what an operator that compares gives
compares : (op : BinOp) (k : IntKind) (a b : ℤ) → is_comparison op ≡ true → (z : ℤ) → apply_of op k a b ≡ Ok z → is_word_of BoolKind (word_of z) ≡ true
unfolding apply_of
compares Lt k a b c z h = truth_of k (int_lt a b) z h
compares Gt k a b c z h = truth_of k (int_lt b a) z h
compares Le k a b c z h = truth_of k (int_le a b) z h
compares Ge k a b c z h = truth_of k (int_le b a) z h
compares Eq k a b c z h = truth_of k (int_eq a b) z h
compares Ne k a b c z h = truth_of k (not (int_eq a b)) z h
compares op k a b c z h = absurd cc

operator_word : (op : BinOp) (j k : IntKind) (a b : ℤ) (t : Typ) (w : ℕ) (r : Result ℤ ArithTrap) → apply_of op j a b ≡ r
    → cond (is_comparison op) (is_prvalue Prvalue && typ_eq t (typ (int BoolKind) false false)) (is_scalar_value t && scalar_of j t) ≡ true
    → word_kind t Prvalue ≡ Some k → result_word r ≡ Some w → is_word_of k w ≡ true
operator_word op j k a b t w (Err trap) e r i h = absurd cc
operator_word op j k a b t w (Ok z) e r i h = by_op (is_comparison op) refl r
  where
    by_op : (q : Bool) → is_comparison op ≡ q
        → cond q (is_prvalue Prvalue && typ_eq t (typ (int BoolKind) false false)) (is_scalar_value t && scalar_of j t) ≡ true → is_word_of k w ≡ true
    by_op true c y =
        let same : k ≡ BoolKind = some_same k BoolKind (sym i ∙ ap (λ (u : Typ). word_kind u Prvalue) (typ_same t (typ (int BoolKind) false false) y)) in
        subst (λ (m : ℕ). is_word_of k m ≡ true) (some_same (word_of z) w h)
        (subst (λ (n : IntKind). is_word_of n (word_of z) ≡ true) (sym same) (compares op j a b c z e))
    by_op false c y =
        let same = scalar_kind j k t (and_parts (is_scalar_value t) (scalar_of j t) y).1 i in
        subst (λ (m : ℕ). is_word_of k m ≡ true) (some_same (word_of z) w h)
        (subst (λ (n : IntKind). is_word_of n (word_of z) ≡ true) (sym same) (number_word j z (applies_into_range op j a b z e)))

binary_word : (op : BinOp) (j k : IntKind) (t : Typ) (w : ℕ) (x y : Head) (a b : Option ℕ) → is_binary op j t Prvalue x y ≡ true → word_kind t Prvalue ≡ Some k
    → Constants.both (applied op j) a b ≡ Some w → is_word_of k w ≡ true
binary_word op j k t w x y None b r i h = absurd cc
binary_word op j k t w x y (Some a) None r i h = absurd cc
binary_word op j k t w x y (Some a) (Some b) r i h =
    operator_word op j k (value_of_word j a) (value_of_word (right_kind op j) b) t w (apply_of op j (value_of_word j a) (value_of_word (right_kind op j) b))
    refl
    (and_parts (is_promoted j && gives j x && is_right op j y) _ r).1 i h

record IsKidOf (s : Setting) (p : Position) (e : Tree) (rest : Bool) : Type 0 where
  fits : fits s p Value e ≡ true
  behind : rest ≡ true

kid_of : (s : Setting) (p : Position) (e : Tree) (rest : Bool) → ((is_kid (kind_of e) && fits s p Value e) && rest) ≡ true → IsKidOf s p e rest
kid_of s p e rest h =
    let a = and_parts (is_kid (kind_of e) && fits s p Value e) rest h in
    record { fits = (and_parts (is_kid (kind_of e)) (fits s p Value e) a.0).1; behind = a.1 }

-- what another type says of a word
retyped_kind : (k : IntKind) (t : Typ) (h : Head) → is_retyped t Prvalue h ≡ true → word_kind t Prvalue ≡ Some k
    → (is_zero_literal h.kind ≡ true) ⊎ (word_kind h.typ h.cat ≡ Some k)
retyped_kind k (typ void c v) h r i = absurd cc
retyped_kind k (typ f c v) h r i = or_case _ (same_kind (kind_in f) (word_kind h.typ h.cat)) (is_zero_literal h.kind && is_some (kind_in f)) r
    (λ a. inr (same_is k (kind_in f) (word_kind h.typ h.cat) i a)) (λ a. inl (and_parts (is_zero_literal h.kind) (is_some (kind_in f)) a).0)

zero_constant : (gs : List Global) (k : IntKind) (w : ℕ) (e : Tree) → is_zero_literal (head_of e).kind ≡ true → constant gs e ≡ Some w → is_word_of k w ≡ true
zero_constant gs k w (node (Literal n) t cat at kids) h i = subst (λ (m : ℕ). is_word_of k m ≡ true) (sym (eqb-true n 0 h) ∙ some_same n w i) (zero_word k)
zero_constant gs k w (node kind t cat at kids) h i = absurd cc

chosen_word : (k : IntKind) (w : ℕ) (o a b : Option ℕ) → branch o a b ≡ Some w → ((x : ℕ) → a ≡ Some x → is_word_of k x ≡ true)
    → ((x : ℕ) → b ≡ Some x → is_word_of k x ≡ true) → is_word_of k w ≡ true
chosen_word k w None a b h f g = absurd cc
chosen_word k w (Some n) None b h f g = absurd cc
chosen_word k w (Some n) (Some a) None h f g = absurd cc
chosen_word k w (Some n) (Some a) (Some b) h f g = by_test (n == 0) h
  where
    by_test : (q : Bool) → (if q then Some b else Some a) ≡ Some w → is_word_of k w ≡ true
    by_test true i = g w (ap Some (some_same b w i))
    by_test false i = f w (ap Some (some_same a w i))

constant_word : (s : Setting) (p : Position) (gs : List Global) (k : IntKind) (w : ℕ) (e : Tree) → fits s p Value e ≡ true
    → word_kind (typ_in e) (cat_of e) ≡ Some k → constant gs e ≡ Some w → is_word_of k w ≡ true
constant_word s p gs k w (node (Literal n) t cat at kids) h i c = literal_word k n w t cat (fitting s p Value (Literal n) t cat kids h).row i c
constant_word s p gs k w (node (Load j false) t cat at (more (node (GlobalNode g) u d q none) none)) h i c =
    let r = (fitting s p Value (Load j false) t cat (one (node (GlobalNode g) u d q none)) h).row in
    let same = load_kind (result_of s.function) j k t cat (head_of (node (GlobalNode g) u d q none)) g refl r i in
    subst (λ (n : IntKind). is_word_of n w ≡ true) (sym same) (global_word j w (slice_get gs g) c)
constant_word s p gs k w (node (Convert j) t Lvalue at (more a none)) h i c = clash _ false refl (fitting s p Value (Convert j) t Lvalue (one a) h).row
constant_word s p gs k w (node (Convert j) t Prvalue at (more a none)) h i c =
    let f = fitting s p Value (Convert j) t Prvalue (one a) h in
    let x = and_parts (is_scalar_value t && scalar_of j t) _ f.row in
    let y = and_parts (is_scalar_value t) (scalar_of j t) x.0 in
    subst (λ (n : IntKind). is_word_of n w ≡ true) (sym (scalar_kind j k t y.1 i)) (mapped_word j w (constant gs a) c)
constant_word s p gs k w (node Retype t Prvalue at (more a none)) h i c =
    let f = fitting s p Value Retype t Prvalue (one a) h in
    elim (retyped_kind k t (head_of a) f.row i) [
      | inl z ↦ zero_constant gs k w a z c
      | inr z ↦ constant_word s p gs k w a (kid_of s p a true f.within).fits (ap₂ word_kind (sym (head_typ a)) (sym (head_cat a)) ∙ z) c
    ]
constant_word s p gs k w (node (Binary op j) t Prvalue at (more a (more b none))) h i c =
    binary_word op j k t w (head_of a) (head_of b) (constant gs a) (constant gs b) (fitting s p Value (Binary op j) t Prvalue (two a b) h).row i c
constant_word s p gs k w (node Conditional t Prvalue at (more a (more b (more d none)))) h i c =
    let f = fitting s p Value Conditional t Prvalue (three a b d) h in
    let r = and_parts (is_bool (head_of a) && is_branch t Prvalue (head_of b)) (is_branch t Prvalue (head_of d)) f.row in
    let q = and_parts (is_bool (head_of a)) (is_branch t Prvalue (head_of b)) r.0 in
    let x = kid_of s p a _ f.within in
    let y = kid_of s p b _ x.behind in
    let z = kid_of s p d _ y.behind in
    chosen_word k w (constant gs a) (constant gs b) (constant gs d) c
    (λ n e. constant_word s p gs k n b y.fits (branch_kind gs k n t b q.1 i e) e)
    (λ n e. constant_word s p gs k n d z.fits (branch_kind gs k n t d r.1 i e) e)
constant_word s p gs k w e h i c = absurd cc

pub constants_law : (s : Setting) (gs : List Global) (k : IntKind) (w : ℕ) (e : Tree) → FitsAs s Value e → word_kind (typ_in e) (cat_of e) ≡ Some k
    → constant gs e ≡ Some w → is_word_of k w ≡ true
constants_law s gs k w e h i c = constant_word s within gs k w e (h within refl) i c
  where
    within : Position
    within = record { full = true; breaks = false; continues = false }
