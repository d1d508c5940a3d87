-- Arithmetic, comparisons, and pointers moved by numbers.
use Rattle.std.proofs.Common.{◌≡◌, refl, sym, ap, ◌∙◌, subst, ℕ, Bool, true, false, ◌&&◌, ◌||◌, not, cond, List, [], ◌∷◌, Option, Some, None, is_some}
use Rattle.std.proofs.Common.{Result, Ok, Err}
use Rattle.std.specs.Prelude.{unwrap_or, nat_le}
use Rattle.elab_rules.specs.tx_ints.declared.kinds.IntKind.{IntKind}
use Rattle.elab_rules.specs.tx_ints.declared.kinds.IntKind.TheVariants.{Bool as BoolKind, Int, ULong, Long}
use Rattle.elab_rules.specs.tx_ints.declared.kinds.BinOp.{BinOp}
use Rattle.elab_rules.specs.tx_ints.declared.kinds.BinOp.TheVariants.{Add, Sub, Mul, Div}
use Rattle.elab_rules.specs.tx_ints.Integers.{usual_of, promote_of, is_shift}
use Rattle.elab_rules.specs.cpp_types.Typ.{Typ, Form, void, int, enum, null, ptr, ref, array, func, class, closure, tx_ex}
use Rattle.elab_rules.specs.cpp_types.Equal.{typ_eq, form_eq}
use Rattle.elab_rules.specs.cpp_types.declared.classes.At.{At}
use Rattle.elab_rules.specs.cpp_types.declared.ranks.Cat.{Cat}
use Rattle.elab_rules.specs.cpp_types.declared.ranks.Cat.TheVariants.{Lvalue, Prvalue}
use Rattle.elab_rules.specs.cpp_tree.declared.kinds.TKind.TheVariants.{Binary}
use Rattle.elab_rules.specs.cpp_tree.declared.roles.Role.TheVariants.{Value}
use Rattle.elab_rules.specs.cpp_tree.declared.faults.ElabFault.{ElabFault}
use Rattle.elab_rules.specs.cpp_tree.declared.faults.IllRule.TheVariants.{BadOperand, Incomplete}
use Rattle.elab_rules.specs.cpp_layout.declared.extents.TheConstants.{GREATEST_SIZE}
use Rattle.elab_rules.specs.cpp_tree.Trees.{Tree, typ_in, cat_of}
use Rattle.elab_rules.specs.cpp_tree.Notation.{plain}
use Rattle.elab_rules.specs.cpp_tree.Typing.{Head, head_of, form_in, unqualified, kind_in, is_kind, is_promoted, gives, gives_promoted, word_kind}
use Rattle.elab_rules.specs.cpp_tree.Typing.{is_scalar_value}
use Rattle.elab_rules.specs.cpp_tree.Typing.{scalar_of, is_bool, is_word_of}
use Rattle.elab_rules.specs.cpp_tree.Roles.{only}
use Rattle.elab_rules.specs.cpp_tree.Rows.{Setting, is_comparison, is_right, row_fits}
use Rattle.elab_rules.specs.elab_ctx.Ctx.{Ctx}
use Rattle.elab_rules.specs.elab_ctx.Steps.{and_then, check, Operand}
use Rattle.elab_rules.specs.Values.{bool_type, size_type, number, part_at, operated, valued, in_kind}
use Rattle.elab_rules.specs.Objects.{size_of}
use Rattle.elab_rules.specs.Operators.{value, value_form, arithmetic, as_kind, pointed, is_null, in_usual, shifted, arithmetic_of, is_function, is_sized}
use Rattle.elab_rules.specs.Operators.{is_sum}
use Rattle.elab_rules.specs.Operators.{within_greatest, measurable, movable, scaled, moved, moved_back, difference, sum_of, compared, as_pointer, comparison_by}
use Rattle.elab_rules.specs.Operators.{comparison_in, binary}
use Rattle.elab_rules.specs.Operators
use Rattle.elab_fits.specs.Standing.{FitsAs, IsExpressionType, Stands, On}
use Rattle.elab_fits.specs.Scalars.{is_scalar, Gives, IsValue, IsZero, IsOperand}
use Rattle.elab_fits.proofs.Equal.{kind_refl, form_same}
use Rattle.elab_fits.proofs.Nodes.{both, head_typ, head_cat, Simple, two_kids, of_value}
use Rattle.elab_fits.proofs.Steps.{bind, checked, either}
use Rattle.elab_fits.proofs.Numbers.{promoted_kind, usual_kind, comparison_is, no_shift}
use Rattle.elab_fits.proofs.Sizes.{small_word, small_long}
use Rattle.elab_fits.proofs.Values.{scalar_value, no_class, given_word, number_gives, word_gives, zero_gives, value_gives, in_kind_gives}
use Rattle.elab_fits.proofs.Initials.{zero_value}

-- Operands

pub value_of : (s : Setting) (o : Operand) → IsOperand s o → is_scalar (value_form o) ≡ true → Gives s (value_form o) (value o)
value_of s o h i = value_gives s o.at o.tree h.stands i

pub number_form : (f : Form) (j : IntKind) → arithmetic f ≡ Some j → is_scalar f ≡ true
number_form (int i) j h = refl
number_form (enum n b) j h = refl
number_form null j h = refl
number_form (ptr t) j h = refl
number_form void j h = absurd cc
number_form (ref t) j h = absurd cc
number_form (array t n) j h = absurd cc
number_form (func t) j h = absurd cc
number_form (class n) j h = absurd cc
number_form (closure n) j h = absurd cc
number_form (tx_ex t) j h = absurd cc

pub as_kind_gives : (s : Setting) (o : Operand) (j k : IntKind) → IsOperand s o → arithmetic (value_form o) ≡ Some j → Gives s (int k) (as_kind k o)
as_kind_gives s o j k h e = in_kind_gives s o.at (value_form o) k (value o) (value_of s o h (number_form (value_form o) j e))

pub pointed_form : (f : Form) (t : Typ) → pointed f ≡ Some t → f ≡ ptr t
pointed_form (ptr u) t h = ap (λ (x : Option Typ). ptr (unwrap_or x t)) h
pointed_form (int i) t h = absurd cc
pointed_form (enum n b) t h = absurd cc
pointed_form null t h = absurd cc
pointed_form void t h = absurd cc
pointed_form (ref u) t h = absurd cc
pointed_form (array u n) t h = absurd cc
pointed_form (func u) t h = absurd cc
pointed_form (class n) t h = absurd cc
pointed_form (closure n) t h = absurd cc
pointed_form (tx_ex u) t h = absurd cc

-- the value of a pointer
pub pointer_of : (s : Setting) (o : Operand) (t : Typ) → IsOperand s o → value_form o ≡ ptr t → Gives s (ptr t) (value o)
pointer_of s o t h e = subst (λ (f : Form). Gives s f (value o)) e (value_of s o h (ap is_scalar e))

-- Two operands

binaries : (op : BinOp) (k : IntKind) → Simple (Binary op k) (only (Value ∷ Value ∷ []))
binaries op k = record { is_value = refl; anywhere = λ f p n. refl; unbranched = λ t hs. refl; asks = λ a b. refl; no_switch = refl }

gives_row : (s : Setting) (f : Form) (k : IntKind) (e : Tree) → Gives s f e → kind_in f ≡ Some k → gives k (head_of e) ≡ true
gives_row s f k e g i = ap (λ (x : Option IntKind). is_kind k x) (given_word s f e g ∙ i) ∙ kind_refl k

pub right_row : (s : Setting) (op : BinOp) (f : Form) (k : IntKind) (e : Tree) → is_shift op ≡ false → Gives s f e → kind_in f ≡ Some k
    → is_right op k (head_of e) ≡ true
right_row s op f k e h g i = ap (λ (b : Bool). cond b (gives_promoted (word_kind (head_of e).typ (head_of e).cat)) (gives k (head_of e))) h
    ∙ gives_row s f k e g i

pub shift_row : (s : Setting) (op : BinOp) (f : Form) (j k : IntKind) (e : Tree) → is_shift op ≡ true → Gives s f e → kind_in f ≡ Some j
    → is_promoted j ≡ true → is_right op k (head_of e) ≡ true
shift_row s op f j k e h g i n = ap (λ (b : Bool). cond b (gives_promoted (word_kind (head_of e).typ (head_of e).cat)) (gives k (head_of e))) h
    ∙ ap gives_promoted (given_word s f e g ∙ i) ∙ n

result_row : (op : BinOp) (k : IntKind) (g : Form) (x : Head) → is_comparison op ≡ false → is_scalar g ≡ true → kind_in g ≡ Some k
    → cond (is_comparison op) (is_bool (record { kind = x.kind; typ = plain g; cat = Prvalue })) (is_scalar_value (plain g) && scalar_of k (plain g)) ≡ true
result_row op k g x h i e =
    ap (λ (b : Bool). cond b (is_bool (record { kind = x.kind; typ = plain g; cat = Prvalue })) (is_scalar_value (plain g) && scalar_of k (plain g))) h
    ∙ both (scalar_value g i) (ap (λ (y : Option IntKind). is_kind k y) e ∙ kind_refl k)

-- an operator that gives a value of the kind of its operands
pub operated_gives : (s : Setting) (op : BinOp) (k : IntKind) (f g h : Form) (at : At) (a b : Tree) → is_comparison op ≡ false → is_promoted k ≡ true
    → Gives s f a → kind_in f ≡ Some k → is_scalar g ≡ true → kind_in g ≡ Some k → Gives s h b → is_right op k (head_of b) ≡ true
    → Gives s g (operated op k (plain g) at a b)
operated_gives s op k f g h at a b n p x i l j y r = record {
  scalar = l;
  fits = two_kids s (Binary op k) (plain g) Prvalue at a b (binaries op k) (ap not (no_class g false false l))
      (both (both (both p (gives_row s f k a x i)) r) (result_row op k g (head_of a) n l j)) x.fits y.fits;
  typed = refl;
  category = refl;
}

pub compared_gives : (s : Setting) (op : BinOp) (k : IntKind) (f h : Form) (at : At) (a b : Tree) → is_comparison op ≡ true → is_promoted k ≡ true
    → Gives s f a → kind_in f ≡ Some k → Gives s h b → kind_in h ≡ Some k → Gives s (int BoolKind) (compared op k at a b)
compared_gives s op k f h at a b n p x i y j = record {
  scalar = refl;
  fits = two_kids s (Binary op k) bool_type Prvalue at a b (binaries op k) refl
      (both (both (both p (gives_row s f k a x i)) (right_row s op h k b (no_shift op n) y j))
      (ap (λ (c : Bool). cond c (is_bool (record { kind = (head_of a).kind; typ = bool_type; cat = Prvalue }))
      (is_scalar_value bool_type && scalar_of k bool_type)) n))
      x.fits y.fits;
  typed = refl;
  category = refl;
}

-- what lies at an offset from an address
part_row : (offset : ℕ) (t : Typ) (at : At) (x : Head) (s : Setting) → word_kind x.typ x.cat ≡ Some ULong
    → row_fits s (Binary Add ULong) t Lvalue (x ∷ head_of (number ULong offset at) ∷ []) ≡ true
part_row offset t at x s h = both (both (ap (λ (w : Option IntKind). is_kind ULong w) h) refl) refl

pub part_stands : (s : Setting) (offset : ℕ) (t : Typ) (at : At) (e : Tree) → word_kind (typ_in e) (cat_of e) ≡ Some ULong → FitsAs s Value e
    → is_word_of ULong offset ≡ true → IsExpressionType t Lvalue → Stands s (part_at offset t at e)
part_stands s offset t at e h g w i = of_value s (part_at offset t at e) i refl (two_kids s (Binary Add ULong) t Lvalue at e (number ULong offset at)
    (binaries Add ULong) refl
    (part_row offset t at (head_of e) s (ap (λ (u : Typ). word_kind u (head_of e).cat) (head_typ e)
    ∙ ap (λ (c : Cat). word_kind (typ_in e) c) (head_cat e) ∙ h))
    g (number_gives s ULong offset at w).fits)

-- Numbers (C++14 5.6 to 5.8, 5.11 to 5.13)

usual_gives : (s : Setting) (op : BinOp) (at : At) (a b : Operand) (i j : IntKind) → IsOperand s a → IsOperand s b → is_comparison op ≡ false
    → is_shift op ≡ false → arithmetic (value_form a) ≡ Some i → arithmetic (value_form b) ≡ Some j
    → Gives s (int (usual_of i j)) (in_usual op at (usual_of i j) a b)
usual_gives s op at a b i j x y n m e d = operated_gives s op k (int k) (int k) (int k) at (as_kind k a) (as_kind k b) n (usual_kind i j)
    (as_kind_gives s a i k x e) refl refl refl (as_kind_gives s b j k y d) (right_row s op (int k) k (as_kind k b) m (as_kind_gives s b j k y d) refl)
  where
    k : IntKind
    k = usual_of i j

shifted_gives : (s : Setting) (op : BinOp) (at : At) (a b : Operand) (i j : IntKind) → IsOperand s a → IsOperand s b → is_comparison op ≡ false
    → is_shift op ≡ true → arithmetic (value_form a) ≡ Some i → arithmetic (value_form b) ≡ Some j → Gives s (int (promote_of i)) (shifted op at i j a b)
shifted_gives s op at a b i j x y n m e d = operated_gives s op k (int k) (int k) (int l) at (as_kind k a) (as_kind l b) n (promoted_kind i)
    (as_kind_gives s a i k x e) refl refl refl (as_kind_gives s b j l y d)
    (shift_row s op (int l) l k (as_kind l b) m (as_kind_gives s b j l y d) refl (promoted_kind j))
  where
    k : IntKind
    k = promote_of i

    l : IntKind
    l = promote_of j

pub arithmetic_gives : (s : Setting) (op : BinOp) (at : At) (a b : Operand) (i j : Option IntKind) → IsOperand s a → IsOperand s b → is_comparison op ≡ false
    → arithmetic (value_form a) ≡ i → arithmetic (value_form b) ≡ j → On (IsValue s) (arithmetic_of op at i j a b)
arithmetic_gives s op at a b (Some i) (Some j) x y n e d = either (IsValue s) (is_shift op) _ _
    (λ m. record { form = int (promote_of i); gives = shifted_gives s op at a b i j x y n m e d })
    (λ m. record { form = int (usual_of i j); gives = usual_gives s op at a b i j x y n m e d })
arithmetic_gives s op at a b (Some i) None x y n e d = tt
arithmetic_gives s op at a b None j x y n e d = tt

-- Pointers and numbers (C++14 5.7)

abbrev pub IsSmall : Ctx → Typ → Bool → Type 0
IsSmall c t b = nat_le (size_of c.classes t) GREATEST_SIZE ≡ true

pub small : (c : Ctx) (at p : At) (t : Typ) → On (IsSmall c t) (movable c p at t)
small c at p t = checked (IsSmall c t) p BadOperand (not (is_function t)) _
    (λ y. checked (IsSmall c t) at Incomplete (is_sized c t) _ (λ z. either (IsSmall c t) (nat_le (size_of c.classes t) GREATEST_SIZE) _ _ (λ h. h) (λ h. tt)))

pub scaled_gives : (s : Setting) (c : Ctx) (at : At) (t : Typ) (n : Operand) (j : IntKind) → IsOperand s n → arithmetic (value_form n) ≡ Some j
    → nat_le (size_of c.classes t) GREATEST_SIZE ≡ true → Gives s (int ULong) (scaled c at t n)
scaled_gives s c at t n j x e l = operated_gives s Mul ULong (int ULong) (int ULong) (int ULong) at (as_kind ULong n) (number ULong (size_of c.classes t) at)
    refl refl (as_kind_gives s n j ULong x e) refl refl refl size (right_row s Mul (int ULong) ULong (number ULong (size_of c.classes t) at) refl size refl)
  where
    size : Gives s (int ULong) (number ULong (size_of c.classes t) at)
    size = number_gives s ULong (size_of c.classes t) at (small_word (size_of c.classes t) l)

-- the type of the value of a pointer
pointer_typ : (s : Setting) (p : Operand) (t : Typ) → IsOperand s p → value_form p ≡ ptr t → unqualified (typ_in (value p)) ≡ plain (ptr t)
pointer_typ s p t x e = ap unqualified (pointer_of s p t x e).typed

moved_gives : (s : Setting) (c : Ctx) (op : BinOp) (at : At) (t : Typ) (p n : Operand) (j : IntKind) → IsOperand s p → IsOperand s n
    → is_comparison op ≡ false → is_shift op ≡ false → value_form p ≡ ptr t → arithmetic (value_form n) ≡ Some j
    → nat_le (size_of c.classes t) GREATEST_SIZE ≡ true → Gives s (ptr t) (moved c op at t p n)
moved_gives s c op at t p n j x y m d e i l = subst (λ (u : Typ). Gives s (ptr t) (operated op ULong u at (value p) (scaled c at t n)))
    (sym (pointer_typ s p t x e))
    (operated_gives s op ULong (ptr t) (ptr t) (int ULong) at (value p) (scaled c at t n) m refl (pointer_of s p t x e) refl refl refl
    (scaled_gives s c at t n j y i l) (right_row s op (int ULong) ULong (scaled c at t n) d (scaled_gives s c at t n j y i l) refl))

moved_back_gives : (s : Setting) (c : Ctx) (at : At) (t : Typ) (n p : Operand) (j : IntKind) → IsOperand s n → IsOperand s p → value_form p ≡ ptr t
    → arithmetic (value_form n) ≡ Some j → nat_le (size_of c.classes t) GREATEST_SIZE ≡ true → Gives s (ptr t) (moved_back c at t n p)
moved_back_gives s c at t n p j y x e i l = subst (λ (u : Typ). Gives s (ptr t) (operated Add ULong u at (scaled c at t n) (value p)))
    (sym (pointer_typ s p t x e))
    (operated_gives s Add ULong (int ULong) (ptr t) (ptr t) at (scaled c at t n) (value p) refl refl (scaled_gives s c at t n j y i l) refl refl refl
    (pointer_of s p t x e) (right_row s Add (ptr t) ULong (value p) refl (pointer_of s p t x e) refl))

difference_gives : (s : Setting) (c : Ctx) (at : At) (t u : Typ) (p q : Operand) → IsOperand s p → IsOperand s q → value_form p ≡ ptr t
    → value_form q ≡ ptr u → nat_le (size_of c.classes t) GREATEST_SIZE ≡ true → Gives s (int Long) (difference c at t p q)
difference_gives s c at t u p q x y e d l = operated_gives s Div Long (int Long) (int Long) (int Long) at (in_kind at Long apart)
    (number Long (size_of c.classes t) at) refl refl (in_kind_gives s at (int ULong) Long apart bytes) refl refl refl size
    (right_row s Div (int Long) Long (number Long (size_of c.classes t) at) refl size refl)
  where
    apart : Tree
    apart = operated Sub ULong size_type at (value p) (value q)

    size : Gives s (int Long) (number Long (size_of c.classes t) at)
    size = number_gives s Long (size_of c.classes t) at (small_long (size_of c.classes t) l)

    bytes : Gives s (int ULong) (operated Sub ULong size_type at (value p) (value q))
    bytes = operated_gives s Sub ULong (ptr t) (int ULong) (ptr u) at (value p) (value q) refl refl (pointer_of s p t x e) refl refl refl
        (pointer_of s q u y d) (right_row s Sub (ptr u) ULong (value q) refl (pointer_of s q u y d) refl)

pub some_kind : (A : Type 0) (x : Option IntKind) → is_some x ≡ true → ((i : IntKind) → x ≡ Some i → A) → A
some_kind A (Some i) h k = k i refl
some_kind A None h k = absurd cc

moves : (s : Setting) (c : Ctx) (op : BinOp) (at : At) (t : Typ) (p n : Operand) → IsOperand s p → IsOperand s n → is_comparison op ≡ false
    → is_shift op ≡ false → value_form p ≡ ptr t → On (IsValue s) (and_then (check at BadOperand (is_some (arithmetic (value_form n))))
    (λ y. and_then (movable c at p.at t) (λ z. Ok (moved c op at t p n))))
moves s c op at t p n x y m d e = checked (IsValue s) at BadOperand (is_some (arithmetic (value_form n))) _
    (λ h. bind (IsSmall c t) (IsValue s) (movable c at p.at t) _ (small c p.at at t)
    (λ z l. some_kind (IsValue s (moved c op at t p n)) (arithmetic (value_form n)) h
    (λ j i. record { form = ptr t; gives = moved_gives s c op at t p n j x y m d e i l })))

moves_back : (s : Setting) (c : Ctx) (at : At) (t : Typ) (n p : Operand) → IsOperand s n → IsOperand s p → value_form p ≡ ptr t
    → On (IsValue s) (and_then (check at BadOperand (is_some (arithmetic (value_form n))))
    (λ y. and_then (movable c at p.at t) (λ z. Ok (moved_back c at t n p))))
moves_back s c at t n p y x e = checked (IsValue s) at BadOperand (is_some (arithmetic (value_form n))) _
    (λ h. bind (IsSmall c t) (IsValue s) (movable c at p.at t) _ (small c p.at at t)
    (λ z l. some_kind (IsValue s (moved_back c at t n p)) (arithmetic (value_form n)) h
    (λ j i. record { form = ptr t; gives = moved_back_gives s c at t n p j y x e i l })))

pub add_gives : (s : Setting) (c : Ctx) (at : At) (a b : Operand) (t u : Option Typ) → IsOperand s a → IsOperand s b → pointed (value_form a) ≡ t
    → pointed (value_form b) ≡ u → On (IsValue s) (sum_of c Add at t u a b)
add_gives s c at a b (Some t) None x y e d = moves s c Add at t a b x y refl refl (pointed_form (value_form a) t e)
add_gives s c at a b None (Some u) x y e d = moves_back s c at u a b x y (pointed_form (value_form b) u d)
add_gives s c at a b (Some t) (Some u) x y e d = arithmetic_gives s Add at a b (arithmetic (value_form a)) (arithmetic (value_form b)) x y refl refl refl
add_gives s c at a b None None x y e d = arithmetic_gives s Add at a b (arithmetic (value_form a)) (arithmetic (value_form b)) x y refl refl refl

pub subtract_gives : (s : Setting) (c : Ctx) (at : At) (a b : Operand) (t u : Option Typ) → IsOperand s a → IsOperand s b → pointed (value_form a) ≡ t
    → pointed (value_form b) ≡ u → On (IsValue s) (sum_of c Sub at t u a b)
subtract_gives s c at a b (Some t) (Some u) x y e d = checked (IsValue s) at BadOperand (typ_eq t u) _
    (λ h. bind (IsSmall c t) (IsValue s) (movable c at a.at t) _ (small c a.at at t)
    (λ z l. record { form = int Long; gives = difference_gives s c at t u a b x y (pointed_form (value_form a) t e) (pointed_form (value_form b) u d) l }))
subtract_gives s c at a b (Some t) None x y e d = moves s c Sub at t a b x y refl refl (pointed_form (value_form a) t e)
subtract_gives s c at a b None (Some u) x y e d = arithmetic_gives s Sub at a b (arithmetic (value_form a)) (arithmetic (value_form b)) x y refl refl refl
subtract_gives s c at a b None None x y e d = arithmetic_gives s Sub at a b (arithmetic (value_form a)) (arithmetic (value_form b)) x y refl refl refl

sum_gives : (s : Setting) (c : Ctx) (op : BinOp) (at : At) (a b : Operand) → is_sum op ≡ true → IsOperand s a → IsOperand s b
    → On (IsValue s) (sum_of c op at (pointed (value_form a)) (pointed (value_form b)) a b)
sum_gives s c Add at a b h x y = add_gives s c at a b (pointed (value_form a)) (pointed (value_form b)) x y refl refl
sum_gives s c Sub at a b h x y = subtract_gives s c at a b (pointed (value_form a)) (pointed (value_form b)) x y refl refl
sum_gives s c op at a b h x y = absurd cc

-- Comparisons (C++14 5.9, 5.10)

pub or_case : (A : Type 0) (a b : Bool) → (a || b) ≡ true → (a ≡ true → A) → (b ≡ true → A) → A
or_case A true b h f g = f refl
or_case A false b h f g = g h

-- a null pointer constant as a pointer
pub null_gives : (s : Setting) (t : Typ) (o : Operand) → IsOperand s o → is_null o ≡ true → Gives s (ptr t) (as_pointer t o)
null_gives s t o x h = or_case (Gives s (ptr t) (as_pointer t o)) o.zero (form_eq (value_form o) null) h
    (λ z. zero_gives s o.at (value_form o) (ptr t) (value o) (value_of s o x (zero_scalar (x.zero z))) refl (zero_value o.at o.tree (x.zero z)))
    (λ n. word_gives s o.at (value_form o) (ptr t) ULong (value o) (value_of s o x (ap is_scalar (form_same (value_form o) null n))) refl
    (ap kind_in (form_same (value_form o) null n)) refl)
  where
    zero_scalar : IsZero o.tree → is_scalar (value_form o) ≡ true
    zero_scalar z = ap (λ (e : Tree). is_scalar (form_in (typ_in (valued o.at e)))) z.is

abbrev pub IsTruth : Setting → Tree → Type 0
IsTruth s e = Gives s (int BoolKind) e

kinds_compare : (s : Setting) (op : BinOp) (at : At) (a b : Operand) (i j : Option IntKind) → IsOperand s a → IsOperand s b → is_comparison op ≡ true
    → arithmetic (value_form a) ≡ i → arithmetic (value_form b) ≡ j → On (IsTruth s) (comparison_by op at i j a b)
kinds_compare s op at a b (Some i) (Some j) x y n e d = compared_gives s op (usual_of i j) (int (usual_of i j)) (int (usual_of i j)) at
    (as_kind (usual_of i j) a) (as_kind (usual_of i j) b) n (usual_kind i j) (as_kind_gives s a i (usual_of i j) x e) refl
    (as_kind_gives s b j (usual_of i j) y d) refl
kinds_compare s op at a b (Some i) None x y n e d = tt
kinds_compare s op at a b None j x y n e d = tt

enums_compare : (s : Setting) (op : BinOp) (at : At) (a b : Operand) (m : List ℕ) (g : Form) → IsOperand s a → IsOperand s b → is_comparison op ≡ true
    → value_form a ≡ enum m true → value_form b ≡ g → form_eq (enum m true) g ≡ true → Gives s (int BoolKind) (compared op Int at (value a) (value b))
enums_compare s op at a b m g x y n e d h = compared_gives s op Int (value_form a) (value_form b) at (value a) (value b) n refl
    (value_of s a x (ap is_scalar e)) (ap kind_in e) (value_of s b y (ap is_scalar other)) (ap kind_in other)
  where
    other : value_form b ≡ enum m true
    other = d ∙ sym (form_same (enum m true) g h)

enum_beside : (s : Setting) (op : BinOp) (at : At) (a b : Operand) (m : List ℕ) (g : Form) → IsOperand s a → IsOperand s b → is_comparison op ≡ true
    → value_form a ≡ enum m true → value_form b ≡ g
    → On (IsTruth s) (and_then (check at BadOperand (form_eq (enum m true) g)) (λ y. Ok (compared op Int at (value a) (value b))))
enum_beside s op at a b m g x y n e d = checked (IsTruth s) at BadOperand (form_eq (enum m true) g) _ (λ h. enums_compare s op at a b m g x y n e d h)

-- beside a pointer
null_behind : (s : Setting) (op : BinOp) (at : At) (a b : Operand) (t : Typ) → IsOperand s a → IsOperand s b → is_comparison op ≡ true → value_form a ≡ ptr t
    → On (IsTruth s) (and_then (check at BadOperand (is_null b)) (λ y. Ok (compared op ULong at (value a) (as_pointer t b))))
null_behind s op at a b t x y n e = checked (IsTruth s) at BadOperand (is_null b) _
    (λ h. compared_gives s op ULong (ptr t) (ptr t) at (value a) (as_pointer t b) n refl (pointer_of s a t x e) refl (null_gives s t b y h) refl)

null_before : (s : Setting) (op : BinOp) (at : At) (a b : Operand) (t : Typ) → IsOperand s a → IsOperand s b → is_comparison op ≡ true → value_form b ≡ ptr t
    → On (IsTruth s) (and_then (check at BadOperand (is_null a)) (λ y. Ok (compared op ULong at (as_pointer t a) (value b))))
null_before s op at a b t x y n e = checked (IsTruth s) at BadOperand (is_null a) _
    (λ h. compared_gives s op ULong (ptr t) (ptr t) at (as_pointer t a) (value b) n refl (null_gives s t a x h) refl (pointer_of s b t y e) refl)

pub comparison_gives : (s : Setting) (op : BinOp) (at : At) (f g : Form) (a b : Operand) → IsOperand s a → IsOperand s b → is_comparison op ≡ true
    → value_form a ≡ f → value_form b ≡ g → On (IsTruth s) (comparison_in op at f g a b)
comparison_gives s op at (ptr t) (ptr u) a b x y n e d = checked (IsTruth s) at BadOperand (typ_eq t u) _
    (λ h. compared_gives s op ULong (ptr t) (ptr u) at (value a) (value b) n refl (pointer_of s a t x e) refl (pointer_of s b u y d) refl)
comparison_gives s op at (ptr t) g a b x y n e d = null_behind s op at a b t x y n e
comparison_gives s op at f (ptr t) a b x y n e d = null_before s op at a b t x y n d
comparison_gives s op at (enum m true) g a b x y n e d = enum_beside s op at a b m g x y n e d
comparison_gives s op at f g a b x y n e d = kinds_compare s op at a b (arithmetic f) (arithmetic g) x y n (ap arithmetic e) (ap arithmetic d)

-- an operator of two operands but `&&` and `||`
pub binary_gives : (s : Setting) (c : Ctx) (op : BinOp) (at : At) (a b : Operand) → IsOperand s a → IsOperand s b → On (IsValue s) (binary c op at a b)
binary_gives s c op at a b x y = either (IsValue s) (Operators.is_comparison op) _ _
    (λ n. truth_value (comparison_in op at (value_form a) (value_form b) a b)
    (comparison_gives s op at (value_form a) (value_form b) a b x y (sym (comparison_is op) ∙ n) refl refl))
    (λ n. either (IsValue s) (is_sum op) _ _ (λ m. sum_gives s c op at a b m x y)
    (λ m. arithmetic_gives s op at a b (arithmetic (value_form a)) (arithmetic (value_form b)) x y (sym (comparison_is op) ∙ n) refl refl))
  where
    truth_value : (r : Result Tree ElabFault) → On (IsTruth s) r → On (IsValue s) r
    truth_value (Ok e) h = record { form = int BoolKind; gives = h }
    truth_value (Err e) h = tt
