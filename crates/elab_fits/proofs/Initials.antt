-- What a conversion makes of an expression for a scalar.
use Rattle.std.proofs.Common.{◌≡◌, refl, ap, ◌∙◌, Bool, true, false, ◌&&◌, ◌||◌, cond, List, Option, Some, None, is_some, Ok}
use Rattle.std.proofs.lemmas.Bool.{and_parts}
use Rattle.elab_rules.specs.tx_ints.declared.kinds.IntKind.{IntKind}
use Rattle.elab_rules.specs.tx_ints.declared.kinds.IntKind.TheVariants.{Bool as BoolKind, Int}
use Rattle.elab_rules.specs.cpp_types.Typ.{typ, Form, void, int, enum, null, ptr, ref, array, func, class, closure, tx_ex}
use Rattle.elab_rules.specs.cpp_types.Equal.{kind_eq, form_eq}
use Rattle.elab_rules.specs.cpp_types.Class.{Class}
use Rattle.elab_rules.specs.cpp_types.Conversion.{step_of, other_step, promotes, bound, has_value, decayed}
use Rattle.elab_rules.specs.cpp_types.declared.classes.At.{At}
use Rattle.elab_rules.specs.cpp_types.declared.ranks.Cat.{Cat}
use Rattle.elab_rules.specs.cpp_types.declared.ranks.Cat.TheVariants.{Lvalue, Prvalue}
use Rattle.elab_rules.specs.cpp_types.declared.ranks.Step.{Step}
use Rattle.elab_rules.specs.cpp_types.declared.ranks.Step.TheVariants.{Identity, NullPointer, PointerToBool, Promote, Integral}
use Rattle.elab_rules.specs.cpp_types.declared.ranks.Conversion.{Conversion}
use Rattle.elab_rules.specs.cpp_types.declared.ranks.Binding.TheVariants.{Value}
use Rattle.elab_rules.specs.cpp_tree.declared.kinds.TKind.{TKind}
use Rattle.elab_rules.specs.cpp_tree.declared.faults.IllRule.TheVariants.{NoConversion}
use Rattle.elab_rules.specs.cpp_tree.Trees.{Tree, node, Trees, kind_of, typ_in}
use Rattle.elab_rules.specs.cpp_tree.Notation.{plain}
use Rattle.elab_rules.specs.cpp_tree.Typing.{head_of, form_in, kind_in, same_kind, word_kind}
use Rattle.elab_rules.specs.cpp_tree.Rows.{Setting, is_retyped, is_zero_literal}
use Rattle.elab_rules.specs.elab_ctx.Ctx.{Ctx, Work}
use Rattle.elab_rules.specs.elab_ctx.Steps.{and_then, expect, Operand, Made}
use Rattle.elab_rules.specs.Values.{valued, stepped}
use Rattle.elab_rules.specs.Initialising.{initial, bound_by}
use Rattle.elab_fits.specs.Standing.{On}
use Rattle.elab_fits.specs.Scalars.{is_scalar, Gives, IsZero, IsOperand}
use Rattle.elab_fits.proofs.Equal.{form_same}
use Rattle.elab_fits.proofs.Nodes.{both, or_right, head_kind}
use Rattle.elab_fits.proofs.Values.{value_gives, converted_gives, retype_gives, retype_row, given_word}

-- the form of the value of an expression is what the language says
value_is : (at : At) (kind : TKind) (f : Form) (d v : Bool) (cat : Cat) (p : At) (kids : Trees)
    → form_in (typ_in (valued at (node kind (typ f d v) cat p kids))) ≡ decayed (typ f d v)
value_is at kind (func s) d v cat p kids = refl
value_is at kind (array (typ e q u) n) d v cat p kids = refl
value_is at kind void d v Lvalue p kids = refl
value_is at kind (int j) d v Lvalue p kids = refl
value_is at kind (enum n s) d v Lvalue p kids = refl
value_is at kind null d v Lvalue p kids = refl
value_is at kind (ptr t) d v Lvalue p kids = refl
value_is at kind (ref t) d v Lvalue p kids = refl
value_is at kind (class n) d v Lvalue p kids = refl
value_is at kind (closure n) d v Lvalue p kids = refl
value_is at kind (tx_ex t) d v Lvalue p kids = refl
value_is at kind f d v Prvalue p kids = refl

pub value_form_is : (at : At) (e : Tree) → form_in (typ_in (valued at e)) ≡ decayed (typ_in e)
value_form_is at (node kind (typ f d v) cat p kids) = value_is at kind f d v cat p kids

-- the literal 0 is its own value
pub zero_value : (at : At) (e : Tree) → IsZero e → is_zero_literal (kind_of (valued at e)) ≡ true
zero_value at e z = ap (λ (x : Tree). is_zero_literal (kind_of (valued at x))) z.is

-- A scalar is converted from a scalar alone

by_other : (classes : List Class) (literal : Bool) (g f : Form) → is_scalar f ≡ true → is_some (other_step classes literal g f) ≡ true → is_scalar g ≡ true
by_other classes literal (int i) f h s = refl
by_other classes literal (enum n b) f h s = refl
by_other classes literal null f h s = refl
by_other classes literal (ptr t) f h s = refl
by_other classes literal (ref t) f h s = absurd cc
by_other classes literal (class m) (class n) h s = absurd cc
by_other classes literal (class m) void h s = absurd cc
by_other classes literal (class m) (int i) h s = absurd cc
by_other classes literal (class m) (enum n b) h s = absurd cc
by_other classes literal (class m) null h s = absurd cc
by_other classes literal (class m) (ptr t) h s = absurd cc
by_other classes literal (class m) (ref t) h s = absurd cc
by_other classes literal (class m) (array t n) h s = absurd cc
by_other classes literal (class m) (func t) h s = absurd cc
by_other classes literal (class m) (closure n) h s = absurd cc
by_other classes literal (class m) (tx_ex t) h s = absurd cc
by_other classes literal void f h s = absurd cc
by_other classes literal (array t n) f h s = absurd cc
by_other classes literal (func t) f h s = absurd cc
by_other classes literal (closure n) f h s = absurd cc
by_other classes literal (tx_ex t) f h s = absurd cc

by_value : (classes : List Class) (literal : Bool) (g f : Form) (b : Bool) → form_eq g f ≡ b → is_scalar f ≡ true
    → is_some (cond b (Some Identity) (other_step classes literal g f)) ≡ true → is_scalar g ≡ true
by_value classes literal g f true e h s = ap is_scalar (form_same g f e) ∙ h
by_value classes literal g f false e h s = by_other classes literal g f h s

pub from_scalar : (classes : List Class) (literal : Bool) (g f : Form) → is_scalar f ≡ true → is_some (step_of classes literal g f) ≡ true → is_scalar g ≡ true
from_scalar classes literal (ptr t) f h s = refl
from_scalar classes literal g f h s = by_value classes literal g f (form_eq g f) refl h s

-- A null constant becomes a pointer: it is the literal 0, or has a word of 64 bits

steps_in : (A : Type 0) (b c : Bool) → cond b (Some Identity) (Some (cond c Promote Integral)) ≡ Some NullPointer → A
steps_in A true c h = absurd cc
steps_in A false true h = absurd cc
steps_in A false false h = absurd cc

steps_from : (A : Type 0) (b c : Bool) → cond b None (Some (cond c Promote Integral)) ≡ Some NullPointer → A
steps_from A true c h = absurd cc
steps_from A false true h = absurd cc
steps_from A false false h = absurd cc

steps_same : (A : Type 0) (b : Bool) → cond b (Some Identity) None ≡ Some NullPointer → A
steps_same A true h = absurd cc
steps_same A false h = absurd cc

steps_to_bool : (A : Type 0) (b : Bool) → cond b (Some PointerToBool) None ≡ Some NullPointer → A
steps_to_bool A true h = absurd cc
steps_to_bool A false h = absurd cc

steps_literal : (b : Bool) → cond b (Some NullPointer) None ≡ Some NullPointer → b ≡ true
steps_literal true h = refl
steps_literal false h = absurd cc

null_step : (classes : List Class) (literal : Bool) (g f : Form) → is_scalar g ≡ true → is_scalar f ≡ true
    → step_of classes literal g f ≡ Some NullPointer → (same_kind (kind_in f) (kind_in g) || (literal && is_some (kind_in f))) ≡ true
null_step classes literal (int j) (int k) i h s = steps_in _ (kind_eq j k) (promotes j k) s
null_step classes literal (int j) (ptr t) i h s = or_right _ (both (steps_literal literal s) refl)
null_step classes literal (int j) (enum n b) i h s = absurd cc
null_step classes literal (int j) null i h s = absurd cc
null_step classes literal (enum m b) (int k) i h s = steps_from _ b (kind_eq Int k) s
null_step classes literal (enum m b) (enum n d) i h s = steps_same _ (form_eq (enum m b) (enum n d)) s
null_step classes literal (enum m b) null i h s = absurd cc
null_step classes literal (enum m b) (ptr t) i h s = absurd cc
null_step classes literal null (int k) i h s = absurd cc
null_step classes literal null (enum n b) i h s = absurd cc
null_step classes literal null null i h s = refl
null_step classes literal null (ptr t) i h s = refl
null_step classes literal (ptr u) (int k) i h s = steps_to_bool _ (kind_eq k BoolKind) s
null_step classes literal (ptr u) (enum n b) i h s = absurd cc
null_step classes literal (ptr u) null i h s = absurd cc
null_step classes literal (ptr u) (ptr t) i h s = refl
null_step classes literal g void i h s = absurd cc
null_step classes literal g (ref t) i h s = absurd cc
null_step classes literal g (array t n) i h s = absurd cc
null_step classes literal g (func t) i h s = absurd cc
null_step classes literal g (class n) i h s = absurd cc
null_step classes literal g (closure n) i h s = absurd cc
null_step classes literal g (tx_ex t) i h s = absurd cc
null_step classes literal void f i h s = absurd cc
null_step classes literal (ref t) f i h s = absurd cc
null_step classes literal (array t n) f i h s = absurd cc
null_step classes literal (func t) f i h s = absurd cc
null_step classes literal (class n) f i h s = absurd cc
null_step classes literal (closure n) f i h s = absurd cc
null_step classes literal (tx_ex t) f i h s = absurd cc

or_more : (a b c : Bool) → (b ≡ true → c ≡ true) → (a || b) ≡ true → (a || c) ≡ true
or_more true b c g h = refl
or_more false b c g h = g h

-- a null constant may have the type of the pointer
null_row : (s : Setting) (g f : Form) (v : Tree) (literal : Bool) → Gives s g v → is_scalar f ≡ true → (literal ≡ true → is_zero_literal (kind_of v) ≡ true)
    → (same_kind (kind_in f) (kind_in g) || (literal && is_some (kind_in f))) ≡ true → is_retyped (plain f) Prvalue (head_of v) ≡ true
null_row s g f v literal h i z n = retype_row f (head_of v) i
    ∙ or_more (same_kind (kind_in f) (word_kind (head_of v).typ (head_of v).cat)) (literal && is_some (kind_in f))
    (is_zero_literal (head_of v).kind && is_some (kind_in f))
    (λ e. let p = and_parts literal (is_some (kind_in f)) e in both (ap is_zero_literal (head_kind v) ∙ z p.0) p.1)
    (ap (λ (x : Option IntKind). same_kind (kind_in f) x || (literal && is_some (kind_in f))) (given_word s g v h) ∙ n)

stepped_gives : (s : Setting) (at : At) (step : Step) (g f : Form) (q r : Bool) (v : Tree) → Gives s g v → is_scalar f ≡ true
    → (step ≡ NullPointer → is_retyped (plain f) Prvalue (head_of v) ≡ true) → Gives s f (stepped at step (typ f q r) v)
stepped_gives s at NullPointer g f q r v h i n = retype_gives s at g f v h i (n refl)
stepped_gives s at step g f q r v h i n = converted_gives s at g f q r v h i

-- the value of an operand as one of a scalar to which it is converted
pub operand_gives : (s : Setting) (classes : List Class) (step : Step) (f : Form) (q r : Bool) (o : Operand) → IsOperand s o → is_scalar f ≡ true
    → step_of classes o.zero (decayed (typ_in o.tree)) f ≡ Some step → Gives s f (stepped o.at step (typ f q r) (valued o.at o.tree))
operand_gives s classes step f q r o h i e = stepped_gives s o.at step g f q r v (value_gives s o.at o.tree h.stands source) i
    (λ n. null_row s g f v o.zero (value_gives s o.at o.tree h.stands source) i (λ z. zero_value o.at o.tree (h.zero z))
    (null_step classes o.zero g f source i (from_value ∙ ap Some n)))
  where
    v : Tree
    v = valued o.at o.tree

    g : Form
    g = form_in (typ_in (valued o.at o.tree))

    from_value : step_of classes o.zero (form_in (typ_in (valued o.at o.tree))) f ≡ Some step
    from_value = ap (λ (x : Form). step_of classes o.zero x f) (value_form_is o.at o.tree) ∙ e

    source : is_scalar (form_in (typ_in (valued o.at o.tree))) ≡ true
    source = from_scalar classes o.zero (form_in (typ_in (valued o.at o.tree))) f i (ap is_some from_value)

-- Initialisation of a scalar

abbrev pub MadeGives : Setting → Form → Made → Type 0
MadeGives s f m = Gives s f m.tree

step_gives : (s : Setting) (c : Ctx) (w : Work) (f : Form) (q r : Bool) (o : Operand) (x : Option Step) → IsOperand s o → is_scalar f ≡ true
    → step_of c.classes o.zero (decayed (typ_in o.tree)) f ≡ x
    → On (MadeGives s f) (and_then (expect o.at NoConversion (bound Value x))
    (λ (v : Conversion). Ok (bound_by c w v.binding v.step (typ f q r) o.at o.tree)))
step_gives s c w f q r o None h i e = tt
step_gives s c w f q r o (Some step) h i e = operand_gives s c.classes step f q r o h i e

valued_gives : (s : Setting) (c : Ctx) (w : Work) (f : Form) (q r : Bool) (o : Operand) (b : Bool) → IsOperand s o → is_scalar f ≡ true
    → On (MadeGives s f) (and_then (expect o.at NoConversion (cond b (bound Value (step_of c.classes o.zero (decayed (typ_in o.tree)) f)) None))
    (λ (v : Conversion). Ok (bound_by c w v.binding v.step (typ f q r) o.at o.tree)))
valued_gives s c w f q r o true h i = step_gives s c w f q r o (step_of c.classes o.zero (decayed (typ_in o.tree)) f) h i refl
valued_gives s c w f q r o false h i = tt

pub initial_gives : (s : Setting) (c : Ctx) (w : Work) (f : Form) (q r : Bool) (o : Operand) → IsOperand s o → is_scalar f ≡ true
    → On (MadeGives s f) (initial c w (typ f q r) o)
initial_gives s c w (int k) q r o h i = valued_gives s c w (int k) q r o (has_value (typ_in o.tree)) h i
initial_gives s c w (enum n e) q r o h i = valued_gives s c w (enum n e) q r o (has_value (typ_in o.tree)) h i
initial_gives s c w null q r o h i = valued_gives s c w null q r o (has_value (typ_in o.tree)) h i
initial_gives s c w (ptr t) q r o h i = valued_gives s c w (ptr t) q r o (has_value (typ_in o.tree)) h i
initial_gives s c w void q r o h i = absurd cc
initial_gives s c w (ref t) q r o h i = absurd cc
initial_gives s c w (array t n) q r o h i = absurd cc
initial_gives s c w (func t) q r o h i = absurd cc
initial_gives s c w (class n) q r o h i = absurd cc
initial_gives s c w (closure n) q r o h i = absurd cc
initial_gives s c w (tx_ex t) q r o h i = absurd cc
