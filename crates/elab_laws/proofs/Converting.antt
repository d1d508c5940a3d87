-- Values brought to a kind of numbers.
use Rattle.std.proofs.Common.{◌≡◌, refl, sym, Bool, true, false, Option, Some, None}
use Rattle.elab_rules.specs.tx_ints.declared.kinds.IntKind.{IntKind}
use Rattle.elab_rules.specs.cpp_types.Typ.{Typ, typ, Form, void, int, enum, null, ptr, ref, array, func, class, closure, tx_ex}
use Rattle.elab_rules.specs.cpp_types.Equal.{kind_eq, typ_eq}
use Rattle.elab_rules.specs.cpp_types.declared.classes.At.{At}
use Rattle.elab_rules.specs.cpp_types.declared.ranks.Cat.{Cat}
use Rattle.elab_rules.specs.cpp_types.declared.ranks.Cat.TheVariants.{Lvalue, Prvalue}
use Rattle.elab_rules.specs.cpp_tree.declared.kinds.TKind.{TKind}
use Rattle.elab_rules.specs.cpp_tree.Trees.{Tree, node, Trees, typ_in, cat_of}
use Rattle.elab_rules.specs.cpp_tree.Typing.{form_in, kind_in}
use Rattle.elab_rules.specs.cpp_tree.Notation.{plain}
use Rattle.elab_rules.specs.elab_ctx.Steps.{Operand}
use Rattle.elab_rules.specs.Values.{valued, between, retyped_if}
use Rattle.elab_rules.specs.Operators.{value, value_form, arithmetic, as_kind}
use Rattle.elab_laws.specs.Reading.{IsPrvalue}
use Rattle.elab_laws.proofs.Equal.{typ_same}

-- a converted value has the type that it is converted to, where both are scalars
retyped_is : (at : At) (b : Bool) (t : Typ) (v : Tree) → (b ≡ true → typ_in v ≡ t) → typ_in (retyped_if at b t v) ≡ t
retyped_is at true t v h = h refl
retyped_is at false t v h = refl

between_type : (at : At) (i j : IntKind) (b : Bool) (t : Typ) (v : Tree) → kind_eq i j ≡ b → typ_in (between at (Some i) (Some j) t v) ≡ t
between_type at i j true t v e = rw e (retyped_is at (typ_eq t (typ_in v)) t v (λ h. sym (typ_same t (typ_in v) h)))
between_type at i j false t v e = rw e refl

pub between_is : (at : At) (i j : Option IntKind) (t : Typ) (v : Tree) (m n : IntKind) → i ≡ Some m → j ≡ Some n → typ_in (between at i j t v) ≡ t
between_is at i j t v m n e f = rw (e, f) (between_type at m n (kind_eq m n) t v refl)

retyped_prvalue : (at : At) (b : Bool) (t : Typ) (v : Tree) → cat_of v ≡ Prvalue → cat_of (retyped_if at b t v) ≡ Prvalue
retyped_prvalue at true t v h = h
retyped_prvalue at false t v h = refl

between_cat : (at : At) (i j : IntKind) (b : Bool) (t : Typ) (v : Tree) → kind_eq i j ≡ b → cat_of v ≡ Prvalue
    → cat_of (between at (Some i) (Some j) t v) ≡ Prvalue
between_cat at i j true t v e h = rw e (retyped_prvalue at (typ_eq t (typ_in v)) t v h)
between_cat at i j false t v e h = rw e refl

pub between_prvalue : (at : At) (i j : Option IntKind) (t : Typ) (v : Tree) → cat_of v ≡ Prvalue → cat_of (between at i j t v) ≡ Prvalue
between_prvalue at (Some i) (Some j) t v h = between_cat at i j (kind_eq i j) t v refl h
between_prvalue at (Some i) None t v h = h
between_prvalue at None j t v h = h

-- the value of an operand that is a scalar is a prvalue
value_cat_is : (at : At) (kind : TKind) (f : Form) (d v : Bool) (cat : Cat) (p : At) (kids : Trees) (j : IntKind)
    → kind_in (form_in (typ_in (valued at (node kind (typ f d v) cat p kids)))) ≡ Some j → cat_of (valued at (node kind (typ f d v) cat p kids)) ≡ Prvalue
value_cat_is at kind (func s) d v cat p kids j h = refl
value_cat_is at kind (array t n) d v cat p kids j h = refl
value_cat_is at kind (int i) d v Lvalue p kids j h = refl
value_cat_is at kind (enum n s) d v Lvalue p kids j h = refl
value_cat_is at kind null d v Lvalue p kids j h = refl
value_cat_is at kind (ptr t) d v Lvalue p kids j h = refl
value_cat_is at kind (ref t) d v Lvalue p kids j h = refl
value_cat_is at kind void d v Lvalue p kids j h = absurd cc
value_cat_is at kind (class n) d v Lvalue p kids j h = absurd cc
value_cat_is at kind (closure n) d v Lvalue p kids j h = absurd cc
value_cat_is at kind (tx_ex t) d v Lvalue p kids j h = absurd cc
value_cat_is at kind f d v Prvalue p kids j h = refl

pub tree_cat : (at : At) (e : Tree) (j : IntKind) → kind_in (form_in (typ_in (valued at e))) ≡ Some j → cat_of (valued at e) ≡ Prvalue
tree_cat at (node kind (typ f d v) cat p kids) j h = value_cat_is at kind f d v cat p kids j h

word_kind_is : (f : Form) (j : IntKind) → arithmetic f ≡ Some j → kind_in f ≡ Some j
word_kind_is (int i) j h = h
word_kind_is (enum n false) j h = h
word_kind_is (enum n true) j h = absurd cc
word_kind_is void j h = absurd cc
word_kind_is null j h = absurd cc
word_kind_is (ptr t) j h = absurd cc
word_kind_is (ref t) j h = absurd cc
word_kind_is (array t n) j h = absurd cc
word_kind_is (func s) j h = absurd cc
word_kind_is (class n) j h = absurd cc
word_kind_is (closure n) j h = absurd cc
word_kind_is (tx_ex t) j h = absurd cc

pub as_kind_is : (x : Operand) (j k : IntKind) → arithmetic (value_form x) ≡ Some j → IsPrvalue (plain (int k)) (as_kind k x)
as_kind_is x j k h = record {
  has_type = between_is x.at (kind_in (value_form x)) (Some k) (plain (int k)) (value x) j k (word_kind_is (value_form x) j h) refl;
  category = between_prvalue x.at (kind_in (value_form x)) (Some k) (plain (int k)) (value x) (tree_cat x.at x.tree j (word_kind_is (value_form x) j h));
}
