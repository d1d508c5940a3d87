-- Operators own what their operands own, and what was added for them.
use Rattle.std.proofs.Common.{ℕ, ◌+◌, ◌≤◌, Bool, true, false, not, ◌&&◌, List, Option, Some, None, is_some, Ok, cond}
use Rattle.std.proofs.Common.{arith}
use Rattle.std.specs.Prelude.{if◌then◌else◌}
use Rattle.elab_rules.specs.tx_ints.declared.kinds.IntKind.{IntKind}
use Rattle.elab_rules.specs.tx_ints.declared.kinds.IntKind.TheVariants.{Bool as BoolKind, ULong, Int, Long}
use Rattle.elab_rules.specs.tx_ints.declared.kinds.BinOp.{BinOp}
use Rattle.elab_rules.specs.tx_ints.declared.kinds.BinOp.TheVariants.{Add, Sub, Xor}
use Rattle.elab_rules.specs.tx_ints.Integers.{usual_of, promote_of, is_shift}
use Rattle.elab_rules.specs.cpp_types.Typ.{Typ, Form, int, enum, ptr, class, tx_ex}
use Rattle.elab_rules.specs.cpp_types.Equal.{kind_eq, typ_eq, form_eq}
use Rattle.elab_rules.specs.cpp_types.Conversion.{is_lvalue, decayed, has_value, step_of}
use Rattle.elab_rules.specs.cpp_types.Conversion.{bound as to_value}
use Rattle.elab_rules.specs.cpp_types.declared.ranks.Step.{Step}
use Rattle.elab_rules.specs.cpp_types.declared.ranks.Binding.TheVariants.{Value}
use Rattle.elab_rules.specs.cpp_types.declared.ranks.Conversion.{Conversion}
use Rattle.elab_rules.specs.cpp_types.declared.classes.At.{At}
use Rattle.elab_rules.specs.cpp_types.declared.ranks.Cat.TheVariants.{Prvalue}
use Rattle.elab_rules.specs.cpp_tree.declared.kinds.TKind.TheVariants.{Conditional}
use Rattle.elab_rules.specs.cpp_tree.declared.faults.IllRule.TheVariants.{NoConversion, BadOperand, NotLvalue, NoCopy}
use Rattle.elab_rules.specs.cpp_tree.Trees.{Tree, node, three, typ_in, cat_of}
use Rattle.elab_rules.specs.cpp_tree.Notation.{plain}
use Rattle.elab_rules.specs.cpp_tree.Typing.{form_in, unqualified, is_class_typ, is_volatile_typ, kind_in}
use Rattle.elab_rules.specs.elab_ctx.Ctx.{Ctx, Work}
use Rattle.elab_rules.specs.elab_ctx.Steps.{and_then, expect, check, Operand, Made}
use Rattle.elab_rules.specs.Objects
use Rattle.elab_rules.specs.Values
use Rattle.elab_rules.specs.Initialising
use Rattle.elab_rules.specs.Operators
use Rattle.elab_fits.specs.Standing.{On}
use Rattle.elab_fits.proofs.Steps.{bind, skip, either_way as either, choose}
use Rattle.elab_movable.specs.Movable.{Sought, held}
use Rattle.elab_movable.proofs.Counting.{Gives, HoldsAtMost, same}
use Rattle.elab_movable.proofs.Parts as parts
use Rattle.elab_movable.proofs.Values as values
use Rattle.elab_movable.proofs.Initials as initials

module _ (g : Sought) where
  -- Operands

  pub value : (o : Operand) → held g (Operators.value o) ≤ held g o.tree
  value o = values.valued g o.at o.tree

  pub as_kind : (k : IntKind) (o : Operand) → held g (Operators.as_kind k o) ≤ held g o.tree
  as_kind k o = omega (arith, values.converted g o.at (plain (int k)) (Operators.value o), value o)

  pub as_pointer : (t : Typ) (o : Operand) → held g (Operators.as_pointer t o) ≤ held g o.tree
  as_pointer t o = omega (arith, value o)

  -- two operands
  abbrev pub Both : Operand → Operand → Tree → Type 0
  Both a b e = held g e ≤ held g a.tree + held g b.tree

  operated : (op : BinOp) (k : IntKind) (t : Typ) (at : At) (x y : Tree) → held g (Values.operated op k t at x y) ≤ held g x + held g y
  operated op k t at x y = omega arith

  -- Arithmetic

  arithmetic : (op : BinOp) (at : At) (i j : Option IntKind) (a b : Operand) → On (Both a b) (Operators.arithmetic_of op at i j a b)
  arithmetic op at (Some j) (Some k) a b = either (Both a b) (is_shift op) _ _
      (omega (arith, as_kind (promote_of j) a, as_kind (promote_of k) b)) (omega (arith, as_kind (usual_of j k) a, as_kind (usual_of j k) b))
  arithmetic op at (Some j) None a b = tt
  arithmetic op at None j a b = tt

  scaled : (c : Ctx) (at : At) (t : Typ) (o : Operand) → held g (Operators.scaled c at t o) ≤ held g o.tree
  scaled c at t o = omega (arith, as_kind ULong o)

  moved : (c : Ctx) (op : BinOp) (at : At) (t : Typ) (a b : Operand) → Both a b (Operators.moved c op at t a b)
  moved c op at t a b = omega (arith, value a, scaled c at t b)

  moved_back : (c : Ctx) (at : At) (t : Typ) (a b : Operand) → Both a b (Operators.moved_back c at t a b)
  moved_back c at t a b = omega (arith, value b, scaled c at t a)

  difference : (c : Ctx) (at : At) (t : Typ) (a b : Operand) → Both a b (Operators.difference c at t a b)
  difference c at t a b = omega (
    arith,
    value a,
    value b,
    values.converted g at (plain (int Long)) (Values.operated Sub ULong Values.size_type at (Operators.value a) (Operators.value b)),
  )

  pointer_and_number : (c : Ctx) (op : BinOp) (at : At) (t : Typ) (a b : Operand)
      → On (Both a b) (and_then (check at BadOperand (is_some (Operators.arithmetic (Operators.value_form b))))
      (λ y. and_then (Operators.movable c at a.at t) (λ z. Ok (Operators.moved c op at t a b))))
  pointer_and_number c op at t a b = skip (Both a b) (check at BadOperand (is_some (Operators.arithmetic (Operators.value_form b)))) _
      (λ y. skip (Both a b) (Operators.movable c at a.at t) _ (λ z. moved c op at t a b))

  number_and_pointer : (c : Ctx) (at : At) (t : Typ) (a b : Operand)
      → On (Both a b) (and_then (check at BadOperand (is_some (Operators.arithmetic (Operators.value_form a))))
      (λ y. and_then (Operators.movable c at b.at t) (λ z. Ok (Operators.moved_back c at t a b))))
  number_and_pointer c at t a b = skip (Both a b) (check at BadOperand (is_some (Operators.arithmetic (Operators.value_form a)))) _
      (λ y. skip (Both a b) (Operators.movable c at b.at t) _ (λ z. moved_back c at t a b))

  numbers : (op : BinOp) (at : At) (a b : Operand)
      → On (Both a b) (Operators.arithmetic_of op at (Operators.arithmetic (Operators.value_form a)) (Operators.arithmetic (Operators.value_form b)) a b)
  numbers op at a b = arithmetic op at (Operators.arithmetic (Operators.value_form a)) (Operators.arithmetic (Operators.value_form b)) a b

  pub sum : (c : Ctx) (op : BinOp) (at : At) (t u : Option Typ) (a b : Operand) → On (Both a b) (Operators.sum_of c op at t u a b)
  sum c Sub at (Some t) (Some u) a b = skip (Both a b) (check at BadOperand (typ_eq t u)) _
      (λ y. skip (Both a b) (Operators.movable c at a.at t) _ (λ z. difference c at t a b))
  sum c op at (Some t) None a b = pointer_and_number c op at t a b
  sum c Add at None (Some t) a b = number_and_pointer c at t a b
  sum c op at t u a b = numbers op at a b

  -- Comparisons

  comparison_by : (op : BinOp) (at : At) (i j : Option IntKind) (a b : Operand) → On (Both a b) (Operators.comparison_by op at i j a b)
  comparison_by op at (Some j) (Some k) a b = omega (arith, as_kind (usual_of j k) a, as_kind (usual_of j k) b)
  comparison_by op at (Some j) None a b = tt
  comparison_by op at None j a b = tt

  scoped : (op : BinOp) (at : At) (m : List ℕ) (h : Form) (a b : Operand)
      → On (Both a b) (and_then (check at BadOperand (form_eq (enum m true) h))
      (λ y. Ok (Operators.compared op Int at (Operators.value a) (Operators.value b))))
  scoped op at m h a b = skip (Both a b) (check at BadOperand (form_eq (enum m true) h)) _ (λ y. omega (arith, value a, value b))

  comparison : (op : BinOp) (at : At) (f h : Form) (a b : Operand) → On (Both a b) (Operators.comparison_in op at f h a b)
  comparison op at (ptr t) (ptr u) a b = skip (Both a b) (check at BadOperand (typ_eq t u)) _ (λ y. omega (arith, value a, value b))
  comparison op at (ptr t) h a b = skip (Both a b) (check at BadOperand (Operators.is_null b)) _ (λ y. omega (arith, value a, as_pointer t b))
  comparison op at f (ptr t) a b = skip (Both a b) (check at BadOperand (Operators.is_null a)) _ (λ y. omega (arith, as_pointer t a, value b))
  comparison op at (enum m true) h a b = scoped op at m h a b
  comparison op at f h a b = comparison_by op at (Operators.arithmetic f) (Operators.arithmetic h) a b

  pub binary : (c : Ctx) (op : BinOp) (at : At) (a b : Operand) → On (Both a b) (Operators.binary c op at a b)
  binary c op at a b = either (Both a b) (Operators.is_comparison op) _ _
      (comparison op at (Operators.value_form a) (Operators.value_form b) a b)
      (either (Both a b) (Operators.is_sum op) _ _
      (sum c op at (Operators.pointed (Operators.value_form a)) (Operators.pointed (Operators.value_form b)) a b) (numbers op at a b))

  -- Truth: it is no reference, so nothing is added for it

  truth_by : (c : Ctx) (w : Work) (o : Operand) (x : Option Step)
      → On (HoldsAtMost g (held g o.tree)) (and_then (and_then (expect o.at NoConversion (to_value Value x))
      (λ (v : Conversion). Ok (Initialising.bound_by c w v.binding v.step Values.bool_type o.at o.tree))) (λ (m : Made). Ok m.tree))
  truth_by c w o None = tt
  truth_by c w o (Some step) = omega (arith, values.stepped g o.at step Values.bool_type (Values.valued o.at o.tree), values.valued g o.at o.tree)

  truth_if : (c : Ctx) (w : Work) (o : Operand) (b : Bool)
      → On (HoldsAtMost g (held g o.tree)) (and_then (and_then (expect o.at NoConversion
      (cond b (to_value Value (step_of c.classes o.zero (decayed (typ_in o.tree)) (int BoolKind))) None))
      (λ (v : Conversion). Ok (Initialising.bound_by c w v.binding v.step Values.bool_type o.at o.tree))) (λ (m : Made). Ok m.tree))
  truth_if c w o true = truth_by c w o (step_of c.classes o.zero (decayed (typ_in o.tree)) (int BoolKind))
  truth_if c w o false = tt

  pub truth : (c : Ctx) (w : Work) (o : Operand) → On (HoldsAtMost g (held g o.tree)) (Operators.truth c w o)
  truth c w o = truth_if c w o (has_value (typ_in o.tree))

  logical_by : (b : Bool) (at : At) (x y : Tree)
      → held g (node Conditional Values.bool_type Prvalue at (if b then three x y (Operators.false_at at) else three x (Operators.true_at at) y))
      ≤ held g x + held g y
  logical_by true at x y = omega arith
  logical_by false at x y = omega arith

  pub logical : (c : Ctx) (w : Work) (is_and : Bool) (at : At) (a b : Operand) → On (Both a b) (Operators.logical c w is_and at a b)
  logical c w is_and at a b = bind (HoldsAtMost g (held g a.tree)) (Both a b) (Operators.truth c w a) _ (truth c w a)
      (λ x h. bind (HoldsAtMost g (held g b.tree)) (Both a b) (Operators.truth c w b) _ (truth c w b) (λ y i. omega (arith, logical_by is_and at x y)))

  pub negation : (c : Ctx) (w : Work) (at : At) (a : Operand) → On (HoldsAtMost g (held g a.tree)) (Operators.negation c w at a)
  negation c w at a = bind (HoldsAtMost g (held g a.tree)) (HoldsAtMost g (held g a.tree)) (Operators.truth c w a) _ (truth c w a)
      (λ x h. omega (arith, values.converted g a.at (plain (int Int)) x))

  -- Operators of one operand

  with_arithmetic : (at : At) (a : Operand) (f : IntKind → Tree) → ((k : IntKind) → held g (f k) ≤ held g a.tree)
      → On (HoldsAtMost g (held g a.tree)) (Operators.with_arithmetic at a f)
  with_arithmetic at a f h = skip (HoldsAtMost g (held g a.tree)) (expect at BadOperand (Operators.arithmetic (Operators.value_form a))) _
      (λ k. h (promote_of k))

  pub minus : (at : At) (a : Operand) → On (HoldsAtMost g (held g a.tree)) (Operators.minus at a)
  minus at a = with_arithmetic at a (λ k. Values.operated Sub k (plain (int k)) at (Values.number k 0 at) (Operators.as_kind k a)) (λ k. omega (arith, as_kind k a))

  pub complement : (at : At) (a : Operand) → On (HoldsAtMost g (held g a.tree)) (Operators.complement at a)
  complement at a = with_arithmetic at a
      (λ k. Values.operated Xor k (plain (int k)) at (Operators.as_kind k a) (Values.number k (Operators.ones k) at)) (λ k. omega (arith, as_kind k a))

  pub plus : (at : At) (a : Operand) → On (HoldsAtMost g (held g a.tree)) (Operators.plus at a)
  plus at a = with_arithmetic at a (λ k. Operators.as_kind k a) (λ k. as_kind k a)

  pub indirection : (at : At) (a : Operand) → On (HoldsAtMost g (held g a.tree)) (Operators.indirection at a)
  indirection at a = skip (HoldsAtMost g (held g a.tree)) (expect at BadOperand (Operators.pointed (Operators.value_form a))) _
      (λ t. omega (arith, value a))

  pub address : (at : At) (a : Operand) → On (HoldsAtMost g (held g a.tree)) (Operators.address_of at a)
  address at a = skip (HoldsAtMost g (held g a.tree)) (check at NotLvalue (is_lvalue (cat_of a.tree))) _ (λ y. omega arith)

  pub subscript : (c : Ctx) (at : At) (a b : Operand) → On (Both a b) (Operators.subscript c at a b)
  subscript c at a b =
      bind (Both a b) (Both a b) (Operators.sum_of c Add at (Operators.pointed (Operators.value_form a)) (Operators.pointed (Operators.value_form b)) a b) _
      (sum c Add at (Operators.pointed (Operators.value_form a)) (Operators.pointed (Operators.value_form b)) a b)
      (λ e h. skip (Both a b) (expect at BadOperand (Operators.pointed (form_in (typ_in e)))) _ (λ t. omega arith))

  -- Assignments

  assigned : (at : At) (k : Option IntKind) (a : Operand) (v : Tree)
      → On (HoldsAtMost g (held g a.tree + held g v)) (Operators.assigned at k a v)
  assigned at (Some k) a v = omega arith
  assigned at None a v = tt

  -- two operands, with what was added
  abbrev pub GivesBoth : Work → Operand → Operand → Made → Type 0
  GivesBoth w a b m = Gives g (held g a.tree + held g b.tree) w m

  copy_assigned : (c : Ctx) (w : Work) (at : At) (a b : Operand) (f : Tree → Tree) (t : Typ) → ((x : Tree) → held g (f x) ≤ held g x)
      → On (GivesBoth w a b) (Operators.copy_assigned c w at a b f t)
  copy_assigned c w at a b f t h = skip (GivesBoth w a b) (check b.at NoCopy (not (is_volatile_typ (typ_in b.tree)))) _
      (λ z. omega (arith, initials.object g c w b.at b.tree, h (Initialising.object_of c w b.at b.tree).tree, parts.copies g c.classes at t))

  class_assigned : (c : Ctx) (w : Work) (at : At) (a b : Operand) (f : Form) → On (GivesBoth w a b) (Operators.class_assigned_in c w at a b f)
  class_assigned c w at a b (class n) =
      skip (GivesBoth w a b) (check b.at NoConversion (Initialising.is_same_or_base c.classes (Initialising.class_number (typ_in b.tree)) (Some n))) _
      (λ x. skip (GivesBoth w a b) (check at NoCopy ((Objects.traits_at c n).is_assignable && not (is_volatile_typ (typ_in a.tree)))) _
      (λ y. copy_assigned c w at a b (Initialising.as_source b.at n) (typ_in a.tree) (λ e. values.as_source g b.at n e)))
  class_assigned c w at a b (tx_ex t) = skip (GivesBoth w a b) (check b.at NoConversion (form_eq (form_in (typ_in b.tree)) (tx_ex t))) _
      (λ x. skip (GivesBoth w a b) (check at NoCopy (Operators.is_assignable_form c (form_in t) && not (is_volatile_typ (typ_in a.tree)))) _
      (λ y. copy_assigned c w at a b Operators.same_object t (λ e. same (held g e))))
  class_assigned c w at a b f = tt

  scalar_assigned : (c : Ctx) (w : Work) (at : At) (a b : Operand)
      → On (GivesBoth w a b) (and_then (Initialising.initial c w (unqualified (typ_in a.tree)) b)
      (λ (m : Made). and_then (Operators.assigned at (kind_in (form_in (typ_in a.tree))) a m.tree) (λ (t : Tree). Ok (record { tree = t; work = m.work }))))
  scalar_assigned c w at a b = bind (Gives g (held g b.tree) w) (GivesBoth w a b) (Initialising.initial c w (unqualified (typ_in a.tree)) b) _
      (initials.initial g c w (unqualified (typ_in a.tree)) b)
      (λ m h. bind (HoldsAtMost g (held g a.tree + held g m.tree)) (GivesBoth w a b) (Operators.assigned at (kind_in (form_in (typ_in a.tree))) a m.tree) _
      (assigned at (kind_in (form_in (typ_in a.tree))) a m.tree) (λ t i. omega arith))

  pub assignment : (c : Ctx) (w : Work) (at : At) (a b : Operand) → On (GivesBoth w a b) (Operators.assignment c w at a b)
  assignment c w at a b = skip (GivesBoth w a b) (Operators.target at a) _
      (λ y. either (GivesBoth w a b) (is_class_typ (typ_in a.tree)) _ _ (class_assigned c w at a b (form_in (typ_in a.tree)))
      (skip (GivesBoth w a b) (check at BadOperand (is_some (kind_in (form_in (typ_in a.tree))))) _ (λ x. scalar_assigned c w at a b)))

  updated : (op : BinOp) (i j : IntKind) (old : Bool) (at : At) (a : Operand) (r : Tree)
      → held g (Operators.updated op i j old at a r) ≤ held g a.tree + held g r
  updated op i j old at a r = omega arith

  compound_numbers : (op : BinOp) (at : At) (j k : IntKind) (a b : Operand) → Both a b (Operators.compound_numbers op at j k a b)
  compound_numbers op at j k a b = choose (Both a b) (is_shift op) _ _ (omega (arith, as_kind (promote_of k) b)) (omega (arith, as_kind (usual_of j k) b))

  compound_in : (c : Ctx) (op : BinOp) (at : At) (f : Form) (a b : Operand) → On (Both a b) (Operators.compound_in c op at f a b)
  compound_in c op at (ptr t) a b =
      skip (Both a b) (check at BadOperand (Operators.is_sum op && is_some (Operators.arithmetic (Operators.value_form b)))) _
      (λ y. skip (Both a b) (Operators.movable c at a.at t) _ (λ z. omega (arith, scaled c at t b)))
  compound_in c op at (int j) a b = skip (Both a b) (expect at BadOperand (Operators.arithmetic (Operators.value_form b))) _ (λ k. compound_numbers op at j k a b)
  compound_in c op at f a b = tt

  pub compound : (c : Ctx) (op : BinOp) (at : At) (a b : Operand) → On (Both a b) (Operators.compound c op at a b)
  compound c op at a b = skip (Both a b) (Operators.target at a) _ (λ y. compound_in c op at (form_in (typ_in a.tree)) a b)

  step_in : (c : Ctx) (op : BinOp) (old : Bool) (at : At) (f : Form) (a : Operand)
      → On (HoldsAtMost g (held g a.tree)) (Operators.step_in c op old at f a)
  step_in c op old at (ptr t) a = skip (HoldsAtMost g (held g a.tree)) (Operators.movable c at a.at t) _ (λ z. omega arith)
  step_in c op old at (int j) a = skip (HoldsAtMost g (held g a.tree)) (check at BadOperand (not (kind_eq j BoolKind))) _ (λ y. omega arith)
  step_in c op old at f a = tt

  pub step : (c : Ctx) (op : BinOp) (old : Bool) (at : At) (a : Operand) → On (HoldsAtMost g (held g a.tree)) (Operators.step c op old at a)
  step c op old at a = skip (HoldsAtMost g (held g a.tree)) (Operators.target at a) _ (λ y. step_in c op old at (form_in (typ_in a.tree)) a)
