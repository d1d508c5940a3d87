-- `,` and `?:` own what their operands own, and what was added for them.
use Rattle.std.proofs.Common.{ℕ, ◌+◌, ◌≤◌, ◌&&◌, ◌||◌, Option, Some, None, is_some, Result, Ok, arith}
use Rattle.std.specs.Prelude.{if◌then◌else◌}
use Rattle.elab_rules.specs.tx_ints.declared.kinds.IntKind.{IntKind}
use Rattle.elab_rules.specs.tx_ints.Integers.{usual_of}
use Rattle.elab_rules.specs.cpp_types.Typ.{Typ, Form, ptr}
use Rattle.elab_rules.specs.cpp_types.Equal.{typ_eq, form_eq}
use Rattle.elab_rules.specs.cpp_types.declared.classes.At.{At}
use Rattle.elab_rules.specs.cpp_types.declared.ranks.Cat.TheVariants.{Prvalue}
use Rattle.elab_rules.specs.cpp_tree.Notation.{plain}
use Rattle.elab_rules.specs.cpp_tree.declared.kinds.TKind.TheVariants.{Retype}
use Rattle.elab_rules.specs.cpp_tree.declared.faults.ElabFault.{ElabFault}
use Rattle.elab_rules.specs.cpp_tree.declared.faults.IllRule.TheVariants.{BadOperand}
use Rattle.elab_rules.specs.cpp_tree.Trees.{Tree, node, none, more, typ_in, kind_of}
use Rattle.elab_rules.specs.cpp_tree.Typing.{is_void, kind_in}
use Rattle.elab_rules.specs.elab_ctx.Ctx.{Ctx, Work}
use Rattle.elab_rules.specs.elab_ctx.Steps.{check, Operand, Made}
use Rattle.elab_rules.specs.Values
use Rattle.elab_rules.specs.Initialising
use Rattle.elab_rules.specs.Operators
use Rattle.elab_fits.specs.Standing.{On}
use Rattle.elab_fits.proofs.Steps.{bind, skip, either_way as either, choose}
use Rattle.elab_movable.specs.Movable.{Sought, held}
use Rattle.elab_movable.proofs.Counting.{used, Gives, HoldsAtMost, same}
use Rattle.elab_movable.proofs.Values as values
use Rattle.elab_movable.proofs.Initials as initials
use Rattle.elab_movable.proofs.Operators as operators

module _ (g : Sought) where
  -- Values that are dropped

  pub bare_throw : (e : Tree) → held g (Operators.bare_throw e) ≤ held g e
  bare_throw (node Retype t cat at (more e none)) =
      choose (HoldsAtMost g (held g (node Retype t cat at (more e none)))) (Operators.is_throw (kind_of e) && Values.same_at at (Values.place_of e)) _ _
      (omega arith) (same (held g (node Retype t cat at (more e none))))
  bare_throw (node kind t cat at ts) = same (held g (node kind t cat at ts))

  pub dropped : (c : Ctx) (w : Work) (o : Operand) → Gives g (held g o.tree) w (Operators.dropped c w o)
  dropped c w o = choose (Gives g (held g o.tree) w) (Operators.throws o.tree) _ _ (omega (arith, bare_throw o.tree))
      (choose (Gives g (held g o.tree) w) (Operators.is_volatile_scalar (typ_in o.tree) && Operators.is_read_when_dropped o.tree) _ _
      (omega (arith, operators.value g o)) (initials.object g c w o.at o.tree))

  settled : (c : Ctx) (w : Work) (o : Operand) → Gives g (held g o.tree) w (Operators.settled c w o)
  settled c w o = choose (Gives g (held g o.tree) w) (Initialising.is_written_exception o.tree) _ _
      (initials.of_object g c w o.at o.tree (Initialising.exception_copied c (typ_in o.tree) o.at) (λ x. values.exception_copied g c (typ_in o.tree) o.at x)) (same (held g o.tree + used g w))

  pub comma : (c : Ctx) (w : Work) (at : At) (a b : Operand) → operators.GivesBoth g w a b (Operators.comma c w at a b)
  comma c w at a b = omega (arith, dropped c w a, settled c (Operators.dropped c w a).work b)

  -- `?:`

  -- the test and two operands
  abbrev Three : Tree → Operand → Operand → Tree → Type 0
  Three test a b e = held g e ≤ held g test + (held g a.tree + held g b.tree)

  abbrev GivesThree : Work → Tree → Operand → Operand → Made → Type 0
  GivesThree w test a b m = Gives g (held g test + (held g a.tree + held g b.tree)) w m

  two_numbers : (at : At) (test : Tree) (i j : Option IntKind) (a b : Operand) → On (Three test a b) (Operators.two_numbers at test i j a b)
  two_numbers at test (Some j) (Some k) a b = omega (arith, operators.as_kind g (usual_of j k) a, operators.as_kind g (usual_of j k) b)
  two_numbers at test (Some j) None a b = tt
  two_numbers at test None j a b = tt

  alike : (at : At) (test : Tree) (f h : Form) (a b : Operand)
      → On (Three test a b) (if form_eq f h && is_some (kind_in f) then Ok
      (Operators.conditional_node at (plain f) Prvalue test (Operators.value a) (Operators.value b)) else
      Operators.two_numbers at test (Operators.arithmetic f) (Operators.arithmetic h) a b)
  alike at test f h a b = either (Three test a b) (form_eq f h && is_some (kind_in f)) _ _ (omega (arith, operators.value g a, operators.value g b))
      (two_numbers at test (Operators.arithmetic f) (Operators.arithmetic h) a b)

  two_values : (at : At) (test : Tree) (f h : Form) (a b : Operand) → On (Three test a b) (Operators.two_values at test f h a b)
  two_values at test (ptr t) (ptr u) a b =
      skip (Three test a b) (check at BadOperand (typ_eq t u)) _ (λ y. omega (arith, operators.value g a, operators.value g b))
  two_values at test (ptr t) h a b =
      skip (Three test a b) (check at BadOperand (Operators.is_null b)) _ (λ y. omega (arith, operators.value g a, operators.as_pointer g t b))
  two_values at test f (ptr t) a b =
      skip (Three test a b) (check at BadOperand (Operators.is_null a)) _ (λ y. omega (arith, operators.as_pointer g t a, operators.value g b))
  two_values at test f h a b = alike at test f h a b

  two_objects : (c : Ctx) (w : Work) (at : At) (test : Tree) (a b : Operand) → On (GivesThree w test a b) (Operators.two_objects c w at test a b)
  two_objects c w at test a b = bind (Gives g (held g a.tree) w) (GivesThree w test a b) (Initialising.exact_object c w t a.at a) _
      (initials.exact_object g c w t a.at a)
      (λ x h. bind (Gives g (held g b.tree) x.work) (GivesThree w test a b) (Initialising.exact_object c x.work t b.at b) _
      (initials.exact_object g c x.work t b.at b) (λ y i. omega arith))
    where
      t : Typ
      t = Operators.joined_class a b

  -- a tree for which nothing was added
  pub same_work : (b : ℕ) (w : Work) (r : Result Tree ElabFault) → On (HoldsAtMost g b) r → On (Gives g b w) (Operators.same_work w r)
  same_work b w r h = bind (HoldsAtMost g b) (Gives g b w) r _ h (λ t i. omega arith)

  branches : (c : Ctx) (w : Work) (at : At) (test : Tree) (a b : Operand) → On (GivesThree w test a b) (Operators.branches c w at test a b)
  branches c w at test a b =
      either (GivesThree w test a b) (Operators.throws a.tree && Operators.throws b.tree) _ _ (omega (arith, bare_throw a.tree, bare_throw b.tree)) (
      either (GivesThree w test a b) (Operators.throws b.tree) _ _ (omega (arith, settled c w a, bare_throw b.tree)) (
      either (GivesThree w test a b) (Operators.throws a.tree) _ _ (omega (arith, settled c w b, bare_throw a.tree)) (
      either (GivesThree w test a b) (Operators.same_lvalues a b || (is_void (typ_in a.tree) && is_void (typ_in b.tree))) _ _ (omega arith) (
      either (GivesThree w test a b) (Operators.is_shared a b) _ _
      (omega (arith, values.seen_as g a.at (Operators.joined_class a b) a.tree, values.seen_as g b.at (Operators.joined_class a b) b.tree)) (
      either (GivesThree w test a b) (Operators.both_of_class a b) _ _ (two_objects c w at test a b)
      (same_work (held g test + (held g a.tree + held g b.tree)) w (Operators.two_values at test (Operators.value_form a) (Operators.value_form b) a b)
      (two_values at test (Operators.value_form a) (Operators.value_form b) a b)))))))

  abbrev pub GivesAllThree : Work → Operand → Operand → Operand → Made → Type 0
  GivesAllThree w a b d m = Gives g (held g a.tree + (held g b.tree + held g d.tree)) w m

  pub conditional : (c : Ctx) (w : Work) (at : At) (test a b : Operand) → On (GivesAllThree w test a b) (Operators.conditional c w at test a b)
  conditional c w at test a b = bind (HoldsAtMost g (held g test.tree)) (GivesAllThree w test a b) (Operators.truth c w test) _ (operators.truth g c w test)
      (λ t h. weaker w t test a b (Operators.branches c w at t a b) h (branches c w at t a b))
    where
      weaker : (v : Work) (t : Tree) (x y z : Operand) (r : Result Made ElabFault) → held g t ≤ held g x.tree → On (GivesThree v t y z) r
          → On (GivesAllThree v x y z) r
      weaker v t x y z r i = initials.wider g (held g t + (held g y.tree + held g z.tree)) (held g x.tree + (held g y.tree + held g z.tree)) v r (omega arith)
