-- Small steps: names that are declared twice, results by their type, values of `switch`.
use Rattle.std.proofs.Common.{◌≡◌, ◌∙◌, ℕ, Bool, true, false, nat_lt, lt-ltb, arith, length, List, [], ◌∷◌, Some, Result, Ok, Err, refl, sym, ap, subst}
use Rattle.elab_expr.specs.cpp_types.Typ.{Typ, typ, void, int, enum, null, ptr, ref, array, func, class, closure, tx_ex, typ_of}
use Rattle.elab_expr.specs.cpp_types.declared.classes.At.{At}
use Rattle.elab_expr.specs.cpp_names.declared.entity.Entity.{Entity}
use Rattle.elab_expr.specs.cpp_names.Names.{innermost_of}
use Rattle.elab_expr.specs.cpp_tree.declared.faults.ElabFault.{ElabFault}
use Rattle.elab_expr.specs.cpp_tree.declared.faults.ElabFault.TheVariants.{Ill}
use Rattle.elab_expr.specs.cpp_tree.declared.faults.IllRule.TheVariants.{Redeclared}
use Rattle.elab_expr.specs.cpp_tree.declared.arena.TNodeId.{TNodeId}
use Rattle.elab_expr.specs.cpp_tree.Trees.{Tree, typ_in}
use Rattle.elab_expr.specs.cpp_tree.Arena.{tree_at, trees_at, Adds}
use Rattle.elab_expr.specs.cpp_tree.declared.kinds.TKind.{TKind}
use Rattle.elab_expr.specs.cpp_tree.declared.kinds.TKind.TheVariants.{Materialize}
use Rattle.elab_expr.proofs.elab_ctx.Looks.{grows_trans}
use Rattle.elab_expr.specs.elab_ctx.Operands.{operand_in}
use Rattle.elab_expr.specs.elab_ctx.declared.operand.Operand.{Operand as OperandRec}
use Rattle.elab_expr.specs.elab_rules.Operators.{value}
use Rattle.elab_expr.specs.cpp_tree.Typing.{form_in, is_void, is_class_typ}
use Rattle.elab_expr.specs.elab_ctx.Ctx.{Ctx}
use Rattle.elab_expr.specs.elab_ctx.Steps.{and_then, check, Operand}
use Rattle.elab_expr.specs.elab_ctx.Says.{Faults}
use Rattle.elab_expr.specs.elab_rules.Statements.{State, Done, Full, Switched, Caught, full, is_temporary_with, is_fresh, return_value, switched_type}
use Rattle.elab_expr.specs.elab_rules.Statements.{switch_value}
use Rattle.elab_scopes.specs.declared.state.State.{State as StateRec}
use Rattle.elab_scopes.specs.Returning.{return_object, return_scalar}
use Rattle.elab_scopes.specs.Wholes.{value_at, switched_on}
use Rattle.elab_scopes.specs.declared.state.SwitchedOn.{SwitchedOn}
use Rattle.elab_scopes.specs.States.{state_of, made, full_in}
use Rattle.elab_scopes.proofs.Standing.{grown_by}
use Rattle.elab_scopes.specs.Says.{Does, SwitchedAt}
use Rattle.elab_scopes.specs.declared.state.Caught.{Caught as CaughtRec}
use Rattle.elab_scopes.specs.Caught.{Catches}

pub declared_twice : (c : Ctx) (at : At) (name : List ℕ) (e : Entity) → innermost_of c.scopes name ≡ Some e
    → check at Redeclared (is_fresh c name) ≡ Err (Ill at Redeclared)
declared_twice c at name e h = rw h refl

pub value_object : (at : At) (t : Typ) (f : Full) → is_void t ≡ false → is_class_typ t ≡ true → return_value at t f ≡ return_object at t f
value_object at (typ void d v) f h k = absurd cc
value_object at (typ (int j) d v) f h k = absurd cc
value_object at (typ (enum n x) d v) f h k = absurd cc
value_object at (typ null d v) f h k = absurd cc
value_object at (typ (ptr u) d v) f h k = absurd cc
value_object at (typ (ref u) d v) f h k = absurd cc
value_object at (typ (array u n) d v) f h k = absurd cc
value_object at (typ (func g) d v) f h k = absurd cc
value_object at (typ (class n) d v) f h k = refl
value_object at (typ (closure n) d v) f h k = refl
value_object at (typ (tx_ex u) d v) f h k = refl

pub value_scalar : (at : At) (t : Typ) (f : Full) → is_void t ≡ false → is_class_typ t ≡ false → return_value at t f ≡ return_scalar at t f
value_scalar at (typ void d v) f h k = absurd cc
value_scalar at (typ (int j) d v) f h k = refl
value_scalar at (typ (enum n x) d v) f h k = refl
value_scalar at (typ null d v) f h k = refl
value_scalar at (typ (ptr u) d v) f h k = refl
value_scalar at (typ (ref u) d v) f h k = refl
value_scalar at (typ (array u n) d v) f h k = refl
value_scalar at (typ (func g) d v) f h k = refl
value_scalar at (typ (class n) d v) f h k = absurd cc
value_scalar at (typ (closure n) d v) f h k = absurd cc
value_scalar at (typ (tx_ex u) d v) f h k = absurd cc

pub same_value : (t : Typ) (e : Tree) (o : Operand) → switch_value t e o ≡ value_at o.at t e
same_value (typ (int j) d v) e o = refl
same_value (typ f d v) e o = refl

pub does_fail : (a b : StateRec) (r : Result TNodeId ElabFault) (f : ElabFault) (x : Result Done ElabFault) → r ≡ Err f → Faults f x → Does a b r x
does_fail a b r f x h g = subst (λ (z : Result TNodeId ElabFault). Does a b z x) (sym h) g

pub switched_made : (a c : StateRec) (mid : List Tree) (o : OperandRec) (id : TNodeId) (r : SwitchedOn) (t x : Typ)
    → Adds (made a) mid id (value (operand_in (made a) o)) → typ_in (tree_at mid id) ≡ x → switched_type o.at (form_in x) ≡ Ok t
    → Adds mid (made c) r.value (full o.at (value_at o.at t (tree_at mid id))) → t ≡ typ_of r.ty → state_of c ≡ state_of a
    → SwitchedAt a c r (switched_on (full_in a o))
switched_made a c mid o id r t x m e w n q s =
    let whole : Tree = value (operand_in (made a) o) in
    let made_of : Typ → Result Switched ElabFault = λ u. Ok
    (record { value = full o.at (switch_value u whole (operand_in (made a) o)); typ = u; state = state_of a }) in
    record {
      grown = grown_by a c (grows_trans m.grows n.grows) (ap (λ (z : State). z.ctx.labels) s);
      within = n.within;
      is = ap (λ (z : Typ). and_then (switched_type o.at (form_in z)) made_of) (ap typ_in (sym m.is) ∙ e)
          ∙ ap (λ (z : Result Typ ElabFault). and_then z made_of) w
          ∙ ap (λ (z : Tree). Ok (record { value = z; typ = t; state = state_of a }))
          (ap (full o.at) (same_value t whole (operand_in (made a) o) ∙ ap (value_at o.at t) (sym m.is)) ∙ sym n.is)
          ∙ ap (λ (z : Typ). Ok (record { value = tree_at (made c) r.value; typ = z; state = state_of a })) q
          ∙ ap (λ (z : State). Ok (record { value = tree_at (made c) r.value; typ = typ_of r.ty; state = z })) (sym s);
    }

pub catches_same : (a c : StateRec) (r : Result CaughtRec ElabFault) (x y : Result Caught ElabFault) → y ≡ x → Catches a c r x → Catches a c r y
catches_same a c r x y e m = subst (λ (z : Result Caught ElabFault). Catches a c r z) (sym e) m

pub temporary_is : (ts : List Tree) (p : ℕ) (b : Bool) (kind : TKind) (ids : List TNodeId) → kind ≡ Materialize p b → b ≡ false
    → nat_lt 1 (length ids) ≡ is_temporary_with kind (trees_at ts ids)
temporary_is ts p b kind [] e h = rw (e, h) refl
temporary_is ts p b kind (i ∷ []) e h = rw (e, h) refl
temporary_is ts p b kind (i ∷ (j ∷ ids)) e h = rw (e, h) (lt-ltb 1 (length (i ∷ (j ∷ ids))) (omega arith))
