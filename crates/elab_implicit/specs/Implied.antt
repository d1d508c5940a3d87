-- The bodies of implicit members, with what stands round a function put back as the code does it.
use Rattle.std.specs.Prelude.{◌≡◌, ◌<◌, ℕ, zero, suc, Bool, false, ◌&&◌, List, [], length, get_or, Option, Some, None, Result, Ok, if◌then◌else◌}
use Rattle.cpp_types.specs.Typ.{Typ, void, class, Typs, none as no_typs, more as and_typ}
use Rattle.cpp_types.specs.declared.classes.At.{At}
use Rattle.elab_entry.specs.cpp_tree.declared.program.FuncKind.{FuncKind}
use Rattle.elab_entry.specs.cpp_tree.declared.program.FuncKind.TheVariants.{Destructor}
use Rattle.elab_entry.specs.cpp_tree.declared.faults.ElabFault.{ElabFault}
use Rattle.elab_entry.specs.cpp_tree.Trees.{none, one}
use Rattle.elab_entry.specs.cpp_tree.Notation.{plain}
use Rattle.elab_entry.specs.elab_ctx.Ctx.{Ctx, Func}
use Rattle.elab_entry.specs.elab_ctx.Steps.{and_then}
use Rattle.elab_entry.specs.elab_rules.Initialising.{func_at, signature_parameters}
use Rattle.elab_entry.specs.elab_rules.Statements.{State, Done, done, the_tree}
use Rattle.elab_entry.specs.elab_rules.Members.{parts_built, constructor_tree, destructor_tree}
use Rattle.elab_entry.specs.elab_rules.Implicit.{is_in_slot, index_of, is_referred, source_object, source_const, parts_copied, with_source}
use Rattle.elab_entry.specs.elab_scopes.declared.state.State.{State as StateRec}
use Rattle.elab_entry.specs.elab_scopes.States.{state_of}
use Rattle.elab_entry.specs.Round.{round_function}
use Rattle.elab_entry.specs.Bodies.{entered, body_made}

abbrev pub stands_in_slot : Ctx → ℕ → Bool
stands_in_slot c k = is_in_slot (func_at c.funcs k).class (index_of c k (func_at c.funcs k).class) c.slots

-- the table says of each of its functions whether the unit refers to it
pub record IsTable (ms : List Bool) (st : StateRec) : Type 0 where
  pub says : (k : ℕ) → k < length ms → get_or ms k false ≡ is_referred (state_of st) k

-- into a function of an object
abbrev pub in_object : State → ℕ → State
in_object st n = entered st (plain void) (Some (plain (class n))) (Some n)

-- the parts by an implicit constructor: a copy, where it has a parameter
abbrev pub constructor_parts : State → At → ℕ → Option Typ → Result Done ElabFault
constructor_parts st at n (Some t) = parts_copied (with_source st t) at n (source_object n t at) (source_const t)
constructor_parts st at n None = parts_built st at n []

abbrev pub constructor_inside : State → At → ℕ → Option Typ → Result Done ElabFault
constructor_inside st at n p = and_then (constructor_parts st at n p) (λ (d : Done). done (one (constructor_tree at d.trees none)) d.state)

abbrev pub destructor_inside : State → At → ℕ → Result Done ElabFault
destructor_inside st at n = done (one (destructor_tree st.ctx at at n none)) st

-- what an implicit member does, in its own scope
abbrev pub inside_implied : State → At → ℕ → FuncKind → Option Typ → Result Done ElabFault
inside_implied st at n Destructor p = destructor_inside st at n
inside_implied st at n kind p = constructor_inside st at n p

-- its body
abbrev pub body_implied : State → At → ℕ → ℕ → FuncKind → Option Typ → Result State ElabFault
body_implied st at k n kind p = and_then (inside_implied (in_object st n) at n kind p)
    (λ (d : Done). body_made (round_function st) at k (the_tree at d.trees) d.state)

-- the type of the first parameter
abbrev pub first_of : Typs → Option Typ
first_of (and_typ t ts) = Some t
first_of no_typs = None

abbrev pub body_of_function : State → ℕ → ℕ → Func → Result State ElabFault
body_of_function st k n f = body_implied st f.declared.at k n f.kind (first_of (signature_parameters f.declared.signature))

abbrev pub body_at : State → ℕ → ℕ → Result State ElabFault
body_at st k n = body_of_function st k n (func_at st.ctx.funcs k)

-- the class of a function, if that is implicit and something refers to it
abbrev pub wanted : State → ℕ → Option ℕ
wanted st k = if (func_at st.ctx.funcs k).implicit && is_referred st k then (func_at st.ctx.funcs k).class else None

abbrev pub implied_for : State → ℕ → Option ℕ → Result State ElabFault
implied_for st k (Some n) = body_at st k n
implied_for st k None = Ok st

abbrev pub implied : State → ℕ → Result State ElabFault
implied st k = implied_for st k (wanted st k)

-- from the last function back
abbrev pub implied_below : State → ℕ → Result State ElabFault
implied_below st zero = Ok st
implied_below st (suc k) = and_then (implied st k) (λ (x : State). implied_below x k)

abbrev pub with_implied : State → Result State ElabFault
with_implied st = implied_below st (length st.ctx.funcs)
