-- What is written for the parts of an object, part by part, and what answers of it say.
use Rattle.std.specs.Prelude.{◌≡◌, ℕ, true, List, ◌∷◌, [], ◌++◌, length, map, not, is_none, Vec, Option, Some, None, Result, Ok, Err, slice_get}
use Rattle.std.specs.declared.alloc.Global.{Global}
use Rattle.elab_entry.specs.cpp_types.Typ.{Typ}
use Rattle.elab_entry.specs.cpp_types.declared.classes.At.{At}
use Rattle.elab_entry.specs.cpp_lex.Tokens.{Lexeme}
use Rattle.elab_entry.specs.cpp_ast.Trees as syntax
use Rattle.elab_entry.specs.cpp_tree.declared.faults.ElabFault.{ElabFault}
use Rattle.elab_entry.specs.cpp_tree.declared.faults.IllRule.TheVariants.{UnknownName, Redeclared, NoMember, OutOfProfile}
use Rattle.elab_entry.specs.cpp_tree.Trees.{one}
use Rattle.elab_entry.specs.cpp_tree.Typing.{unqualified}
use Rattle.elab_entry.specs.elab_ctx.Ctx.{Ctx}
use Rattle.elab_entry.specs.elab_ctx.Steps.{and_then, expect, check, Made, TypedAll, Operand, spelling}
use Rattle.elab_entry.specs.elab_ctx.Says.{Faults}
use Rattle.elab_entry.specs.elab_rules.Names.{members_in}
use Rattle.elab_entry.specs.elab_rules.Calls.{base_of_class}
use Rattle.elab_entry.specs.elab_rules.Types.{type_named}
use Rattle.elab_entry.specs.elab_rules.Expressions.{operands_of}
use Rattle.elab_entry.specs.elab_rules.Statements.{State, Done, done, the_tree, Lambdas, full, with_work, all_lambdas, directly_initialised, values_place}
use Rattle.elab_entry.specs.elab_rules.Members.{Giving, given_for, for_part, member_index, member_type, is_named_class, is_base_type}
use Rattle.elab_entry.specs.elab_scopes.declared.state.State.{State as StateRec}
use Rattle.elab_entry.specs.elab_scopes.States.{state_of, made, Grown}
use Rattle.elab_implicit.specs.declared.given.Given.{Given as GivenRec}
use Rattle.elab_implicit.specs.Written.{given_in, are_there}

-- the class that is made as a base, where the part is the base
abbrev pub made_base : Ctx → ℕ → Option ℕ → Option ℕ
made_base c n (Some i) = None
made_base c n None = base_of_class (slice_get c.classes n)

-- One part

-- by values that were read
abbrev pub part_made : State → ℕ → Option ℕ → Typ → At → List Operand → Result Done ElabFault
part_made st n i t at os = and_then (directly_initialised (for_part st.ctx n i) st.work t at os)
    (λ (m : Made). done (one (full (values_place t at os) m.tree)) (with_work st m.work))

-- by values
abbrev pub part_values : List Lexeme → State → ℕ → Option ℕ → Typ → At → syntax.Trees → Result Done ElabFault
part_values s st n i t at es = and_then (operands_of s st.ctx st.work es) (λ (xs : TypedAll). part_made (record st { work = xs.work }) n i t at xs.operands)

-- by values, behind their lambdas
abbrev pub part_given : Lambdas → List Lexeme → State → ℕ → Option ℕ → Typ → At → syntax.Trees → Result Done ElabFault
part_given lams s st n i t at es = and_then (all_lambdas lams s st es) (λ (x : State). part_values s x n i t at es)

-- one more part is given
abbrev pub given_with : Giving → Option ℕ → At → Done → Giving
given_with g i at d = record { state = d.state; given = g.given ++ record { member = i; at = at; tree = the_tree at d.trees } ∷ [] }

-- `given_part` of elab_rules, in these steps
abbrev pub part_more : Lambdas → List Lexeme → ℕ → Giving → Option ℕ → At → Typ → syntax.Trees → Result Giving ElabFault
part_more lams s n g i at t es = and_then (check at Redeclared (is_none (given_for i g.given)))
    (λ y. and_then (part_given lams s g.state n i t at es) (λ (d : Done). Ok (given_with g i at d)))

-- the index of the member of a name
abbrev pub member_found : Ctx → ℕ → At → List ℕ → Result ℕ ElabFault
member_found c n at name = expect at NoMember (member_index 0 name (members_in (slice_get c.classes n)))

-- a member that a token names
abbrev pub member_by : Lambdas → List Lexeme → ℕ → Giving → At → ℕ → syntax.Trees → Result Giving ElabFault
member_by lams s n g at t es = and_then (member_found g.state.ctx n at (spelling s t))
    (λ i. part_more lams s n g (Some i) at (member_type (slice_get (members_in (slice_get g.state.ctx.classes n)) i)) es)

-- the type of the direct base of a name (profile: not the class itself)
abbrev pub base_type : Ctx → ℕ → At → Typ → Result Typ ElabFault
base_type c n at t = and_then (check at OutOfProfile (not (is_named_class n t)))
    (λ x. and_then (check at NoMember (is_base_type (base_of_class (slice_get c.classes n)) t)) (λ y. Ok (unqualified t)))

abbrev pub base_found : Ctx → ℕ → At → List ℕ → Result Typ ElabFault
base_found c n at name = and_then (expect at UnknownName (type_named name c.types)) (base_type c n at)

-- a base that a token names
abbrev pub base_by : Lambdas → List Lexeme → ℕ → Giving → At → ℕ → syntax.Trees → Result Giving ElabFault
base_by lams s n g at t es = and_then (base_found g.state.ctx n at (spelling s t)) (λ (u : Typ). part_more lams s n g None at u es)

-- What the lists of the code show

abbrev pub giving_in : StateRec → List GivenRec → Giving
giving_in st gs = record { state = state_of st; given = map (given_in (made st)) gs }

-- what stands in a list is what is to be given, and the state stands behind it
pub record Gathered (old new : StateRec) (after : List GivenRec) (x : Result Giving ElabFault) : Type 0 where
  pub grown : Grown old new
  pub there : are_there (length (made new)) after ≡ true
  pub is : x ≡ Ok (giving_in new after)

abbrev pub Gathers : StateRec → StateRec → List GivenRec → Result (Unit {0}) ElabFault → Result Giving ElabFault → Type 0
Gathers old new after (Ok u) x = Gathered old new after x
Gathers old new after (Err e) x = Faults e x

abbrev pub GathersAll : StateRec → StateRec → Result (Vec GivenRec Global) ElabFault → Result Giving ElabFault → Type 0
GathersAll old new (Ok v) x = Gathered old new v.items x
GathersAll old new (Err e) x = Faults e x
