-- Steps of elaboration that may be refused, and lists of them.
use Rattle.std.specs.Prelude.{ℕ, Bool, true, false, List, [], Option, Some, None, Result, Ok, Err, slice_get, option_map, unwrap_or}
use Rattle.cpp_lex.specs.Tokens.{Lexeme}
use Rattle.cpp_ast.specs.Trees as syntax
use Rattle.cpp_ast.specs.declared.arena.At.{At as SyntaxAt}
use Rattle.cpp_tree.specs.cpp_types.declared.classes.At.{At}
use Rattle.cpp_tree.specs.Trees.{Tree, Trees}
use Rattle.elab_ctx.specs.Ctx.{Work}
use Rattle.cpp_tree.specs.declared.faults.ElabFault.{ElabFault}
use Rattle.cpp_tree.specs.declared.faults.ElabFault.TheVariants.{Ill}
use Rattle.cpp_tree.specs.declared.faults.IllRule.{IllRule}

-- what follows a step, which is refused where the step is
abbrev pub and_then : {A B : Type 0} → Result A ElabFault → (A → Result B ElabFault) → Result B ElabFault
and_then (Ok a) f = f a
and_then (Err e) f = Err e

-- what has to be there, else the rule is broken
abbrev pub expect : {A : Type 0} → At → IllRule → Option A → Result A ElabFault
expect at rule (Some a) = Ok a
expect at rule None = Err (Ill at rule)

-- what has to hold
abbrev pub check : At → IllRule → Bool → Result Bool ElabFault
check at rule true = Ok true
check at rule false = Err (Ill at rule)

-- the place of a syntax node
abbrev pub at_of : SyntaxAt → At
at_of p = record { source = p.source; offset = p.offset }

-- trees, one behind the other, where each changes a state
abbrev pub each_of : {R : Type 0} → (R → syntax.Tree → Result R ElabFault) → R → syntax.Trees → Result R ElabFault
each_of step r syntax.none = Ok r
each_of step r (syntax.more t ts) = and_then (step r t) (λ x. each_of step x ts)

-- An expression, its place with the parentheses around it, and whether it is an integer literal of value 0 (C++14 4.10)
pub record Operand : Type 0 where
  pub tree : Tree
  pub at : At
  pub zero : Bool

-- a typed tree, and what is made behind it
pub record Made : Type 0 where
  pub tree : Tree
  pub work : Work

pub record MadeAll : Type 0 where
  pub trees : Trees
  pub work : Work

-- an operand, and what is made behind it
pub record Typed : Type 0 where
  pub operand : Operand
  pub work : Work

pub record TypedAll : Type 0 where
  pub operands : List Operand
  pub work : Work

-- the spelling of a token
abbrev pub spelling : List Lexeme → ℕ → List ℕ
spelling s k = unwrap_or (option_map (λ (l : Lexeme). l.bytes) (slice_get s k)) []

abbrev pub value_at : List Lexeme → ℕ → ℕ
value_at s k = unwrap_or (option_map (λ (l : Lexeme). l.value) (slice_get s k)) 0

-- the place of a token in a source
abbrev pub token_place : List Lexeme → ℕ → ℕ → At
token_place s source k = record { source = source; offset = unwrap_or (option_map (λ (l : Lexeme). l.from) (slice_get s k)) 0 }
