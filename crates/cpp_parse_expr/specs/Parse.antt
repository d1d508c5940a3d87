-- What the call that reads a form answers.
use Rattle.std.specs.Prelude.{◌≡◌, ℕ, ◌<◌, ◌≤◌, List, [], ◌∷◌, length, map, Option, Some, None, Result, Ok, Err}
use Rattle.std.specs.declared.alloc.AllocError.{AllocError}
use Rattle.cpp_ast.specs.declared.arena.Node.{Node}
use Rattle.cpp_ast.specs.declared.arena.NodeId.{NodeId}
use Rattle.cpp_ast.specs.Trees.{Tree, Shows, Extends, deepest}
use Rattle.cpp_syntax.specs.declared.positions.OpenBody.{OpenBody}
use Rattle.cpp_syntax.specs.Source.{Source, position_at}
use Rattle.cpp_syntax.specs.Rules.{Nonterminal, Rule, expression, assignment_expression, conditional_expression, type_specifier_seq, type_id, declarator}
use Rattle.cpp_syntax.specs.Rules.{parameter_declaration, parameter_declaration_clause, function_qualifiers, whole, named, form}
use Rattle.cpp_syntax.specs.Derivations.{Body, Read, no_read, one_tree, kept_apart}
use Rattle.cpp_syntax.specs.Lookahead.{lookahead}
use Rattle.cpp_syntax.specs.Longest.{LongestMatch, NoDerivation}
use Rattle.cpp_syntax.specs.Parsed.{NoneOf}
use Rattle.cpp_syntax.specs.View.{body_of, count_lambdas, trees_at, BuiltTrees}
use Rattle.cpp_parse_expr.specs.declared.parse.ExprForm.{ExprForm}
use Rattle.cpp_parse_expr.specs.declared.parse.ExprForm.TheVariants as asked
use Rattle.cpp_parse_expr.specs.declared.parse.BodyRange.{BodyRange}
use Rattle.cpp_parse_expr.specs.declared.parse.ExprOut.{ExprOut}
use Rattle.cpp_parse_expr.specs.declared.parse.ParseFault.{ParseFault}
use Rattle.cpp_parse_expr.specs.declared.parse.ParseFault.TheVariants as fault
use Rattle.cpp_parse_expr.specs.declared.parse.Reading.{Reading}
use Rattle.cpp_parse_expr.specs.declared.parse.Found.{Found}
use Rattle.cpp_parse_expr.specs.declared.parse.Outcome.{Outcome}
use Rattle.cpp_parse_expr.specs.declared.parse.Outcome.TheVariants as outcome
use Rattle.cpp_parse_expr.specs.Depths.{deep_node, lambda_depths}

-- the form of the grammar that is asked for
abbrev pub form_of : ExprForm → Nonterminal
form_of asked.Expr = expression
form_of asked.Assign = assignment_expression
form_of asked.Cond = conditional_expression
form_of asked.TypeHead = type_specifier_seq whole
form_of asked.TypeId = type_id whole
form_of asked.Declarator = declarator whole named
form_of asked.Param = parameter_declaration whole
form_of asked.Params = parameter_declaration_clause whole
form_of asked.Quals = function_qualifiers

-- one tree, with the bodies of its lambdas apart from it
abbrev pub tree_read : Tree → List Body → Read
tree_read tree bodies = record { trees = one_tree tree; bodies = bodies }

-- Between two indices stands the longest text of a form that begins at the first, and this is its tree.
abbrev pub IsText : Source → Nonterminal → ℕ → ℕ → Tree → List Body → Type 0
IsText source f from next tree bodies = LongestMatch (lookahead source) kept_apart source (form f) no_read from next None (tree_read tree bodies)

-- no text of a form begins at an index
abbrev pub NoneBegins : Source → Nonterminal → ℕ → Type 0
NoneBegins source f from = NoDerivation (lookahead source) kept_apart source (form f) no_read from

-- a body without the depth of its lambda
abbrev pub open_of : BodyRange → OpenBody
open_of body = record { lam = body.lam; from = body.from; to = body.to }

abbrev pub open_bodies : List BodyRange → List OpenBody
open_bodies bodies = map open_of bodies

-- A text was read: its nodes stand behind those that were there, hold none of them and each other once at most, and the
-- bodies are those of its lambdas in their order.
pub record IsParsed (source : Source) (f : Nonterminal) (from depth limit : ℕ) (old new : List Node) (out : ExprOut) : Type 0 where
  pub tree : Tree
  pub bodies : List Body
  pub text : IsText source f from out.next tree bodies
  pub inside : out.next ≤ length source.terminals
  pub shallow : deepest depth tree ≤ limit
  pub shows : Shows new out.root.0 tree
  pub grown : Extends old new
  pub shown : BuiltTrees (length old) new (out.root ∷ []) (open_bodies out.bodies.items)
  pub ranges : map (body_of new) (open_bodies out.bodies.items) ≡ bodies
  pub depths : map (λ (body : BodyRange). body.depth) out.bodies.items ≡ lambda_depths depth tree

-- A text stands there that nests too deep: the token is the index of its first node that lies below the limit.
pub record IsTooDeep (source : Source) (f : Nonterminal) (from depth limit token : ℕ) : Type 0 where
  pub next : ℕ
  pub tree : Tree
  pub bodies : List Body
  pub text : IsText source f from next tree bodies
  pub deep : limit < deepest depth tree
  pub position : deep_node limit depth tree ≡ Some (position_at source token)
  pub inside : token ≤ length source.terminals

-- No text of the form begins there.
pub record IsRefused (source : Source) (f : Nonterminal) (from token : ℕ) : Type 0 where
  pub nothing : NoneBegins source f from
  pub inside : token ≤ length source.terminals

-- What is answered of a form from an index on, with the nodes that were there and that are.
abbrev pub Parses : Source → Nonterminal → ℕ → ℕ → ℕ → List Node → List Node → Result ExprOut ParseFault → Type 0
Parses source f from depth limit old new (Ok out) = IsParsed source f from depth limit old new out
Parses source f from depth limit old new (Err (fault.Syntax token)) = IsRefused source f from token × (new ≡ old)
Parses source f from depth limit old new (Err (fault.Nesting token)) = IsTooDeep source f from depth limit token × (new ≡ old)
Parses source f from depth limit old new (Err fault.Memory) = new ≡ old

-- Steps on the way.

-- A text was read, and nothing is said yet of how deep it is.
pub record IsRead (source : Source) (f : Nonterminal) (from : ℕ) (old new : List Node) (root : NodeId) (next : ℕ) (open_ : List OpenBody) : Type 0 where
  pub tree : Tree
  pub bodies : List Body
  pub text : IsText source f from next tree bodies
  pub inside : next ≤ length source.terminals
  pub shows : Shows new root.0 tree
  pub grown : Extends old new
  pub shown : BuiltTrees (length old) new (root ∷ []) open_
  pub ranges : map (body_of new) open_ ≡ bodies
  pub many : length open_ ≡ count_lambdas tree

-- the index that a reader answers, if there is one, is that of a token or behind the last
abbrev pub EndsInside : Source → Result (Option ℕ) AllocError → Type 0
EndsInside source (Ok (Some next)) = next ≤ length source.terminals
EndsInside source (Ok None) = Unit {0}
EndsInside source (Err e) = Unit {0}

-- The longest text of a rule was read, behind nodes that were there.
pub record IsFound (source : Source) (p : Rule) (from next : ℕ) (old new : List Node) (roots : List NodeId) (open_ : List OpenBody) : Type 0 where
  pub got : Read
  pub long : LongestMatch (lookahead source) kept_apart source p no_read from next None got
  pub inside : next ≤ length source.terminals
  pub grown : Extends old new
  pub shown : BuiltTrees (length old) new roots open_
  pub trees : trees_at new roots ≡ got.trees
  pub bodies : map (body_of new) open_ ≡ got.bodies

abbrev pub Finds : Source → Rule → ℕ → List Node → List Node → Option Found → Type 0
Finds source p from old new (Some found) = IsFound source p from found.next old new found.roots.items found.bodies.items
Finds source p from old new None = NoneOf source p from × Extends old new

abbrev pub Takes : Source → Rule → ℕ → List Node → List Node → Result Reading AllocError → Type 0
Takes source p from old new (Ok reading) = Finds source p from old new reading.found × (reading.token ≤ length source.terminals)
Takes source p from old new (Err e) = Extends old new

abbrev pub TakesForm : Source → Nonterminal → ℕ → List Node → List Node → Result Reading AllocError → Type 0
TakesForm source f from old new result = Takes source (form f) from old new result

abbrev pub Measures : Source → Nonterminal → ℕ → ℕ → ℕ → List Node → List Node → Result Outcome AllocError → Type 0
Measures source f from depth limit old new (Ok (outcome.Parsed out)) = IsParsed source f from depth limit old new out
Measures source f from depth limit old new (Ok (outcome.Refused token)) = IsRefused source f from token × Extends old new
Measures source f from depth limit old new (Ok (outcome.TooDeep token)) = IsTooDeep source f from depth limit token × Extends old new
Measures source f from depth limit old new (Err e) = Extends old new
