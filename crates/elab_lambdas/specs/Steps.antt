-- The definitions of lambdas, step by step.
use Rattle.std.specs.Prelude.{ℕ, false, List, [], ◌∷◌, ◌++◌, Option, Some, None, Result, Ok, count_by}
use Rattle.elab_entry.specs.cpp_types.Typ.{Typ}
use Rattle.elab_entry.specs.cpp_types.Class.{Class, Function}
use Rattle.elab_entry.specs.cpp_ast.declared.kinds.NodeKind.TheVariants as k
use Rattle.elab_entry.specs.cpp_ast.Trees.{Tree, node, Trees, none, more}
use Rattle.elab_entry.specs.cpp_lex.Tokens.{Lexeme}
use Rattle.elab_entry.specs.cpp_tree.declared.faults.ElabFault.{ElabFault}
use Rattle.elab_entry.specs.elab_ctx.Ctx.{Ctx, Work, Func, Capture}
use Rattle.elab_entry.specs.elab_rules.Types.{Parameter}
use Rattle.elab_entry.specs.elab_rules.Expressions.{type_id_of}
use Rattle.elab_entry.specs.elab_rules.Statements.{Body, State}
use Rattle.elab_entry.specs.elab_rules.Classes.{class_named, is_completed}
use Rattle.elab_entry.specs.elab_rules.Lambdas.{capture_members, call_func, an_option}

-- The class and its call

abbrev pub closure_class : List Capture → Function → ℕ → Class
closure_class xs g number = class_named [] None false (capture_members xs) (g ∷ []) (Some number)

abbrev pub with_class : Ctx → List Capture → Function → Ctx
with_class c xs g = record c { classes = c.classes ++ closure_class xs g (count_by is_completed c.classes) ∷ [] }

abbrev pub with_call : ℕ → Function → List Parameter → ℕ → Func
with_call n g ps closed = record (call_func n g ps) { closed_at = closed }

-- The parts of a lambda

-- what is known where a lambda is read
abbrev pub at_hand : Ctx → Work → List Body → State
at_hand c w bodies = record { ctx = c; work = w; bodies = bodies }

-- the type that stands behind `->`, if the tree is one
abbrev pub trailing_in : Tree → Option Tree
trailing_in (node k.TrailingReturnType p token (more t none)) = Some t
trailing_in t = None

abbrev pub tree_or : Option Tree → Option Tree → Option Tree
tree_or (Some t) o = Some t
tree_or None o = o

-- the first of them
abbrev pub trailing : Trees → Option Tree
trailing none = None
trailing (more t ts) = tree_or (trailing_in t) (trailing ts)

-- the result type that is written, if one is
abbrev pub result_written : List Lexeme → Ctx → Work → Option Tree → Result (Option Typ) ElabFault
result_written s c w (Some t) = an_option (type_id_of s c w t)
result_written s c w None = Ok None
