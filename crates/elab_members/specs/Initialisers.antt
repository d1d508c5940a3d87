-- Initialisers of members in the class, as the code makes them: with `left_by` of elab_entry where elab_rules says `leaving`.
use Rattle.std.specs.Prelude.{ℕ, nat_lt, Bool, true, false, List, ◌∷◌, [], ◌++◌, drop, Option, Some, None, Result, Ok, slice_get}
use Rattle.std.specs.List.{list_all}
use Rattle.elab_entry.specs.cpp_types.Typ.{Typ}
use Rattle.elab_entry.specs.cpp_lex.Tokens.{Lexeme}
use Rattle.elab_entry.specs.cpp_ast.Trees as syntax
use Rattle.elab_entry.specs.cpp_ast.declared.kinds.NodeKind.{NodeKind}
use Rattle.elab_entry.specs.cpp_ast.declared.kinds.NodeKind.TheVariants as k
use Rattle.elab_entry.specs.cpp_tree.declared.faults.ElabFault.{ElabFault}
use Rattle.elab_entry.specs.cpp_tree.Trees.{Tree, one}
use Rattle.elab_entry.specs.elab_ctx.Ctx.{Ctx}
use Rattle.elab_entry.specs.elab_ctx.declared.env.DefaultInit.{DefaultInit}
use Rattle.elab_entry.specs.elab_ctx.Steps.{and_then, each_of, Made, spelling}
use Rattle.elab_entry.specs.elab_rules.Names.{members_in}
use Rattle.elab_entry.specs.elab_rules.Lambdas.{kids_of}
use Rattle.elab_entry.specs.elab_rules.Braces.{is_char_array, string_token, syntax_place}
use Rattle.elab_entry.specs.elab_rules.Statements.{State, Done, done, Full, Lambdas, full, with_work, full_operand, copy_initialised}
use Rattle.elab_entry.specs.elab_rules.Members.{default_value, first_tree, initialiser_in, member_index, member_type}
use Rattle.elab_entry.specs.Round.{round_function, left_by}
use Rattle.elab_implicit.specs.Implied.{in_object}

-- Initialisers in the syntax

-- the one of some trees, if there is one
abbrev pub only_tree : syntax.Trees → Option syntax.Tree
only_tree (syntax.more e syntax.none) = Some e
only_tree ts = None

-- the expression of an initialiser, by its kind
abbrev pub initialiser_by : NodeKind → Option syntax.Tree → Option syntax.Tree
initialiser_by k.EqualInitializer o = o
initialiser_by k.PureSpecifier o = o
initialiser_by kind o = None

-- the first of two
abbrev pub either_tree : Option syntax.Tree → Option syntax.Tree → Option syntax.Tree
either_tree (Some e) o = Some e
either_tree None o = o

-- the data member of the name that a token spells, if there is a token
abbrev pub member_by_token : List Lexeme → Ctx → ℕ → Option ℕ → Option ℕ
member_by_token s c n (Some t) = member_index 0 (spelling s t) (members_in (slice_get c.classes n))
member_by_token s c n None = None

-- the data member that a declarator declares, if it declares one
abbrev pub member_declared : List Lexeme → Ctx → ℕ → syntax.Tree → Option ℕ
member_declared s c n (syntax.node k.MemberDeclarator p token kids) = member_by_token s c n token
member_declared s c n t = None

-- One initialiser

-- by a value that was read
abbrev pub value_made : Typ → Full → Result Done ElabFault
value_made t f = and_then (copy_initialised f.state.ctx f.state.work t f.operand)
    (λ (m : Made). done (one (full f.operand.at m.tree)) (with_work f.state m.work))

-- by an expression
abbrev pub value_by : Lambdas → List Lexeme → State → Typ → syntax.Tree → Result Done ElabFault
value_by lams s st t e = and_then (full_operand lams s st e) (value_made t)

-- what a member of a type is initialised by
abbrev pub default_from : Lambdas → List Lexeme → State → Typ → syntax.Tree → Result Done ElabFault
default_from lams s st t e = default_value lams s st t e (is_char_array t) (string_token e)

-- one more initialiser is known
abbrev pub default_added : Ctx → ℕ → ℕ → Tree → List Typ → Ctx
default_added c n i e frame = record c { defaults = c.defaults ++ record { class = n; member = i; init = e; frame = frame } ∷ [] }

-- the same behind the function that it is made in
abbrev pub default_kept : State → ℕ → ℕ → Tree → State → State
default_kept before n i e st = record (left_by (round_function before) st) {
  ctx = default_added (left_by (round_function before) st).ctx n i e
      (drop 1 st.work.frame);
}

abbrev pub default_made : Lambdas → List Lexeme → State → ℕ → ℕ → Typ → syntax.Tree → Result State ElabFault
default_made lams s st n i t e = and_then (default_from lams s (in_object st n) t e)
    (λ (d : Done). Ok (default_kept st n i (first_tree (syntax_place e) d.trees) d.state))

abbrev pub default_for : Lambdas → List Lexeme → State → ℕ → Option ℕ → Option syntax.Tree → Result State ElabFault
default_for lams s st n (Some i) (Some e) = default_made lams s st n i (member_type (slice_get (members_in (slice_get st.ctx.classes n)) i)) e
default_for lams s st n i e = Ok st

-- a declarator's initialiser, if it is a data member's
abbrev pub default_of : Lambdas → List Lexeme → ℕ → State → syntax.Tree → Result State ElabFault
default_of lams s n st t = default_for lams s st n (member_declared s st.ctx n t) (initialiser_in (kids_of t))

-- Those of a declaration, and of all members

abbrev pub declares_members : NodeKind → Bool
declares_members k.MemberDeclaration = true
declares_members kind = false

abbrev pub defaults_of : Lambdas → List Lexeme → ℕ → State → syntax.Tree → Result State ElabFault
defaults_of lams s n st (syntax.node k.MemberDeclaration p token kids) = each_of (default_of lams s n) st kids
defaults_of lams s n st t = Ok st

abbrev pub all_defaults : Lambdas → List Lexeme → ℕ → State → syntax.Trees → Result State ElabFault
all_defaults lams s n = each_of (defaults_of lams s n)

-- What stands in the list of the code

-- each initialiser is one of the first nodes
abbrev pub are_known : ℕ → List DefaultInit → Bool
are_known n ds = list_all (λ (d : DefaultInit). nat_lt d.init.0 n) ds
