-- The initialiser of a declarator, as it is written.
use Rattle.std.specs.Prelude.{◌<◌, ℕ, Bool, true, List, Option, Some, Result, Ok, Err}
use Rattle.elab_expr.specs.cpp_lex.Tokens.{Lexeme}
use Rattle.elab_expr.specs.cpp_ast.declared.kinds.NodeKind.TheVariants as k
use Rattle.elab_expr.specs.cpp_ast.Trees as syntax
use Rattle.elab_expr.specs.cpp_types.Typ.{Typ}
use Rattle.elab_expr.specs.cpp_types.declared.classes.At.{At}
use Rattle.elab_expr.specs.cpp_tree.declared.faults.ElabFault.{ElabFault}
use Rattle.elab_expr.specs.cpp_tree.declared.faults.ElabFault.TheVariants.{Ill}
use Rattle.elab_expr.specs.cpp_tree.declared.faults.IllRule.TheVariants.{OutOfProfile}
use Rattle.elab_expr.specs.cpp_tree.Trees.{Tree}
use Rattle.elab_expr.specs.elab_ctx.Ctx.{Ctx, Work}
use Rattle.elab_expr.specs.elab_ctx.Steps.{and_then, Made, Typed, TypedAll, spelling}
use Rattle.elab_expr.specs.elab_rules.Strings.{string_bytes}
use Rattle.elab_expr.specs.elab_rules.Expressions.{expression_of, operands_of, chosen_operand}
use Rattle.elab_expr.specs.elab_rules.Braces.{item_of, string_token, string_object, is_char_array, syntax_place}
use Rattle.elab_expr.specs.elab_rules.Statements.{default_object, copy_initialised, directly_initialised, closed_bound, string_length, count}
use Rattle.elab_expr.specs.elab_types.Syntax.{tree_at}
use Rattle.elab_braces.specs.declared.forms.Written.{Written}
use Rattle.elab_braces.specs.declared.forms.Written.TheVariants as w

pub data Form : Type 0 where
  nothing : Form
  -- the values in parentheses are its kids
  values : syntax.Tree → Form
  braces : syntax.Tree → Form
  expression : syntax.Tree → Form
  other : Form

-- behind `=`
abbrev pub equal_of : syntax.Tree → Form
equal_of (syntax.node k.BracedInitList p token items) = braces (syntax.node k.BracedInitList p token items)
equal_of e = expression e

abbrev pub equal_form : syntax.Trees → Form
equal_form (syntax.more e syntax.none) = equal_of e
equal_form ts = other

abbrev pub one_form : syntax.Tree → Form
one_form (syntax.node k.ParenthesizedInitializer p token es) = values (syntax.node k.ParenthesizedInitializer p token es)
one_form (syntax.node k.EqualInitializer p token kids) = equal_form kids
one_form t = other

-- the initialiser of a declarator, if it has one
abbrev pub form_of : syntax.Trees → Form
form_of syntax.none = nothing
form_of (syntax.more t syntax.none) = one_form t
form_of ts = other

abbrev pub shown_in : List syntax.Tree → Written → Form
shown_in trees w.Nothing = nothing
shown_in trees (w.Values id) = values (tree_at trees id)
shown_in trees (w.Braces id) = braces (tree_at trees id)
shown_in trees (w.Expression id) = expression (tree_at trees id)
shown_in trees w.Other = other

-- what stands in it has a lower number
abbrev pub IsLower : ℕ → Written → Type 0
IsLower n w.Nothing = Unit {0}
IsLower n (w.Values id) = id.0 < n
IsLower n (w.Braces id) = id.0 < n
IsLower n (w.Expression id) = id.0 < n
IsLower n w.Other = Unit {0}

-- What it makes of an object, which stands where a tree says, and whose name stands at the place

abbrev pub by_values : List Lexeme → Ctx → Work → Typ → At → syntax.Trees → Result Made ElabFault
by_values s c v t at es = and_then (operands_of s c v es) (λ (xs : TypedAll). directly_initialised c xs.work t at xs.operands)

abbrev pub by_values_in : List Lexeme → Ctx → Work → Typ → At → syntax.Tree → Result Made ElabFault
by_values_in s c v t at (syntax.node kind p token es) = by_values s c v t at es

abbrev pub by_value : List Lexeme → Ctx → Work → Typ → syntax.Tree → Result Made ElabFault
by_value s c v t e = and_then (and_then (expression_of s c v e) (chosen_operand c)) (λ (o : Typed). copy_initialised c o.work t o.operand)

abbrev pub by_string : List Lexeme → Ctx → Work → Typ → At → ℕ → Result Made ElabFault
by_string s c v t at n = and_then (string_object c t at (string_bytes (spelling s n))) (λ (x : Tree). Ok (record { tree = x; work = v }))

-- a string initialises an array of characters
abbrev pub by_expression : List Lexeme → Ctx → Work → Typ → syntax.Tree → Bool → Option ℕ → Result Made ElabFault
by_expression s c v t e true (Some n) = by_string s c v t (syntax_place e) n
by_expression s c v t e b n = by_value s c v t e

abbrev pub by_form : List Lexeme → Ctx → Work → Tree → Typ → At → Form → Result Made ElabFault
by_form s c v object t at nothing = and_then (default_object c t at) (λ (e : Tree). Ok (record { tree = e; work = v }))
by_form s c v object t at (values x) = by_values_in s c v t at x
by_form s c v object t at (braces x) = item_of s c v object t x
by_form s c v object t at (expression e) = by_expression s c v t e (is_char_array t) (string_token e)
by_form s c v object t at other = Err (Ill at OutOfProfile)

abbrev pub object_by : List Lexeme → Ctx → Work → Tree → Typ → At → syntax.Trees → Result Made ElabFault
object_by s c v object t at kids = by_form s c v object t at (form_of kids)

-- the bound that it gives an array

abbrev pub bound_by_form : List Lexeme → Typ → Form → Typ
bound_by_form s t (braces (syntax.node kind q brace items)) = closed_bound (count items) t
bound_by_form s t (expression e) = closed_bound (string_length s (string_token e)) t
bound_by_form s t f = t
