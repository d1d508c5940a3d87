-- Calls, casts, captures and whole expressions: what is made for them stands behind what was made before.
use Rattle.std.proofs.Common.{ℕ, List, Result}
use Rattle.elab_rules.specs.cpp_types.Typ.{Typ, Form}
use Rattle.elab_rules.specs.cpp_types.declared.classes.At.{At}
use Rattle.elab_rules.specs.cpp_lex.Tokens.{Lexeme}
use Rattle.elab_rules.specs.cpp_ast.declared.kinds.NodeKind.{NodeKind}
use Rattle.elab_rules.specs.cpp_ast.Trees as syntax
use Rattle.elab_rules.specs.cpp_tree.declared.faults.ElabFault.{ElabFault}
use Rattle.elab_rules.specs.cpp_tree.Trees.{Tree}
use Rattle.elab_rules.specs.elab_ctx.Ctx.{Ctx, Work, Capture, Closure}
use Rattle.elab_rules.specs.elab_ctx.Steps.{and_then, Operand, Typed}
use Rattle.elab_rules.specs.Objects.{Part}
use Rattle.elab_rules.specs.Calls
use Rattle.elab_rules.specs.Casts
use Rattle.elab_rules.specs.Expressions
use Rattle.elab_fits.specs.Standing.{On}
use Rattle.elab_fits.proofs.Growing as growing
use Rattle.elab_fits_expressions.specs.Growing.{Behind}
use Rattle.elab_fits_expressions.proofs.Behind.{growth, made, all_made, typed, all_typed}

pub call_form : (c : Ctx) (w : Work) (at : At) (callee : Operand) (t : Tree) (os : List Operand) → On (made w) (Calls.call_form c w at callee t os)
call_form = growing.call_form Behind growth

pub cast_in : (c : Ctx) (w : Work) (at : At) (t : Typ) (f : Form) (o : Operand) → On (made w) (Casts.cast_in c w at t f o)
cast_in = growing.cast_in Behind growth

pub functional : (c : Ctx) (w : Work) (at : At) (t : Typ) (os : List Operand) → On (made w) (Casts.functional c w at t os)
functional = growing.functional Behind growth

pub captured : (c : Ctx) (w : Work) (x : Capture) → On (made w) (Expressions.captured c w x)
captured = growing.captured Behind growth

pub captured_pieces : (c : Ctx) (w : Work) (ps : List Part) (xs : List Capture) → On (all_made w) (Expressions.captured_pieces c w ps xs)
captured_pieces = growing.captured_pieces Behind growth

pub chosen : (c : Ctx) (w : Work) (r : Result Typed ElabFault) → On (typed w) r → On (typed w) (and_then r (Expressions.chosen_operand c))
chosen = growing.chosen Behind growth

pub row_of : (s : List Lexeme) (c : Ctx) (w : Work) (kind : NodeKind) (at : At) (t : ℕ) (os : List Operand)
    → On (typed w) (Expressions.row_of s c w kind at t os)
row_of = growing.row_of Behind growth

pub expression : (s : List Lexeme) (c : Ctx) (l : List Closure) (w : Work) (e : syntax.Tree) → On (typed w) (Expressions.expression_with s c l w e)
expression = growing.expression Behind growth

pub operands : (s : List Lexeme) (c : Ctx) (l : List Closure) (w : Work) (es : syntax.Trees) → On (all_typed w) (Expressions.operands_with s c l w es)
operands = growing.operands Behind growth
