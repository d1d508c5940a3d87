use Rattle.std.proofs.Common.{None, ap, ◌∙◌}
use Rattle.cpp_ast.specs.declared.arena.At.{At}
use Rattle.cpp_ast.specs.declared.kinds.NodeKind.TheVariants.{Absent}
use Rattle.cpp_syntax.specs.Derivations.{no_read, reads_node}
use Rattle.cpp_syntax.specs.View.{appended}
use Rattle.cpp_syntax.proofs.Readers.{leaves_same, leaves_both, reads_right}
use Rattle.cpp_parse_expr.proofs.ReaderAnswers.{always_err, reads_from}
use Rattle.cpp_parse.proofs.StatementParts.{absent_there, expression_there}
use Rattle.cpp_parse.proofs.loops.optional_expression.Goals as goal

pub returns-in_err-leaf : goal.returns-in_err-leaf
returns-in_err-leaf c =
    let x = rw c.in_default.is at c.in_ok-next.ensures in
    always_err _ _ _ _ c.from_residual-in_err-leaf.result c.from_residual-in_err-leaf.ensures.0
    (leaves_both (leaves_same (c.cut.ensures _ _ c.checkpoint-mark.ensures (x.0).gained)) (leaves_same c.in_err-leaf.ensures.memory))

pub returns-in_default : goal.returns-in_default
returns-in_default c =
    let x = rw c.in_default.is at c.in_ok-next.ensures in
    let e = c.in_ok-leaf.ensures.added ∙ ap (λ (z : At). appended c.cut.new.self (reads_node Absent z None no_read)) c.position.ensures.position in
    reads_from (c.cut.ensures _ _ c.checkpoint-mark.ensures (x.0).gained) (reads_right x.1 (absent_there c.requires.here e))

pub returns : goal.returns
returns c = expression_there (rw c.in-Some.is at c.in_ok-next.ensures)
