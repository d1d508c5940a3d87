use Rattle.cpp_syntax.proofs.LongestMatches.{neither, if_unseen, unless_none, unless_seen}
use Rattle.cpp_syntax.proofs.Readers.{leaves_none, leaves_both, reads_left}
use Rattle.cpp_syntax.proofs.ReaderLoops.{reads_unless}
use Rattle.cpp_parse_expr.proofs.ReaderAnswers.{parsed_err, parsed_right}
use Rattle.cpp_parse.proofs.StatementParts.{parsed_if}
use Rattle.cpp_parse.proofs.statements.declaration_or_expression.Goals as goal

pub returns-in_err-lookahead_declaration : goal.returns-in_err-lookahead_declaration
returns-in_err-lookahead_declaration c = parsed_err _ _ _ _ c.from_residual.result c.from_residual.ensures.0 (leaves_none _)

pub returns-then-branch : goal.returns-then-branch
returns-then-branch c =
    let h = c.in_ok-lookahead_declaration.ensures.yes c.if-branch.true in
    parsed_right _ _ _ _ _ _ _ c.block_declaration.result (unless_seen h) (parsed_if _ _ _ _ _ _ _ c.block_declaration.result h c.block_declaration.ensures)

pub returns-in_err-next : goal.returns-in_err-next
returns-in_err-next c = parsed_err _ _ _ _ c.from_residual-in_err-next.result c.from_residual-in_err-next.ensures.0 c.in_err-next.ensures

pub returns-in_err-note_declaration : goal.returns-in_err-note_declaration
returns-in_err-note_declaration c =
    let x = rw c.in_default.is at c.in_ok-next.ensures in
    parsed_err _ _ _ _ c.from_residual-in_err-note_declaration.result c.from_residual-in_err-note_declaration.ensures.0
    (leaves_both x.0 c.note_declaration.ensures)

pub returns-in_default : goal.returns-in_default
returns-in_default c =
    let x = rw c.in_default.is at c.in_ok-next.ensures in
    let n = c.in_ok-lookahead_declaration.ensures.no c.if-branch.false in
    (leaves_both x.0 c.note_declaration.ensures, neither (unless_none x.1) (if_unseen n))

pub returns : goal.returns
returns c =
    let n = c.in_ok-lookahead_declaration.ensures.no c.if-branch.false in
    reads_left (reads_unless n (rw c.in-Some.is at c.in_ok-next.ensures)) (if_unseen n)
