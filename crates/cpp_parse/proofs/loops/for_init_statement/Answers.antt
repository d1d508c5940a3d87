use Rattle.std.proofs.Common.{None, refl, ap, ◌∙◌}
use Rattle.cpp_ast.specs.declared.arena.At.{At}
use Rattle.cpp_ast.specs.declared.kinds.NodeKind.TheVariants.{Absent}
use Rattle.cpp_syntax.specs.declared.terminal.Terminal.TheVariants as terminal
use Rattle.cpp_syntax.specs.Terminals.{semicolon}
use Rattle.cpp_syntax.specs.Rules.{for_init_statement}
use Rattle.cpp_syntax.specs.Derivations.{no_read, reads_node}
use Rattle.cpp_syntax.specs.View.{appended}
use Rattle.cpp_syntax.proofs.SingleTerminals.{passed, refused}
use Rattle.cpp_syntax.proofs.LongestMatches.{neither, if_unseen, unless_none, unless_seen}
use Rattle.cpp_syntax.proofs.Readers.{leaves_none, leaves_same, leaves_both, reads_seq, reads_word, reads_form, reads_left, reads_right, none_form}
use Rattle.cpp_syntax.proofs.ReaderLoops.{reads_unless}
use Rattle.cpp_parse_expr.proofs.ReaderAnswers.{none_unlike, parsed_err, parsed_form, parsed_left}
use Rattle.cpp_parse.proofs.StatementParts.{parsed_if, absent_there, none_left_out}
use Rattle.cpp_parse.proofs.loops.for_init_statement.Goals as goal

pub returns-in_err-leaf : goal.returns-in_err-leaf
returns-in_err-leaf c = parsed_err _ _ _ _ c.from_residual.result c.from_residual.ensures.0 (leaves_same c.in_err-leaf.ensures.memory)

pub returns-then-is_at : goal.returns-then-is_at
returns-then-is_at c =
    let u = passed semicolon terminal.Semicolon refl _ (c.if-is_at.ensures.yes refl) in
    let e = c.in_ok-leaf.ensures.added ∙ ap (λ (z : At). appended c.args.out.now (reads_node Absent z None no_read)) c.position.ensures.position in
    reads_form (reads_right (none_unlike semicolon u refl refl) (reads_right (none_unlike semicolon u refl refl)
    (reads_seq (absent_there c.requires.here e) (reads_word u (c.if-is_at.ensures.inside refl refl)) refl refl)))

pub returns-in_err-lookahead_declaration : goal.returns-in_err-lookahead_declaration
returns-in_err-lookahead_declaration c =
    parsed_err _ _ _ _ c.from_residual-in_err-lookahead_declaration.result c.from_residual-in_err-lookahead_declaration.ensures.0 (leaves_none _)

pub returns-then-branch : goal.returns-then-branch
returns-then-branch c =
    let h = c.in_ok-lookahead_declaration.ensures.yes c.if-branch.true in
    let n = none_left_out (refused semicolon terminal.Semicolon refl _ (c.if-is_at.ensures.no refl)) in
    parsed_form _ for_init_statement _ None _ _ c.block_declaration.result (parsed_left _ _ _ _ _ _ _ c.block_declaration.result
    (neither (unless_seen h) n) (parsed_if _ _ _ _ _ _ _ c.block_declaration.result h c.block_declaration.ensures))

pub returns-in_err-next : goal.returns-in_err-next
returns-in_err-next c = parsed_err _ _ _ _ c.from_residual-in_err-next.result c.from_residual-in_err-next.ensures.0 c.in_err-next.ensures

pub returns-in_err-note_declaration : goal.returns-in_err-note_declaration
returns-in_err-note_declaration c =
    let x = rw c.in_default.is at c.in_ok-next.ensures in
    parsed_err _ _ _ _ c.from_residual-in_err-note_declaration.result c.from_residual-in_err-note_declaration.ensures.0
    (leaves_both x.0 c.note_declaration.ensures)

pub returns-in_default : goal.returns-in_default
returns-in_default c =
    let x = rw c.in_default.is at c.in_ok-next.ensures in
    let n = none_left_out (refused semicolon terminal.Semicolon refl _ (c.if-is_at.ensures.no refl)) in (
      leaves_both x.0 c.note_declaration.ensures,
      none_form (neither (if_unseen (c.in_ok-lookahead_declaration.ensures.no c.if-branch.false))
          (neither (unless_none x.1) n)),
    )

pub returns : goal.returns
returns c =
    let g = c.in_ok-lookahead_declaration.ensures.no c.if-branch.false in
    let n = none_left_out (refused semicolon terminal.Semicolon refl _ (c.if-is_at.ensures.no refl)) in
    reads_form (reads_right (if_unseen g) (reads_left (reads_unless g (rw c.in-Some.is at c.in_ok-next.ensures)) n))
