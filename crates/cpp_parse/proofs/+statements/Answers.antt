-- What the readers of statements answer.
use Rattle.std.proofs.Common.{refl, sym as back, ◌∙◌, ap, arith, Some, None, Ok}
use Rattle.cpp_syntax.specs.declared.terminal.Terminal.TheVariants as terminal
use Rattle.cpp_syntax.specs.Terminals.{if_word, else_word, while_word, do_word, for_word, switch_word, case_word, default_word, break_word, continue_word}
use Rattle.cpp_syntax.specs.Terminals.{return_word, try_word, catch_word, synchronized_word, is_atomic, is_end, open_paren, close_paren, open_brace}
use Rattle.cpp_syntax.specs.Terminals.{close_brace, semicolon, colon}
use Rattle.cpp_syntax.proofs.SingleTerminals.{passed, refused}
use Rattle.cpp_syntax.proofs.FirstTerminals.{not_empty}
use Rattle.cpp_syntax.proofs.IndependentDerivations.{free_none}
use Rattle.cpp_syntax.proofs.LongestMatches.{mark_none, word_none, node_none, form_none, seq_none, neither, before_none}
use Rattle.cpp_syntax.proofs.Readers.{appended_none, leaves_none, leaves_same, leaves_both, leaves_read, reads_seq, reads_mark, reads_form, reads_right}
use Rattle.cpp_syntax.proofs.Readers.{none_behind, none_seq, none_form, none_node}
use Rattle.cpp_syntax.proofs.ReaderLoops.{within, reads_before, any_begins, any_more, loop_begins, loop_more}
use Rattle.cpp_parse_expr.proofs.ReaderAnswers.{made, mark_and, word_and, leaf_there, none_unlike, none_second, none_second_mark, leaves_chain, parsed_err}
use Rattle.cpp_parse_expr.proofs.DeclaratorSuffixes.{leaves_many}
use Rattle.cpp_parse_expr.proofs.PostfixReaders.{parsed_word, parsed_seq, ended, none_two_on, reads_two_on}
use Rattle.cpp_parse_expr.proofs.UnmarkedRules.{reads_unmarked}
use Rattle.cpp_parse.proofs.DanglingBranches.{else_taken, no_else, handler_follows}
use Rattle.cpp_parse.proofs.Dispatch.{statement_line, is_ordinary, ordinary_there, atomic_there}
use Rattle.cpp_parse.proofs.StatementParts.{all_read}
use Rattle.cpp_parse.proofs.+statements.Goals as goal

-- A statement, by the token that it begins with.

pub statements::statement-returns-in-OpenBrace : goal.statements::statement-returns-in-OpenBrace
statements::statement-returns-in-OpenBrace t c =
    statement_line _ open_brace _ _ _ c.compound_statement.result (ap open_brace (back c.terminal.ensures.terminal ∙ c.in-OpenBrace.is)) refl
    c.compound_statement.ensures

pub statements::statement-returns-in-If : goal.statements::statement-returns-in-If
statements::statement-returns-in-If t c =
    statement_line _ if_word _ _ _ c.if_statement.result (ap if_word (back c.terminal.ensures.terminal ∙ c.in-If.is)) refl c.if_statement.ensures

pub statements::statement-returns-in-While : goal.statements::statement-returns-in-While
statements::statement-returns-in-While t c =
    statement_line _ while_word _ _ _ c.while_statement.result (ap while_word (back c.terminal.ensures.terminal ∙ c.in-While.is)) refl
    c.while_statement.ensures

pub statements::statement-returns-in-Do : goal.statements::statement-returns-in-Do
statements::statement-returns-in-Do t c =
    statement_line _ do_word _ _ _ c.do_statement.result (ap do_word (back c.terminal.ensures.terminal ∙ c.in-Do.is)) refl c.do_statement.ensures

pub statements::statement-returns-in-For : goal.statements::statement-returns-in-For
statements::statement-returns-in-For t c =
    statement_line _ for_word _ _ _ c.for_statement.result (ap for_word (back c.terminal.ensures.terminal ∙ c.in-For.is)) refl c.for_statement.ensures

pub statements::statement-returns-in-Switch : goal.statements::statement-returns-in-Switch
statements::statement-returns-in-Switch t c =
    statement_line _ switch_word _ _ _ c.switch_statement.result (ap switch_word (back c.terminal.ensures.terminal ∙ c.in-Switch.is)) refl
    c.switch_statement.ensures

pub statements::statement-returns-in-Case : goal.statements::statement-returns-in-Case
statements::statement-returns-in-Case t c =
    statement_line _ case_word _ _ _ c.case_statement.result (ap case_word (back c.terminal.ensures.terminal ∙ c.in-Case.is)) refl
    c.case_statement.ensures

pub statements::statement-returns-in-Default : goal.statements::statement-returns-in-Default
statements::statement-returns-in-Default t c =
    statement_line _ default_word _ _ _ c.default_statement.result (ap default_word (back c.terminal.ensures.terminal ∙ c.in-Default.is)) refl
    c.default_statement.ensures

pub statements::statement-returns-in-Break : goal.statements::statement-returns-in-Break
statements::statement-returns-in-Break t c =
    let u = ap break_word (back c.terminal.ensures.terminal ∙ c.in-Break.is) in
    statement_line _ break_word _ _ _ c.jump.result u refl (c.jump.ensures break_word u)

pub statements::statement-returns-in-Continue : goal.statements::statement-returns-in-Continue
statements::statement-returns-in-Continue t c =
    let u = ap continue_word (back c.terminal.ensures.terminal ∙ c.in-Continue.is) in
    statement_line _ continue_word _ _ _ c.jump-in-Continue.result u refl (c.jump-in-Continue.ensures continue_word u)

pub statements::statement-return_statement-requires-clause-begins : goal.statements::statement-return_statement-requires-clause-begins
statements::statement-return_statement-requires-clause-begins t c = ap return_word (back c.terminal.ensures.terminal ∙ c.in-Return.is)

pub statements::statement-returns-in-Return : goal.statements::statement-returns-in-Return
statements::statement-returns-in-Return t c =
    statement_line _ return_word _ _ _ c.return_statement.result (ap return_word (back c.terminal.ensures.terminal ∙ c.in-Return.is)) refl
    c.return_statement.ensures

pub statements::statement-returns-in-Try : goal.statements::statement-returns-in-Try
statements::statement-returns-in-Try t c =
    statement_line _ try_word _ _ _ c.try_block.result (ap try_word (back c.terminal.ensures.terminal ∙ c.in-Try.is)) refl c.try_block.ensures

pub statements::statement-returns-in-Synchronized : goal.statements::statement-returns-in-Synchronized
statements::statement-returns-in-Synchronized t c =
    let u = ap synchronized_word (back c.terminal.ensures.terminal ∙ c.in-Synchronized.is) in
    statement_line _ synchronized_word _ _ _ c.marked_block.result u refl (c.marked_block.ensures synchronized_word u)

pub statements::statement-returns-in-AtomicNoexcept : goal.statements::statement-returns-in-AtomicNoexcept
statements::statement-returns-in-AtomicNoexcept t c =
    let u = ap is_atomic (back c.terminal.ensures.terminal) ∙ atomic_there c.in-AtomicNoexcept.is in
    statement_line _ is_atomic _ _ _ c.marked_block-in-AtomicNoexcept.result u refl (c.marked_block-in-AtomicNoexcept.ensures is_atomic u)

pub statements::statement-leaf-requires-clause-inside : goal.statements::statement-leaf-requires-clause-inside
statements::statement-leaf-requires-clause-inside t c = c.terminal.ensures.inside (ap is_end c.in-Semicolon.is)

pub statements::statement-returns-in_err-leaf-in-Semicolon : goal.statements::statement-returns-in_err-leaf-in-Semicolon
statements::statement-returns-in_err-leaf-in-Semicolon t c =
    parsed_err _ _ _ _ c.from_residual.result c.from_residual.ensures.0 (leaves_same c.in_err-leaf-in-Semicolon.ensures)

pub statements::statement-returns-in_ok-leaf-in-Semicolon : goal.statements::statement-returns-in_ok-leaf-in-Semicolon
statements::statement-returns-in_ok-leaf-in-Semicolon t c =
    let u = ap semicolon (back c.terminal.ensures.terminal ∙ c.in-Semicolon.is) in
    statement_line _ semicolon _ _ _ (Ok (Some _)) u refl (leaf_there u (c.terminal.ensures.inside (ap is_end c.in-Semicolon.is))
    c.in_ok-leaf-in-Semicolon.ensures)

pub statements::statement-returns-in_default : goal.statements::statement-returns-in_default
statements::statement-returns-in_default t c =
    let d = c.in_default in
    let u = ordinary_there _ d.not-OpenBrace d.not-Semicolon d.not-If d.not-While d.not-Do d.not-For d.not-Switch d.not-Case d.not-Default
    d.not-Break d.not-Continue d.not-Return d.not-Try d.not-Synchronized d.not-AtomicNoexcept d.not-AtomicCancel d.not-AtomicCommit in
    statement_line _ is_ordinary _ _ _ c.declaration_or_expression.result (ap is_ordinary (back c.terminal.ensures.terminal) ∙ u) refl
    c.declaration_or_expression.ensures

-- Statements in braces.

pub statements::compound_statement-returns-then-not-is_at : goal.statements::compound_statement-returns-then-not-is_at
statements::compound_statement-returns-then-not-is_at t c = (
  leaves_same c.expected_at.ensures,
  none_form (none_node (none_seq (word_none (refused open_brace terminal.OpenBrace refl _
      (c.if-not-is_at.ensures.no refl))))),
)

pub statements::compound_statement-returns-in_err-inner : goal.statements::compound_statement-returns-in_err-inner
statements::compound_statement-returns-in_err-inner t c = parsed_err _ _ _ _ c.from_residual.result c.from_residual.ensures.0 (leaves_none _)

pub statements::compound_statement-statements-init : goal.statements::compound_statement-statements-init
statements::compound_statement-statements-init t c = let i = c.if-not-is_at.ensures.inside refl refl in any_begins (appended_none _) (omega (arith, i))

pub statements::compound_statement-returns-in_err-behind : goal.statements::compound_statement-returns-in_err-behind
statements::compound_statement-returns-in_err-behind t c =
    parsed_err _ _ _ _ c.from_residual-in_err-behind.result c.from_residual-in_err-behind.ensures.0
    (leaves_both (leaves_many c.statements.invariant) c.in_err-behind.ensures)

pub statements::compound_statement-returns-in_default : goal.statements::compound_statement-returns-in_default
statements::compound_statement-returns-in_default t c =
    let x = rw c.in_default.is at c.in_ok-behind.ensures in
    let u = refused close_brace terminal.CloseBrace refl _ (c.statements-test.ensures.no refl) in (
      leaves_both (leaves_many c.statements.invariant) x.0,
      none_form (none_node (none_second
          (none_behind (all_read c.statements.invariant x.1 refl refl) (mark_none u) refl refl refl))),
    )

pub statements::compound_statement-statements-smaller : goal.statements::compound_statement-statements-smaller
statements::compound_statement-statements-smaller t c =
    let x = rw c.in-Some.is at c.in_ok-behind.ensures in
    let lt = not_empty (x.long).derives refl in
    let le = x.inside in
    omega (arith, lt, le)

pub statements::compound_statement-statements-preserved : goal.statements::compound_statement-statements-preserved
statements::compound_statement-statements-preserved t c = any_more c.statements.invariant (rw c.in-Some.is at c.in_ok-behind.ensures) refl refl refl

pub statements::compound_statement-returns-in_err-node : goal.statements::compound_statement-returns-in_err-node
statements::compound_statement-returns-in_err-node t c =
    parsed_err _ _ _ _ c.from_residual-in_err-node.result c.from_residual-in_err-node.ensures.0
    (leaves_both (leaves_many c.statements.invariant) (leaves_same c.in_err-node.ensures.memory))

pub statements::compound_statement-returns : goal.statements::compound_statement-returns
statements::compound_statement-returns t c =
    let u = passed open_brace terminal.OpenBrace refl _ (c.if-not-is_at.ensures.yes refl) in
    let v = passed close_brace terminal.CloseBrace refl _ (c.statements-test.ensures.yes refl) in
    let x = all_read c.statements.invariant (none_unlike close_brace v refl refl) refl refl in
    reads_form (made (word_and u (c.if-not-is_at.ensures.inside refl refl) (reads_seq x (reads_mark v (c.statements-test.ensures.inside refl refl))
    refl refl) refl refl) c.checkpoint-start.ensures c.in_ok-node.ensures.read)

-- Selection.

pub statements::if_statement-returns-in_err-inner : goal.statements::if_statement-returns-in_err-inner
statements::if_statement-returns-in_err-inner t c = parsed_err _ _ _ _ c.from_residual.result c.from_residual.ensures.0 (leaves_none _)

pub statements::if_statement-condition-requires : goal.statements::if_statement-condition-requires
statements::if_statement-condition-requires t c = let i = within c.args.text.now c.args.at if_word refl c.requires.begins in omega (arith, i)

pub statements::if_statement-returns-in_default : goal.statements::if_statement-returns-in_default
statements::if_statement-returns-in_default t c =
    let x = rw c.in_default.is at c.in_ok-held.ensures in
    (x.0, neither (none_node (none_second_mark (none_seq x.1))) (before_none (none_node (none_second_mark (none_seq x.1)))))

pub statements::if_statement-returns-in_err-middle : goal.statements::if_statement-returns-in_err-middle
statements::if_statement-returns-in_err-middle t c =
    parsed_err _ _ _ _ c.from_residual-in_err-middle.result c.from_residual-in_err-middle.ensures.0
    (leaves_both (leaves_read (rw c.in-Some.is at c.in_ok-held.ensures)) c.in_err-middle.ensures)

pub statements::if_statement-returns-in_default-2 : goal.statements::if_statement-returns-in_default-2
statements::if_statement-returns-in_default-2 t c =
    let x = rw c.in-Some.is at c.in_ok-held.ensures in
    let y = rw c.in_default-2.is at c.in_ok-middle.ensures in (
      leaves_both (leaves_read x) y.0,
      neither (none_node (none_second_mark (none_behind x (none_seq y.1) refl refl refl)))
          (before_none (none_node (none_second_mark (none_behind x y.1 refl refl refl)))),
    )

pub statements::if_statement-returns-in_err-node : goal.statements::if_statement-returns-in_err-node
statements::if_statement-returns-in_err-node t c =
    parsed_err _ _ _ _ c.from_residual-in_err-node.result c.from_residual-in_err-node.ensures.0
    (leaves_both (leaves_read (rw c.in-Some.is at c.in_ok-held.ensures)) (leaves_both (leaves_read (rw c.in-Some-2.is at c.in_ok-middle.ensures))
    (leaves_same c.in_err-node.ensures.memory)))

pub statements::if_statement-returns-then-not-is_at : goal.statements::if_statement-returns-then-not-is_at
statements::if_statement-returns-then-not-is_at t c =
    let x = rw c.in-Some.is at c.in_ok-held.ensures in
    let y = rw c.in-Some-2.is at c.in_ok-middle.ensures in
    let u = refused else_word terminal.Else refl _ (c.if-not-is_at.ensures.no refl) in
    reads_right (none_node (none_second_mark (none_behind x (none_behind y (seq_none (word_none u)) refl refl refl) refl refl refl)))
    (reads_before (made (mark_and c.requires.begins (within c.args.text.now c.args.at if_word refl c.requires.begins) (reads_seq x y refl refl) refl
    refl) c.checkpoint-start.ensures c.in_ok-node.ensures.read) u)

pub statements::if_statement-returns-in_err-next : goal.statements::if_statement-returns-in_err-next
statements::if_statement-returns-in_err-next t c =
    parsed_err _ _ _ _ c.from_residual-in_err-next.result c.from_residual-in_err-next.ensures.0
    (leaves_both (leaves_read (rw c.in-Some.is at c.in_ok-held.ensures)) (leaves_both (leaves_read (rw c.in-Some-2.is at c.in_ok-middle.ensures))
    c.in_err-next.ensures))

pub statements::if_statement-returns-in_default-3 : goal.statements::if_statement-returns-in_default-3
statements::if_statement-returns-in_default-3 t c =
    let x = rw c.in-Some.is at c.in_ok-held.ensures in
    let y = rw c.in-Some-2.is at c.in_ok-middle.ensures in
    let z = rw c.in_default-3.is at c.in_ok-next.ensures in
    let u = passed else_word terminal.Else refl _ (c.if-not-is_at.ensures.yes refl) in (
      leaves_both (leaves_read x) (leaves_both (leaves_read y) z.0),
      no_else (mark_and c.requires.begins (within c.args.text.now c.args.at if_word refl c.requires.begins) (reads_seq x y refl refl) refl refl) u
          (none_node (none_second_mark (none_behind x (none_behind y (none_second z.1) refl refl refl) refl refl refl))),
    )

pub statements::if_statement-returns-in_err-node-2 : goal.statements::if_statement-returns-in_err-node-2
statements::if_statement-returns-in_err-node-2 t c =
    parsed_err _ _ _ _ c.from_residual-in_err-node-2.result c.from_residual-in_err-node-2.ensures.0
    (leaves_both (leaves_read (rw c.in-Some.is at c.in_ok-held.ensures)) (leaves_both (leaves_read (rw c.in-Some-2.is at c.in_ok-middle.ensures))
    (leaves_both (leaves_read (rw c.in-Some-3.is at c.in_ok-next.ensures)) (leaves_same c.in_err-node-2.ensures.memory))))

pub statements::if_statement-returns : goal.statements::if_statement-returns
statements::if_statement-returns t c =
    let x = rw c.in-Some.is at c.in_ok-held.ensures in
    let y = rw c.in-Some-2.is at c.in_ok-middle.ensures in
    let z = rw c.in-Some-3.is at c.in_ok-next.ensures in
    let u = passed else_word terminal.Else refl _ (c.if-not-is_at.ensures.yes refl) in
    let i = within c.args.text.now c.args.at if_word refl c.requires.begins in
    else_taken (mark_and c.requires.begins i (reads_seq x y refl refl) refl refl) u
    (made (mark_and c.requires.begins i (reads_seq x (reads_seq y (word_and u (c.if-not-is_at.ensures.inside refl refl) z refl refl) refl refl) refl
    refl) refl refl) c.checkpoint-start.ensures c.in_ok-node-2.ensures.read)

pub statements::switch_statement-condition-requires : goal.statements::switch_statement-condition-requires
statements::switch_statement-condition-requires t c = let i = within c.args.text.now c.args.at switch_word refl c.requires.begins in omega (arith, i)

pub statements::switch_statement-returns-in_default : goal.statements::switch_statement-returns-in_default
statements::switch_statement-returns-in_default t c =
    let x = rw c.in_default.is at c.in_ok-held.ensures in
    (x.0, none_node (none_second_mark (none_seq x.1)))

pub statements::switch_statement-returns-in_err-next : goal.statements::switch_statement-returns-in_err-next
statements::switch_statement-returns-in_err-next t c =
    parsed_err _ _ _ _ c.from_residual-in_err-next.result c.from_residual-in_err-next.ensures.0
    (leaves_both (leaves_read (rw c.in-Some.is at c.in_ok-held.ensures)) c.in_err-next.ensures)

pub statements::switch_statement-returns-in_default-2 : goal.statements::switch_statement-returns-in_default-2
statements::switch_statement-returns-in_default-2 t c =
    let x = rw c.in-Some.is at c.in_ok-held.ensures in
    let y = rw c.in_default-2.is at c.in_ok-next.ensures in
    (leaves_both (leaves_read x) y.0, none_node (none_second_mark (none_behind x y.1 refl refl refl)))

pub statements::switch_statement-returns-in_err-node : goal.statements::switch_statement-returns-in_err-node
statements::switch_statement-returns-in_err-node t c =
    parsed_err _ _ _ _ c.from_residual-in_err-node.result c.from_residual-in_err-node.ensures.0
    (leaves_both (leaves_read (rw c.in-Some.is at c.in_ok-held.ensures)) (leaves_both (leaves_read (rw c.in-Some-2.is at c.in_ok-next.ensures))
    (leaves_same c.in_err-node.ensures.memory)))

pub statements::switch_statement-returns : goal.statements::switch_statement-returns
statements::switch_statement-returns t c =
    made (mark_and c.requires.begins (within c.args.text.now c.args.at switch_word refl c.requires.begins)
    (reads_seq (rw c.in-Some.is at c.in_ok-held.ensures) (rw c.in-Some-2.is at c.in_ok-next.ensures) refl refl) refl refl) c.checkpoint-start.ensures
    c.in_ok-node.ensures.read

-- Labels.

pub statements::case_statement-returns-in_err-inner : goal.statements::case_statement-returns-in_err-inner
statements::case_statement-returns-in_err-inner t c = parsed_err _ _ _ _ c.from_residual.result c.from_residual.ensures.0 (leaves_none _)

pub statements::case_statement-conditional_expression-requires : goal.statements::case_statement-conditional_expression-requires
statements::case_statement-conditional_expression-requires t c = let i = within c.args.text.now c.args.at case_word refl c.requires.begins in omega (arith, i)

pub statements::case_statement-returns-in_default : goal.statements::case_statement-returns-in_default
statements::case_statement-returns-in_default t c =
    let x = rw c.in_default.is at c.in_ok-colon.ensures in
    (x.0, none_node (none_second_mark (none_seq x.1)))

pub statements::case_statement-returns-in_err-next : goal.statements::case_statement-returns-in_err-next
statements::case_statement-returns-in_err-next t c =
    parsed_err _ _ _ _ c.from_residual-in_err-next.result c.from_residual-in_err-next.ensures.0
    (leaves_both (leaves_read (rw c.in-Some.is at c.in_ok-colon.ensures)) c.in_err-next.ensures)

pub statements::case_statement-returns-in_default-2 : goal.statements::case_statement-returns-in_default-2
statements::case_statement-returns-in_default-2 t c =
    let x = rw c.in-Some.is at c.in_ok-colon.ensures in
    let y = rw c.in_default-2.is at c.in_ok-next.ensures in
    (leaves_both (leaves_read x) y.0, none_node (none_second_mark (none_behind x y.1 refl refl refl)))

pub statements::case_statement-returns-in_err-node : goal.statements::case_statement-returns-in_err-node
statements::case_statement-returns-in_err-node t c =
    parsed_err _ _ _ _ c.from_residual-in_err-node.result c.from_residual-in_err-node.ensures.0
    (leaves_both (leaves_read (rw c.in-Some.is at c.in_ok-colon.ensures)) (leaves_both (leaves_read (rw c.in-Some-2.is at c.in_ok-next.ensures))
    (leaves_same c.in_err-node.ensures.memory)))

pub statements::case_statement-returns : goal.statements::case_statement-returns
statements::case_statement-returns t c =
    made (mark_and c.requires.begins (within c.args.text.now c.args.at case_word refl c.requires.begins)
    (reads_seq (rw c.in-Some.is at c.in_ok-colon.ensures) (rw c.in-Some-2.is at c.in_ok-next.ensures) refl refl) refl refl)
    c.checkpoint-start.ensures c.in_ok-node.ensures.read

pub statements::default_statement-returns-in_err-descend : goal.statements::default_statement-returns-in_err-descend
statements::default_statement-returns-in_err-descend t c = parsed_err _ _ _ _ c.from_residual.result c.from_residual.ensures.0 (leaves_none _)

pub statements::default_statement-labelled_statement-requires : goal.statements::default_statement-labelled_statement-requires
statements::default_statement-labelled_statement-requires t c = let i = within c.args.text.now c.args.at default_word refl c.requires.begins in omega (arith, i)

pub statements::default_statement-returns-in_default : goal.statements::default_statement-returns-in_default
statements::default_statement-returns-in_default t c =
    let x = rw c.in_default.is at c.in_ok-next.ensures in
    (x.0, none_node (none_second_mark x.1))

pub statements::default_statement-returns-in_err-node : goal.statements::default_statement-returns-in_err-node
statements::default_statement-returns-in_err-node t c =
    parsed_err _ _ _ _ c.from_residual-in_err-node.result c.from_residual-in_err-node.ensures.0
    (leaves_both (leaves_read (rw c.in-Some.is at c.in_ok-next.ensures)) (leaves_same c.in_err-node.ensures.memory))

pub statements::default_statement-returns : goal.statements::default_statement-returns
statements::default_statement-returns t c =
    made (mark_and c.requires.begins (within c.args.text.now c.args.at default_word refl c.requires.begins) (rw c.in-Some.is at c.in_ok-next.ensures)
    refl refl) c.checkpoint-start.ensures c.in_ok-node.ensures.read

pub statements::labelled_statement-returns-then-not-is_at : goal.statements::labelled_statement-returns-then-not-is_at
statements::labelled_statement-returns-then-not-is_at t c =
    (leaves_same c.expected_at.ensures, none_seq (word_none (refused colon terminal.Colon refl _ (c.if-not-is_at.ensures.no refl))))

pub statements::labelled_statement-statement-requires : goal.statements::labelled_statement-statement-requires
statements::labelled_statement-statement-requires t c = let i = c.if-not-is_at.ensures.inside refl refl in omega (arith, i)

pub statements::labelled_statement-returns : goal.statements::labelled_statement-returns
statements::labelled_statement-returns t c =
    parsed_word _ colon _ _ _ _ _ c.statement.result (passed colon terminal.Colon refl _ (c.if-not-is_at.ensures.yes refl))
    (c.if-not-is_at.ensures.inside refl refl) refl refl c.statement.ensures

-- Loops.

pub loops::while_statement-returns-in_err-inner : goal.loops::while_statement-returns-in_err-inner
loops::while_statement-returns-in_err-inner t c = parsed_err _ _ _ _ c.from_residual.result c.from_residual.ensures.0 (leaves_none _)

pub loops::while_statement-condition-requires : goal.loops::while_statement-condition-requires
loops::while_statement-condition-requires t c = let i = within c.args.text.now c.args.at while_word refl c.requires.begins in omega (arith, i)

pub loops::while_statement-returns-in_default : goal.loops::while_statement-returns-in_default
loops::while_statement-returns-in_default t c =
    let x = rw c.in_default.is at c.in_ok-held.ensures in
    (x.0, none_node (none_second_mark (none_seq x.1)))

pub loops::while_statement-returns-in_err-next : goal.loops::while_statement-returns-in_err-next
loops::while_statement-returns-in_err-next t c =
    parsed_err _ _ _ _ c.from_residual-in_err-next.result c.from_residual-in_err-next.ensures.0
    (leaves_both (leaves_read (rw c.in-Some.is at c.in_ok-held.ensures)) c.in_err-next.ensures)

pub loops::while_statement-returns-in_default-2 : goal.loops::while_statement-returns-in_default-2
loops::while_statement-returns-in_default-2 t c =
    let x = rw c.in-Some.is at c.in_ok-held.ensures in
    let y = rw c.in_default-2.is at c.in_ok-next.ensures in
    (leaves_both (leaves_read x) y.0, none_node (none_second_mark (none_behind x y.1 refl refl refl)))

pub loops::while_statement-returns-in_err-node : goal.loops::while_statement-returns-in_err-node
loops::while_statement-returns-in_err-node t c =
    parsed_err _ _ _ _ c.from_residual-in_err-node.result c.from_residual-in_err-node.ensures.0
    (leaves_both (leaves_read (rw c.in-Some.is at c.in_ok-held.ensures)) (leaves_both (leaves_read (rw c.in-Some-2.is at c.in_ok-next.ensures))
    (leaves_same c.in_err-node.ensures.memory)))

pub loops::while_statement-returns : goal.loops::while_statement-returns
loops::while_statement-returns t c =
    made (mark_and c.requires.begins (within c.args.text.now c.args.at while_word refl c.requires.begins)
    (reads_seq (rw c.in-Some.is at c.in_ok-held.ensures) (rw c.in-Some-2.is at c.in_ok-next.ensures) refl refl) refl refl) c.checkpoint-start.ensures
    c.in_ok-node.ensures.read

pub loops::do_statement-returns-in_err-descend : goal.loops::do_statement-returns-in_err-descend
loops::do_statement-returns-in_err-descend t c = parsed_err _ _ _ _ c.from_residual.result c.from_residual.ensures.0 (leaves_none _)

pub loops::do_statement-statement-requires : goal.loops::do_statement-statement-requires
loops::do_statement-statement-requires t c = let i = within c.args.text.now c.args.at do_word refl c.requires.begins in omega (arith, i)

pub loops::do_statement-returns-in_default : goal.loops::do_statement-returns-in_default
loops::do_statement-returns-in_default t c =
    let x = rw c.in_default.is at c.in_ok-behind.ensures in
    (x.0, none_node (none_second_mark (none_seq x.1)))

pub loops::do_statement-returns-in_err-next : goal.loops::do_statement-returns-in_err-next
loops::do_statement-returns-in_err-next t c =
    parsed_err _ _ _ _ c.from_residual-in_err-next.result c.from_residual-in_err-next.ensures.0
    (leaves_both (leaves_read (rw c.in-Some.is at c.in_ok-behind.ensures)) c.in_err-next.ensures)

pub loops::do_statement-returns-in_default-2 : goal.loops::do_statement-returns-in_default-2
loops::do_statement-returns-in_default-2 t c =
    let x = rw c.in-Some.is at c.in_ok-behind.ensures in
    let y = rw c.in_default-2.is at c.in_ok-next.ensures in
    (leaves_both (leaves_read x) y.0, none_node (none_second_mark (none_behind x y.1 refl refl refl)))

pub loops::do_statement-returns-in_err-node : goal.loops::do_statement-returns-in_err-node
loops::do_statement-returns-in_err-node t c =
    parsed_err _ _ _ _ c.from_residual-in_err-node.result c.from_residual-in_err-node.ensures.0
    (leaves_both (leaves_read (rw c.in-Some.is at c.in_ok-behind.ensures)) (leaves_both (leaves_read (rw c.in-Some-2.is at c.in_ok-next.ensures))
    (leaves_same c.in_err-node.ensures.memory)))

pub loops::do_statement-returns : goal.loops::do_statement-returns
loops::do_statement-returns t c =
    made (mark_and c.requires.begins (within c.args.text.now c.args.at do_word refl c.requires.begins)
    (reads_seq (rw c.in-Some.is at c.in_ok-behind.ensures) (rw c.in-Some-2.is at c.in_ok-next.ensures) refl refl) refl refl)
    c.checkpoint-start.ensures c.in_ok-node.ensures.read

pub loops::for_statement-returns-then-not-is_at : goal.loops::for_statement-returns-then-not-is_at
loops::for_statement-returns-then-not-is_at t c = (
  leaves_same c.expected_at.ensures,
  none_node (none_second_mark (none_seq (word_none
      (refused open_paren terminal.OpenParen refl _ (c.if-not-is_at.ensures.no refl))))),
)

pub loops::for_statement-returns-in_err-inner : goal.loops::for_statement-returns-in_err-inner
loops::for_statement-returns-in_err-inner t c = parsed_err _ _ _ _ c.from_residual.result c.from_residual.ensures.0 (leaves_none _)

pub loops::for_statement-for_init_statement-requires : goal.loops::for_statement-for_init_statement-requires
loops::for_statement-for_init_statement-requires t c = let i = c.if-not-is_at.ensures.inside refl refl in omega (arith, i)

pub loops::for_statement-returns-in_default : goal.loops::for_statement-returns-in_default
loops::for_statement-returns-in_default t c =
    let x = rw c.in_default.is at c.in_ok-first.ensures in
    (x.0, none_node (none_second_mark (none_second (none_seq (none_two_on c.args.at x.1)))))

pub loops::for_statement-returns-in_err-next : goal.loops::for_statement-returns-in_err-next
loops::for_statement-returns-in_err-next t c =
    parsed_err _ _ _ _ c.from_residual-in_err-next.result c.from_residual-in_err-next.ensures.0
    (leaves_both (leaves_read (rw c.in-Some.is at c.in_ok-first.ensures)) c.in_err-next.ensures)

pub loops::for_statement-returns-in_default-2 : goal.loops::for_statement-returns-in_default-2
loops::for_statement-returns-in_default-2 t c =
    let x = rw c.in-Some.is at c.in_ok-first.ensures in
    let y = rw c.in_default-2.is at c.in_ok-next.ensures in
    (leaves_both (leaves_read x) y.0, none_node (none_second_mark (none_second (none_behind (reads_two_on c.args.at x) y.1 refl refl refl))))

pub loops::for_statement-returns-in_err-node : goal.loops::for_statement-returns-in_err-node
loops::for_statement-returns-in_err-node t c =
    parsed_err _ _ _ _ c.from_residual-in_err-node.result c.from_residual-in_err-node.ensures.0
    (leaves_both (leaves_read (rw c.in-Some.is at c.in_ok-first.ensures)) (leaves_both (leaves_read (rw c.in-Some-2.is at c.in_ok-next.ensures))
    (leaves_same c.in_err-node.ensures.memory)))

pub loops::for_statement-returns : goal.loops::for_statement-returns
loops::for_statement-returns t c =
    let u = passed open_paren terminal.OpenParen refl _ (c.if-not-is_at.ensures.yes refl) in
    made (mark_and c.requires.begins (within c.args.text.now c.args.at for_word refl c.requires.begins)
    (word_and u (c.if-not-is_at.ensures.inside refl refl) (reads_seq (reads_two_on c.args.at (rw c.in-Some.is at c.in_ok-first.ensures))
    (rw c.in-Some-2.is at c.in_ok-next.ensures) refl refl) refl refl) refl refl) c.checkpoint-start.ensures c.in_ok-node.ensures.read

pub loops::for_rest-returns-then-not-is_at : goal.loops::for_rest-returns-then-not-is_at
loops::for_rest-returns-then-not-is_at t c =
    let x = c.in_ok-middle.ensures in (
      leaves_both (leaves_read x) (leaves_same c.expected_at.ensures),
      none_behind x (none_seq
          (word_none (refused semicolon terminal.Semicolon refl _ (c.if-not-is_at.ensures.no refl)))) refl refl refl,
    )

pub loops::for_rest-returns-in_err-close : goal.loops::for_rest-returns-in_err-close
loops::for_rest-returns-in_err-close t c =
    parsed_err _ _ _ _ c.from_residual-in_err-close.result c.from_residual-in_err-close.ensures.0
    (leaves_both (leaves_read c.in_ok-middle.ensures) c.in_err-close.ensures)

pub loops::for_rest-returns-then-not-is_at-2 : goal.loops::for_rest-returns-then-not-is_at-2
loops::for_rest-returns-then-not-is_at-2 t c =
    let x = c.in_ok-middle.ensures in
    let y = c.in_ok-close.ensures in (
      leaves_both (leaves_read x) (leaves_both (leaves_read y) (leaves_same c.expected_at-then-not-is_at-2.ensures)),
      none_behind x (none_second (none_behind y (none_seq (word_none (refused close_paren terminal.CloseParen refl _
          (c.if-not-is_at-2.ensures.no refl)))) refl refl refl)) refl refl refl,
    )

pub loops::for_rest-statement-requires : goal.loops::for_rest-statement-requires
loops::for_rest-statement-requires t c = let i = c.if-not-is_at-2.ensures.inside refl refl in omega (arith, i)

pub loops::for_rest-returns : goal.loops::for_rest-returns
loops::for_rest-returns t c =
    let u = passed semicolon terminal.Semicolon refl _ (c.if-not-is_at.ensures.yes refl) in
    let v = passed close_paren terminal.CloseParen refl _ (c.if-not-is_at-2.ensures.yes refl) in
    parsed_seq _ _ _ _ _ None None _ _ _ c.statement.result c.in_ok-middle.ensures refl refl refl
    (parsed_word _ semicolon _ _ _ _ _ c.statement.result u (c.if-not-is_at.ensures.inside refl refl) refl refl
    (parsed_seq _ _ _ _ _ None None _ _ _ c.statement.result c.in_ok-close.ensures refl refl refl
    (parsed_word _ close_paren _ _ _ _ _ c.statement.result v (c.if-not-is_at-2.ensures.inside refl refl) refl refl c.statement.ensures)))

-- Blocks.

pub blocks::marked_block-returns-in_err-next : goal.blocks::marked_block-returns-in_err-next
blocks::marked_block-returns-in_err-next t c = λ w u. parsed_err _ _ _ _ c.from_residual.result c.from_residual.ensures.0 c.in_err-next.ensures

pub blocks::marked_block-returns-in_default : goal.blocks::marked_block-returns-in_default
blocks::marked_block-returns-in_default t c =
    let x = rw c.in_default.is at c.in_ok-next.ensures in
    λ w u. (x.0, none_node (none_second_mark x.1))

pub blocks::marked_block-returns-in_err-node : goal.blocks::marked_block-returns-in_err-node
blocks::marked_block-returns-in_err-node t c =
    λ w u. parsed_err _ _ _ _ c.from_residual-in_err-node.result c.from_residual-in_err-node.ensures.0
    (leaves_both (leaves_read (rw c.in-Some.is at c.in_ok-next.ensures)) (leaves_same c.in_err-node.ensures.memory))

pub blocks::marked_block-returns : goal.blocks::marked_block-returns
blocks::marked_block-returns t c =
    let i = c.requires.inside in
    λ w u. made (mark_and u (omega (arith, i)) (rw c.in-Some.is at c.in_ok-next.ensures) refl refl) c.checkpoint-start.ensures c.in_ok-node.ensures.read

pub blocks::try_block-compound_statement-requires : goal.blocks::try_block-compound_statement-requires
blocks::try_block-compound_statement-requires t c = let i = within c.args.text.now c.args.at try_word refl c.requires.begins in omega (arith, i)

pub blocks::try_block-returns-in_default : goal.blocks::try_block-returns-in_default
blocks::try_block-returns-in_default t c =
    let x = rw c.in_default.is at c.in_ok-behind.ensures in
    (x.0, before_none (none_node (none_second_mark (none_seq x.1))))

pub blocks::try_block-returns-in_err-next : goal.blocks::try_block-returns-in_err-next
blocks::try_block-returns-in_err-next t c =
    parsed_err _ _ _ _ c.from_residual-in_err-next.result c.from_residual-in_err-next.ensures.0
    (leaves_both (leaves_read (rw c.in-Some.is at c.in_ok-behind.ensures)) c.in_err-next.ensures)

pub blocks::try_block-returns-in_default-2 : goal.blocks::try_block-returns-in_default-2
blocks::try_block-returns-in_default-2 t c =
    let x = rw c.in-Some.is at c.in_ok-behind.ensures in
    let y = rw c.in_default-2.is at c.in_ok-next.ensures in
    (leaves_both (leaves_read x) y.0, before_none (none_node (none_second_mark (none_behind x y.1 refl refl refl))))

pub blocks::try_block-returns-then-is_at : goal.blocks::try_block-returns-then-is_at
blocks::try_block-returns-then-is_at t c =
    let x = rw c.in-Some.is at c.in_ok-behind.ensures in
    let y = rw c.in-Some-2.is at c.in_ok-next.ensures in (
      leaves_both (leaves_read x) (leaves_read y),
      handler_follows (mark_and c.requires.begins
          (within c.args.text.now c.args.at try_word refl c.requires.begins) (reads_seq x y refl refl) refl refl)
          (passed catch_word terminal.Catch refl _ (c.if-is_at.ensures.yes refl)),
    )

pub blocks::try_block-returns-in_err-node : goal.blocks::try_block-returns-in_err-node
blocks::try_block-returns-in_err-node t c =
    parsed_err _ _ _ _ c.from_residual-in_err-node.result c.from_residual-in_err-node.ensures.0
    (leaves_both (leaves_read (rw c.in-Some.is at c.in_ok-behind.ensures)) (leaves_both (leaves_read (rw c.in-Some-2.is at c.in_ok-next.ensures))
    (leaves_same c.in_err-node.ensures.memory)))

pub blocks::try_block-returns : goal.blocks::try_block-returns
blocks::try_block-returns t c =
    reads_before (made (mark_and c.requires.begins (within c.args.text.now c.args.at try_word refl c.requires.begins)
    (reads_seq (rw c.in-Some.is at c.in_ok-behind.ensures) (rw c.in-Some-2.is at c.in_ok-next.ensures) refl refl) refl refl)
    c.checkpoint-start.ensures c.in_ok-node.ensures.read) (refused catch_word terminal.Catch refl _ (c.if-is_at.ensures.no refl))

pub blocks::handlers-returns-in_default : goal.blocks::handlers-returns-in_default
blocks::handlers-returns-in_default t c =
    let x = rw c.in_default.is at c.in_ok-first.ensures in
    (x.0, none_seq x.1)

pub blocks::handlers-handlers-init : goal.blocks::handlers-handlers-init
blocks::handlers-handlers-init t c = loop_begins (rw c.in-Some.is at c.in_ok-first.ensures) refl

pub blocks::handlers-returns-in_err-behind : goal.blocks::handlers-returns-in_err-behind
blocks::handlers-returns-in_err-behind t c =
    parsed_err _ _ _ _ c.from_residual-in_err-behind.result c.from_residual-in_err-behind.ensures.0
    (leaves_both (leaves_chain c.handlers.invariant) c.in_err-behind.ensures)

pub blocks::handlers-returns-in_default-2 : goal.blocks::handlers-returns-in_default-2
blocks::handlers-returns-in_default-2 t c =
    let x = rw c.in_default-2.is at c.in_ok-behind.ensures in
    reads_unmarked (ended c.handlers.invariant (free_none refl x.1) (c.cut.ensures _ _ c.checkpoint-mark.ensures (x.0).gained)) refl

pub blocks::handlers-handlers-preserved : goal.blocks::handlers-handlers-preserved
blocks::handlers-handlers-preserved t c = loop_more c.handlers.invariant (rw c.in-Some-2.is at c.in_ok-behind.ensures) refl refl refl

pub blocks::handlers-handlers-smaller : goal.blocks::handlers-handlers-smaller
blocks::handlers-handlers-smaller t c =
    let x = rw c.in-Some-2.is at c.in_ok-behind.ensures in
    let lt = not_empty (x.long).derives refl in
    let le = x.inside in
    omega (arith, lt, le)

pub blocks::handlers-returns : goal.blocks::handlers-returns
blocks::handlers-returns t c =
    reads_unmarked (ended c.handlers.invariant (λ r. form_none (node_none (seq_none (mark_none
    (refused catch_word terminal.Catch refl _ (c.handlers-test.ensures.no refl)))))) refl) refl

pub blocks::handler-returns-then-not-is_at : goal.blocks::handler-returns-then-not-is_at
blocks::handler-returns-then-not-is_at t c = (
  leaves_same c.expected_at.ensures,
  none_form (none_node (none_seq (mark_none (refused catch_word terminal.Catch refl _
      (c.if-not-is_at.ensures.no refl))))),
)

pub blocks::handler-returns-then-not-is_at-2 : goal.blocks::handler-returns-then-not-is_at-2
blocks::handler-returns-then-not-is_at-2 t c = (
  leaves_same c.expected_at-then-not-is_at-2.ensures,
  none_form (none_node (none_second_mark
      (none_seq (word_none (refused open_paren terminal.OpenParen refl _ (c.if-not-is_at-2.ensures.no refl)))))),
)

pub blocks::handler-exception_declaration-requires : goal.blocks::handler-exception_declaration-requires
blocks::handler-exception_declaration-requires t c = let i = c.if-not-is_at-2.ensures.inside refl refl in omega (arith, i)

pub blocks::handler-returns-in_default : goal.blocks::handler-returns-in_default
blocks::handler-returns-in_default t c =
    let x = rw c.in_default.is at c.in_ok-close.ensures in
    (x.0, none_form (none_node (none_second_mark (none_second (none_seq (none_two_on c.args.at x.1))))))

pub blocks::handler-returns-then-not-is_at-3 : goal.blocks::handler-returns-then-not-is_at-3
blocks::handler-returns-then-not-is_at-3 t c =
    let x = rw c.in-Some.is at c.in_ok-close.ensures in (
      leaves_both (leaves_read x) (leaves_same c.expected_at-then-not-is_at-3.ensures),
      none_form (none_node (none_second_mark (none_second (none_behind (reads_two_on c.args.at x)
          (none_seq (word_none (refused close_paren terminal.CloseParen refl _ (c.if-not-is_at-3.ensures.no refl)))) refl refl refl)))),
    )

pub blocks::handler-compound_statement-requires : goal.blocks::handler-compound_statement-requires
blocks::handler-compound_statement-requires t c = let i = c.if-not-is_at-3.ensures.inside refl refl in omega (arith, i)

pub blocks::handler-returns-in_err-next : goal.blocks::handler-returns-in_err-next
blocks::handler-returns-in_err-next t c =
    parsed_err _ _ _ _ c.from_residual-in_err-next.result c.from_residual-in_err-next.ensures.0
    (leaves_both (leaves_read (rw c.in-Some.is at c.in_ok-close.ensures)) c.in_err-next.ensures)

pub blocks::handler-returns-in_default-2 : goal.blocks::handler-returns-in_default-2
blocks::handler-returns-in_default-2 t c =
    let x = rw c.in-Some.is at c.in_ok-close.ensures in
    let y = rw c.in_default-2.is at c.in_ok-next.ensures in (
      leaves_both (leaves_read x) y.0,
      none_form (none_node (none_second_mark (none_second
          (none_behind (reads_two_on c.args.at x) (none_second y.1) refl refl refl)))),
    )

pub blocks::handler-returns-in_err-node : goal.blocks::handler-returns-in_err-node
blocks::handler-returns-in_err-node t c =
    parsed_err _ _ _ _ c.from_residual-in_err-node.result c.from_residual-in_err-node.ensures.0
    (leaves_both (leaves_read (rw c.in-Some.is at c.in_ok-close.ensures)) (leaves_both (leaves_read (rw c.in-Some-2.is at c.in_ok-next.ensures))
    (leaves_same c.in_err-node.ensures.memory)))

pub blocks::handler-returns : goal.blocks::handler-returns
blocks::handler-returns t c =
    let u = passed catch_word terminal.Catch refl _ (c.if-not-is_at.ensures.yes refl) in
    let v = passed open_paren terminal.OpenParen refl _ (c.if-not-is_at-2.ensures.yes refl) in
    let w = passed close_paren terminal.CloseParen refl _ (c.if-not-is_at-3.ensures.yes refl) in
    let x = reads_two_on c.args.at (rw c.in-Some.is at c.in_ok-close.ensures) in
    let y = rw c.in-Some-2.is at c.in_ok-next.ensures in
    reads_form (made (mark_and u (c.if-not-is_at.ensures.inside refl refl) (word_and v (c.if-not-is_at-2.ensures.inside refl refl)
    (reads_seq x (word_and w (c.if-not-is_at-3.ensures.inside refl refl) y refl refl) refl refl) refl refl) refl refl) c.checkpoint-start.ensures
    c.in_ok-node.ensures.read)
