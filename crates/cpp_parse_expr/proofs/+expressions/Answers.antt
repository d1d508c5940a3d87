-- What the readers of declarators, types and expressions answer.
use Rattle.std.proofs.Common.{◌≡◌, ◌+◌, ℕ, ◌⊎◌, inl, inr, true, false, refl, sym as back, ◌∙◌, ap, subst, arith, Option, Some, None, true≢false, not}
use Rattle.std.proofs.lemmas.Bool.{not_from_false}
use Rattle.cpp_ast.specs.declared.arena.At.{At}
use Rattle.cpp_ast.specs.declared.kinds.NodeKind.TheVariants.{OmittedId, SimpleTypeSpecifier, StdAbort}
use Rattle.cpp_syntax.specs.Source.{terminal_at}
use Rattle.cpp_syntax.specs.Terminals.{star, amp, comma, open_paren, close_paren, open_bracket, greater, void_word, is_type_word, is_type_name, question}
use Rattle.cpp_syntax.specs.Terminals.{throw_word, sizeof_word, close_bracket, colon, colon_colon, less, dot, arrow, static_cast_word, is_literal, is_name}
use Rattle.cpp_syntax.specs.Terminals.{is_prefix, is_step, is_assignment, std, abort_word, open_brace}
use Rattle.cpp_syntax.specs.Types.{spells_a_type}
use Rattle.cpp_syntax.specs.Shapes.{begins_name_at}
use Rattle.cpp_syntax.specs.Names.{naming_of, may_name, is_in_block}
use Rattle.cpp_syntax.specs.Rules.{whole, unnamed, either, type_id, type_specifier, parameters, word, ◌·◌, ◌∣◌, form, some, where_, cast_expression}
use Rattle.cpp_syntax.specs.Rules.{unary_expression, functional_type, primary_expression, mark}
use Rattle.cpp_syntax.specs.Grammar.{leaf, type_name, tx_exception, arguments}
use Rattle.cpp_syntax.specs.Derivations.{no_read, first_or, reads_node}
use Rattle.cpp_syntax.specs.Lookahead.{lookahead}
use Rattle.cpp_syntax.specs.FirstSets.{need_not_name}
use Rattle.cpp_syntax.specs.View.{appended}
use Rattle.cpp_syntax.specs.Parsed.{ReadsLongest, NoneOf}
use Rattle.cpp_parse_expr.specs.Suffixes.{a_subscript, a_call, a_step}
use Rattle.cpp_syntax.proofs.SingleTerminals.{passed, refused}
use Rattle.cpp_syntax.proofs.FirstTerminals.{not_empty}
use Rattle.cpp_syntax.proofs.LongestMatches.{mark_none, word_none, node_none, form_none, seq_none, where_none, neither, if_none, if_unseen, unless_none}
use Rattle.cpp_syntax.proofs.LongestMatches.{unless_seen}
use Rattle.cpp_syntax.proofs.Readers.{leaves_none, leaves_same, leaves_both, leaves_read, reads_seq, reads_word, reads_form, reads_left, reads_right}
use Rattle.cpp_syntax.proofs.Readers.{reads_taken, reads_left_out, none_behind, reads_mark, none_seq, none_form, none_node}
use Rattle.cpp_syntax.proofs.ReaderLoops.{within, gained_then, reads_where, any_begins, loop_begins, loop_more, reads_if, reads_unless, loop_ends, seq_behind}
use Rattle.cpp_parse_expr.proofs.ReaderAnswers.{made, made_at_name, mark_and, word_and, leaf_there, none_unlike, none_second, none_second_mark, leaves_chain}
use Rattle.cpp_parse_expr.proofs.ReaderAnswers.{chain_done, parsed_right, parsed_form, parsed_err, always_err, reads_from, reads_until, parsed_left}
use Rattle.cpp_parse_expr.proofs.TreeAdding.{filled}
use Rattle.cpp_parse_expr.proofs.DeclaratorHeads.{head_named, head_in_parentheses, direct_name, direct_head, direct_omitted, direct_none, at_star, at_amp}
use Rattle.cpp_parse_expr.proofs.DeclaratorHeads.{at_neither, head_adds, omitted_there, omitted_and}
use Rattle.cpp_parse_expr.proofs.DeclaratorSuffixes.{parameters_there, block_name_alone, block_name_and, no_parameters_here, parameters_unseen}
use Rattle.cpp_parse_expr.proofs.DeclaratorSuffixes.{parameters_none, parameters_read, leaves_many, behind_err, array_follows, parameters_follow}
use Rattle.cpp_parse_expr.proofs.DeclaratorSuffixes.{no_bound_follows, no_parameters_follow, follow_ends}
use Rattle.cpp_parse_expr.proofs.EnclosedDeclarators.{qualifiers_apart, declarator_closed, always_there, no_pointer, nothing_held, none_closed, held_closed}
use Rattle.cpp_parse_expr.proofs.EnclosedDeclarators.{thrown_read, not_thrown, thrown_none, void_clause, kept_clause}
use Rattle.cpp_syntax.proofs.IndependentDerivations.{free_none}
use Rattle.cpp_syntax.proofs.OperatorLevels.{levels_apart, levels_apart_more, operated_none, level_read}
use Rattle.cpp_parse_expr.proofs.QualifiedNames.{qualified_there, none_qualified, none_behind_colons}
use Rattle.cpp_parse_expr.proofs.WrappedOperands.{taken_behind, left_behind, right_behind, first_alone, no_wrap, round_both, loop_round}
use Rattle.cpp_parse_expr.proofs.PostfixReaders.{parsed_mark, parsed_word, parsed_seq, parsed_unless, ended, at_level, none_two_on, reads_two_on, suffix_err}
use Rattle.cpp_parse_expr.proofs.PostfixReaders.{no_operand, level_test, level_cut, loop_suffix, suffix_ahead, suffix_inside, suffix_leaves, no_suffix}
use Rattle.cpp_parse_expr.proofs.PostfixReaders.{no_std, no_abort, abort_there, no_call, named_primary, std_primary}
use Rattle.cpp_parse_expr.proofs.UnmarkedRules.{reads_unmarked}
use Rattle.cpp_parse_expr.proofs.LambdaReaders.{captured, no_introducer, no_body, no_partner, partner_inside, body_there, safety_taken}
use Rattle.cpp_parse_expr.proofs.+expressions.Goals.{declarators::function_parameters-else-not-may_be_unnamed-via-then-not-may_be_unnamed+else-not-lookahead_parameters}
use Rattle.cpp_parse_expr.proofs.+expressions.Goals.{declarators::function_parameters-else-not-may_be_unnamed-via-else-not-may_be_unnamed}
use Rattle.cpp_parse_expr.proofs.+expressions.Goals.{declarators::parameter_clause-else-is_at-via-then-is_at+else-next-at}
use Rattle.cpp_parse_expr.proofs.+expressions.Goals.{declarators::parameter_clause-else-is_at-via-else-is_at}
use Rattle.cpp_parse_expr.proofs.+expressions.Goals.{declarators::declarator_head-else-may_be_named-via-then-may_be_named+else-begins_name}
use Rattle.cpp_parse_expr.proofs.+expressions.Goals.{declarators::declarator_head-else-may_be_named-via-else-may_be_named}
use Rattle.cpp_parse_expr.proofs.+expressions.Goals.{declarators::direct_declarator-else-is_in_block-via-then-is_in_block+else-begins_name}
use Rattle.cpp_parse_expr.proofs.+expressions.Goals.{declarators::direct_declarator-else-is_in_block-via-else-is_in_block}
use Rattle.cpp_syntax.specs.declared.terminal.Terminal.TheVariants as terminal
use Rattle.cpp_parse_expr.proofs.+expressions.Goals as goal

-- Declarators.

pub declarators::declarator-returns-then-is_at : goal.declarators::declarator-returns-then-is_at
declarators::declarator-returns-then-is_at t c =
    at_star _ _ _ _ _ _ (passed star terminal.Star refl _ (c.if-is_at.ensures.yes refl)) c.pointer_declarator.ensures

pub declarators::declarator-returns-then-is_at-2 : goal.declarators::declarator-returns-then-is_at-2
declarators::declarator-returns-then-is_at-2 t c =
    at_amp _ _ _ _ _ _ (passed amp terminal.Amp refl _ (c.if-is_at-2.ensures.yes refl)) c.reference_declarator.ensures

pub declarators::declarator-returns : goal.declarators::declarator-returns
declarators::declarator-returns t c =
    at_neither _ _ _ _ _ _ (refused star terminal.Star refl _ (c.if-is_at.ensures.no refl))
    (refused amp terminal.Amp refl _ (c.if-is_at-2.ensures.no refl)) c.direct_declarator.ensures

pub declarators::declarator_head-returns-then-begins_name : goal.declarators::declarator_head-returns-then-begins_name
declarators::declarator_head-returns-then-begins_name t c =
    head_named _ (naming_of c.args.naming) _ _ _ _ (back c.if-may_be_named.ensures) (back c.if-begins_name.ensures) c.declarator_id.ensures

pub declarators::declarator_head-returns : goal.declarators::declarator_head-returns
declarators::declarator_head-returns t c =
    let b : (may_name (naming_of c.args.naming) ≡ false) ⊎ (begins_name_at c.args.text.now c.args.at ≡ false) = elim c.else-may_be_named.branch [
      | declarators::declarator_head-else-may_be_named-via-then-may_be_named+else-begins_name w ↦ inr (back w.if-begins_name.ensures)
      | declarators::declarator_head-else-may_be_named-via-else-may_be_named w ↦ inl (back w.if-may_be_named.ensures)
    ] in
    head_in_parentheses _ (naming_of c.args.naming) _ _ _ _ b c.parenthesized_declarator.ensures

pub declarators::direct_declarator-returns-then-begins_name : goal.declarators::direct_declarator-returns-then-begins_name
declarators::direct_declarator-returns-then-begins_name t c =
    direct_name _ (naming_of c.args.naming) _ _ _ _ (back c.if-is_in_block.ensures) (back c.if-begins_name.ensures) c.name_in_block.ensures

pub declarators::direct_declarator-returns-in-Some : goal.declarators::direct_declarator-returns-in-Some
declarators::direct_declarator-returns-in-Some t c =
    let b : (is_in_block (naming_of c.args.naming) ≡ false) ⊎ (begins_name_at c.args.text.now c.args.at ≡ false) = elim c.else-is_in_block.branch [
      | declarators::direct_declarator-else-is_in_block-via-then-is_in_block+else-begins_name w ↦ inr (back w.if-begins_name.ensures)
      | declarators::direct_declarator-else-is_in_block-via-else-is_in_block w ↦ inl (back w.if-is_in_block.ensures)
    ] in
    let x = rw c.in-Some.is at c.in_ok-behind.ensures in
    direct_head _ (naming_of c.args.naming) b x (c.in_ok-suffixes.ensures _ x.got c.checkpoint-start.ensures x.gained
    (filled (x.long).derives (head_adds (naming_of c.args.naming))))

pub declarators::direct_declarator-returns-in_err-suffixes : goal.declarators::direct_declarator-returns-in_err-suffixes
declarators::direct_declarator-returns-in_err-suffixes t c =
    let x = rw c.in-Some.is at c.in_ok-behind.ensures in
    parsed_err _ _ _ _ c.from_residual-in_err-suffixes.result c.from_residual-in_err-suffixes.ensures.0
    (c.in_err-suffixes.ensures _ x.got c.checkpoint-start.ensures x.gained (filled (x.long).derives (head_adds (naming_of c.args.naming))))

pub declarators::direct_declarator-returns-then-not-may_be_unnamed : goal.declarators::direct_declarator-returns-then-not-may_be_unnamed
declarators::direct_declarator-returns-then-not-may_be_unnamed t c =
    let b : (is_in_block (naming_of c.args.naming) ≡ false) ⊎ (begins_name_at c.args.text.now c.args.at ≡ false) = elim c.else-is_in_block.branch [
      | declarators::direct_declarator-else-is_in_block-via-then-is_in_block+else-begins_name w ↦ inr (back w.if-begins_name.ensures)
      | declarators::direct_declarator-else-is_in_block-via-else-is_in_block w ↦ inl (back w.if-is_in_block.ensures)
    ] in
    let x = rw c.in_default.is at c.in_ok-behind.ensures in (
      leaves_same (c.cut.ensures _ _ c.checkpoint-start.ensures (x.0).gained),
      direct_none _ (naming_of c.args.naming)
          (back c.if-not-may_be_unnamed.ensures) b x.1,
    )

pub declarators::direct_declarator-returns : goal.declarators::direct_declarator-returns
declarators::direct_declarator-returns t c =
    let x = rw c.in_default.is at c.in_ok-behind.ensures in
    direct_omitted _ (naming_of c.args.naming) (back c.if-not-may_be_unnamed.ensures) x.1
    (reads_from (c.cut.ensures _ _ c.checkpoint-start.ensures (x.0).gained) c.in_ok-omitted_declarator.ensures)

pub declarators::function_parameters-returns-then-not-is_at : goal.declarators::function_parameters-returns-then-not-is_at
declarators::function_parameters-returns-then-not-is_at t c = (
  leaves_same c.expected_at.ensures,
  no_parameters_here _ (naming_of c.args.naming)
      (refused open_paren terminal.OpenParen refl _ (c.if-not-is_at.ensures.no refl)),
)

pub declarators::function_parameters-returns-then-not-lookahead_parameters : goal.declarators::function_parameters-returns-then-not-lookahead_parameters
declarators::function_parameters-returns-then-not-lookahead_parameters t c = (
  leaves_read c.in_ok-close.ensures,
  parameters_unseen _ (naming_of c.args.naming) (back c.if-not-may_be_unnamed.ensures)
      (c.if-not-lookahead_parameters.ensures.no refl),
)

pub declarators::function_parameters-returns-in_err-descend : goal.declarators::function_parameters-returns-in_err-descend
declarators::function_parameters-returns-in_err-descend t c = parsed_err _ _ _ _ c.from_residual.result c.from_residual.ensures.0 (leaves_none _)

pub declarators::function_parameters-parameter_clause-requires : goal.declarators::function_parameters-parameter_clause-requires
declarators::function_parameters-parameter_clause-requires t c = let i = c.if-not-is_at.ensures.inside refl refl in omega (arith, i)

pub declarators::function_parameters-returns-then-not-is_at-2 : goal.declarators::function_parameters-returns-then-not-is_at-2
declarators::function_parameters-returns-then-not-is_at-2 t c =
    let x = c.in_ok-close.ensures in (
      leaves_both (leaves_read x) (leaves_same c.expected_at-then-not-is_at-2.ensures),
      parameters_none _ (naming_of c.args.naming) (none_second_mark (none_behind x (seq_none
          (word_none (refused close_paren terminal.CloseParen refl _ (c.if-not-is_at-2.ensures.no refl)))) refl refl refl)),
    )

pub declarators::function_parameters-returns-in_err-function_qualifiers : goal.declarators::function_parameters-returns-in_err-function_qualifiers
declarators::function_parameters-returns-in_err-function_qualifiers t c =
    parsed_err _ _ _ _ c.from_residual-in_err-function_qualifiers.result c.from_residual-in_err-function_qualifiers.ensures.0
    (leaves_both (leaves_read c.in_ok-close.ensures) c.in_err-function_qualifiers.ensures)

pub declarators::function_parameters-returns : goal.declarators::function_parameters-returns
declarators::function_parameters-returns t c =
    let b : (need_not_name (naming_of c.args.naming) ≡ true) ⊎ lookahead c.args.text.now parameters c.args.at = elim c.else-not-may_be_unnamed.branch [
      | declarators::function_parameters-else-not-may_be_unnamed-via-then-not-may_be_unnamed+else-not-lookahead_parameters w ↦ inr
          (w.if-not-lookahead_parameters.ensures.yes refl)
      | declarators::function_parameters-else-not-may_be_unnamed-via-else-not-may_be_unnamed w ↦
          inl (back w.if-not-may_be_unnamed.ensures)
    ] in
    let t = passed open_paren terminal.OpenParen refl _ (c.if-not-is_at.ensures.yes refl) in
    let u = passed close_paren terminal.CloseParen refl _ (c.if-not-is_at-2.ensures.yes refl) in
    parameters_read _ (naming_of c.args.naming) b (mark_and t (c.if-not-is_at.ensures.inside refl refl)
    (reads_seq c.in_ok-close.ensures (reads_seq (reads_word u (c.if-not-is_at-2.ensures.inside refl refl)) c.in_ok-function_qualifiers.ensures refl
    refl) refl refl) refl refl)

pub declarators::name_in_block-returns-in_default : goal.declarators::name_in_block-returns-in_default
declarators::name_in_block-returns-in_default t c =
    let x = rw c.in_default.is at c.in_ok-behind.ensures in
    (x.0, seq_none x.1)

pub declarators::name_in_block-returns-then-not-is_at : goal.declarators::name_in_block-returns-then-not-is_at
declarators::name_in_block-returns-then-not-is_at t c =
    reads_until c.note_parameters.ensures (block_name_alone _ (naming_of c.args.naming) (rw c.in-Some.is at c.in_ok-behind.ensures)
    (refused open_bracket terminal.OpenBracket refl _ (c.if-not-is_at.ensures.no refl)))

pub declarators::name_in_block-returns : goal.declarators::name_in_block-returns
declarators::name_in_block-returns t c =
    let x = rw c.in-Some.is at c.in_ok-behind.ensures in
    block_name_and _ (naming_of c.args.naming) x (passed open_bracket terminal.OpenBracket refl _ (c.if-not-is_at.ensures.yes refl))
    (c.in_ok-suffixes.ensures _ x.got c.checkpoint-start.ensures x.gained (filled (x.long).derives refl))

pub declarators::omitted_declarator-returns-in_err-leaf : goal.declarators::omitted_declarator-returns-in_err-leaf
declarators::omitted_declarator-returns-in_err-leaf t c =
    always_err _ _ _ _ c.from_residual.result c.from_residual.ensures.0 (leaves_same c.in_err-leaf.ensures.memory)

pub declarators::omitted_declarator-returns : goal.declarators::omitted_declarator-returns
declarators::omitted_declarator-returns t c =
    let e = c.in_ok-leaf.ensures.added ∙ ap (λ (z : At). appended c.args.out.now (reads_node OmittedId z None no_read)) c.position.ensures.position in
    omitted_and c.args.text.now (naming_of c.args.naming) _ c.args.at c.args.out.now _ _ _ (omitted_there c.requires.here e)
    c.checkpoint-start.ensures c.suffixes.ensures

pub declarators::parameter_clause-returns-in_err-node : goal.declarators::parameter_clause-returns-in_err-node
declarators::parameter_clause-returns-in_err-node t c =
    let x = c.in_ok-next.ensures in
    always_err _ _ _ _ c.from_residual-in_err-node.result c.from_residual-in_err-node.ensures.0
    (leaves_both (leaves_same (c.cut.ensures _ _ c.checkpoint-start.ensures x.gained)) (leaves_same c.in_err-node.ensures.memory))

pub declarators::parameter_clause-returns-then-next-at : goal.declarators::parameter_clause-returns-then-next-at
declarators::parameter_clause-returns-then-next-at t c =
    let x = c.in_ok-next.ensures in
    let u = passed void_word terminal.Void refl _ (c.if-is_at.ensures.yes refl) in
    reads_form (made (void_clause x u c.if-next-at.true (c.cut.ensures _ _ c.checkpoint-start.ensures x.gained)) c.checkpoint-start.ensures
    c.in_ok-node.ensures.read)

pub declarators::parameter_clause-returns : goal.declarators::parameter_clause-returns
declarators::parameter_clause-returns t c =
    let f : void_word (terminal_at c.args.text.now c.args.at) ≡ true → c.in_ok-next.next ≡ c.args.at + 1 → ⊥ = elim c.else-is_at.branch [
      | declarators::parameter_clause-else-is_at-via-then-is_at+else-next-at w ↦ λ u e. w.if-next-at.false e
      | declarators::parameter_clause-else-is_at-via-else-is_at w ↦ λ u e. true≢false (back u ∙ refused void_word terminal.Void refl _
          (w.if-is_at.ensures.no refl))
    ] in
    reads_form (made (kept_clause c.in_ok-next.ensures f) c.checkpoint-start.ensures c.in_ok-node-2.ensures.read)

pub declarators::parameter_declaration-returns-in_default : goal.declarators::parameter_declaration-returns-in_default
declarators::parameter_declaration-returns-in_default t c =
    let x = rw c.in_default.is at c.in_ok-behind.ensures in
    (x.0, form_none (node_none (seq_none x.1)))

pub declarators::parameter_declaration-returns-in_err-next : goal.declarators::parameter_declaration-returns-in_err-next
declarators::parameter_declaration-returns-in_err-next t c =
    let x = rw c.in-Some.is at c.in_ok-behind.ensures in
    parsed_err _ _ _ _ c.from_residual-in_err-next.result c.from_residual-in_err-next.ensures.0 (leaves_both (leaves_read x) c.in_err-next.ensures)

pub declarators::parameter_declaration-returns-in_default-2 : goal.declarators::parameter_declaration-returns-in_default-2
declarators::parameter_declaration-returns-in_default-2 t c =
    let y = rw c.in_default-2.is at c.in_ok-next.ensures in
    absurd (always_there _ either _ refl y.1)

pub declarators::parameter_declaration-returns-in_err-node_at_name : goal.declarators::parameter_declaration-returns-in_err-node_at_name
declarators::parameter_declaration-returns-in_err-node_at_name t c =
    let x = rw c.in-Some.is at c.in_ok-behind.ensures in
    let y = rw c.in-Some-2.is at c.in_ok-next.ensures in
    parsed_err _ _ _ _ c.from_residual-in_err-node_at_name.result c.from_residual-in_err-node_at_name.ensures.0
    (leaves_both (leaves_read x) (leaves_both (leaves_read y) (leaves_same c.in_err-node_at_name.ensures.memory)))

pub declarators::parameter_declaration-returns : goal.declarators::parameter_declaration-returns
declarators::parameter_declaration-returns t c =
    let x = rw c.in-Some.is at c.in_ok-behind.ensures in
    let y = rw c.in-Some-2.is at c.in_ok-next.ensures in
    reads_form (made_at_name (reads_seq x y refl refl) c.checkpoint-start.ensures c.in_ok-node_at_name.ensures.read)

pub declarators::parameters-returns-in_default : goal.declarators::parameters-returns-in_default
declarators::parameters-returns-in_default t c =
    let x = rw c.in_default.is at c.in_ok-first.ensures in
    reads_left_out (seq_none x.1) c.requires.here (c.cut.ensures _ _ c.checkpoint-mark.ensures (x.0).gained)

pub declarators::parameters-items-init : goal.declarators::parameters-items-init
declarators::parameters-items-init t c = (loop_begins (rw c.in-Some.is at c.in_ok-first.ensures) refl, refl)

pub declarators::parameters-returns-in_err-behind : goal.declarators::parameters-returns-in_err-behind
declarators::parameters-returns-in_err-behind t c =
    always_err _ _ _ _ c.from_residual-in_err-behind.result c.from_residual-in_err-behind.ensures.0
    (leaves_both (leaves_chain c.items.invariant.0) c.in_err-behind.ensures)

pub declarators::parameters-returns-in_default-2 : goal.declarators::parameters-returns-in_default-2
declarators::parameters-returns-in_default-2 t c =
    let x = rw c.in_default-2.is at c.in_ok-behind.ensures in
    reads_taken (chain_done c.items.invariant.0 c.items.invariant.1 (none_second x.1) refl
    (c.cut-in_default-2.ensures _ _ c.checkpoint-mark-in-items.ensures (x.0).gained)) refl

pub declarators::parameters-items-preserved : goal.declarators::parameters-items-preserved
declarators::parameters-items-preserved t c =
    let x = rw c.in-Some-2.is at c.in_ok-behind.ensures in
    let t = passed comma terminal.Comma refl _ (c.items-test.ensures.yes refl) in (
      loop_more c.items.invariant.0 (word_and t (c.items-test.ensures.inside refl refl) x refl refl) refl refl refl,
      ap
          (λ (k : Option ℕ). first_or k None) c.items.invariant.1,
    )

pub declarators::parameters-returns : goal.declarators::parameters-returns
declarators::parameters-returns t c =
    reads_taken (chain_done c.items.invariant.0 c.items.invariant.1 (seq_none (word_none
    (refused comma terminal.Comma refl _ (c.items-test.ensures.no refl)))) refl refl) refl

pub declarators::parenthesized_declarator-returns-then-not-is_at : goal.declarators::parenthesized_declarator-returns-then-not-is_at
declarators::parenthesized_declarator-returns-then-not-is_at t c = (
  leaves_same c.expected_at.ensures,
  where_none (node_none (seq_none (mark_none (refused open_paren terminal.OpenParen refl _
      (c.if-not-is_at.ensures.no refl))))),
)

pub declarators::parenthesized_declarator-returns-in_err-descend : goal.declarators::parenthesized_declarator-returns-in_err-descend
declarators::parenthesized_declarator-returns-in_err-descend t c = parsed_err _ _ _ _ c.from_residual.result c.from_residual.ensures.0 (leaves_none _)

pub declarators::parenthesized_declarator-declarator-requires : goal.declarators::parenthesized_declarator-declarator-requires
declarators::parenthesized_declarator-declarator-requires t c = let i = c.if-not-is_at.ensures.inside refl refl in omega (arith, i)

pub declarators::parenthesized_declarator-returns-in_default : goal.declarators::parenthesized_declarator-returns-in_default
declarators::parenthesized_declarator-returns-in_default t c =
    let x = rw c.in_default.is at c.in_ok-close.ensures in
    (x.0, where_none (node_none (none_second_mark (seq_none x.1))))

pub declarators::parenthesized_declarator-returns-then-close-at : goal.declarators::parenthesized_declarator-returns-then-close-at
declarators::parenthesized_declarator-returns-then-close-at t c =
    let x = rw c.in-Some.is at c.in_ok-close.ensures in
    (leaves_both (leaves_read x) (leaves_same c.expected_at-then-close-at.ensures), nothing_held x c.if-close-at.true)

pub declarators::parenthesized_declarator-returns-then-not-is_at-2 : goal.declarators::parenthesized_declarator-returns-then-not-is_at-2
declarators::parenthesized_declarator-returns-then-not-is_at-2 t c =
    let x = rw c.in-Some.is at c.in_ok-close.ensures in (
      leaves_both (leaves_read x) (leaves_same c.expected_at-then-not-is_at-2.ensures),
      where_none (node_none (none_second_mark (none_closed (naming_of c.args.naming) x
          (word_none (refused close_paren terminal.CloseParen refl _ (c.if-not-is_at-2.ensures.no refl)))))),
    )

pub declarators::parenthesized_declarator-returns : goal.declarators::parenthesized_declarator-returns
declarators::parenthesized_declarator-returns t c =
    let x = rw c.in-Some.is at c.in_ok-close.ensures in
    let t = passed open_paren terminal.OpenParen refl _ (c.if-not-is_at.ensures.yes refl) in
    let u = passed close_paren terminal.CloseParen refl _ (c.if-not-is_at-2.ensures.yes refl) in
    reads_where (made (mark_and t (c.if-not-is_at.ensures.inside refl refl) (reads_seq x (reads_word u (c.if-not-is_at-2.ensures.inside refl refl))
    refl (declarator_closed (naming_of c.args.naming))) refl refl) c.checkpoint-start.ensures c.in_ok-node.ensures.read)
    (held_closed c.args.at c.in-Some.close x c.if-close-at.false)

pub declarators::pointer_declarator-declarator-requires : goal.declarators::pointer_declarator-declarator-requires
declarators::pointer_declarator-declarator-requires t c = let i = (c.in_ok-behind.ensures).inside in omega (arith, i)

pub declarators::pointer_declarator-returns-in_err-next : goal.declarators::pointer_declarator-returns-in_err-next
declarators::pointer_declarator-returns-in_err-next t c =
    parsed_err _ _ _ _ c.from_residual-in_err-next.result c.from_residual-in_err-next.ensures.0
    (leaves_both (leaves_read c.in_ok-behind.ensures) c.in_err-next.ensures)

pub declarators::pointer_declarator-returns-in_default : goal.declarators::pointer_declarator-returns-in_default
declarators::pointer_declarator-returns-in_default t c =
    let y = rw c.in_default.is at c.in_ok-next.ensures in
    (leaves_both (leaves_read c.in_ok-behind.ensures) y.0, no_pointer _ (naming_of c.args.naming) c.in_ok-behind.ensures y.1)

pub declarators::pointer_declarator-returns-in_err-node : goal.declarators::pointer_declarator-returns-in_err-node
declarators::pointer_declarator-returns-in_err-node t c =
    let y = rw c.in-Some.is at c.in_ok-next.ensures in
    parsed_err _ _ _ _ c.from_residual-in_err-node.result c.from_residual-in_err-node.ensures.0
    (leaves_both (leaves_read c.in_ok-behind.ensures) (leaves_both (leaves_read y) (leaves_same c.in_err-node.ensures.memory)))

pub declarators::pointer_declarator-returns : goal.declarators::pointer_declarator-returns
declarators::pointer_declarator-returns t c =
    let y = rw c.in-Some.is at c.in_ok-next.ensures in
    made (mark_and c.requires.begins (within c.args.text.now c.args.at star refl c.requires.begins)
    (reads_seq c.in_ok-behind.ensures y refl (qualifiers_apart (naming_of c.args.naming))) refl refl) c.checkpoint-start.ensures
    c.in_ok-node.ensures.read

pub declarators::reference_declarator-returns-in_err-descend : goal.declarators::reference_declarator-returns-in_err-descend
declarators::reference_declarator-returns-in_err-descend t c = parsed_err _ _ _ _ c.from_residual.result c.from_residual.ensures.0 (leaves_none _)

pub declarators::reference_declarator-declarator-requires : goal.declarators::reference_declarator-declarator-requires
declarators::reference_declarator-declarator-requires t c = let i = within c.args.text.now c.args.at amp refl c.requires.begins in omega (arith, i)

pub declarators::reference_declarator-returns-in_default : goal.declarators::reference_declarator-returns-in_default
declarators::reference_declarator-returns-in_default t c =
    let x = rw c.in_default.is at c.in_ok-next.ensures in
    (x.0, node_none (none_second_mark x.1))

pub declarators::reference_declarator-returns : goal.declarators::reference_declarator-returns
declarators::reference_declarator-returns t c =
    let x = rw c.in-Some.is at c.in_ok-next.ensures in
    made (mark_and c.requires.begins (within c.args.text.now c.args.at amp refl c.requires.begins) x refl refl) c.checkpoint-start.ensures
    c.in_ok-node.ensures.read

pub declarators::suffixes-suffixes-init : goal.declarators::suffixes-suffixes-init
declarators::suffixes-suffixes-init t c = (c.requires.here, λ before read m e h. (any_begins e c.requires.here, h))

pub declarators::suffixes-returns-in_err-behind : goal.declarators::suffixes-returns-in_err-behind
declarators::suffixes-returns-in_err-behind t c =
    behind_err _ _ _ _ _ _ c.from_residual.result c.from_residual.ensures.0 (λ before read m e h. leaves_both
    (leaves_many (c.suffixes.invariant.1 before read m e h).0) c.in_err-behind.ensures)

pub declarators::suffixes-returns-in_default : goal.declarators::suffixes-returns-in_default
declarators::suffixes-returns-in_default t c =
    let y = rw c.in_default.is at c.in_ok-behind.ensures in
    let t = passed open_bracket terminal.OpenBracket refl _ (c.if-is_at.ensures.yes refl) in
    λ before read m e h. follow_ends (naming_of c.args.naming) (c.suffixes.invariant.1 before read m e h).0
    (no_bound_follows _ (naming_of c.args.naming) t y.1) (c.cut.ensures _ _ c.checkpoint-mark.ensures (y.0).gained)

pub declarators::suffixes-returns-in_err-wrap : goal.declarators::suffixes-returns-in_err-wrap
declarators::suffixes-returns-in_err-wrap t c =
    let y = rw c.in-Some.is at c.in_ok-behind.ensures in
    behind_err _ _ _ _ _ _ c.from_residual-in_err-wrap.result c.from_residual-in_err-wrap.ensures.0
    (λ before read m e h. leaves_both (leaves_many (c.suffixes.invariant.1 before read m e h).0)
    (leaves_both (leaves_read y) (leaves_same c.in_err-wrap.ensures.memory)))

pub declarators::suffixes-suffixes-smaller-then-is_at : goal.declarators::suffixes-suffixes-smaller-then-is_at
declarators::suffixes-suffixes-smaller-then-is_at t c =
    let y = rw c.in-Some.is at c.in_ok-behind.ensures in
    let lt = not_empty (y.long).derives refl in
    let le = y.inside in
    omega (arith, lt, le)

pub declarators::suffixes-suffixes-preserved-then-is_at : goal.declarators::suffixes-suffixes-preserved-then-is_at
declarators::suffixes-suffixes-preserved-then-is_at t c =
    let y = rw c.in-Some.is at c.in_ok-behind.ensures in
    let t = passed open_bracket terminal.OpenBracket refl _ (c.if-is_at.ensures.yes refl) in (
      y.inside,
      λ before read m e h.
          let x = c.suffixes.invariant.1 before read m e h in
          let z = array_follows _ (naming_of c.args.naming) x.0 x.1 t y (c.in_ok-wrap.ensures.read before _ m
          (gained_then before (x.0).got y.got (x.0).gained y.gained)) in
          (z.reads, z.some),
    )

pub declarators::suffixes-function_parameters-requires : goal.declarators::suffixes-function_parameters-requires
declarators::suffixes-function_parameters-requires t c = let i = c.suffixes.invariant.0 in omega (arith, i)

pub declarators::suffixes-returns-in_err-behind-2 : goal.declarators::suffixes-returns-in_err-behind-2
declarators::suffixes-returns-in_err-behind-2 t c =
    behind_err _ _ _ _ _ _ c.from_residual-in_err-behind-2.result c.from_residual-in_err-behind-2.ensures.0
    (λ before read m e h. leaves_both (leaves_many (c.suffixes.invariant.1 before read m e h).0) c.in_err-behind-2.ensures)

pub declarators::suffixes-returns-in_default-2 : goal.declarators::suffixes-returns-in_default-2
declarators::suffixes-returns-in_default-2 t c =
    let y = rw c.in_default-2.is at c.in_ok-behind-2.ensures in
    let t = refused open_bracket terminal.OpenBracket refl _ (c.if-is_at.ensures.no refl) in
    λ before read m e h. follow_ends (naming_of c.args.naming) (c.suffixes.invariant.1 before read m e h).0
    (no_parameters_follow _ (naming_of c.args.naming) t y.1) (c.cut-in_default-2.ensures _ _ c.checkpoint-mark.ensures (y.0).gained)

pub declarators::suffixes-returns-in_err-wrap-2 : goal.declarators::suffixes-returns-in_err-wrap-2
declarators::suffixes-returns-in_err-wrap-2 t c =
    let y = rw c.in-Some-2.is at c.in_ok-behind-2.ensures in
    behind_err _ _ _ _ _ _ c.from_residual-in_err-wrap-2.result c.from_residual-in_err-wrap-2.ensures.0
    (λ before read m e h. leaves_both (leaves_many (c.suffixes.invariant.1 before read m e h).0)
    (leaves_both (leaves_read y) (leaves_same c.in_err-wrap-2.ensures.memory)))

pub declarators::suffixes-suffixes-smaller : goal.declarators::suffixes-suffixes-smaller
declarators::suffixes-suffixes-smaller t c =
    let y = rw c.in-Some-2.is at c.in_ok-behind-2.ensures in
    let lt = not_empty (y.long).derives (parameters_there (naming_of c.args.naming)) in
    let le = y.inside in
    omega (arith, lt, le)

pub declarators::suffixes-suffixes-preserved : goal.declarators::suffixes-suffixes-preserved
declarators::suffixes-suffixes-preserved t c =
    let y = rw c.in-Some-2.is at c.in_ok-behind-2.ensures in
    let t = refused open_bracket terminal.OpenBracket refl _ (c.if-is_at.ensures.no refl) in (
      y.inside,
      λ before read m e h.
          let x = c.suffixes.invariant.1 before read m e h in
          let z = parameters_follow _ (naming_of c.args.naming) x.0 x.1 t y (c.in_ok-wrap-2.ensures.read before _ m
          (gained_then before (x.0).got y.got (x.0).gained y.gained)) in
          (z.reads, z.some),
    )

pub declarators::type_id-returns-in_default : goal.declarators::type_id-returns-in_default
declarators::type_id-returns-in_default t c =
    let x = rw c.in_default.is at c.in_ok-behind.ensures in
    (x.0, form_none (node_none (seq_none x.1)))

pub declarators::type_id-returns-in_err-next : goal.declarators::type_id-returns-in_err-next
declarators::type_id-returns-in_err-next t c =
    let x = rw c.in-Some.is at c.in_ok-behind.ensures in
    parsed_err _ _ _ _ c.from_residual-in_err-next.result c.from_residual-in_err-next.ensures.0 (leaves_both (leaves_read x) c.in_err-next.ensures)

pub declarators::type_id-returns-in_default-2 : goal.declarators::type_id-returns-in_default-2
declarators::type_id-returns-in_default-2 t c =
    let y = rw c.in_default-2.is at c.in_ok-next.ensures in
    absurd (always_there _ unnamed _ refl y.1)

pub declarators::type_id-returns-in_err-node : goal.declarators::type_id-returns-in_err-node
declarators::type_id-returns-in_err-node t c =
    let x = rw c.in-Some.is at c.in_ok-behind.ensures in
    let y = rw c.in-Some-2.is at c.in_ok-next.ensures in
    parsed_err _ _ _ _ c.from_residual-in_err-node.result c.from_residual-in_err-node.ensures.0
    (leaves_both (leaves_read x) (leaves_both (leaves_read y) (leaves_same c.in_err-node.ensures.memory)))

pub declarators::type_id-returns : goal.declarators::type_id-returns
declarators::type_id-returns t c =
    let x = rw c.in-Some.is at c.in_ok-behind.ensures in
    let y = rw c.in-Some-2.is at c.in_ok-next.ensures in
    reads_form (made (reads_seq x y refl refl) c.checkpoint-start.ensures c.in_ok-node.ensures.read)

pub declarators::array_bound-returns-in_err-descend : goal.declarators::array_bound-returns-in_err-descend
declarators::array_bound-returns-in_err-descend t c = parsed_err _ _ _ _ c.from_residual.result c.from_residual.ensures.0 (leaves_none _)

pub declarators::array_bound-returns-then-not-is_at : goal.declarators::array_bound-returns-then-not-is_at
declarators::array_bound-returns-then-not-is_at t c =
    let x = c.in_ok-close.ensures in (
      leaves_both (leaves_read x) (leaves_same c.expected_at.ensures),
      none_second_mark (none_behind x (word_none (refused close_bracket terminal.CloseBracket refl _ (c.if-not-is_at.ensures.no refl))) refl refl refl),
    )

pub declarators::array_bound-returns : goal.declarators::array_bound-returns
declarators::array_bound-returns t c =
    let u = passed close_bracket terminal.CloseBracket refl _ (c.if-not-is_at.ensures.yes refl) in
    mark_and c.requires.begins (within c.args.text.now c.args.at open_bracket refl c.requires.begins)
    (reads_seq c.in_ok-close.ensures (reads_word u (c.if-not-is_at.ensures.inside refl refl)) refl refl) refl refl

pub declarators::optional_conditional_expression-returns-in_default : goal.declarators::optional_conditional_expression-returns-in_default
declarators::optional_conditional_expression-returns-in_default t c =
    let x = rw c.in_default.is at c.in_ok-next.ensures in
    reads_left_out x.1 c.requires.here (c.cut.ensures _ _ c.checkpoint-mark.ensures (x.0).gained)

pub declarators::optional_conditional_expression-returns : goal.declarators::optional_conditional_expression-returns
declarators::optional_conditional_expression-returns t c = reads_taken (rw c.in-Some.is at c.in_ok-next.ensures) refl

-- Types.

pub types::tx_exception-returns-in_default : goal.types::tx_exception-returns-in_default
types::tx_exception-returns-in_default t c = (leaves_same c.expected_at.ensures, not_thrown _ _ (rw c.in_default.is at c.thrown_type.ensures))

pub types::tx_exception-returns-in_err-descend : goal.types::tx_exception-returns-in_err-descend
types::tx_exception-returns-in_err-descend t c = parsed_err _ _ _ _ c.from_residual.result c.from_residual.ensures.0 (leaves_none _)

pub types::tx_exception-type_id-requires : goal.types::tx_exception-type_id-requires
types::tx_exception-type_id-requires t c =
    let b = rw c.in-Some.is at c.thrown_type.ensures in
    let i = b.inside in
    omega (arith, i)

pub types::tx_exception-returns-in_default-2 : goal.types::tx_exception-returns-in_default-2
types::tx_exception-returns-in_default-2 t c =
    let b = rw c.in-Some.is at c.thrown_type.ensures in
    let x = rw c.in_default-2.is at c.in_ok-greater.ensures in
    (x.0, thrown_none _ c.args.at (seq_none (subst (λ (n : ℕ). NoneOf c.args.text.now (form (type_id whole)) n) b.behind x.1)))

pub types::tx_exception-returns-then-not-is_at : goal.types::tx_exception-returns-then-not-is_at
types::tx_exception-returns-then-not-is_at t c =
    let b = rw c.in-Some.is at c.thrown_type.ensures in
    let x = rw c.in-Some-2.is at c.in_ok-greater.ensures in (
      leaves_both (leaves_read x) (leaves_same c.expected_at-then-not-is_at.ensures),
      thrown_none _ c.args.at (subst (λ (n : ℕ). NoneOf c.args.text.now (form (type_id whole) · word greater) n) b.behind
          (none_behind x (word_none (refused greater terminal.Greater refl _ (c.if-not-is_at.ensures.no refl))) refl refl refl)),
    )

pub types::tx_exception-returns : goal.types::tx_exception-returns
types::tx_exception-returns t c =
    let b = rw c.in-Some.is at c.thrown_type.ensures in
    let x = rw c.in-Some-2.is at c.in_ok-greater.ensures in
    let y = subst (λ (n : ℕ). ReadsLongest c.args.text.now (form (type_id whole)) n c.in-Some-2.greater None c.args.out.now c.type_id.new.out) b.behind x in
    made (thrown_read c.args.text.now b.begins (let i = b.inside in let e = b.behind in omega (arith, i, e)) y
    (passed greater terminal.Greater refl _ (c.if-not-is_at.ensures.yes refl)) (c.if-not-is_at.ensures.inside refl refl))
    c.checkpoint-start.ensures c.in_ok-node.ensures.read

pub types::type_specifier-returns-then-is_type_word_at : goal.types::type_specifier-returns-then-is_type_word_at
types::type_specifier-returns-then-is_type_word_at t c =
    reads_form (reads_left c.in_ok-type_words.ensures (none_unlike is_type_word (back c.if-is_type_word_at.ensures.test) refl refl))

pub types::type_specifier-returns-in_err-leaf : goal.types::type_specifier-returns-in_err-leaf
types::type_specifier-returns-in_err-leaf t c =
    parsed_err _ _ _ _ c.from_residual-in_err-leaf.result c.from_residual-in_err-leaf.ensures.0 (leaves_same c.in_err-leaf.ensures)

pub types::type_specifier-returns-then-is_at : goal.types::type_specifier-returns-then-is_at
types::type_specifier-returns-then-is_at t c =
    let t = passed is_type_name terminal.TypeName refl _ (c.if-is_at.ensures.yes refl) in
    reads_form (reads_right (none_unlike is_type_name t refl refl) (reads_left (leaf_there t (c.if-is_at.ensures.inside refl refl)
    c.in_ok-leaf.ensures) (none_unlike is_type_name t refl refl)))

pub types::type_specifier-returns : goal.types::type_specifier-returns
types::type_specifier-returns t c = parsed_form _ (type_specifier whole) _ _ _ _ _
    (parsed_right _ (where_ spells_a_type (some (leaf SimpleTypeSpecifier is_type_word))) (type_name ∣ tx_exception whole) _ _ _ _ _
    (where_none (seq_none (node_none (mark_none (back c.if-is_type_word_at.ensures.test)))))
    (parsed_right _ type_name (tx_exception whole) _ _ _ _ _ (node_none (mark_none (refused is_type_name terminal.TypeName refl _
    (c.if-is_at.ensures.no refl)))) c.tx_exception.ensures))

pub types::type_specifier_seq-returns-in_err-behind : goal.types::type_specifier_seq-returns-in_err-behind
types::type_specifier_seq-returns-in_err-behind t c =
    parsed_err _ _ _ _ c.from_residual-in_err-behind.result c.from_residual-in_err-behind.ensures.0
    (leaves_both (leaves_read c.in_ok-before.ensures) c.in_err-behind.ensures)

pub types::type_specifier_seq-returns-in_default : goal.types::type_specifier_seq-returns-in_default
types::type_specifier_seq-returns-in_default t c =
    let x = rw c.in_default.is at c.in_ok-behind.ensures in
    (leaves_both (leaves_read c.in_ok-before.ensures) x.0, form_none (node_none (none_behind c.in_ok-before.ensures (seq_none x.1) refl refl refl)))

pub types::type_specifier_seq-returns-in_err-next : goal.types::type_specifier_seq-returns-in_err-next
types::type_specifier_seq-returns-in_err-next t c =
    let x = rw c.in-Some.is at c.in_ok-behind.ensures in
    parsed_err _ _ _ _ c.from_residual-in_err-next.result c.from_residual-in_err-next.ensures.0
    (leaves_both (leaves_read c.in_ok-before.ensures) (leaves_both (leaves_read x) c.in_err-next.ensures))

pub types::type_specifier_seq-returns-in_err-node : goal.types::type_specifier_seq-returns-in_err-node
types::type_specifier_seq-returns-in_err-node t c =
    let x = rw c.in-Some.is at c.in_ok-behind.ensures in
    parsed_err _ _ _ _ c.from_residual-in_err-node.result c.from_residual-in_err-node.ensures.0
    (leaves_both (leaves_read c.in_ok-before.ensures) (leaves_both (leaves_read x) (leaves_both (leaves_read c.in_ok-next.ensures)
    (leaves_same c.in_err-node.ensures.memory))))

pub types::type_specifier_seq-returns : goal.types::type_specifier_seq-returns
types::type_specifier_seq-returns t c =
    let x = rw c.in-Some.is at c.in_ok-behind.ensures in
    reads_form (made (reads_seq c.in_ok-before.ensures (reads_seq x c.in_ok-next.ensures refl refl) refl refl) c.checkpoint-start.ensures
    c.in_ok-node.ensures.read)

-- Lambdas.

pub lambdas::trailing_return_type-returns-then-not-is_at : goal.lambdas::trailing_return_type-returns-then-not-is_at
lambdas::trailing_return_type-returns-then-not-is_at t c =
    (leaves_same c.expected_at.ensures, node_none (seq_none (mark_none (refused arrow terminal.Arrow refl _ (c.if-not-is_at.ensures.no refl)))))

pub lambdas::trailing_return_type-returns-in_err-descend : goal.lambdas::trailing_return_type-returns-in_err-descend
lambdas::trailing_return_type-returns-in_err-descend t c = parsed_err _ _ _ _ c.from_residual.result c.from_residual.ensures.0 (leaves_none _)

pub lambdas::trailing_return_type-type_id-requires : goal.lambdas::trailing_return_type-type_id-requires
lambdas::trailing_return_type-type_id-requires t c = let i = c.if-not-is_at.ensures.inside refl refl in omega (arith, i)

pub lambdas::trailing_return_type-returns-in_default : goal.lambdas::trailing_return_type-returns-in_default
lambdas::trailing_return_type-returns-in_default t c =
    let x = rw c.in_default.is at c.in_ok-next.ensures in
    (x.0, node_none (none_second_mark x.1))

pub lambdas::trailing_return_type-returns : goal.lambdas::trailing_return_type-returns
lambdas::trailing_return_type-returns t c =
    let x = rw c.in-Some.is at c.in_ok-next.ensures in
    made (mark_and (passed arrow terminal.Arrow refl _ (c.if-not-is_at.ensures.yes refl)) (c.if-not-is_at.ensures.inside refl refl) x refl refl)
    c.checkpoint-start.ensures c.in_ok-node.ensures.read

pub lambdas::optional_return_type-returns-in_default : goal.lambdas::optional_return_type-returns-in_default
lambdas::optional_return_type-returns-in_default t c =
    let x = rw c.in_default.is at c.in_ok-next.ensures in
    reads_left_out x.1 c.requires.here (c.cut.ensures _ _ c.checkpoint-mark.ensures (x.0).gained)

pub lambdas::optional_return_type-returns : goal.lambdas::optional_return_type-returns
lambdas::optional_return_type-returns t c = reads_taken (rw c.in-Some.is at c.in_ok-next.ensures) refl

pub lambdas::lambda_declarator-returns-then-not-is_at : goal.lambdas::lambda_declarator-returns-then-not-is_at
lambdas::lambda_declarator-returns-then-not-is_at t c = (
  leaves_same c.expected_at.ensures,
  node_none (seq_none (word_none (refused open_paren terminal.OpenParen refl _
      (c.if-not-is_at.ensures.no refl)))),
)

pub lambdas::lambda_declarator-parameter_clause-requires : goal.lambdas::lambda_declarator-parameter_clause-requires
lambdas::lambda_declarator-parameter_clause-requires t c = let i = c.if-not-is_at.ensures.inside refl refl in omega (arith, i)

pub lambdas::lambda_declarator-returns-then-not-is_at-2 : goal.lambdas::lambda_declarator-returns-then-not-is_at-2
lambdas::lambda_declarator-returns-then-not-is_at-2 t c =
    let x = c.in_ok-close.ensures in (
      leaves_both (leaves_read x) (leaves_same c.expected_at-then-not-is_at-2.ensures),
      node_none (none_second (none_behind x (seq_none (word_none (refused close_paren terminal.CloseParen refl _
          (c.if-not-is_at-2.ensures.no refl)))) refl refl refl)),
    )

pub lambdas::lambda_declarator-returns-in_err-changing : goal.lambdas::lambda_declarator-returns-in_err-changing
lambdas::lambda_declarator-returns-in_err-changing t c =
    parsed_err _ _ _ _ c.from_residual-in_err-changing.result c.from_residual-in_err-changing.ensures.0
    (leaves_both (leaves_read c.in_ok-close.ensures) c.in_err-changing.ensures)

pub lambdas::lambda_declarator-returns-in_err-safe : goal.lambdas::lambda_declarator-returns-in_err-safe
lambdas::lambda_declarator-returns-in_err-safe t c =
    parsed_err _ _ _ _ c.from_residual-in_err-safe.result c.from_residual-in_err-safe.ensures.0
    (leaves_both (leaves_read c.in_ok-close.ensures) (leaves_both (leaves_read c.in_ok-changing.ensures) c.in_err-safe.ensures))

pub lambdas::lambda_declarator-returns-in_err-quiet : goal.lambdas::lambda_declarator-returns-in_err-quiet
lambdas::lambda_declarator-returns-in_err-quiet t c =
    parsed_err _ _ _ _ c.from_residual-in_err-quiet.result c.from_residual-in_err-quiet.ensures.0
    (leaves_both (leaves_read c.in_ok-close.ensures) (leaves_both (leaves_read c.in_ok-changing.ensures)
    (leaves_both (leaves_read c.in_ok-safe.ensures) c.in_err-quiet.ensures)))

pub lambdas::lambda_declarator-optional_return_type-requires : goal.lambdas::lambda_declarator-optional_return_type-requires
lambdas::lambda_declarator-optional_return_type-requires t c = let i = (c.in_ok-quiet.ensures).inside in omega (arith, i)

pub lambdas::lambda_declarator-returns-in_err-next : goal.lambdas::lambda_declarator-returns-in_err-next
lambdas::lambda_declarator-returns-in_err-next t c =
    parsed_err _ _ _ _ c.from_residual-in_err-next.result c.from_residual-in_err-next.ensures.0
    (leaves_both (leaves_read c.in_ok-close.ensures) (leaves_both (leaves_read c.in_ok-changing.ensures)
    (leaves_both (leaves_read c.in_ok-safe.ensures) (leaves_both (leaves_read c.in_ok-quiet.ensures) c.in_err-next.ensures))))

pub lambdas::lambda_declarator-returns-in_err-node : goal.lambdas::lambda_declarator-returns-in_err-node
lambdas::lambda_declarator-returns-in_err-node t c =
    parsed_err _ _ _ _ c.from_residual-in_err-node.result c.from_residual-in_err-node.ensures.0
    (leaves_both (leaves_read c.in_ok-close.ensures) (leaves_both (leaves_read c.in_ok-changing.ensures)
    (leaves_both (leaves_read c.in_ok-safe.ensures) (leaves_both (leaves_read c.in_ok-quiet.ensures)
    (leaves_both (leaves_read c.in_ok-next.ensures) (leaves_same c.in_err-node.ensures.memory))))))

pub lambdas::lambda_declarator-returns : goal.lambdas::lambda_declarator-returns
lambdas::lambda_declarator-returns t c =
    let u = passed open_paren terminal.OpenParen refl _ (c.if-not-is_at.ensures.yes refl) in
    let v = passed close_paren terminal.CloseParen refl _ (c.if-not-is_at-2.ensures.yes refl) in
    let rest = reads_seq c.in_ok-changing.ensures (reads_seq c.in_ok-safe.ensures (reads_seq c.in_ok-quiet.ensures c.in_ok-next.ensures refl refl)
    refl refl) refl refl in
    made (word_and u (c.if-not-is_at.ensures.inside refl refl) (reads_seq c.in_ok-close.ensures
    (reads_seq (reads_word v (c.if-not-is_at-2.ensures.inside refl refl)) rest refl refl) refl refl) refl refl) c.checkpoint-start.ensures
    c.in_ok-node.ensures.read

pub lambdas::optional_declarator-returns-then-is_safety_at : goal.lambdas::optional_declarator-returns-then-is_safety_at
lambdas::optional_declarator-returns-then-is_safety_at t c = safety_taken _ _ _ _ _ (back c.if-is_safety_at.ensures.test) c.safety_alone.ensures

pub lambdas::optional_declarator-returns-in_default : goal.lambdas::optional_declarator-returns-in_default
lambdas::optional_declarator-returns-in_default t c =
    let x = rw c.in_default.is at c.in_ok-next.ensures in
    reads_left_out (form_none (neither x.1 (node_none (node_none (mark_none (back c.if-is_safety_at.ensures.test)))))) c.requires.here
    (c.cut.ensures _ _ c.checkpoint-mark.ensures (x.0).gained)

pub lambdas::optional_declarator-returns : goal.lambdas::optional_declarator-returns
lambdas::optional_declarator-returns t c =
    reads_taken (reads_form (reads_left (rw c.in-Some.is at c.in_ok-next.ensures) (node_none
    (node_none (mark_none (back c.if-is_safety_at.ensures.test)))))) refl

pub lambdas::lambda_expression-returns-in_default : goal.lambdas::lambda_expression-returns-in_default
lambdas::lambda_expression-returns-in_default t c =
    let x = rw c.in_default.is at c.in_ok-introduced.ensures in
    (x.0, no_introducer x.1)

pub lambdas::lambda_expression-returns-in_err-open : goal.lambdas::lambda_expression-returns-in_err-open
lambdas::lambda_expression-returns-in_err-open t c =
    let x = rw c.in-Some.is at c.in_ok-introduced.ensures in
    parsed_err _ _ _ _ c.from_residual-in_err-open.result c.from_residual-in_err-open.ensures.0 (leaves_both (leaves_read x) c.in_err-open.ensures)

pub lambdas::lambda_expression-returns-then-not-is_at : goal.lambdas::lambda_expression-returns-then-not-is_at
lambdas::lambda_expression-returns-then-not-is_at t c =
    let x = rw c.in-Some.is at c.in_ok-introduced.ensures in (
      leaves_both (leaves_read x) (leaves_both (leaves_read c.in_ok-open.ensures) (leaves_same c.expected_at.ensures)),
      no_body c.args.text.now (captured c.requires.here x c.in_ok-open.ensures) (refused open_brace terminal.OpenBrace refl _ (c.if-not-is_at.ensures.no refl)),
    )

pub lambdas::lambda_expression-returns-in_default-partner : goal.lambdas::lambda_expression-returns-in_default-partner
lambdas::lambda_expression-returns-in_default-partner t c =
    let x = rw c.in-Some.is at c.in_ok-introduced.ensures in (
      leaves_both (leaves_read x) (leaves_both (leaves_read c.in_ok-open.ensures) (leaves_same c.expected_at-in_default-partner.ensures)),
      no_partner c.args.text.now (captured c.requires.here x c.in_ok-open.ensures) (λ n p. c.in_default-partner.not-Some n ((c.partner.ensures n).1 p)),
    )

pub lambdas::lambda_expression-overflow_cast-close : goal.lambdas::lambda_expression-overflow_cast-close
lambdas::lambda_expression-overflow_cast-close t c =
    let u = passed open_brace terminal.OpenBrace refl _ (c.if-not-is_at.ensures.yes refl) in
    let i = partner_inside c.args.text.now c.in_ok-open.open c.in-Some-partner.close u ((c.partner.ensures c.in-Some-partner.close).0 c.in-Some-partner.is) in
    let f = c.if-not-is_at.ensures.few in
    omega (arith, i, f)

pub lambdas::lambda_expression-returns-in_err-lambda : goal.lambdas::lambda_expression-returns-in_err-lambda
lambdas::lambda_expression-returns-in_err-lambda t c =
    let x = rw c.in-Some.is at c.in_ok-introduced.ensures in
    parsed_err _ _ _ _ c.from_residual-in_err-lambda.result c.from_residual-in_err-lambda.ensures.0
    (leaves_both (leaves_read x) (leaves_both (leaves_read c.in_ok-open.ensures) (leaves_same c.in_err-lambda.ensures.memory)))

pub lambdas::lambda_expression-overflow_add-result : goal.lambdas::lambda_expression-overflow_add-result
lambdas::lambda_expression-overflow_add-result t c =
    let u = passed open_brace terminal.OpenBrace refl _ (c.if-not-is_at.ensures.yes refl) in
    let i = partner_inside c.args.text.now c.in_ok-open.open c.in-Some-partner.close u ((c.partner.ensures c.in-Some-partner.close).0 c.in-Some-partner.is) in
    let f = c.if-not-is_at.ensures.few in
    omega (arith, i, f)

pub lambdas::lambda_expression-returns : goal.lambdas::lambda_expression-returns
lambdas::lambda_expression-returns t c =
    let x = rw c.in-Some.is at c.in_ok-introduced.ensures in
    let y = captured c.requires.here x c.in_ok-open.ensures in
    let u = passed open_brace terminal.OpenBrace refl _ (c.if-not-is_at.ensures.yes refl) in
    body_there c.args.text.now _ y u ((c.partner.ensures c.in-Some-partner.close).0 c.in-Some-partner.is) c.position.ensures.position
    (c.in_ok-lambda.ensures.gathered _ y.got y.gained c.checkpoint-start.ensures.trees)

-- Expressions.

pub expressions::arguments-returns-in_err-descend : goal.expressions::arguments-returns-in_err-descend
expressions::arguments-returns-in_err-descend m c = parsed_err _ _ _ _ c.from_residual.result c.from_residual.ensures.0 (leaves_none _)

pub expressions::arguments-returns-then-not-is_at : goal.expressions::arguments-returns-then-not-is_at
expressions::arguments-returns-then-not-is_at m c = (
  leaves_both (leaves_read c.in_ok-close.ensures) (leaves_same c.expected_at.ensures),
  none_second_mark
      (none_behind c.in_ok-close.ensures (word_none (refused close_paren terminal.CloseParen refl _ (c.if-not-is_at.ensures.no refl))) refl refl refl),
)

pub expressions::arguments-returns : goal.expressions::arguments-returns
expressions::arguments-returns m c =
    mark_and c.requires.begins (within c.args.text.now _ open_paren refl c.requires.begins)
    (reads_seq c.in_ok-close.ensures (reads_word (passed close_paren terminal.CloseParen refl _ (c.if-not-is_at.ensures.yes refl))
    (c.if-not-is_at.ensures.inside refl refl)) refl refl) refl refl

pub expressions::assignment_expression-returns-then-is_at : goal.expressions::assignment_expression-returns-then-is_at
expressions::assignment_expression-returns-then-is_at m c =
    reads_form (reads_right (none_unlike throw_word (passed throw_word terminal.Throw refl _ (c.if-is_at.ensures.yes refl)) refl refl)
    c.in_ok-throw_expression.ensures)

pub expressions::assignment_expression-returns-in_default : goal.expressions::assignment_expression-returns-in_default
expressions::assignment_expression-returns-in_default m c =
    let x = rw c.in_default.is at c.in_ok-left.ensures in (
      x.0,
      none_form (neither (none_seq x.1)
          (node_none (seq_none (mark_none (refused throw_word terminal.Throw refl _ (c.if-is_at.ensures.no refl)))))),
    )

pub expressions::assignment_expression-returns-in_err-next : goal.expressions::assignment_expression-returns-in_err-next
expressions::assignment_expression-returns-in_err-next m c =
    parsed_err _ _ _ _ c.from_residual-in_err-next.result c.from_residual-in_err-next.ensures.0
    (leaves_both (leaves_read (rw c.in-Some.is at c.in_ok-left.ensures)) c.in_err-next.ensures)

pub expressions::assignment_expression-returns-in_default-2 : goal.expressions::assignment_expression-returns-in_default-2
expressions::assignment_expression-returns-in_default-2 m c =
    let x = (rw c.in-Some.is at c.in_ok-left.ensures) in let y = rw c.in_default-2.is at c.in_ok-next.ensures in reads_form
    (reads_left (first_alone x (c.cut.ensures _ (y.0).extra c.checkpoint-mark.ensures (y.0).gained)
    (neither (no_wrap (none_unlike is_assignment (back c.if-is_assignment_at.ensures.test) refl refl) refl _)
    (no_wrap (none_second_mark y.1) refl _)) refl) (node_none (seq_none (mark_none (refused throw_word terminal.Throw refl _
    (c.if-is_at.ensures.no refl))))))

pub expressions::assignment_expression-returns-in_err-wrap : goal.expressions::assignment_expression-returns-in_err-wrap
expressions::assignment_expression-returns-in_err-wrap m c =
    parsed_err _ _ _ _ c.from_residual-in_err-wrap.result c.from_residual-in_err-wrap.ensures.0
    (leaves_both (leaves_read (rw c.in-Some.is at c.in_ok-left.ensures)) (leaves_both (leaves_read (rw c.in-Some-2.is at c.in_ok-next.ensures))
    (leaves_same c.in_err-wrap.ensures.memory)))

pub expressions::assignment_expression-returns-then-is_assignment_at : goal.expressions::assignment_expression-returns-then-is_assignment_at
expressions::assignment_expression-returns-then-is_assignment_at m c =
    let x = (rw c.in-Some.is at c.in_ok-left.ensures) in reads_form (reads_left (seq_behind x
    (taken_behind (right_behind (no_wrap (none_unlike is_assignment (back c.if-is_assignment_at.ensures.test) refl refl) refl _)
    (round_both x (mark_and (back c.if-is_assignment_at.ensures.test) (c.if-is_assignment_at.ensures.inside refl)
    (rw c.in-Some-2.is at c.in_ok-next.ensures) refl refl) refl refl c.checkpoint-start.ensures c.in_ok-wrap.ensures.read)) refl) refl)
    (node_none (seq_none (mark_none (refused throw_word terminal.Throw refl _ (c.if-is_at.ensures.no refl))))))

pub expressions::assignment_expression-returns-then-not-is_at : goal.expressions::assignment_expression-returns-then-not-is_at
expressions::assignment_expression-returns-then-not-is_at m c =
    reads_form (reads_left (first_alone (rw c.in-Some.is at c.in_ok-left.ensures) c.expected_at.ensures
    (neither (no_wrap (seq_none (mark_none (refused question terminal.Question refl _ (c.if-not-is_at.ensures.no refl)))) refl _)
    (no_wrap (seq_none (mark_none (back c.if-is_assignment_at.ensures.test))) refl _)) refl)
    (node_none (seq_none (mark_none (refused throw_word terminal.Throw refl _ (c.if-is_at.ensures.no refl))))))

pub expressions::assignment_expression-returns-in_err-next-2 : goal.expressions::assignment_expression-returns-in_err-next-2
expressions::assignment_expression-returns-in_err-next-2 m c =
    parsed_err _ _ _ _ c.from_residual-in_err-next-2.result c.from_residual-in_err-next-2.ensures.0
    (leaves_both (leaves_read (rw c.in-Some.is at c.in_ok-left.ensures)) c.in_err-next-2.ensures)

pub expressions::assignment_expression-returns-in_default-3 : goal.expressions::assignment_expression-returns-in_default-3
expressions::assignment_expression-returns-in_default-3 m c =
    let x = (rw c.in-Some.is at c.in_ok-left.ensures) in let y = rw c.in_default-3.is at c.in_ok-next-2.ensures in reads_form
    (reads_left (first_alone x (c.cut-in_default-3.ensures _ y.0.extra c.checkpoint-mark.ensures y.0.gained)
    (neither (no_wrap y.1 refl _) (no_wrap (seq_none (mark_none (back c.if-is_assignment_at.ensures.test))) refl _)) refl)
    (node_none (seq_none (mark_none (refused throw_word terminal.Throw refl _ (c.if-is_at.ensures.no refl))))))

pub expressions::assignment_expression-returns-in_err-wrap-2 : goal.expressions::assignment_expression-returns-in_err-wrap-2
expressions::assignment_expression-returns-in_err-wrap-2 m c =
    parsed_err _ _ _ _ c.from_residual-in_err-wrap-2.result c.from_residual-in_err-wrap-2.ensures.0
    (leaves_both (leaves_read (rw c.in-Some.is at c.in_ok-left.ensures)) (leaves_both (leaves_read (rw c.in-Some-3.is at c.in_ok-next-2.ensures))
    (leaves_same c.in_err-wrap-2.ensures.memory)))

pub expressions::assignment_expression-returns : goal.expressions::assignment_expression-returns
expressions::assignment_expression-returns m c =
    let x = (rw c.in-Some.is at c.in_ok-left.ensures) in reads_form (reads_left (seq_behind x
    (taken_behind (left_behind (round_both x (rw c.in-Some-3.is at c.in_ok-next-2.ensures) refl refl c.checkpoint-start.ensures
    c.in_ok-wrap-2.ensures.read) (no_wrap (seq_none (mark_none (back c.if-is_assignment_at.ensures.test))) refl _)) refl) refl)
    (node_none (seq_none (mark_none (refused throw_word terminal.Throw refl _ (c.if-is_at.ensures.no refl))))))

pub expressions::conditional_expression-returns-in_default : goal.expressions::conditional_expression-returns-in_default
expressions::conditional_expression-returns-in_default m c = let x = rw c.in_default.is at c.in_ok-left.ensures in (x.0, none_form (none_seq x.1))

pub expressions::conditional_expression-returns-then-not-is_at : goal.expressions::conditional_expression-returns-then-not-is_at
expressions::conditional_expression-returns-then-not-is_at m c =
    reads_form (first_alone (rw c.in-Some.is at c.in_ok-left.ensures) c.expected_at.ensures
    (no_wrap (seq_none (mark_none (refused question terminal.Question refl _ (c.if-not-is_at.ensures.no refl)))) refl _) refl)

pub expressions::conditional_expression-returns-in_err-next : goal.expressions::conditional_expression-returns-in_err-next
expressions::conditional_expression-returns-in_err-next m c =
    parsed_err _ _ _ _ c.from_residual-in_err-next.result c.from_residual-in_err-next.ensures.0
    (leaves_both (leaves_read (rw c.in-Some.is at c.in_ok-left.ensures)) c.in_err-next.ensures)

pub expressions::conditional_expression-returns-in_default-2 : goal.expressions::conditional_expression-returns-in_default-2
expressions::conditional_expression-returns-in_default-2 m c =
    let y = rw c.in_default-2.is at c.in_ok-next.ensures in reads_form (first_alone (rw c.in-Some.is at c.in_ok-left.ensures)
    (c.cut.ensures _ y.0.extra c.checkpoint-mark.ensures y.0.gained) (no_wrap y.1 refl _) refl)

pub expressions::conditional_expression-returns-in_err-wrap : goal.expressions::conditional_expression-returns-in_err-wrap
expressions::conditional_expression-returns-in_err-wrap m c =
    parsed_err _ _ _ _ c.from_residual-in_err-wrap.result c.from_residual-in_err-wrap.ensures.0
    (leaves_both (leaves_read (rw c.in-Some.is at c.in_ok-left.ensures)) (leaves_both (leaves_read (rw c.in-Some-2.is at c.in_ok-next.ensures))
    (leaves_same c.in_err-wrap.ensures.memory)))

pub expressions::conditional_expression-returns : goal.expressions::conditional_expression-returns
expressions::conditional_expression-returns m c =
    let x = (rw c.in-Some.is at c.in_ok-left.ensures) in reads_form (seq_behind x (taken_behind
    (round_both x (rw c.in-Some-2.is at c.in_ok-next.ensures) refl refl c.checkpoint-start.ensures c.in_ok-wrap.ensures.read) refl) refl)

pub expressions::binary_expression-returns-in_default : goal.expressions::binary_expression-returns-in_default
expressions::binary_expression-returns-in_default m c = let x = rw c.in_default.is at c.in_ok-first.ensures in (x.0, no_operand c.args.level x.1)

pub expressions::binary_expression-levels-init : goal.expressions::binary_expression-levels-init
expressions::binary_expression-levels-init m c = (c.checkpoint-start.ensures, reads_form (rw c.in-Some.is at c.in_ok-first.ensures))

pub expressions::binary_expression-operands-init : goal.expressions::binary_expression-operands-init
expressions::binary_expression-operands-init m c = (c.levels.invariant.0, loop_begins c.levels.invariant.1 (levels_apart c.levels.below))

pub expressions::binary_expression-returns-in_err-behind : goal.expressions::binary_expression-returns-in_err-behind
expressions::binary_expression-returns-in_err-behind m c =
    parsed_err _ _ _ _ c.from_residual-in_err-behind.result c.from_residual-in_err-behind.ensures.0
    (leaves_both (leaves_chain c.operands.invariant.1) c.in_err-behind.ensures)

pub expressions::binary_expression-returns-in_default-2 : goal.expressions::binary_expression-returns-in_default-2
expressions::binary_expression-returns-in_default-2 m c =
    let y = rw c.in_default-2.is at c.in_ok-behind.ensures in level_cut c.operands.invariant.1 y.1
    (back c.level_at.ensures.level ∙ c.operands-test.true) c.levels-test.true (c.cut.ensures _ y.0.extra c.checkpoint-mark.ensures y.0.gained)

pub expressions::binary_expression-returns-in_err-wrap : goal.expressions::binary_expression-returns-in_err-wrap
expressions::binary_expression-returns-in_err-wrap m c =
    parsed_err _ _ _ _ c.from_residual-in_err-wrap.result c.from_residual-in_err-wrap.ensures.0
    (leaves_both (leaves_chain c.operands.invariant.1) (leaves_both (leaves_read (rw c.in-Some-2.is at c.in_ok-behind.ensures))
    (leaves_same c.in_err-wrap.ensures.memory)))

pub expressions::binary_expression-operands-preserved : goal.expressions::binary_expression-operands-preserved
expressions::binary_expression-operands-preserved m c = (
  c.operands.invariant.0,
  loop_round c.operands.invariant.1 (mark_and (level_test _ c.levels.below
      (back c.level_at.ensures.level ∙ c.operands-test.true)) (c.level_at.ensures.inside c.levels.below
      (let h = c.operands-test.true in omega (arith, h))) (rw c.in-Some-2.is at c.in_ok-behind.ensures) refl refl) refl refl refl
      (levels_apart_more c.levels.below) c.checkpoint-start.ensures c.in_ok-wrap.ensures.read,
)

pub expressions::binary_expression-levels-preserved : goal.expressions::binary_expression-levels-preserved
expressions::binary_expression-levels-preserved m c = (
  c.operands.invariant.0,
  level_read (loop_ends c.operands.invariant.1 (λ r. operated_none
      (λ h. c.operands-test.false (c.level_at.ensures.level ∙ h)))),
)

pub expressions::binary_expression-returns : goal.expressions::binary_expression-returns
expressions::binary_expression-returns m c = at_level c.levels.invariant.1 c.levels.auto.below-end c.levels-test.false

pub expressions::call-returns-in_default : goal.expressions::call-returns-in_default
expressions::call-returns-in_default m c =
    let x = rw c.in_default.is at c.in_ok-next.ensures in (
      x.0,
      neither (none_unlike open_paren c.requires.begins refl refl)
          (neither x.1 (none_unlike open_paren c.requires.begins refl refl)),
    )

pub expressions::call-returns : goal.expressions::call-returns
expressions::call-returns m c = record { rule = arguments; kind = a_call; reads = (rw c.in-Some.is at c.in_ok-next.ensures) }

pub expressions::cast_expression-returns-then-not-is_at : goal.expressions::cast_expression-returns-then-not-is_at
expressions::cast_expression-returns-then-not-is_at m c =
    parsed_form _ cast_expression _ None _ _ c.unary_expression.result (parsed_left _ _ _ _ _ _ _ c.unary_expression.result
    (if_unseen (λ h. true≢false (back (h.1).opened ∙ (refused open_paren terminal.OpenParen refl _ (c.if-not-is_at.ensures.no refl)))))
    (parsed_unless _ _ _ _ _ _ _ c.unary_expression.result (λ h. true≢false (back (h.1).opened ∙
    (refused open_paren terminal.OpenParen refl _ (c.if-not-is_at.ensures.no refl)))) c.unary_expression.ensures))

pub expressions::cast_expression-returns-in_err-lookahead_cast : goal.expressions::cast_expression-returns-in_err-lookahead_cast
expressions::cast_expression-returns-in_err-lookahead_cast m c = parsed_err _ _ _ _ c.from_residual.result c.from_residual.ensures.0 (leaves_none _)

pub expressions::cast_expression-returns-then-not-branch : goal.expressions::cast_expression-returns-then-not-branch
expressions::cast_expression-returns-then-not-branch m c =
    let n = (c.in_ok-lookahead_cast.ensures.no c.if-not-branch.true) in parsed_form _ cast_expression _ None _ _
    c.unary_expression-then-not-branch.result (parsed_left _ _ _ _ _ _ _ c.unary_expression-then-not-branch.result (if_unseen n)
    (parsed_unless _ _ _ _ _ _ _ c.unary_expression-then-not-branch.result n c.unary_expression-then-not-branch.ensures))

pub expressions::cast_expression-returns-in_err-inner : goal.expressions::cast_expression-returns-in_err-inner
expressions::cast_expression-returns-in_err-inner m c =
    parsed_err _ _ _ _ c.from_residual-in_err-inner.result c.from_residual-in_err-inner.ensures.0 (leaves_none _)

pub expressions::cast_expression-returns-in_default : goal.expressions::cast_expression-returns-in_default
expressions::cast_expression-returns-in_default m c =
    let x = rw c.in_default.is at c.in_ok-close.ensures in (
      x.0,
      none_form (neither (unless_seen
          (c.in_ok-lookahead_cast.ensures.yes c.if-not-branch.false)) (if_none (node_none (none_second_mark (none_seq x.1))))),
    )

pub expressions::cast_expression-returns-then-not-is_at-2 : goal.expressions::cast_expression-returns-then-not-is_at-2
expressions::cast_expression-returns-then-not-is_at-2 m c = (
  leaves_both (leaves_read (rw c.in-Some.is at c.in_ok-close.ensures)) (leaves_same c.expected_at.ensures),
  none_form
      (neither (unless_seen (c.in_ok-lookahead_cast.ensures.yes c.if-not-branch.false))
      (if_none (node_none (none_second_mark (none_behind (rw c.in-Some.is at c.in_ok-close.ensures)
      (seq_none (word_none (refused close_paren terminal.CloseParen refl _ (c.if-not-is_at-2.ensures.no refl)))) refl refl refl))))),
)

pub expressions::cast_expression-returns-in_err-next : goal.expressions::cast_expression-returns-in_err-next
expressions::cast_expression-returns-in_err-next m c =
    parsed_err _ _ _ _ c.from_residual-in_err-next.result c.from_residual-in_err-next.ensures.0
    (leaves_both (leaves_read (rw c.in-Some.is at c.in_ok-close.ensures)) c.in_err-next.ensures)

pub expressions::cast_expression-returns-in_default-2 : goal.expressions::cast_expression-returns-in_default-2
expressions::cast_expression-returns-in_default-2 m c =
    let y = rw c.in_default-2.is at c.in_ok-next.ensures in (
      leaves_both (leaves_read (rw c.in-Some.is at c.in_ok-close.ensures)) y.0,
      none_form
          (neither (unless_seen (c.in_ok-lookahead_cast.ensures.yes c.if-not-branch.false))
          (if_none (node_none (none_second_mark (none_behind (rw c.in-Some.is at c.in_ok-close.ensures) (none_second y.1) refl refl refl))))),
    )

pub expressions::cast_expression-returns-in_err-node : goal.expressions::cast_expression-returns-in_err-node
expressions::cast_expression-returns-in_err-node m c =
    parsed_err _ _ _ _ c.from_residual-in_err-node.result c.from_residual-in_err-node.ensures.0
    (leaves_both (leaves_read (rw c.in-Some.is at c.in_ok-close.ensures)) (leaves_both (leaves_read (rw c.in-Some-2.is at c.in_ok-next.ensures))
    (leaves_same c.in_err-node.ensures.memory)))

pub expressions::cast_expression-returns : goal.expressions::cast_expression-returns
expressions::cast_expression-returns m c =
    let h = (c.in_ok-lookahead_cast.ensures.yes c.if-not-branch.false) in reads_form (reads_right (unless_seen h)
    (reads_if h (made (mark_and (passed open_paren terminal.OpenParen refl _ (c.if-not-is_at.ensures.yes refl))
    (c.if-not-is_at.ensures.inside refl refl) (reads_seq (rw c.in-Some.is at c.in_ok-close.ensures)
    (word_and (passed close_paren terminal.CloseParen refl _ (c.if-not-is_at-2.ensures.yes refl)) (c.if-not-is_at-2.ensures.inside refl refl)
    (rw c.in-Some-2.is at c.in_ok-next.ensures) refl refl) refl refl) refl refl) c.checkpoint-start.ensures c.in_ok-node.ensures.read)))

pub expressions::choice-returns-in_err-inner : goal.expressions::choice-returns-in_err-inner
expressions::choice-returns-in_err-inner m c = parsed_err _ _ _ _ c.from_residual.result c.from_residual.ensures.0 (leaves_none _)

pub expressions::choice-returns-in_default : goal.expressions::choice-returns-in_default
expressions::choice-returns-in_default m c = let x = rw c.in_default.is at c.in_ok-middle.ensures in (x.0, none_second_mark (none_seq x.1))

pub expressions::choice-returns-then-not-is_at : goal.expressions::choice-returns-then-not-is_at
expressions::choice-returns-then-not-is_at m c = (
  leaves_both (leaves_read (rw c.in-Some.is at c.in_ok-middle.ensures)) (leaves_same c.expected_at.ensures),
  none_second_mark
      (none_behind (rw c.in-Some.is at c.in_ok-middle.ensures) (seq_none (word_none (refused colon terminal.Colon refl _
      (c.if-not-is_at.ensures.no refl)))) refl refl refl),
)

pub expressions::choice-returns : goal.expressions::choice-returns
expressions::choice-returns m c =
    parsed_mark _ question _ _ _ _ _ c.assignment_expression.result c.requires.begins (within c.args.text.now _ question refl c.requires.begins) refl
    refl (parsed_seq _ _ _ _ _ None None _ _ _ c.assignment_expression.result (rw c.in-Some.is at c.in_ok-middle.ensures) refl refl refl
    (parsed_word _ colon _ _ _ _ _ c.assignment_expression.result (passed colon terminal.Colon refl _ (c.if-not-is_at.ensures.yes refl))
    (c.if-not-is_at.ensures.inside refl refl) refl refl c.assignment_expression.ensures))

pub expressions::expression-returns-in_default : goal.expressions::expression-returns-in_default
expressions::expression-returns-in_default m c = let x = rw c.in_default.is at c.in_ok-first.ensures in (x.0, none_form (none_seq x.1))

pub expressions::expression-operands-init : goal.expressions::expression-operands-init
expressions::expression-operands-init m c = (c.checkpoint-start.ensures, loop_begins (rw c.in-Some.is at c.in_ok-first.ensures) refl)

pub expressions::expression-returns-in_err-behind : goal.expressions::expression-returns-in_err-behind
expressions::expression-returns-in_err-behind m c =
    parsed_err _ _ _ _ c.from_residual-in_err-behind.result c.from_residual-in_err-behind.ensures.0
    (leaves_both (leaves_chain c.operands.invariant.1) c.in_err-behind.ensures)

pub expressions::expression-returns-in_default-2 : goal.expressions::expression-returns-in_default-2
expressions::expression-returns-in_default-2 m c =
    let y = rw c.in_default-2.is at c.in_ok-behind.ensures in reads_form (ended c.operands.invariant.1 (no_wrap (none_second_mark y.1) refl)
    (c.cut.ensures _ y.0.extra c.checkpoint-mark.ensures y.0.gained))

pub expressions::expression-returns-in_err-wrap : goal.expressions::expression-returns-in_err-wrap
expressions::expression-returns-in_err-wrap m c =
    parsed_err _ _ _ _ c.from_residual-in_err-wrap.result c.from_residual-in_err-wrap.ensures.0
    (leaves_both (leaves_chain c.operands.invariant.1) (leaves_both (leaves_read (rw c.in-Some-2.is at c.in_ok-behind.ensures))
    (leaves_same c.in_err-wrap.ensures.memory)))

pub expressions::expression-operands-preserved : goal.expressions::expression-operands-preserved
expressions::expression-operands-preserved m c = (
  c.operands.invariant.0,
  loop_round c.operands.invariant.1 (mark_and (passed comma terminal.Comma refl _ (c.operands-test.ensures.yes refl))
      (c.operands-test.ensures.inside refl refl) (rw c.in-Some-2.is at c.in_ok-behind.ensures) refl refl) refl refl refl refl
      c.checkpoint-start.ensures c.in_ok-wrap.ensures.read,
)

pub expressions::expression-returns : goal.expressions::expression-returns
expressions::expression-returns m c =
    reads_form (loop_ends c.operands.invariant.1 (no_wrap (seq_none (mark_none (refused comma terminal.Comma refl _
    (c.operands-test.ensures.no refl)))) refl))

pub expressions::expression_list-returns-in_default : goal.expressions::expression_list-returns-in_default
expressions::expression_list-returns-in_default m c =
    let y = rw c.in_default.is at c.in_ok-next.ensures in reads_form (reads_left_out y.1 c.requires.here
    (c.cut.ensures _ y.0.extra c.checkpoint-mark.ensures y.0.gained))

pub expressions::expression_list-returns : goal.expressions::expression_list-returns
expressions::expression_list-returns m c = reads_form (reads_taken (rw c.in-Some.is at c.in_ok-next.ensures) refl)

pub expressions::expressions-returns-in_default : goal.expressions::expressions-returns-in_default
expressions::expressions-returns-in_default m c = let x = rw c.in_default.is at c.in_ok-first.ensures in (x.0, none_seq x.1)

pub expressions::expressions-items-init : goal.expressions::expressions-items-init
expressions::expressions-items-init m c = loop_begins (rw c.in-Some.is at c.in_ok-first.ensures) refl

pub expressions::expressions-returns-in_err-behind : goal.expressions::expressions-returns-in_err-behind
expressions::expressions-returns-in_err-behind m c =
    parsed_err _ _ _ _ c.from_residual-in_err-behind.result c.from_residual-in_err-behind.ensures.0
    (leaves_both (leaves_chain c.items.invariant) c.in_err-behind.ensures)

pub expressions::expressions-returns-in_default-2 : goal.expressions::expressions-returns-in_default-2
expressions::expressions-returns-in_default-2 m c =
    let y = rw c.in_default-2.is at c.in_ok-behind.ensures in reads_unmarked (ended c.items.invariant (free_none refl (none_second y.1))
    (c.cut.ensures _ y.0.extra c.checkpoint-mark.ensures y.0.gained)) refl

pub expressions::expressions-items-preserved : goal.expressions::expressions-items-preserved
expressions::expressions-items-preserved m c =
    loop_more c.items.invariant (word_and (passed comma terminal.Comma refl _ (c.items-test.ensures.yes refl))
    (c.items-test.ensures.inside refl refl) (rw c.in-Some-2.is at c.in_ok-behind.ensures) refl refl) refl refl refl

pub expressions::expressions-returns : goal.expressions::expressions-returns
expressions::expressions-returns m c =
    reads_unmarked (loop_ends c.items.invariant (free_none refl (seq_none (word_none (refused comma terminal.Comma refl _
    (c.items-test.ensures.no refl)))))) refl

pub expressions::functional_cast-returns-in_default : goal.expressions::functional_cast-returns-in_default
expressions::functional_cast-returns-in_default m c = let x = rw c.in_default.is at c.in_ok-open.ensures in (x.0, none_node (none_seq x.1))

pub expressions::functional_cast-returns-then-not-is_at : goal.expressions::functional_cast-returns-then-not-is_at
expressions::functional_cast-returns-then-not-is_at m c = (
  leaves_both (leaves_read (rw c.in-Some.is at c.in_ok-open.ensures)) (leaves_same c.expected_at.ensures),
  none_node
      (none_behind (rw c.in-Some.is at c.in_ok-open.ensures) (seq_none (mark_none (refused open_paren terminal.OpenParen refl _
      (c.if-not-is_at.ensures.no refl)))) refl refl refl),
)

pub expressions::functional_cast-returns-in_err-next : goal.expressions::functional_cast-returns-in_err-next
expressions::functional_cast-returns-in_err-next m c =
    parsed_err _ _ _ _ c.from_residual-in_err-next.result c.from_residual-in_err-next.ensures.0
    (leaves_both (leaves_read (rw c.in-Some.is at c.in_ok-open.ensures)) c.in_err-next.ensures)

pub expressions::functional_cast-returns-in_default-2 : goal.expressions::functional_cast-returns-in_default-2
expressions::functional_cast-returns-in_default-2 m c =
    let y = rw c.in_default-2.is at c.in_ok-next.ensures in (
      leaves_both (leaves_read (rw c.in-Some.is at c.in_ok-open.ensures)) y.0,
      none_node
          (none_behind (rw c.in-Some.is at c.in_ok-open.ensures) y.1 refl refl refl),
    )

pub expressions::functional_cast-returns-in_err-node : goal.expressions::functional_cast-returns-in_err-node
expressions::functional_cast-returns-in_err-node m c =
    parsed_err _ _ _ _ c.from_residual-in_err-node.result c.from_residual-in_err-node.ensures.0
    (leaves_both (leaves_read (rw c.in-Some.is at c.in_ok-open.ensures)) (leaves_both (leaves_read (rw c.in-Some-2.is at c.in_ok-next.ensures))
    (leaves_same c.in_err-node.ensures.memory)))

pub expressions::functional_cast-returns : goal.expressions::functional_cast-returns
expressions::functional_cast-returns m c =
    made (reads_seq (rw c.in-Some.is at c.in_ok-open.ensures) (rw c.in-Some-2.is at c.in_ok-next.ensures) refl refl) c.checkpoint-start.ensures
    c.in_ok-node.ensures.read

pub expressions::functional_type-returns-in_err-leaf : goal.expressions::functional_type-returns-in_err-leaf
expressions::functional_type-returns-in_err-leaf m c = parsed_err _ _ _ _ c.from_residual.result c.from_residual.ensures.0 (leaves_same c.in_err-leaf.ensures)

pub expressions::functional_type-returns-in_err-leaf-2 : goal.expressions::functional_type-returns-in_err-leaf-2
expressions::functional_type-returns-in_err-leaf-2 m c =
    parsed_err _ _ _ _ c.from_residual-in_err-leaf-2.result c.from_residual-in_err-leaf-2.ensures.0 (leaves_same c.in_err-leaf-2.ensures)

pub expressions::functional_type-returns-then-is_type_word_at : goal.expressions::functional_type-returns-then-is_type_word_at
expressions::functional_type-returns-then-is_type_word_at m c =
    reads_form (reads_left (leaf_there (back c.if-is_type_word_at.ensures.test) (c.if-is_type_word_at.ensures.inside refl) c.in_ok-leaf.ensures)
    (none_unlike is_type_word (back c.if-is_type_word_at.ensures.test) refl refl))

pub expressions::functional_type-returns-then-is_at : goal.expressions::functional_type-returns-then-is_at
expressions::functional_type-returns-then-is_at m c =
    let t = (passed is_type_name terminal.TypeName refl _ (c.if-is_at.ensures.yes refl)) in reads_form
    (reads_right (none_unlike is_type_name t refl refl) (reads_left (leaf_there t (c.if-is_at.ensures.inside refl refl) c.in_ok-leaf-2.ensures)
    (none_unlike is_type_name t refl refl)))

pub expressions::functional_type-returns : goal.expressions::functional_type-returns
expressions::functional_type-returns m c =
    parsed_form _ functional_type _ None _ _ c.tx_exception.result (parsed_right _ _ _ _ _ _ _ c.tx_exception.result
    (none_node (mark_none (back c.if-is_type_word_at.ensures.test))) (parsed_right _ _ _ _ _ _ _ c.tx_exception.result
    (none_node (mark_none (refused is_type_name terminal.TypeName refl _ (c.if-is_at.ensures.no refl)))) c.tx_exception.ensures))

pub expressions::of_std-returns-then-not-is_at : goal.expressions::of_std-returns-then-not-is_at
expressions::of_std-returns-then-not-is_at m c =
    (leaves_same c.expected_at.ensures, no_std c.requires.begins (refused colon_colon terminal.ColonColon refl _ (c.if-not-is_at.ensures.no refl)))

pub expressions::of_std-returns-then-not-is_at-2 : goal.expressions::of_std-returns-then-not-is_at-2
expressions::of_std-returns-then-not-is_at-2 m c =
    parsed_right _ _ _ _ _ _ _ c.functional_cast.result (no_abort (refused abort_word terminal.Abort refl _ (c.if-not-is_at-2.ensures.no refl)))
    c.functional_cast.ensures

pub expressions::of_std-returns-in_err-leaf : goal.expressions::of_std-returns-in_err-leaf
expressions::of_std-returns-in_err-leaf m c = parsed_err _ _ _ _ c.from_residual.result c.from_residual.ensures.0 (leaves_same c.in_err-leaf.ensures.memory)

pub expressions::of_std-returns : goal.expressions::of_std-returns
expressions::of_std-returns m c =
    abort_there c.requires.begins (passed colon_colon terminal.ColonColon refl _ (c.if-not-is_at.ensures.yes refl))
    (c.if-not-is_at-2.ensures.yes refl) (c.if-not-is_at-2.ensures.inside refl refl) (c.in_ok-leaf.ensures.added ∙ ap
    (λ p. appended c.args.out.now (reads_node StdAbort p (Some (c.args.at + 2)) no_read)) c.position.ensures.position)

pub expressions::of_type_name-returns-then-not-is_at : goal.expressions::of_type_name-returns-then-not-is_at
expressions::of_type_name-returns-then-not-is_at m c =
    parsed_right _ _ _ _ _ _ _ c.functional_cast.result (none_node (none_qualified (λ s. seq_none
    (word_none (refused colon_colon terminal.ColonColon refl _ (c.if-not-is_at.ensures.no refl)))))) c.functional_cast.ensures

pub expressions::of_type_name-returns-then-not-is_name_at : goal.expressions::of_type_name-returns-then-not-is_name_at
expressions::of_type_name-returns-then-not-is_name_at m c = (
  leaves_same c.expected_at.ensures,
  neither (none_node (none_qualified (λ s. none_behind_colons c.args.at
      (back c.if-not-is_name_at.ensures.test)))) (no_call c.requires.begins (c.if-not-is_at.ensures.yes refl)),
)

pub expressions::of_type_name-returns : goal.expressions::of_type_name-returns
expressions::of_type_name-returns m c =
    reads_left (made (qualified_there c.in_ok-type_name.ensures (passed colon_colon terminal.ColonColon refl _ (c.if-not-is_at.ensures.yes refl))
    (c.if-not-is_at.ensures.inside refl refl) (back c.if-not-is_name_at.ensures.test) (c.if-not-is_name_at.ensures.inside refl))
    c.checkpoint-start.ensures c.in_ok-node.ensures.read) (no_call c.requires.begins (c.if-not-is_at.ensures.yes refl))

pub expressions::optional_assignment_expression-returns-in_default : goal.expressions::optional_assignment_expression-returns-in_default
expressions::optional_assignment_expression-returns-in_default m c =
    let y = rw c.in_default.is at c.in_ok-next.ensures in reads_left_out y.1 c.requires.here
    (c.cut.ensures _ y.0.extra c.checkpoint-mark.ensures y.0.gained)

pub expressions::optional_assignment_expression-returns : goal.expressions::optional_assignment_expression-returns
expressions::optional_assignment_expression-returns m c = reads_taken (rw c.in-Some.is at c.in_ok-next.ensures) refl

pub expressions::parenthesized_expression-returns-in_err-descend : goal.expressions::parenthesized_expression-returns-in_err-descend
expressions::parenthesized_expression-returns-in_err-descend m c = parsed_err _ _ _ _ c.from_residual.result c.from_residual.ensures.0 (leaves_none _)

pub expressions::parenthesized_expression-returns-in_default : goal.expressions::parenthesized_expression-returns-in_default
expressions::parenthesized_expression-returns-in_default m c =
    let x = rw c.in_default.is at c.in_ok-close.ensures in (x.0, none_node (none_second_mark (none_seq x.1)))

pub expressions::parenthesized_expression-returns-then-not-is_at : goal.expressions::parenthesized_expression-returns-then-not-is_at
expressions::parenthesized_expression-returns-then-not-is_at m c = (
  leaves_both (leaves_read (rw c.in-Some.is at c.in_ok-close.ensures)) (leaves_same c.expected_at.ensures),
  none_node
      (none_second_mark (none_behind (rw c.in-Some.is at c.in_ok-close.ensures) (word_none
      (refused close_paren terminal.CloseParen refl _ (c.if-not-is_at.ensures.no refl))) refl refl refl)),
)

pub expressions::parenthesized_expression-returns : goal.expressions::parenthesized_expression-returns
expressions::parenthesized_expression-returns m c =
    made (mark_and c.requires.begins (within c.args.text.now _ open_paren refl c.requires.begins)
    (reads_seq (rw c.in-Some.is at c.in_ok-close.ensures) (reads_word (passed close_paren terminal.CloseParen refl _
    (c.if-not-is_at.ensures.yes refl)) (c.if-not-is_at.ensures.inside refl refl)) refl refl) refl refl) c.checkpoint-start.ensures
    c.in_ok-node.ensures.read

pub expressions::postfix-returns-then-is_at-3 : goal.expressions::postfix-returns-then-is_at-3
expressions::postfix-returns-then-is_at-3 m c = c.member.ensures c.args.out.now

pub expressions::postfix-returns-then-is_at-4 : goal.expressions::postfix-returns-then-is_at-4
expressions::postfix-returns-then-is_at-4 m c = c.pointer_member.ensures c.args.out.now

pub expressions::postfix-returns-then-is_step_at : goal.expressions::postfix-returns-then-is_step_at
expressions::postfix-returns-then-is_step_at m c =
    record { rule = mark is_step; kind = a_step; reads = reads_mark (back c.if-is_step_at.ensures.test) (c.if-is_step_at.ensures.inside refl) }

pub expressions::postfix-returns : goal.expressions::postfix-returns
expressions::postfix-returns m c = (
  leaves_same c.expected_at.ensures,
  neither (seq_none (mark_none (refused open_bracket terminal.OpenBracket refl _
      (c.if-is_at.ensures.no refl)))) (neither (seq_none (mark_none (refused open_paren terminal.OpenParen refl _ (c.if-is_at-2.ensures.no refl))))
      (neither (seq_none (word_none (refused dot terminal.Dot refl _ (c.if-is_at-3.ensures.no refl))))
      (neither (seq_none (word_none (refused arrow terminal.Arrow refl _ (c.if-is_at-4.ensures.no refl))))
      (mark_none (back c.if-is_step_at.ensures.test))))),
)

pub expressions::postfix_expression-returns-in_default : goal.expressions::postfix_expression-returns-in_default
expressions::postfix_expression-returns-in_default m c = let x = rw c.in_default.is at c.in_ok-first.ensures in (x.0, none_form (none_seq x.1))

pub expressions::postfix_expression-suffixes-init : goal.expressions::postfix_expression-suffixes-init
expressions::postfix_expression-suffixes-init m c = (c.checkpoint-start.ensures, loop_begins (rw c.in-Some.is at c.in_ok-first.ensures) refl)

pub expressions::postfix_expression-returns-in_err-suffix : goal.expressions::postfix_expression-returns-in_err-suffix
expressions::postfix_expression-returns-in_err-suffix m c =
    parsed_err _ _ _ _ c.from_residual-in_err-suffix.result c.from_residual-in_err-suffix.ensures.0
    (leaves_both (leaves_chain c.suffixes.invariant.1) c.in_err-suffix.ensures)

pub expressions::postfix_expression-returns-in_default-2 : goal.expressions::postfix_expression-returns-in_default-2
expressions::postfix_expression-returns-in_default-2 m c =
    let y = rw c.in_default-2.is at c.in_ok-suffix.ensures in reads_form (ended c.suffixes.invariant.1 (no_suffix y.1)
    (c.cut.ensures _ y.0.extra c.checkpoint-mark.ensures y.0.gained))

pub expressions::postfix_expression-returns-in_err-wrap : goal.expressions::postfix_expression-returns-in_err-wrap
expressions::postfix_expression-returns-in_err-wrap m c =
    parsed_err _ _ _ _ c.from_residual-in_err-wrap.result c.from_residual-in_err-wrap.ensures.0
    (leaves_both (leaves_chain c.suffixes.invariant.1) (leaves_both (suffix_leaves (rw c.in-Some-2.is at c.in_ok-suffix.ensures))
    (leaves_same c.in_err-wrap.ensures.memory)))

pub expressions::postfix_expression-suffixes-smaller : goal.expressions::postfix_expression-suffixes-smaller
expressions::postfix_expression-suffixes-smaller m c =
    let x = (rw c.in-Some-2.is at c.in_ok-suffix.ensures) in let h = suffix_ahead x in let i = suffix_inside x in omega (arith, h, i)

pub expressions::postfix_expression-suffixes-preserved : goal.expressions::postfix_expression-suffixes-preserved
expressions::postfix_expression-suffixes-preserved m c = (
  c.suffixes.invariant.0,
  loop_suffix c.suffixes.invariant.1 (rw c.in-Some-2.is at c.in_ok-suffix.ensures) c.checkpoint-start.ensures
      c.in_ok-wrap.ensures.read,
)

pub expressions::primary_expression-returns-in_err-leaf : goal.expressions::primary_expression-returns-in_err-leaf
expressions::primary_expression-returns-in_err-leaf m c =
    parsed_err _ _ _ _ c.from_residual.result c.from_residual.ensures.0 (leaves_same c.in_err-leaf.ensures)

pub expressions::primary_expression-returns-then-is_name_at : goal.expressions::primary_expression-returns-then-is_name_at
expressions::primary_expression-returns-then-is_name_at m c =
    let t = (back c.if-is_name_at.ensures.test) in reads_form (reads_right (none_unlike is_name t refl refl)
    (reads_left (leaf_there t (c.if-is_name_at.ensures.inside refl) c.in_ok-leaf.ensures) (none_unlike is_name t refl refl)))

pub expressions::primary_expression-returns-then-is_literal_at : goal.expressions::primary_expression-returns-then-is_literal_at
expressions::primary_expression-returns-then-is_literal_at m c =
    reads_form (reads_left c.in_ok-literal.ensures (none_unlike is_literal (back c.if-is_literal_at.ensures.test) refl refl))

pub expressions::primary_expression-returns-then-is_at : goal.expressions::primary_expression-returns-then-is_at
expressions::primary_expression-returns-then-is_at m c =
    named_primary _ _ _ _ c.of_type_name.result (passed is_type_name terminal.TypeName refl _ (c.if-is_at.ensures.yes refl)) c.of_type_name.ensures

pub expressions::primary_expression-returns-then-is_at-2 : goal.expressions::primary_expression-returns-then-is_at-2
expressions::primary_expression-returns-then-is_at-2 m c =
    let t = (passed open_paren terminal.OpenParen refl _ (c.if-is_at-2.ensures.yes refl)) in parsed_form _ primary_expression _ None _ _
    c.parenthesized_expression.result (parsed_right _ _ _ _ _ _ _ c.parenthesized_expression.result (none_unlike open_paren t refl refl)
    (parsed_right _ _ _ _ _ _ _ c.parenthesized_expression.result (none_unlike open_paren t refl refl)
    (parsed_right _ _ _ _ _ _ _ c.parenthesized_expression.result (none_unlike open_paren t refl refl)
    (parsed_right _ _ _ _ _ _ _ c.parenthesized_expression.result (none_unlike open_paren t refl refl)
    (parsed_left _ _ _ _ _ _ _ c.parenthesized_expression.result (none_unlike open_paren t refl refl) c.parenthesized_expression.ensures)))))

pub expressions::primary_expression-returns-in_err-descend : goal.expressions::primary_expression-returns-in_err-descend
expressions::primary_expression-returns-in_err-descend m c =
    parsed_err _ _ _ _ c.from_residual-in_err-descend.result c.from_residual-in_err-descend.ensures.0 (leaves_none _)

pub expressions::primary_expression-returns-then-is_at-3 : goal.expressions::primary_expression-returns-then-is_at-3
expressions::primary_expression-returns-then-is_at-3 m c =
    let t = (passed open_bracket terminal.OpenBracket refl _ (c.if-is_at-3.ensures.yes refl)) in parsed_form _ primary_expression _ None _ _
    c.lambda_expression.result (parsed_right _ _ _ _ _ _ _ c.lambda_expression.result (none_unlike open_bracket t refl refl)
    (parsed_right _ _ _ _ _ _ _ c.lambda_expression.result (none_unlike open_bracket t refl refl)
    (parsed_right _ _ _ _ _ _ _ c.lambda_expression.result (none_unlike open_bracket t refl refl)
    (parsed_right _ _ _ _ _ _ _ c.lambda_expression.result (none_unlike open_bracket t refl refl)
    (parsed_right _ _ _ _ _ _ _ c.lambda_expression.result (none_unlike open_bracket t refl refl)
    (parsed_right _ _ _ _ _ _ _ c.lambda_expression.result (none_unlike open_bracket t refl refl)
    (parsed_right _ _ _ _ _ _ _ c.lambda_expression.result (none_unlike open_bracket t refl refl) c.lambda_expression.ensures)))))))

pub expressions::primary_expression-returns-then-is_at-4 : goal.expressions::primary_expression-returns-then-is_at-4
expressions::primary_expression-returns-then-is_at-4 m c =
    let t = (passed static_cast_word terminal.StaticCast refl _ (c.if-is_at-4.ensures.yes refl)) in parsed_form _ primary_expression _ None _ _
    c.static_cast.result (parsed_right _ _ _ _ _ _ _ c.static_cast.result (none_unlike static_cast_word t refl refl)
    (parsed_right _ _ _ _ _ _ _ c.static_cast.result (none_unlike static_cast_word t refl refl)
    (parsed_right _ _ _ _ _ _ _ c.static_cast.result (none_unlike static_cast_word t refl refl)
    (parsed_right _ _ _ _ _ _ _ c.static_cast.result (none_unlike static_cast_word t refl refl)
    (parsed_right _ _ _ _ _ _ _ c.static_cast.result (none_unlike static_cast_word t refl refl)
    (parsed_right _ _ _ _ _ _ _ c.static_cast.result (none_unlike static_cast_word t refl refl)
    (parsed_left _ _ _ _ _ _ _ c.static_cast.result (none_unlike static_cast_word t refl refl) c.static_cast.ensures)))))))

pub expressions::primary_expression-returns-then-is_at-5 : goal.expressions::primary_expression-returns-then-is_at-5
expressions::primary_expression-returns-then-is_at-5 m c =
    std_primary _ _ _ _ c.of_std.result (passed std terminal.Std refl _ (c.if-is_at-5.ensures.yes refl)) c.of_std.ensures

pub expressions::primary_expression-returns-then-is_type_word_at : goal.expressions::primary_expression-returns-then-is_type_word_at
expressions::primary_expression-returns-then-is_type_word_at m c =
    let t = (back c.if-is_type_word_at.ensures.test) in parsed_form _ primary_expression _ None _ _ c.functional_cast.result
    (parsed_right _ _ _ _ _ _ _ c.functional_cast.result (none_unlike is_type_word t refl refl)
    (parsed_right _ _ _ _ _ _ _ c.functional_cast.result (none_unlike is_type_word t refl refl)
    (parsed_right _ _ _ _ _ _ _ c.functional_cast.result (none_unlike is_type_word t refl refl)
    (parsed_right _ _ _ _ _ _ _ c.functional_cast.result (none_unlike is_type_word t refl refl)
    (parsed_right _ _ _ _ _ _ _ c.functional_cast.result (none_unlike is_type_word t refl refl)
    (parsed_left _ _ _ _ _ _ _ c.functional_cast.result (none_unlike is_type_word t refl refl) c.functional_cast.ensures))))))

pub expressions::primary_expression-returns : goal.expressions::primary_expression-returns
expressions::primary_expression-returns m c = (
  leaves_same c.expected_at.ensures,
  none_form (neither (none_unlike (λ s. not (is_literal s))
      (not_from_false _ (back c.if-is_literal_at.ensures.test)) refl refl) (neither (none_node (mark_none (back c.if-is_name_at.ensures.test)))
      (neither (none_node (seq_none (none_node (mark_none (refused is_type_name terminal.TypeName refl _ (c.if-is_at.ensures.no refl))))))
      (neither (none_node (seq_none (word_none (refused std terminal.Std refl _ (c.if-is_at-5.ensures.no refl)))))
      (neither (none_node (seq_none (mark_none (refused open_paren terminal.OpenParen refl _ (c.if-is_at-2.ensures.no refl)))))
      (neither (none_node (seq_none (form_none (neither (none_node (mark_none (back c.if-is_type_word_at.ensures.test)))
      (neither (none_node (mark_none (refused is_type_name terminal.TypeName refl _ (c.if-is_at.ensures.no refl))))
      (none_node (seq_none (word_none (refused std terminal.Std refl _ (c.if-is_at-5.ensures.no refl))))))))))
      (neither (none_node (seq_none (mark_none (refused static_cast_word terminal.StaticCast refl _ (c.if-is_at-4.ensures.no refl)))))
      (none_unlike (λ s. not (open_bracket s)) (not_from_false _ (refused open_bracket terminal.OpenBracket refl _ (c.if-is_at-3.ensures.no refl)))
      refl refl)))))))),
)

pub expressions::sizeof_expression-returns-in_err-inner : goal.expressions::sizeof_expression-returns-in_err-inner
expressions::sizeof_expression-returns-in_err-inner m c = parsed_err _ _ _ _ c.from_residual.result c.from_residual.ensures.0 (leaves_none _)

pub expressions::sizeof_expression-returns-in_err-lookahead_type_in_parentheses :
    goal.expressions::sizeof_expression-returns-in_err-lookahead_type_in_parentheses
expressions::sizeof_expression-returns-in_err-lookahead_type_in_parentheses m c =
    parsed_err _ _ _ _ c.from_residual-in_err-lookahead_type_in_parentheses.result c.from_residual-in_err-lookahead_type_in_parentheses.ensures.0
    (leaves_none _)

pub expressions::sizeof_expression-returns-in_default : goal.expressions::sizeof_expression-returns-in_default
expressions::sizeof_expression-returns-in_default m c =
    let x = rw c.in_default.is at c.in_ok-next.ensures in (
      x.0,
      neither (node_none (none_second_mark (unless_none x.1)))
          (node_none (none_second_mark (if_unseen (c.in_ok-lookahead_type_in_parentheses.ensures.no c.if-not-branch.true)))),
    )

pub expressions::sizeof_expression-returns-then-not-branch : goal.expressions::sizeof_expression-returns-then-not-branch
expressions::sizeof_expression-returns-then-not-branch m c =
    reads_left (made (mark_and c.requires.begins (within c.args.text.now _ sizeof_word refl c.requires.begins)
    (reads_unless (c.in_ok-lookahead_type_in_parentheses.ensures.no c.if-not-branch.true) (rw c.in-Some.is at c.in_ok-next.ensures)) refl refl)
    c.checkpoint-start.ensures c.in_ok-node.ensures.read) (node_none (none_second_mark
    (if_unseen (c.in_ok-lookahead_type_in_parentheses.ensures.no c.if-not-branch.true))))

pub expressions::sizeof_expression-returns-in_default-2 : goal.expressions::sizeof_expression-returns-in_default-2
expressions::sizeof_expression-returns-in_default-2 m c =
    let x = rw c.in_default-2.is at c.in_ok-close.ensures in (
      x.0,
      neither (node_none
          (none_second_mark (unless_seen (c.in_ok-lookahead_type_in_parentheses.ensures.yes c.if-not-branch.false))))
          (node_none (none_second_mark (if_none (none_second (none_seq (none_two_on c.args.at x.1)))))),
    )

pub expressions::sizeof_expression-returns-then-not-is_at : goal.expressions::sizeof_expression-returns-then-not-is_at
expressions::sizeof_expression-returns-then-not-is_at m c = (
  leaves_both (leaves_read (rw c.in-Some-2.is at c.in_ok-close.ensures)) (leaves_same c.expected_at.ensures),
  neither
      (node_none (none_second_mark (unless_seen (c.in_ok-lookahead_type_in_parentheses.ensures.yes c.if-not-branch.false))))
      (node_none (none_second_mark (if_none (none_second (none_behind (reads_two_on c.args.at (rw c.in-Some-2.is at c.in_ok-close.ensures))
      (word_none (refused close_paren terminal.CloseParen refl _ (c.if-not-is_at.ensures.no refl))) refl refl refl))))),
)

pub expressions::sizeof_expression-returns : goal.expressions::sizeof_expression-returns
expressions::sizeof_expression-returns m c =
    let h = (c.in_ok-lookahead_type_in_parentheses.ensures.yes c.if-not-branch.false) in reads_right (node_none (none_second_mark (unless_seen h)))
    (made (mark_and c.requires.begins (within c.args.text.now _ sizeof_word refl c.requires.begins)
    (reads_if h (word_and (h.1).opened (within c.args.text.now _ open_paren refl (h.1).opened)
    (reads_seq (reads_two_on c.args.at (rw c.in-Some-2.is at c.in_ok-close.ensures)) (reads_word
    (passed close_paren terminal.CloseParen refl _ (c.if-not-is_at.ensures.yes refl)) (c.if-not-is_at.ensures.inside refl refl)) refl refl) refl
    refl)) refl refl) c.checkpoint-start.ensures c.in_ok-node-2.ensures.read)

pub expressions::static_cast-returns-then-not-is_at : goal.expressions::static_cast-returns-then-not-is_at
expressions::static_cast-returns-then-not-is_at m c = (
  leaves_same c.expected_at.ensures,
  none_node (none_second_mark (seq_none (word_none
      (refused less terminal.Less refl _ (c.if-not-is_at.ensures.no refl))))),
)

pub expressions::static_cast-returns-in_err-inner : goal.expressions::static_cast-returns-in_err-inner
expressions::static_cast-returns-in_err-inner m c = parsed_err _ _ _ _ c.from_residual.result c.from_residual.ensures.0 (leaves_none _)

pub expressions::static_cast-returns-in_default : goal.expressions::static_cast-returns-in_default
expressions::static_cast-returns-in_default m c =
    let x = rw c.in_default.is at c.in_ok-greater.ensures in (x.0, node_none (none_second_mark (none_second (none_seq (none_two_on c.args.at x.1)))))

pub expressions::static_cast-returns-then-not-is_at-2 : goal.expressions::static_cast-returns-then-not-is_at-2
expressions::static_cast-returns-then-not-is_at-2 m c = (
  leaves_both (leaves_read (rw c.in-Some.is at c.in_ok-greater.ensures)) (leaves_same c.expected_at-then-not-is_at-2.ensures),
  node_none
      (none_second_mark (none_second (none_behind (reads_two_on c.args.at (rw c.in-Some.is at c.in_ok-greater.ensures))
      (seq_none (word_none (refused greater terminal.Greater refl _ (c.if-not-is_at-2.ensures.no refl)))) refl refl refl))),
)

pub expressions::static_cast-returns-then-not-is_at-3 : goal.expressions::static_cast-returns-then-not-is_at-3
expressions::static_cast-returns-then-not-is_at-3 m c = (
  leaves_both (leaves_read (rw c.in-Some.is at c.in_ok-greater.ensures)) (leaves_same c.expected_at-then-not-is_at-3.ensures),
  node_none
      (none_second_mark (none_second (none_behind (reads_two_on c.args.at (rw c.in-Some.is at c.in_ok-greater.ensures))
      (none_second (seq_none (word_none (refused open_paren terminal.OpenParen refl _ (c.if-not-is_at-3.ensures.no refl))))) refl refl refl))),
)

pub expressions::static_cast-returns-in_err-close : goal.expressions::static_cast-returns-in_err-close
expressions::static_cast-returns-in_err-close m c =
    parsed_err _ _ _ _ c.from_residual-in_err-close.result c.from_residual-in_err-close.ensures.0
    (leaves_both (leaves_read (rw c.in-Some.is at c.in_ok-greater.ensures)) c.in_err-close.ensures)

pub expressions::static_cast-returns-in_default-2 : goal.expressions::static_cast-returns-in_default-2
expressions::static_cast-returns-in_default-2 m c =
    let y = rw c.in_default-2.is at c.in_ok-close.ensures in (
      leaves_both (leaves_read (rw c.in-Some.is at c.in_ok-greater.ensures)) y.0,
      node_none
          (none_second_mark (none_second (none_behind (reads_two_on c.args.at (rw c.in-Some.is at c.in_ok-greater.ensures))
          (none_second (none_second (none_seq (none_two_on c.in-Some.greater y.1)))) refl refl refl))),
    )

pub expressions::static_cast-returns-then-not-is_at-4 : goal.expressions::static_cast-returns-then-not-is_at-4
expressions::static_cast-returns-then-not-is_at-4 m c = (
  leaves_both (leaves_read (rw c.in-Some.is at c.in_ok-greater.ensures)) (leaves_both (leaves_read (rw c.in-Some-2.is at c.in_ok-close.ensures))
      (leaves_same c.expected_at-then-not-is_at-4.ensures)),
  node_none (none_second_mark
      (none_second (none_behind (reads_two_on c.args.at (rw c.in-Some.is at c.in_ok-greater.ensures))
      (none_second (none_second (none_behind (reads_two_on c.in-Some.greater (rw c.in-Some-2.is at c.in_ok-close.ensures))
      (word_none (refused close_paren terminal.CloseParen refl _ (c.if-not-is_at-4.ensures.no refl))) refl refl refl))) refl refl refl))),
)

pub expressions::static_cast-returns-in_err-node : goal.expressions::static_cast-returns-in_err-node
expressions::static_cast-returns-in_err-node m c =
    parsed_err _ _ _ _ c.from_residual-in_err-node.result c.from_residual-in_err-node.ensures.0
    (leaves_both (leaves_read (rw c.in-Some.is at c.in_ok-greater.ensures)) (leaves_both (leaves_read (rw c.in-Some-2.is at c.in_ok-close.ensures))
    (leaves_same c.in_err-node.ensures.memory)))

pub expressions::static_cast-returns : goal.expressions::static_cast-returns
expressions::static_cast-returns m c =
    made (mark_and c.requires.begins (within c.args.text.now _ static_cast_word refl c.requires.begins)
    (word_and (passed less terminal.Less refl _ (c.if-not-is_at.ensures.yes refl)) (c.if-not-is_at.ensures.inside refl refl)
    (reads_seq (reads_two_on c.args.at (rw c.in-Some.is at c.in_ok-greater.ensures)) (word_and
    (passed greater terminal.Greater refl _ (c.if-not-is_at-2.ensures.yes refl)) (c.if-not-is_at-2.ensures.inside refl refl)
    (word_and (passed open_paren terminal.OpenParen refl _ (c.if-not-is_at-3.ensures.yes refl)) (c.if-not-is_at-3.ensures.inside refl refl)
    (reads_seq (reads_two_on c.in-Some.greater (rw c.in-Some-2.is at c.in_ok-close.ensures))
    (reads_word (passed close_paren terminal.CloseParen refl _ (c.if-not-is_at-4.ensures.yes refl)) (c.if-not-is_at-4.ensures.inside refl refl)) refl
    refl) refl refl) refl refl) refl refl) refl refl) refl refl) c.checkpoint-start.ensures c.in_ok-node.ensures.read

pub expressions::subscript-returns-in_err-descend : goal.expressions::subscript-returns-in_err-descend
expressions::subscript-returns-in_err-descend m c = suffix_err _ _ c.from_residual.result c.from_residual.ensures.0 (leaves_none _)

pub expressions::subscript-returns-in_default : goal.expressions::subscript-returns-in_default
expressions::subscript-returns-in_default m c =
    let x = rw c.in_default.is at c.in_ok-close.ensures in (
      x.0,
      neither (none_second_mark (none_seq x.1))
          (none_unlike open_bracket c.requires.begins refl refl),
    )

pub expressions::subscript-returns-then-not-is_at : goal.expressions::subscript-returns-then-not-is_at
expressions::subscript-returns-then-not-is_at m c = (
  leaves_both (leaves_read (rw c.in-Some.is at c.in_ok-close.ensures)) (leaves_same c.expected_at.ensures),
  neither
      (none_second_mark (none_behind (rw c.in-Some.is at c.in_ok-close.ensures) (word_none
      (refused close_bracket terminal.CloseBracket refl _ (c.if-not-is_at.ensures.no refl))) refl refl refl))
      (none_unlike open_bracket c.requires.begins refl refl),
)

pub expressions::subscript-returns : goal.expressions::subscript-returns
expressions::subscript-returns m c =
    record {
      rule = _;
      kind = a_subscript;
      reads = mark_and c.requires.begins (within c.args.text.now _ open_bracket refl c.requires.begins)
          (reads_seq (rw c.in-Some.is at c.in_ok-close.ensures) (reads_word (passed close_bracket terminal.CloseBracket refl _
          (c.if-not-is_at.ensures.yes refl)) (c.if-not-is_at.ensures.inside refl refl)) refl refl) refl refl;
    }

pub expressions::throw_expression-returns-in_err-descend : goal.expressions::throw_expression-returns-in_err-descend
expressions::throw_expression-returns-in_err-descend m c = always_err _ _ _ _ c.from_residual.result c.from_residual.ensures.0 (leaves_none _)

pub expressions::throw_expression-returns : goal.expressions::throw_expression-returns
expressions::throw_expression-returns m c =
    made (mark_and c.requires.begins (within c.args.text.now _ throw_word refl c.requires.begins) c.in_ok-next.ensures refl refl)
    c.checkpoint-start.ensures c.in_ok-node.ensures.read

pub expressions::unary_expression-returns-then-is_at : goal.expressions::unary_expression-returns-then-is_at
expressions::unary_expression-returns-then-is_at m c =
    let t = (passed sizeof_word terminal.Sizeof refl _ (c.if-is_at.ensures.yes refl)) in parsed_form _ unary_expression _ None _ _
    c.sizeof_expression.result (parsed_right _ _ _ _ _ _ _ c.sizeof_expression.result (none_unlike sizeof_word t refl refl)
    (parsed_right _ _ _ _ _ _ _ c.sizeof_expression.result (none_unlike sizeof_word t refl refl) c.sizeof_expression.ensures))

pub expressions::unary_expression-returns-then-not-is_prefix_at : goal.expressions::unary_expression-returns-then-not-is_prefix_at
expressions::unary_expression-returns-then-not-is_prefix_at m c =
    parsed_form _ unary_expression _ None _ _ c.postfix_expression.result (parsed_left _ _ _ _ _ _ _ c.postfix_expression.result
    (neither (none_node (seq_none (mark_none (back c.if-not-is_prefix_at.ensures.test))))
    (neither (none_node (seq_none (mark_none (refused sizeof_word terminal.Sizeof refl _ (c.if-is_at.ensures.no refl)))))
    (none_node (seq_none (mark_none (refused sizeof_word terminal.Sizeof refl _ (c.if-is_at.ensures.no refl))))))) c.postfix_expression.ensures)

pub expressions::unary_expression-returns-in_err-descend : goal.expressions::unary_expression-returns-in_err-descend
expressions::unary_expression-returns-in_err-descend m c = parsed_err _ _ _ _ c.from_residual.result c.from_residual.ensures.0 (leaves_none _)

pub expressions::unary_expression-returns-in_default : goal.expressions::unary_expression-returns-in_default
expressions::unary_expression-returns-in_default m c =
    let x = rw c.in_default.is at c.in_ok-next.ensures in (
      x.0,
      none_form (neither (none_unlike is_prefix (back c.if-not-is_prefix_at.ensures.test)
          refl refl) (neither (none_node (none_second_mark x.1)) (neither (none_node (seq_none
          (mark_none (refused sizeof_word terminal.Sizeof refl _ (c.if-is_at.ensures.no refl)))))
          (none_node (seq_none (mark_none (refused sizeof_word terminal.Sizeof refl _ (c.if-is_at.ensures.no refl)))))))),
    )

pub expressions::unary_expression-returns : goal.expressions::unary_expression-returns
expressions::unary_expression-returns m c =
    reads_form (reads_right (none_unlike is_prefix (back c.if-not-is_prefix_at.ensures.test) refl refl)
    (reads_left (made (mark_and (back c.if-not-is_prefix_at.ensures.test) (c.if-not-is_prefix_at.ensures.inside refl)
    (rw c.in-Some.is at c.in_ok-next.ensures) refl refl) c.checkpoint-start.ensures c.in_ok-node.ensures.read)
    (neither (none_node (seq_none (mark_none (refused sizeof_word terminal.Sizeof refl _ (c.if-is_at.ensures.no refl)))))
    (none_node (seq_none (mark_none (refused sizeof_word terminal.Sizeof refl _ (c.if-is_at.ensures.no refl))))))))
