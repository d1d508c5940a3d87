use Rattle.std.proofs.Common.{◌≡◌, refl, sym, arith}
use Rattle.cpp_syntax.specs.declared.terminal.Terminal.TheVariants as terminal
use Rattle.cpp_syntax.specs.Terminals.{is_type_name, greater}
use Rattle.cpp_syntax.proofs.SingleTerminals.{passed, refused}
use Rattle.cpp_syntax.proofs.LongestMatches.{node_none}
use Rattle.cpp_syntax.proofs.Recognisers.{known_later, span_ahead}
use Rattle.cpp_syntax.proofs.TypeShapes.{specifier_words, specifier_name, specifier_found, thrown_none, thrown_found, thrown_unclosed, thrown_no_type}
use Rattle.cpp_syntax.proofs.TypeShapes.{seq_found, seq_missing, type_found, type_missing}
use Rattle.cpp_syntax.proofs.outline.Outline.+shaped_types.Goals as goal

pub shaped_tx_exception-returns-in_default : goal.shaped_tx_exception-returns-in_default
shaped_tx_exception-returns-in_default t c = node_none (thrown_none c.in_default.ensures)

pub shaped_tx_exception-returns-in_default-2 : goal.shaped_tx_exception-returns-in_default-2
shaped_tx_exception-returns-in_default-2 t c = thrown_no_type c.in-Some.ensures (rw c.in_default-2.is at c.in_ok-greater.ensures)

pub shaped_tx_exception-returns-then-not-is_at : goal.shaped_tx_exception-returns-then-not-is_at
shaped_tx_exception-returns-then-not-is_at t c =
    thrown_unclosed c.in-Some.ensures (rw c.in-Some-2.is at c.in_ok-greater.ensures) (refused greater terminal.Greater refl _
    (c.if-not-is_at.ensures.no refl))

pub shaped_tx_exception-returns : goal.shaped_tx_exception-returns
shaped_tx_exception-returns t c =
    thrown_found c.in-Some.ensures (rw c.in-Some-2.is at c.in_ok-greater.ensures) (passed greater terminal.Greater refl _
    (c.if-not-is_at.ensures.yes refl))

pub shaped_type_id-returns-in_default : goal.shaped_type_id-returns-in_default
shaped_type_id-returns-in_default t c = type_missing (rw c.in_default.is at c.in_ok-behind.ensures)

pub shaped_type_id-shaped_declarator-requires-clause-known : goal.shaped_type_id-shaped_declarator-requires-clause-known
shaped_type_id-shaped_declarator-requires-clause-known t c =
    known_later c.args.self.now c.args.parameters.now.items c.args.at c.in-Some.behind (span_ahead (rw c.in-Some.is at c.in_ok-behind.ensures))
    c.requires.known

pub shaped_type_id-returns : goal.shaped_type_id-returns
shaped_type_id-returns t c =
    type_found c.args.self.now c.args.at c.in-Some.behind (rw c.in-Some.is at c.in_ok-behind.ensures) c.shaped_declarator.result
    c.shaped_declarator.ensures

pub shaped_type_specifier-returns-then-is_type_word_at : goal.shaped_type_specifier-returns-then-is_type_word_at
shaped_type_specifier-returns-then-is_type_word_at t c = specifier_words c.behind_type_words.ensures (sym c.if-is_type_word_at.ensures.test)

pub shaped_type_specifier-returns-then-is_at : goal.shaped_type_specifier-returns-then-is_at
shaped_type_specifier-returns-then-is_at t c = specifier_name (passed is_type_name terminal.TypeName refl _ (c.if-is_at.ensures.yes refl))

pub shaped_type_specifier-returns : goal.shaped_type_specifier-returns
shaped_type_specifier-returns t c =
    specifier_found c.args.self.now c.args.at (sym c.if-is_type_word_at.ensures.test)
    (refused is_type_name terminal.TypeName refl _ (c.if-is_at.ensures.no refl)) c.shaped_tx_exception.result c.shaped_tx_exception.ensures

pub shaped_type_specifier_seq-shaped_type_specifier-requires : goal.shaped_type_specifier_seq-shaped_type_specifier-requires
shaped_type_specifier_seq-shaped_type_specifier-requires t c = (
  omega (arith, c.decreases),
  known_later c.args.self.now c.args.parameters.now.items c.args.at c.behind_cv_qualifiers-before.result
      (span_ahead c.behind_cv_qualifiers-before.ensures) c.requires.known,
)

pub shaped_type_specifier_seq-returns-in_default : goal.shaped_type_specifier_seq-returns-in_default
shaped_type_specifier_seq-returns-in_default t c = seq_missing c.behind_cv_qualifiers-before.ensures (rw c.in_default.is at c.in_ok-behind.ensures)

pub shaped_type_specifier_seq-returns : goal.shaped_type_specifier_seq-returns
shaped_type_specifier_seq-returns t c =
    seq_found c.behind_cv_qualifiers-before.ensures (rw c.in-Some.is at c.in_ok-behind.ensures) c.behind_cv_qualifiers.ensures
