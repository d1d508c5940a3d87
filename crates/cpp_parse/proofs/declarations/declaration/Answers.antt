use Rattle.std.proofs.Common.{None, refl, sym as back}
use Rattle.cpp_syntax.specs.declared.terminal.Terminal.TheVariants as terminal
use Rattle.cpp_syntax.specs.Terminals.{is_class_key, using_word, enum_word, extern_word, semicolon}
use Rattle.cpp_syntax.specs.Rules.{declaration}
use Rattle.cpp_syntax.proofs.SingleTerminals.{passed, refused}
use Rattle.cpp_syntax.proofs.LongestMatches.{word_none, mark_none, seq_none, node_none, neither}
use Rattle.cpp_syntax.proofs.Readers.{leaves_same, reads_form, reads_right}
use Rattle.cpp_parse_expr.proofs.ReaderAnswers.{parsed_err, leaf_there, none_unlike, parsed_left, parsed_right, parsed_form}
use Rattle.cpp_parse_expr.proofs.PostfixReaders.{parsed_instead, with_none_before, with_none_behind, with_same_before}
use Rattle.cpp_parse.proofs.DefinitionKinds.{no_simple, no_linkage}
use Rattle.cpp_parse.proofs.declarations.declaration.Goals as goal

pub returns-then-is_at : goal.returns-then-is_at
returns-then-is_at c =
    let t = passed using_word terminal.Using refl _ (c.if-is_at.ensures.yes refl) in
    parsed_form _ declaration _ None _ _ c.alias_declaration.result (parsed_left _ _ _ _ _ _ _ c.alias_declaration.result
    (none_unlike using_word t refl refl) c.alias_declaration.ensures)

pub returns-then-is_class_key_at : goal.returns-then-is_class_key_at
returns-then-is_class_key_at c =
    let t = back c.if-is_class_key_at.ensures.test in
    parsed_form _ declaration _ None _ _ c.class_or_specifier.result (parsed_instead _ _ _ _ _ _ _ c.class_or_specifier.result
    (with_none_before (none_unlike is_class_key t refl refl) (with_same_before (with_none_behind (none_unlike is_class_key t refl refl)))) refl
    c.class_or_specifier.ensures)

pub returns-then-is_at-2 : goal.returns-then-is_at-2
returns-then-is_at-2 c =
    let t = passed enum_word terminal.Enum refl _ (c.if-is_at-2.ensures.yes refl) in
    parsed_form _ declaration _ None _ _ c.enum_specifier.result (parsed_right _ _ _ _ _ _ _ c.enum_specifier.result
    (none_unlike enum_word t refl refl) (parsed_right _ _ _ _ _ _ _ c.enum_specifier.result (none_unlike enum_word t refl refl)
    (parsed_right _ _ _ _ _ _ _ c.enum_specifier.result (none_unlike enum_word t refl refl)
    (parsed_left _ _ _ _ _ _ _ c.enum_specifier.result (none_unlike enum_word t refl refl) c.enum_specifier.ensures))))

pub returns-in_err-leaf : goal.returns-in_err-leaf
returns-in_err-leaf c = parsed_err _ _ _ _ c.from_residual.result c.from_residual.ensures.0 (leaves_same c.in_err-leaf.ensures)

pub returns-then-is_at-3 : goal.returns-then-is_at-3
returns-then-is_at-3 c =
    let t = passed semicolon terminal.Semicolon refl _ (c.if-is_at-3.ensures.yes refl) in
    reads_form (reads_right (none_unlike semicolon t refl refl) (reads_right (none_unlike semicolon t refl refl)
    (reads_right (none_unlike semicolon t refl refl) (reads_right (none_unlike semicolon t refl refl)
    (reads_right (none_unlike semicolon t refl refl) (reads_right (none_unlike semicolon t refl refl)
    (reads_right (none_unlike semicolon t refl refl) (leaf_there t (c.if-is_at-3.ensures.inside refl refl) c.in_ok-leaf.ensures))))))))

pub returns-then-begins_linkage : goal.returns-then-begins_linkage
returns-then-begins_linkage c =
    let h = c.if-begins_linkage.ensures in
    let t = h.0 in
    parsed_form _ declaration _ None _ _ c.linkage.result (parsed_instead _ _ _ _ _ _ _ c.linkage.result
    (with_none_before (none_unlike extern_word t refl refl) (with_none_before (none_unlike extern_word t refl refl)
    (with_none_before (none_unlike extern_word t refl refl) (with_none_before (none_unlike extern_word t refl refl)
    (with_same_before (with_none_behind (neither (no_simple _ _ t h.1) (none_unlike extern_word t refl refl)))))))) refl c.linkage.ensures)

pub returns : goal.returns
returns c =
    let n = c.if-begins_linkage.ensures in
    parsed_form _ declaration _ None _ _ c.simple_declaration.result (parsed_right _ _ _ _ _ _ _ c.simple_declaration.result
    (node_none (seq_none (word_none (refused using_word terminal.Using refl _ (c.if-is_at.ensures.no refl)))))
    (parsed_right _ _ _ _ _ _ _ c.simple_declaration.result (node_none (seq_none (node_none
    (mark_none (back c.if-is_class_key_at.ensures.test))))) (parsed_right _ _ _ _ _ _ _ c.simple_declaration.result
    (node_none (seq_none (node_none (mark_none (back c.if-is_class_key_at.ensures.test)))))
    (parsed_right _ _ _ _ _ _ _ c.simple_declaration.result (node_none (seq_none (word_none
    (refused enum_word terminal.Enum refl _ (c.if-is_at-2.ensures.no refl))))) (parsed_right _ _ _ _ _ _ _ c.simple_declaration.result
    (node_none (no_linkage n)) (parsed_right _ _ _ _ _ _ _ c.simple_declaration.result (node_none (no_linkage n))
    (parsed_left _ _ _ _ _ _ _ c.simple_declaration.result (node_none (mark_none (refused semicolon terminal.Semicolon refl _
    (c.if-is_at-3.ensures.no refl)))) c.simple_declaration.ensures)))))))
