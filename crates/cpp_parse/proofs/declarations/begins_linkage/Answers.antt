use Rattle.std.proofs.Common.{refl}
use Rattle.cpp_syntax.specs.declared.terminal.Terminal.TheVariants as terminal
use Rattle.cpp_syntax.specs.Terminals.{extern_word}
use Rattle.cpp_syntax.proofs.SingleTerminals.{passed, refused}
use Rattle.cpp_syntax.proofs.LongestMatches.{word_none, seq_none}
use Rattle.cpp_parse.proofs.DefinitionKinds.{linkage_seen}
use Rattle.cpp_parse.proofs.declarations.begins_linkage.Goals as goal

pub returns-then-not-is_at : goal.returns-then-not-is_at
returns-then-not-is_at c = seq_none (word_none (refused extern_word terminal.Extern refl _ (c.if-not-is_at.ensures.no refl)))

pub returns : goal.returns
returns c =
    linkage_seen c.args.text.now c.args.at c.is_at-2.result (passed extern_word terminal.Extern refl _ (c.if-not-is_at.ensures.yes refl))
    c.is_at-2.ensures.yes c.is_at-2.ensures.no
