use Rattle.std.proofs.Common.{refl, ap, ◌∙◌}
use Rattle.cpp_syntax.specs.Terminals.{is_literal}
use Rattle.cpp_parse_expr.specs.Suffixes.{literal_kind}
use Rattle.cpp_syntax.proofs.ReaderLoops.{within}
use Rattle.cpp_parse_expr.proofs.PostfixReaders.{literal_read}
use Rattle.cpp_parse_expr.proofs.expressions.literal.Goals as goal

pub returns : goal.returns
returns c =
    literal_read c.args.text.now c.args.at c.literal_kind.result _ _ c.leaf.result c.requires.begins
    (within c.args.text.now _ is_literal refl c.requires.begins) (c.literal_kind.ensures ∙ ap literal_kind c.terminal.ensures.terminal) c.leaf.ensures
