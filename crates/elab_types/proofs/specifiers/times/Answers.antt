use Rattle.std.proofs.Common.{sym, ◌∙◌}
use Rattle.elab_conv.specs.cpp_lex.Tokens.{lexemes_of}
use Rattle.elab_conv.specs.elab_ctx.Steps.{spelling}
use Rattle.elab_types.proofs.Counting.{times_map}
use Rattle.elab_types.proofs.specifiers.times.Goals as goal

pub returns : goal.returns
returns c = c.in-Ok.ensures.1 ∙ c.occurrences.ensures ∙ sym (times_map (spelling (lexemes_of c.args.tokens.now)) c.args.word.now c.args.words.now)
