use Rattle.std.proofs.Common.{ap, ◌∙◌}
use Rattle.std.specs.Option.{option_map_or}
use Rattle.tx_code.specs.Signatures.{gives_of, words_returned, function_ending, ending}
use Rattle.code_walk.proofs.words.gives_of.Goals as goal

pub returns : goal.returns
unfolding gives_of
returns c = c.words_in.ensures.gives ∙ ap (λ z. option_map_or words_returned (function_ending (ending z)) 0) c.without_safety.ensures
