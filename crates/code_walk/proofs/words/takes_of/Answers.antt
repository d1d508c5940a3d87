use Rattle.std.proofs.Common.{ap, ◌∙◌}
use Rattle.std.specs.Option.{option_map_or}
use Rattle.tx_code.specs.Signatures.{takes_of, words_taken, function_ending, ending}
use Rattle.code_walk.proofs.words.takes_of.Goals as goal

pub returns : goal.returns
unfolding takes_of
returns c = c.words_in.ensures.takes ∙ ap (λ z. option_map_or words_taken (function_ending (ending z)) 0) c.without_safety.ensures
