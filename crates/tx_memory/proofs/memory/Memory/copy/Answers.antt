use Rattle.std.proofs.Common.{ap, ◌∙◌}
use Rattle.tx_memory.specs.View.{layout_of, words_of}
use Rattle.tx_memory.specs.Words.{memory_in}
use Rattle.tx_memory.proofs.memory.Memory.copy.Goals as goal

pub returns-clause-words : goal.returns-clause-words
unfolding words_of
returns-clause-words c = ap (memory_in (layout_of c.args.self.now)) (c.in_ok-words.ensures.items ∙ c.as_slice.ensures.value)
