use Rattle.std.proofs.Common.{ap, sym, ◌∙◌}
use Rattle.own_table.specs.Bits.{has_bit}
use Rattle.own_table.specs.Records.{is_writer}
use Rattle.own_table.proofs.ThreadSets.{has_bit_alone}
use Rattle.own_table.proofs.hold.HoldRec.writer_set.Goals as goal

pub returns-in-Some : goal.returns-in-Some
returns-in-Some c = λ u. ap (λ n. has_bit n u) c.bit_of.ensures ∙ (has_bit_alone c.in-Some.t u ∙ sym (ap (λ o. is_writer o u) c.in-Some.is))
