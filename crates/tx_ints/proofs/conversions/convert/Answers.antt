use Rattle.std.proofs.Common.{ap, sym, ◌∙◌}
use Rattle.std.proofs.lemmas.Int.{to_z-of_z}
use Rattle.std.specs.Int.{w128}
use Rattle.tx_ints.specs.Integers.{reduced}
use Rattle.tx_ints.proofs.ConversionLaws.{converts}
use Rattle.tx_ints.proofs.conversions.convert.Goals as goal

pub returns-in_default-clause-value : goal.returns-in_default-clause-value
returns-in_default-clause-value c =
    to_z-of_z w128 c.reduce.result (record { sfits = c.reduce.type_inv })
    ∙ c.reduce.ensures.value
    ∙ ap (reduced c.args.to) (to_z-of_z w128 c.args.v c.ranges.v)
    ∙ sym (converts c.args.to c.args.v c.in_default.not-Bool)
