use Rattle.std.proofs.Common.{◌==◌, ◌∙◌, refl}
use Rattle.std.proofs.lemmas.Bool.{eq-eqb, or_right}
use Rattle.own_table.specs.Bits.{has_bit}
use Rattle.own_table.proofs.ThreadSets.{not_zero_from_bit}
use Rattle.own_table.proofs.hold.HoldRec.with_hold.Goals as goal

pub returns-clause-held : goal.returns-clause-held
returns-clause-held c =
    not_zero_from_bit c.with.result c.args.t (c.with.ensures c.args.t ∙ or_right (has_bit c.args.self.readers c.args.t) (c.args.t == c.args.t)
    (eq-eqb c.args.t c.args.t refl))
