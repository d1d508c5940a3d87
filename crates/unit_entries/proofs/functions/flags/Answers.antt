use Rattle.std.proofs.Common.{◌∙◌, ap}
use Rattle.tx_code.specs.WellFormed.{bit}
use Rattle.unit_entries.proofs.Bits.{packed_is, bit_0, bit_1, bit_2, bit_3}
use Rattle.unit_entries.proofs.functions.flags.Goals as goal

pub returns-clause-defined : goal.returns-clause-defined
returns-clause-defined c = ap (bit 0) (packed_is c.args.defined c.args.safe c.args.wanted c.args.no_except c.flag.result c.flag-2.result c.flag-3.result
    c.flag-4.result c.flag.ensures.value c.flag-2.ensures.value c.flag-3.ensures.value c.flag-4.ensures.value)
    ∙ bit_0 c.args.defined c.args.safe c.args.wanted c.args.no_except

pub returns-clause-safe : goal.returns-clause-safe
returns-clause-safe c = ap (bit 1) (packed_is c.args.defined c.args.safe c.args.wanted c.args.no_except c.flag.result c.flag-2.result c.flag-3.result
    c.flag-4.result c.flag.ensures.value c.flag-2.ensures.value c.flag-3.ensures.value c.flag-4.ensures.value)
    ∙ bit_1 c.args.defined c.args.safe c.args.wanted c.args.no_except

pub returns-clause-wanted : goal.returns-clause-wanted
returns-clause-wanted c = ap (bit 2) (packed_is c.args.defined c.args.safe c.args.wanted c.args.no_except c.flag.result c.flag-2.result c.flag-3.result
    c.flag-4.result c.flag.ensures.value c.flag-2.ensures.value c.flag-3.ensures.value c.flag-4.ensures.value)
    ∙ bit_2 c.args.defined c.args.safe c.args.wanted c.args.no_except

pub returns-clause-no_except : goal.returns-clause-no_except
returns-clause-no_except c = ap (bit 3) (packed_is c.args.defined c.args.safe c.args.wanted c.args.no_except c.flag.result c.flag-2.result c.flag-3.result
    c.flag-4.result c.flag.ensures.value c.flag-2.ensures.value c.flag-3.ensures.value c.flag-4.ensures.value)
    ∙ bit_3 c.args.defined c.args.safe c.args.wanted c.args.no_except
