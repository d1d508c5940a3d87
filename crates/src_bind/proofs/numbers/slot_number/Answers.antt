use Rattle.src_bind.proofs.Named.{symbol_there, symbol_not_there}
use Rattle.src_bind.proofs.numbers.slot_number.Goals as goal

pub returns-then-number-kept : goal.returns-then-number-kept
returns-then-number-kept c = symbol_there c.args.symbol.now c.in-Some.name c.deref.result.now c.args.kept.now c.in_ok-number.number c.in-Some.is
    c.deref.ensures.value c.in_ok-number.ensures c.if-number-kept.true

pub returns-else-number-kept : goal.returns-else-number-kept
returns-else-number-kept c = symbol_not_there c.args.symbol.now c.in-Some.name c.deref.result.now c.args.kept.now c.in_ok-number.number c.in-Some.is
    c.deref.ensures.value c.in_ok-number.ensures c.if-number-kept.false
