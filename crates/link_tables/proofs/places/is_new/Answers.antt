use Rattle.link_tables.proofs.FirstNumbers.{seen_mark}
use Rattle.link_tables.proofs.places.is_new.Goals as goal

pub returns-clause-noted : goal.returns-clause-noted
returns-clause-noted c = λ earlier h _. seen_mark earlier c.args.seen.now.items c.args.symbol c.if-symbol.false c.requires h
