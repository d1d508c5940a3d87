use Rattle.std.proofs.Common.{map}
use Rattle.tx_code.specs.Objects.{bytes_of}
use Rattle.link_faults.specs.Ranks.{is_listed}
use Rattle.link_faults.proofs.NameRanks.{passes_at}
use Rattle.link_tables.proofs.homes.add_ranks.Goals as goal

pub rank-requires-clause-listed : goal.rank-requires-clause-listed
rank-requires-clause-listed c = passes_at
    (is_listed (map bytes_of c.args.all.now)) bytes_of c.deref-name-items.result.now c.loop-name.name-index c.name-item.result
    (rw c.deref-name-items.ensures.value c.requires.known.listed) c.loop-name-test.true c.name-item.is
