use Rattle.std.proofs.Common.{arith, map, length, ◌<◌}
use Rattle.std.proofs.lemmas.List.{length-map}
use Rattle.tx_code.specs.Objects.{bytes_of}
use Rattle.link_faults.proofs.NameRanks.{name_at, listed_name}
use Rattle.link_faults.proofs.entries.name_rank.Goals as goal

pub rank-requires-clause-listed : goal.rank-requires-clause-listed
rank-requires-clause-listed c =
    let long = length-map c.args.object.now.names.items bytes_of in
    let within : c.args.name < length (map bytes_of c.args.object.now.names.items) = omega (arith, c.requires.named) in
    rw (← name_at c.args.object.now.names.items c.args.name c.index.result.now c.requires.named c.index.ensures)
    (listed_name (map bytes_of c.args.all.now) (map bytes_of c.args.object.now.names.items) c.args.name c.requires.known.listed within)

pub returns : goal.returns
returns c = rw (name_at c.args.object.now.names.items c.args.name c.index.result.now c.requires.named c.index.ensures) c.rank.ensures
