use Rattle.std.proofs.Common.{◌≤◌, ◌*◌, length, arith}
use Rattle.link_faults.proofs.PlacedSizes.{few_globals}
use Rattle.link_faults.proofs.size.size_in_object.Goals as goal

pub returns-clause-bound : goal.returns-clause-bound
returns-clause-bound c =
    let few = few_globals c.args.object.now c.requires in
    let bound : c.size_of_all.result ≤ length c.args.object.now.globals.items * 4294967296 = rw c.deref.ensures.value at c.size_of_all.ensures.bound in
    omega (arith, few, bound)
