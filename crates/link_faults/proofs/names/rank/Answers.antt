use Rattle.link_faults.proofs.Ascending.{found, not_missed}
use Rattle.link_faults.proofs.names.rank.Goals as goal

pub returns-in-Ok : goal.returns-in-Ok
returns-in-Ok c = found c.args.all.now c.args.name.now.items c.in-Ok.i c.requires.ascend c.in-Ok.ensures.bound c.in-Ok.ensures.ok c.args.name.now

pub returns-in-Err : goal.returns-in-Err
returns-in-Err c = absurd
    (not_missed c.args.all.now c.args.name.now.items c.in-Err.i c.requires.ascend c.requires.listed c.in-Err.ensures.position c.args.name.now)
