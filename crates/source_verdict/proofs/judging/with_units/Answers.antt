use Rattle.source_verdict.proofs.Meant.{program_meant, fault_refused}
use Rattle.source_verdict.proofs.WellFormed.{well_formed}
use Rattle.source_verdict.proofs.judging.with_units.Goals as goal

pub checked-requires-clause-elaborated : goal.checked-requires-clause-elaborated
checked-requires-clause-elaborated c = program_meant c.wholes.ensures.one_whole _ c.args.units.now _ c.requires c.in-Ok.ensures.elaborates

pub checked-requires-clause-well_formed : goal.checked-requires-clause-well_formed
checked-requires-clause-well_formed c = well_formed c.programs.ensures.formed c.programs.ensures.sources c.forests.ensures _ c.in-Ok.program
    (program_meant c.wholes.ensures.one_whole _ c.args.units.now _ c.requires c.in-Ok.ensures.elaborates) c.in-Ok.ensures.forests c.in-Ok.ensures.in_order

pub returns-in_ok-refuse_fault-in-Err : goal.returns-in_ok-refuse_fault-in-Err
returns-in_ok-refuse_fault-in-Err c =
    fault_refused c.wholes.ensures.one_whole _ _ c.args.units.now c.in-Err.fault _ _ c.requires c.in-Err.ensures.elaborates c.in_ok-refuse_fault-in-Err.ensures
