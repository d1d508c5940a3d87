use Rattle.std.proofs.Common.{ap, sym, subst, ◌∙◌}
use Rattle.std.proofs.lemmas.Result.{IfOk-weaker}
use Rattle.cpp_tree.specs.declared.program.Program.{Program}
use Rattle.cpp_tree.specs.Units.{program_of}
use Rattle.cpp_tree.specs.WellFormed.{WellFormed}
use Rattle.tree_fold.specs.Programs.{folded_program}
use Rattle.tx_safety.specs.Answers.{checked_in}
use Rattle.tx_safety.specs.Safe.{IsSafe}
use Rattle.program_fold.proofs.Folds.{well_folded, safely_folded}
use Rattle.program_fold.proofs.folding.fold.Goals as goal

pub checked-requires : goal.checked-requires
checked-requires c = record {
  well_formed = well_folded c.into_program-program.result (checked_in c.args.safe) c.in_ok-folded.folded c.into_program-program.ensures.program
      c.requires.well_formed c.in_ok-folded.ensures.program c.programs.ensures c.requires.plain c.in_ok-folded.ensures.own;
  safe = safely_folded c.into_program-program.result (checked_in c.args.safe) c.in_ok-folded.folded c.into_program-program.ensures.program
      c.requires.well_formed c.in_ok-folded.ensures.program c.same_safety.ensures.program c.into_program-program.ensures.safe;
}

pub returns-clause-program : goal.returns-clause-program
returns-clause-program c = IfOk-weaker c.checked.result _ _ (λ r e. ap program_of e ∙ c.in_ok-folded.ensures.program
    ∙ ap (λ (z : Program). folded_program (program_of z)) c.into_program-program.ensures.program) c.checked.ensures

pub returns-clause-well_formed : goal.returns-clause-well_formed
returns-clause-well_formed c = IfOk-weaker c.checked.result _ _ (λ r e. subst (λ (z : Program). WellFormed z) (sym e)
    (well_folded c.into_program-program.result (checked_in c.args.safe) c.in_ok-folded.folded c.into_program-program.ensures.program c.requires.well_formed
    c.in_ok-folded.ensures.program c.programs.ensures c.requires.plain c.in_ok-folded.ensures.own)) c.checked.ensures

pub returns-clause-safe : goal.returns-clause-safe
returns-clause-safe c = IfOk-weaker c.checked.result _ _ (λ r e. subst (λ (z : Program). IsSafe (program_of z)) (sym e)
    (safely_folded c.into_program-program.result (checked_in c.args.safe) c.in_ok-folded.folded c.into_program-program.ensures.program c.requires.well_formed
    c.in_ok-folded.ensures.program c.same_safety.ensures.program c.into_program-program.ensures.safe)) c.checked.ensures
