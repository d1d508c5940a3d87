use Rattle.std.proofs.Common.{rules, arith}
use Rattle.std.proofs.lemmas.List.{length-map}
use Rattle.cpp_tree.specs.cpp_types.Class.{class_of}
use Rattle.note_landing.specs.Cases.{NeededBy}
use Rattle.note_landing.specs.Shown.{place_by, outcome_by}
use Rattle.note_landing.proofs.Splits.{cases_as, all_spellings}
use Rattle.note_landing.proofs.cases.cases_fit.Goals as goal

pub returns-clause-is : goal.returns-clause-is
returns-clause-is c m a =
    let spelled = c.in_ok-case_fits.ensures.grows _ m a in
    let rows = rw c.deref.ensures.value at (c.are_spelled.ensures (search rules)) in
    let there = rw c.program.ensures at c.len.ensures in
    let many = length-map c.args.body.now.source.bound.now.program.now.classes.items class_of in
    cases_as c.args.body.now m c.args.notes.now _ _ _ _ (omega (arith, there, many)) rows (c.in_ok-classes_fit.ensures.is m (c.in_ok-spellings_fit.ensures.grows _ m spelled)) (all_spellings (NeededBy c.args.body.now m c.args.notes.now c.args.unknown (place_by c.args.body.now m c.args.place) (outcome_by c.args.body.now m c.args.outcome)) c.args.body.now.spellings.now _ (search rules) (c.in_ok-spellings_fit.ensures.is m spelled)) (c.in_ok-case_fits.ensures.is m a)
