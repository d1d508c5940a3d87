use Rattle.std.proofs.Common.{◌≡◌, drop}
use Rattle.body_check.specs.Cases.{is_known}
use Rattle.symbolic_leaving.specs.Answers.{texts_of}
use Rattle.note_landing.proofs.cases.is_known.Given as goal

abbrev pub invariant-loop-other : goal.invariant-loop-other
invariant-loop-other l = is_known (texts_of (drop l.other-index l.known)) l.text ≡ is_known (texts_of l.known) l.text
