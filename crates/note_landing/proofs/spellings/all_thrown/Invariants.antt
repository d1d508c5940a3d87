use Rattle.std.proofs.Common.{ℕ, ◌≡◌, ◌<◌, Some}
use Rattle.std.specs.Prelude.{slice_get}
use Rattle.symbolic_terms.specs.declared.terms.Exception.{Exception}
use Rattle.body_check.specs.Notes.{IsThrown}
use Rattle.note_landing.specs.Shown.{exception_by, thrown_by}
use Rattle.note_landing.proofs.spellings.all_thrown.Given as goal

abbrev pub invariant-loop-exception : goal.invariant-loop-exception
invariant-loop-exception l = (n : ℕ) (e : Exception) → n < l.exception-index → slice_get l.exceptions n ≡ Some e → IsThrown (thrown_by l.body) (exception_by l.body e)
