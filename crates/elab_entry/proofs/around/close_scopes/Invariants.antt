use Rattle.std.proofs.Common.{◌≡◌, length}
use Rattle.elab_entry.specs.Round.{scopes_by}
use Rattle.elab_entry.proofs.around.close_scopes.Given as goal

abbrev pub decreases-loop-scopes : goal.decreases-loop-scopes
decreases-loop-scopes l = length l.scopes

abbrev pub invariant-loop-scopes : goal.invariant-loop-scopes
invariant-loop-scopes l = scopes_by l.count l.scopes ≡ scopes_by l.count l.fn.scopes
