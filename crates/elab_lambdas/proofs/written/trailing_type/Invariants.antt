use Rattle.std.proofs.Common.{◌≡◌, drop}
use Rattle.elab_entry.specs.elab_types.Syntax.{syntax_of, trees_at}
use Rattle.elab_lambdas.specs.Steps.{trailing}
use Rattle.elab_lambdas.proofs.written.trailing_type.Given as goal

abbrev pub invariant-loop-id : goal.invariant-loop-id
invariant-loop-id l = trailing (trees_at (syntax_of l.nodes) l.ids) ≡ trailing (trees_at (syntax_of l.nodes) (drop l.id-index l.ids))
