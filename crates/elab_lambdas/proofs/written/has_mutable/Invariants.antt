use Rattle.std.proofs.Common.{◌≡◌, drop}
use Rattle.elab_entry.specs.elab_rules.Lambdas.{has_mutable}
use Rattle.elab_entry.specs.elab_types.Syntax.{syntax_of, trees_at}
use Rattle.elab_lambdas.proofs.written.has_mutable.Given as goal

abbrev pub invariant-loop-id : goal.invariant-loop-id
invariant-loop-id l = has_mutable (trees_at (syntax_of l.nodes) l.ids) ≡ has_mutable (trees_at (syntax_of l.nodes) (drop l.id-index l.ids))
