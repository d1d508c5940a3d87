use Rattle.std.proofs.Common.{◌≡◌, drop}
use Rattle.elab_entry.specs.elab_rules.Members.{initialiser_in}
use Rattle.elab_entry.specs.elab_types.Syntax.{syntax_of, trees_at}
use Rattle.elab_members.proofs.syntax.initialiser_in.Given as goal

abbrev pub invariant-loop-id : goal.invariant-loop-id
invariant-loop-id l = initialiser_in (trees_at (syntax_of l.nodes) (drop l.id-index l.ids)) ≡ initialiser_in (trees_at (syntax_of l.nodes) l.ids)
