use Rattle.std.proofs.Common.{ap, ◌∙◌}
use Rattle.elab_stmt.specs.cpp_tree.Arena.{trees_of}
use Rattle.elab_entry.proofs.around.exchanged.Goals as goal

pub returns-clause-nodes : goal.returns-clause-nodes
unfolding trees_of
returns-clause-nodes c = ap trees_of (ap (λ z. z.items) c.replace-9.ensures.after ∙ c.new-2.ensures.items)
