use Rattle.lowered_frames.proofs.Items.{runs_so, labelled_so}
use Rattle.lowered_frames.proofs.laws.items_are_put_down.Goals as goal

pub returns-clause-nodes : goal.returns-clause-nodes
returns-clause-nodes c = λ way ids items. runs_so way ids items

pub returns-clause-labels : goal.returns-clause-labels
returns-clause-labels c = λ g otherwise ids labels items. labelled_so g otherwise ids labels items
