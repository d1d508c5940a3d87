use Rattle.cpp_tree.proofs.Shown.{no_nodes, ordered_more, no_kids, forest_more}
use Rattle.cpp_tree.proofs.laws.nodes.Goals as goal

pub returns : goal.returns
returns c = record { none = no_nodes; ordered = ordered_more; no_kids = no_kids; forest = forest_more }
