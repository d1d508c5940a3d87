use Rattle.cpp_ast.proofs.NodeTrees.{extends_refl, extends_trans, shows_grow, adds_shows, cut_back, one_tree}
use Rattle.cpp_ast.proofs.laws.growth.Goals as goal

pub returns : goal.returns
returns c = record { same = extends_refl; further = extends_trans; kept = shows_grow; added = adds_shows; cut = cut_back; one = one_tree }
