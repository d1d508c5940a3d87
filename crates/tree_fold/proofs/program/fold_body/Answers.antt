use Rattle.cpp_tree.specs.Arena.{trees_of}
use Rattle.tree_forests.proofs.Behind.{forest_none}
use Rattle.tree_fold.proofs.ProgramParts.{body_added_at, no_body_at}
use Rattle.tree_fold.proofs.program.fold_body.Goals as goal

pub returns-in_ok-id-in-Some-clause-body : goal.returns-in_ok-id-in-Some-clause-body
returns-in_ok-id-in-Some-clause-body c =
    λ v s. body_added_at v (trees_of c.args.from.now) _ _ c.args.body _ _ c.in-Some.is (c.in_ok-id-in-Some.ensures.tree v s)

pub returns-in-None-clause-body : goal.returns-in-None-clause-body
returns-in-None-clause-body c = λ v s. no_body_at v (trees_of c.args.from.now) _ c.args.body c.in-None.is

pub returns-in-None-clause-own : goal.returns-in-None-clause-own
returns-in-None-clause-own c = forest_none c.args.nodes.now.items
