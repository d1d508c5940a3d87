use Rattle.elab_units.proofs.Joins.{body_placed, body_shown, body_forest}
use Rattle.elab_units.proofs.joining.put_body.Goals as goal

pub returns-clause-placed : goal.returns-clause-placed
returns-clause-placed c = body_placed c.args.nodes.now.items c.copy_tree.new.nodes.items c.deref.result.now c.args.body c.args.placed.now.items
    c.push.new.self.items c.in_ok-tree.tree c.in_ok-push.ensures.items c.deref.ensures.value c.requires c.in_ok-tree.ensures

pub returns-clause-bodies : goal.returns-clause-bodies
returns-clause-bodies c = body_shown c.args.nodes.now.items c.copy_tree.new.nodes.items c.deref.result.now c.args.body c.args.placed.now.items
    c.push.new.self.items c.in_ok-tree.tree c.in_ok-push.ensures.items c.deref.ensures.value c.requires c.in_ok-tree.ensures

pub returns-clause-forest : goal.returns-clause-forest
returns-clause-forest c own = body_forest c.args.nodes.now.items c.copy_tree.new.nodes.items c.deref.result.now c.args.body c.args.placed.now.items
    c.push.new.self.items c.in_ok-tree.tree c.in_ok-push.ensures.items c.deref.ensures.value c.requires c.in_ok-tree.ensures own
