use Rattle.elab_units.specs.Joined.{placed_in}
use Rattle.elab_units.proofs.Bodied.{body_kept, body_new}
use Rattle.std.proofs.Common.{refl}
use Rattle.tree_forests.proofs.Forests.{keeps_body, gets_body}
use Rattle.elab_units.proofs.shown.put_body.Goals as goal

pub returns-in-Some-clause-shown : goal.returns-in-Some-clause-shown
returns-in-Some-clause-shown c trees = body_kept trees c.args.func.now _ (placed_in trees c.args.body) c.in-Some.is

pub returns-in-None-clause-shown : goal.returns-in-None-clause-shown
returns-in-None-clause-shown c trees = body_new trees c.args.func.now (placed_in trees c.args.body) c.in-None.is

pub returns-in-Some-clause-root : goal.returns-in-Some-clause-root
returns-in-Some-clause-root c = keeps_body c.args.func.now c.args.body.tree

pub returns-in-None-clause-root : goal.returns-in-None-clause-root
returns-in-None-clause-root c = gets_body c.args.func.now _ c.args.body.tree refl
