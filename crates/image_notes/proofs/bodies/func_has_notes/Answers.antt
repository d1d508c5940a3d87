use Rattle.std.proofs.Common.{rules}
use Rattle.tx_code.specs.Views.{image_view}
use Rattle.src_bind.specs.Bounds.{given}
use Rattle.image_notes.proofs.Held.{both_there, plain_alone}
use Rattle.image_notes.proofs.bodies.func_has_notes.Goals as goal

pub returns-in_ok-found-in-Some : goal.returns-in_ok-found-in-Some
returns-in_ok-found-in-Some c told = both_there (image_view c.args.image.now) (given c.args.bound.now) c.args.number c.args.func.now (c.in_ok-body_has_notes.ensures (search rules)) _ c.in-Some.is (c.in_ok-found-in-Some.ensures told)

pub returns-in-None : goal.returns-in-None
returns-in-None c told = plain_alone (image_view c.args.image.now) (given c.args.bound.now) c.args.number c.args.func.now (c.in_ok-body_has_notes.ensures (search rules)) c.in-None.is
