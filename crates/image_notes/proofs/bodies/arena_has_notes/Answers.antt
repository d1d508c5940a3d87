use Rattle.std.proofs.Common.{rules}
use Rattle.image_notes.proofs.Held.{noted, func_there}
use Rattle.image_notes.proofs.bodies.arena_has_notes.Goals as goal

pub returns : goal.returns
returns c told there = noted _ (func_there _ _ (search rules)) there (c.in_ok-found.ensures told)
