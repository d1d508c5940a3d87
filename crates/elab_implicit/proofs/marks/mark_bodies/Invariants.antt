use Rattle.std.proofs.Common.{◌≡◌, drop, map}
use Rattle.elab_entry.specs.elab_scopes.States.{body_of}
use Rattle.elab_implicit.specs.Marks.{body_marks}
use Rattle.elab_implicit.proofs.marks.mark_bodies.Given as goal

abbrev pub invariant-loop-body : goal.invariant-loop-body
invariant-loop-body l = body_marks (map body_of (drop l.body-index l.bodies)) l.marks.items ≡ body_marks (map body_of l.bodies) l.fn.marks.items
