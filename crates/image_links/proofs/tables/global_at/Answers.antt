use Rattle.std.proofs.Common.{sym, ap, ◌∙◌, ◌==◌}
use Rattle.src_bind.specs.Tables.{linked_of}
use Rattle.src_bind.specs.Bounds.{given}
use Rattle.image_links.proofs.Results.{first_on}
use Rattle.image_links.proofs.tables.global_at.Goals as goal

pub loop-n-preserved : goal.loop-n-preserved
loop-n-preserved c =
    first_on
    (λ n.
    (linked_of (given c.args.bound.now)).global c.args.unit n == c.args.address) c.loop-n.n c.args.globals.now c.index-globals-n.result c.loop-n-test.true
    (ap (λ z. (linked_of (given c.args.bound.now)).global c.args.unit z == c.args.address) (sym c.in_ok-place.ensures)
    ∙ (sym c.lies_at.ensures ∙ c.if-lies_at.false))
    ∙ c.loop-n.invariant
