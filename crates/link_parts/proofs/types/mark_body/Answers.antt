use Rattle.link_parts.proofs.MarkedTypes.{adds_more}
use Rattle.link_parts.proofs.types.mark_body.Goals as goal

pub returns : goal.returns
returns c = adds_more _ _ c.args.marks.now.items c.mark_code.new.marks.items c.mark_rows.new.marks.items (rw c.deref.ensures.value at c.mark_code.ensures)
    (rw c.deref-2.ensures.value at c.mark_rows.ensures)
