use Rattle.link_parts.proofs.MarkedTypes.{adds_more}
use Rattle.link_parts.proofs.types.mark_func.Goals as goal

pub returns : goal.returns
returns c =
    adds_more _ _ c.args.marks.now.items c.mark_some_body.new.marks.items c.mark_some_body-2.new.marks.items c.mark_some_body.ensures c.mark_some_body-2.ensures
