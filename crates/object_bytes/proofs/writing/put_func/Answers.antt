use Rattle.object_bytes.proofs.Puts.{on_ok_to, eight}
use Rattle.object_bytes.proofs.writing.put_func.Goals as goal

pub returns : goal.returns
returns c =
    on_ok_to c.put_some-2.result _ _ _
    (eight _ _ _ _ _ _ _ _ _ _ _ _ _ _ _ _ c.in_ok-put_u32.ensures c.in_ok-put_u32-2.ensures c.in_ok-push.ensures.items c.in_ok-push-2.ensures.items
    c.in_ok-put_u32-3.ensures c.in_ok-put_u32-4.ensures c.in_ok-put_some.ensures)
    c.put_some-2.ensures
