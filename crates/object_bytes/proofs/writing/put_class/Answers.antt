use Rattle.object_bytes.proofs.Puts.{on_ok_to, eight}
use Rattle.object_bytes.proofs.writing.put_class.Goals as goal

pub returns : goal.returns
returns c = rw (← c.deref.ensures.value, ← c.deref-2.ensures.value)
    (on_ok_to c.put_slots.result _ _ _
    (eight _ _ _ _ _ _ _ _ _ _ _ _ _ _ _ _ c.in_ok-put_u32.ensures c.in_ok-put_u32-2.ensures c.in_ok-put_u32-3.ensures c.in_ok-put_u32-4.ensures
    c.in_ok-put_u32-5.ensures c.in_ok-put_u32-6.ensures c.in_ok-put_members.ensures)
    c.put_slots.ensures)
