use Rattle.std.proofs.Common.{sym}
use Rattle.assembly_text.specs.Front.{no_byte}
use Rattle.assembly_text.proofs.NameLaws.{bytes_append, byte_shorter}
use Rattle.assembly_text.proofs.names.bytes_at.Goals as goal

pub bytes-init : goal.bytes-init
bytes-init c = rw c.new-name.ensures.items no_byte

pub bytes-preserved : goal.bytes-preserved
bytes-preserved c = rw c.in_ok-push.ensures.items (bytes_append c.in-Some.byte c.in-Some.after.now c.bytes.invariant (sym c.in-Some.ensures))

pub bytes-smaller : goal.bytes-smaller
bytes-smaller c = byte_shorter _ c.in-Some.byte _ (sym c.in-Some.ensures)
