use Rattle.std.proofs.Common.{sym, arith}
use Rattle.tx_code.specs.Program.{names_of}
use Rattle.tx_code.specs.Views.{image_view}
use Rattle.vm_frames.specs.FrameStacks.{top_of, rest_of}
use Rattle.vm_thread.proofs.Calls.{call_short, call_lost, call_over, call_in}
use Rattle.vm_thread.proofs.deciding.call.Goals as goal

pub returns-then-count-from : goal.returns-then-count-from
returns-then-count-from c = call_short (names_of (image_view c.args.image.now)) c.args.func c.args.safe (top_of c.args.frames.now)
    (rest_of c.args.frames.now) c.args.words (omega arith)

pub returns-in-None : goal.returns-in-None
returns-in-None c = rw c.traps.ensures (call_over (names_of (image_view c.args.image.now)) c.args.func c.args.safe (top_of c.args.frames.now)
    (rest_of c.args.frames.now) c.args.words (omega arith) (sym c.if-not-has_body.ensures) c.in-None.ensures)

pub returns-in-Some : goal.returns-in-Some
returns-in-Some c = call_in (names_of (image_view c.args.image.now)) c.args.func c.args.safe (top_of c.args.frames.now)
    (rest_of c.args.frames.now) c.args.words c.in-Some.address (omega arith) (omega arith)
    (sym c.if-not-has_body.ensures) c.in-Some.ensures.1 c.in-Some.ensures.0

pub returns-then-not-has_body : goal.returns-then-not-has_body
returns-then-not-has_body c = call_lost (names_of (image_view c.args.image.now)) c.args.func c.args.safe (top_of c.args.frames.now)
    (rest_of c.args.frames.now) c.args.words (omega arith) (sym c.if-not-has_body.ensures)
