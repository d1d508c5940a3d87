use Rattle.std.proofs.Common.{sym, arith}
use Rattle.tx_code.specs.Program.{names_of}
use Rattle.tx_code.specs.Views.{image_view}
use Rattle.vm_frames.specs.FrameStacks.{top_of, rest_of}
use Rattle.vm_thread.proofs.Calls.{indirect_short, indirect_bad, indirect_unsafe, indirect_in}
use Rattle.vm_thread.proofs.deciding.call_indirect.Goals as goal

pub returns-in_default : goal.returns-in_default
returns-in_default c = indirect_short (names_of (image_view c.args.image.now)) c.args.ty c.args.safe (top_of c.args.frames.now)
    (rest_of c.args.frames.now) c.args.words (omega (arith, c.in_default.ensures))

pub returns-in_default-called : goal.returns-in_default-called
returns-in_default-called c =
    let d = rw c.from.ensures at c.in-Some.ensures.0 in
    rw c.traps.ensures (indirect_bad (names_of (image_view c.args.image.now)) c.args.ty c.args.safe (top_of c.args.frames.now)
    (rest_of c.args.frames.now) c.args.words c.in-Some.address (omega (arith, c.in-Some.ensures.1)) d (sym c.in_default-called.ensures))

pub returns-then-is_unsafe : goal.returns-then-is_unsafe
returns-then-is_unsafe c =
    let d = rw c.from.ensures at c.in-Some.ensures.0 in
    rw c.traps-then-is_unsafe.ensures (indirect_unsafe (names_of (image_view c.args.image.now)) c.args.ty c.args.safe (top_of c.args.frames.now)
    (rest_of c.args.frames.now) c.args.words c.in-Some.address c.in-Some-called.func (omega (arith, c.in-Some.ensures.1)) d
    (sym c.in-Some-called.ensures) c.requires.mode (sym c.if-is_unsafe.ensures))

pub returns : goal.returns
returns c =
    let d = rw c.from.ensures at c.in-Some.ensures.0 in
    indirect_in (names_of (image_view c.args.image.now)) c.args.ty c.args.safe (top_of c.args.frames.now)
    (rest_of c.args.frames.now) c.args.words c.in-Some.address c.in-Some-called.func _ (omega (arith, c.in-Some.ensures.1)) d
    (sym c.in-Some-called.ensures) c.requires.mode (sym c.if-is_unsafe.ensures) c.enter_indirect.ensures
