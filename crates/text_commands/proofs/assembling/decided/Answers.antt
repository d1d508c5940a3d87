use Rattle.text_commands.proofs.Decisions.{assembles, assembles_none}
use Rattle.text_commands.proofs.assembling.decided.Goals as goal

pub returns-in-Ok : goal.returns-in-Ok
returns-in-Ok c =
    assembles c.args.file.now c.args.to.now c.args.text.now _ c.written.result c.in-Ok.ensures.object c.written.ensures.answer c.written.ensures.writes

pub returns-in-Err-BadAsm : goal.returns-in-Err-BadAsm
returns-in-Err-BadAsm c =
    assembles_none c.args.file.now c.args.to.now c.args.text.now c.in-Err-BadAsm.line c.bad_asm.result
    (rw c.in-Err-BadAsm.field-0-is at c.in-Err-BadAsm.ensures.only) (rw c.in-Err-BadAsm.field-0-is at c.in-Err-BadAsm.ensures.fault)
    c.bad_asm.ensures
