use Rattle.text_commands.proofs.Decisions.{disassembles, disassembles_none}
use Rattle.text_commands.proofs.disassembling.decided.Goals as goal

pub returns-in-Ok : goal.returns-in-Ok
returns-in-Ok c = disassembles c.args.file.now c.args.bytes.now _ c.printed.result c.in-Ok.ensures.object c.printed.ensures.answer c.printed.ensures.writes

pub returns-in-Err-BadObject : goal.returns-in-Err-BadObject
returns-in-Err-BadObject c =
    let fault = rw c.in-Err-BadObject.field-0-is at c.in-Err-BadObject.ensures.fault in
    disassembles_none c.args.file.now c.args.bytes.now c.in-Err-BadObject.at c.bad_object.result fault.1 fault.0 c.bad_object.ensures
