use Rattle.std.proofs.Common.{◌∙◌}
use Rattle.tx_safety.proofs.Programs.{safe_at}
use Rattle.tx_safety.proofs.safe_program.SafeProgram.is_safe.Goals as goal

pub returns : goal.returns
returns c = c.may_call_at.ensures ∙ safe_at c.args.self.now.program c.args.self.now.marks.items c.args.unit c.args.func c.index.result.now c.deref.result.now
    c.args.self.now.known c.requires c.index.ensures c.deref.ensures.value
