use Rattle.std.proofs.Common.{◌∙◌, arith}
use Rattle.src_bind.specs.Bounds.{given}
use Rattle.src_bind.proofs.Looked.{pointed_nowhere, pointed_past, pointed_by, few_numbers}
use Rattle.src_bind.proofs.bound_program.Bound.pointed.Goals as goal

pub returns-in_err-number : goal.returns-in_err-number
returns-in_err-number c sig e = c.from_residual.ensures
    ∙ pointed_nowhere (given c.args.self.now) _ c.args.self.now.tables c.args.address sig c.in_err-number.ensures

pub returns-in_err-info : goal.returns-in_err-info
returns-in_err-info c sig e = c.from_residual-in_err-info.ensures
    ∙ pointed_past (given c.args.self.now) _ c.args.self.now.tables c.deref.result.now c.args.address c.in_ok-number.number sig c.deref.ensures.value
    c.in_ok-number.ensures c.in_err-info.ensures

pub overflow_cast-result : goal.overflow_cast-result
overflow_cast-result c = let p = few_numbers (given c.args.self.now) _ c.args.self.now.tables c.deref.result.now c.in_ok-number.number c.in_ok-info.info.now
    c.deref.ensures.value c.in_ok-info.ensures in omega (arith, p)

pub returns-then-is_of : goal.returns-then-is_of
returns-then-is_of c sig e = pointed_by (given c.args.self.now) _ c.args.self.now.tables c.deref.result.now c.args.address c.in_ok-number.number sig
    c.in_ok-info.info.now c.args.ty.now _ c.deref.ensures.value c.in_ok-number.ensures c.in_ok-info.ensures e c.if-is_of.ensures

pub returns-else-is_of : goal.returns-else-is_of
returns-else-is_of c sig e = pointed_by (given c.args.self.now) _ c.args.self.now.tables c.deref.result.now c.args.address c.in_ok-number.number sig
    c.in_ok-info.info.now c.args.ty.now _ c.deref.ensures.value c.in_ok-number.ensures c.in_ok-info.ensures e c.if-is_of.ensures
