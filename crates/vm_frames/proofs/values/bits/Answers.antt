use Rattle.std.proofs.Common.{arith}
use Rattle.vm_frames.proofs.Numbers.{one_byte, two_bytes, four_bytes, eight_bytes}
use Rattle.vm_frames.proofs.values.bits.Goals as goal

pub returns-in-Char : goal.returns-in-Char
returns-in-Char c = one_byte c.args.word c.args.kind c.in-Char.is

pub returns-in-Short : goal.returns-in-Short
returns-in-Short c = two_bytes c.args.word c.args.kind c.in-Short.is

pub returns-in-Int : goal.returns-in-Int
returns-in-Int c = four_bytes c.args.word c.args.kind c.in-Int.is

pub returns-in-Long : goal.returns-in-Long
returns-in-Long c = eight_bytes c.args.word c.args.kind (omega arith) c.in-Long.is
