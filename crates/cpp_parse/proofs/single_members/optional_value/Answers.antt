use Rattle.std.proofs.Common.{refl}
use Rattle.cpp_syntax.proofs.Readers.{reads_taken, reads_left_out}
use Rattle.cpp_parse.proofs.single_members.optional_value.Goals as goal

pub returns-in_default : goal.returns-in_default
returns-in_default c =
    let x = rw c.in_default.is at c.in_ok-next.ensures in
    reads_left_out x.1 c.requires.here (c.cut.ensures _ _ c.checkpoint-mark.ensures (x.0).gained)

pub returns : goal.returns
returns c = reads_taken (rw c.in-Some.is at c.in_ok-next.ensures) refl
