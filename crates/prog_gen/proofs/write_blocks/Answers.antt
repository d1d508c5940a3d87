use Rattle.std.specs.String.{string_bytes}
use Rattle.prog_gen.specs.Program.{block_line}
use Rattle.prog_gen.proofs.Lines.{lines_more}
use Rattle.prog_gen.proofs.write_blocks.Goals as goal

pub loop-i-preserved : goal.loop-i-preserved
loop-i-preserved c = lines_more block_line c.loop-i.i-counter (string_bytes c.args.text.now) (string_bytes c.loop-i.text)
    (string_bytes c.writeln.new.self) c.loop-i.invariant c.in_ok-writeln.ensures.bytes
