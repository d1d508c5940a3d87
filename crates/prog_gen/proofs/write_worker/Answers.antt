use Rattle.std.proofs.Common.{codes}
use Rattle.std.specs.String.{string_bytes}
use Rattle.prog_gen.specs.Program.{lines, block_line}
use Rattle.prog_gen.proofs.Lines.{worker_pieces}
use Rattle.prog_gen.proofs.write_worker.Goals as goal

pub returns : goal.returns
returns c = worker_pieces (string_bytes c.args.text.now) (codes "void w(long) { for (int k = 0; k < 4; ++k) {\n") (lines block_line c.args.n)
    (codes "} }\n") _ _ _
    c.in_ok-push_str.ensures.bytes c.in_ok-write_blocks.ensures c.in_ok-push_str-2.ensures.bytes
