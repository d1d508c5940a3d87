use Rattle.std.proofs.Common.{◌++◌, ◌∙◌, ap}
use Rattle.std.specs.String.{string_bytes}
use Rattle.prog_gen.specs.Program.{counters, lines, function_line, worker, printer, main_lines, program}
use Rattle.prog_gen.proofs.Lines.{program_pieces}
use Rattle.prog_gen.proofs.program.Goals as goal

pub returns : goal.returns
unfolding program
returns c = ap (λ v. v.items) c.into_bytes.ensures.value
    ∙ program_pieces (string_bytes c.new-text.result) (counters c.args.n) (lines (function_line c.args.n) c.args.n) (worker c.args.n)
    (printer ++ main_lines c.args.n) _ _ _ _
    c.new-text.ensures.bytes c.in_ok-writeln.ensures.bytes c.in_ok-write_functions.ensures c.in_ok-write_worker.ensures c.in_ok-write_main.ensures
