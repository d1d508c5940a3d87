use Rattle.std.proofs.Common.{sym, refl}
use Rattle.schedules.specs.Text.{runs_of}
use Rattle.schedules.proofs.Runs.{entries_runs, runs_lines}
use Rattle.schedules.proofs.laws.read_back.Goals as goal

pub returns : goal.returns
returns c xs small few = record { lines = runs_of xs; in_grammar = (runs_lines xs small few).lines; written = refl; entries_are = sym (entries_runs xs) }
