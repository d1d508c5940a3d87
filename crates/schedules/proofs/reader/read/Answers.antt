use Rattle.schedules.specs.Text.{most_entries}
use Rattle.schedules.proofs.reader.read.Goals as goal

pub returns : goal.returns
unfolding most_entries
returns c = c.read_first.ensures
