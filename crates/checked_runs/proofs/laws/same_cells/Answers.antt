use Rattle.checked_runs.proofs.ImageCode.{same_cells}
use Rattle.checked_runs.proofs.laws.same_cells.Goals as goal

pub returns : goal.returns
returns c = same_cells
