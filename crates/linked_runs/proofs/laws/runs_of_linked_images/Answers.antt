use Rattle.linked_runs.proofs.Results.{runs_as_source}
use Rattle.linked_runs.proofs.laws.runs_of_linked_images.Goals as goal

pub returns-clause-given : goal.returns-clause-given
returns-clause-given c = λ g i b book is. runs_as_source g i b book is

pub returns-clause-some : goal.returns-clause-some
returns-clause-some c = λ g i is. runs_as_source g i is.bounds is.book is.is
