use Rattle.image_links.specs.Agreeing.{linked_book}
use Rattle.linked_images.proofs.Linked.{linked_where_checked}
use Rattle.linked_runs.proofs.Results.{runs_as_source}
use Rattle.linked_runs.proofs.laws.runs_of_agreeing_images.Goals as goal

pub returns : goal.returns
returns c = λ g i h can b notes typs checked. runs_as_source g i b (linked_book i g notes typs) (linked_where_checked g i h can b notes typs checked)
