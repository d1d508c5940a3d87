use Rattle.std.proofs.Common.{◌∙◌, sym}
use Rattle.link_faults.proofs.PlacedSizes.{all_placed}
use Rattle.link_faults.proofs.size.globals_size.Goals as goal
use Rattle.std.proofs.Common.{zero-add}

pub returns : goal.returns
returns c = c.size_in_all.ensures ∙ sym (all_placed 0 0 c.args.objects.now ∙ zero-add _)
