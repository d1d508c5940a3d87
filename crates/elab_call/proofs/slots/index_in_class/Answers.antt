use Rattle.std.proofs.Common.{◌∙◌, List, ap, sym}
use Rattle.elab_call.specs.Slots.{places_before}
use Rattle.elab_call.proofs.Indices.{index_counted}
use Rattle.elab_call.proofs.slots.index_in_class.Goals as goal

pub returns : goal.returns
returns c = c.count_before.ensures ∙ index_counted c.args.class c.args.place c.args.funcs.now c.of_class.result.now c.of_class.ensures
