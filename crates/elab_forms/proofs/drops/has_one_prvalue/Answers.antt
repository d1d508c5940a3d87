use Rattle.std.proofs.Common.{◌∙◌, sym, ap}
use Rattle.elab_forms.specs.Parts.{is_one_prvalue}
use Rattle.elab_forms.proofs.Taken.{not_one_kid}
use Rattle.elab_forms.proofs.drops.has_one_prvalue.Goals as goal

pub returns-then-kids-ne1 : goal.returns-then-kids-ne1
returns-then-kids-ne1 c = sym (ap is_one_prvalue c.in_ok-kids.ensures.kids ∙ not_one_kid _ _ c.if-kids-ne1.true)
