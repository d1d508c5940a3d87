use Rattle.std.proofs.Common.{sym, ◌∙◌}
use Rattle.tx_code.specs.Views.{image_view}
use Rattle.src_bind.specs.Bounds.{given}
use Rattle.image_links.proofs.Agreed.{linked_where_agreed}
use Rattle.image_links.proofs.Results.{if_ok}
use Rattle.image_links.proofs.agreeing.agrees.Goals as goal

pub returns : goal.returns
returns c = record {
  is = c.program_agrees.ensures;
  linked = if_ok c.program_agrees.result _ _ (λ b e yes. linked_where_agreed (image_view c.args.image.now) (given c.args.bound.now)
      (sym e ∙ yes)) c.program_agrees.ensures;
}
