use Rattle.std.proofs.Common.{subst}
use Rattle.std.proofs.lemmas.Result.{IfOk-weaker}
use Rattle.tx_code.specs.Views.{image_view}
use Rattle.src_bind.specs.Tables.{Given}
use Rattle.linked_images.specs.LinkedImages.{IsLinked}
use Rattle.image_checks.specs.Shown.{IsShown}
use Rattle.image_checks.proofs.checking.is_code_of_program.Goals as goal

pub returns-clause-linked : goal.returns-clause-linked
returns-clause-linked c = IfOk-weaker c.is_code_of_source.result _ _ (λ yes h e. subst (λ (g : Given). IsLinked g (image_view c.args.image.now)) c.in_ok-bound.ensures (h e)) c.is_code_of_source.ensures.linked

pub returns-clause-shown : goal.returns-clause-shown
returns-clause-shown c = IfOk-weaker c.is_code_of_source.result _ _ (λ yes h e. subst (λ (g : Given). IsShown g (image_view c.args.image.now)) c.in_ok-bound.ensures (h e)) c.is_code_of_source.ensures.shown
