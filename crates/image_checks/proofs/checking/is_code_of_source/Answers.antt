use Rattle.std.proofs.Common.{rules}
use Rattle.std.proofs.lemmas.Result.{IfOk-weaker}
use Rattle.tx_code.specs.Views.{image_view}
use Rattle.src_bind.specs.Bounds.{given}
use Rattle.note_landing.specs.Books.{bounds}
use Rattle.linked_images.proofs.Noted.{linked_by_notes, linked_where_noted}
use Rattle.image_checks.proofs.Found.{all_noted}
use Rattle.image_checks.proofs.checking.is_code_of_source.Goals as goal

pub returns-clause-linked : goal.returns-clause-linked
returns-clause-linked c =
    let g = given c.args.bound.now in
    let i = image_view c.args.image.now in
    IfOk-weaker c.all_have_notes.result _ _ (λ b all yes. linked_where_noted g i bounds (all_noted g i (all yes)) (c.in_ok-tables_agree.ensures.yes (search rules)) c.requires.can) c.all_have_notes.ensures

pub returns-clause-shown : goal.returns-clause-shown
returns-clause-shown c =
    let g = given c.args.bound.now in
    let i = image_view c.args.image.now in
    IfOk-weaker c.all_have_notes.result _ _ (λ b all yes. linked_by_notes g i bounds (all_noted g i (all yes)) (c.in_ok-tables_agree.ensures.yes (search rules)) c.requires.can) c.all_have_notes.ensures
