use Rattle.std.proofs.Common.{◌∙◌, map, ap}
use Rattle.link_tables.specs.Found.{class_row}
use Rattle.link_parts.specs.Parts.{class_told}
use Rattle.link_parts.proofs.RowParts.{classes_are}
use Rattle.tx_linker.specs.Kept.{names_in, objects_of}
use Rattle.tx_linker.proofs.KeptRows.{if_ok}
use Rattle.tx_linker.proofs.image.image_classes.Goals as goal

pub returns : goal.returns
returns c = λ types t.
    let k = c.args.kept.now in
    let x = c.args.numbers.now in
    if_ok c.classes_of.result _ _ (λ v e. e ∙ ap (λ cs. map (class_told x) (map class_row cs)) c.deref.ensures.value ∙ ap
    (map (class_told x)) c.requires.classes ∙ classes_are (names_in k) (objects_of k) types x c.requires.known t) c.classes_of.ensures
