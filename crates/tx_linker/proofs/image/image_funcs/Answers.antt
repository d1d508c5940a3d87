use Rattle.std.proofs.Common.{◌∙◌, map, ap}
use Rattle.link_tables.specs.Found.{func_row}
use Rattle.link_parts.specs.Parts.{func_told}
use Rattle.link_parts.proofs.RowParts.{funcs_are}
use Rattle.tx_linker.specs.Kept.{names_in, objects_of}
use Rattle.tx_linker.proofs.KeptRows.{if_ok}
use Rattle.tx_linker.proofs.image.image_funcs.Goals as goal

pub returns : goal.returns
returns c = λ types t.
    let k = c.args.kept.now in
    let x = c.args.numbers.now in
    if_ok c.funcs_of.result _ _ (λ v e. e ∙ ap (λ fs. map (func_told x) (map func_row fs)) c.deref.ensures.value ∙ ap (map (func_told x)) c.requires.funcs
    ∙ funcs_are (names_in k) (objects_of k) types x c.requires.known t) c.funcs_of.ensures
