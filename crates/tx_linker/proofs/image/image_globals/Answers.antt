use Rattle.std.proofs.Common.{◌∙◌, map, ap, arith}
use Rattle.link_tables.specs.Found.{global_row}
use Rattle.link_parts.specs.Parts.{cells_told}
use Rattle.link_parts.proofs.RowParts.{cells_are}
use Rattle.tx_linker.specs.Kept.{names_in, objects_of}
use Rattle.tx_linker.proofs.KeptRows.{if_ok}
use Rattle.tx_linker.proofs.WholeLinks.{placed_fits, size_is}
use Rattle.tx_linker.proofs.image.image_globals.Goals as goal

pub cells_of-requires-clause-fit : goal.cells_of-requires-clause-fit
cells_of-requires-clause-fit c = rw c.deref.ensures.value (placed_fits c.args.kept.now c.requires.kept)

pub cells_of-requires-clause-size : goal.cells_of-requires-clause-size
cells_of-requires-clause-size c = let s = size_is c.args.kept.now c.requires.kept in rw c.deref.ensures.value (omega (arith, s, c.requires.size))

pub returns : goal.returns
returns c = λ types t.
    let k = c.args.kept.now in
    let x = c.args.numbers.now in
    if_ok c.cells_of.result _ _ (λ v e. e ∙ ap (λ gs. cells_told x 0 (map global_row gs)) c.deref.ensures.value ∙ ap (cells_told x 0) c.requires.kept.globals
    ∙ cells_are (names_in k) (objects_of k) types x c.requires.kept.known t) c.cells_of.ensures
