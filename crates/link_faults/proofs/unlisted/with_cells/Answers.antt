use Rattle.std.proofs.Common.{◌≤◌, ◌||◌, ◌∙◌, sym, refl, map, take, length, arith, get_or}
use Rattle.tx_code.specs.declared.object.ObjCell.{ObjCell}
use Rattle.std.specs.List.{list_any}
use borrow.Author.Tests.{leb-true}
use Rattle.std.proofs.lemmas.List.{length-map}
use Rattle.tx_code.specs.Objects.{bytes_of, object_view}
use Rattle.link_faults.specs.Unlisted.{func_symbols, global_symbols, misses_cell, is_cell_name}
use Rattle.link_faults.proofs.KeptDefinitions.{whole}
use Rattle.link_faults.proofs.Marks.{any_begins, any_step, cell_below_within, fits_index}
use Rattle.link_faults.proofs.unlisted.with_cells.Goals as goal

pub loop-cell-init : goal.loop-cell-init
loop-cell-init c = (λ p h. any_begins (misses_cell (map bytes_of c.args.all.now) (object_view c.args.object.now)) c.args.cells.now p c.args.least h, λ w. w)

pub loop-cell-preserved : goal.loop-cell-preserved
loop-cell-preserved c =
    let all = map bytes_of c.args.all.now in
    let o = object_view c.args.object.now in
    let names = c.rank_of_name-name.ensures in
    let misses = c.is_missing_cell-missing.ensures (func_symbols o) (global_symbols o) c.requires.listed.funcs c.requires.listed.globals in (
      λ p h. any_step (misses_cell all o) c.args.cells.now c.loop-cell.cell-index _ _ p c.with_name-found.result c.loop-cell-test.true refl
          (rw (names, misses) at (c.with_name-found.ensures.least (λ k. p k || list_any (misses_cell all o k) (take c.loop-cell.cell-index c.args.cells.now))
          (c.loop-cell.invariant.0 p h))),
      λ w. c.with_name-found.ensures.within (length c.args.all.now) (λ e.
          let at : ObjCell = get_or c.args.cells.now c.loop-cell.cell-index (record { offset = 0; size = 0; what = 0; value = 0; symbol = 0 }) in
          let fits : at.symbol ≤ length c.args.object.now.names.items =
          leb-true _ _ (fits_index (is_cell_name (length c.args.object.now.names.items)) c.args.cells.now c.loop-cell.cell-index
          (record { offset = 0; size = 0; what = 0; value = 0; symbol = 0 }) c.requires.fit c.loop-cell-test.true) in
          let within : at.symbol ≤ length (map bytes_of c.args.object.now.names.items) =
          omega (arith, fits, length-map c.args.object.now.names.items bytes_of) in
          let b = cell_below_within all o at c.requires.known within (sym misses ∙ e) in
          omega (arith, names, b, length-map c.args.all.now bytes_of)) (c.loop-cell.invariant.1 w),
    )

pub returns-clause-least : goal.returns-clause-least
returns-clause-least c = λ p h. rw (whole c.args.cells.now c.loop-cell.cell-index c.loop-cell-test.false) at (c.loop-cell.invariant.0 p h)

pub returns-clause-within : goal.returns-clause-within
returns-clause-within c = c.loop-cell.invariant.1
