use Rattle.std.proofs.Common.{◌≡◌, ◌+◌, ◌*◌, ◌/◌, true, cond, refl, ap, sym, ◌∙◌, drop, get_or, add-one, drop-cons}
use Rattle.std.proofs.lemmas.List.Recursion.{and_at}
use Rattle.std.specs.List.{list_all}
use Rattle.tx_events.specs.declared.GlobalCell.{GlobalCell}
use Rattle.tx_events.specs.Memory.{MemoryLayout, can_access, store, with_cells}
use Rattle.tx_memory.specs.Cells.{lies_within}
use Rattle.tx_memory.specs.Words.{memory_in}
use Rattle.tx_memory.specs.View.{layout_of, words_of}
use Rattle.tx_memory.proofs.MemoryLemmas.{zero_memory}
use Rattle.tx_memory.proofs.WordSlots.{cell_access}
use Rattle.tx_memory.proofs.memory.Memory.new.Goals as goal

pub loop-cell-init : goal.loop-cell-init
unfolding words_of
loop-cell-init c =
    let p : MemoryLayout = record { globals = c.args.size; limit = c.args.threads } in (
      refl,
      ap (λ m. with_cells m c.args.globals.now) (ap (memory_in p) (c.in_ok-words.ensures.items_if_clones_equal (λ y e. e)) ∙ zero_memory p
          (c.args.size / 8 + c.args.threads * 8192)),
    )

pub loop-cell-preserved : goal.loop-cell-preserved
loop-cell-preserved c =
    let cells = c.args.globals.now in
    let i = c.loop-cell.cell-index in
    let cell : GlobalCell = get_or cells i (record { offset = 0; size = 0; value = 0 }) in
    let memory = c.loop-cell.memory in
    let fine : lies_within c.args.size cell ≡ true = and_at (list_all (lies_within c.args.size)) (lies_within c.args.size) refl (λ x ys. refl) cells i
    (record { offset = 0; size = 0; value = 0 }) c.loop-cell-test.true c.requires.cells in
    let can : can_access (layout_of memory) (65536 + cell.offset) cell.size ≡ true =
    ap (λ p. can_access p (65536 + cell.offset) cell.size) c.loop-cell.invariant.0 ∙ cell_access c.args.size c.args.threads cell fine in
    let at : 65536 + c.from.result ≡ 65536 + cell.offset = ap (λ n. 65536 + n) c.from.ensures in
    let wrote = c.store.ensures.words ∙ (ap (λ a. cond (can_access (layout_of memory) a cell.size) (store (words_of memory) a cell.size cell.value)
    (words_of memory)) at ∙ ap (λ b. cond b (store (words_of memory) (65536 + cell.offset) cell.size cell.value) (words_of memory)) can) in (
      c.store.ensures.layout ∙ c.loop-cell.invariant.0,
      ap (λ m. with_cells m (drop (i + 1) cells)) wrote
          ∙ (ap (λ n. with_cells (store (words_of memory) (65536 + cell.offset) cell.size cell.value) (drop n cells)) (add-one i)
          ∙ (ap (with_cells (words_of memory)) (sym (drop-cons cells i (record { offset = 0; size = 0; value = 0 }) c.loop-cell-test.true))
          ∙ c.loop-cell.invariant.1)),
    )
