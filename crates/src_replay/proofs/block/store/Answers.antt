use Rattle.std.proofs.Common.{◌≡◌, ◌∙◌, sym, true}
use Rattle.tx_events.specs.Memory.{can_access, word_of}
use Rattle.tx_memory.specs.View.{layout_of, words_of}
use Rattle.src_replay.proofs.Words.{word_access}
use Rattle.src_replay.proofs.Undone.{more_notes, stored_copies}
use Rattle.src_replay.proofs.Came.{store_comes}
use Rattle.src_replay.proofs.block.store.Goals as goal

pub returns-then-branch-clause-nested : goal.returns-then-branch-clause-nested
returns-then-branch-clause-nested c =
    let p = layout_of c.args.memory.now in
    let can : can_access p c.args.addr c.args.size ≡ true = sym c.in_ok-store.ensures.done ∙ c.if-branch.true in
    more_notes p c.args.nested.now.notes.items c.store.new.self.notes.items c.args.nested.now.marks.items c.store.new.self.marks.items (word_of c.args.addr)
    (words_of c.args.memory.now (word_of c.args.addr))
    (word_access p c.args.addr c.args.size can) (c.in_ok-store.ensures.notes c.if-branch.true) c.in_ok-store.ensures.marks c.requires.nested

pub returns-then-branch-clause-came : goal.returns-then-branch-clause-came
returns-then-branch-clause-came c volatile h =
    let p = layout_of c.args.memory.now in
    let m = words_of c.args.memory.now in
    let can : can_access p c.args.addr c.args.size ≡ true = sym c.in_ok-store.ensures.done ∙ c.if-branch.true in
    let words = c.in_ok-store.ensures.words c.if-branch.true in
    store_comes p c.args.nested.now c.store.new.self m
    (words_of c.store.new.memory) c.args.addr c.args.size c.args.value volatile c.plain-then-branch.result.step c.plain-then-branch.ensures.step can words
    (stored_copies p c.args.nested.now c.store.new.self m (words_of c.store.new.memory) c.args.addr c.args.size c.args.value
    (c.in_ok-store.ensures.notes c.if-branch.true) c.in_ok-store.ensures.marks words c.requires.nested)
