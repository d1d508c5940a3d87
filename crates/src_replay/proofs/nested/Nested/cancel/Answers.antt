use Rattle.std.proofs.Common.{◌≡◌, ◌+◌, ◌-◌, ◌++◌, ◌∷◌, [], List, ℕ, ap, sym, ◌∙◌, take, arith}
use Rattle.tx_events.specs.Memory.{MemoryLayout}
use Rattle.tx_memory.specs.View.{layout_of, words_of}
use Rattle.src_replay.specs.Undone.{are_words, undone}
use Rattle.src_replay.proofs.Undone.{words_front, put_one, marks_in}
use Rattle.src_replay.proofs.nested.Nested.cancel.Goals as goal

pub put_newest-requires : goal.put_newest-requires
put_newest-requires c =
    let inv = c.loop-undone.invariant in
    let all = c.args.self.now.notes.items in
    let k : ℕ = c.len-count.result + c.in-Some.mark - c.loop-undone.undone in
    ap (are_words (layout_of c.loop-undone.memory)) inv.0 ∙ ap (λ (p : MemoryLayout). are_words p (take k all)) inv.2
    ∙ words_front (layout_of c.args.memory.now) k all c.requires.words

pub loop-undone-preserved : goal.loop-undone-preserved
loop-undone-preserved c =
    let inv = c.loop-undone.invariant in
    let k : ℕ = c.len-count.result + c.in-Some.mark - c.loop-undone.undone in
    let j : ℕ = c.len-count.result + c.in-Some.mark - (c.loop-undone.undone + 1) in
    let one = put_one c.args.self.now.notes.items c.loop-undone.self.notes.items c.put_newest.new.self.notes.items (words_of c.args.memory.now)
    (words_of c.loop-undone.memory) (words_of c.put_newest.new.memory) k j
    (omega (arith, c.loop-undone-test.true)) (omega (
      arith,
      c.loop-undone-test.true,
      inv.4,
      inv.5,
    )) inv.0 inv.1 c.put_newest.ensures.notes c.put_newest.ensures.words in (
      one.0,
      one.1,
      c.put_newest.ensures.layout ∙ inv.2,
      c.put_newest.ensures.marks ∙ inv.3,
      omega (arith, inv.4),
      inv.5,
      λ h. omega (arith, c.loop-undone-test.true),
    )

pub returns-clause-cancelled : goal.returns-clause-cancelled
returns-clause-cancelled c some =
    let inv = c.loop-undone.invariant in
    let mark : ℕ = c.in-Some.mark in
    let all = c.args.self.now.notes.items in
    let parts : c.args.self.now.marks.items ≡ c.loop-undone.self.marks.items ++ mark ∷ [] = c.in-Some.ensures.items
    ∙ sym (ap (λ (z : List ℕ). z ++ mark ∷ []) inv.3) in
    let within = (marks_in (layout_of c.args.memory.now) all c.args.self.now.marks.items c.loop-undone.self.marks.items mark parts c.requires).0 in
    let few = inv.6 (omega (arith, within, inv.5)) in
    let at : c.len-count.result + mark - c.loop-undone.undone ≡ mark = omega (arith, few, c.loop-undone-test.false) in
    record {
      mark = mark;
      marks = parts;
      notes = inv.0 ∙ ap (λ (z : ℕ). take z all) at;
      words = inv.1 ∙ ap (λ (z : ℕ). undone all z (words_of c.args.memory.now)) at;
    }
