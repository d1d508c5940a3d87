use Rattle.std.proofs.Common.{sym, ap, ◌∙◌, ◌≡◌, ◌%◌, cond, Some, None, Option, ℕ, arith}
use Rattle.std.proofs.lemmas.Bool.{false≢true}
use Rattle.tx_events.specs.Memory.{load}
use Rattle.tx_memory.specs.View.{layout_of, words_of}
use Rattle.tx_memory.proofs.BitParts.{within}
use Rattle.tx_memory.proofs.WordSlots.{accessed, not_accessed, access_aligned, slot_within}
use Rattle.tx_memory.proofs.MemoryLemmas.{loaded, own_word}
use Rattle.tx_memory.proofs.memory.Memory.load.Goals as goal

pub returns-in_err-slot-clause-value : goal.returns-in_err-slot-clause-value
returns-in_err-slot-clause-value c =
    let no = not_accessed (layout_of c.args.self.now) c.args.addr c.args.size (sym c.in_err-slot.was ∙ c.slot.ensures) in
    c.from_residual.ensures ∙ sym (ap (λ b. cond {A = Option ℕ} b (Some (load (words_of c.args.self.now) c.args.addr c.args.size)) None) no)

pub part-requires : goal.part-requires
part-requires c =
    let yes = accessed (layout_of c.args.self.now) c.args.addr c.args.size c.in_ok-slot.slot (sym c.in_ok-slot.was ∙ c.slot.ensures) in
    omega (arith, within c.args.addr c.args.size c.requires (access_aligned (layout_of c.args.self.now) c.args.addr c.args.size yes.0))

pub returns-clause-value : goal.returns-clause-value
unfolding words_of
returns-clause-value c =
    let p = layout_of c.args.self.now in
    let words = c.args.self.now.words.items in
    let yes = accessed p c.args.addr c.args.size c.in_ok-slot.slot (sym c.in_ok-slot.was ∙ c.slot.ensures) in
    let below = slot_within p c.args.addr c.in_ok-slot.slot c.args.self.now.whole yes.1 in
    let read = loaded p words c.args.addr c.args.size c.in_ok-slot.slot c.index.result.now c.shift_of.result c.bits_of.result c.part.result yes.1
    (omega (arith, below, c.args.self.now.covers)) c.index.ensures c.shift_of.ensures c.bits_of.ensures c.part.ensures.value in
    ap Some read ∙ sym (ap (λ b. cond {A = Option ℕ} b (Some (load (words_of c.args.self.now) c.args.addr c.args.size)) None) yes.0)

pub returns-in_err-slot-clause-word : goal.returns-in_err-slot-clause-word
returns-in_err-slot-clause-word c = λ e can. absurd (false≢true
    (sym (not_accessed (layout_of c.args.self.now) c.args.addr c.args.size (sym c.in_err-slot.was ∙ c.slot.ensures)) ∙ can))

pub returns-clause-word : goal.returns-clause-word
unfolding words_of
returns-clause-word c = λ e can.
    let p = layout_of c.args.self.now in
    let words = c.args.self.now.words.items in
    let yes = accessed p c.args.addr c.args.size c.in_ok-slot.slot (sym c.in_ok-slot.was ∙ c.slot.ensures) in
    let below = slot_within p c.args.addr c.in_ok-slot.slot c.args.self.now.whole yes.1 in
    let whole : c.args.addr % 8 ≡ 0 = ap (λ n. c.args.addr % n) (sym e) ∙ access_aligned p c.args.addr c.args.size yes.0 in
    let all : c.part.result ≡ c.index.result.now = c.part.ensures.all (omega (arith, c.bits_of.ensures, e)) in
    ap Some (all ∙ own_word p words c.args.addr c.in_ok-slot.slot c.index.result.now whole yes.1 (omega (arith, below, c.args.self.now.covers)) c.index.ensures)
