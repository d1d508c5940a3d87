use Rattle.std.proofs.Common.{sym, ap, ◌∙◌, ◌≡◌, ◌%◌, cond, arith}
use Rattle.std.proofs.lemmas.Bool.{false≢true}
use Rattle.tx_events.specs.Memory.{store, update}
use Rattle.tx_memory.specs.View.{layout_of, words_of}
use Rattle.tx_memory.specs.Words.{memory_in}
use Rattle.tx_memory.proofs.BitParts.{within}
use Rattle.tx_memory.proofs.WordSlots.{accessed, not_accessed, access_aligned, slot_within}
use Rattle.tx_memory.proofs.MemoryLemmas.{stored, memory_set, own_address}
use Rattle.tx_memory.proofs.memory.Memory.store.Goals as goal

pub returns-in_default-clause-done : goal.returns-in_default-clause-done
returns-in_default-clause-done c = sym (not_accessed (layout_of c.args.self.now) c.args.addr c.args.size (sym c.in_default.is ∙ c.slot.ensures))

pub returns-in_default-clause-words : goal.returns-in_default-clause-words
returns-in_default-clause-words c = sym (ap (λ b. cond b (store (words_of c.args.self.now) c.args.addr c.args.size c.args.value) (words_of c.args.self.now))
    (not_accessed (layout_of c.args.self.now) c.args.addr c.args.size (sym c.in_default.is ∙ c.slot.ensures)))

pub with_part-requires-clause-within : goal.with_part-requires-clause-within
with_part-requires-clause-within c =
    let yes = accessed (layout_of c.args.self.now) c.args.addr c.args.size c.in-Some.slot (sym c.in-Some.is ∙ c.slot.ensures) in
    omega (arith, within c.args.addr c.args.size c.requires.size (access_aligned (layout_of c.args.self.now) c.args.addr c.args.size yes.0))

pub returns-clause-words : goal.returns-clause-words
unfolding words_of
returns-clause-words c =
    let p = layout_of c.args.self.now in
    let words = c.args.self.now.words.items in
    let yes = accessed p c.args.addr c.args.size c.in-Some.slot (sym c.in-Some.is ∙ c.slot.ensures) in
    let below = slot_within p c.args.addr c.in-Some.slot c.args.self.now.whole yes.1 in
    stored p words c.args.addr c.args.size c.args.value c.in-Some.slot c.index-word.result.now c.shift_of.result c.bits_of.result c.with_part.result
    c.args.self.now.whole c.args.self.now.covers yes.1
    (omega (arith, below, c.args.self.now.covers)) c.index-word.ensures c.shift_of.ensures c.bits_of.ensures c.with_part.ensures.merged
    ∙ sym (ap (λ b. cond b (store (words_of c.args.self.now) c.args.addr c.args.size c.args.value) (words_of c.args.self.now)) yes.0)

pub returns-in_default-clause-word : goal.returns-in_default-clause-word
returns-in_default-clause-word c = λ e can. absurd (false≢true
    (sym (not_accessed (layout_of c.args.self.now) c.args.addr c.args.size (sym c.in_default.is ∙ c.slot.ensures)) ∙ can))

pub returns-clause-word : goal.returns-clause-word
unfolding words_of
returns-clause-word c = λ e can.
    let p = layout_of c.args.self.now in
    let words = c.args.self.now.words.items in
    let yes = accessed p c.args.addr c.args.size c.in-Some.slot (sym c.in-Some.is ∙ c.slot.ensures) in
    let whole : c.args.addr % 8 ≡ 0 = ap (λ n. c.args.addr % n) (sym e) ∙ access_aligned p c.args.addr c.args.size yes.0 in
    let all : c.with_part.result ≡ c.args.value = c.with_part.ensures.all (omega (arith, c.bits_of.ensures, e)) in
    memory_set p words c.args.addr c.in-Some.slot c.with_part.result c.args.self.now.whole c.args.self.now.covers yes.1
    ∙ (ap (λ a. update (memory_in p words) a c.with_part.result) (own_address c.args.addr whole) ∙ ap (update (memory_in p words) c.args.addr) all)
