use Rattle.std.proofs.Common.{◌≡◌, ◌<◌, length, ap, sym, ◌∙◌, refl, None}
use Rattle.std.proofs.lemmas.Option.{same_Some}
use Rattle.std.proofs.lemmas.Bool.{false≢true}
use Rattle.tx_events.specs.declared.TurnKind.TheVariants.{Released, Idle}
use Rattle.tx_events.specs.Memory.{word_bound}
use Rattle.tx_memory.specs.View.{layout_of}
use Rattle.tx_serial.specs.Machine.{Local, least}
use Rattle.tx_serial.specs.Turn.{closes, without}
use Rattle.tx_runtime.specs.Saves.{saves_of}
use Rattle.tx_runtime.specs.Threads.{local_of, closed_by}
use Rattle.tx_runtime.specs.View.{machine_in, layout_in}
use Rattle.tx_runtime.proofs.ThreadTables.{thread_at, stepped, same_threads, whole_set, whole_sound, kinded, held_at}
use Rattle.tx_runtime.proofs.HoldLemmas.{others_same, released_held, released_wrote, whole_hold, least_word, none_held, hold_local}
use Rattle.tx_runtime.proofs.TransactionParts.{closing_parts}
use Rattle.tx_runtime.proofs.ClosingRows.{lets_none, lets_some}
use Rattle.tx_runtime.proofs.AppliedRow.{closing_row}
use Rattle.tx_runtime.proofs.closing.Engine+A+A+Saved.release.Goals as goal

pub returns-in_default-clause-turned : goal.returns-in_default-clause-turned
returns-in_default-clause-turned g c =
    λ answer. closing_row g.A.Actor.state g.A.Actor.saved_state g.A.Actor.thread c.args.self.now answer c.args.t _ c.requires.here (λ l b at tx.
    let self = c.args.self.now in
    let m = machine_in g.A.Actor.state g.A.Actor.saved_state self in
    let bound = word_bound (layout_in self) in
    ap (λ f. kinded Idle (record m { threads = f }))
    (same_threads g.A.Actor.state g.A.Actor.saved_state self.holders c.release_one.new.self self.threads.items c.in_default.ensures.same)
    ∙ lets_none (layout_in self) c.args.t m l b (ap (λ f. least f bound)
    (held_at g.A.Actor.state g.A.Actor.saved_state self.holders self.threads.items c.args.t l at)
    ∙ none_held (layout_in self) self.holders c.args.t c.in_default.ensures.none))

pub close-requires : goal.close-requires
close-requires g c =
    let self = c.args.self.now in
    let m = machine_in g.A.Actor.state g.A.Actor.saved_state self in
    let t = c.args.t in
    let word = c.in-Some.word in
    let held = c.release_one.new.self in
    let one = c.in-Some.ensures.released in
    let s = c.index_mut-thread.result.now in
    let h : t < length self.threads.items = c.requires.here.started in
    let its = thread_at g.A.Actor.state g.A.Actor.saved_state self.holders self.threads.items t s h c.index_mut-thread.ensures.value in
    let is = c.requires.here.at (local_of g.A.Actor.state g.A.Actor.saved_state self.holders t s) its in
    let p = layout_of self.memory in
    let sound = whole_sound p self.limit self.holders self.threads.items t s self.whole h c.index_mut-thread.ensures.value in
    let whole = whole_hold p self.limit self.holders held self.threads.items t word None self.whole h one c.release_one.ensures.limit
    (λ e. absurd (false≢true e)) in
    (closing_parts g.A.Actor.saved_state s.tx (saves_of s.log) is.1.0 is.1.1).0

pub invariant_of-self-2 : goal.invariant_of-self-2
invariant_of-self-2 g c =
    let self = c.args.self.now in
    let m = machine_in g.A.Actor.state g.A.Actor.saved_state self in
    let t = c.args.t in
    let word = c.in-Some.word in
    let held = c.release_one.new.self in
    let one = c.in-Some.ensures.released in
    let s = c.index_mut-thread.result.now in
    let h : t < length self.threads.items = c.requires.here.started in
    let its = thread_at g.A.Actor.state g.A.Actor.saved_state self.holders self.threads.items t s h c.index_mut-thread.ensures.value in
    let is = c.requires.here.at (local_of g.A.Actor.state g.A.Actor.saved_state self.holders t s) its in
    let p = layout_of self.memory in
    let sound = whole_sound p self.limit self.holders self.threads.items t s self.whole h c.index_mut-thread.ensures.value in
    let whole = whole_hold p self.limit self.holders held self.threads.items t word None self.whole h one c.release_one.ensures.limit
    (λ e. absurd (false≢true e)) in
    record { whole = whole_set p self.limit held self.threads.items t c.close.new.self whole (c.close.ensures.sound p) }

pub returns-clause-turned : goal.returns-clause-turned
returns-clause-turned g c = λ answer. closing_row g.A.Actor.state g.A.Actor.saved_state g.A.Actor.thread c.args.self.now answer c.args.t _ c.requires.here
    (λ l b at tx.
    let self = c.args.self.now in
    let m = machine_in g.A.Actor.state g.A.Actor.saved_state self in
    let t = c.args.t in
    let word = c.in-Some.word in
    let held = c.release_one.new.self in
    let one = c.in-Some.ensures.released in
    let s = c.index_mut-thread.result.now in
    let h : t < length self.threads.items = c.requires.here.started in
    let its = thread_at g.A.Actor.state g.A.Actor.saved_state self.holders self.threads.items t s h c.index_mut-thread.ensures.value in
    let is = c.requires.here.at (local_of g.A.Actor.state g.A.Actor.saved_state self.holders t s) its in
    let p = layout_of self.memory in
    let sound = whole_sound p self.limit self.holders self.threads.items t s self.whole h c.index_mut-thread.ensures.value in
    let whole = whole_hold p self.limit self.holders held self.threads.items t word None self.whole h one c.release_one.ensures.limit
    (λ e. absurd (false≢true e)) in
    let same : local_of g.A.Actor.state g.A.Actor.saved_state self.holders t s ≡ l = same_Some _ l (sym its ∙ at) in
    let birth = (closing_parts g.A.Actor.saved_state s.tx (saves_of s.log) b (ap (λ (v : Local g.A.Actor.State). v.tx) same ∙ tx)).1 in
    let bound = word_bound (layout_in self) in
    let f = λ (v : Local g.A.Actor.State). record v {
      held = without v.held word;
      wrote = without v.wrote word;
      tx = closes b
          (least (without v.held word) bound);
    } in
    let gone = released_held t word self.holders held one in
    ap (kinded (Released word)) (stepped g.A.Actor.state g.A.Actor.saved_state m self.holders held self.threads.items t s c.close.new.self l f refl refl refl h
    c.index_mut-thread.ensures.value at (others_same t word None self.holders held one)
    (hold_local g.A.Actor.state g.A.Actor.saved_state self.holders held t s c.close.new.self _ _ _ _ (c.close.ensures.local held t) gone
    (released_wrote t word self.holders held one)
    (ap (closed_by c.holds_words-holds.result) birth ∙ (c.holds_words-holds.ensures b ∙ ap (λ z. closes b (least z bound)) gone)))
    c.close.ensures.waits)
    ∙ lets_some (layout_in self) t m l b word _ (ap (λ (v : Local g.A.Actor.State). least v.held bound) (sym same) ∙ least_word
    (layout_in self) self.holders t word (self.whole.words t word c.in-Some.ensures.held) c.in-Some.ensures.held c.in-Some.ensures.least) refl)
