use Rattle.std.proofs.Common.{◌≡◌, ◌<◌, length, ap, sym, ◌∙◌, refl, None, subst}
use Rattle.std.proofs.Math.ListN.{set}
use Rattle.std.proofs.lemmas.Option.{same_Some}
use Rattle.std.proofs.lemmas.Bool.{false≢true}
use Rattle.tx_events.specs.declared.TurnKind.TheVariants.{Undone}
use Rattle.tx_events.specs.Memory.{update, word_bound}
use Rattle.tx_memory.specs.View.{layout_of, words_of}
use Rattle.tx_serial.specs.Machine.{Local, GivingUp, least, kept_or, oldest, forget_all}
use Rattle.tx_serial.specs.Turn.{steps, without, given_back}
use Rattle.tx_runtime.specs.Saves.{saves_of}
use Rattle.tx_runtime.specs.Threads.{local_of, held_in, IsWhole}
use Rattle.tx_runtime.specs.View.{machine_in, layout_in}
use Rattle.tx_runtime.proofs.ThreadTables.{thread_at, stepped, whole_set, whole_sound, kinded}
use Rattle.tx_runtime.proofs.HoldLemmas.{others_same, released_held, released_wrote, whole_hold, least_word, some_least, hold_local, left_over, access_bound}
use Rattle.tx_runtime.proofs.TransactionParts.{giving_parts, giving_with}
use Rattle.tx_runtime.proofs.ClosingRows.{gives_some}
use Rattle.tx_runtime.proofs.AppliedRow.{giving_row}
use Rattle.tx_runtime.proofs.closing.Engine+A+A+Saved.give_back_one.Goals as goal

pub undo_word-requires-clause-sound : goal.undo_word-requires-clause-sound
undo_word-requires-clause-sound g c =
    let self = c.args.self.now in
    let m = machine_in g.A.Actor.state g.A.Actor.saved_state self in
    let t = c.args.t in
    let word = c.in-Some.word in
    let held = c.release_one.new.self in
    let one = c.in-Some.ensures.released in
    let s = c.index_mut-thread.result.now in
    let h : t < length self.threads.items = c.requires.here.started in
    let its = thread_at g.A.Actor.state g.A.Actor.saved_state self.holders self.threads.items t s h c.index_mut-thread.ensures.value in
    let is = c.requires.here.at (local_of g.A.Actor.state g.A.Actor.saved_state self.holders t s) its in
    let p = layout_of self.memory in
    let sound = whole_sound p self.limit self.holders self.threads.items t s self.whole h c.index_mut-thread.ensures.value in
    let whole = whole_hold p self.limit self.holders held self.threads.items t word None self.whole h one c.release_one.ensures.limit
    (λ e. absurd (false≢true e)) in
    sound

pub invariant_of-self-2 : goal.invariant_of-self-2
invariant_of-self-2 g c =
    let self = c.args.self.now in
    let m = machine_in g.A.Actor.state g.A.Actor.saved_state self in
    let t = c.args.t in
    let word = c.in-Some.word in
    let held = c.release_one.new.self in
    let one = c.in-Some.ensures.released in
    let s = c.index_mut-thread.result.now in
    let h : t < length self.threads.items = c.requires.here.started in
    let its = thread_at g.A.Actor.state g.A.Actor.saved_state self.holders self.threads.items t s h c.index_mut-thread.ensures.value in
    let is = c.requires.here.at (local_of g.A.Actor.state g.A.Actor.saved_state self.holders t s) its in
    let p = layout_of self.memory in
    let sound = whole_sound p self.limit self.holders self.threads.items t s self.whole h c.index_mut-thread.ensures.value in
    let whole = whole_hold p self.limit self.holders held self.threads.items t word None self.whole h one c.release_one.ensures.limit
    (λ e. absurd (false≢true e)) in
    record {
      whole = subst (λ z. IsWhole z self.limit held (set self.threads.items t c.undo_word.new.self)) (sym c.undo_word.ensures.layout)
          (whole_set p self.limit held self.threads.items t c.undo_word.new.self whole c.undo_word.ensures.sound);
    }

pub returns-clause-turned : goal.returns-clause-turned
returns-clause-turned g c = λ answer. giving_row g.A.Actor.state g.A.Actor.saved_state g.A.Actor.thread c.args.self.now answer c.args.t _ c.requires.here
    (λ l b k ss at tx.
    let self = c.args.self.now in
    let m = machine_in g.A.Actor.state g.A.Actor.saved_state self in
    let t = c.args.t in
    let word = c.in-Some.word in
    let held = c.release_one.new.self in
    let one = c.in-Some.ensures.released in
    let s = c.index_mut-thread.result.now in
    let h : t < length self.threads.items = c.requires.here.started in
    let its = thread_at g.A.Actor.state g.A.Actor.saved_state self.holders self.threads.items t s h c.index_mut-thread.ensures.value in
    let is = c.requires.here.at (local_of g.A.Actor.state g.A.Actor.saved_state self.holders t s) its in
    let p = layout_of self.memory in
    let sound = whole_sound p self.limit self.holders self.threads.items t s self.whole h c.index_mut-thread.ensures.value in
    let whole = whole_hold p self.limit self.holders held self.threads.items t word None self.whole h one c.release_one.ensures.limit
    (λ e. absurd (false≢true e)) in
    let same : local_of g.A.Actor.state g.A.Actor.saved_state self.holders t s ≡ l = same_Some _ l (sym its ∙ at) in
    let parts = giving_parts g.A.Actor.saved_state s.tx (saves_of s.log) ss b k (ap (λ (v : Local g.A.Actor.State). v.tx) same ∙ tx) in
    let bound = word_bound (layout_in self) in
    let memory = words_of c.undo_word.new.memory in
    let f = λ (v : Local g.A.Actor.State). record v { held = without v.held word; wrote = without v.wrote word; tx = GivingUp b k (forget_all ss word) } in
    let gone = released_held t word self.holders held one in
    let mem : memory ≡ update m.memory word (kept_or (oldest ss word) (m.memory word)) = c.undo_word.ensures.words
    ∙ ap (λ z. update m.memory word (kept_or (oldest z word) (m.memory word))) parts.1 in
    let more = left_over (held_in self.holders t) word c.requires.more.0 c.requires.more.1 c.requires.more.2.0 c.requires.more.2.1 c.requires.more.2.2 in
    let rest = some_least (without (held_in self.holders t) word) bound more.0
    (access_bound (layout_in self) more.0 (self.whole.words t more.0 more.1)) more.2 in
    let rest_l = ap (λ (v : Local g.A.Actor.State). least (without v.held word) bound) (sym same) ∙ rest.1 in
    ap (kinded (Undone word)) (stepped g.A.Actor.state g.A.Actor.saved_state
    (record m { memory = memory }) self.holders held self.threads.items t s c.undo_word.new.self l f refl refl refl h c.index_mut-thread.ensures.value at
    (others_same t word None self.holders held one)
    (hold_local g.A.Actor.state g.A.Actor.saved_state self.holders held t s c.undo_word.new.self _ _ _ _ (c.undo_word.ensures.local held t) gone
    (released_wrote t word self.holders held one)
    (giving_with g.A.Actor.saved_state s.tx b k parts.0 (forget_all (saves_of s.log) word) ∙ ap (λ z. GivingUp b k (forget_all z word)) parts.1))
    c.undo_word.ensures.waits)
    ∙ (ap (λ z. kinded (Undone word) (record (steps t m (f l)) { memory = z })) mem
    ∙ gives_some (layout_in self) t m l b k ss word (f l)
    (ap (λ (v : Local g.A.Actor.State). least v.held bound) (sym same)
    ∙ least_word (layout_in self) self.holders t word (self.whole.words t word c.in-Some.ensures.held) c.in-Some.ensures.held c.in-Some.ensures.least)
    (ap (given_back l b k ss word) (sym rest_l))))
