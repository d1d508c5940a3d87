use Rattle.std.proofs.Common.{◌≡◌, ◌<◌, ◌∷◌, [], length, ap, sym, ◌∙◌, refl, Some, None, subst}
use Rattle.std.proofs.Math.ListN.{set}
use Rattle.std.proofs.lemmas.Option.{same_Some}
use Rattle.std.proofs.lemmas.Bool.{false≢true}
use Rattle.tx_events.specs.declared.TurnKind.TheVariants.{Undone}
use Rattle.tx_events.specs.Memory.{update, word_bound}
use Rattle.tx_memory.specs.View.{layout_of, words_of}
use Rattle.tx_serial.specs.Machine.{Local, OpenTx, no_save, least, kept_or, oldest}
use Rattle.tx_serial.specs.Turn.{steps, without, again, given_back}
use Rattle.tx_runtime.specs.Saves.{saves_of}
use Rattle.std.specs.Prelude.{is_some}
use Rattle.tx_runtime.specs.Threads.{local_of, threads_of, has_saves, IsWhole}
use Rattle.tx_runtime.specs.View.{machine_in, layout_in}
use Rattle.tx_runtime.proofs.ThreadTables.{read_at, thread_at, stepped, whole_set, whole_sound, kinded, at_slot}
use Rattle.tx_runtime.proofs.HoldLemmas.{others_same, released_held, whole_hold, least_word, none_held, none_left, again_hold}
use Rattle.tx_runtime.proofs.TransactionParts.{giving_parts, giving_live, part_some}
use Rattle.tx_runtime.proofs.ClosingRows.{gives_some}
use Rattle.tx_runtime.proofs.AppliedRow.{giving_row}
use Rattle.tx_runtime.proofs.SlotLemmas.{live_marks}
use Rattle.tx_runtime.proofs.closing.Engine+A+A+Saved.give_back_last.Goals as goal

pub copy_kept-requires-clause-tx : goal.copy_kept-requires-clause-tx
copy_kept-requires-clause-tx g c = λ s at.
    let self = c.args.self.now in
    let its : threads_of g.A.Actor.state g.A.Actor.saved_state self.holders self.threads.items c.args.t
    ≡ Some (local_of g.A.Actor.state g.A.Actor.saved_state self.holders c.args.t s) =
    at_slot g.A.Actor.state g.A.Actor.saved_state self.holders self.threads.items c.args.t s at in
    let is = c.requires.here.at (local_of g.A.Actor.state g.A.Actor.saved_state self.holders c.args.t s) its in
    part_some g.A.Actor.saved_state s.tx is.1.0 is.1.1 (giving_parts g.A.Actor.saved_state s.tx (saves_of s.log) is.1.2 is.1.0 is.1.1 is.1.3).0

pub undo_word-requires-clause-sound : goal.undo_word-requires-clause-sound
undo_word-requires-clause-sound g c =
    let self = c.args.self.now in
    let m = machine_in g.A.Actor.state g.A.Actor.saved_state self in
    let t = c.args.t in
    let word = c.in-Some.word in
    let held = c.release_one.new.self in
    let one = c.in-Some.ensures.released in
    let s = c.index_mut-thread.result.now in
    let h : t < length self.threads.items = c.requires.here.started in
    let its = thread_at g.A.Actor.state g.A.Actor.saved_state self.holders self.threads.items t s h c.index_mut-thread.ensures.value in
    let is = c.requires.here.at (local_of g.A.Actor.state g.A.Actor.saved_state self.holders t s) its in
    let p = layout_of self.memory in
    let sound = whole_sound p self.limit self.holders self.threads.items t s self.whole h c.index_mut-thread.ensures.value in
    let whole = whole_hold p self.limit self.holders held self.threads.items t word None self.whole h one c.release_one.ensures.limit
    (λ e. absurd (false≢true e)) in
    sound

pub invariant_of-self-2 : goal.invariant_of-self-2
invariant_of-self-2 g c =
    let self = c.args.self.now in
    let m = machine_in g.A.Actor.state g.A.Actor.saved_state self in
    let t = c.args.t in
    let word = c.in-Some.word in
    let held = c.release_one.new.self in
    let one = c.in-Some.ensures.released in
    let s = c.index_mut-thread.result.now in
    let h : t < length self.threads.items = c.requires.here.started in
    let its = thread_at g.A.Actor.state g.A.Actor.saved_state self.holders self.threads.items t s h c.index_mut-thread.ensures.value in
    let is = c.requires.here.at (local_of g.A.Actor.state g.A.Actor.saved_state self.holders t s) its in
    let p = layout_of self.memory in
    let sound = whole_sound p self.limit self.holders self.threads.items t s self.whole h c.index_mut-thread.ensures.value in
    let whole = whole_hold p self.limit self.holders held self.threads.items t word None self.whole h one c.release_one.ensures.limit
    (λ e. absurd (false≢true e)) in
    let some = part_some g.A.Actor.saved_state s.tx is.1.0 is.1.1 (giving_parts g.A.Actor.saved_state s.tx (saves_of s.log) is.1.2 is.1.0 is.1.1 is.1.3).0 in
    record {
      whole = subst (λ z. IsWhole z self.limit held (set self.threads.items t c.start_again.new.self)) (sym c.undo_word.ensures.layout)
          (whole_set p self.limit held self.threads.items t c.start_again.new.self whole
          (c.start_again.ensures.sound p (ap is_some c.undo_word.ensures.tx ∙ some)));
    }

pub returns-clause-turned : goal.returns-clause-turned
returns-clause-turned g c = λ answer. giving_row g.A.Actor.state g.A.Actor.saved_state g.A.Actor.thread c.args.self.now answer c.args.t _ c.requires.here
    (λ l b k ss at tx.
    let self = c.args.self.now in
    let m = machine_in g.A.Actor.state g.A.Actor.saved_state self in
    let t = c.args.t in
    let word = c.in-Some.word in
    let held = c.release_one.new.self in
    let one = c.in-Some.ensures.released in
    let s = c.index_mut-thread.result.now in
    let h : t < length self.threads.items = c.requires.here.started in
    let its = thread_at g.A.Actor.state g.A.Actor.saved_state self.holders self.threads.items t s h c.index_mut-thread.ensures.value in
    let is = c.requires.here.at (local_of g.A.Actor.state g.A.Actor.saved_state self.holders t s) its in
    let p = layout_of self.memory in
    let sound = whole_sound p self.limit self.holders self.threads.items t s self.whole h c.index_mut-thread.ensures.value in
    let whole = whole_hold p self.limit self.holders held self.threads.items t word None self.whole h one c.release_one.ensures.limit
    (λ e. absurd (false≢true e)) in
    let same : local_of g.A.Actor.state g.A.Actor.saved_state self.holders t s ≡ l = same_Some _ l (sym its ∙ at) in
    let parts = giving_parts g.A.Actor.saved_state s.tx (saves_of s.log) ss b k (ap (λ (v : Local g.A.Actor.State). v.tx) same ∙ tx) in
    let bound = word_bound (layout_in self) in
    let memory = words_of c.undo_word.new.memory in
    let x = parts.0.tx in
    let gone = released_held t word self.holders held one in
    let mem : memory ≡ update m.memory word (kept_or (oldest ss word) (m.memory word)) = c.undo_word.ensures.words
    ∙ ap (λ z. update m.memory word (kept_or (oldest z word) (m.memory word))) parts.1 in
    let copy : g.A.Actor.saved_state c.in_ok-copy.copy ≡ k =
    c.in_ok-copy.ensures s x (read_at self.threads.items t s h c.index_mut-thread.ensures.value) parts.0.is ∙ parts.0.kept in
    let none = none_left self.holders held t word c.requires.last.0 one c.in-Some.ensures.held c.requires.last.1.1 in
    let rest_l = ap (λ (v : Local g.A.Actor.State). least (without v.held word) bound) (sym same)
    ∙ (ap (λ z. least z bound) (sym gone) ∙ none_held (layout_in self) held t none) in
    ap (kinded (Undone word)) (stepped g.A.Actor.state g.A.Actor.saved_state
    (record m { memory = memory }) self.holders held self.threads.items t s c.start_again.new.self l
    (λ (v : Local g.A.Actor.State). again v b k) refl refl refl h c.index_mut-thread.ensures.value at (others_same t word None self.holders held one)
    (again_hold g.A.Actor.state g.A.Actor.saved_state self.holders held t s c.start_again.new.self x b k (g.A.Actor.saved_state c.in_ok-copy.copy)
    (c.start_again.ensures.local held t x (c.undo_word.ensures.tx ∙ parts.0.is)
    ∙ ap (λ (v : Local g.A.Actor.State). record v {
      state = g.A.Actor.saved_state c.in_ok-copy.copy;
      tx = OpenTx x.birth (g.A.Actor.saved_state x.kept)
          (no_save ∷ []);
    }) (c.undo_word.ensures.local held t))
    none copy parts.0.birth parts.0.kept)
    c.start_again.ensures.waits)
    ∙ (ap (λ z. kinded (Undone word) (record (steps t m (again l b k)) { memory = z })) mem
    ∙ gives_some (layout_in self) t m l b k ss word (again l b k)
    (ap (λ (v : Local g.A.Actor.State). least v.held bound) (sym same)
    ∙ least_word (layout_in self) self.holders t word (self.whole.words t word c.in-Some.ensures.held) c.in-Some.ensures.held c.in-Some.ensures.least)
    (ap (given_back l b k ss word) (sym rest_l))))

pub start_again-requires : goal.start_again-requires
start_again-requires g c =
    let self = c.args.self.now in
    let t = c.args.t in
    let s = c.index_mut-thread.result.now in
    let h : t < length self.threads.items = c.requires.here.started in
    let its = thread_at g.A.Actor.state g.A.Actor.saved_state self.holders self.threads.items t s h c.index_mut-thread.ensures.value in
    let is = c.requires.here.at (local_of g.A.Actor.state g.A.Actor.saved_state self.holders t s) its in
    let mine = giving_parts g.A.Actor.saved_state s.tx (saves_of s.log) is.1.2 is.1.0 is.1.1 is.1.3 in
    live_marks (layout_of self.memory) c.undo_word.new.self c.undo_word.ensures.sound
    (ap has_saves c.undo_word.ensures.tx ∙ giving_live g.A.Actor.saved_state s.tx is.1.0 is.1.1 mine.0)
