-- A turn by the row that applies.
use Rattle.std.proofs.Common.{ℕ, ◌≡◌, ◌<◌, length, get_or, subst, arith, false, cond, Some, None, List, ap, sym, ◌∙◌}
use Rattle.choosers.specs.declared.Clash.{Clash}
use Rattle.choosers.specs.declared.Choice.{Choice}
use Rattle.tx_events.specs.declared.Event.{Event}
use Rattle.tx_events.specs.declared.TurnKind.TheVariants.{Idle}
use Rattle.tx_events.specs.Memory.{MemoryLayout, word_bound}
use Rattle.tx_events.specs.Thread.{Thread, Answers}
use Rattle.tx_events.specs.declared.Reply.{Reply}
use Rattle.tx_runtime.specs.declared.thread.ThreadSlot.{ThreadSlot}
use Rattle.tx_runtime.specs.Threads.{local_of}
use Rattle.tx_serial.specs.Machine.{Machine, Local, Tx, NoTx, OpenTx, GivingUp, Closing, Save, least}
use Rattle.std.specs.Prelude.{Result, Ok, Err, IfOk}
use Rattle.tx_runtime.specs.declared.engine.Engine.{Engine}
use Rattle.tx_runtime.specs.View.{machine_in, layout_in}
use Rattle.tx_runtime.proofs.ThreadTables.{started_thread, thread_at}
use Rattle.tx_serial.specs.Turn.{Turned, lets_go, gives_back, stays, out_does, in_does, turn_in, turn_of, turn_at, turn}
use Rattle.tx_runtime.specs.Here.{GoesOutside, IsOutside, GoesInside, IsInside, GivesUp, Closes}

module _ {S : Type 0} (a : Thread S) (p : MemoryLayout) (answer : Clash → Choice) (t : ℕ) (m : Machine S) (l : Local S) where
  -- a thread that goes on
  pub going_turn : (tx : Tx S) → m.end ≡ None → m.threads t ≡ Some l → l.ended ≡ false → l.tx ≡ tx → turn_in a p answer t m l tx ≡ turn a p answer t m
  going_turn tx going at up is =
      ap (turn_in a p answer t m l) (sym is)
      ∙ (ap (λ b. cond b (stays Idle m) (turn_in a p answer t m l l.tx)) (sym up)
      ∙ (ap (turn_of a p answer t m) (sym at) ∙ ap (turn_at a p answer t m) (sym going)))

  pub outside_turn : (R : S → Type 0) (e : Event) → GoesOutside R a t m e → m.threads t ≡ Some l → out_does a p t m l e ≡ turn a p answer t m
  outside_turn R e h at = ap (out_does a p t m l) (sym (h.at l at).next) ∙ going_turn NoTx h.going at (h.at l at).up (h.at l at).tx

  pub inside_turn : (R : S → Type 0) (e : Event) (b : ℕ) (k : S) (ss : List Save) → GoesInside R a t m e → m.threads t ≡ Some l → l.tx ≡ OpenTx b k ss
      → in_does a p answer t m l b k ss e ≡ turn a p answer t m
  inside_turn R e b k ss h at tx = ap (in_does a p answer t m l b k ss) (sym (h.at l at).next) ∙ going_turn (OpenTx b k ss) h.going at (h.at l at).up tx

pub if_ok : {T E : Type 0} {P Q : T → Type 0} (r : Result T E) → ((x : T) → P x → Q x) → IfOk r P → IfOk r Q
if_ok (Ok x) f h = f x h
if_ok (Err e) f h = tt

-- a row of a thread without a transaction, at any thread that stands there
pub outside_row : {A K S : Type 0} (state : A → S) (saved : K → S) (R : S → Type 0) (a : Thread S) (e : Engine A K) (answer : Clash → Choice) (t : ℕ)
    (event : Event) (to : Turned S)
    → GoesOutside R a t (machine_in state saved e) event
    → ((l : Local S) → (machine_in state saved e).threads t ≡ Some l → IsOutside R a l event
    → to ≡ out_does a (layout_in e) t (machine_in state saved e) l event)
    → to ≡ turn a (layout_in e) answer t (machine_in state saved e)
outside_row state saved R a e answer t event to here row =
    let there = started_thread state saved e t here.started in
    row there.0 there.1 (here.at there.0 there.1) ∙ outside_turn a (layout_in e) answer t (machine_in state saved e) there.0 R event here there.1

-- a row of a thread in an open transaction
pub inside_row : {A K S : Type 0} (state : A → S) (saved : K → S) (R : S → Type 0) (a : Thread S) (e : Engine A K) (answer : Clash → Choice) (t : ℕ)
    (event : Event) (to : Turned S)
    → GoesInside R a t (machine_in state saved e) event
    → ((l : Local S) → (machine_in state saved e).threads t ≡ Some l → (i : IsInside R a l event)
    → to ≡ in_does a (layout_in e) answer t (machine_in state saved e) l i.birth i.kept i.saves event)
    → to ≡ turn a (layout_in e) answer t (machine_in state saved e)
inside_row state saved R a e answer t event to here row =
    let there = started_thread state saved e t here.started in
    let i = here.at there.0 there.1 in
    row there.0 there.1 i ∙ inside_turn a (layout_in e) answer t (machine_in state saved e) there.0 R event i.birth i.kept i.saves here there.1 i.tx

-- a thread in an engine that shows the same machine

pub started_in : {A K S : Type 0} (state : A → S) (saved : K → S) (q : Engine A K) (m : Machine S) (t : ℕ) → machine_in state saved q ≡ m → t < m.started
    → t < length q.threads.items
started_in state saved q m t same h = let e = ap (λ z. z.started) same in omega (arith, e, h)

pub at_in : {A K S : Type 0} (state : A → S) (saved : K → S) (q : Engine A K) (m : Machine S) (t : ℕ) (s : ThreadSlot A K) → machine_in state saved q ≡ m
    → t < length q.threads.items → s ≡ get_or q.threads.items t s → m.threads t ≡ Some (local_of state saved q.holders t s)
at_in state saved q m t s same h here = ap (λ z. z.threads t) (sym same) ∙ thread_at state saved q.holders q.threads.items t s h here

pub answers_at : {S : Type 0} (a : Thread S) (s : S) (e : Event) (r : Reply) → a.next s ≡ e → Answers e r → Answers (a.next s) r
answers_at a s e r next h = subst (λ v. Answers v r) (sym next) h

-- the row of a thread whose transaction is closing
pub closing_row : {A K S : Type 0} (state : A → S) (saved : K → S) (a : Thread S) (e : Engine A K) (answer : Clash → Choice) (t : ℕ) (to : Turned S)
    → Closes t (machine_in state saved e)
    → ((l : Local S) (b : ℕ) → (machine_in state saved e).threads t ≡ Some l → l.tx ≡ Closing b
    → to ≡ lets_go (layout_in e) t (machine_in state saved e) l b (least l.held (word_bound (layout_in e))))
    → to ≡ turn a (layout_in e) answer t (machine_in state saved e)
closing_row state saved a e answer t to here row =
    let there = started_thread state saved e t here.started in
    let is = here.at there.0 there.1 in
    row there.0 is.1.0 there.1 is.1.1 ∙ going_turn a (layout_in e) answer t (machine_in state saved e) there.0 (Closing is.1.0) here.going there.1 is.0 is.1.1

-- the row of a thread whose transaction gives up
pub giving_row : {A K S : Type 0} (state : A → S) (saved : K → S) (a : Thread S) (e : Engine A K) (answer : Clash → Choice) (t : ℕ) (to : Turned S)
    → GivesUp t (machine_in state saved e)
    → ((l : Local S) (b : ℕ) (k : S) (ss : List Save) → (machine_in state saved e).threads t ≡ Some l → l.tx ≡ GivingUp b k ss
    → to ≡ gives_back (layout_in e) t (machine_in state saved e) l b k ss (least l.held (word_bound (layout_in e))))
    → to ≡ turn a (layout_in e) answer t (machine_in state saved e)
giving_row state saved a e answer t to here row =
    let there = started_thread state saved e t here.started in
    let is = here.at there.0 there.1 in
    row there.0 is.1.0 is.1.1 is.1.2 there.1 is.1.3 ∙ going_turn a (layout_in e) answer t (machine_in state saved e) there.0
    (GivingUp is.1.0 is.1.1 is.1.2) here.going there.1 is.0 is.1.3
