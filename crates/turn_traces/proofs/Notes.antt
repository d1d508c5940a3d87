-- A thread with its open blocks and its accesses in its state.
use Rattle.std.proofs.Common.{ℕ, suc, ◌≡◌, ◌+◌, ◌-◌, true, refl, ap, sym, ◌∙◌, length, List, [], ◌∷◌, ◌++◌, arith}
use Rattle.tx_events.specs.declared.Event.{Event}
use Rattle.tx_events.specs.declared.Event.TheVariants.{
  Silent,
  Load,
  Store,
  Out,
  Inp,
  Spawn,
  Join,
  BeginAtomic,
  EndAtomic,
  Raise,
  BeginSync,
  EndSync,
  Done,
  Stop,
}
use Rattle.tx_events.specs.declared.What.{What}
use Rattle.tx_events.specs.declared.What.TheVariants.{Read, Write}
use Rattle.tx_events.specs.Thread.{Thread, Lawful, Open, atomics, blocks_after, may_come, rest_of, in_atomic}
use Rattle.tx_serial.specs.Bound.{with_more}
use Rattle.tx_serial.proofs.OpenBlocks.{rest_sync, rest_atomic, kind_atomic}
use Rattle.turn_traces.specs.Keeping.{Kept, kept_after, without_atomic}

pub record Note : Type 0 where
  pub blocks : List Open
  pub whats : List What

abbrev pub no_note : Note
no_note = record { blocks = []; whats = [] }

-- the access of an event
abbrev pub whats_of : Event → List What
whats_of (Load addr size vol) = Read addr size ∷ []
whats_of (Store addr size value vol) = Write addr size ∷ []
whats_of Silent = []
whats_of (Out byte) = []
whats_of Inp = []
whats_of (Spawn f x) = []
whats_of (Join id) = []
whats_of (BeginAtomic kind) = []
whats_of EndAtomic = []
whats_of (Raise kind can) = []
whats_of BeginSync = []
whats_of EndSync = []
whats_of Done = []
whats_of (Stop e) = []

abbrev pub note_in : Event → Note → Note
note_in e n = record { blocks = blocks_after e n.blocks; whats = n.whats ++ whats_of e }

abbrev pub noted : {S : Type 0} → Thread S → Thread (S × Note)
noted a = with_more no_note (λ n e r. note_in e n) a

-- the state is a reached one, and its blocks are noted
pub record Reached {S : Type 0} (R : S → Type 0) (a : Thread S) (s : S × Note) : Type 0 where
  pub reached : R s.0
  pub blocks : s.1.blocks ≡ a.blocks s.0

pub noted_laws : {S : Type 0} (R : S → Type 0) (a : Thread S) → Lawful S R a → Lawful (S × Note) (Reached R a) (noted a)
noted_laws R a laws = record {
  goes_on = λ s r h f. record {
    reached = laws.goes_on s.0 r h.reached f;
    blocks = ap (blocks_after (a.next s.0)) h.blocks ∙ sym (laws.blocks s.0 r h.reached f);
  };
  starts = λ s n f x h e. record { reached = laws.starts s.0 n f x h.reached e; blocks = sym (laws.starts_free s.0 n f x h.reached e) };
  starts_free = λ s n f x h e. laws.starts_free s.0 n f x h.reached e;
  comes = λ s h. laws.comes s.0 h.reached;
  blocks = λ s r h f. laws.blocks s.0 r h.reached f;
}

-- What is kept counts the open blocks.
pub record Counts (bs : List Open) (x : Kept) : Type 0 where
  pub all : x.open_blocks ≡ length bs
  pub atomic : x.atomic_blocks ≡ atomics bs

less : (n m : ℕ) → n ≡ suc m → n - 1 ≡ m
less n m e = omega (arith, e)

more : (n m : ℕ) → n ≡ m → n + 1 ≡ suc m
more n m e = omega (arith, e)

rest_length : (bs : List Open) → length (rest_of bs) ≡ length bs - 1
rest_length [] = refl
rest_length (b ∷ bs) = omega arith

pub left_atomic : (bs : List Open) (x : Kept) → in_atomic bs ≡ true → Counts bs x → Counts (rest_of bs) (without_atomic x)
left_atomic bs x h c = record {
  all = ap (λ n. n - 1) c.all ∙ sym (rest_length bs);
  atomic = less x.atomic_blocks (atomics (rest_of bs)) (c.atomic ∙ sym (rest_atomic bs h));
}

pub counts_after : (e : Event) (bs : List Open) (x : Kept) → may_come e bs ≡ true → Counts bs x → Counts (blocks_after e bs) (kept_after e x)
counts_after (Load addr size vol) bs x h c = record { all = c.all; atomic = c.atomic }
counts_after (Store addr size value vol) bs x h c = record { all = c.all; atomic = c.atomic }
counts_after (BeginAtomic kind) bs x h c = record { all = more x.open_blocks (length bs) c.all; atomic = more x.atomic_blocks (atomics bs) c.atomic }
counts_after EndAtomic bs x h c = left_atomic bs x h c
counts_after (Raise kind can) bs x h c = left_atomic bs x (kind_atomic kind bs h) c
counts_after BeginSync bs x h c = record { all = more x.open_blocks (length bs) c.all; atomic = c.atomic }
counts_after EndSync bs x h c = record { all = ap (λ n. n - 1) c.all ∙ sym (rest_length bs); atomic = c.atomic ∙ sym (rest_sync bs h) }
counts_after Silent bs x h c = c
counts_after (Out byte) bs x h c = c
counts_after Inp bs x h c = c
counts_after (Spawn f y) bs x h c = c
counts_after (Join id) bs x h c = c
counts_after Done bs x h c = c
counts_after (Stop e) bs x h c = c
