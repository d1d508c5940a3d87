-- The open blocks of a thread, and how many of them are atomic.
use Rattle.std.proofs.Common.{suc, ◌≡◌, Bool, true, false, refl, List, [], ◌∷◌, arith}
use Rattle.std.proofs.lemmas.Bool.{false≢true}
use Rattle.tx_events.specs.declared.BlockKind.{BlockKind}
use Rattle.tx_events.specs.declared.Event.{Event}
use Rattle.tx_events.specs.declared.Event.TheVariants.{
  Silent,
  Load,
  Store,
  Out,
  Inp,
  Spawn,
  Join,
  BeginAtomic,
  EndAtomic,
  Raise,
  BeginSync,
  EndSync,
  Done,
  Stop,
}
use Rattle.tx_events.specs.Thread.{Open, Atomic, Sync, atomics, blocks_after, may_come, rest_of, in_atomic, in_kind, in_sync, no_atomic, is_empty}

-- the blocks after an event that neither begins nor ends an atomic one
abbrev pub keeps_blocks : Event → Bool
keeps_blocks (BeginAtomic kind) = false
keeps_blocks EndAtomic = false
keeps_blocks (Raise kind c) = false
keeps_blocks Silent = true
keeps_blocks (Load addr size vol) = true
keeps_blocks (Store addr size value vol) = true
keeps_blocks (Out byte) = true
keeps_blocks Inp = true
keeps_blocks (Spawn f x) = true
keeps_blocks (Join id) = true
keeps_blocks BeginSync = true
keeps_blocks EndSync = true
keeps_blocks Done = true
keeps_blocks (Stop e) = true

pub rest_sync : (bs : List Open) → in_sync bs ≡ true → atomics (rest_of bs) ≡ atomics bs
rest_sync [] h = refl
rest_sync (Atomic kind ∷ bs) h = absurd (false≢true h)
rest_sync (Sync ∷ bs) h = refl

pub rest_atomic : (bs : List Open) → in_atomic bs ≡ true → suc (atomics (rest_of bs)) ≡ atomics bs
rest_atomic [] h = absurd (false≢true h)
rest_atomic (Atomic kind ∷ bs) h = refl
rest_atomic (Sync ∷ bs) h = absurd (false≢true h)

pub kind_atomic : (kind : BlockKind) (bs : List Open) → in_kind kind bs ≡ true → in_atomic bs ≡ true
kind_atomic kind [] h = absurd (false≢true h)
kind_atomic kind (Atomic k ∷ bs) h = refl
kind_atomic kind (Sync ∷ bs) h = absurd (false≢true h)

pub blocks_kept : (e : Event) (bs : List Open) → keeps_blocks e ≡ true → may_come e bs ≡ true → atomics (blocks_after e bs) ≡ atomics bs
blocks_kept (BeginAtomic kind) bs h c = absurd (false≢true h)
blocks_kept EndAtomic bs h c = absurd (false≢true h)
blocks_kept (Raise kind can) bs h c = absurd (false≢true h)
blocks_kept Silent bs h c = refl
blocks_kept (Load addr size vol) bs h c = refl
blocks_kept (Store addr size value vol) bs h c = refl
blocks_kept (Out byte) bs h c = refl
blocks_kept Inp bs h c = refl
blocks_kept (Spawn f x) bs h c = refl
blocks_kept (Join id) bs h c = refl
blocks_kept BeginSync bs h c = refl
blocks_kept EndSync bs h c = rest_sync bs c
blocks_kept Done bs h c = refl
blocks_kept (Stop e) bs h c = refl

pub none_atomic : (bs : List Open) → no_atomic bs ≡ true → atomics bs ≡ 0
none_atomic [] h = refl
none_atomic (Atomic kind ∷ bs) h = absurd (false≢true h)
none_atomic (Sync ∷ bs) h = none_atomic bs h

pub none_here : (bs : List Open) → atomics bs ≡ 0 → in_atomic bs ≡ true → ⊥
none_here [] i j = false≢true j
none_here (Atomic kind ∷ bs) i j = omega (arith, i)
none_here (Sync ∷ bs) i j = false≢true j

pub empty_none : (bs : List Open) → is_empty bs ≡ true → no_atomic bs ≡ true
empty_none [] j = refl
empty_none (o ∷ bs) j = absurd (false≢true j)
