-- What a step in a block comes to.
use Rattle.std.proofs.Common.{◌≡◌, ◌==◌, ℕ, suc, Bool, true, false, cond, List, [], ◌∷◌, ◌++◌, length, refl, sym, ap, ◌∙◌, subst, arith, eqb-true, eq-eqb}
use Rattle.std.specs.Prelude.{reverse, not, ◌≢◌}
use Rattle.std.proofs.lemmas.Bool.{false≢true}
use Rattle.std.proofs.lemmas.List.{length-map, length-reverse}
use Rattle.tx_events.specs.declared.End.TheVariants.{Trapped}
use Rattle.tx_events.specs.declared.Trap.TheVariants.{BadAddress}
use Rattle.tx_events.specs.declared.BlockKind.{BlockKind}
use Rattle.tx_events.specs.declared.BlockKind.TheVariants.{Cancel}
use Rattle.tx_events.specs.declared.Event.TheVariants.{Load, Store, BeginAtomic, EndAtomic, Raise}
use Rattle.tx_events.specs.Memory.{MemoryLayout, store, can_access}
use Rattle.tx_events.specs.Alone.{Inner, leave, inner_load, inner_store}
use Rattle.tx_events.specs.Alone as alone
use Rattle.src_replay.specs.declared.block.Step.{Step}
use Rattle.src_replay.specs.declared.block.Step.TheVariants.{Goes, Leaves, Halts}
use Rattle.src_replay.specs.declared.nested.Nested.{Nested}
use Rattle.src_replay.specs.Undone.{copies, undone, IsNested, Ended, Cancelled}
use Rattle.src_replay.specs.Inner.{untold, inner_of, comes_to, Came}
use Rattle.src_replay.proofs.Undone.{ended_copies, cancelled_copies, begun_copies}

-- the newest copy is dropped
left_by : (i : Inner (Unit {0})) (m c : ℕ → ℕ) (rest : List (ℕ → ℕ)) (n : ℕ) (b : Bool) → (n == 0) ≡ b → length rest ≡ n
    → Came m rest (cond b Leaves Goes) (leave untold i m (c ∷ rest))
left_by i m c [] n true h e = (refl, refl)
left_by i m c [] n false h e = absurd (false≢true (sym h ∙ eq-eqb n 0 (sym e)))
left_by i m c (d ∷ ds) n true h e = let k : suc (length ds) ≡ n = e in let z : n ≡ 0 = eqb-true n 0 h in absurd (omega (arith, k, z))
left_by i m c (d ∷ ds) n false h e = (refl, refl)

copies_count : (n : Nested) (m : ℕ → ℕ) → length (copies n m) ≡ length n.marks.items
copies_count n m = length-map (reverse n.marks.items) (λ (k : ℕ). undone n.notes.items k m) ∙ length-reverse n.marks.items

module _ (p : MemoryLayout) (old new : Nested) where
  pub ended_comes : (m after : ℕ → ℕ) (step : Step) → after ≡ m → step ≡ cond (length new.marks.items == 0) Leaves Goes → Ended old new
      → Came after (copies new after) step (comes_to p m (copies old m) EndAtomic)
  ended_comes m after step e f d =
      subst (λ (z : ℕ → ℕ). Came z (copies new z) step (comes_to p m (copies old m) EndAtomic)) (sym e)
      (subst (λ (s : Step). Came m (copies new m) s (comes_to p m (copies old m) EndAtomic)) (sym f)
      (subst (λ (z : List (ℕ → ℕ)). Came m (copies new m) (cond (length new.marks.items == 0) Leaves Goes) (comes_to p m z EndAtomic))
      (sym (ended_copies p old new m d))
      (left_by (inner_of m (undone old.notes.items d.mark m ∷ copies new m)) m (undone old.notes.items d.mark m) (copies new m) (length new.marks.items)
      (length new.marks.items == 0) refl (copies_count new m))))

  pub cancelled_comes : (m after : ℕ → ℕ) (step : Step) → step ≡ cond (length new.marks.items == 0) Leaves Goes → Cancelled old new m after → IsNested p old
      → Came after (copies new after) step (comes_to p m (copies old m) (Raise Cancel true))
  cancelled_comes m after step f d a =
      subst (λ (s : Step). Came after (copies new after) s (comes_to p m (copies old m) (Raise Cancel true))) (sym f)
      (subst (λ (z : List (ℕ → ℕ)). Came after (copies new after) (cond (length new.marks.items == 0) Leaves Goes) (comes_to p m z (Raise Cancel true)))
      (sym (cancelled_copies p old new m after d a))
      (left_by (inner_of m (after ∷ copies new after)) after after (copies new after) (length new.marks.items) (length new.marks.items == 0) refl
      (copies_count new after)))

  store_by : (m after : ℕ → ℕ) (cs : List (ℕ → ℕ)) (addr size value : ℕ) (b : Bool) → b ≡ true → after ≡ store m addr size value → copies new after ≡ cs
      → Came after (copies new after) Goes (cond b (alone.Goes (inner_store untold (inner_of m cs) addr size value)) (alone.Halts (Trapped BadAddress)))
  store_by m after cs addr size value true h e f = (e, f)
  store_by m after cs addr size value false h e f = absurd (false≢true h)

  pub store_comes : (m after : ℕ → ℕ) (addr size value : ℕ) (volatile : Bool) (step : Step) → step ≡ Goes → can_access p addr size ≡ true
      → after ≡ store m addr size value → copies new after ≡ copies old m
      → Came after (copies new after) step (comes_to p m (copies old m) (Store addr size value volatile))
  store_comes m after addr size value volatile step s h e f =
      subst (λ (z : Step). Came after (copies new after) z (comes_to p m (copies old m) (Store addr size value volatile))) (sym s)
      (store_by m after (copies old m) addr size value (can_access p addr size) h e f)

  trap_by : (after : ℕ → ℕ) (b : Bool) (i : Inner (Unit {0})) → b ≡ false
      → Came after (copies new after) (Halts (Trapped BadAddress)) (cond b (alone.Goes i) (alone.Halts (Trapped BadAddress)))
  trap_by after true i h = absurd (false≢true (sym h))
  trap_by after false i h = refl

  pub store_traps : (m after : ℕ → ℕ) (addr size value : ℕ) (volatile : Bool) (step : Step) → step ≡ Halts (Trapped BadAddress) → can_access p addr size ≡ false
      → Came after (copies new after) step (comes_to p m (copies old m) (Store addr size value volatile))
  store_traps m after addr size value volatile step s h =
      subst (λ (z : Step). Came after (copies new after) z (comes_to p m (copies old m) (Store addr size value volatile))) (sym s)
      (trap_by after (can_access p addr size) (inner_store untold (inner_of m (copies old m)) addr size value) h)

  pub load_traps : (m after : ℕ → ℕ) (addr size : ℕ) (volatile : Bool) (step : Step) → step ≡ Halts (Trapped BadAddress) → can_access p addr size ≡ false
      → Came after (copies new after) step (comes_to p m (copies old m) (Load addr size volatile))
  load_traps m after addr size volatile step s h =
      subst (λ (z : Step). Came after (copies new after) z (comes_to p m (copies old m) (Load addr size volatile))) (sym s)
      (trap_by after (can_access p addr size) (inner_load untold (inner_of m (copies old m)) addr size) h)

  load_by : (m after : ℕ → ℕ) (cs : List (ℕ → ℕ)) (addr size : ℕ) (b : Bool) → b ≡ true → after ≡ m → copies new after ≡ cs
      → Came after (copies new after) Goes (cond b (alone.Goes (inner_load untold (inner_of m cs) addr size)) (alone.Halts (Trapped BadAddress)))
  load_by m after cs addr size true h e f = (e, f)
  load_by m after cs addr size false h e f = absurd (false≢true h)

  pub load_comes : (m after : ℕ → ℕ) (addr size : ℕ) (volatile : Bool) (step : Step) → step ≡ Goes → can_access p addr size ≡ true → after ≡ m
      → copies new after ≡ copies old m → Came after (copies new after) step (comes_to p m (copies old m) (Load addr size volatile))
  load_comes m after addr size volatile step s h e f =
      subst (λ (z : Step). Came after (copies new after) z (comes_to p m (copies old m) (Load addr size volatile))) (sym s)
      (load_by m after (copies old m) addr size (can_access p addr size) h e f)

  pub begun_comes : (m after : ℕ → ℕ) (kind : BlockKind) (step : Step) → step ≡ Goes → after ≡ m → new.notes.items ≡ old.notes.items
      → new.marks.items ≡ old.marks.items ++ length old.notes.items ∷ []
      → Came after (copies new after) step (comes_to p m (copies old m) (BeginAtomic kind))
  begun_comes m after kind step s e f g =
      subst (λ (z : Step). Came after (copies new after) z (comes_to p m (copies old m) (BeginAtomic kind))) (sym s)
      (e, ap (copies new) e ∙ begun_copies p old new m f g)

open_is : (b : Bool) (ms : List ℕ) → b ≡ (length ms == 0) → not b ≡ true → ms ≡ [] → ⊥
open_is true ms e h f = false≢true h
open_is false ms e h f = false≢true (e ∙ eq-eqb (length ms) 0 (ap length f))

pub is_open : (b : Bool) (ms : List ℕ) → b ≡ (length ms == 0) → not b ≡ true → ms ≢ []
is_open b ms e h = λ f. open_is b ms e h f

pub is_shut : (b : Bool) (ms : List ℕ) → b ≡ (length ms == 0) → not b ≡ false → ms ≡ []
is_shut true ms e h = no_marks ms (eqb-true (length ms) 0 (sym e))
  where
    no_marks : (ms : List ℕ) → length ms ≡ 0 → ms ≡ []
    no_marks [] h = refl
    no_marks (m ∷ ms) h = let k : suc (length ms) ≡ 0 = h in absurd (omega (arith, k))
is_shut false ms e h = absurd (false≢true (sym h))
