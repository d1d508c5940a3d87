-- Sizes and values of accesses, by the laws of a thread.
use Rattle.std.proofs.Common.{ℕ, ◌≡◌, ◌<◌, ◌^◌, ◌*◌, Bool, true, subst}
use Rattle.std.specs.Prelude.{◌&&◌, ◌||◌, not, nat_lt}
use Rattle.std.proofs.lemmas.Bool.{ltb-true}
use Rattle.tx_events.specs.declared.Event.{Event}
use Rattle.tx_events.specs.declared.Event.TheVariants.{Load, Store}
use Rattle.tx_events.specs.Thread.{Thread, Lawful, may_come, is_size, no_atomic}
use Rattle.tx_events.proofs.WordLemmas.{and_left, and_right}

module _ {S : Type 0} {R : S → Type 0} {a : Thread S} (laws : Lawful S R a) (s : S) (reached : R s) where
  comes : (e : Event) → a.next s ≡ e → may_come e (a.blocks s) ≡ true
  comes e next = subst (λ v. may_come v (a.blocks s) ≡ true) next (laws.comes s reached)

  pub load_fits : (addr size : ℕ) (vol : Bool) → a.next s ≡ Load addr size vol → is_size size ≡ true
  load_fits addr size vol next = and_left (is_size size) (not vol || no_atomic (a.blocks s)) (comes (Load addr size vol) next)

  pub store_fits : (addr size value : ℕ) (vol : Bool) → a.next s ≡ Store addr size value vol → (is_size size ≡ true) × (value < 2 ^ (8 * size))
  store_fits addr size value vol next =
      let both = and_left (is_size size && nat_lt value (2 ^ (8 * size))) (not vol || no_atomic (a.blocks s)) (comes (Store addr size value vol) next) in (
        and_left (is_size size) (nat_lt value (2 ^ (8 * size))) both,
        ltb-true value (2 ^ (8 * size)) (and_right (is_size size) (nat_lt value (2 ^ (8 * size))) both),
      )
