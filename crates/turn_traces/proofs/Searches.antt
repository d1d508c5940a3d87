-- What a machine looks for is the same without the notes.
use Rattle.std.proofs.Common.{ℕ, ℤ, pos, negsuc, ◌≡◌, ◌==◌, Bool, true, false, cond, refl, ap, ◌∙◌, Option, Some, None}
use Rattle.std.specs.Prelude.{not, ◌&&◌, ◌||◌}
use Rattle.std.proofs.Math.Path.{fun_ext}
use Rattle.tx_events.specs.World.{target}
use Rattle.tx_serial.specs.Machine.{
  Machine,
  Local,
  Tx,
  NoTx,
  OpenTx,
  GivingUp,
  Closing,
  held_by,
  wrote_by,
  live_in,
  is_live,
  birth,
  birth_of,
  conflicts_with,
  blocker,
  busy,
  least,
  eldest,
  greatest,
  count,
  waits_at,
  clash_of,
}
use Rattle.tx_serial.proofs.HistoryErased.{erase, erase_tx, erase_opt}

module _ {S X : Type 0} where
  birth_same : (o : Option (Local (S × X))) → birth_of (erase_opt o) ≡ birth_of o
  birth_same None = refl
  birth_same (Some l) = by l.tx
    where
      by : (z : Tx (S × X)) → birth (erase_tx z) ≡ birth z
      by NoTx = refl
      by (OpenTx b k ss) = refl
      by (GivingUp b k ss) = refl
      by (Closing b) = refl

  live_same : (o : Option (Local (S × X))) → live_in (erase_opt o) ≡ live_in o
  live_same None = refl
  live_same (Some l) = by l.tx
    where
      by : (z : Tx (S × X)) → is_live (erase_tx z) ≡ is_live z
      by NoTx = refl
      by (OpenTx b k ss) = refl
      by (GivingUp b k ss) = refl
      by (Closing b) = refl

  keeps_same : (t : ℕ) (store : Bool) (x u : ℕ) (o : Option (Local (S × X)))
      → (not (u == t) && cond store (held_by (erase_opt o) x) (wrote_by (erase_opt o) x)) ≡ (not (u == t) && cond store (held_by o x) (wrote_by o x))
  keeps_same t store x u None = refl
  keeps_same t store x u (Some l) = refl

  pub blocker_same : (t : ℕ) (store : Bool) (x : ℕ) (m : Machine (S × X)) → blocker t store x (erase m) ≡ blocker t store x m
  blocker_same t store x m =
      let p = fun_ext (λ u. keeps_same t store x u (m.threads u)) in
      let f = fun_ext (λ u. birth_same (m.threads u)) in
      ap (λ q. eldest q (λ u. birth_of (erase_opt (m.threads u))) m.started) p ∙ ap (λ g. eldest (conflicts_with t store x m.threads) g m.started) f

  pub busy_same : (t : ℕ) (m : Machine (S × X)) → busy t (erase m) ≡ busy t m
  busy_same t m = ap (λ q. least q m.started) (fun_ext (λ u. ap (λ b. not (u == t) && b) (live_same (m.threads u))))

  pub clash_same : (t : ℕ) (store : Bool) (x b u : ℕ) (m : Machine (S × X)) → clash_of t store x (erase m) b u ≡ clash_of t store x m b u
  clash_same t store x b u m =
      let off = fun_ext (λ v. keeps_same t store x v (m.threads v)) in
      let age = fun_ext (λ v. birth_same (m.threads v)) in
      let most = ap (λ q. greatest q (λ v. birth_of (erase_opt (m.threads v))) m.started) off
      ∙ ap (λ g. greatest (conflicts_with t store x m.threads) g m.started) age in
      let many = ap (λ q. count q m.started) off in
      let least = birth_same (m.threads u) in
      λ i. record { mine = b; least = least i; greatest = most i; count = many i; waits = waits_at (m.waits t) x (least i) }

  pub target_same : (t : ℕ) (id : ℤ) (f : ℕ → Option (Local (S × X))) → target t id (λ u. erase_opt (f u)) ≡ erase_opt (target t id f)
  target_same t (negsuc n) f = refl
  target_same t (pos n) f = elim ((n == 0) || (n == t)) as (λ b. cond b None (erase_opt (f n)) ≡ erase_opt (cond b None (f n))) [
    | true ↦ refl
    | false ↦ refl
  ]
