-- Moves make a simulation of any length.
use Rattle.std.proofs.Common.{ℕ, zero, suc, ◌≡◌, ◌+◌, ◌-◌, ◌<◌, ◌≤◌, inl, inr, refl, ap, sym, subst, arith}
use Rattle.tx_events.specs.declared.Event.TheVariants.{Silent}
use Rattle.tx_events.specs.declared.Reply.TheVariants.{Nothing}
use Rattle.tx_events.specs.Thread.{Thread, is_silent}
use Rattle.tx_events.specs.Same.{SameEvents, StepsWithin}
use Rattle.tx_events.specs.Simulation.{Path, here, step, SimulationBound, SilentMatch, Stepped, Sim}
use Rattle.tx_events.proofs.SimulationLemmas.{simulated, simulated_within}
use Rattle.lockstep.specs.Moves.{Ranked, Meeting, Striding, Move, meets, strides, waits, leads}

module _ {S T : Type 0} (a : Thread S) (b : Thread T) (most longest : ℕ) (Related : ℕ → S → T → Type 0)
    (move : (rank : ℕ) (s : S) (t : T) → rank ≤ most → Related rank s t → Move a b most longest Related rank s t) where
  terms : SimulationBound S T
  terms = record { first = a; second = b; rate = most + 1; most = longest + longest }

  -- one more silent step behind others
  further : {n : ℕ} {t u : T} → Path b n t u → b.next u ≡ Silent → Path b (n + 1) t (b.after u Nothing)
  further here e = step e here
  further (step i p) e = step i (further p e)

  -- for so many steps of the first
  abbrev Holds : ℕ → Type 0
  Holds n = (s : S) (t : T) → Ranked most Related s t → Sim terms n longest most s t

  record First (s q : S) (k : ℕ) : Type 0 where
    silent : a.next s ≡ Silent
    others : Path a k (a.after s Nothing) q

  first : {m k : ℕ} {s q : S} → Path a m s q → m ≡ k + 1 → First s q k
  first {k} here e = absurd (none k e)
    where
      none : (k : ℕ) → 0 ≡ k + 1 → ⊥
      none k e = omega (arith, e)
  first {k} {s} {q} (step {n} i p) e = record { silent = i; others = subst (λ z. Path a z (a.after s Nothing) q) (same n k e) p }
    where
      same : (n k : ℕ) → n + 1 ≡ k + 1 → n ≡ k
      same n k e = omega (arith, e)

  -- a silent step of the first
  quietly : (n p : ℕ) {s : S} {t : T} → a.next s ≡ Silent → SilentMatch terms (Sim terms n) p most s t → Sim terms (suc n) p most s t
  unfolding terms
  quietly n p {s} {t} e m = subst (λ v. Stepped terms (Sim terms n) p most s t v) (sym (ap is_silent e)) m

  -- the first is on its way, and the second stands
  along : {m : ℕ} {s q : S} (n p o : ℕ) {t : T} → Path a m s q → p ≡ m + o → ((k : ℕ) → k ≤ n → Sim terms k o most q t) → Sim terms n p most s t
  unfolding terms
  along {s} n p o {t} here e goes = subst (λ z. Sim terms n z most s t) (plain p o e) (goes n (omega arith))
    where
      plain : (p o : ℕ) → p ≡ 0 + o → o ≡ p
      plain p o e = omega (arith, e)
  along zero p o (step i w) e goes = tt
  along (suc n) p o {t} (step {n = m} i w) e goes = quietly n p i (record {
    steps = 0;
    patience_left = m + o;
    credit_left = most;
    to = t;
    path = here;
    waits = inl (falls p m o e);
    pays = omega arith;
    goes = along n (m + o) o w refl (λ k l. goes k (omega (arith, l)));
  })
    where
      falls : (p m o : ℕ) → p ≡ m + 1 + o → m + o + 1 ≤ p
      falls p m o e = omega (arith, e)

  -- both take the same event
  met : (n p q : ℕ) {s : S} {u t : T} → ((k : ℕ) → k < n → Holds k) → Path b q u t → q ≤ most → Meeting a b most Related s t → Sim terms n p most s u
  unfolding terms
  met zero p q below w few m = tt
  met (suc n) p q {s} {u} {t} below w few m = subst (λ v. Stepped terms (Sim terms n) p most s u v) (sym m.loud) (record {
    steps = q;
    to = t;
    path = w;
    same = m.same;
    pays = few;
    on = λ reply fits. record {
      patience_left = longest;
      credit_left = most;
      waits = omega arith;
      pays = omega (arith, few);
      goes = below n (omega arith) (a.after s reply) (b.after t reply) (m.on reply fits);
    };
  })

  -- both are silent
  strode : (n q : ℕ) {s : S} {u t : T} → ((k : ℕ) → k < n → Holds k) → Path b q u t → q ≤ most → Striding a b most longest Related s t
      → Sim terms n longest most s u
  unfolding terms
  strode zero q below w few m = tt
  strode (suc n) q {s} {u} {t} below w few m =
      let f = first m.path refl in
      quietly n longest f.silent (record {
        steps = q + 1;
        patience_left = m.steps + longest;
        credit_left = most;
        to = b.after t Nothing;
        path = further w m.silent;
        waits = inr (omega arith, twice m.steps m.few);
        pays = omega (arith, few);
        goes = along n (m.steps + longest) longest f.others refl (λ k l. below k (omega (arith, l)) m.to (b.after t Nothing) m.goes);
      })
    where
      twice : (k : ℕ) → k ≤ longest → k + longest ≤ longest + longest
      twice k l = omega (arith, l)

  -- behind so many silent steps of the second
  walk : (fuel n q rank : ℕ) {s : S} {u t : T} → ((k : ℕ) → k < n → Holds k) → Path b q u t → rank ≤ fuel → q + rank ≤ most → Related rank s t
      → Sim terms n longest most s u
  walk zero n q rank {s} {u} {t} below w low few h =
      elim (move rank s t (omega (arith, few)) h) [
        | meets m ↦ met n longest q below w (omega (arith, few)) m
        | strides m ↦ strode n q below w (omega (arith, few)) m
        | waits m ↦ absurd (omega (arith, low, m.falls))
        | leads {n = k} short p m ↦ along n longest (longest - k) p (omega (arith, short))
            (λ j l. met j (longest - k) q (λ i x. below i (omega (arith, x, l))) w (omega (arith, few)) m)
      ]
  walk (suc fuel) n q rank {s} {u} {t} below w low few h =
      elim (move rank s t (omega (arith, few)) h) [
        | meets m ↦ met n longest q below w (omega (arith, few)) m
        | strides m ↦ strode n q below w (omega (arith, few)) m
        | waits m ↦ walk fuel n (q + 1) m.lower below (further w m.silent) (omega (arith, low, m.falls)) (omega (arith, few, m.falls)) m.goes
        | leads {n = k} short p m ↦ along n longest (longest - k) p (omega (arith, short))
            (λ j l. met j (longest - k) q (λ i x. below i (omega (arith, x, l))) w (omega (arith, few)) m)
      ]

  holds : (n : ℕ) (k : ℕ) → k < n → Holds k
  holds zero k l = absurd (omega (arith, l))
  holds (suc n) k l = λ s t r. walk r.rank k 0 r.rank (λ j i. holds n j (omega (arith, i, l))) here (omega arith) (omega (arith, r.low)) r.related

  always : (rank : ℕ) (s : S) (t : T) → rank ≤ most → Related rank s t → (n : ℕ) → Sim terms n longest most s t
  always rank s t low h n = holds (suc n) n (omega arith) s t (record { rank = rank; low = low; related = h })

  pub moves_same : (rank : ℕ) (s : S) (t : T) → rank ≤ most → Related rank s t → SameEvents a b s t
  unfolding terms
  moves_same rank s t low h = simulated terms longest most s t (always rank s t low h)

  pub moves_within : (rank : ℕ) (s : S) (t : T) → rank ≤ most → Related rank s t → StepsWithin a b (most + 1) most s t
  unfolding terms
  moves_within rank s t low h = simulated_within terms longest most s t (always rank s t low h)
