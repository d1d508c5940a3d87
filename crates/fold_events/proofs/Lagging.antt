-- A thread that leaves out silent steps of another one has its events, and takes no more steps.
use Rattle.std.proofs.Common.{ℕ, zero, suc, ◌≡◌, ◌+◌, ◌*◌, ◌<◌, ◌≤◌, false, ap, sym, ◌∙◌, subst, List, arith}
use Rattle.std.proofs.lemmas.Bool.{true≢false}
use Rattle.tx_events.specs.declared.Event.{Event}
use Rattle.tx_events.specs.declared.Event.TheVariants.{Silent}
use Rattle.tx_events.specs.declared.Reply.{Reply}
use Rattle.tx_events.specs.declared.Reply.TheVariants.{Nothing}
use Rattle.tx_events.specs.Thread.{Thread, Answers, is_silent}
use Rattle.tx_events.specs.Same.{Reaches, at_once, silently, answered, steps, SameEvents, StepsWithin}
use Rattle.tx_events.specs.Simulation.{Path, here, step}
use Rattle.tx_events.proofs.SimulationLemmas.{one_length}
use Rattle.fold_events.specs.Lagging.{Lags}

module _ {S T : Type 0} (a : Thread S) (shown : S → T) where
  pub at_last : {s : S} {r : T} → r ≡ shown s → Lags a shown s r
  at_last {s} e = record { many = 0; to = s; path = here; is = e }

  pub joined : {n m : ℕ} {s q t : S} → Path a n s q → Path a m q t → (k : ℕ) × Path a k s t
  joined {m} here g = (m, g)
  joined (step e f) g = let h = joined f g in (h.0 + 1, step e h.1)

  -- more silent steps in front
  pub behind : {n : ℕ} {s q : S} {r : T} → Path a n s q → Lags a shown q r → Lags a shown s r
  behind f l = let g = joined f l.path in record { many = g.0; to = l.to; path = g.1; is = l.is }

  along : {n : ℕ} {s q t : S} {replies : List Reply} → Path a n s q → Reaches a q replies t → Reaches a s replies t
  along here g = g
  along (step e f) g = silently e (along f g)

  clash : {s : S} → a.next s ≡ Silent → is_silent (a.next s) ≡ false → ⊥
  clash e f = true≢false (sym (ap is_silent e) ∙ f)

  -- silent steps at the front are those of each way to an event
  past : {n : ℕ} {s q t : S} {replies : List Reply} → Path a n s q → (f : Reaches a s replies t) → is_silent (a.next t) ≡ false → (g : Reaches a q replies t)
      × (steps a g ≤ steps a f)
  past here f l = (f, omega arith)
  past (step e p) at_once l = absurd (clash e l)
  past (step e p) (silently i f) l =
      let g = past p f l in
      (g.0, less (steps a g.0) (steps a f) g.1)
    where
      less : (n k : ℕ) → n ≤ k → n ≤ k + 1
      less n k e = omega (arith, e)
  past (step e p) (answered i k f) l = absurd (clash e i)

  module _ (b : Thread T) (next : (s : S) → b.next (shown s) ≡ a.next s)
      (on : (s : S) (reply : Reply) → Lags a shown (a.after s reply) (b.after (shown s) reply)) where
    -- the second comes to an event, in at most so many steps
    record Arrives (r : T) (replies : List Reply) (e : Event) (n : ℕ) : Type 0 where
      at : T
      reaches : Reaches b r replies at
      is : b.next at ≡ e
      within : steps b reaches ≤ n

    one_more : (n k m : ℕ) → n ≤ k → k ≤ m → n + 1 ≤ m + 1
    one_more n k m e f = omega (arith, e, f)

    still : (n k m : ℕ) → k ≤ m → m + 1 < suc n → k < n
    still n k m e h = omega (arith, e, h)

    seen : (s : S) (r : T) → r ≡ shown s → b.next r ≡ a.next s
    seen s r e = ap b.next e ∙ next s

    on_from : (s : S) (r : T) → r ≡ shown s → (reply : Reply) → Lags a shown (a.after s reply) (b.after r reply)
    on_from s r e reply = subst (λ z. Lags a shown (a.after s reply) (b.after z reply)) (sym e) (on s reply)

    there_from : (n : ℕ) {s q : S} {r : T} {replies : List Reply} (f : Reaches a s replies q) → is_silent (a.next q) ≡ false → steps a f < n → r ≡ shown s
        → Arrives r replies (a.next q) (steps a f)
    there_from zero f l h e = absurd (omega (arith, h))
    there_from (suc n) {s} {r = r} at_once l h e = record { at = r; reaches = at_once; is = seen s r e; within = omega arith }
    there_from (suc n) {s} {r = r} (silently i f) l h e =
        let lag = on_from s r e Nothing in
        let g = past lag.path f l in
        let w = there_from n g.0 l (still n (steps a g.0) (steps a f) g.1 h) lag.is in
        record {
          at = w.at;
          reaches = silently (seen s r e ∙ i) w.reaches;
          is = w.is;
          within =
              one_more (steps b w.reaches) (steps a g.0) (steps a f) w.within g.1;
        }
    there_from (suc n) {s} {r = r} (answered {reply = reply} i x f) l h e =
        let lag = on_from s r e reply in
        let g = past lag.path f l in
        let w = there_from n g.0 l (still n (steps a g.0) (steps a f) g.1 h) lag.is in
        record {
          at = w.at;
          reaches = answered (ap is_silent (seen s r e) ∙ i) (subst (λ z. Answers z reply) (sym (seen s r e)) x) w.reaches;
          is = w.is;
          within = one_more (steps b w.reaches) (steps a g.0) (steps a f) w.within g.1;
        }

    there : {s q : S} {r : T} {replies : List Reply} (f : Reaches a s replies q) → is_silent (a.next q) ≡ false → Lags a shown s r
        → Arrives r replies (a.next q) (steps a f)
    there f l lag =
        let g = past lag.path f l in
        let w = there_from (steps a g.0 + 1) g.0 l (omega arith) lag.is in
        record { at = w.at; reaches = w.reaches; is = w.is; within = trans_le (steps b w.reaches) (steps a g.0) (steps a f) w.within g.1 }
      where
        trans_le : (n k m : ℕ) → n ≤ k → k ≤ m → n ≤ m
        trans_le n k m e f = omega (arith, e, f)

    -- the first comes to the event to which the second did
    record Found (s : S) (replies : List Reply) (t : T) : Type 0 where
      at : S
      reaches : Reaches a s replies at
      is : a.next at ≡ b.next t

    back : {r t : T} {replies : List Reply} (g : Reaches b r replies t) → {s : S} → Lags a shown s r → Found s replies t
    back at_once lag = record { at = lag.to; reaches = along lag.path at_once; is = sym (seen lag.to _ lag.is) }
    back {r} (silently i g) lag =
        let f = back g (on_from lag.to r lag.is Nothing) in
        record { at = f.at; reaches = along lag.path (silently (sym (seen lag.to r lag.is) ∙ i) f.reaches); is = f.is }
    back {r} (answered {reply = reply} i x g) lag =
        let f = back g (on_from lag.to r lag.is reply) in
        record {
          at = f.at;
          reaches = along lag.path (answered (ap is_silent (sym (seen lag.to r lag.is)) ∙ i) (subst (λ z. Answers z reply) (seen lag.to r lag.is) x) f.reaches);
          is = f.is;
        }

    pub same_events : (s : S) (r : T) → Lags a shown s r → SameEvents a b s r
    same_events s r lag = record {
      there = λ replies event loud f.
          let w = there f.reaches (ap is_silent f.is ∙ loud) lag in
          record { at = w.at; reaches = w.reaches; is = w.is ∙ f.is };
      back = λ replies event loud g.
          let f = back g.reaches lag in
          record { at = f.at; reaches = f.reaches; is = f.is ∙ g.is };
    }

    pub no_more_steps : (s : S) (r : T) → Lags a shown s r → StepsWithin a b 1 0 s r
    no_more_steps s r lag = λ replies event loud f g.
        let w = there f.reaches (ap is_silent f.is ∙ loud) lag in
        let same : steps b w.reaches ≡ steps b g.reaches = one_length b w.reaches g.reaches (ap is_silent (w.is ∙ f.is) ∙ loud) (ap is_silent g.is ∙ loud) in
        within (steps b w.reaches) (steps b g.reaches) (steps a f.reaches) same w.within
      where
        within : (n m k : ℕ) → n ≡ m → n ≤ k → m ≤ 1 * k + 0
        within n m k e h = omega (arith, e, h)
