-- A simulation of any length gives the same events, within its bound.
use Rattle.std.proofs.Common.{ℕ, zero, suc, ◌≡◌, ◌+◌, ◌*◌, ◌<◌, ◌≤◌, true, false, refl, ap, sym, ◌∙◌, subst, List, ⊎_elim, arith}
use Rattle.std.proofs.Math.Nat.{mul-le-mul_right, mul-add, mul-one, add-mul, one-mul}
use Rattle.std.proofs.lemmas.Bool.{true≢false}
use Rattle.tx_events.specs.declared.Event.{Event}
use Rattle.tx_events.specs.declared.Event.TheVariants.{Silent, Load, Store, Out, Inp, Spawn, Join, BeginAtomic, EndAtomic, Raise, BeginSync, EndSync, Done}
use Rattle.tx_events.specs.declared.Event.TheVariants.{Stop}
use Rattle.tx_events.specs.declared.Reply.{Reply}
use Rattle.tx_events.specs.declared.Reply.TheVariants.{Nothing}
use Rattle.tx_events.specs.Thread.{Thread, Answers, is_silent}
use Rattle.tx_events.specs.Same.{Reaches, at_once, silently, answered, steps, SameEvents, StepsWithin}
use Rattle.tx_events.specs.Simulation.{Path, here, step, SimulationBound, Stepped, Sim}

silent_is : (e : Event) → is_silent e ≡ true → e ≡ Silent
silent_is Silent h = refl
silent_is (Load addr size volatile) h = absurd (true≢false (sym h))
silent_is (Store addr size value volatile) h = absurd (true≢false (sym h))
silent_is (Out byte) h = absurd (true≢false (sym h))
silent_is Inp h = absurd (true≢false (sym h))
silent_is (Spawn func arg) h = absurd (true≢false (sym h))
silent_is (Join id) h = absurd (true≢false (sym h))
silent_is (BeginAtomic kind) h = absurd (true≢false (sym h))
silent_is EndAtomic h = absurd (true≢false (sym h))
silent_is (Raise kind cancels) h = absurd (true≢false (sym h))
silent_is BeginSync h = absurd (true≢false (sym h))
silent_is EndSync h = absurd (true≢false (sym h))
silent_is Done h = absurd (true≢false (sym h))
silent_is (Stop end) h = absurd (true≢false (sym h))

-- a way to an event, and its length
record Way {S : Type 0} (a : Thread S) (s : S) (replies : List Reply) (e : Event) (n : ℕ) : Type 0 where
  at : S
  reaches : Reaches a s replies at
  is : a.next at ≡ e
  long : steps a reaches ≡ n

module _ {S : Type 0} (a : Thread S) where
  clash : {s : S} → a.next s ≡ Silent → is_silent (a.next s) ≡ false → ⊥
  clash e f = true≢false (sym (ap is_silent e) ∙ f)

  -- silent steps in front
  after_path : {n k : ℕ} {s q : S} {replies : List Reply} {e : Event} → Path a n s q → Way a q replies e k → Way a s replies e (n + k)
  after_path {k} here w = record { at = w.at; reaches = w.reaches; is = w.is; long = w.long ∙ zero_plus k }
    where
      zero_plus : (k : ℕ) → k ≡ 0 + k
      zero_plus k = omega arith
  after_path {k} (step {n} e p) w =
      let v = after_path p w in
      record { at = v.at; reaches = silently e v.reaches; is = v.is; long = ap (λ z. z + 1) v.long ∙ swap n k }
    where
      swap : (n k : ℕ) → n + k + 1 ≡ n + 1 + k
      swap n k = omega arith

  -- silent steps at the front are those of each way to an event
  past_path : {n : ℕ} {s q t : S} {replies : List Reply} → Path a n s q → (f : Reaches a s replies t) → is_silent (a.next t) ≡ false
      → (g : Reaches a q replies t) × (n + steps a g ≡ steps a f)
  past_path here f l = (f, zero_plus (steps a f))
    where
      zero_plus : (k : ℕ) → 0 + k ≡ k
      zero_plus k = omega arith
  past_path (step e p) at_once l = absurd (clash e l)
  past_path (step {n} e p) (silently i f) l =
      let g = past_path p f l in
      (g.0, swap n (steps a g.0) (steps a f) g.1)
    where
      swap : (n k m : ℕ) → n + k ≡ m → n + 1 + k ≡ m + 1
      swap n k m e = omega (arith, e)
  past_path (step e p) (answered i k f) l = absurd (clash e i)

  -- two ways to an event by the same replies are equally long
  pub one_length : {s t u : S} {replies : List Reply} (f : Reaches a s replies t) (g : Reaches a s replies u) → is_silent (a.next t) ≡ false
      → is_silent (a.next u) ≡ false → steps a f ≡ steps a g
  one_length f g l k = same f g refl refl l k
    where
      same : {s z t u : S} {rs qs : List Reply} (f : Reaches a s rs t) (g : Reaches a z qs u) → s ≡ z → rs ≡ qs → is_silent (a.next t) ≡ false
          → is_silent (a.next u) ≡ false → steps a f ≡ steps a g
      same at_once at_once o e l k = refl
      same at_once (silently i g) o e l k = absurd (clash i (subst (λ v. is_silent (a.next v) ≡ false) o l))
      same at_once (answered i j g) o e l k = absurd (cc)
      same (silently i f) at_once o e l k = absurd (clash i (subst (λ v. is_silent (a.next v) ≡ false) (sym o) k))
      same (silently i f) (silently j g) o e l k = ap (λ z. z + 1) (same f g (ap (λ v. a.after v Nothing) o) e l k)
      same (silently i f) (answered j x g) o e l k = absurd (clash i (subst (λ v. is_silent (a.next v) ≡ false) (sym o) j))
      same (answered i x f) at_once o e l k = absurd (cc)
      same (answered i x f) (silently j g) o e l k = absurd (clash j (subst (λ v. is_silent (a.next v) ≡ false) o i))
      same (answered {s} {q} {reply} {replies} i x f) (answered {s = s'} {reply = reply'} {replies = replies'} j y g) o e l k =
          let one : reply ≡ reply' = cc in
          let rest : replies ≡ replies' = cc in
          ap (λ z. z + 1) (same f g (ap (λ v. a.after v reply) o ∙ ap (λ v. a.after s' v) one) rest l k)

paid_at : (m z c : ℕ) → m ≤ c → m + 0 ≤ z + c
paid_at m z c h = omega (arith, h)

paid_on : (rate k m w c c' : ℕ) → c' + m ≤ c + rate → w ≤ rate * k + c' → m + w ≤ rate * (k + 1) + c
paid_on rate k m w c c' h g =
    let more : rate * (k + 1) ≡ rate * k + rate = mul-add rate k 1 ∙ ap (λ z. rate * k + z) (mul-one rate) in
    omega (arith, more, h, g)

paid_event : (rate k m w c c' : ℕ) → c' + m + 1 ≤ c + rate → w ≤ rate * k + c' → m + (w + 1) ≤ rate * (k + 1) + c
paid_event rate k m w c c' h g =
    let more : rate * (k + 1) ≡ rate * k + rate = mul-add rate k 1 ∙ ap (λ z. rate * k + z) (mul-one rate) in
    omega (arith, more, h, g)

-- the patience and the steps of the second that are left, as a number that falls
still_less : (most p p' n u g m : ℕ) → p' + 1 ≤ p → m + u ≡ g → p + g * (most + 1) < suc n → p' + u * (most + 1) < n
still_less most p p' n u g m f e h =
    let less : u * (most + 1) ≤ g * (most + 1) = mul-le-mul_right (most + 1) (omega (arith, e)) in
    omega (arith, less, f, h)

moved_less : (most p p' n u g : ℕ) → p' ≤ most → u + 1 ≤ g → p + g * (most + 1) < suc n → p' + u * (most + 1) < n
moved_less most p p' n u g f e h =
    let less : (u + 1) * (most + 1) ≤ g * (most + 1) = mul-le-mul_right (most + 1) e in
    let next : (u + 1) * (most + 1) ≡ u * (most + 1) + (most + 1) = add-mul u 1 (most + 1) ∙ ap (λ z. u * (most + 1) + z) (one-mul (most + 1)) in
    omega (arith, less, next, f, h)

module _ {S T : Type 0} (x : SimulationBound S T) where
  -- what the first comes to, the second does, within the bound
  there : (n p c : ℕ) {s q : S} {r : T} {replies : List Reply} (f : Reaches x.first s replies q) → is_silent (x.first.next q) ≡ false → steps x.first f < n
      → Sim x n p c s r
      → (k : ℕ) × Way x.second r replies (x.first.next q) k × (k ≤ x.rate * steps x.first f + c)
  there zero p c f l h sim = absurd (omega (arith, h))
  there (suc n) p c {s} at_once l h sim =
      let m = subst (Stepped x (Sim x n) p c s _) l sim in
      (m.steps + 0, after_path x.second m.path (record { at = m.to; reaches = at_once; is = m.same; long = refl }), paid_at m.steps (x.rate * 0) c m.pays)
  there (suc n) p c {s} (silently e f) l h sim =
      let m = subst (Stepped x (Sim x n) p c s _) (ap is_silent e) sim in
      let w = there n m.patience_left m.credit_left f l (omega (arith, h)) m.goes in
      (m.steps + w.0, after_path x.second m.path w.1, paid_on x.rate (steps x.first f) m.steps w.0 c m.credit_left m.pays w.2)
  there (suc n) p c {s} (answered {reply} e y f) l h sim =
      let m = subst (Stepped x (Sim x n) p c s _) e sim in
      let o = m.on reply y in
      let w = there n o.patience_left o.credit_left f l (omega (arith, h)) o.goes in (
        m.steps + (w.0 + 1),
        after_path x.second m.path (record {
          at = w.1.at;
          reaches = answered (ap is_silent m.same ∙ e)
              (subst (λ z. Answers z reply) (sym m.same) y) w.1.reaches;
          is = w.1.is;
          long = ap (λ z. z + 1) w.1.long;
        }),
        paid_event x.rate (steps x.first f) m.steps w.0 c o.credit_left o.pays w.2,
      )

  -- the first comes to the event to which the second did
  record Found (s : S) (replies : List Reply) (t : T) : Type 0 where
    at : S
    reaches : Reaches x.first s replies at
    is : x.first.next at ≡ x.second.next t

  found_event : {s : S} {z t : T} {replies : List Reply} → is_silent (x.first.next s) ≡ false → x.second.next z ≡ x.first.next s
      → (g : Reaches x.second z replies t)
      → ((reply : Reply) (rest : List Reply) (h : Reaches x.second (x.second.after z reply) rest t) → steps x.second h + 1 ≡ steps x.second g
      → Answers (x.first.next s) reply → Found (x.first.after s reply) rest t)
      → Found s replies t
  found_event {s} e same at_once go = record { at = s; reaches = at_once; is = sym same }
  found_event e same (silently i h) go = absurd (true≢false (sym (ap is_silent i) ∙ (ap is_silent same ∙ e)))
  found_event e same (answered {reply} {replies} i y h) go =
      let fits = subst (λ z. Answers z reply) same y in
      let f = go reply replies h refl fits in
      record { at = f.at; reaches = answered e fits f.reaches; is = f.is }

  back : (n p c : ℕ) {s : S} {r t : T} {replies : List Reply} (g : Reaches x.second r replies t) → is_silent (x.second.next t) ≡ false
      → p + steps x.second g * (x.most + 1) < n → Sim x n p c s r → Found s replies t
  back zero p c g l h sim = absurd (omega (arith, h))
  back (suc n) p c {s} {r} {t} {replies} g l h sim =
      elim (is_silent (x.first.next s)) as (λ v. is_silent (x.first.next s) ≡ v → Stepped x (Sim x n) p c s r v → Found s replies t) [
        | true ↦ λ e m.
            let u = past_path x.second m.path g l in
            let less = ⊎_elim (λ f. still_less x.most p m.patience_left n (steps x.second u.0) (steps x.second g) m.steps f u.1 h)
            (λ f. moved_less x.most p m.patience_left n (steps x.second u.0) (steps x.second g) f.1
            (one_on m.steps (steps x.second u.0) (steps x.second g) f.0 u.1) h) m.waits in
            let f = back n m.patience_left m.credit_left u.0 l less m.goes in
            record { at = f.at; reaches = silently (silent_is (x.first.next s) e) f.reaches; is = f.is }
        | false ↦ λ e m.
            let u = past_path x.second m.path g l in
            found_event e m.same u.0 (λ reply rest k long fits.
            let o = m.on reply fits in
            back n o.patience_left o.credit_left k l (moved_less x.most p o.patience_left n (steps x.second k) (steps x.second g) o.waits
            (one_more m.steps (steps x.second k) (steps x.second u.0) (steps x.second g) long u.1) h) o.goes)
      ] refl sim
    where
      one_on : (m u g : ℕ) → 1 ≤ m → m + u ≡ g → u + 1 ≤ g
      one_on m u g f e = omega (arith, f, e)

      one_more : (m k u g : ℕ) → k + 1 ≡ u → m + u ≡ g → k + 1 ≤ g
      one_more m k u g f e = omega (arith, f, e)

  -- a simulation of any length from these states shows that they have the same events
  pub simulated : (p c : ℕ) (s : S) (r : T) → ((n : ℕ) → Sim x n p c s r) → SameEvents x.first x.second s r
  simulated p c s r sim = record {
    there = λ replies event loud f.
        let w = there (steps x.first f.reaches + 1) p c f.reaches (ap is_silent f.is ∙ loud) (omega arith) (sim (steps x.first f.reaches + 1)) in
        record { at = w.1.at; reaches = w.1.reaches; is = w.1.is ∙ f.is };
    back = λ replies event loud g.
        let n = p + steps x.second g.reaches * (x.most + 1) + 1 in
        let f = back n p c g.reaches (ap is_silent g.is ∙ loud) (omega arith) (sim n) in
        record { at = f.at; reaches = f.reaches; is = f.is ∙ g.is };
  }

  -- and bounds the steps of the second
  pub simulated_within : (p c : ℕ) (s : S) (r : T) → ((n : ℕ) → Sim x n p c s r) → StepsWithin x.first x.second x.rate c s r
  simulated_within p c s r sim = λ replies event loud f g.
      let w = there (steps x.first f.reaches + 1) p c f.reaches (ap is_silent f.is ∙ loud) (omega arith) (sim (steps x.first f.reaches + 1)) in
      let same : steps x.second w.1.reaches ≡ steps x.second g.reaches =
      one_length x.second w.1.reaches g.reaches (ap is_silent (w.1.is ∙ f.is) ∙ loud) (ap is_silent g.is ∙ loud) in
      subst (λ z. z ≤ x.rate * steps x.first f.reaches + c) (sym w.1.long ∙ same) w.2
