-- Two threads with the same events, each with what it has run so far: the first with its cost, the second with its tally.
use Rattle.std.proofs.Common.{ℕ, ◌≡◌, ◌+◌, ◌≤◌, false, refl, ap, sym, ◌∙◌, subst, List, [], ◌∷◌, arith}
use Rattle.tx_events.specs.declared.Event.{Event}
use Rattle.tx_events.specs.declared.Event.TheVariants.{Silent, Load, Store, Out, Inp, Spawn, Join, BeginAtomic, EndAtomic, Raise, BeginSync, EndSync, Done}
use Rattle.tx_events.specs.declared.Event.TheVariants.{Stop}
use Rattle.tx_events.specs.declared.Reply.{Reply}
use Rattle.tx_events.specs.declared.Reply.TheVariants.{Nothing}
use Rattle.tx_events.specs.Thread.{Thread, Answers, is_silent}
use Rattle.tx_events.specs.World.{SilentSteps, none, one_more}
use Rattle.tx_events.specs.Same.{Reaches, at_once, silently, answered, steps, SameEvents, Comes}
use Rattle.tx_events.proofs.ReachingLemmas.{reach_silents, after_silents, past_silent, after_event}
use Rattle.tx_serial.specs.Bound.{Tally, tallied, tally_in, accesses_of}
use Rattle.src_mean.specs.Cost.{silent_cost}

-- ---- sums

pub none_more : (n : ℕ) → n ≡ n + 0
none_more n = omega arith

pub one_later : (c n : ℕ) → (c + n) + 1 ≡ c + (n + 1)
one_later c n = omega arith

pub one_sooner : (c n : ℕ) → c + (n + 1) ≡ (c + 1) + n
one_sooner c n = omega arith

pub le_later : (x c : ℕ) → x ≤ c → x ≤ c + 1
le_later x c h = omega (arith, h)

fit_later : (t u l m : ℕ) → t ≡ u → u ≤ l → l + 1 ≤ m → t + 1 ≤ m
fit_later t u l m e h g = omega (arith, e, h, g)

fit_access : (t u c x : ℕ) → t ≡ u → u ≤ c → x ≤ 1 → t + x ≤ c + 1
fit_access t u c x e h g = omega (arith, e, h, g)

fit_whole : (t x d g w l : ℕ) → t ≡ x + d → w ≡ d + (g + 1) → x + w ≤ l → (t + 1) + g ≤ l
fit_whole t x d g w l e f h = omega (arith, e, f, h)

pub sum_first : (n : ℕ) → n ≡ 0 + n
sum_first n = omega arith

sum_later : (d g w : ℕ) → w ≡ d + g → w + 1 ≡ (d + 1) + g
sum_later d g w h = omega (arith, h)

count_later : (t x n : ℕ) → t ≡ (x + 1) + n → t ≡ x + (n + 1)
count_later t x n h = omega (arith, h)

-- ---- an event accesses memory once at most

pub access_once : (e : Event) → accesses_of e ≤ 1
access_once Silent = omega arith
access_once (Load addr size vol) = omega arith
access_once (Store addr size value vol) = omega arith
access_once (Out c) = omega arith
access_once Inp = omega arith
access_once (Spawn g x) = omega arith
access_once (Join id) = omega arith
access_once (BeginAtomic kind) = omega arith
access_once EndAtomic = omega arith
access_once (Raise kind can) = omega arith
access_once BeginSync = omega arith
access_once EndSync = omega arith
access_once Done = omega arith
access_once (Stop e) = omega arith

-- ---- steps of one thread

module _ {T : Type 0} (b : Thread T) where
  -- what follows silent steps, with how many steps there are
  pub through : {r at q : T} {ss rs : List Reply} (h : Reaches b r ss at) → ss ≡ [] → (g : Reaches b at rs q)
      → (whole : Reaches b r rs q) × (steps b whole ≡ steps b h + steps b g)
  through at_once e g = (g, sum_first (steps b g))
  through (silently i h) e g = let k = through h e g in (silently i k.0, sum_later (steps b h) (steps b g) (steps b k.0) k.1)
  through (answered i f h) e g = absurd (cc)

  -- silent steps of the thread with its tally
  pub record Counted (r at : T) (n : ℕ) (y : Tally) : Type 0 where
    pub tally : Tally
    pub reaches : Reaches (tallied b) (r, y) [] (at, tally)
    pub steps_are : tally.steps ≡ y.steps + n
    pub accesses_are : tally.accesses ≡ y.accesses

  pub counts : {r at : T} {ss : List Reply} (h : Reaches b r ss at) → ss ≡ [] → (y : Tally) → Counted r at (steps b h) y
  counts at_once e y = record { tally = y; reaches = at_once; steps_are = none_more y.steps; accesses_are = refl }
  counts {r} (silently i h) e y =
      let k = counts h e (tally_in (b.next r) y) in
      record {
        tally = k.tally;
        reaches = silently i k.reaches;
        steps_are = count_later k.tally.steps y.steps (steps b h) k.steps_are;
        accesses_are = k.accesses_are ∙ ap (λ z. y.accesses + accesses_of z) i ∙ sym (none_more y.accesses);
      }
  counts (answered i f h) e y = absurd (cc)

-- ---- both threads

module _ {S T : Type 0} (a : Thread S) (b : Thread T) (limit : ℕ → ℕ) (grows : (c : ℕ) → limit c + 1 ≤ limit (c + 1)) where
  -- The first has come to s at cost c, and the second to r, with its tally. From there on they have the same events, and the
  -- second stays within the limit of what the first has cost.
  pub record Alike (c : ℕ) (s : S) (r : T × Tally) : Type 0 where
    pub events : SameEvents a b s r.0
    pub within : (replies : List Reply) (event : Event) → is_silent event ≡ false → (f : Comes a s replies event) (g : Comes b r.0 replies event)
        → r.1.steps + steps b g.reaches ≤ limit (c + steps a f.reaches)
    pub accesses : r.1.accesses ≤ c

  -- the tally is within the limit
  abbrev pub Fits : ℕ → Tally → Type 0
  Fits c y = (y.steps ≤ limit c) × (y.accesses ≤ c)

  past_one : (c : ℕ) (s : S) (r : T × Tally) → a.next s ≡ Silent → Alike c s r → Alike (c + 1) (a.after s Nothing) r
  past_one c s r e h = record {
    events = record {
      there = λ rs v i d. h.events.there rs v i (record { at = d.at; reaches = silently e d.reaches; is = d.is });
      back = λ rs v i d. let k = h.events.back rs v i d in record { at = k.at; reaches = past_silent a e k.reaches (ap is_silent k.is ∙ i); is = k.is };
    };
    within = λ rs v i f g. subst (λ z. r.1.steps + steps b g.reaches ≤ limit z) (one_sooner c (steps a f.reaches))
        (h.within rs v i (record { at = f.at; reaches = silently e f.reaches; is = f.is }) g);
    accesses = le_later r.1.accesses c h.accesses;
  }

  -- silent steps of the first cost one each
  pub past_silents : (c : ℕ) (s : S) (r : T × Tally) {q : S} → Alike c s r → (f : SilentSteps a s q) → Alike (c + silent_cost f) q r
  past_silents c s r {q} h none = subst (λ z. Alike z s r) (none_more c) h
  past_silents c s r h (one_more {r = q} f e) = subst (λ z. Alike z (a.after q Nothing) r) (one_later c (silent_cost f))
      (past_one (c + silent_cost f) q r e (past_silents c s r h f))

  -- where the first comes to an event, so does the second, within the limit, and they go on alike
  pub record Meets (c : ℕ) (q : S) (r : T × Tally) (e : Event) : Type 0 where
    pub at : T × Tally
    pub silents : SilentSteps (tallied b) r at
    pub is : b.next at.0 ≡ e
    pub fits : Fits (c + 1) (tally_in e at.1)
    pub alike : (x : Reply) → Answers e x → Alike (c + 1) (a.after q x) ((tallied b).after at x)

  pub meet : (c : ℕ) (q : S) (r : T × Tally) (e : Event) → Alike c q r → a.next q ≡ e → is_silent e ≡ false → Meets c q r e
  meet c q r e h is loud =
      let here : Comes a q [] e = record { at = q; reaches = at_once; is = is } in
      let d = h.events.there [] e loud here in
      let quiet_b = ap is_silent d.is ∙ loud in
      let quiet_a = ap is_silent is ∙ loud in
      let k = counts b d.reaches refl r.1 in
      let before : r.1.steps + steps b d.reaches ≤ limit c = subst (λ z. r.1.steps + steps b d.reaches ≤ limit z) (sym (none_more c)) (h.within [] e loud here d) in
      record {
        at = (d.at, k.tally);
        silents = reach_silents (tallied b) k.reaches refl;
        is = d.is;
        fits = (
          fit_later k.tally.steps (r.1.steps + steps b d.reaches) (limit c) (limit (c + 1)) k.steps_are before (grows c),
          fit_access k.tally.accesses r.1.accesses c (accesses_of e) k.accesses_are h.accesses (access_once e),
        );
        alike = λ x f. record {
          events = record {
            there = λ rs v i z.
                let m = h.events.there (x ∷ rs) v i (record {
                  at = z.at;
                  reaches = answered quiet_a (subst (λ y. Answers y x) (sym is) f) z.reaches;
                  is = z.is;
                }) in
                record {
                  at = m.at;
                  reaches = after_event b quiet_b (after_silents b d.reaches refl quiet_b m.reaches (ap is_silent m.is ∙ i)) refl;
                  is = m.is;
                };
            back = λ rs v i z.
                let m = h.events.back (x ∷ rs) v i (record {
                  at = z.at;
                  reaches = (through b d.reaches refl (answered quiet_b (subst (λ y. Answers y x) (sym d.is) f) z.reaches)).0;
                  is = z.is;
                }) in
                record { at = m.at; reaches = after_event a quiet_a m.reaches refl; is = m.is };
          };
          within = λ rs v i y z.
              let whole = through b d.reaches refl (answered quiet_b (subst (λ u. Answers u x) (sym d.is) f) z.reaches) in
              fit_whole k.tally.steps r.1.steps (steps b d.reaches) (steps b z.reaches) (steps b whole.0) (limit ((c + 1) + steps a y.reaches)) k.steps_are whole.1
              (subst (λ u. r.1.steps + steps b whole.0 ≤ limit u) (one_sooner c (steps a y.reaches))
              (h.within (x ∷ rs) v i (record { at = y.at; reaches = answered quiet_a (subst (λ u. Answers u x) (sym is) f) y.reaches; is = y.is })
              (record { at = z.at; reaches = whole.0; is = z.is })));
          accesses = fit_access k.tally.accesses r.1.accesses c (accesses_of (b.next d.at)) k.accesses_are h.accesses (access_once (b.next d.at));
        };
      }
