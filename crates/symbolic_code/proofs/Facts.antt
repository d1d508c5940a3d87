-- Facts under other values, and among others.
use Rattle.std.proofs.Common.{◌≡◌, ◌⊎◌, inl, inr, Bool, true, false, ◌||◌, refl, ap, sym, ◌∙◌, subst, List, [], ◌∷◌, ◌==◌, cond}
use Rattle.std.proofs.lemmas.Bool.{true≢false}
use Rattle.src_mean.specs.Linked.{Func, Program}
use Rattle.src_mean.specs.Frames.{State}
use Rattle.src_mean.specs.Frames as frames
use Rattle.symbolic_source.specs.Outcomes.{Outcome, chooses, Shows}
use Rattle.symbolic_source.specs.Terms.{Term, Values, eval, number}
use Rattle.symbolic_source.specs.Replacing.{Replacing, seen_by}
use Rattle.symbolic_source.proofs.Replaced.{term_replaced}
use Rattle.symbolic_code.specs.Same.{same_term}
use Rattle.symbolic_code.specs.Facts.{Fact, not_zero, has_function, Holds, AllHold, in_fact, in_facts, Among, AllAmong, is_not_zero, Evident, settled}
use Rattle.symbolic_code.proofs.SameTerms.{term_same}

module _ (p : Program) (f : Func) (r : Replacing) (x : Values) where
  abbrev y : Values
  y = seen_by p f r x

  fact_replaced : (k : Fact) → Holds p f x (in_fact r k) → Holds p f y k
  fact_replaced (not_zero w) h = λ e. h (term_replaced p f r x w ∙ e)
  fact_replaced (has_function class slot address) h = (h.0, ap (λ z. p.slot z class slot) (sym (term_replaced p f r x address)) ∙ h.1)

  fact_placed : (k : Fact) → Holds p f y k → Holds p f x (in_fact r k)
  fact_placed (not_zero w) h = λ e. h (sym (term_replaced p f r x w) ∙ e)
  fact_placed (has_function class slot address) h = (h.0, ap (λ z. p.slot z class slot) (term_replaced p f r x address) ∙ h.1)

  pub facts_replaced : (ks : List Fact) → AllHold p f x (in_facts r ks) → AllHold p f y ks
  facts_replaced [] h = tt
  facts_replaced (k ∷ ks) h = (fact_replaced k h.0, facts_replaced ks h.1)

  pub facts_placed : (ks : List Fact) → AllHold p f y ks → AllHold p f x (in_facts r ks)
  facts_placed [] h = tt
  facts_placed (k ∷ ks) h = (fact_placed k h.0, facts_placed ks h.1)

module _ (p : Program) (f : Func) (x : Values) where
  found_among : (k j : Fact) (js : List Fact) → (k ≡ j) ⊎ Among k js → Holds p f x j → (Among k js → Holds p f x k) → Holds p f x k
  found_among k j js (inl e) h go = subst (λ z. Holds p f x z) (sym e) h
  found_among k j js (inr m) h go = go m

  evident_holds : (k : Fact) → Evident k → Holds p f x k
  evident_holds (not_zero (number n)) h = λ e. true≢false (sym (ap (λ z. z == 0) e) ∙ h)
  evident_holds k h = absurd h

  pub holds_among : (k : Fact) (js : List Fact) → Among k js → AllHold p f x js → Holds p f x k
  holds_among k [] m h = evident_holds k m
  holds_among k (j ∷ js) m h = found_among k j js m h.0 (λ n. holds_among k js n h.1)

  pub all_among : (ks js : List Fact) → AllAmong ks js → AllHold p f x js → AllHold p f x ks
  all_among [] js m h = tt
  all_among (k ∷ ks) js m h = (holds_among k js m.0 h, all_among ks js m.1 h)

  either_known : (a : Bool) (v w : Term) (ks : List Fact) → same_term v w ≡ a → (a || is_not_zero ks w) ≡ true → (eval p f x v ≡ 0 → ⊥)
      → (is_not_zero ks w ≡ true → eval p f x w ≡ 0 → ⊥) → eval p f x w ≡ 0 → ⊥
  either_known true v w ks s e h go z = h (ap (λ t. eval p f x t) (term_same v w s) ∙ z)
  either_known false v w ks s e h go z = go e z

  pub known_not_zero : (ks : List Fact) (w : Term) → is_not_zero ks w ≡ true → AllHold p f x ks → eval p f x w ≡ 0 → ⊥
  known_not_zero [] w e h z = true≢false (sym e)
  known_not_zero (not_zero v ∷ ks) w e h z = either_known (same_term v w) v w ks refl e h.0 (λ g. known_not_zero ks w g h.1) z
  known_not_zero (has_function class slot address ∷ ks) w e h z = known_not_zero ks w e h.1 z

  -- what is foreseen comes also where decisions are made by what is known
  settled_by : (rest : List frames.Frame) (s : State) (b : Bool) (ks : List Fact) (w : Term) (first other : Outcome) → is_not_zero ks w ≡ b → AllHold p f x ks
      → (Shows p f x rest other s → Shows p f x rest (settled ks other) s)
      → Shows p f x rest (chooses w first other) s → Shows p f x rest (cond b (settled ks other) (chooses w first other)) s
  settled_by rest s true ks w first other e h go g = go (g.1 (known_not_zero ks w e h))
  settled_by rest s false ks w first other e h go g = g

  pub settled_shown : (rest : List frames.Frame) (s : State) (ks : List Fact) (o : Outcome) → AllHold p f x ks → Shows p f x rest o s
      → Shows p f x rest (settled ks o) s
  settled_shown rest s ks (chooses w first other) h g = settled_by rest s (is_not_zero ks w) ks w first other refl h (λ i. settled_shown rest s ks other h i) g
  settled_shown rest s ks o h g = g
