-- A trace has one list of races; and where a set of items is closed under the steps, no chain leaves it.
use Rattle.std.proofs.Common.{ℕ, ◌≡◌, ◌<◌, ◌⊎◌, inl, inr, refl, ap, sym, ◌∙◌, subst, true, Bool, List, [], ◌∷◌, Some, arith}
use Rattle.std.proofs.lemmas.Bool.{true≢false, eq-eqb}
use Rattle.std.specs.Prelude.{slice_get}
use Rattle.tx_events.specs.declared.Item.{Item}
use Rattle.race_check.specs.Races.{Leads, Ordered, at_once, and_then, Stands, first, later, Ascends, Ascending, Races}

above : (n w : ℕ) (ws : List ℕ) → Ascends n ws → Stands w ws → n < w
above n w [] h s = elim s [ ]
above n w (v ∷ vs) h first = h.0
above n w (v ∷ vs) h (later s) = let up = above v w vs h.1 s in let low = h.0 in omega (arith, up, low)

same_list : (ws vs : List ℕ) → Ascending ws → Ascending vs → ((w : ℕ) → Stands w ws → Stands w vs) → ((w : ℕ) → Stands w vs → Stands w ws) → vs ≡ ws
same_list [] [] a b f g = refl
same_list [] (v ∷ vs) a b f g = elim (g v first) [ ]
same_list (w ∷ ws) [] a b f g = elim (f w first) [ ]
same_list (w ∷ ws) (v ∷ vs) a b f g =
    let heads = both (split w v ws (g v first)) (split v w vs (f w first)) in
    subst (λ z. (z ∷ vs) ≡ (w ∷ ws)) (sym heads) (ap (λ zs. w ∷ zs) (same_list ws vs (tail w ws a) (tail v vs b) (rest heads) (tser heads)))
  where
    split : (w v : ℕ) (ws : List ℕ) → Stands v (w ∷ ws) → (v ≡ w) ⊎ Stands v ws
    split w v ws first = inl refl
    split w v ws (later s) = inr s

    both : (v ≡ w) ⊎ Stands v ws → (w ≡ v) ⊎ Stands w vs → v ≡ w
    both (inl e) k = e
    both (inr s) (inl e) = sym e
    both (inr s) (inr r) = let x = above w v ws a s in let y = above v w vs b r in absurd (omega (arith, x, y))

    weaken : (n : ℕ) (zs : List ℕ) → Ascends n zs → Ascending zs
    weaken n [] h = tt
    weaken n (z ∷ zs) h = h.1

    tail : (n : ℕ) (zs : List ℕ) → Ascends n zs → Ascending zs
    tail n zs h = weaken n zs h

    rest : v ≡ w → (u : ℕ) → Stands u ws → Stands u vs
    rest e u s = by (split v u vs (f u (later s)))
      where
        by : (u ≡ v) ⊎ Stands u vs → Stands u vs
        by (inl i) = let x = above w u ws a s in absurd (omega (arith, x, i, e))
        by (inr r) = r

    tser : v ≡ w → (u : ℕ) → Stands u vs → Stands u ws
    tser e u s = by (split w u ws (g u (later s)))
      where
        by : (u ≡ w) ⊎ Stands u ws → Stands u ws
        by (inl i) = let x = above v u vs b s in absurd (omega (arith, x, i, e))
        by (inr r) = r

pub one_list : (items : List Item) (words others : List ℕ) → Races items words → Races items others → others ≡ words
one_list items words others h g = same_list words others h.ascending g.ascending
    (λ w s. let r = h.each w s in subst (λ z. Stands z others) r.1 (g.all r.0 r.2))
    (λ w s. let r = g.each w s in subst (λ z. Stands z words) r.1 (h.all r.0 r.2))

pub stays_inside : (items : List Item) (inside : ℕ → Bool) → ((i j : ℕ) → Leads items i j → inside i ≡ true → inside j ≡ true) → (i j : ℕ)
    → Ordered items i j → inside i ≡ true → inside j ≡ true
stays_inside items inside closed i j (at_once s) h = closed i j s h
stays_inside items inside closed i k (and_then {j} o s) h = closed j k s (stays_inside items inside closed i j o h)

pub no_races : (items : List Item) (t : ℕ) → ((i : ℕ) (a : Item) → slice_get items i ≡ Some a → a.t ≡ t) → Races items []
no_races items t h = record {
  ascending = tt;
  each = λ w s. elim s [ ];
  all = λ x r.
      let c = r.conflict in
      absurd (true≢false (sym (eq-eqb c.one.t c.other.t (h r.one c.one c.at_one ∙ sym (h r.other c.other c.at_other))) ∙ c.apart));
}
