-- What the walk keeps.
use Rattle.std.proofs.Common.{true, false, ◌≡◌, ◌≢◌, inl, inr, ℕ, zero, suc, ◌<◌, List, [], ◌∷◌, length, set, replicate, Option, Some, None, refl, sym, ap, ◌∙◌}
use Rattle.std.proofs.Common.{subst, arith, get_or-set_other, get_or-set_same}
use Rattle.std.proofs.lemmas.Bool.{cases_eq, cases_lt, false≢true}
use Rattle.std.proofs.lemmas.List.{length-set}
use Rattle.std.proofs.lemmas.Option.{none-some, same_Some}
use Rattle.tx_code.specs.Shapes.{Among, here, there}
use Rattle.code_walk.specs.Walk.{Given, given, Space, Tests, Has, at_first, goes_on, Slot, slot, bare, slot_at, note, note_all, seen_slot, gives_at, look}
use Rattle.code_walk.specs.Walk.{lowest, step_at, steps, start, walked, Two}
use Rattle.code_walk.proofs.Notes.{Grows, Told, told_grows, shape_noted, clash_noted, note_same, note_other, length_note, past, all_grow, all_told}
use Rattle.code_walk.proofs.Ends.{Lowest, lowest_some, waits_has, waits_not, walked_ends, bares_at, length_bares}

-- what the slots say is so
pub record True {S : Type 0} (w : Space S) (slots : List (Slot S)) : Type 0 where
  pub long : length slots ≡ w.count
  pub shapes : (j : ℕ) (s : S) → (slot_at slots j).shape ≡ Some s → Has w j s
  pub clashes : (j : ℕ) → (slot_at slots j).clash ≡ true → Two w j

-- an index of this shape gave its shapes on
pub record Gave {S : Type 0} (w : Space S) (slots : List (Slot S)) (i : ℕ) : Type 0 where
  pub shape : S
  pub is : (slot_at slots i).shape ≡ Some shape
  pub told : (g : Given S) → Among g (w.gives i shape) → g.at < w.count → Told (slot_at slots g.at) g.shape

-- what was looked at gave its shapes on
pub record Kept {S : Type 0} (w : Space S) (slots : List (Slot S)) : Type 0 where
  pub facts : True w slots
  pub first : (slot_at slots 0).shape ≡ Some w.entry
  pub looked : (i : ℕ) → (slot_at slots i).looked ≡ true → Gave w slots i

module _ {S : Type 0} (w : Space S) (l : Tests w) where
  true_note : (slots : List (Slot S)) (g : Given S) → (g.at < w.count → Has w g.at g.shape) → True w slots → True w (note w slots g)
  true_note slots g r t = elim (cases_lt g.at (length slots)) [
    | inl h ↦ record {
      long = length_note w l slots g ∙ t.long;
      shapes = λ j s e. elim (cases_eq j g.at) [
        | inl q ↦ elim (shape_noted w l (slot_at slots g.at) g.shape s
            (sym (ap (λ x. x.shape) (note_same w l slots g.at g.shape h)) ∙ subst (λ k. (slot_at (note w slots g) k).shape ≡ Some s) q e)) [
              | inl o ↦ t.shapes j s (subst (λ k. (slot_at slots k).shape ≡ Some s) (sym q) o)
              | inr o ↦ subst (λ x. Has w j x) o (subst (λ k. Has w k g.shape) (sym q) (r (subst (λ n. g.at < n) t.long h)))
            ]
        | inr n ↦ t.shapes j s (sym (ap (λ x. x.shape) (note_other w l slots g.at j g.shape n)) ∙ e)
      ];
      clashes = λ j e. elim (cases_eq j g.at) [
        | inl q ↦ elim (clash_noted w l (slot_at slots g.at) g.shape
            (sym (ap (λ x. x.clash) (note_same w l slots g.at g.shape h)) ∙ subst (λ k. (slot_at (note w slots g) k).clash ≡ true) q e)) [
              | inl o ↦ t.clashes j (subst (λ k. (slot_at slots k).clash ≡ true) (sym q) o)
              | inr o ↦ subst (λ k. Two w k) (sym q) (record {
                one = o.0;
                other = g.shape;
                has_one = t.shapes g.at o.0 o.1;
                has_other = r
                    (subst (λ n. g.at < n) t.long h);
                differ = o.2;
              })
            ]
        | inr n ↦ t.clashes j (sym (ap (λ x. x.clash) (note_other w l slots g.at j g.shape n)) ∙ e)
      ];
    }
    | inr h ↦ subst (λ x. True w x) (sym (past w l slots g h)) t
  ]

  true_all : (gs : List (Given S)) (slots : List (Slot S)) → ((g : Given S) → Among g gs → g.at < w.count → Has w g.at g.shape) → True w slots
      → True w (note_all w slots gs)
  true_all [] slots r t = t
  true_all (g ∷ gs) slots r t = true_all gs (note w slots g) (λ x m. r x (there m)) (true_note slots g (r g here) t)

  mark_same : (slots : List (Slot S)) (i : ℕ) → i < length slots → slot_at (set slots i (seen_slot (slot_at slots i))) i ≡ seen_slot (slot_at slots i)
  mark_same slots i h = get_or-set_same slots i (seen_slot (slot_at slots i)) bare h

  mark_other : (slots : List (Slot S)) (i j : ℕ) → j ≢ i → slot_at (set slots i (seen_slot (slot_at slots i))) j ≡ slot_at slots j
  mark_other slots i j h = get_or-set_other slots i j (seen_slot (slot_at slots i)) bare h

  mark_shape : (slots : List (Slot S)) (i j : ℕ) → i < length slots → (slot_at (set slots i (seen_slot (slot_at slots i))) j).shape ≡ (slot_at slots j).shape
  mark_shape slots i j h = elim (cases_eq j i) [
    | inl e ↦ subst (λ k. (slot_at (set slots i (seen_slot (slot_at slots i))) k).shape ≡ (slot_at slots k).shape) (sym e)
        (ap (λ x. x.shape) (mark_same slots i h))
    | inr n ↦ ap (λ x. x.shape) (mark_other slots i j n)
  ]

  mark_clash : (slots : List (Slot S)) (i j : ℕ) → i < length slots → (slot_at (set slots i (seen_slot (slot_at slots i))) j).clash ≡ (slot_at slots j).clash
  mark_clash slots i j h = elim (cases_eq j i) [
    | inl e ↦ subst (λ k. (slot_at (set slots i (seen_slot (slot_at slots i))) k).clash ≡ (slot_at slots k).clash) (sym e)
        (ap (λ x. x.clash) (mark_same slots i h))
    | inr n ↦ ap (λ x. x.clash) (mark_other slots i j n)
  ]

  told_as : (a b : Slot S) (t : S) → b.shape ≡ a.shape → b.clash ≡ a.clash → Told a t → Told b t
  told_as a b t p q (inl h) = inl (p ∙ h)
  told_as a b t p q (inr h) = inr (q ∙ h)

  true_mark : (slots : List (Slot S)) (i : ℕ) → i < length slots → True w slots → True w (set slots i (seen_slot (slot_at slots i)))
  true_mark slots i h t = record {
    long = length-set slots i (seen_slot (slot_at slots i)) ∙ t.long;
    shapes = λ j s e. t.shapes j s (sym (mark_shape slots i j h) ∙ e);
    clashes = λ j e. t.clashes j (sym (mark_clash slots i j h) ∙ e);
  }

  kept_gives : (slots : List (Slot S)) (pc : ℕ) (s : S) → pc < length slots → (slot_at slots pc).shape ≡ Some s → Kept w slots
      → Kept w (note_all w (set slots pc (seen_slot (slot_at slots pc))) (w.gives pc s))
  kept_gives slots pc s h e k =
      let mid : List (Slot S) = set slots pc (seen_slot (slot_at slots pc)) in
      let gs : List (Given S) = w.gives pc s in
      let midlong : length mid ≡ w.count = length-set slots pc (seen_slot (slot_at slots pc)) ∙ k.facts.long in
      let grow : (j : ℕ) → Grows (slot_at mid j) (slot_at (note_all w mid gs) j) = all_grow w l gs mid in
      let start : Has w pc s = k.facts.shapes pc s e in
      record {
        facts = true_all gs mid (λ g m b. goes_on start m b) (true_mark slots pc h k.facts);
        first = (grow 0).shape w.entry (mark_shape slots pc 0 h ∙ k.first);
        looked = λ i b. elim (cases_eq i pc) [
          | inl q ↦ subst (λ x. Gave w (note_all w mid gs) x) (sym q)
              (record {
                shape = s;
                is = (grow pc).shape s (mark_shape slots pc pc h ∙ e);
                told =
                    λ g m b. all_told w l m mid (subst (λ n. g.at < n) (sym midlong) b);
              })
          | inr n ↦
              let old : Gave w slots i = k.looked i (sym (ap (λ x. x.looked) (mark_other slots pc i n)) ∙ sym ((grow i).looked) ∙ b) in
              record {
                shape = old.shape;
                is = (grow i).shape old.shape (mark_shape slots pc i h ∙ old.is);
                told =
                    λ g m b. told_grows _ _ _ (grow g.at)
                    (told_as (slot_at slots g.at) (slot_at mid g.at) g.shape (mark_shape slots pc g.at h) (mark_clash slots pc g.at h) (old.told g m b));
              }
        ];
      }

  kept_look : (slots : List (Slot S)) (pc : ℕ) (s : S) → pc < length slots → (slot_at slots pc).shape ≡ Some s → Kept w slots → Kept w (look w pc slots)
  kept_look slots pc s h e k = subst (λ o. Kept w (note_all w (set slots pc (seen_slot (slot_at slots pc))) (gives_at w pc o))) (sym e)
      (kept_gives slots pc s h e k)

  kept_step : (ss : List (Slot S)) (o : Option ℕ) → lowest 0 ss ≡ o → Kept w ss → Kept w (step_at w ss o)
  kept_step ss None h k = k
  kept_step ss (Some pc) h k =
      let m : Lowest 0 ss pc = lowest_some 0 ss pc h in
      let q : m.place ≡ pc = omega (arith, m.is) in
      let t = waits_has (slot_at ss m.place) m.waits in
      subst (λ x. Kept w (look w x ss)) q (kept_look ss m.place t.0 m.within t.1 k)

  at_start : 0 < w.count → slot_at (start w) 0 ≡ slot (Some w.entry) false false
  at_start h = get_or-set_same (replicate w.count bare) 0 (slot (Some w.entry) false false) bare (subst (λ n. 0 < n) (sym (length_bares S w.count)) h)

  after_start : (j : ℕ) → j ≢ 0 → slot_at (start w) j ≡ bare
  after_start j h = get_or-set_other (replicate w.count bare) 0 j (slot (Some w.entry) false false) bare h ∙ bares_at w.count j

  kept_start : 0 < w.count → Kept w (start w)
  kept_start h = record {
    facts = record {
      long = length-set (replicate w.count bare) 0 (slot (Some w.entry) false false) ∙ length_bares S w.count;
      shapes = λ j s e. elim (cases_eq j 0) [
        | inl q ↦ subst (λ k. Has w k s) (sym q) (subst (λ t. Has w 0 t)
            (same_Some w.entry s (sym (ap (λ x. x.shape) (at_start h)) ∙ subst (λ k. (slot_at (start w) k).shape ≡ Some s) q e)) (at_first h))
        | inr n ↦ absurd (none-some s (sym (ap (λ x. x.shape) (after_start j n)) ∙ e))
      ];
      clashes = λ j e. elim (cases_eq j 0) [
        | inl q ↦ absurd (false≢true (sym (ap (λ x. x.clash) (at_start h)) ∙ subst (λ k. (slot_at (start w) k).clash ≡ true) q e))
        | inr n ↦ absurd (false≢true (sym (ap (λ x. x.clash) (after_start j n)) ∙ e))
      ];
    };
    first = ap (λ x. x.shape) (at_start h);
    looked = λ j e. elim (cases_eq j 0) [
      | inl q ↦ absurd (false≢true (sym (ap (λ x. x.looked) (at_start h)) ∙ subst (λ k. (slot_at (start w) k).looked ≡ true) q e))
      | inr n ↦ absurd (false≢true (sym (ap (λ x. x.looked) (after_start j n)) ∙ e))
    ];
  }

  kept_steps : (n : ℕ) → 0 < w.count → Kept w (steps w n (start w))
  kept_steps zero h = kept_start h
  kept_steps (suc n) h = kept_step (steps w n (start w)) (lowest 0 (steps w n (start w))) refl (kept_steps n h)

  pub kept_walked : 0 < w.count → Kept w (walked w)
  kept_walked h = kept_steps w.count h

  -- where nothing clashes, the walk knows each shape that an index is given
  pub knows : 0 < w.count → ((j : ℕ) → j < w.count → (slot_at (walked w) j).clash ≡ true → ⊥) → {j : ℕ} {t : S} → Has w j t
      → (slot_at (walked w) j).shape ≡ Some t
  knows h c (at_first z) = (kept_walked h).first
  knows h c (goes_on {i} {j} {s} {t} r m b) =
      let k : Kept w (walked w) = kept_walked h in
      let e : (slot_at (walked w) i).shape ≡ Some s = knows h c r in
      let g : Gave w (walked w) i = k.looked i (waits_not (slot_at (walked w) i) s (walked_ends w l i) e) in
      let q : s ≡ g.shape = same_Some s g.shape (sym e ∙ g.is) in
      elim (g.told (given j t) (subst (λ x. Among (given j t) (w.gives i x)) q m) b) [ inl y ↦ y | inr y ↦ absurd (c j b y) ]
