-- The fault that is found is the first broken clause.
use Rattle.std.proofs.Common.{Bool, true, false, ◌≡◌, ◌<◌, ◌≤◌, ◌⊎◌, inl, inr, ℕ, zero, suc, ◌+◌, ◌-◌, List, [], ◌∷◌, length, Option, Some, None, refl, sym, ap}
use Rattle.std.proofs.Common.{◌∙◌, subst, arith}
use Rattle.std.specs.Prelude.{min, not, nat_lt, nat_eq, ◌&&◌, ◌||◌, slice_get, if◌then◌else◌, Result, Ok, Err, IfOk, IfSome}
use Rattle.std.specs.declared.alloc.AllocError.{AllocError}
use Rattle.std.proofs.lemmas.Bool.{cases_Bool, cases_eq, true≢false, false≢true, ltb-true, ltb-false, eqb-true, eqb-false, eq-eqb}
use Rattle.std.proofs.lemmas.Option.{none-some, same_Some, slice_get_within}
use Rattle.tx_code.specs.declared.instr.Instr.{Instr}
use Rattle.tx_code.specs.declared.body.Row.{Row}
use Rattle.tx_code.specs.Objects.{BodyView}
use Rattle.tx_code.specs.Images.{ImageFuncView, ImageView}
use Rattle.tx_code.specs.Shapes.{Shape, Table, Among, here, there}
use Rattle.tx_code.specs.Sound.{Signature, signature, table_of, frame_right}
use Rattle.tx_code.proofs.ReachedIndexes.{and_left, and_right}
use Rattle.code_verify.specs.declared.faults.Fault.{Fault}
use Rattle.code_verify.specs.declared.faults.Broken.{Broken}
use Rattle.code_walk.specs.Walk.{Slot, slot_at, walked}
use Rattle.code_walk.specs.Bodies.{space}
use Rattle.code_verify.specs.Rules.{first_broken, or_then, alone_right, shaped_right, row_alone, row_over, index_rule, row_rule}
use Rattle.code_verify.specs.Faults.{fault, earlier, is_before, or_next, at_place, row_fault, first_of_rows, first_of_indexes, first_by, body_fault}
use Rattle.code_verify.specs.Faults.{frame_fault, behind, safe_fault, func_fault, or_below, first_of_funcs, image_fault}
use Rattle.code_verify.specs.Places.{fails, index_breaks, row_breaks, BodyBreaks, is_empty, at_index, by_row, FuncBreaks, by_frame, in_plain, in_safe, Precedes}
use Rattle.code_verify.specs.Places.{PrecedesIn, FirstBroken}

-- ---- the lowest clause of a subject

-- the least number of which the test holds, or none
abbrev LeastRule : (ℕ → Bool) → Option ℕ → Type 0
LeastRule p None = (s : ℕ) → p s ≡ true → ⊥
LeastRule p (Some r) = (p r ≡ true) × ((s : ℕ) → p s ≡ true → r ≤ s)

or_true : (b c : Bool) → (b || c) ≡ true → (b ≡ true) ⊎ (c ≡ true)
or_true true c h = inl refl
or_true false c h = inr h

or_left : (b c : Bool) → b ≡ true → (b || c) ≡ true
or_left b c h = ap (λ z. z || c) h

or_right : (b c : Bool) → c ≡ true → (b || c) ≡ true
or_right true c h = refl
or_right false c h = h

fails_from : (n : ℕ) (bs : List Bool) (s : ℕ) → fails n s bs ≡ true → n ≤ s
fails_from n [] s h = absurd (false≢true h)
fails_from n (b ∷ bs) s h = elim (or_true (nat_eq n s && not b) (fails (n + 1) s bs) h) [
  | inl e ↦ let q : n ≡ s = eqb-true n s (and_left (nat_eq n s) (not b) e) in omega (arith, q)
  | inr e ↦ let q : n + 1 ≤ s = fails_from (n + 1) bs s e in omega (arith, q)
]

fails_before : (n m : ℕ) (bs : List Bool) (s : ℕ) → fails n s bs ≡ true → s < n + length bs
fails_before n m [] s h = absurd (false≢true h)
fails_before n m (b ∷ bs) s h = elim (or_true (nat_eq n s && not b) (fails (n + 1) s bs) h) [
  | inl e ↦ let q : n ≡ s = eqb-true n s (and_left (nat_eq n s) (not b) e) in omega (arith, q)
  | inr e ↦ let q : s < n + 1 + length bs = fails_before (n + 1) m bs s e in omega (arith, q)
]

least_first : (n : ℕ) (bs : List Bool) → LeastRule (λ s. fails n s bs) (first_broken n bs)
least_first n [] = λ s h. false≢true h
least_first n (true ∷ bs) = past (first_broken (n + 1) bs) (least_first (n + 1) bs) where
  not_here : (s : ℕ) → fails n s (true ∷ bs) ≡ true → fails (n + 1) s bs ≡ true
  not_here s h = elim (or_true (nat_eq n s && false) (fails (n + 1) s bs) h) [ inl e ↦ absurd (false≢true (and_right (nat_eq n s) false e)) | inr e ↦ e ]

  past : (o : Option ℕ) → LeastRule (λ s. fails (n + 1) s bs) o → LeastRule (λ s. fails n s (true ∷ bs)) o
  past None f = λ s h. f s (not_here s h)
  past (Some r) f = (or_right (nat_eq n r && false) (fails (n + 1) r bs) f.0, λ s h. f.1 s (not_here s h))
least_first n (false ∷ bs) = (or_left (nat_eq n n && true) (fails (n + 1) n bs) (ap (λ z. z && true) (eq-eqb n n refl)), λ s h. fails_from n (false ∷ bs) s h)

-- of two lists of tests, the first of lower clauses
least_then : (p q : ℕ → Bool) (o m : Option ℕ) → ((r s : ℕ) → p r ≡ true → q s ≡ true → r ≤ s) → LeastRule p o → LeastRule q m
    → LeastRule (λ s. p s || q s) (or_then o m)
least_then p q None None l f g = λ s h. elim (or_true (p s) (q s) h) [ inl e ↦ f s e | inr e ↦ g s e ]
least_then p q None (Some r) l f g = (or_right (p r) (q r) g.0, λ s h. elim (or_true (p s) (q s) h) [ inl e ↦ absurd (f s e) | inr e ↦ g.1 s e ])
least_then p q (Some r) m l f g = (or_left (p r) (q r) f.0, λ s h. elim (or_true (p s) (q s) h) [ inl e ↦ f.1 s e | inr e ↦ l r s f.0 e ])

least_clash : (c : Bool) (q : ℕ → Bool) (o : Option ℕ) → ((s : ℕ) → q s ≡ true → 4 ≤ s) → LeastRule q o
    → LeastRule (λ s. (nat_eq 4 s && c) || q s) (if c then Some 4 else o)
least_clash true q o l g = (
  refl,
  λ s h. elim (or_true (nat_eq 4 s && true) (q s) h) [
    | inl e ↦
        (let k : 4 ≡ s = eqb-true 4 s (and_left (nat_eq 4 s) true e) in omega (arith, k))
    | inr e ↦ l s e
  ],
)
least_clash false q o l g = past o g where
  not_four : (s : ℕ) → ((nat_eq 4 s && false) || q s) ≡ true → q s ≡ true
  not_four s h = elim (or_true (nat_eq 4 s && false) (q s) h) [ inl e ↦ absurd (false≢true (and_right (nat_eq 4 s) false e)) | inr e ↦ e ]

  past : (m : Option ℕ) → LeastRule q m → LeastRule (λ s. (nat_eq 4 s && false) || q s) m
  past None f = λ s h. f s (not_four s h)
  past (Some r) f = (or_right (nat_eq 4 r && false) (q r) f.0, λ s h. f.1 s (not_four s h))

module _ (x : Table) (g : Signature) (safe : Bool) (b : BodyView) where
  shaped_from : (i : ℕ) (a : Instr) (o : Option Shape) (s : ℕ) → fails 5 s (shaped_right x g.gives safe b.rows i a o) ≡ true → 5 ≤ s
  shaped_from i a o s h = fails_from 5 (shaped_right x g.gives safe b.rows i a o) s h

  least_index : (i : ℕ) (a : Instr) (s : Slot Shape) → LeastRule (index_breaks x g.gives safe b i a s) (index_rule x g.gives safe b i a s)
  least_index i a s = least_then (λ r. fails 1 r (alone_right x (length b.code) i a))
      (λ r. (nat_eq 4 r && s.clash) || fails 5 r (shaped_right x g.gives safe b.rows i a s.shape)) _ _
      (λ r t h k. let l : r < 4 = fails_before 1 0 (alone_right x (length b.code) i a) r h in let m : 4 ≤ t = past_three t k in omega (arith, l, m))
      (least_first 1 (alone_right x (length b.code) i a))
      (least_clash s.clash (λ r. fails 5 r (shaped_right x g.gives safe b.rows i a s.shape)) _
      (λ t k. let m : 5 ≤ t = shaped_from i a s.shape t k in omega (arith, m)) (least_first 5 (shaped_right x g.gives safe b.rows i a s.shape))) where
        past_three : (t : ℕ) → ((nat_eq 4 t && s.clash) || fails 5 t (shaped_right x g.gives safe b.rows i a s.shape)) ≡ true → 4 ≤ t
        past_three t h = elim (or_true (nat_eq 4 t && s.clash) (fails 5 t (shaped_right x g.gives safe b.rows i a s.shape)) h) [
          | inl e ↦ let q : 4 ≡ t = eqb-true 4 t (and_left (nat_eq 4 t) s.clash e) in omega (arith, q)
          | inr e ↦ let m : 5 ≤ t = shaped_from i a s.shape t e in omega (arith, m)
        ]

  least_row : (slots : List (Slot Shape)) (r : Row) → LeastRule (row_breaks x b slots r) (row_rule x b slots r)
  least_row slots r = least_then (λ t. fails 1 t (row_alone x (length b.code) r)) (λ t. fails 10 t (row_over b.code slots r)) _ _
      (λ t u h k. let l : t < 4 = fails_before 1 0 (row_alone x (length b.code) r) t h in let m : 10 ≤ u = fails_from 10 (row_over b.code slots r) u k in
      omega (arith, l, m))
      (least_first 1 (row_alone x (length b.code) r)) (least_first 10 (row_over b.code slots r))

-- ---- the least place

abbrev Least : (ℕ → ℕ → Type 0) → Option Fault → Type 0
Least P None = (j s : ℕ) → P j s → ⊥
Least P (Some f) = P f.index f.rule × ((j s : ℕ) → P j s → Precedes f.index f.rule j s)

least_as : (P Q : ℕ → ℕ → Type 0) → ((j s : ℕ) → P j s → Q j s) → ((j s : ℕ) → Q j s → P j s) → (o : Option Fault) → Least P o → Least Q o
least_as P Q to from None h = λ j s q. h j s (from j s q)
least_as P Q to from (Some f) h = (to f.index f.rule h.0, λ j s q. h.1 j s (from j s q))

before_is : (f g : Fault) → is_before f g ≡ true → Precedes f.index f.rule g.index g.rule
before_is f g h = elim (or_true (nat_lt f.index g.index) (nat_eq f.index g.index && nat_lt f.rule g.rule) h) [
  | inl e ↦ inl (ltb-true f.index g.index e)
  | inr e ↦ let l : f.rule < g.rule = ltb-true f.rule g.rule (and_right (nat_eq f.index g.index) (nat_lt f.rule g.rule) e) in
      inr (eqb-true f.index g.index (and_left (nat_eq f.index g.index) (nat_lt f.rule g.rule) e), omega (arith, l))
]

before_not : (f g : Fault) → is_before f g ≡ false → Precedes g.index g.rule f.index f.rule
before_not f g h = by_index (cases_Bool (nat_lt f.index g.index)) where
  no_or : (b c : Bool) → (b || c) ≡ false → c ≡ false
  no_or true c e = absurd (true≢false e)
  no_or false c e = e

  at_one : g.index ≤ f.index → (nat_eq f.index g.index ≡ true) ⊎ (nat_eq f.index g.index ≡ false) → Precedes g.index g.rule f.index f.rule
  at_one l (inl e) =
      let q : nat_lt f.rule g.rule ≡ false = sym (ap (λ z. z && nat_lt f.rule g.rule) e)
      ∙ no_or (nat_lt f.index g.index) (nat_eq f.index g.index && nat_lt f.rule g.rule) h in
      inr (sym (eqb-true f.index g.index e), ltb-false f.rule g.rule q)
  at_one l (inr e) = let d : f.index ≡ g.index → ⊥ = eqb-false f.index g.index e in inl (omega (arith, l, d))

  by_index : (nat_lt f.index g.index ≡ true) ⊎ (nat_lt f.index g.index ≡ false) → Precedes g.index g.rule f.index f.rule
  by_index (inl e) = absurd (true≢false (sym (or_left (nat_lt f.index g.index) (nat_eq f.index g.index && nat_lt f.rule g.rule) e) ∙ h))
  by_index (inr e) = at_one (ltb-false f.index g.index e) (cases_Bool (nat_eq f.index g.index))

precedes_on : (i r j s k t : ℕ) → Precedes i r j s → Precedes j s k t → Precedes i r k t
precedes_on i r j s k t (inl a) (inl b) = inl (omega (arith, a, b))
precedes_on i r j s k t (inl a) (inr b) = let e : j ≡ k = b.0 in inl (omega (arith, a, e))
precedes_on i r j s k t (inr a) (inl b) = let e : i ≡ j = a.0 in inl (omega (arith, e, b))
precedes_on i r j s k t (inr a) (inr b) = let l : r ≤ s = a.1 in let m : s ≤ t = b.1 in inr (a.0 ∙ b.0, omega (arith, l, m))

least_earlier : (P Q : ℕ → ℕ → Type 0) (o m : Option Fault) → Least P o → Least Q m → Least (λ j s. P j s ⊎ Q j s) (earlier o m)
least_earlier P Q None None h k = λ j s e. elim e [ inl p ↦ h j s p | inr q ↦ k j s q ]
least_earlier P Q None (Some g) h k = (inr k.0, λ j s e. elim e [ inl p ↦ absurd (h j s p) | inr q ↦ k.1 j s q ])
least_earlier P Q (Some f) None h k = (inl h.0, λ j s e. elim e [ inl p ↦ h.1 j s p | inr q ↦ absurd (k j s q) ])
least_earlier P Q (Some f) (Some g) h k = by_test (is_before g f) refl where
  by_test : (c : Bool) → is_before g f ≡ c → Least (λ j s. P j s ⊎ Q j s) (if c then Some g else Some f)
  by_test true e = (inr k.0, λ j s w. elim w [ inl p ↦ precedes_on _ _ _ _ j s (before_is g f e) (h.1 j s p) | inr q ↦ k.1 j s q ])
  by_test false e = (inl h.0, λ j s w. elim w [ inl p ↦ h.1 j s p | inr q ↦ precedes_on _ _ _ _ j s (before_not g f e) (k.1 j s q) ])

-- the first has the lower places
least_next : (P Q : ℕ → ℕ → Type 0) (o m : Option Fault) → ((i r j s : ℕ) → P i r → Q j s → ((k t : ℕ) → P k t → Precedes i r k t) → Precedes i r j s)
    → Least P o → Least Q m → Least (λ j s. P j s ⊎ Q j s) (or_next o m)
least_next P Q None None l h k = λ j s e. elim e [ inl p ↦ h j s p | inr q ↦ k j s q ]
least_next P Q None (Some g) l h k = (inr k.0, λ j s e. elim e [ inl p ↦ absurd (h j s p) | inr q ↦ k.1 j s q ])
least_next P Q (Some f) m l h k = (inl h.0, λ j s e. elim e [ inl p ↦ h.1 j s p | inr q ↦ l f.index f.rule j s h.0 q h.1 ])

least_at : (p : ℕ → Bool) (i : ℕ) (o : Option ℕ) → LeastRule p o → Least (λ j s. (j ≡ i) × (p s ≡ true)) (at_place i o)
least_at p i None h = λ j s e. h s e.1
least_at p i (Some r) h = ((refl, h.0), λ j s e. inr (sym e.0, h.1 s e.1))

-- ---- a body

-- an instruction of these, the first of which has the index n
record IndexIn (x : Table) (g : Signature) (safe : Bool) (b : BodyView) (n : ℕ) (cs : List Instr) (j s : ℕ) : Type 0 where
  place : ℕ
  at : n + place ≡ j
  instr : Instr
  is : slice_get cs place ≡ Some instr
  breaks : index_breaks x g.gives safe b j instr (slot_at (walked (space x g b)) j) s ≡ true

record RowIn (x : Table) (g : Signature) (b : BodyView) (rs : List Row) (j s : ℕ) : Type 0 where
  row : Row
  among : Among row rs
  at : j ≡ min row.from (length b.code - 1)
  breaks : row_breaks x b (walked (space x g b)) row s ≡ true

module _ (x : Table) (g : Signature) (safe : Bool) (b : BodyView) where
  abbrev W : List (Slot Shape)
  W = walked (space x g b)

  abbrev Here : ℕ → Instr → ℕ → ℕ → Type 0
  Here n c j s = (j ≡ n) × (index_breaks x g.gives safe b n c (slot_at W n) s ≡ true)

  least_indexes : (n : ℕ) (cs : List Instr) → Least (IndexIn x g safe b n cs) (first_of_indexes x g.gives safe b W n cs)
  least_indexes n [] = λ j s q. none-some q.instr q.is
  least_indexes n (c ∷ cs) = least_as (λ j s. Here n c j s ⊎ IndexIn x g safe b (n + 1) cs j s) (IndexIn x g safe b n (c ∷ cs)) to from _
      (least_next (Here n c) (IndexIn x g safe b (n + 1) cs) _ _ ordered
      (least_at (index_breaks x g.gives safe b n c (slot_at W n)) n _ (least_index x g safe b n c (slot_at W n))) (least_indexes (n + 1) cs)) where
        to : (j s : ℕ) → Here n c j s ⊎ IndexIn x g safe b (n + 1) cs j s → IndexIn x g safe b n (c ∷ cs) j s
        to j s (inl h) = record {
          place = 0;
          at = (let e : j ≡ n = h.0 in omega (arith, e));
          instr = c;
          is = refl;
          breaks = subst
              (λ z. index_breaks x g.gives safe b z c (slot_at W z) s ≡ true) (sym h.0) h.1;
        }
        to j s (inr q) = record {
          place = suc q.place;
          at = (let e : n + 1 + q.place ≡ j = q.at in omega (arith, e));
          instr = q.instr;
          is = q.is;
          breaks =
              q.breaks;
        }

        split : (j s k : ℕ) (a : Instr) → n + k ≡ j → slice_get (c ∷ cs) k ≡ Some a → index_breaks x g.gives safe b j a (slot_at W j) s ≡ true → Here n c j s
            ⊎ IndexIn x g safe b (n + 1) cs j s
        split j s zero a e i h = let q : j ≡ n = omega (arith, e) in
            inl (
              q,
              subst (λ z. index_breaks x g.gives safe b z c (slot_at W z) s ≡ true) q
                  (subst (λ z. index_breaks x g.gives safe b j z (slot_at W j) s ≡ true) (sym (same_Some c a i)) h),
            )
        split j s (suc k) a e i h = inr (record { place = k; at = omega (arith, e); instr = a; is = i; breaks = h })

        from : (j s : ℕ) → IndexIn x g safe b n (c ∷ cs) j s → Here n c j s ⊎ IndexIn x g safe b (n + 1) cs j s
        from j s q = split j s q.place q.instr q.at q.is q.breaks

        ordered : (i r j s : ℕ) → Here n c i r → IndexIn x g safe b (n + 1) cs j s → ((k t : ℕ) → Here n c k t → Precedes i r k t) → Precedes i r j s
        ordered i r j s h q f = let e : i ≡ n = h.0 in let d : n + 1 + q.place ≡ j = q.at in inl (omega (arith, e, d))

  abbrev AtRow : Row → ℕ → ℕ → Type 0
  AtRow r j s = (j ≡ min r.from (length b.code - 1)) × (row_breaks x b W r s ≡ true)

  least_rows : (P : ℕ → ℕ → Type 0) (first : Option Fault) (rs : List Row) → Least P first
      → Least (λ j s. P j s ⊎ RowIn x g b rs j s) (first_of_rows x b W first rs)
  least_rows P first [] h = least_as P (λ j s. P j s ⊎ RowIn x g b [] j s) (λ j s p. inl p) (λ j s e. elim e [ inl p ↦ p | inr q ↦ elim (q.among) [ ] ]) first h
  least_rows P first (r ∷ rs) h = least_as (λ j s. (P j s ⊎ AtRow r j s) ⊎ RowIn x g b rs j s) (λ j s. P j s ⊎ RowIn x g b (r ∷ rs) j s) to from _
      (least_rows (λ j s. P j s ⊎ AtRow r j s) (earlier first (row_fault x b W r)) rs
      (least_earlier P (AtRow r) first (row_fault x b W r) h
      (least_at (row_breaks x b W r) (min r.from (length b.code - 1)) _ (least_row x g safe b W r)))) where
        to : (j s : ℕ) → (P j s ⊎ AtRow r j s) ⊎ RowIn x g b rs j s → P j s ⊎ RowIn x g b (r ∷ rs) j s
        to j s (inl (inl p)) = inl p
        to j s (inl (inr q)) = inr (record { row = r; among = here; at = q.0; breaks = q.1 })
        to j s (inr q) = inr (record { row = q.row; among = there q.among; at = q.at; breaks = q.breaks })

        split : (j s : ℕ) (t : Row) → Among t (r ∷ rs) → j ≡ min t.from (length b.code - 1) → row_breaks x b W t s ≡ true → (P j s ⊎ AtRow r j s)
            ⊎ RowIn x g b rs j s
        split j s t here e k = inl (inr (e, k))
        split j s t (there m) e k = inr (record { row = t; among = m; at = e; breaks = k })

        from : (j s : ℕ) → P j s ⊎ RowIn x g b (r ∷ rs) j s → (P j s ⊎ AtRow r j s) ⊎ RowIn x g b rs j s
        from j s (inl p) = inl (inl p)
        from j s (inr q) = split j s q.row q.among q.at q.breaks

  index_from : (i : ℕ) (a : Instr) (t : Slot Shape) (s : ℕ) → index_breaks x g.gives safe b i a t s ≡ true → 1 ≤ s
  index_from i a t s h = elim (or_true (fails 1 s (alone_right x (length b.code) i a))
      ((nat_eq 4 s && t.clash) || fails 5 s (shaped_right x g.gives safe b.rows i a t.shape)) h) [
        | inl e ↦ fails_from 1 (alone_right x (length b.code) i a) s e
        | inr e ↦ elim (or_true (nat_eq 4 s && t.clash) (fails 5 s (shaped_right x g.gives safe b.rows i a t.shape)) e) [
          | inl d ↦ let q : 4 ≡ s = eqb-true 4 s (and_left (nat_eq 4 s) t.clash d) in omega (arith, q)
          | inr d ↦ let m : 5 ≤ s = fails_from 5 (shaped_right x g.gives safe b.rows i a t.shape) s d in omega (arith, m)
        ]
      ]

  row_from : (r : Row) (s : ℕ) → row_breaks x b W r s ≡ true → 1 ≤ s
  row_from r s h = elim (or_true (fails 1 s (row_alone x (length b.code) r)) (fails 10 s (row_over b.code W r)) h) [
    | inl e ↦ fails_from 1 (row_alone x (length b.code) r) s e
    | inr e ↦ let m : 10 ≤ s = fails_from 10 (row_over b.code W r) s e in omega (arith, m)
  ]

  pub from_one : (j s : ℕ) → BodyBreaks x g safe b j s → 1 ≤ s
  from_one j s (is_empty e) = omega arith
  from_one j s (at_index {i} {rule} {a} e h) = index_from i a (slot_at W i) s h
  from_one j s (by_row {rule} {r} m h) = row_from r s h

  least_zero : (j s : ℕ) → 1 ≤ s → Precedes 0 1 j s
  least_zero zero s h = inr (refl, h)
  least_zero (suc j) s h = inl (omega arith)

  body_of : (j s : ℕ) → IndexIn x g safe b 0 b.code j s ⊎ ((None ≡ Some (fault j s)) ⊎ RowIn x g b b.rows j s) → BodyBreaks x g safe b j s
  body_of j s (inl q) = let e : q.place ≡ j = (let d : 0 + q.place ≡ j = q.at in omega (arith, d)) in
      at_index (subst (λ z. slice_get b.code z ≡ Some q.instr) e q.is) q.breaks
  body_of j s (inr (inl n)) = absurd (none-some (fault j s) n)
  body_of j s (inr (inr q)) = subst (λ z. BodyBreaks x g safe b z s) (sym q.at) (by_row q.among q.breaks)

  of_body : 0 < length b.code → (j s : ℕ) → BodyBreaks x g safe b j s → IndexIn x g safe b 0 b.code j s ⊎ ((None ≡ Some (fault j s)) ⊎ RowIn x g b b.rows j s)
  of_body some j s (is_empty e) = absurd (omega (arith, some, e))
  of_body some j s (at_index {i} {rule} {a} e h) = inl (record { place = j; at = omega arith; instr = a; is = e; breaks = h })
  of_body some j s (by_row {rule} {r} m h) = inr (inr (record { row = r; among = m; at = refl; breaks = h }))

  pub least_body : Least (BodyBreaks x g safe b) (body_fault x g safe b)
  least_body = by_test (nat_eq (length b.code) 0) refl where
    by_test : (c : Bool) → nat_eq (length b.code) 0 ≡ c → Least (BodyBreaks x g safe b) (if c then Some (fault 0 1) else first_by x g safe b W)
    by_test true e = (is_empty (eqb-true (length b.code) 0 e), λ j s p. least_zero j s (from_one j s p))
    by_test false e =
        let d : length b.code ≡ 0 → ⊥ = eqb-false (length b.code) 0 e in
        let some : 0 < length b.code = omega (arith, d) in
        least_as (λ j s. IndexIn x g safe b 0 b.code j s ⊎ ((None ≡ Some (fault j s)) ⊎ RowIn x g b b.rows j s)) (BodyBreaks x g safe b) body_of (of_body some)
        (first_by x g safe b W)
        (least_earlier (IndexIn x g safe b 0 b.code) (λ j s. (None ≡ Some (fault j s)) ⊎ RowIn x g b b.rows j s) _ _ (least_indexes 0 b.code)
        (least_rows (λ j s. None ≡ Some (fault j s)) None b.rows (λ j s n. none-some (fault j s) n)))

  -- a place of a body that is not empty lies in it
  pub lies_in : 0 < length b.code → (j s : ℕ) → BodyBreaks x g safe b j s → j < length b.code
  lies_in some j s (is_empty e) = some
  lies_in some j s (at_index {i} {rule} {a} e h) = slice_get_within b.code j a e
  lies_in some j s (by_row {rule} {r} m h) = omega (arith, some)

-- ---- a function

module _ (x : Table) (f : ImageFuncView) where
  abbrev Plain : ℕ → ℕ → Type 0
  Plain j s = ((frame_right f.frame ≡ false) × ((j ≡ 0) × (s ≡ 11))) ⊎ BodyBreaks x (signature f.ty) false f.plain j s

  record SafeIn (o : Option BodyView) (j s : ℕ) : Type 0 where
    body : BodyView
    is : o ≡ Some body
    index : ℕ
    at : j ≡ length f.plain.code + index
    breaks : BodyBreaks x (signature f.ty) true body index s

  least_frame : Least (λ j s. (frame_right f.frame ≡ false) × ((j ≡ 0) × (s ≡ 11))) (frame_fault f.frame)
  least_frame = by_test (frame_right f.frame) refl where
    by_test : (c : Bool) → frame_right f.frame ≡ c → Least (λ j s. (frame_right f.frame ≡ false) × ((j ≡ 0) × (s ≡ 11))) (if c then None else Some (fault 0 11))
    by_test true e = λ j s h. false≢true (sym h.0 ∙ e)
    by_test false e = ((e, (refl, refl)), λ j s h. let d : s ≡ 11 = h.1.1 in inr (sym h.1.0, omega (arith, d)))

  least_plain : Least Plain (earlier (frame_fault f.frame) (body_fault x (signature f.ty) false f.plain))
  least_plain = least_earlier _ (BodyBreaks x (signature f.ty) false f.plain) _ _ least_frame (least_body x (signature f.ty) false f.plain)

  shifted : (n i r j s : ℕ) → Precedes i r j s → Precedes (n + i) r (n + j) s
  shifted n i r j s (inl a) = inl (omega (arith, a))
  shifted n i r j s (inr a) = let e : i ≡ j = a.0 in inr (omega (arith, e), a.1)

  least_behind : (b : BodyView) (o : Option Fault) → Least (BodyBreaks x (signature f.ty) true b) o → Least (SafeIn (Some b)) (behind (length f.plain.code) o)
  least_behind b None h = λ j s q. h q.index s (subst (λ z. BodyBreaks x (signature f.ty) true z q.index s) (sym (same_Some b q.body q.is)) q.breaks)
  least_behind b (Some p) h = (
    record { body = b; is = refl; index = p.index; at = refl; breaks = h.0 },
    λ j s q.
        subst (λ z. Precedes (length f.plain.code + p.index) p.rule z s) (sym q.at)
        (shifted (length f.plain.code) p.index p.rule q.index s
        (h.1 q.index s (subst (λ z. BodyBreaks x (signature f.ty) true z q.index s) (sym (same_Some b q.body q.is)) q.breaks))),
  )

  least_safe : (o : Option BodyView) → Least (SafeIn o) (safe_fault x f o)
  least_safe None = λ j s q. none-some q.body q.is
  least_safe (Some b) = least_behind b (body_fault x (signature f.ty) true b) (least_body x (signature f.ty) true b)

  -- the plain body has the lower places
  plain_first : (i r j s : ℕ) → Plain i r → SafeIn f.safe j s → ((k t : ℕ) → Plain k t → Precedes i r k t) → Precedes i r j s
  plain_first i r j s p q least = elim (cases_eq (length f.plain.code) 0) [
    | inl e ↦ precedes_on i r 0 1 j s (least 0 1 (inr (is_empty e))) (zero_first j s (from_one x (signature f.ty) true q.body q.index s q.breaks))
    | inr d ↦ behind_it p
  ] where
    zero_first : (k t : ℕ) → 1 ≤ t → Precedes 0 1 k t
    zero_first zero t h = inr (refl, h)
    zero_first (suc k) t h = inl (omega arith)

    behind_it : Plain i r → Precedes i r j s
    behind_it (inl h) = elim (cases_eq (length f.plain.code) 0) [
      | inl e ↦ precedes_on i r 0 1 j s (least 0 1 (inr (is_empty e))) (zero_first j s (from_one x (signature f.ty) true q.body q.index s q.breaks))
      | inr d ↦ let e : i ≡ 0 = h.1.0 in let a : j ≡ length f.plain.code + q.index = q.at in inl (omega (arith, e, a, d))
    ]
    behind_it (inr b) = elim (cases_eq (length f.plain.code) 0) [
      | inl e ↦ precedes_on i r 0 1 j s (least 0 1 (inr (is_empty e))) (zero_first j s (from_one x (signature f.ty) true q.body q.index s q.breaks))
      | inr d ↦ let some : 0 < length f.plain.code = omega (arith, d) in let l : i < length f.plain.code =
          lies_in x (signature f.ty) false f.plain some i r b in let a : j ≡ length f.plain.code + q.index = q.at in inl (omega (arith, l, a))
    ]

  to_func : (j s : ℕ) → Plain j s ⊎ SafeIn f.safe j s → FuncBreaks x f j s
  to_func j s (inl (inl h)) = subst (λ z. FuncBreaks x f z s) (sym h.1.0) (subst (λ z. FuncBreaks x f 0 z) (sym h.1.1) (by_frame h.0))
  to_func j s (inl (inr b)) = in_plain b
  to_func j s (inr q) = subst (λ z. FuncBreaks x f z s) (sym q.at) (in_safe q.is q.breaks)

  from_func : (j s : ℕ) → FuncBreaks x f j s → Plain j s ⊎ SafeIn f.safe j s
  from_func j s (by_frame h) = inl (inl (h, (refl, refl)))
  from_func j s (in_plain b) = inl (inr b)
  from_func j s (in_safe {i} {rule} {b} e h) = inr (record { body = b; is = e; index = i; at = refl; breaks = h })

  pub least_func : Least (FuncBreaks x f) (func_fault x f)
  least_func = least_as (λ j s. Plain j s ⊎ SafeIn f.safe j s) (FuncBreaks x f) to_func from_func _
      (least_next Plain (SafeIn f.safe) _ _ plain_first least_plain (least_safe f.safe))

-- ---- an image

record FuncIn (x : Table) (n : ℕ) (fs : List ImageFuncView) (k j s : ℕ) : Type 0 where
  place : ℕ
  at : n + place ≡ k
  func : ImageFuncView
  is : slice_get fs place ≡ Some func
  breaks : FuncBreaks x func j s

abbrev First : Table → ℕ → List ImageFuncView → Option Broken → Type 0
First x n fs None = (k j s : ℕ) → FuncIn x n fs k j s → ⊥
First x n fs (Some p) = FuncIn x n fs p.func p.index p.rule × ((k j s : ℕ) → FuncIn x n fs k j s → PrecedesIn p.func p.index p.rule k j s)

module _ (x : Table) where
  behind_one : (n k j s : ℕ) (f : ImageFuncView) (fs : List ImageFuncView) → FuncIn x (n + 1) fs k j s → FuncIn x n (f ∷ fs) k j s
  behind_one n k j s f fs q = record {
    place = suc q.place;
    at = (let e : n + 1 + q.place ≡ k = q.at in omega (arith, e));
    func = q.func;
    is = q.is;
    breaks =
        q.breaks;
  }

  at_front : (n k j s : ℕ) (f : ImageFuncView) (fs : List ImageFuncView) → FuncIn x n (f ∷ fs) k j s → ((n ≡ k) × FuncBreaks x f j s)
      ⊎ FuncIn x (n + 1) fs k j s
  at_front n k j s f fs q = split q.place q.func q.at q.is q.breaks where
    split : (i : ℕ) (h : ImageFuncView) → n + i ≡ k → slice_get (f ∷ fs) i ≡ Some h → FuncBreaks x h j s → ((n ≡ k) × FuncBreaks x f j s)
        ⊎ FuncIn x (n + 1) fs k j s
    split zero h e i b = inl (omega (arith, e), subst (λ z. FuncBreaks x z j s) (sym (same_Some f h i)) b)
    split (suc m) h e i b = inr (record { place = m; at = omega (arith, e); func = h; is = i; breaks = b })

  first_below : (n : ℕ) (f : ImageFuncView) (fs : List ImageFuncView) (o : Option Fault) (m : Option Broken) → Least (FuncBreaks x f) o → First x (n + 1) fs m
      → First x n (f ∷ fs) (or_below n o m)
  first_below n f fs None None h g = λ k j s q. elim (at_front n k j s f fs q) [ inl p ↦ h j s p.1 | inr p ↦ g k j s p ]
  first_below n f fs None (Some p) h g = (
    behind_one n p.func p.index p.rule f fs g.0,
    λ k j s q. elim
        (at_front n k j s f fs q) [ inl w ↦ absurd (h j s w.1) | inr w ↦ g.1 k j s w ],
  )
  first_below n f fs (Some p) m h g = (
    record { place = 0; at = omega arith; func = f; is = refl; breaks = h.0 },
    λ k j s q. elim (at_front n k j s f fs q) [
      | inl w ↦ inr (w.0, h.1 j s w.1)
      | inr w ↦ inl (let e : n + 1 + w.place ≡ k = w.at in omega (arith, e))
    ],
  )

  first_funcs : (n : ℕ) (fs : List ImageFuncView) → First x n fs (first_of_funcs x n fs)
  first_funcs n [] = λ k j s q. none-some q.func q.is
  first_funcs n (f ∷ fs) = first_below n f fs (func_fault x f) (first_of_funcs x (n + 1) fs) (least_func x f) (first_funcs (n + 1) fs)

first_is : (i : ImageView) (o : Option Broken) → First (table_of i) 0 i.funcs o → IfSome o (λ p. FirstBroken i p.func p.index p.rule)
first_is i None h = tt
first_is i (Some p) h = record {
  breaks = record {
    body = h.0.func;
    is = (let e : h.0.place ≡ p.func = (let d : 0 + h.0.place ≡ p.func = h.0.at in omega (arith, d)) in subst
        (λ z. slice_get i.funcs z ≡ Some h.0.func) e h.0.is);
    breaks = h.0.breaks;
  };
  first = λ k j s q. h.1 k j s (record { place = k; at = omega arith; func = q.body; is = q.is; breaks = q.breaks });
}

pub first_fault : (i : ImageView) (r : Result (Option Broken) AllocError) → IfOk r (λ o. o ≡ image_fault i)
    → IfOk r (λ o. IfSome o (λ p. FirstBroken i p.func p.index p.rule))
first_fault i (Ok o) h = first_is i o (subst (First (table_of i) 0 i.funcs) (sym h) (first_funcs (table_of i) 0 i.funcs))
first_fault i (Err e) h = tt
