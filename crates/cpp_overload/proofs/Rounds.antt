-- What is known of the candidates so far.
use Rattle.std.proofs.Common.{◌≡◌, ◌∙◌, ℕ, ◌+◌, ◌<◌, ◌≤◌, Bool, true, false, length, List, Some, slice_get, get_or, map, sym, ap, arith, inl, inr, subst, ◌||◌}
use Rattle.std.proofs.Common.{below_more, eqb, ne_eqb}
use Rattle.std.specs.Option.{option_map}
use Rattle.std.proofs.lemmas.Option.{slice_get-map, slice_get-get_or, slice_get_within}
use Rattle.std.proofs.lemmas.Bool.{cases_lt, cases_eq, or_cases, or_parts}
use Rattle.std.proofs.lemmas.List.{length-map}
use Rattle.cpp_types.specs.Class.{Class}
use Rattle.cpp_overload.specs.declared.calls.Cand.{Cand}
use Rattle.cpp_overload.specs.Overload.{Candidate, Argument, candidate_of, better_at, IsViable, IsBetter, IsViableAt, BeatsAll, IsBest, IsFirst, HasFirst}
use Rattle.cpp_overload.specs.Overload.{IsOnlyHope, IsUnbeaten, IsAmbiguous}

-- the arguments below `i`: none is worse for `p`, and one is better where the flag is set
pub record Compared (classes : List Class) (args : List Argument) (p q : Candidate) (i : ℕ) (one : Bool) : Type 0 where
  pub no_worse : (j : ℕ) → j < i → better_at classes args q p j ≡ false
  pub some_better : one ≡ true → (j : ℕ) × (j < i) × (better_at classes args p q j ≡ true)
  pub none_better : one ≡ false → (j : ℕ) → j < i → better_at classes args p q j ≡ false

pub compared_more : (classes : List Class) (args : List Argument) (p q : Candidate) (i : ℕ) (one here : Bool) → Compared classes args p q i one
    → better_at classes args q p i ≡ false → here ≡ better_at classes args p q i → Compared classes args p q (i + 1) (one || here)
compared_more classes args p q i one here s n h = record {
  no_worse = below_more _ i s.no_worse n;
  some_better = λ e. elim (or_cases one here e) [
    | inl a ↦
        (let t = s.some_better a in let w = t.1 in (t.0, (let v : t.0 < i + 1 = omega arith in v), t.2))
    | inr b ↦
        (i, (let v : i < i + 1 = omega arith in v), sym h ∙ b)
  ];
  none_better = λ e. let t = or_parts one here e in below_more _ i (s.none_better t.0) (sym h ∙ t.1);
}

-- of the candidates below `i` only `hope` may be the best
pub record Hope (classes : List Class) (cands : List Candidate) (args : List Argument) (i hope : ℕ) (p : Candidate) : Type 0 where
  pub here : IsViableAt classes cands args hope p
  pub others : (j : ℕ) → j < i → (j ≡ hope → ⊥) → IsBest classes cands args j → ⊥

asymmetric : (classes : List Class) (args : List Argument) (p q : Candidate) → IsBetter classes args p q → IsBetter classes args q p → ⊥
asymmetric classes args p q a b = let h : better_at classes args p q a.index ≡ false = b.no_worse a.index a.within in let k = a.some_better in absurd cc

same_cand : (cands : List Candidate) (i : ℕ) (p q : Candidate) → slice_get cands i ≡ Some p → slice_get cands i ≡ Some q → p ≡ q
same_cand cands i p q e f = cc

pub hope_first : (classes : List Class) (cands : List Candidate) (args : List Argument) (hope : ℕ) (p : Candidate) → HasFirst classes cands args hope
    → slice_get cands hope ≡ Some p → Hope classes cands args 0 hope p
hope_first classes cands args hope p f e = record {
  here = subst (λ (z : Candidate). IsViableAt classes cands args hope z) (same_cand cands hope f.candidate p f.first.here.there e) f.first.here;
  others = λ j h. absurd (omega arith);
}

pub hope_kept : (classes : List Class) (cands : List Candidate) (args : List Argument) (i hope : ℕ) (p q : Candidate) → Hope classes cands args i hope p
    → slice_get cands i ≡ Some q → ((i ≡ hope → ⊥) → IsViable classes args q → IsBetter classes args p q) → Hope classes cands args (i + 1) hope p
hope_kept classes cands args i hope p q s e n = record {
  here = s.here;
  others = λ j h k b. elim (cases_lt j i) [
    | inl a ↦ s.others j a k b
    | inr a ↦
        let l : j ≡ i = omega arith in
        let m : i ≡ hope → ⊥ = λ o. k (l ∙ o) in
        let f : slice_get cands i ≡ Some b.candidate = ap (slice_get cands) (sym l) ∙ b.here.there in
        let o : b.candidate ≡ q = same_cand cands i b.candidate q f e in
        let w : IsViable classes args q = subst (λ (z : Candidate). IsViable classes args z) o b.here.viable in
        let x : IsBetter classes args q p = subst (λ (z : Candidate). IsBetter classes args z p) o (b.beats.each hope p (λ g. k (sym g)) s.here) in
        asymmetric classes args p q (n m w) x
  ];
}

pub hope_new : (classes : List Class) (cands : List Candidate) (args : List Argument) (i hope : ℕ) (p q : Candidate) → Hope classes cands args i hope p
    → slice_get cands i ≡ Some q → (i ≡ hope → ⊥) → IsViable classes args q → (IsBetter classes args p q → ⊥) → Hope classes cands args (i + 1) i q
hope_new classes cands args i hope p q s e d v n = record {
  here = record { there = e; viable = v };
  others = λ j h k b. elim (cases_eq j hope) [
    | inl a ↦
        let f : slice_get cands hope ≡ Some b.candidate = ap (slice_get cands) (sym a) ∙ b.here.there in
        let o : b.candidate ≡ p = same_cand cands hope b.candidate p f s.here.there in
        n (subst (λ (z : Candidate). IsBetter classes args z q) o (b.beats.each i q (λ g. k (sym g)) (record { there = e; viable = v })))
    | inr a ↦ s.others j (let w : j < i = omega arith in w) a b
  ];
}

pub hope_end : (classes : List Class) (cands : List Candidate) (args : List Argument) (i hope end : ℕ) (p : Candidate) → Hope classes cands args i hope p
    → end ≤ i → IsOnlyHope classes cands args end hope
hope_end classes cands args i hope end p s h = record { candidate = p; here = s.here; others = λ j w. s.others j (let v : j < i = omega arith in v) }

pub cand_there : (xs : List Cand) (i : ℕ) (x : Cand) → i < length xs → x ≡ get_or xs i x → slice_get (map candidate_of xs) i ≡ Some (candidate_of x)
cand_there xs i x h e = slice_get-map candidate_of xs i ∙ ap (option_map candidate_of) (slice_get-get_or xs i x h ∙ ap Some (sym e))

pub cand_within : (xs : List Cand) (i : ℕ) (p : Candidate) → slice_get (map candidate_of xs) i ≡ Some p → i < length xs
cand_within xs i p e = let h : i < length (map candidate_of xs) = slice_get_within (map candidate_of xs) i p e in
    let k : length (map candidate_of xs) ≡ length xs = simp length-map in omega arith

pub not_viable_at : (classes : List Class) (cands : List Candidate) (args : List Argument) (i : ℕ) (q : Candidate) → slice_get cands i ≡ Some q
    → (IsViable classes args q → ⊥) → (r : Candidate) → IsViableAt classes cands args i r → ⊥
not_viable_at classes cands args i q e n r v = n (subst (λ (z : Candidate). IsViable classes args z) (same_cand cands i r q v.there e) v.viable)

pub best_of : (classes : List Class) (cands : List Candidate) (args : List Argument) (i : ℕ) (p q : Candidate) → IsViableAt classes cands args i p
    → slice_get cands i ≡ Some q → BeatsAll classes cands args i q → IsBest classes cands args i
best_of classes cands args i p q v e b = record {
  candidate = q;
  here = subst (λ (z : Candidate). IsViableAt classes cands args i z)
      (same_cand cands i p q v.there e) v;
  beats = b;
}

-- a candidate that another is not beaten by is not the best
unbeaten_not_best : (classes : List Class) (cands : List Candidate) (args : List Argument) (i j : ℕ) (p : Candidate) → slice_get cands i ≡ Some p
    → IsUnbeaten classes cands args i p j → IsBest classes cands args i → ⊥
unbeaten_not_best classes cands args i j p e u b = u.unbeaten
    (subst (λ (z : Candidate). IsBetter classes args z u.candidate) (same_cand cands i b.candidate p b.here.there e)
    (b.beats.each j u.candidate u.other u.here))

pub ambiguous : (classes : List Class) (xs : List Cand) (args : List Argument) (first hope j second : ℕ) (p q : Candidate)
    → HasFirst classes (map candidate_of xs) args first → IsOnlyHope classes (map candidate_of xs) args (length xs) hope
    → slice_get (map candidate_of xs) hope ≡ Some p → IsUnbeaten classes (map candidate_of xs) args hope p j → slice_get (map candidate_of xs) first ≡ Some q
    → IsUnbeaten classes (map candidate_of xs) args first q second → IsAmbiguous classes (map candidate_of xs) args first second
ambiguous classes xs args first hope j second p q f o e u g w = record {
  none_best = λ i b. elim (cases_eq i hope) [
    | inl a ↦ unbeaten_not_best classes (map candidate_of xs) args hope j p e u (subst (λ (z : ℕ). IsBest classes (map candidate_of xs) args z) a b)
    | inr a ↦ o.others i (cand_within xs i b.candidate b.here.there) a b
  ];
  candidate = q;
  lowest = subst (λ (z : Candidate). IsFirst classes (map candidate_of xs) args first z)
      (same_cand (map candidate_of xs) first f.candidate q f.first.here.there g) f.first;
  unbeaten = w;
}

pub passed_more : (classes : List Class) (cands : List Candidate) (args : List Argument) (i : ℕ) (p : Candidate) (j : ℕ) (q : Candidate)
    → slice_get cands j ≡ Some q → (eqb j i ≡ false → IsViable classes args q → IsBetter classes args p q)
    → ((k : ℕ) (r : Candidate) → k < j → (k ≡ i → ⊥) → IsViableAt classes cands args k r → IsBetter classes args p r) → (k : ℕ) (r : Candidate) → k < j + 1
    → (k ≡ i → ⊥) → IsViableAt classes cands args k r → IsBetter classes args p r
passed_more classes cands args i p j q e f s k r h n v = elim (cases_lt k j) [
  | inl a ↦ s k r a n v
  | inr a ↦
      let l : k ≡ j = omega arith in
      let g : slice_get cands j ≡ Some r = ap (slice_get cands) (sym l) ∙ v.there in
      let o : r ≡ q = same_cand cands j r q g e in
      let m : eqb j i ≡ false = ne_eqb j i (λ w. n (l ∙ w)) in
      subst (λ (z : Candidate). IsBetter classes args p z) (sym o) (f m (subst (λ (z : Candidate). IsViable classes args z) o v.viable))
]

pub viable_more : (classes : List Class) (cands : List Candidate) (args : List Argument) (i : ℕ) (q : Candidate) → slice_get cands i ≡ Some q
    → (IsViable classes args q → ⊥) → ((j : ℕ) (r : Candidate) → j < i → IsViableAt classes cands args j r → ⊥) → (j : ℕ) (r : Candidate) → j < i + 1
    → IsViableAt classes cands args j r → ⊥
viable_more classes cands args i q e n s j r h v = elim (cases_lt j i) [
  | inl a ↦ s j r a v
  | inr a ↦
      let l : j ≡ i = omega arith in
      let g : slice_get cands i ≡ Some r = ap (slice_get cands) (sym l) ∙ v.there in
      n (subst (λ (z : Candidate). IsViable classes args z) (same_cand cands i r q g e) v.viable)
]

pub hope_at : (classes : List Class) (cands : List Candidate) (args : List Argument) (i h k : ℕ) (p q : Candidate) → h ≡ k → p ≡ q
    → Hope classes cands args i k q → Hope classes cands args i h p
hope_at classes cands args i h k p q e f s = subst (λ (z : ℕ). Hope classes cands args i z p) (sym e)
    (subst (λ (z : Candidate). Hope classes cands args i k z) (sym f) s)
