-- A spelling read from its end.
use Rattle.std.proofs.Common.{Bool, true, false, ◌≡◌, ◌<◌, ℕ, zero, suc, ◌+◌, ◌-◌, List, [], ◌∷◌, ◌++◌, length, take, drop, get_or, Option, Some, None, refl}
use Rattle.std.proofs.Common.{sym, ap, ◌∙◌, arith}
use Rattle.std.specs.Prelude.{nat_eq, if◌then◌else◌}
use Rattle.std.proofs.lemmas.Bool.{eqb-true, ne_eqb, eq-eqb}
use Rattle.std.proofs.lemmas.List.{take-append-drop, drop_more}
use Rattle.tx_code.specs.Signatures as spelling
use Rattle.tx_code.specs.Signatures.{Ending, Whole, deeper, longer, is_empty, ending, commas, ends_in}
use Rattle.code_walk.specs.Spellings.{inside_from, depth_with, depth_behind, comma_at, is_open}

-- ---- one more byte in front

abbrev stepped : (byte : ℕ) → (inside : List ℕ) → Option ℕ → Ending
stepped c inside None = Whole [] inside
stepped c inside (Some d) = spelling.Open d (c ∷ inside)

at_zero : (b e : Bool) (c : ℕ) (inside : List ℕ) → (if b then Whole [] inside else spelling.Open (if e then 1 else 0) (c ∷ inside))
    ≡ stepped c inside (if b then None else Some (if e then 1 else 0))
at_zero true e c inside = refl
at_zero false e c inside = refl

at_more : (b e : Bool) (c d m : ℕ) (inside : List ℕ) → suc (suc d) ≡ m
    → spelling.Open (if b then d else (if e then suc (suc d) else suc d)) (c ∷ inside) ≡ stepped c inside (if b then Some d else Some (if e then m else suc d))
at_more true e c d m inside h = refl
at_more false true c d m inside h = ap (λ z. spelling.Open z (c ∷ inside)) h
at_more false false c d m inside h = refl

deeper_is : (c d : ℕ) (inside : List ℕ) → deeper c d inside ≡ stepped c inside (depth_with c d)
deeper_is c zero inside = at_zero (nat_eq c 40) (nat_eq c 41) c inside
deeper_is c (suc d) inside = at_more (nat_eq c 40) (nat_eq c 41) c d (suc d + 1) inside (omega arith)

ending_at : (name : List ℕ) (at d : ℕ) → at < length name → ending (drop (at + 1) name) ≡ spelling.Open d (inside_from name (at + 1))
    → ending (drop at name) ≡ stepped (get_or name at 0) (inside_from name (at + 1)) (depth_with (get_or name at 0) d)
ending_at name at d h o = ap ending (drop_more name at 0 h) ∙ ap (λ z. longer (get_or name at 0) z (is_empty (drop (at + 1) name))) o
    ∙ deeper_is (get_or name at 0) d (inside_from name (at + 1))

inside_more : (name : List ℕ) (at : ℕ) → at + 1 < length name → inside_from name at ≡ get_or name at 0 ∷ inside_from name (at + 1)
inside_more name at h =
    let k : length name - 1 - at ≡ suc (length name - 1 - (at + 1)) = omega (arith, h) in
    let l : at < length name = omega (arith, h) in
    ap (λ z. take z (drop at name)) k ∙ ap (take (suc (length name - 1 - (at + 1)))) (drop_more name at 0 l)

pub goes_on : (name : List ℕ) (at d e : ℕ) → at + 1 < length name → ending (drop (at + 1) name) ≡ spelling.Open d (inside_from name (at + 1))
    → Some e ≡ depth_with (get_or name at 0) d → ending (drop at name) ≡ spelling.Open e (inside_from name at)
goes_on name at d e h o s =
    let l : at < length name = omega (arith, h) in
    ending_at name at d l o ∙ ap (stepped (get_or name at 0) (inside_from name (at + 1))) (sym s) ∙ ap (spelling.Open e) (sym (inside_more name at h))

whole_front : (front s before inside : List ℕ) → ending s ≡ Whole before inside → ending (front ++ s) ≡ Whole (front ++ before) inside
whole_front [] s b i h = h
whole_front (c ∷ cs) s b i h = ap (λ z. longer c z (is_empty (cs ++ s))) (whole_front cs s b i h)

no_more : (xs : List ℕ) → xs ++ [] ≡ xs
no_more [] = refl
no_more (x ∷ xs) = ap (λ z. x ∷ z) (no_more xs)

pub begins : (name : List ℕ) (at d : ℕ) → at < length name → ending (drop (at + 1) name) ≡ spelling.Open d (inside_from name (at + 1))
    → None ≡ depth_with (get_or name at 0) d → ending name ≡ Whole (take at name) (inside_from name (at + 1))
begins name at d h o s =
    ap ending (sym (take-append-drop at name)) ∙ whole_front (take at name) (drop at name) [] (inside_from name (at + 1))
    (ending_at name at d h o ∙ ap (stepped (get_or name at 0) (inside_from name (at + 1))) (sym s))
    ∙ ap (λ z. Whole z (inside_from name (at + 1))) (no_more (take at name))

-- ---- the last byte

pub bare : (name : List ℕ) (k : ℕ) → k + 1 ≡ length name → (get_or name k 0 ≡ 41 → ⊥) → ending name ≡ spelling.Bare
bare [] k e h = refl
bare (c ∷ []) zero e h = ap (λ b. if b then spelling.Open 0 [] else spelling.Bare) (ne_eqb c 41 h)
bare (c ∷ []) (suc k) e h = absurd (omega (arith, e))
bare (c ∷ d ∷ cs) zero e h = absurd (omega (arith, e))
bare (c ∷ d ∷ cs) (suc k) e h = ap (λ z. longer c z false) (bare (d ∷ cs) k (omega (arith, e)) h)

pub last_one : (name : List ℕ) (k : ℕ) → k + 1 ≡ length name → get_or name k 0 ≡ 41 → ending (drop k name) ≡ spelling.Open 0 (inside_from name k)
last_one [] k e h = absurd (omega (arith, e))
last_one (c ∷ []) zero e h = ap (λ b. if b then spelling.Open 0 [] else spelling.Bare) (eq-eqb c 41 h)
last_one (c ∷ []) (suc k) e h = absurd (omega (arith, e))
last_one (c ∷ d ∷ cs) zero e h = absurd (omega (arith, e))
last_one (c ∷ d ∷ cs) (suc k) e h =
    let l : length (d ∷ cs) - 1 - k ≡ length (c ∷ d ∷ cs) - 1 - suc k = omega arith in
    last_one (d ∷ cs) k (omega (arith, e)) h ∙ ap (λ z. spelling.Open 0 (take z (drop k (d ∷ cs)))) l

pub ends_is : (byte : ℕ) (name : List ℕ) (k : ℕ) → k + 1 ≡ length name → ends_in byte name ≡ nat_eq (get_or name k 0) byte
ends_is byte [] k e = absurd (omega (arith, e))
ends_is byte (c ∷ []) zero e = refl
ends_is byte (c ∷ []) (suc k) e = absurd (omega (arith, e))
ends_is byte (c ∷ d ∷ cs) zero e = absurd (omega (arith, e))
ends_is byte (c ∷ d ∷ cs) (suc k) e = ends_is byte (d ∷ cs) k (omega (arith, e))

-- ---- commas

shut_zero : (b e : Bool) (n m : ℕ) (cs : List ℕ) → n ≡ 1 → m ≡ 0 → (if b then commas 1 cs else commas 0 cs) ≡ commas (if b then n else (if e then m else 0)) cs
shut_zero true e n m cs h k = ap (λ z. commas z cs) (sym h)
shut_zero false true n m cs h k = ap (λ z. commas z cs) (sym k)
shut_zero false false n m cs h k = refl

shut_more : (b e : Bool) (d n m : ℕ) (cs : List ℕ) → n ≡ suc (suc d) → m ≡ d
    → (if b then commas (suc (suc d)) cs else (if e then commas d cs else commas (suc d) cs)) ≡ commas (if b then n else (if e then m else suc d)) cs
shut_more true e d n m cs h k = ap (λ z. commas z cs) (sym h)
shut_more false true d n m cs h k = ap (λ z. commas z cs) (sym k)
shut_more false false d n m cs h k = refl

nothing_more : (n : ℕ) → n ≡ 0 + n
nothing_more n = omega arith

at_comma : (c : ℕ) (cs : List ℕ) → c ≡ 44 → suc (commas 0 cs) ≡ 1 + commas (depth_behind c 0) cs
at_comma c cs h = rw h (omega arith)

zero_step : (b : Bool) (c : ℕ) (cs : List ℕ) → nat_eq c 44 ≡ b
    → (if b then suc (commas 0 cs) else (if nat_eq c 40 then commas 1 cs else commas 0 cs)) ≡ (if b then 1 else 0) + commas (depth_behind c 0) cs
zero_step true c cs h = at_comma c cs (eqb-true c 44 h)
zero_step false c cs h = shut_zero (nat_eq c 40) (nat_eq c 41) (0 + 1) (0 - 1) cs refl refl ∙ nothing_more (commas (depth_behind c 0) cs)

none_inside : (b e : Bool) → e ≡ false → ◌≡◌ {A = ℕ} (if b then (if e then 1 else 0) else 0) 0
none_inside true e h = ap (λ z. if z then 1 else 0) h
none_inside false e h = refl

pub comma_step : (d c : ℕ) (cs : List ℕ) → commas d (c ∷ cs) ≡ comma_at c d + commas (depth_behind c d) cs
comma_step zero c cs = zero_step (nat_eq c 44) c cs refl
comma_step (suc d) c cs =
    shut_more (nat_eq c 40) (nat_eq c 41) d (suc d + 1) (suc d - 1) cs (omega arith) (omega arith) ∙ nothing_more (commas (depth_behind c (suc d)) cs)
    ∙ ap (λ z. z + commas (depth_behind c (suc d)) cs) (sym (none_inside (nat_eq c 44) (nat_eq (suc d) 0) (ne_eqb (suc d) 0 (λ e. omega (arith, e)))))

-- ---- as the code reads it

pub empty_bare : (name : List ℕ) → length name ≡ 0 → ending name ≡ spelling.Bare
empty_bare [] h = refl
empty_bare (c ∷ cs) h = absurd (omega (arith, h))

pub still_open : (name : List ℕ) (at d : ℕ) (inside : List ℕ) → at ≡ 0 → ending (drop at name) ≡ spelling.Open d inside → is_open (ending name) ≡ true
still_open name at d inside e h = ap (λ z. is_open (ending (drop z name))) (sym e) ∙ ap is_open h
