-- Lists of definitions, as loops build them.
use Rattle.std.proofs.Common.{◌≡◌, ◌∙◌, ◌+◌, ℕ, zero, suc, Bool, true, false, not, cond, if◌then◌else◌, List, [], ◌∷◌, ◌++◌, drop, reverse, length, nat_lt}
use Rattle.std.proofs.Common.{refl, sym, ap, arith}
use Rattle.std.specs.List.{list_any, insert as insert_at}
use Rattle.std.proofs.lemmas.List.{reverse-append, append_assoc}
use Rattle.std.proofs.lemmas.List.Sorted.{IsPermutation-reverse, list_any-IsPermutation}
use Rattle.std.proofs.Math.ListN.{drop_of_length-le}
use Rattle.src_mean.specs.Links.{Def, name_lt, same_def, insert, sorted, kept_of}
use Rattle.src_bind.specs.declared.defs.Found.{Found}
use Rattle.src_bind.specs.Defs.{def_of, defs_of, place_of}

-- a definition that is wanted stands behind the others
pub wanted_step : (b : Bool) (old new rest : List Def) (d : Def) → new ≡ (if b then old ++ d ∷ [] else old) → new ++ rest ≡ old ++ cond b (d ∷ rest) rest
wanted_step true old new rest d e = ap (λ z. z ++ rest) e ∙ append_assoc old (d ∷ []) rest
wanted_step false old new rest d e = ap (λ z. z ++ rest) e

any_reversed : (p : Def → Bool) (xs : List Def) → list_any p (reverse xs) ≡ list_any p xs
any_reversed p xs = sym (list_any-IsPermutation p xs (reverse xs) (IsPermutation-reverse xs))

kept_more : (new old : List Def) (d : Def) (rest : List Def) → new ≡ old ++ d ∷ [] → list_any (same_def d) old ≡ false
    → new ++ kept_of (reverse new) rest ≡ old ++ kept_of (reverse old) (d ∷ rest)
kept_more new old d rest e f =
    let g : list_any (same_def d) (reverse old) ≡ false = any_reversed (same_def d) old ∙ f in
    let h : reverse new ≡ d ∷ reverse old = ap reverse e ∙ reverse-append old (d ∷ []) in
    ap (λ z. z ++ kept_of (reverse new) rest) e ∙ append_assoc old (d ∷ []) (kept_of (reverse new) rest) ∙ ap (λ z. old ++ d ∷ kept_of z rest) h
    ∙ sym (ap (λ b. old ++ cond b (kept_of (reverse old) rest) (d ∷ kept_of (d ∷ reverse old) rest)) g)

kept_same : (new old : List Def) (d : Def) (rest : List Def) → new ≡ old → list_any (same_def d) old ≡ true
    → new ++ kept_of (reverse new) rest ≡ old ++ kept_of (reverse old) (d ∷ rest)
kept_same new old d rest e f =
    let g : list_any (same_def d) (reverse old) ≡ true = any_reversed (same_def d) old ∙ f in
    ap (λ z. z ++ kept_of (reverse z) rest) e ∙ sym (ap (λ b. old ++ cond b (kept_of (reverse old) rest) (d ∷ kept_of (d ∷ reverse old) rest)) g)

not_true : (b : Bool) → true ≡ not b → b ≡ false
not_true true e = absurd cc
not_true false e = refl

not_false : (b : Bool) → false ≡ not b → b ≡ true
not_false true e = refl
not_false false e = absurd cc

-- a definition is kept where none before it is of the same thing
pub kept_step : (b : Bool) (old new rest : List Def) (d : Def) → b ≡ not (list_any (same_def d) old) → new ≡ (if b then old ++ d ∷ [] else old)
    → new ++ kept_of (reverse new) rest ≡ old ++ kept_of (reverse old) (d ∷ rest)
kept_step true old new rest d e f = kept_more new old d rest f (not_true (list_any (same_def d) old) e)
kept_step false old new rest d e f = kept_same new old d rest f (not_false (list_any (same_def d) old) e)

pub kept_loop : (all : List Found) (i : ℕ) (d : Found) (b : Bool) (lent old new : List Found) → drop i all ≡ d ∷ drop (i + 1) all → lent ≡ old
    → b ≡ not (list_any (same_def (def_of d)) (defs_of lent)) → defs_of new ≡ (if b then defs_of old ++ def_of d ∷ [] else defs_of old)
    → defs_of old ++ kept_of (reverse (defs_of old)) (defs_of (drop i all)) ≡ kept_of [] (defs_of all)
    → defs_of new ++ kept_of (reverse (defs_of new)) (defs_of (drop (i + 1) all)) ≡ kept_of [] (defs_of all)
kept_loop all i d b lent old new m l e f h = kept_step b (defs_of old) (defs_of new) (defs_of (drop (i + 1) all)) (def_of d)
    (e ∙ ap (λ z. not (list_any (same_def (def_of d)) (defs_of z))) l) f ∙ sym (ap (λ z. defs_of old ++ kept_of (reverse (defs_of old)) (defs_of z)) m) ∙ h

inserted_by : (b : Bool) (es : List Found) (e d : Found) (n : ℕ) (more : List Def) → defs_of (insert_at es n d) ≡ more
    → defs_of (insert_at (e ∷ es) (cond b 0 (suc n)) d) ≡ cond b (def_of d ∷ def_of e ∷ defs_of es) (def_of e ∷ more)
inserted_by true es e d n more h = refl
inserted_by false es e d n more h = ap (λ z. def_of e ∷ z) h

-- putting a definition in its place
pub inserted : (ds : List Found) (d : Found) → defs_of (insert_at ds (place_of (def_of d) (defs_of ds)) d) ≡ insert (def_of d) (defs_of ds)
inserted [] d = refl
inserted (e ∷ es) d = inserted_by (name_lt d.symbol.now e.symbol.now) es e d (place_of (def_of d) (defs_of es)) (insert (def_of d) (defs_of es)) (inserted es d)

pub inserted_step : (old new lent : List Found) (d : Found) (n : ℕ) → lent ≡ old → n ≡ place_of (def_of d) (defs_of lent) → new ≡ insert_at old n d
    → defs_of new ≡ insert (def_of d) (defs_of old)
inserted_step old new lent d n e f g = ap defs_of g ∙ ap (λ z. defs_of (insert_at old z d)) (f ∙ ap (λ z. place_of (def_of d) (defs_of z)) e) ∙ inserted old d

pub sorted_step : (defs : List Found) (m left : ℕ) (d : Found) (out new : List Def) → left ≡ m + 1 → drop m defs ≡ d ∷ drop (m + 1) defs
    → out ≡ sorted (defs_of (drop left defs)) → new ≡ insert (def_of d) out → new ≡ sorted (defs_of (drop m defs))
sorted_step defs m left d out new e f g h = h ∙ ap (insert (def_of d)) (g ∙ ap (λ z. sorted (defs_of (drop z defs))) e) ∙ sym (ap (λ z. sorted (defs_of z)) f)

-- past the end of a name the other one is longer
pub past_end : (b : List ℕ) (n : ℕ) → name_lt [] (drop n b) ≡ nat_lt n (length b)
past_end [] zero = refl
past_end [] (suc n) = grind arith
past_end (y ∷ b) zero = grind arith
past_end (y ∷ b) (suc n) = let e = past_end b n in grind arith

pub before_ends : (a b : List ℕ) (i : ℕ) → i ≡ length a → name_lt (drop i a) (drop i b) ≡ nat_lt (length a) (length b)
before_ends a b i e = ap (λ z. name_lt z (drop i b)) (drop_of_length-le a (omega (arith, e))) ∙ past_end b i ∙ ap (λ z. nat_lt z (length b)) e
