-- Tables of the first definitions.
use Rattle.std.proofs.Common.{Bool, true, false, ◌≡◌, ◌<◌, ℕ, suc, zero, ◌+◌, List, [], ◌∷◌, ◌++◌, take, length, refl, sym, ap, ◌∙◌, arith, Option, Some, None}
use Rattle.std.proofs.Common.{◌||◌, nat_eq, cond, slice_get, slice_set, get_or, length-set, add-one}
use Rattle.std.specs.List.{list_any}
use borrow.Author.Tests.{eqb-true, eqb-false}
use Rattle.tx_code.specs.Linked.{or_else}
use Rattle.link_faults.proofs.FirstClaims.{get_set_same, get_set_other, inside, any_of_append}
use Rattle.link_faults.proofs.KeptDefinitions.{take_step}
use Rattle.link_tables.specs.declared.symbols.Symbol.{Symbol}
use Rattle.link_tables.specs.declared.symbols.Numbered.{Numbered}
use Rattle.link_tables.specs.Symbols.{Seen, Tells, comes_again, has_rank, number_of}

or_true : (a : Bool) → (a || (true || false)) ≡ true
or_true true = refl
or_true false = refl

or_no : (a : Bool) → (a || (false || false)) ≡ a
or_no true = refl
or_no false = refl

one_more : {A : Type 0} (t : A → Bool) (xs : List A) (x : A) → list_any t (xs ++ x ∷ []) ≡ (list_any t xs || (t x || false))
one_more t xs x = any_of_append t xs (x ∷ [])

-- ---- marks

-- an internal one is not seen
pub seen_internal : (earlier : List Symbol) (marks : List Bool) (s : Symbol) → s.internal ≡ true → Seen earlier marks → Seen (earlier ++ s ∷ []) marks
seen_internal earlier marks s i h k l = h k l ∙ sym (ap (λ b. Some b) (one_more (has_rank k) earlier s ∙ rw i (or_no (list_any (has_rank k) earlier))))

pub seen_mark : (earlier : List Symbol) (marks : List Bool) (s : Symbol) → s.internal ≡ false → s.rank < length marks → Seen earlier marks
    → Seen (earlier ++ s ∷ []) (slice_set marks s.rank true)
seen_mark earlier marks s i w h k l = by (nat_eq s.rank k) refl
  where
    by : (b : Bool) → nat_eq s.rank k ≡ b → slice_get (slice_set marks s.rank true) k ≡ Some (list_any (has_rank k) (earlier ++ s ∷ []))
    by true e = get_set_same marks s.rank k true (eqb-true s.rank k e) w
        ∙ sym (ap (λ b. Some b) (one_more (has_rank k) earlier s ∙ rw (i, e) (or_true (list_any (has_rank k) earlier))))
    by false e =
        let within : k < length marks = let m = length-set marks s.rank true in omega arith in
        get_set_other marks s.rank k true (eqb-false s.rank k e) ∙ h k within
        ∙ sym (ap (λ b. Some b) (one_more (has_rank k) earlier s ∙ rw (i, e) (or_no (list_any (has_rank k) earlier))))

-- the mark of a rank
pub mark_is : (earlier : List Symbol) (marks : List Bool) (s : Symbol) (b : Bool) → s.internal ≡ false → s.rank < length marks → slice_get marks s.rank ≡ Some b
    → Seen earlier marks → comes_again earlier s ≡ b
mark_is earlier marks s b i w e h = rw i (inside (list_any (has_rank s.rank) earlier) b (sym (h s.rank w) ∙ e))

pub no_mark : (names : ℕ) (marks : List Bool) → ((k : ℕ) → k < length marks → slice_get marks k ≡ Some false) → Seen [] marks
no_mark names marks h k l = h k l

-- ---- numbers

more_numbers : (t : Symbol → Bool) (ds : List Numbered) (d : Numbered)
    → number_of t (ds ++ d ∷ []) ≡ or_else (number_of t ds) (cond (t d.symbol) (Some d.number) None)
more_numbers t [] d = refl
more_numbers t (x ∷ xs) d = by (t x.symbol) (more_numbers t xs d)
  where
    by : (b : Bool) → number_of t (xs ++ d ∷ []) ≡ or_else (number_of t xs) (cond (t d.symbol) (Some d.number) None)
        → cond b (Some x.number) (number_of t (xs ++ d ∷ [])) ≡ or_else (cond b (Some x.number) (number_of t xs)) (cond (t d.symbol) (Some d.number) None)
    by true e = refl
    by false e = e

or_none_left : (o : Option ℕ) → or_else o None ≡ o
or_none_left None = refl
or_none_left (Some n) = refl

-- one that does not pass adds nothing
pub skipped : (t : Symbol → Bool) (ds : List Numbered) (d : Numbered) → t d.symbol ≡ false → number_of t (ds ++ d ∷ []) ≡ number_of t ds
skipped t ds d e = more_numbers t ds d ∙ rw e (or_none_left (number_of t ds))

-- what tables by rank and by place have in common: a key, and a test for each key
pub noted_first : (t : ℕ → Symbol → Bool) (ds : List Numbered) (d : Numbered) (key : ℕ) (table : List (Option ℕ)) → ((k : ℕ) → t k d.symbol ≡ nat_eq key k)
    → key < length table
    → slice_get table key ≡ Some None → Tells (λ k. number_of (t k) ds) table
    → Tells (λ k. number_of (t k) (ds ++ d ∷ [])) (slice_set table key (Some d.number))
noted_first t ds d key table s w e h k l = by (nat_eq key k) refl
  where
    by : (b : Bool) → nat_eq key k ≡ b → slice_get (slice_set table key (Some d.number)) k ≡ Some (number_of (t k) (ds ++ d ∷ []))
    by true g =
        let same : key ≡ k = eqb-true key k g in
        let within : k < length table = omega (arith, same) in
        let at : slice_get table k ≡ Some None = rw same at e in
        let was : number_of (t k) ds ≡ None = inside (number_of (t k) ds) None (sym (h k within) ∙ at) in
        get_set_same table key k (Some d.number) same w ∙ sym (ap (λ o. Some o) (more_numbers (t k) ds d ∙ rw (was, s k, g) refl))
    by false g =
        let within : k < length table = let m = length-set table key (Some d.number) in omega arith in
        get_set_other table key k (Some d.number) (eqb-false key k g) ∙ h k within ∙ sym (ap (λ o. Some o) (skipped (t k) ds d (s k ∙ g)))

pub noted_later : (t : ℕ → Symbol → Bool) (ds : List Numbered) (d : Numbered) (key n : ℕ) (table : List (Option ℕ)) → ((k : ℕ) → t k d.symbol ≡ nat_eq key k)
    → slice_get table key ≡ Some (Some n) → Tells (λ k. number_of (t k) ds) table → Tells (λ k. number_of (t k) (ds ++ d ∷ [])) table
noted_later t ds d key n table s e h k l = by (nat_eq key k) refl
  where
    by : (b : Bool) → nat_eq key k ≡ b → slice_get table k ≡ Some (number_of (t k) (ds ++ d ∷ []))
    by true g =
        let same : key ≡ k = eqb-true key k g in
        let at : slice_get table k ≡ Some (Some n) = rw same at e in
        let was : number_of (t k) ds ≡ Some n = inside (number_of (t k) ds) (Some n) (sym (h k l) ∙ at) in
        at ∙ sym (ap (λ o. Some o) (more_numbers (t k) ds d ∙ rw was refl))
    by false g = h k l ∙ sym (ap (λ o. Some o) (skipped (t k) ds d (s k ∙ g)))

-- either way
pub noted : (t : ℕ → Symbol → Bool) (ds : List Numbered) (d : Numbered) (key : ℕ) (old new : List (Option ℕ)) → ((k : ℕ) → t k d.symbol ≡ nat_eq key k)
    → key < length old
    → (slice_get old key ≡ Some None → new ≡ slice_set old key (Some d.number)) → ((n : ℕ) → slice_get old key ≡ Some (Some n) → new ≡ old)
    → Tells (λ k. number_of (t k) ds) old → Tells (λ k. number_of (t k) (ds ++ d ∷ [])) new
noted t ds d key old new s w f g h = by (number_of (t key) ds) (h key w)
  where
    by : (o : Option ℕ) → slice_get old key ≡ Some o → Tells (λ k. number_of (t k) (ds ++ d ∷ [])) new
    by None e = rw (f e) (noted_first t ds d key old s w e h)
    by (Some n) e = rw (g n e) (noted_later t ds d key n old s e h)

-- one that passes nowhere
pub not_noted : (t : ℕ → Symbol → Bool) (ds : List Numbered) (d : Numbered) (table : List (Option ℕ)) → ((k : ℕ) → t k d.symbol ≡ false)
    → Tells (λ k. number_of (t k) ds) table → Tells (λ k. number_of (t k) (ds ++ d ∷ [])) table
not_noted t ds d table s h k l = h k l ∙ sym (ap (λ o. Some o) (skipped (t k) ds d (s k)))

pub number_step : (t : ℕ → Symbol → Bool) (defs : List Numbered) (i : ℕ) (d : Numbered) (table : List (Option ℕ)) → i < length defs
    → Tells (λ k. number_of (t k) (take i defs ++ get_or defs i d ∷ [])) table → Tells (λ k. number_of (t k) (take (i + 1) defs)) table
number_step t defs i d table l h = rw (add-one, take_step defs i d l) h

-- ---- the table of places

pub told : (table : List (Option ℕ)) (f : ℕ → Option ℕ) (k : ℕ) (o : Option ℕ) → Tells f table → k < length table → slice_get table k ≡ Some o → f k ≡ o
told table f k o h l e = inside (f k) o (sym (h k l) ∙ e)

get_pushed : {A : Type 0} (xs : List A) (x : A) (k : ℕ) → k < length (xs ++ x ∷ []) → (k < length xs → ⊥) → slice_get (xs ++ x ∷ []) k ≡ Some x
get_pushed [] x zero l n = refl
get_pushed [] x (suc k) l n = absurd (omega arith)
get_pushed (y ∷ ys) x zero l n = absurd (n (omega arith))
get_pushed (y ∷ ys) x (suc k) l n = get_pushed ys x k (omega arith) (λ m. n (omega arith))

get_before : {A : Type 0} (xs : List A) (x : A) (k : ℕ) → k < length xs → slice_get (xs ++ x ∷ []) k ≡ slice_get xs k
get_before [] x k l = absurd (omega arith)
get_before (y ∷ ys) x zero l = refl
get_before (y ∷ ys) x (suc k) l = get_before ys x k (omega arith)
