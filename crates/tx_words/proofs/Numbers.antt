-- What `try_get_one` reads.
use Rattle.std.proofs.Common.{◌≡◌, ap, refl, true≢false, List, ℕ, Option, Some, None, Result, Ok, Err, option_map, is_some}
use Rattle.std.specs.Str.Parse.{ParsesUnsigned}
use Rattle.std.proofs.Common.{◌<◌, ◌≤◌, ◌^◌, IfSome}
use Rattle.clap.specs.Words.{TriesOne, ReadsOne, IsUnsignedIn}
use Rattle.tx_words.specs.Reads.{number}

abbrev ok_of : {E : Type 0} → Result (Option ℕ) E → Option ℕ
ok_of (Ok o) = o
ok_of (Err e) = None

pub tried : {E : Type 0} (G : List ℕ → Result ℕ E → Type 0) (o : Option (List ℕ)) (r : Option ℕ)
    → (o ≡ None → ◌≡◌ {A = Result (Option ℕ) E} (Ok r) (Ok None)) → ((t : List ℕ) → o ≡ Some t → TriesOne G t (Ok r))
    → ((u : List ℕ) (x : ℕ) → G u (Ok x) → x ≡ number u) → r ≡ option_map number o
tried G None r none value only = ap ok_of (none refl)
tried G (Some t) None none value only = absurd (value t refl)
tried G (Some t) (Some n) none value only = ap Some (only t n (value t refl))

pub read_in : {E : Type 0} (G : List ℕ → Result ℕ E → Type 0) (low high : ℕ) (o : Option (List ℕ)) (r : Option ℕ) → high < 2 ^ 64
    → (o ≡ None → r ≡ None) → ((t : List ℕ) → o ≡ Some t → ReadsOne G t r)
    → ((u : List ℕ) (x : Result ℕ E) → G u x → ParsesUnsigned 64 10 u x) → IfSome o (IsUnsignedIn low high)
    → (r ≡ option_map number o) × IfSome r (λ n. (low ≤ n) × (n ≤ high))
read_in G low high None None fits none value only within = (refl, tt)
read_in G low high None (Some n) fits none value only within = absurd (true≢false (ap is_some (none refl)))
read_in G low high (Some t) None fits none value only within = let h = value t refl in absurd (only t (Err h.0) h.1 (within.0, within.1))
read_in G low high (Some t) (Some n) fits none value only within = let h = only t (Ok n) (value t refl) in (ap Some h.1, (rw h.1 within.2, rw h.1 within.3))
