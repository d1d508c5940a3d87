-- Items that fit the number of threads that are started: a list of them is regular.
use Rattle.std.proofs.Common.{ℕ, zero, suc, ◌≡◌, ◌<◌, ◌≤◌, ◌+◌, ◌^◌, sym, subst, List, [], ◌∷◌, ◌++◌, Some, arith}
use Rattle.std.specs.Prelude.{slice_get}
use Rattle.std.proofs.lemmas.Option.{same_Some, none-some}
use Rattle.tx_events.specs.declared.Item.{Item}
use Rattle.tx_events.specs.declared.What.{What}
use Rattle.tx_events.specs.declared.What.TheVariants.{Read, Write, Enter, Leave, Spawned, Joined}
use Rattle.race_check.specs.Races.{Does}
use Rattle.race_check.specs.Regular.{end_of, Regular}

-- a thread that is started has the next number, which is below 64
abbrev IsNext : What → ℕ → Type 0
IsNext (Spawned child) n = (child ≡ n) × (n < 64)
IsNext (Read addr size) n = Unit {0}
IsNext (Write addr size) n = Unit {0}
IsNext Enter n = Unit {0}
IsNext Leave n = Unit {0}
IsNext (Joined child) n = Unit {0}

abbrev started_by : What → ℕ → ℕ
started_by (Spawned child) n = n + 1
started_by (Read addr size) n = n
started_by (Write addr size) n = n
started_by Enter n = n
started_by Leave n = n
started_by (Joined child) n = n

-- an item of a thread that is started, where n are
abbrev pub FitsOne : ℕ → Item → Type 0
FitsOne n x = (x.t < n) × (end_of x.what < 2 ^ 64) × IsNext x.what n

-- these items, one after another, from n started threads to m
abbrev pub Fits : ℕ → List Item → ℕ → Type 0
Fits n [] m = n ≡ m
Fits n (x ∷ xs) m = FitsOne n x × Fits (started_by x.what n) xs m

pub fits_append : (xs ys : List Item) (n m k : ℕ) → Fits n xs m → Fits m ys k → Fits n (xs ++ ys) k
fits_append [] ys n m k h g = subst (λ z. Fits z ys k) (sym h) g
fits_append (x ∷ xs) ys n m k h g = (h.0, fits_append xs ys (started_by x.what n) m k h.1 g)

started_more : (w : What) (n : ℕ) → n ≤ started_by w n
started_more (Spawned child) n = omega arith
started_more (Read addr size) n = omega arith
started_more (Write addr size) n = omega arith
started_more Enter n = omega arith
started_more Leave n = omega arith
started_more (Joined child) n = omega arith

started_few : (w : What) (n : ℕ) → IsNext w n → n ≤ 64 → started_by w n ≤ 64
started_few (Spawned child) n h le = let lt = h.1 in omega (arith, lt)
started_few (Read addr size) n h le = le
started_few (Write addr size) n h le = le
started_few Enter n h le = le
started_few Leave n h le = le
started_few (Joined child) n h le = le

-- each thread that is started has a number from n on
from_here : (xs : List Item) (n m i t child : ℕ) → Fits n xs m → Does xs i t (Spawned child) → n ≤ child
from_here [] n m i t child h d = absurd (none-some _ d)
from_here (x ∷ xs) n m zero t child h d =
    let is = same_Some x _ d in
    let next = subst (λ (z : Item). FitsOne n z) is h.0 in
    let same : child ≡ n = next.2.0 in
    omega (arith, same)
from_here (x ∷ xs) n m (suc i) t child h d =
    let more = started_more x.what n in
    let rest = from_here xs (started_by x.what n) m i t child h.1 d in
    omega (arith, more, rest)

one_at : (xs : List Item) (n m i : ℕ) (a : Item) → n ≤ 64 → Fits n xs m → slice_get xs i ≡ Some a → (a.t < 64) × (end_of a.what < 2 ^ 64)
one_at [] n m i a le h d = absurd (none-some a d)
one_at (x ∷ xs) n m zero a le h d =
    let fits = subst (λ (z : Item). FitsOne n z) (same_Some x a d) h.0 in
    let below : a.t < n = fits.0 in
    (omega (arith, below, le), fits.1)
one_at (x ∷ xs) n m (suc i) a le h d = one_at xs (started_by x.what n) m i a (started_few x.what n h.0.2 le) h.1 d

later : (xs : List Item) (n m i j t child : ℕ) (b : What) → Fits n xs m → Does xs i t (Spawned child) → Does xs j child b → i < j
later [] n m i j t child b h d e = absurd (none-some _ d)
later (x ∷ xs) n m zero zero t child b h d e =
    let next = subst (λ (z : Item). FitsOne n z) (same_Some x _ d) h.0 in
    let own = subst (λ (z : Item). FitsOne n z) (same_Some x _ e) h.0 in
    let same : child ≡ n = next.2.0 in
    let below : child < n = own.0 in
    omega (arith, same, below)
later (x ∷ xs) n m zero (suc j) t child b h d e = omega arith
later (x ∷ xs) n m (suc i) zero t child b h d e =
    let own = subst (λ (z : Item). FitsOne n z) (same_Some x _ e) h.0 in
    let below : child < n = own.0 in
    let more = started_more x.what n in
    let from = from_here xs (started_by x.what n) m i t child h.1 d in
    omega (arith, below, more, from)
later (x ∷ xs) n m (suc i) (suc j) t child b h d e =
    let less = later xs (started_by x.what n) m i j t child b h.1 d e in
    omega (arith, less)

pub regular : (items : List Item) (n m : ℕ) → n ≤ 64 → Fits n items m → Regular items
regular items n m le h = record {
  threads = λ i a f. (one_at items n m i a le h f).0;
  bytes = λ i a f. (one_at items n m i a le h f).1;
  starts = λ i j t child b d e. later items n m i j t child b h d e;
}
