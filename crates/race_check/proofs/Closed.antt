-- A test that a set of items is closed under the steps.
use Rattle.std.proofs.Common.{ℕ, zero, suc, ◌≡◌, ◌==◌, ◌+◌, refl, ap, sym, ◌∙◌, subst, true, false, Bool, List, [], ◌∷◌, Some, arith}
use Rattle.std.specs.Prelude.{slice_get, nat_lt, nat_le, not, ◌&&◌, ◌||◌}
use Rattle.std.proofs.lemmas.Bool.{false≢true, eq-eqb, lt-ltb, ltb-true, leb-true, and_parts}
use Rattle.std.proofs.lemmas.Option.{same_Some, none-some}
use Rattle.tx_events.specs.declared.Item.{Item}
use Rattle.tx_events.specs.declared.What.{What}
use Rattle.tx_events.specs.declared.What.TheVariants.{Read, Write, Enter, Leave, Spawned, Joined}
use Rattle.race_check.specs.Races.{Leads, same_thread, starts, joins, blocks, Race, Stands, first, later, Races, touches, word_of_byte}
use Rattle.race_check.specs.Steps.{starts_it, joins_it}
use Rattle.race_check.specs.Examples.{two_counters}
use Rattle.race_check.proofs.OneList.{stays_inside}

abbrev leaves : What → Bool
leaves Leave = true
leaves Enter = false
leaves (Joined child) = false
leaves (Spawned child) = false
leaves (Read addr size) = false
leaves (Write addr size) = false

-- a step may lead from a to b
abbrev may : Bool → Item → Item → Bool
may lt a b = (lt && (a.t == b.t)) || starts_it a.what b.t || joins_it b.what a.t || leaves a.what

or_right : (a b : Bool) → b ≡ true → (a || b) ≡ true
or_right true b h = refl
or_right false b h = h

or_left : (a b : Bool) → a ≡ true → (a || b) ≡ true
or_left true b h = refl
or_left false b h = absurd (false≢true h)

may_lead : (items : List Item) (i j : ℕ) → Leads items i j → (a b : Item) → slice_get items i ≡ Some a → slice_get items j ≡ Some b
    → may (nat_lt i j) a b ≡ true
may_lead items i j (same_thread t x y lt f g) a b h k =
    let p = ap (λ (z : Item). z.t) (same_Some _ a (sym f ∙ h)) in
    let q = ap (λ (z : Item). z.t) (same_Some _ b (sym g ∙ k)) in
    or_left _ (leaves a.what) (or_left _ (joins_it b.what a.t)
    (or_left _ (starts_it a.what b.t) (ap (λ c. c && (a.t == b.t)) (lt-ltb i j lt) ∙ eq-eqb a.t b.t (sym p ∙ q))))
may_lead items i j (starts t child y f g) a b h k =
    let p = ap (λ (z : Item). starts_it z.what b.t) (same_Some _ a (sym f ∙ h)) in
    let q = ap (λ (z : Item). z.t) (same_Some _ b (sym g ∙ k)) in
    or_left _ (leaves a.what) (or_left _ (joins_it b.what a.t) (or_right (nat_lt i j && (a.t == b.t)) _ (sym p ∙ eq-eqb child b.t q)))
may_lead items i j (joins t child x lt f g) a b h k =
    let p = ap (λ (z : Item). z.t) (same_Some _ a (sym f ∙ h)) in
    let q = ap (λ (z : Item). joins_it z.what a.t) (same_Some _ b (sym g ∙ k)) in
    or_left _ (leaves a.what) (or_right ((nat_lt i j && (a.t == b.t)) || starts_it a.what b.t) _ (sym q ∙ eq-eqb child a.t p))
may_lead items i j (blocks t u lt f g m) a b h k =
    or_right ((nat_lt i j && (a.t == b.t)) || starts_it a.what b.t || joins_it b.what a.t) _
    (sym (ap (λ (z : Item). leaves z.what) (same_Some _ a (sym f ∙ h))))

-- each item to which one of the set may lead is in it

abbrev row : (ℕ → Bool) → ℕ → Item → ℕ → List Item → Bool
row inside i a k [] = true
row inside i a k (b ∷ bs) = (not (may (nat_lt i k) a b) || inside k) && row inside i a (suc k) bs

abbrev rows : (ℕ → Bool) → List Item → ℕ → List Item → Bool
rows inside items k [] = true
rows inside items k (a ∷ cs) = (not (inside k) || row inside k a 0 items) && rows inside items (suc k) cs

implied : (b c : Bool) → (not b || c) ≡ true → b ≡ true → c ≡ true
implied true c h k = h
implied false c h k = absurd (false≢true k)

row_at : (inside : ℕ → Bool) (i : ℕ) (a : Item) (k : ℕ) (bs : List Item) (n : ℕ) (b : Item) → row inside i a k bs ≡ true → slice_get bs n ≡ Some b
    → may (nat_lt i (k + n)) a b ≡ true → inside (k + n) ≡ true
row_at inside i a k [] n b h e m = absurd (none-some b e)
row_at inside i a k (c ∷ bs) zero b h e m =
    let both = and_parts (not (may (nat_lt i k) a c) || inside k) (row inside i a (suc k) bs) h in
    let same : k + 0 ≡ k = omega arith in
    ap inside same ∙ implied (may (nat_lt i k) a c) (inside k) both.0
    (ap (λ z. may (nat_lt i k) a z) (same_Some c b e) ∙ (ap (λ z. may (nat_lt i z) a b) (sym same) ∙ m))
row_at inside i a k (c ∷ bs) (suc n) b h e m =
    let both = and_parts (not (may (nat_lt i k) a c) || inside k) (row inside i a (suc k) bs) h in
    let same : k + suc n ≡ suc k + n = omega arith in
    ap inside same ∙ row_at inside i a (suc k) bs n b both.1 e (ap (λ z. may (nat_lt i z) a b) (sym same) ∙ m)

rows_at : (inside : ℕ → Bool) (items : List Item) (k : ℕ) (cs : List Item) (n : ℕ) (a : Item) → rows inside items k cs ≡ true → slice_get cs n ≡ Some a
    → inside (k + n) ≡ true → row inside (k + n) a 0 items ≡ true
rows_at inside items k [] n a h e m = absurd (none-some a e)
rows_at inside items k (c ∷ cs) zero a h e m =
    let both = and_parts (not (inside k) || row inside k c 0 items) (rows inside items (suc k) cs) h in
    let same : k + 0 ≡ k = omega arith in
    ap (λ z. row inside z a 0 items) same
    ∙ (ap (λ z. row inside k z 0 items) (sym (same_Some c a e)) ∙ implied (inside k) (row inside k c 0 items) both.0 (ap inside (sym same) ∙ m))
rows_at inside items k (c ∷ cs) (suc n) a h e m =
    let both = and_parts (not (inside k) || row inside k c 0 items) (rows inside items (suc k) cs) h in
    let same : k + suc n ≡ suc k + n = omega arith in
    ap (λ z. row inside z a 0 items) same ∙ rows_at inside items (suc k) cs n a both.1 e (ap inside (sym same) ∙ m)

record Ends (items : List Item) (i j : ℕ) : Type 0 where
  one : Item
  other : Item
  at_one : slice_get items i ≡ Some one
  at_other : slice_get items j ≡ Some other

ends_of : (items : List Item) (i j : ℕ) → Leads items i j → Ends items i j
ends_of items i j (same_thread t x y lt f g) = record { one = _; other = _; at_one = f; at_other = g }
ends_of items i j (starts t child y f g) = record { one = _; other = _; at_one = f; at_other = g }
ends_of items i j (joins t child x lt f g) = record { one = _; other = _; at_one = f; at_other = g }
ends_of items i j (blocks t u lt f g m) = record { one = _; other = _; at_one = f; at_other = g }

pub closed : (inside : ℕ → Bool) (items : List Item) → rows inside items 0 items ≡ true → (i j : ℕ) → Leads items i j → inside i ≡ true → inside j ≡ true
closed inside items h i j s k =
    let e = ends_of items i j s in
    let zero_i : 0 + i ≡ i = omega arith in
    let zero_j : 0 + j ≡ j = omega arith in
    let r = rows_at inside items 0 items i e.one h e.at_one (ap inside zero_i ∙ k) in
    sym (ap inside zero_j) ∙ row_at inside i e.one 0 items j e.other (sym (ap (λ z. row inside z e.one 0 items) zero_i) ∙ r) e.at_other
    (ap (λ z. may (nat_lt i z) e.one e.other) zero_j ∙ may_lead items i j s e.one e.other e.at_one e.at_other)

-- The two counters race on their global.

abbrev from_one : ℕ → Bool
from_one i = (i == 2) || (i == 3) || (i == 6) || (i == 7)

abbrev from_two : ℕ → Bool
from_two i = (i == 5) || (i == 7)

pub counters_race : Race two_counters 65536
counters_race = record {
  one = 2;
  other = 5;
  conflict = record {
    one = record { t = 1; what = Read 65536 4 };
    other = record { t = 2; what = Write 65536 4 };
    at_one = refl;
    at_other = refl;
    apart = refl;
    in_one = refl;
    in_other = refl;
    written = refl;
  };
  not_before = λ o. false≢true (stays_inside two_counters from_one (closed from_one two_counters refl) 2 5 o refl);
  not_after = λ o. false≢true (stays_inside two_counters from_two (closed from_two two_counters refl) 5 2 o refl);
}

-- an access of the item lies in the first word of the globals
abbrev in_word : What → Bool
in_word (Read addr size) = nat_le 65536 addr && nat_le (addr + size) 65544
in_word (Write addr size) = nat_le 65536 addr && nat_le (addr + size) 65544
in_word Enter = true
in_word Leave = true
in_word (Spawned child) = true
in_word (Joined child) = true

abbrev all_in : List Item → Bool
all_in [] = true
all_in (a ∷ cs) = in_word a.what && all_in cs

all_at : (items : List Item) (i : ℕ) (a : Item) → all_in items ≡ true → slice_get items i ≡ Some a → in_word a.what ≡ true
all_at [] i a h e = absurd (none-some a e)
all_at (c ∷ cs) zero a h e = ap (λ (z : Item). in_word z.what) (sym (same_Some c a e)) ∙ (and_parts (in_word c.what) (all_in cs) h).0
all_at (c ∷ cs) (suc i) a h e = all_at cs i a (and_parts (in_word c.what) (all_in cs) h).1 e

range : (addr size x : ℕ) → (nat_le 65536 addr && nat_le (addr + size) 65544) ≡ true → (nat_le addr x && nat_lt x (addr + size)) ≡ true
    → word_of_byte x ≡ 65536
range addr size x h k =
    let w = and_parts (nat_le 65536 addr) (nat_le (addr + size) 65544) h in
    let r = and_parts (nat_le addr x) (nat_lt x (addr + size)) k in
    let low = leb-true 65536 addr w.0 in
    let high = leb-true (addr + size) 65544 w.1 in
    let from = leb-true addr x r.0 in
    let below = ltb-true x (addr + size) r.1 in
    omega (arith, low, high, from, below)

word_is : (what : What) (x : ℕ) → in_word what ≡ true → touches what x ≡ true → word_of_byte x ≡ 65536
word_is (Read addr size) x h k = range addr size x h k
word_is (Write addr size) x h k = range addr size x h k
word_is Enter x h k = absurd (false≢true k)
word_is Leave x h k = absurd (false≢true k)
word_is (Spawned child) x h k = absurd (false≢true k)
word_is (Joined child) x h k = absurd (false≢true k)

pub counters_races : Races two_counters (65536 ∷ [])
counters_races = record {
  ascending = tt;
  each = λ w s. (65536, sym (only w s), counters_race);
  all = λ x r.
      let c = r.conflict in
      subst (λ z. Stands z (65536 ∷ [])) (sym (word_is c.one.what x (all_at two_counters r.one c.one refl c.at_one) c.in_one)) first;
} where
  only : (w : ℕ) → Stands w (65536 ∷ []) → w ≡ 65536
  only w first = refl
  only w (later s) = elim s [ ]
