-- The test of a list of items.
use Rattle.std.proofs.Common.{ℕ, ◌≡◌, ◌<◌, ◌≤◌, ◌+◌, ◌^◌, ◌⊎◌, inl, inr, refl, sym, ◌∙◌, subst, List, Some, length, arith}
use Rattle.std.specs.Prelude.{slice_get}
use Rattle.std.proofs.lemmas.Bool.{cases_lt}
use Rattle.std.proofs.lemmas.Option.{same_Some}
use Rattle.tx_events.specs.declared.Item.{Item}
use Rattle.tx_events.specs.declared.What.{What}
use Rattle.tx_events.specs.declared.What.TheVariants.{Spawned}
use Rattle.race_check.specs.Races.{Does}
use Rattle.race_check.specs.Regular.{end_of, Regular, StartsLate, RegularTo}
use Rattle.race_check.proofs.Numbers.{below_or_at, index_within}

pub regular_further : (items : List Item) (n : ℕ) (a : Item) → RegularTo items n → slice_get items n ≡ Some a → a.t < 64 → end_of a.what < 2 ^ 64
    → (StartsLate items a.what (n + 1) → ⊥) → RegularTo items (n + 1)
regular_further items n a h f p q r = record {
  threads = λ i b lt g. by_thread i b g (below_or_at i n lt);
  bytes = λ i b lt g. by_end i b g (below_or_at i n lt);
  starts = λ i b lt g s. by_start i b g s (below_or_at i n lt);
}
  where
    it : (i : ℕ) (b : Item) → slice_get items i ≡ Some b → i ≡ n → a ≡ b
    it i b g e = same_Some a b (sym f ∙ subst (λ z. slice_get items z ≡ Some b) e g)

    by_thread : (i : ℕ) (b : Item) → slice_get items i ≡ Some b → (i < n) ⊎ (i ≡ n) → b.t < 64
    by_thread i b g (inl lt) = h.threads i b lt g
    by_thread i b g (inr e) = subst (λ (z : Item). z.t < 64) (it i b g e) p

    by_end : (i : ℕ) (b : Item) → slice_get items i ≡ Some b → (i < n) ⊎ (i ≡ n) → end_of b.what < 2 ^ 64
    by_end i b g (inl lt) = h.bytes i b lt g
    by_end i b g (inr e) = subst (λ (z : Item). end_of z.what < 2 ^ 64) (it i b g e) q

    by_start : (i : ℕ) (b : Item) → slice_get items i ≡ Some b → StartsLate items b.what (i + 1) → (i < n) ⊎ (i ≡ n) → ⊥
    by_start i b g s (inl lt) = h.starts i b lt g s
    by_start i b g s (inr e) =
        r (subst (λ z. StartsLate items a.what (z + 1)) e (subst (λ (z : Item). StartsLate items z.what (i + 1)) (sym (it i b g e)) s))

pub all_regular : (items : List Item) (n : ℕ) → length items ≤ n → RegularTo items n → Regular items
all_regular items n le h = record {
  threads = λ i a f. let q = index_within items i a f in h.threads i a (omega (arith, q, le)) f;
  bytes = λ i a f. let q = index_within items i a f in h.bytes i a (omega (arith, q, le)) f;
  starts = λ i j t child b d e. by i j t child b d e (cases_lt i j);
}
  where
    by : (i j t child : ℕ) (b : What) → Does items i t (Spawned child) → Does items j child b → (i < j) ⊎ (j ≤ i) → i < j
    by i j t child b d e (inl lt) = lt
    by i j t child b d e (inr ge) =
        let q = index_within items i (record { t = t; what = Spawned child }) d in
        absurd (h.starts i (record { t = t; what = Spawned child }) (omega (arith, q, le)) d
        (record {
          child = child;
          is = refl;
          item = record {
            at = j;
            item = record { t = child; what = b };
            there = e;
            before = omega (arith, ge);
            owner =
                refl;
          };
        }))

pub never_late : (items : List Item) → Regular items → (i : ℕ) (a : Item) → slice_get items i ≡ Some a → StartsLate items a.what (i + 1) → ⊥
never_late items r i a f s =
    let h = s.item in
    let started : Does items i a.t (Spawned s.child) = subst (λ z. slice_get items i ≡ Some (record { t = a.t; what = z })) s.is f in
    let there : Does items h.at s.child h.item.what = subst (λ z. slice_get items h.at ≡ Some (record { t = z; what = h.item.what })) h.owner h.there in
    let later = r.starts i h.at a.t s.child h.item.what started there in
    let before = h.before in
    omega (arith, later, before)
