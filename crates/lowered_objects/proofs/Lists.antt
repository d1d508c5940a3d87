-- Small facts of lists, numbers and terms.
use Rattle.std.proofs.Common.{ℕ, zero, suc, ◌≡◌, ◌+◌, ◌-◌, ◌*◌, ◌%◌, ◌^◌, ◌≤◌, ◌<◌, refl, ap, sym, ◌∙◌, Bool, true, false, cond, ◌&&◌, ◌==◌, List, [], ◌∷◌, Option, Some, arith}
use Rattle.std.specs.Prelude.{drop, nat_lt, nat_le}
use Rattle.std.proofs.Math.Nat.{mod-eq_of_lt}
use Rattle.std.proofs.lemmas.Bool.{eqb-true}
use Rattle.cpp_tree.specs.Trees.{Trees, more, none, rest}
use Rattle.cpp_tree.specs.declared.arena.TNodeId.{TNodeId}
use Rattle.src_mean.specs.Linked.{Func, Program}
use Rattle.src_mean.specs.Frames.{Owner}
use Rattle.symbolic_source.specs.Terms.{Term, number, local, sum, at_offset, plus_number, one_less, before as TermBefore}
use Rattle.symbolic_source.specs.Frames.{Spot, Waiting, Frame, Waits, Gives, puts, behind}
use Rattle.symbolic_source.specs.Steps.{Answers, given, step_of, goes_if}
use Rattle.unwind_lower.specs.Settings.{Setting}
use Rattle.lowered_frames.specs.Modes.{tree_in, trees_in}
use Rattle.lowered_frames.specs.Lists.{others, AreSo, behind as behind_terms}
use Rattle.lowered_notes.proofs.Terms.{others_so}
use Rattle.lowered_steps.specs.Ahead.{AreTold}

-- ---- booleans

pub first_of_both : (a b : Bool) → (a && b) ≡ true → a ≡ true
first_of_both true b e = refl
first_of_both false b e = e

pub second_of_both : (a b : Bool) → (a && b) ≡ true → b ≡ true
second_of_both true b e = e
second_of_both false b e = absurd cc

-- ---- sums with numbers

nothing_more : (n : ℕ) → n + 0 ≡ n
nothing_more n = omega arith

pub plus_none : (t : Term) → plus_number t 0 ≡ t
plus_none (number m) = ap number (nothing_more m)
plus_none (local o) = ap local (nothing_more o)
plus_none (sum a (number m)) = ap (λ (z : ℕ). sum a (number z)) (nothing_more m)
plus_none t = refl

-- ---- terms that are told from others

pub others_told : (ts : List Term) → AreTold ts → AreTold (others ts)
others_told [] all = tt
others_told (t ∷ ts) all = all.1

-- ---- trees of nodes

pub trees_more : (g : Setting) (ids : List TNodeId) (c : TNodeId) (cs : List TNodeId) → ids ≡ c ∷ cs → trees_in g ids ≡ more (tree_in g c) (trees_in g cs)
unfolding trees_in tree_in
trees_more g ids c cs e = ap (λ (z : List TNodeId). trees_in g z) e

pub trees_none : (g : Setting) (ids : List TNodeId) → ids ≡ [] → trees_in g ids ≡ none
unfolding trees_in
trees_none g ids e = ap (λ (z : List TNodeId). trees_in g z) e

-- ---- what waits is put into its scope

module _ (p : Program) (f : Func) (answers : Answers) (ws : List Waiting) (v : Term) (owner : Owner) (address : Spot) (ts : Trees) (k k' : List Frame) where
  pub put_into_its : (c : _) (cs : Trees) → ts ≡ more c cs → puts owner (record { address = address; destroys = ts }) k ≡ Some k'
      → step_of p f answers (given p f answers ws v (Waits owner address ts ∷ k)) ≡ given p f answers ws v k'
  put_into_its c cs is e = ap (λ (z : Trees). step_of p f answers (given p f answers ws v (Waits owner address z ∷ k))) is
      ∙ ap (λ (z : Option (List Frame)). step_of p f answers (goes_if ws (behind (Gives v) z)))
      (ap (λ (z : Trees). puts owner (record { address = address; destroys = z }) k) (sym is) ∙ e)

  pub put_nowhere : ts ≡ none → step_of p f answers (given p f answers ws v (Waits owner address ts ∷ k)) ≡ given p f answers ws v k
  put_nowhere is = ap (λ (z : Trees). step_of p f answers (given p f answers ws v (Waits owner address z ∷ k))) is

pub rest_twice_is : (g : Setting) (ids : List TNodeId) → rest (rest (trees_in g ids)) ≡ trees_in g (drop 2 ids)
unfolding trees_in
rest_twice_is g [] = refl
rest_twice_is g (id ∷ []) = refl
rest_twice_is g (id ∷ other ∷ ids) = refl

-- ---- numbers of what is left, and places of elements

more_again : (k m n : ℕ) → (k + m) + n ≡ k + (m + n)
more_again k m n = omega arith

not_none : (m n : ℕ) → (m == 0) ≡ false → (m + n == 0) ≡ false
not_none m n e = grind arith

from_nothing : (n : ℕ) → n ≡ 0 + n
from_nothing n = omega arith

offset_again : (t : Term) (m n : ℕ) (z : Bool) → (m == 0) ≡ z → plus_number t n ≡ at_offset t n → plus_number (cond z t (sum t (number m))) n ≡ at_offset t (m + n)
offset_again t m n true e so = so ∙ ap (λ (k : ℕ). at_offset t k) (from_nothing n) ∙ ap (λ (k : ℕ). at_offset t (k + n)) (sym (eqb-true m 0 e))
offset_again t m n false e so = ap (λ (z : Bool). cond z t (sum t (number (m + n)))) (sym (not_none m n e))

pub plus_again : (t : Term) (m n : ℕ) → plus_number (plus_number t m) n ≡ plus_number t (m + n)
plus_again (number k) m n = ap number (more_again k m n)
plus_again (local o) m n = ap local (more_again o m n)
plus_again (sum a (number k)) m n = ap (λ (z : ℕ). sum a (number z)) (more_again k m n)
plus_again t m n = offset_again t m n (m == 0) refl refl

next_place : (n stride : ℕ) → n * stride + stride ≡ suc n * stride
next_place n stride = grind arith

pub plus_next : (t : Term) (n stride : ℕ) → plus_number (plus_number t (n * stride)) stride ≡ plus_number t (suc n * stride)
plus_next t n stride = plus_again t (n * stride) stride ∙ ap (λ (z : ℕ). plus_number t z) (next_place n stride)

none_times : (n : ℕ) → 0 * n ≡ 0
none_times n = grind arith

pub plus_first : (t : Term) (stride : ℕ) → plus_number t (0 * stride) ≡ t
plus_first t stride = ap (λ (z : ℕ). plus_number t z) (none_times stride) ∙ plus_none t

pub one_less_left : (count n : ℕ) → count - n - 1 ≡ count - suc n
one_less_left count n = omega arith

pub some_left : (count n : ℕ) → suc n ≤ count → 1 ≤ count - n
some_left count n e = omega (arith, e)

below_all : (k n : ℕ) → k < 2 ^ 64 → k - n < 2 ^ 64
below_all k n e = omega (arith, e)

some_is : (k : ℕ) → 1 ≤ k → (k == 0) ≡ false
some_is k e = grind arith

pub word_is_some : (k : ℕ) → 1 ≤ k → k < 2 ^ 64 → (k % 2 ^ 64 == 0) ≡ false
word_is_some k some small = ap (λ (z : ℕ). z == 0) (mod-eq_of_lt small) ∙ some_is k some

pub left_is_some : (count n : ℕ) → suc n ≤ count → count < 2 ^ 64 → ((count - n) % 2 ^ 64 == 0) ≡ false
left_is_some count n some small = word_is_some (count - n) (some_left count n some) (below_all count n small)

is_below : (k : ℕ) → k < 2 ^ 64 → nat_lt k (2 ^ 64) ≡ true
is_below k e = grind arith

pub word_is : (k : ℕ) → k < 2 ^ 64 → nat_lt k (2 ^ 64) ≡ true
word_is k e = is_below k e

pub one_less_is : (count n : ℕ) → count < 2 ^ 64 → one_less (number (count - n)) ≡ number (count - suc n)
one_less_is count n small = ap (λ (z : Bool). cond z (number (count - n - 1)) (TermBefore (number (count - n)))) (is_below (count - n) (below_all count n small))
    ∙ ap number (one_less_left count n)

pub one_or_more : (k : ℕ) → 1 ≤ k → nat_le 1 k ≡ true
one_or_more k e = grind arith

-- ---- lists

pub drop_next : (n : ℕ) (ids : List TNodeId) (c : TNodeId) (cs : List TNodeId) → drop n ids ≡ c ∷ cs → drop (suc n) ids ≡ cs
drop_next zero [] c cs e = absurd cc
drop_next zero (id ∷ ids) c cs e = ap (λ (z : List TNodeId). drop 1 z) e
drop_next (suc n) [] c cs e = absurd cc
drop_next (suc n) (id ∷ ids) c cs e = drop_next n ids c cs e

-- ---- numbers

pub above : (n : ℕ) → 1 ≤ n + 1
above n = omega arith

pub one_at_least : (n : ℕ) → 1 ≤ suc n
one_at_least n = omega arith

-- two terms are taken off
pub behind_two : (n : ℕ) (ts : List Term) → AreSo (suc (suc n)) ts → AreSo n (behind_terms 2 ts)
behind_two n ts so = others_so n (others ts) (others_so (suc n) ts so)
