-- Nodes that hold a tree where it is: items of the frame but for the pointer `this` that is read, and nodes that say something of their function.
-- A tree with `held` of them that is made of trees that hold `b`, behind a frame with an item, holds at most as many.
use Rattle.std.proofs.Common.{◌≡◌, ap, ℕ, ◌+◌, ◌≤◌, lt-ltb, le-ltb, Bool, true, false, cond, eqb, ltb, List, [], ◌∷◌}
use Rattle.std.proofs.Common.{◌++◌, length, length-append, zero, suc, arith}
use Rattle.std.proofs.lemmas.Bool.Decides.{nat_tests}
use Rattle.elab_rules.specs.cpp_types.Typ.{Typ}
use Rattle.elab_rules.specs.elab_ctx.Ctx.{Work, with_item, next_place}
use Rattle.elab_rules.specs.elab_ctx.Steps.{Operand, Made, MadeAll}
use Rattle.elab_rules.specs.cpp_tree.Trees.{Tree}
use Rattle.elab_movable.specs.Movable.{Sought, one_if, at_place, held, all_held}

unfoldable pub room : Sought → ℕ → ℕ
room g n = one_if (ltb 0 n)

abbrev pub operands_held : Sought → List Operand → ℕ
operands_held g [] = 0
operands_held g (o ∷ os) = held g o.tree + operands_held g os

abbrev pub used : Sought → Work → ℕ
used g w = room g (length w.frame)

-- Room

cond_fits : (n p : ℕ) → cond (eqb n p) 1 0 + cond (ltb p n) 1 0 ≤ cond (ltb p (n + 1)) 1 0
cond_fits n p = grind (arith, nat_tests)

next_fits : (g : Sought) (n : ℕ) → at_place n + room g n ≤ room g (n + 1)
unfolding at_place room
next_fits g n = cond_fits n 0

-- a new item is the first one, or stands behind it
pub item_fits : (g : Sought) (w : Work) (t : Typ) → at_place (next_place w) + used g w ≤ used g (with_item w t)
item_fits g w t = let e : length (w.frame ++ t ∷ []) ≡ length w.frame + 1 = length-append w.frame (t ∷ []) in rw e (next_fits g (length w.frame))

-- What is made of trees that hold `b`, behind a work

abbrev pub Gives : Sought → ℕ → Work → Made → Type 0
Gives g b w m = held g m.tree + used g w ≤ b + used g m.work

abbrev pub GiveAll : Sought → ℕ → Work → MadeAll → Type 0
GiveAll g b w m = all_held g m.trees + used g w ≤ b + used g m.work

abbrev pub HoldsAtMost : Sought → ℕ → Tree → Type 0
HoldsAtMost g b e = held g e ≤ b

pub same : (n : ℕ) → n ≤ n
same n = omega arith

-- where the frame has an item, nothing is held
pub none_held : (g : Sought) (w : Work) (n b : ℕ) → 1 ≤ length w.frame → b + used g w ≤ 0 + room g n → b ≡ 0
unfolding room
none_held g w n b l h = by (length w.frame) (ltb 0 n) l h
  where
    by : (k : ℕ) (x : Bool) → 1 ≤ k → b + one_if (ltb 0 k) ≤ 0 + one_if x → b ≡ 0
    by zero x m i = absurd (omega arith)
    by (suc k) true m i = let e : one_if (ltb 0 (suc k)) ≡ 1 = ap one_if (lt-ltb 0 (suc k) (omega arith)) in omega arith
    by (suc k) false m i = let e : one_if (ltb 0 (suc k)) ≡ 1 = ap one_if (lt-ltb 0 (suc k) (omega arith)) in absurd (omega arith)

pub some_left : (g : Sought) (w : Work) (n b : ℕ) → 1 ≤ length w.frame → b + used g w ≤ 0 + room g n → 1 ≤ n
unfolding room
some_left g w n b l h = by (length w.frame) n l h
  where
    by : (k m : ℕ) → 1 ≤ k → b + one_if (ltb 0 k) ≤ 0 + one_if (ltb 0 m) → 1 ≤ m
    by zero m i j = absurd (omega arith)
    by (suc k) zero i j = let e : one_if (ltb 0 (suc k)) ≡ 1 = ap one_if (lt-ltb 0 (suc k) (omega arith)) in
        let f : one_if (ltb 0 0) ≡ 0 = ap one_if (le-ltb 0 0 (omega arith)) in absurd (omega arith)
    by (suc k) (suc m) i j = omega arith
