-- A function has one body at most: with functions and bodies that are more, with one that is defined, and with the body of an implicit member.
use Rattle.std.proofs.Common.{◌≡◌, refl, ap, ◌∙◌, subst, ℕ, zero, suc, ◌+◌, Bool, true, false, not, ◌&&◌, List, [], ◌∷◌, ◌++◌, length, slice_get, arith}
use Rattle.std.proofs.Common.{Option, Some, None, eqb-true, ne_eqb}
use Rattle.std.specs.Prelude.{slice_set, ◌==◌, ◌≤◌}
use Rattle.elab_rules.specs.elab_ctx.Ctx.{Func}
use Rattle.elab_rules.specs.Initialising.{func_at, no_function}
use Rattle.elab_rules.specs.Programs.{one_if}
use Rattle.elab_rules.specs.Statements.{Body}
use Rattle.elab_bodies.specs.Bodies.{times_made, due_to}
use Rattle.elab_bodies.proofs.Closures.{times_more}
use Rattle.elab_program_bodies.specs.Known.{most_bodies, OneBody}

-- How many

none_of : (i k : ℕ) → (i ≡ k → ⊥) → one_if (i == k) ≡ 0
none_of i k h = ap one_if (ne_eqb i k h)

at_most : (b : Bool) → one_if b ≤ 1
at_most true = omega arith
at_most false = omega arith

-- one that is defined and does not wait
one_due : (d i w : Bool) → d ≡ true → i && w ≡ false → one_if (d && not (i && w)) ≡ 1
one_due d i w e f = ap (λ (b : Bool). one_if (b && not (i && w))) e ∙ ap (λ (b : Bool). one_if (not b)) f

-- one that waits no more may have its body
fewer_wait : (d i v w : Bool) → (v ≡ true → w ≡ true) → one_if (d && not (i && w)) ≤ one_if (d && not (i && v))
fewer_wait false i v w h = omega arith
fewer_wait true false v w h = omega arith
fewer_wait true true false w h = at_most (not w)
fewer_wait true true true w h = let e : one_if (not w) ≡ 0 = ap (λ (b : Bool). one_if (not b)) (h refl) in omega arith

pub fewer : (v w : ℕ → Bool) (now : Option ℕ) (fs : List Func) (bs : List Body) → ((k : ℕ) → v k ≡ true → w k ≡ true) → OneBody w now fs bs
    → OneBody v now fs bs
fewer v w now fs bs l h = record {
  each = λ k. let a = h.each k in let f : Func = func_at fs k in let b = fewer_wait f.is_defined f.implicit (v k) (w k) (l k) in omega arith;
}

pub once : (w : ℕ → Bool) (fs : List Func) (bs : List Body) → OneBody w None fs bs → (k : ℕ) → times_made k bs ≤ 1
once w fs bs h k = let a = h.each k in let f : Func = func_at fs k in let b = at_most (f.is_defined && not (f.implicit && w k)) in omega arith

-- One function more

none_behind : (fs : List Func) → func_at fs (length fs) ≡ no_function
none_behind [] = refl
none_behind (f ∷ fs) = none_behind fs

each_more : (P : ℕ → Func → Type 0) (fs : List Func) (f : Func) → P (length fs) f → ((k : ℕ) → (length fs ≡ k → ⊥) → P k (func_at fs k)) → (k : ℕ)
    → P k (func_at (fs ++ f ∷ []) k)
each_more P [] f p h zero = p
each_more P [] f p h (suc k) = h (suc k) (λ e. absurd cc)
each_more P (g ∷ fs) f p h zero = h 0 (λ e. absurd cc)
each_more P (g ∷ fs) f p h (suc k) = each_more (λ j x. P (suc j) x) fs f p (λ j q. h (suc j) (λ e. q cc)) k

-- what is not there yet has no body
new_none : (w : ℕ → Bool) (now : Option ℕ) (fs : List Func) (bs : List Body) → OneBody w now fs bs → times_made (length fs) bs + due_to now (length fs) ≤ 0
new_none w now fs bs h = subst (λ (f : Func). times_made (length fs) bs + due_to now (length fs) ≤ most_bodies f (w (length fs))) (none_behind fs)
    (h.each (length fs))

pub one_more : (w : ℕ → Bool) (now : Option ℕ) (fs : List Func) (bs : List Body) (f : Func) → OneBody w now fs bs → OneBody w now (fs ++ f ∷ []) bs
one_more w now fs bs f h = record {
  each = each_more (λ k g. times_made k bs + due_to now k ≤ most_bodies g (w k)) fs f (let a = new_none w now fs bs h in omega arith) (λ k e. h.each k);
}

-- One body more

-- the call of a lambda with its body
pub one_call : (w : ℕ → Bool) (now : Option ℕ) (fs : List Func) (bs : List Body) (f : Func) (b : Body) → f.is_defined ≡ true → f.implicit ≡ false
    → b.func ≡ length fs → OneBody w now fs bs → OneBody w now (fs ++ f ∷ []) (bs ++ b ∷ [])
one_call w now fs bs f b d i n h = record {
  each = each_more (λ k g. times_made k (bs ++ b ∷ []) + due_to now k ≤ most_bodies g (w k)) fs f
      (let a = new_none w now fs bs h in let t = times_more (length fs) bs b in let o = at_most (b.func == length fs) in
      let m = one_due f.is_defined f.implicit (w (length fs)) d (ap (λ (x : Bool). x && w (length fs)) i) in omega arith)
      (λ k e. let a = h.each k in let t = times_more k bs b in let o : one_if (b.func == k) ≡ 0 = ap (λ (j : ℕ). one_if (j == k)) n ∙ none_of (length fs) k e in
      omega arith);
}

-- the body of the function at hand
pub one_last : (w : ℕ → Bool) (fs : List Func) (bs : List Body) (b : Body) → OneBody w (Some b.func) fs bs → OneBody w None fs (bs ++ b ∷ [])
one_last w fs bs b h = record { each = λ k. let a = h.each k in let t = times_more k bs b in omega arith }

-- A function is defined that was not

each_set : (P : ℕ → Func → Type 0) (fs : List Func) (i : ℕ) (f g : Func) → slice_get fs i ≡ Some f → P i g
    → ((k : ℕ) → (i ≡ k → ⊥) → P k (func_at fs k)) → (k : ℕ) → P k (func_at (slice_set fs i g) k)
each_set P [] i f g e p h k = absurd cc
each_set P (x ∷ fs) zero f g e p h zero = p
each_set P (x ∷ fs) zero f g e p h (suc k) = h (suc k) (λ q. absurd cc)
each_set P (x ∷ fs) (suc i) f g e p h zero = h 0 (λ q. absurd cc)
each_set P (x ∷ fs) (suc i) f g e p h (suc k) = each_set (λ j y. P (suc j) y) fs i f g e p (λ j q. h (suc j) (λ r. q cc)) k

pub one_set : (w : ℕ → Bool) (fs : List Func) (bs : List Body) (i : ℕ) (f g : Func) → slice_get fs i ≡ Some f → func_at fs i ≡ f → f.is_defined ≡ false
    → g.is_defined ≡ true → g.implicit ≡ false → OneBody w None fs bs → OneBody w (Some i) (slice_set fs i g) bs
one_set w fs bs i f g e a u d n h = record {
  each = each_set (λ k x. times_made k bs + one_if (i == k) ≤ most_bodies x (w k)) fs i f g e
      (let t = h.each i in let o = at_most (i == i) in
      let z : most_bodies (func_at fs i) (w i) ≡ 0 = ap (λ (x : Func). most_bodies x (w i)) a ∙ ap (λ (b : Bool). one_if (b && not (f.implicit && w i))) u in
      let m = one_due g.is_defined g.implicit (w i) d (ap (λ (x : Bool). x && w i) n) in omega arith)
      (λ k q. let t = h.each k in let o = none_of i k q in omega arith);
}

-- An implicit member that waits no more: it gets its body

own_case : (v w : ℕ → Bool) (fs : List Func) (bs : List Body) (i : ℕ) → (func_at fs i).is_defined ≡ true → (func_at fs i).implicit ≡ true → w i ≡ true
    → v i ≡ false → OneBody w None fs bs → times_made i bs + one_if (i == i) ≤ most_bodies (func_at fs i) (v i)
own_case v w fs bs i d m a b h =
    let f : Func = func_at fs i in
    let t = h.each i in let o = at_most (i == i) in
    let z : most_bodies f (w i) ≡ 0 = ap (λ (x : Bool). one_if (x && not (f.implicit && w i))) d ∙ ap (λ (x : Bool). one_if (not (x && w i))) m
    ∙ ap (λ (x : Bool). one_if (not x)) a in
    let y = one_due f.is_defined f.implicit (v i) d (ap (λ (x : Bool). x && v i) m ∙ b) in omega arith

one_case : (v w : ℕ → Bool) (fs : List Func) (bs : List Body) (i : ℕ) → (func_at fs i).is_defined ≡ true → (func_at fs i).implicit ≡ true → w i ≡ true
    → v i ≡ false → ((k : ℕ) → v k ≡ true → w k ≡ true) → OneBody w None fs bs → (k : ℕ) (b : Bool) → (i == k) ≡ b
    → times_made k bs + one_if (i == k) ≤ most_bodies (func_at fs k) (v k)
one_case v w fs bs i d m a b l h k true e =
    subst (λ (j : ℕ). times_made j bs + one_if (i == j) ≤ most_bodies (func_at fs j) (v j)) (eqb-true i k e) (own_case v w fs bs i d m a b h)
one_case v w fs bs i d m a b l h k false e = let t = (fewer v w None fs bs l h).each k in let o : one_if (i == k) ≡ 0 = ap one_if e in omega arith

pub one_waited : (v w : ℕ → Bool) (fs : List Func) (bs : List Body) (i : ℕ) → (func_at fs i).is_defined ≡ true → (func_at fs i).implicit ≡ true → w i ≡ true
    → v i ≡ false → ((k : ℕ) → v k ≡ true → w k ≡ true) → OneBody w None fs bs → OneBody v (Some i) fs bs
one_waited v w fs bs i d m a b l h = record { each = λ k. one_case v w fs bs i d m a b l h k (i == k) refl }

-- Those below a number

abbrev pub is_below : ℕ → ℕ → Bool
is_below zero k = false
is_below (suc n) zero = true
is_below (suc n) (suc k) = is_below n k

pub still_below : (n k : ℕ) → is_below n k ≡ true → is_below (suc n) k ≡ true
still_below zero k h = absurd cc
still_below (suc n) zero h = refl
still_below (suc n) (suc k) h = still_below n k h

pub next_below : (n : ℕ) → is_below (suc n) n ≡ true
next_below zero = refl
next_below (suc n) = next_below n

pub not_below : (n : ℕ) → is_below n n ≡ false
not_below zero = refl
not_below (suc n) = not_below n
