-- Functions in lists, where one is set.
use Rattle.std.proofs.Common.{◌≡◌, refl, sym, ap, ◌∙◌, subst, ℕ, zero, suc, Bool, true, false, List, [], ◌∷◌, length, slice_get, arith}
use Rattle.std.proofs.Common.{Option, Some, unwrap_or, eq-eqb}
use Rattle.std.specs.Prelude.{slice_set, ◌==◌, ◌<◌, ◌≤◌}
use Rattle.std.proofs.lemmas.Option.{same_Some}
use Rattle.elab_rules.specs.elab_ctx.Ctx.{Func}
use Rattle.elab_rules.specs.Initialising.{func_at, no_function}
use Rattle.elab_rules.specs.Programs.{one_if}
use Rattle.elab_rules.specs.Statements.{Body}
use Rattle.elab_bodies.specs.Bodies.{times_made}
use Rattle.elab_bodies.proofs.Closures.{own_time}

pub at_func : (fs : List Func) (i : ℕ) (f : Func) → slice_get fs i ≡ Some f → func_at fs i ≡ f
at_func fs i f h = ap (λ (o : Option Func). unwrap_or o no_function) h

pub is_within : (fs : List Func) (i : ℕ) (f : Func) → slice_get fs i ≡ Some f → i < length fs
is_within [] i f h = absurd cc
is_within (x ∷ fs) zero f h = omega arith
is_within (x ∷ fs) (suc i) f h = let r = is_within fs i f h in omega arith

pub set_at : (fs : List Func) (i : ℕ) (g f : Func) → slice_get fs i ≡ Some f → slice_get (slice_set fs i g) i ≡ Some g
set_at [] i g f e = absurd cc
set_at (x ∷ fs) zero g f e = refl
set_at (x ∷ fs) (suc i) g f e = set_at fs i g f e

pub set_again : (fs : List Func) (i : ℕ) (g f : Func) → slice_set (slice_set fs i g) i f ≡ slice_set fs i f
set_again [] i g f = refl
set_again (x ∷ fs) zero g f = refl
set_again (x ∷ fs) (suc i) g f = ap (λ (ys : List Func). x ∷ ys) (set_again fs i g f)

pub not_both : (A : Type 0) (b : Bool) → b ≡ false → b ≡ true → A
not_both A b f t = let k : false ≡ true = sym f ∙ t in absurd cc

-- numbers that are not counted as the same are apart
pub apart : (i j : ℕ) → one_if (i == j) ≡ 0 → i ≡ j → ⊥
apart i j h e = let o : one_if (i == j) ≡ 1 = ap one_if (eq-eqb i j e) in omega arith

-- another function stays
pub set_apart : (fs : List Func) (i j : ℕ) (g : Func) → (i ≡ j → ⊥) → slice_get (slice_set fs i g) j ≡ slice_get fs j
set_apart [] i j g h = refl
set_apart (x ∷ fs) zero zero g h = absurd (h refl)
set_apart (x ∷ fs) zero (suc j) g h = refl
set_apart (x ∷ fs) (suc i) zero g h = refl
set_apart (x ∷ fs) (suc i) (suc j) g h = set_apart fs i j g (λ e. h (ap suc e))

-- each function is one from before or the one that is set
pub set_each : (P : ℕ → Func → Type 0) (fs : List Func) (i : ℕ) (g : Func) → P i g → ((j : ℕ) (x : Func) → slice_get fs j ≡ Some x → P j x)
    → (j : ℕ) (x : Func) → slice_get (slice_set fs i g) j ≡ Some x → P j x
set_each P [] i g p h j x e = absurd cc
set_each P (y ∷ fs) zero g p h zero x e = subst (P 0) (same_Some g x e) p
set_each P (y ∷ fs) zero g p h (suc j) x e = h (suc j) x e
set_each P (y ∷ fs) (suc i) g p h zero x e = h 0 x e
set_each P (y ∷ fs) (suc i) g p h (suc j) x e = set_each (λ n z. P (suc n) z) fs i g p (λ n z q. h (suc n) z q) j x e

pub record FuncAt (P : Func → Type 0) (fs : List Func) (j : ℕ) : Type 0 where
  pub func : Func
  pub at : slice_get fs j ≡ Some func
  pub holds : P func

-- what holds of a function holds of what stands in its place
pub set_kept : (P : Func → Type 0) (fs : List Func) (i j : ℕ) (g x : Func) → slice_get fs j ≡ Some x → P x → (slice_get fs i ≡ Some x → P g)
    → FuncAt P (slice_set fs i g) j
set_kept P [] i j g x e p h = absurd cc
set_kept P (y ∷ fs) zero zero g x e p h = record { func = g; at = refl; holds = h e }
set_kept P (y ∷ fs) zero (suc j) g x e p h = record { func = x; at = e; holds = p }
set_kept P (y ∷ fs) (suc i) zero g x e p h = record { func = x; at = e; holds = p }
set_kept P (y ∷ fs) (suc i) (suc j) g x e p h = let r = set_kept P fs i j g x e p h in record { func = r.func; at = r.at; holds = r.holds }

-- a body that is there is counted
pub made_once : (bs : List Body) (j : ℕ) (b : Body) → slice_get bs j ≡ Some b → 1 ≤ times_made b.func bs
made_once [] j b e = absurd cc
made_once (c ∷ bs) zero b e = let o = own_time b in
    let r : one_if (c.func == b.func) ≡ one_if (b.func == b.func) = ap (λ (z : Body). one_if (z.func == b.func)) (same_Some c b e) in omega arith
made_once (c ∷ bs) (suc j) b e = let r = made_once bs j b e in omega arith
