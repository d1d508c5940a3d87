-- Tests that say yes still.
use Rattle.std.proofs.Common.{◌≡◌, refl, ap, ◌∙◌, Bool, true, false, ◌&&◌, ◌||◌, Option, Some, None, is_some, cond, option_map, option_and_then}
use Rattle.std.proofs.lemmas.Bool.{and_parts, and_from}
use Rattle.std.proofs.lemmas.Option.{same_Some}
use Rattle.cpp_tree.specs.Typing.{passes}

-- where the first says yes, the second does
pub record Still (a b : Bool) : Type 0 where
  pub up : a ≡ true → b ≡ true

pub same : (b : Bool) → Still b b
same b = record { up = λ h. h }

pub never : (b : Bool) → Still false b
never b = record { up = λ h. absurd cc }

pub equal : {a b : Bool} → b ≡ a → Still a b
equal e = record { up = λ h. e ∙ h }

pub from : {a b : Bool} → (a ≡ true → Still a b) → Still a b
from f = record { up = λ h. (f h).up h }

pub both : {a b x y : Bool} → Still a x → Still b y → Still (a && b) (x && y)
both {a} {b} {x} {y} h g = record { up = λ k. let p = and_parts a b k in and_from x y (h.up p.0) (g.up p.1) }

-- the second where the first says yes
pub both_if : {a b x y : Bool} → Still a x → (a ≡ true → Still b y) → Still (a && b) (x && y)
both_if {a} {b} {x} {y} h g = record { up = λ k. let p = and_parts a b k in and_from x y (h.up p.0) ((g p.0).up p.1) }

one_up : (a b x y : Bool) → (a ≡ true → x ≡ true) → (b ≡ true → y ≡ true) → (a || b) ≡ true → (x || y) ≡ true
one_up true b x y h g k = ap (λ z. z || y) (h refl)
one_up false true true y h g k = refl
one_up false true false y h g k = g refl
one_up false false x y h g k = absurd cc

pub one_of : {a b x y : Bool} → Still a x → Still b y → Still (a || b) (x || y)
one_of {a} {b} {x} {y} h g = record { up = one_up a b x y h.up g.up }

pub choice : (c : Bool) {a b x y : Bool} → Still a x → Still b y → Still (cond c a b) (cond c x y)
choice true h g = h
choice false h g = g

-- what is there passes
pub each : {A : Type 0} (o : Option A) (p q : A → Bool) → ((x : A) → Still (p x) (q x)) → Still (passes p o) (passes q o)
each None p q h = same false
each (Some x) p q h = h x

-- and where what was there is there still
pub kept : {A : Type 0} (o u : Option A) (p q : A → Bool) → ((x : A) → o ≡ Some x → u ≡ Some x) → ((x : A) → o ≡ Some x → Still (p x) (q x))
    → Still (passes p o) (passes q u)
kept None u p q e h = never (passes q u)
kept (Some x) u p q e h = record { up = λ k. ap (passes q) (e x refl) ∙ (h x refl).up k }

-- Options

pub map_same : {A B : Type 0} (f g : A → B) (o : Option A) → ((x : A) → o ≡ Some x → f x ≡ g x) → option_map f o ≡ option_map g o
map_same f g None h = refl
map_same f g (Some x) h = ap Some (h x refl)

pub then_same : {A B : Type 0} (f g : A → Option B) (o : Option A) → ((x : A) → o ≡ Some x → f x ≡ g x) → option_and_then f o ≡ option_and_then g o
then_same f g None h = refl
then_same f g (Some x) h = h x refl

pub passes_same : {A : Type 0} (p q : A → Bool) (o : Option A) → ((x : A) → o ≡ Some x → p x ≡ q x) → passes p o ≡ passes q o
passes_same p q None h = refl
passes_same p q (Some x) h = h x refl

pub is_there : {A : Type 0} (o : Option A) → is_some o ≡ true → (x : A) × (o ≡ Some x)
is_there None h = absurd cc
is_there (Some x) h = (x, refl)

pub mapped : {A B : Type 0} (f : A → B) (o : Option A) (y : B) → option_map f o ≡ Some y → (x : A) × (o ≡ Some x) × (f x ≡ y)
mapped f None y h = absurd cc
mapped f (Some x) y h = (x, refl, same_Some (f x) y h)

pub cond_first : {A : Type 0} (b : Bool) (o : Option A) (x : A) → cond b o None ≡ Some x → (b ≡ true) × (o ≡ Some x)
cond_first true o x h = (refl, h)
cond_first false o x h = absurd cc
