-- From counts to places that are owned, and back.
use Rattle.std.proofs.Common.{◌≡◌, refl, sym, ap, ◌∙◌, ℕ, ◌+◌, ◌≤◌, ◌<◌, Bool, true, false, ◌&&◌, ◌||◌, ltb, nat_le, nat_lt, nat_eq}
use Rattle.std.proofs.Common.{List, [], ◌∷◌, ◌++◌, Option, Some, None, arith, le-ltb, lt-ltb, ltb-true, ltb-false, leb-true, leb-false, eq-eqb, eqb-true}
use Rattle.std.proofs.lemmas.Bool.{false≢true}
use Rattle.std.proofs.lemmas.Bool.{and_from, and_parts}
use Rattle.std.proofs.lemmas.List.Sums.{sum_by-append}
use Rattle.std.specs.List.{list_all}
use Rattle.elab_rules.specs.cpp_tree.declared.kinds.TKind.{TKind}
use Rattle.elab_rules.specs.cpp_tree.declared.kinds.TKind.TheVariants.{Local, Materialize, Init, Handler}
use Rattle.elab_rules.specs.cpp_tree.Trees.{Tree, node, Trees, none, more, kind_of}
use Rattle.elab_rules.specs.cpp_tree.WellFormed.{place_of, places_of, all_places, local_place, times}
use Rattle.elab_rules.specs.elab_ctx.Steps.{Operand}
use Rattle.elab_places.specs.Places.{Owned, is_between, operand_places, is_declaring, declares, any_declares}
use Rattle.elab_places.proofs.Counting.{Sought, one_if, place, declaring, at_place, room, declared, local_count, own_count, held, all_held, operands_held}

-- How often a place stands

times_more : (p q : ℕ) (qs : List ℕ) → times p (q ∷ qs) ≡ one_if (nat_eq q p) + times p qs
times_more p q qs = sum_by-append (λ (m : ℕ). one_if (nat_eq m p)) (q ∷ []) qs ∙ one_more (one_if (nat_eq q p)) (times p qs)
  where
    one_more : (a b : ℕ) → 0 + a + b ≡ a + b
    one_more a b = omega arith

times_append : (p : ℕ) (xs ys : List ℕ) → times p (xs ++ ys) ≡ times p xs + times p ys
times_append p xs ys = sum_by-append (λ (m : ℕ). one_if (nat_eq m p)) xs ys

here : (p q : ℕ) → times p (q ∷ []) ≡ at_place (place p) q
unfolding at_place
here p q = omega arith

local_times : (p : ℕ) (kind : TKind) → times p (local_place kind) ≡ declared (place p) + local_count (place p) kind
unfolding declared
local_times p (Local q) = omega (arith, here p q)
local_times p kind = omega arith

handler_times : (p q : ℕ) → times p (q ∷ []) ≡ declared (place p) + at_place (place p) q
unfolding declared
handler_times p q = omega (arith, here p q)

pub declared_none : (p : ℕ) → 0 ≡ declared (place p)
unfolding declared
declared_none p = refl

own_times : (p : ℕ) (kind : TKind) (ts : Trees) → times p (place_of kind ts) ≡ own_count (place p) kind ts
own_times p Init (more address others) = local_times p (kind_of address)
own_times p Init none = declared_none p
own_times p (Materialize q argument) ts = here p q
own_times p (Handler (Some q)) ts = handler_times p q
own_times p (Handler None) ts = declared_none p
own_times p kind ts = refl

mutual
  pub tree_times : (p : ℕ) (e : Tree) → times p (places_of e) ≡ held (place p) e
  tree_times p (node kind t cat at ts) = omega (arith, times_append p (place_of kind ts) (all_places ts), own_times p kind ts, all_times p ts)

  pub all_times : (p : ℕ) (ts : Trees) → times p (all_places ts) ≡ all_held (place p) ts
  all_times p none = refl
  all_times p (more t ts) = omega (arith, times_append p (places_of t) (all_places ts), tree_times p t, all_times p ts)

pub operand_times : (p : ℕ) (os : List Operand) → times p (operand_places os) ≡ operands_held (place p) os
operand_times p [] = refl
operand_times p (o ∷ os) = omega (arith, times_append p (places_of o.tree) (operand_places os), tree_times p o.tree, operand_times p os)

-- Owned places

-- outside of the places of a list no place stands
outside : (f : ℕ → Bool) (p : ℕ) (qs : List ℕ) → list_all f qs ≡ true → f p ≡ false → times p qs ≡ 0
outside f p [] h n = refl
outside f p (q ∷ qs) h n = let k = and_parts (f q) (list_all f qs) h in
    other (nat_eq q p) refl (outside f p qs k.1 n) k.0
  where
    other : (b : Bool) → nat_eq q p ≡ b → times p qs ≡ 0 → f q ≡ true → times p (q ∷ qs) ≡ 0
    other true e z i = absurd (false≢true (sym n ∙ sym (ap f (eqb-true q p e)) ∙ i))
    other false e z i = let d = times_more p q qs in let r : one_if (nat_eq q p) ≡ 0 = ap one_if e in omega arith

-- where only some places stand, all are among them
inside : (f : ℕ → Bool) (qs : List ℕ) → ((p : ℕ) → f p ≡ false → times p qs ≡ 0) → list_all f qs ≡ true
inside f [] h = refl
inside f (q ∷ qs) h = and_from (f q) (list_all f qs) (first (f q) refl)
    (inside f qs (λ p n. let e = h p n in let d = times_more p q qs in omega arith))
  where
    first : (b : Bool) → f q ≡ b → f q ≡ true
    first true e = e
    first false e = let d : times q (q ∷ qs) ≡ 0 = h q e in let i = times_more q q qs in
        let r : one_if (nat_eq q q) ≡ 1 = ap one_if (eq-eqb q q refl) in absurd (omega arith)

room_is : (p n : ℕ) → room (place p) n ≡ one_if (ltb p n)
unfolding room
room_is p n = refl

pub room_low : (p n : ℕ) → p < n → room (place p) n ≡ 1
room_low p n l = room_is p n ∙ ap one_if (lt-ltb p n l)

pub room_high : (p n : ℕ) → n ≤ p → room (place p) n ≡ 0
room_high p n l = room_is p n ∙ ap one_if (le-ltb p n l)

pub room_most : (g : Sought) (n : ℕ) → room g n ≤ 1
unfolding room
room_most (place p) n = one_at_most (ltb p n)
  where
    one_at_most : (b : Bool) → one_if b ≤ 1
    one_at_most true = omega arith
    one_at_most false = omega arith
room_most declaring n = omega arith

-- a place that is not between lies before or behind
data Beside (n m p : ℕ) : Type 0 where
  before : p < n → Beside n m p
  behind : m ≤ p → Beside n m p

beside : (n m p : ℕ) → is_between n m p ≡ false → Beside n m p
beside n m p h = by (nat_le n p) refl
  where
    by : (b : Bool) → nat_le n p ≡ b → Beside n m p
    by false e = before (let l = leb-false n p e in omega arith)
    by true e = behind (let l = ltb-false p m (sym (ap (λ (x : Bool). x && nat_lt p m) e) ∙ h) in omega arith)

-- the counts that proofs speak of
abbrev pub Counted : ℕ → ℕ → List ℕ → Type 0
Counted n m ps = (p : ℕ) → times p ps + room (place p) n ≤ room (place p) m

counted_grows : (n m : ℕ) (ps : List ℕ) → Counted n m ps → n ≤ m
counted_grows n m ps h = by (ltb m n) refl
  where
    by : (b : Bool) → ltb m n ≡ b → n ≤ m
    by false e = ltb-false m n e
    by true e = let i = h m in let l = room_low m n (ltb-true m n e) in let r = room_high m m (omega arith) in absurd (omega arith)

counted_outside : (n m : ℕ) (ps : List ℕ) → Counted n m ps → (p : ℕ) → is_between n m p ≡ false → times p ps ≡ 0
counted_outside n m ps h p e = by (beside n m p e)
  where
    by : Beside n m p → times p ps ≡ 0
    by (before l) = let i = h p in let r = room_low p n l in let q = room_most (place p) m in omega arith
    by (behind l) = let i = h p in let r = room_high p m l in omega arith

pub from_counted : (n m : ℕ) (ps : List ℕ) → Counted n m ps → Owned n m ps
from_counted n m ps h = record {
  grows = counted_grows n m ps h;
  within = inside (is_between n m) ps (counted_outside n m ps h);
  once = λ p. let i = h p in let q = room_most (place p) m in omega arith;
}

pub room_grows : (p n m : ℕ) → n ≤ m → room (place p) n ≤ room (place p) m
room_grows p n m l = by (ltb p n) refl
  where
    by : (b : Bool) → ltb p n ≡ b → room (place p) n ≤ room (place p) m
    by true e = let i : p < n = ltb-true p n e in let r = room_low p m (omega arith) in let q = room_most (place p) n in omega arith
    by false e = let r = room_high p n (ltb-false p n e) in omega arith

pub to_counted : (n m : ℕ) (ps : List ℕ) → Owned n m ps → Counted n m ps
to_counted n m ps h p = by (is_between n m p) refl
  where
    by : (b : Bool) → is_between n m p ≡ b → times p ps + room (place p) n ≤ room (place p) m
    by false e = let i = outside (is_between n m) p ps h.within e in let r = room_grows p n m h.grows in omega arith
    by true e = let k = and_parts (nat_le n p) (nat_lt p m) e in let i = h.once p in let r = room_high p n (leb-true n p k.0) in
        let q = room_low p m (ltb-true p m k.1) in omega arith

-- Nodes that declare

one_declared : (n : ℕ) → declared declaring + n ≡ 0 → ⊥
unfolding declared
one_declared n h = omega arith

pub init_declares : (ts : Trees) (n : ℕ) → own_count declaring Init ts + n ≡ 0 → ⊥
init_declares (more address others) n h = one_declared (local_count declaring (kind_of address) + n) (omega arith)
init_declares none n h = one_declared n h

pub handler_declares : (o : Option ℕ) (ts : Trees) (n : ℕ) → own_count declaring (Handler o) ts + n ≡ 0 → ⊥
handler_declares (Some q) ts n h = one_declared (at_place declaring q + n) (omega arith)
handler_declares None ts n h = one_declared n h

own_plain : (kind : TKind) (ts : Trees) (n : ℕ) → own_count declaring kind ts + n ≡ 0 → is_declaring kind ≡ false
own_plain Init ts n h = absurd (init_declares ts n h)
own_plain (Handler o) ts n h = absurd (handler_declares o ts n h)
own_plain kind ts n h = refl

neither : (a b : Bool) → a ≡ false → b ≡ false → (a || b) ≡ false
neither true b h g = h
neither false b h g = g

mutual
  pub to_plain : (e : Tree) → held declaring e ≡ 0 → declares e ≡ false
  to_plain (node kind t cat at ts) h = neither (is_declaring kind) (any_declares ts) (own_plain kind ts (all_held declaring ts) h)
      (all_plain ts (omega arith))

  all_plain : (ts : Trees) → all_held declaring ts ≡ 0 → any_declares ts ≡ false
  all_plain none h = refl
  all_plain (more t ts) h = neither (declares t) (any_declares ts) (to_plain t (omega arith)) (all_plain ts (omega arith))

pub no_place : (q : ℕ) → at_place declaring q ≡ 0
unfolding at_place
no_place q = refl

own_none : (kind : TKind) (ts : Trees) → is_declaring kind ≡ false → own_count declaring kind ts ≡ 0
own_none Init ts h = absurd cc
own_none (Handler o) ts h = absurd cc
own_none (Materialize q argument) ts h = no_place q
own_none kind ts h = refl

left_false : (a b : Bool) → (a || b) ≡ false → a ≡ false
left_false true b h = h
left_false false b h = refl

right_false : (a b : Bool) → (a || b) ≡ false → b ≡ false
right_false true b h = absurd cc
right_false false b h = h

mutual
  pub from_plain : (e : Tree) → declares e ≡ false → held declaring e ≡ 0
  from_plain (node kind t cat at ts) h = let i = own_none kind ts (left_false (is_declaring kind) (any_declares ts) h) in
      let r = all_from_plain ts (right_false (is_declaring kind) (any_declares ts) h) in omega arith

  all_from_plain : (ts : Trees) → any_declares ts ≡ false → all_held declaring ts ≡ 0
  all_from_plain none h = refl
  all_from_plain (more t ts) h = let i = from_plain t (left_false (declares t) (any_declares ts) h) in
      let r = all_from_plain ts (right_false (declares t) (any_declares ts) h) in omega arith

pub no_room : (n : ℕ) → room declaring n ≡ 0
unfolding room
no_room n = refl

-- what is made for nothing but itself declares nothing
pub plain_of_count : (e : Tree) (n m : ℕ) → held declaring e + room declaring n ≤ 0 + room declaring m → declares e ≡ false
plain_of_count e n m h = to_plain e (let i = no_room n in let r = no_room m in omega arith)
