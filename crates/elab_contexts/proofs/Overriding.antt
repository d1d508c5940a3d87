-- The slots of a class at its brace: each of its virtual functions has one, where it is alone.
use Rattle.std.proofs.Common.{◌≡◌, refl, sym, ap, ◌∙◌, subst, ℕ, zero, suc, ◌+◌, Bool, true, false, List, [], ◌∷◌, ◌++◌, slice_get, Option, Some, None, is_none, eqb-true, eq-eqb, arith}
use Rattle.std.specs.Prelude.{if◌then◌else◌, ◌&&◌, ◌==◌, map}
use Rattle.std.proofs.lemmas.Bool.{and_parts, and_from}
use Rattle.std.proofs.lemmas.Option.{same_Some}
use Rattle.elab_rules.specs.cpp_types.Class.{Class, Function}
use Rattle.elab_rules.specs.cpp_tree.Units.{SlotFunc}
use Rattle.elab_rules.specs.elab_ctx.Ctx.{Ctx}
use Rattle.elab_rules.specs.Calls.{slot_from}
use Rattle.elab_rules.specs.Classes.{same_virtual, slot_function, overridden_by, chosen_if, overridden_from, base_slots, overridden, slot_of, overrider_from, overriding}
use Rattle.elab_rules.specs.Classes.{slot_if, new_slots}

-- Slots in lists

pub record IsSlotOf (n i : ℕ) (x : SlotFunc) : Type 0 where
  pub class : x.class ≡ n
  pub func : x.func ≡ i

pub record InList (n i : ℕ) (xs : List SlotFunc) : Type 0 where
  pub place : ℕ
  pub slot : SlotFunc
  pub at : slice_get xs place ≡ Some slot
  pub is : IsSlotOf n i slot

in_left : (n i : ℕ) (xs ys : List SlotFunc) → InList n i xs → InList n i (xs ++ ys)
in_left n i xs ys h = record { place = h.place; slot = h.slot; at = by xs h.place h.at; is = h.is }
  where
    by : (xs : List SlotFunc) (k : ℕ) → slice_get xs k ≡ Some h.slot → slice_get (xs ++ ys) k ≡ Some h.slot
    by [] k e = absurd cc
    by (x ∷ xs) zero e = e
    by (x ∷ xs) (suc k) e = by xs k e

in_right : (n i : ℕ) (xs ys : List SlotFunc) → InList n i ys → InList n i (xs ++ ys)
in_right n i [] ys h = h
in_right n i (x ∷ xs) ys h = let y = in_right n i xs ys h in record { place = suc y.place; slot = y.slot; at = y.at; is = y.is }

-- the first of a class and a function
pub record IsFirst (n i s : ℕ) (xs : List SlotFunc) : Type 0 where
  pub place : ℕ
  pub found : slot_from s n i xs ≡ Some (s + place)
  pub slot : SlotFunc
  pub at : slice_get xs place ≡ Some slot
  pub is : IsSlotOf n i slot

first_by : (n i s k : ℕ) (x y : SlotFunc) (xs : List SlotFunc) (b : Bool) → (x.class == n && x.func == i) ≡ b → slice_get (x ∷ xs) k ≡ Some y → IsSlotOf n i y
    → ((k : ℕ) → slice_get xs k ≡ Some y → IsFirst n i (suc s) xs) → IsFirst n i s (x ∷ xs)
first_by n i s k x y xs true t e h r = let p = and_parts (x.class == n) (x.func == i) t in record {
  place = 0;
  found = ap (λ (b : Bool). if b then Some s else slot_from (suc s) n i xs) t ∙ ap (λ (m : ℕ). Some m) (omega arith);
  slot = x;
  at = refl;
  is = record { class = eqb-true x.class n p.0; func = eqb-true x.func i p.1 };
}
first_by n i s zero x y xs false t e h r = absurd (no_way (sym t ∙ and_from (x.class == n) (x.func == i)
    (eq-eqb x.class n (ap (λ (z : SlotFunc). z.class) (same_Some x y e) ∙ h.class)) (eq-eqb x.func i (ap (λ (z : SlotFunc). z.func) (same_Some x y e) ∙ h.func))))
  where
    no_way : false ≡ true → ⊥
    no_way z = absurd cc
first_by n i s (suc k) x y xs false t e h r = let z = r k e in record {
  place = suc z.place;
  found = ap (λ (b : Bool). if b then Some s else slot_from (suc s) n i xs) t ∙ z.found ∙ ap (λ (m : ℕ). Some m) (omega arith);
  slot = z.slot;
  at = z.at;
  is = z.is;
}

pub first_slot : (n i s k : ℕ) (y : SlotFunc) (xs : List SlotFunc) → slice_get xs k ≡ Some y → IsSlotOf n i y → IsFirst n i s xs
first_slot n i s k y [] e h = absurd cc
first_slot n i s k y (x ∷ xs) e h = first_by n i s k x y xs (x.class == n && x.func == i) refl e h (λ j q. first_slot n i (suc s) j y xs q h)

-- What slots show

-- a slot of the class shows a function in its record
pub record IsShown (gs : List Function) (x : SlotFunc) : Type 0 where
  pub function : Function
  pub at : slice_get gs x.func ≡ Some function
  pub name : x.name ≡ function.name
  pub signature : x.signature ≡ function.signature

abbrev pub Shows : ℕ → List Function → SlotFunc → Type 0
Shows n gs x = x.class ≡ n → IsShown gs x

abbrev pub AllSlots : (SlotFunc → Type 0) → List SlotFunc → Type 0
AllSlots P xs = (k : ℕ) (x : SlotFunc) → slice_get xs k ≡ Some x → P x

pub all_appended : (P : SlotFunc → Type 0) (xs ys : List SlotFunc) → AllSlots P xs → AllSlots P ys → AllSlots P (xs ++ ys)
all_appended P [] ys h g k y e = g k y e
all_appended P (x ∷ xs) ys h g zero y e = h zero y e
all_appended P (x ∷ xs) ys h g (suc k) y e = all_appended P xs ys (λ j z f. h (suc j) z f) g k y e

-- functions from one on
abbrev Behind : ℕ → List Function → List Function → Type 0
Behind s hs gs = (m : ℕ) → slice_get gs (s + m) ≡ slice_get hs m

behind_one : (s : ℕ) (f : Function) (hs gs : List Function) → Behind s (f ∷ hs) gs → Behind (suc s) hs gs
behind_one s f hs gs h m = ap (slice_get gs) (omega arith) ∙ h (suc m)

here : (s : ℕ) (f : Function) (hs gs : List Function) → Behind s (f ∷ hs) gs → slice_get gs s ≡ Some f
here s f hs gs h = ap (slice_get gs) (omega arith) ∙ h 0

-- what holds of a slot that is kept and of each new one holds of the overrider
overrider_is : (P : SlotFunc → Type 0) (n s : ℕ) (o : Option Function) (x : SlotFunc) (hs gs : List Function) → Behind s hs gs → P x
    → ((i : ℕ) (g : Function) → slice_get gs i ≡ Some g → P (slot_of n i g)) → P (overrider_from n s o x hs)
overrider_is P n s o x [] gs h p q = p
overrider_is P n s o x (f ∷ hs) gs h p q = by (f.is_virtual && overridden_by f o) (q s f (here s f hs gs h))
    (overrider_is P n (suc s) o x hs gs (behind_one s f hs gs h) p q)
  where
    by : (b : Bool) → P (slot_of n s f) → P (overrider_from n (suc s) o x hs) → P (if b then slot_of n s f else overrider_from n (suc s) o x hs)
    by true a r = a
    by false a r = r

itself : (gs : List Function) → Behind 0 gs gs
itself gs m = ap (slice_get gs) (omega arith)

pub overriding_all : (P : SlotFunc → Type 0) (cs : List Class) (n : ℕ) (gs : List Function) (xs : List SlotFunc) → AllSlots P xs
    → ((i : ℕ) (g : Function) → slice_get gs i ≡ Some g → P (slot_of n i g)) → AllSlots P (overriding cs n gs xs)
overriding_all P cs n gs [] h q k y e = absurd cc
overriding_all P cs n gs (x ∷ xs) h q zero y e = subst P (same_Some _ y e) (overrider_is P n 0 (slot_function cs x) x gs gs (itself gs) (h zero x refl) q)
overriding_all P cs n gs (x ∷ xs) h q (suc k) y e = overriding_all P cs n gs xs (λ j z f. h (suc j) z f) q k y e

new_from : (P : SlotFunc → Type 0) (c : Ctx) (base : Option ℕ) (n s : ℕ) (hs gs : List Function) → Behind s hs gs
    → ((i : ℕ) (g : Function) → slice_get gs i ≡ Some g → P (slot_of n i g)) → AllSlots P (new_slots c base n s hs)
new_from P c base n s [] gs h q k y e = absurd cc
new_from P c base n s (f ∷ hs) gs h q k y e = by (f.is_virtual && is_none (overridden c base f)) (q s f (here s f hs gs h))
    (new_from P c base n (suc s) hs gs (behind_one s f hs gs h) q) k y e
  where
    by : (b : Bool) → P (slot_of n s f) → AllSlots P (new_slots c base n (suc s) hs) → AllSlots P (slot_if b (slot_of n s f) (new_slots c base n (suc s) hs))
    by true a r zero y e = subst P (same_Some _ y e) a
    by true a r (suc k) y e = r k y e
    by false a r k y e = r k y e

pub new_all : (P : SlotFunc → Type 0) (c : Ctx) (base : Option ℕ) (n : ℕ) (gs : List Function)
    → ((i : ℕ) (g : Function) → slice_get gs i ≡ Some g → P (slot_of n i g)) → AllSlots P (new_slots c base n 0 gs)
new_all P c base n gs q = new_from P c base n 0 gs gs (itself gs) q

pub shows_own : (n : ℕ) (gs : List Function) (i : ℕ) (g : Function) → slice_get gs i ≡ Some g → Shows n gs (slot_of n i g)
shows_own n gs i g e = λ c. record { function = g; at = e; name = refl; signature = refl }

-- Each virtual function has a slot

-- no other one overrides what it overrides
abbrev pub IsOnly : List Function → ℕ → Function → Type 0
IsOnly gs i g = (j : ℕ) (f o : Function) → slice_get gs j ≡ Some f → f.is_virtual ≡ true → same_virtual f o ≡ true → same_virtual g o ≡ true → j ≡ i

hits : (n i s j : ℕ) (o g : Function) (x : SlotFunc) (hs gs : List Function) → Behind s hs gs → slice_get hs j ≡ Some g → s + j ≡ i → g.is_virtual ≡ true
    → same_virtual g o ≡ true → IsOnly gs i g → IsSlotOf n i (overrider_from n s (Some o) x hs)
hits n i s j o g x [] gs h e l v q a = absurd cc
hits n i s j o g x (f ∷ hs) gs h e l v q a = by (f.is_virtual && same_virtual f o) refl j e l (λ k z m. hits n i (suc s) k o g x hs gs (behind_one s f hs gs h) z m v q a)
  where
    by : (b : Bool) → (f.is_virtual && same_virtual f o) ≡ b → (j : ℕ) → slice_get (f ∷ hs) j ≡ Some g → s + j ≡ i
        → ((k : ℕ) → slice_get hs k ≡ Some g → suc s + k ≡ i → IsSlotOf n i (overrider_from n (suc s) (Some o) x hs))
        → IsSlotOf n i (if b then slot_of n s f else overrider_from n (suc s) (Some o) x hs)
    by true t j e l r = let p = and_parts f.is_virtual (same_virtual f o) t in
        record { class = refl; func = a s f o (here s f hs gs h) p.0 p.1 q }
    by false t zero e l r = absurd (no_way (sym t ∙ and_from f.is_virtual (same_virtual f o)
        (ap (λ (z : Function). z.is_virtual) (same_Some f g e) ∙ v) (ap (λ (z : Function). same_virtual z o) (same_Some f g e) ∙ q)))
      where
        no_way : false ≡ true → ⊥
        no_way z = absurd cc
    by false t (suc k) e l r = r k e (omega (arith, l))

record Overrides (cs : List Class) (g : Function) (xs : List SlotFunc) : Type 0 where
  place : ℕ
  slot : SlotFunc
  at : slice_get xs place ≡ Some slot
  function : Function
  is : slot_function cs slot ≡ Some function
  same : same_virtual g function ≡ true

found_by : (cs : List Class) (g : Function) (x : SlotFunc) (xs : List SlotFunc) (f : Option Function) → slot_function cs x ≡ f
    → (b : Bool) → overridden_by g f ≡ b → (o : Function) → (overridden_from cs g xs ≡ Some o → Overrides cs g xs)
    → chosen_if b f (overridden_from cs g xs) ≡ Some o → Overrides cs g (x ∷ xs)
found_by cs g x xs (Some f) e true t o r q = record { place = 0; slot = x; at = refl; function = f; is = e; same = t }
found_by cs g x xs None e true t o r q = absurd cc
found_by cs g x xs f e false t o r q = let y = r q in
    record { place = suc y.place; slot = y.slot; at = y.at; function = y.function; is = y.is; same = y.same }

overrides_one : (cs : List Class) (g o : Function) (xs : List SlotFunc) → overridden_from cs g xs ≡ Some o → Overrides cs g xs
overrides_one cs g o [] e = absurd cc
overrides_one cs g o (x ∷ xs) e = found_by cs g x xs (slot_function cs x) refl (overridden_by g (slot_function cs x)) refl o (overrides_one cs g o xs) e

mapped : (F : SlotFunc → SlotFunc) (xs : List SlotFunc) (k : ℕ) (x : SlotFunc) → slice_get xs k ≡ Some x → slice_get (map F xs) k ≡ Some (F x)
mapped F [] k x e = absurd cc
mapped F (y ∷ xs) zero x e = ap (λ (z : SlotFunc). Some (F z)) (same_Some y x e)
mapped F (y ∷ xs) (suc k) x e = mapped F xs k x e

over_hits : (cs : List Class) (n i : ℕ) (g : Function) (gs : List Function) (xs : List SlotFunc) → slice_get gs i ≡ Some g → g.is_virtual ≡ true → IsOnly gs i g
    → Overrides cs g xs → InList n i (overriding cs n gs xs)
over_hits cs n i g gs xs e v a h = record {
  place = h.place;
  slot = overrider_from n 0 (slot_function cs h.slot) h.slot gs;
  at = mapped (λ (x : SlotFunc). overrider_from n 0 (slot_function cs x) x gs) xs h.place h.slot h.at;
  is = subst (λ (o : Option Function). IsSlotOf n i (overrider_from n 0 o h.slot gs)) (sym h.is)
      (hits n i 0 i h.function g h.slot gs gs (itself gs) e (omega arith) v h.same a);
}

none_there : (o : Option Function) → o ≡ None → is_none o ≡ true
none_there None h = refl
none_there (Some x) h = absurd cc

new_hits : (c : Ctx) (base : Option ℕ) (n s j : ℕ) (g : Function) (hs : List Function) → slice_get hs j ≡ Some g → g.is_virtual ≡ true
    → overridden c base g ≡ None → InList n (s + j) (new_slots c base n s hs)
new_hits c base n s j g [] e v q = absurd cc
new_hits c base n s zero g (f ∷ hs) e v q =
    subst (λ (b : Bool). InList n (s + 0) (slot_if b (slot_of n s f) (new_slots c base n (suc s) hs)))
    (sym (and_from f.is_virtual (is_none (overridden c base f)) (ap (λ (z : Function). z.is_virtual) (same_Some f g e) ∙ v)
    (ap (λ (z : Function). is_none (overridden c base z)) (same_Some f g e) ∙ none_there (overridden c base g) q)))
    (record { place = 0; slot = slot_of n s f; at = refl; is = record { class = refl; func = omega arith } })
new_hits c base n s (suc j) g (f ∷ hs) e v q = by (f.is_virtual && is_none (overridden c base f))
    (subst (λ (i : ℕ). InList n i (new_slots c base n (suc s) hs)) (omega arith) (new_hits c base n (suc s) j g hs e v q))
  where
    by : (b : Bool) → InList n (s + suc j) (new_slots c base n (suc s) hs) → InList n (s + suc j) (slot_if b (slot_of n s f) (new_slots c base n (suc s) hs))
    by true h = record { place = suc h.place; slot = h.slot; at = h.at; is = h.is }
    by false h = h

pub own_slot : (c : Ctx) (base : Option ℕ) (n i : ℕ) (g : Function) (gs : List Function) → slice_get gs i ≡ Some g → g.is_virtual ≡ true → IsOnly gs i g
    → InList n i (overriding c.classes n gs (base_slots c base) ++ new_slots c base n 0 gs)
own_slot c base n i g gs e v a = by (overridden c base g) refl
  where
    by : (o : Option Function) → overridden c base g ≡ o → InList n i (overriding c.classes n gs (base_slots c base) ++ new_slots c base n 0 gs)
    by (Some o) q = in_left n i (overriding c.classes n gs (base_slots c base)) (new_slots c base n 0 gs)
        (over_hits c.classes n i g gs (base_slots c base) e v a (overrides_one c.classes g o (base_slots c base) q))
    by None q = in_right n i (overriding c.classes n gs (base_slots c base)) (new_slots c base n 0 gs)
        (subst (λ (k : ℕ). InList n k (new_slots c base n 0 gs)) (omega arith) (new_hits c base n 0 i g gs e v q))
