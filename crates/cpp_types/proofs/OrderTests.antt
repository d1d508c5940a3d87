-- The test of a list of classes in order.
use Rattle.std.proofs.Common.{◌≡◌, ◌∙◌, ◌↔◌, ℕ, zero, suc, Bool, true, false, ◌&&◌, IsTrue, length, List, [], ◌∷◌, Option, Some, None, slice_get, refl, sym, ap}
use Rattle.std.proofs.Common.{lt-ltb}
use Rattle.std.specs.List.{list_all}
use Rattle.std.proofs.lemmas.Bool.{and_parts, ltb-true}
use Rattle.cpp_types.specs.Class.{Class, Member, Function, InOrder, IndicesBelow, HoldsEarlier, CompleteBelow, completion_of, held, typ_below, signature_below}
use Rattle.cpp_types.specs.Order.{each_passes, one_passes, is_below, members_below, functions_below, class_below, is_complete_below, members_earlier}
use Rattle.cpp_types.specs.Order.{holds_earlier, is_consistent, all_consistent}

both : (a b : Bool) → a ≡ true → b ≡ true → (a && b) ≡ true
both true true h g = refl
both true false h g = absurd cc
both false b h g = absurd cc

none_there : {X : Type 0} (x : X) (i : ℕ) → slice_get [] i ≡ Some x → ⊥
none_there x zero e = absurd cc
none_there x (suc i) e = absurd cc

all_at : {X : Type 0} (p : X → Bool) (xs : List X) → list_all p xs ≡ true → (i : ℕ) (x : X) → slice_get xs i ≡ Some x → p x ≡ true
all_at p [] h i x e = absurd (none_there x i e)
all_at p (y ∷ ys) h zero x e = let q : y ≡ x = cc in ap p (sym q) ∙ (and_parts (p y) (list_all p ys) h).0
all_at p (y ∷ ys) h (suc i) x e = all_at p ys (and_parts (p y) (list_all p ys) h).1 i x e

all_from : {X : Type 0} (p : X → Bool) (xs : List X) → ((i : ℕ) (x : X) → slice_get xs i ≡ Some x → p x ≡ true) → list_all p xs ≡ true
all_from p [] h = refl
all_from p (y ∷ ys) h = both (p y) (list_all p ys) (h 0 y refl) (all_from p ys (λ i x e. h (suc i) x e))

each_at : (p : ℕ → Bool) (o : Option ℕ) → each_passes p o ≡ true → (n : ℕ) → o ≡ Some n → p n ≡ true
each_at p None h n e = absurd cc
each_at p (Some k) h n e = let q : k ≡ n = cc in ap p (sym q) ∙ h

each_from : (p : ℕ → Bool) (o : Option ℕ) → ((n : ℕ) → o ≡ Some n → p n ≡ true) → each_passes p o ≡ true
each_from p None h = refl
each_from p (Some k) h = h k refl

complete_known : (classes : List Class) (limit n : ℕ) (o : Option ℕ) → completion_of classes n ≡ o → one_passes (is_below limit) o ≡ true
    → CompleteBelow classes limit n
complete_known classes limit n None e h = absurd cc
complete_known classes limit n (Some k) e h = record { number = k; complete = e; below = ltb-true k limit h }

complete_at : (classes : List Class) (limit n : ℕ) → is_complete_below classes limit n ≡ true → CompleteBelow classes limit n
complete_at classes limit n h = complete_known classes limit n (completion_of classes n) refl h

complete_from : (classes : List Class) (limit n : ℕ) → CompleteBelow classes limit n → is_complete_below classes limit n ≡ true
complete_from classes limit n c = ap (one_passes (is_below limit)) c.complete ∙ lt-ltb c.number limit c.below

indices_at : (limit : ℕ) (c : Class) → class_below limit c ≡ true → IndicesBelow limit c
indices_at limit c h =
    let p = and_parts (each_passes (is_below limit) c.base) (members_below limit c.members && functions_below limit c.functions) h in
    let q = and_parts (members_below limit c.members) (functions_below limit c.functions) p.1 in
    record {
      base = λ b e. ltb-true b limit (each_at (is_below limit) c.base p.0 b e);
      members = λ i m e. all_at (λ (x : Member). typ_below limit x.typ) c.members q.0 i m e;
      functions = λ i f e. all_at (λ (x : Function). signature_below limit x.signature) c.functions q.1 i f e;
    }

indices_from : (limit : ℕ) (c : Class) → IndicesBelow limit c → class_below limit c ≡ true
indices_from limit c p = both (each_passes (is_below limit) c.base) (members_below limit c.members && functions_below limit c.functions)
    (each_from (is_below limit) c.base (λ b e. lt-ltb b limit (p.base b e)))
    (both (members_below limit c.members) (functions_below limit c.functions)
    (all_from (λ (x : Member). typ_below limit x.typ) c.members p.members)
    (all_from (λ (x : Function). signature_below limit x.signature) c.functions p.functions))

holds_at : (classes : List Class) (c : Class) (limit : ℕ) → holds_earlier classes c limit ≡ true → HoldsEarlier classes limit c
holds_at classes c limit h =
    let p = and_parts (each_passes (is_complete_below classes limit) c.base) (members_earlier classes limit c.members) h in
    record {
      base = λ b e. complete_at classes limit b (each_at (is_complete_below classes limit) c.base p.0 b e);
      members = λ i m e n f. complete_at classes limit n
          (each_at (is_complete_below classes limit) (held m.typ)
          (all_at (λ (x : Member). each_passes (is_complete_below classes limit) (held x.typ)) c.members p.1 i m e) n f);
    }

holds_from : (classes : List Class) (c : Class) (limit : ℕ) → HoldsEarlier classes limit c → holds_earlier classes c limit ≡ true
holds_from classes c limit p = both (each_passes (is_complete_below classes limit) c.base) (members_earlier classes limit c.members)
    (each_from (is_complete_below classes limit) c.base (λ b e. complete_from classes limit b (p.base b e)))
    (all_from (λ (x : Member). each_passes (is_complete_below classes limit) (held x.typ)) c.members
    (λ i m e. each_from (is_complete_below classes limit) (held m.typ) (λ n f. complete_from classes limit n (p.members i m e n f))))

order_at : (classes : List Class) → all_consistent classes ≡ true → InOrder classes
order_at classes h = record {
  indices = λ i c e. indices_at (length classes) c (and_parts (class_below (length classes) c) (each_passes (holds_earlier classes c) c.complete)
      (all_at (is_consistent classes) classes h i c e)).0;
  earlier = λ i c n e f. holds_at classes c n (each_at (holds_earlier classes c) c.complete
      (and_parts (class_below (length classes) c) (each_passes (holds_earlier classes c) c.complete) (all_at (is_consistent classes) classes h i c e)).1 n f);
}

order_from : (classes : List Class) → InOrder classes → all_consistent classes ≡ true
order_from classes o = all_from (is_consistent classes) classes
    (λ i c e. both (class_below (length classes) c) (each_passes (holds_earlier classes c) c.complete)
    (indices_from (length classes) c (o.indices i c e))
    (each_from (holds_earlier classes c) c.complete (λ n f. holds_from classes c n (o.earlier i c n e f))))

pub order_is : (b : Bool) (classes : List Class) → b ≡ all_consistent classes → IsTrue b ↔ InOrder classes
order_is b classes e = (λ h. order_at classes (sym e ∙ h), λ o. e ∙ order_from classes o)
