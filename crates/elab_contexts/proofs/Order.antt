-- What a complete class holds by value was complete before it.
use Rattle.std.proofs.Common.{◌≡◌, refl, sym, ap, ◌∙◌, subst, ℕ, zero, suc, ◌+◌, ◌<◌, ◌≤◌, true, List, [], ◌∷◌, ◌++◌, slice_get, Option, Some, None, is_some, cond}
use Rattle.std.proofs.Common.{arith}
use Rattle.std.specs.Prelude.{count_by, slice_set}
use Rattle.std.proofs.lemmas.List.Sums.{sum_by-cons}
use Rattle.std.proofs.lemmas.Option.{same_Some}
use Rattle.elab_rules.specs.cpp_types.Class.{Class, Member, CompleteBelow, HoldsEarlier, completion_of, held}
use Rattle.elab_rules.specs.Classes.{is_completed}
use Rattle.elab_contexts.specs.Steps.{IsWhole}
use Rattle.elab_contexts.proofs.Lists.{one_more, one_set}

-- Numbers: how many were complete before

abbrev many : List Class → ℕ
many cs = count_by is_completed cs

abbrev one : Class → ℕ
one c = cond (is_some c.complete) 1 0

many_cons : (c : Class) (cs : List Class) → many (c ∷ cs) ≡ one c + many cs
many_cons c cs = sum_by-cons (λ (k : Class). cond (is_completed k) 1 0) c cs

one_none : (c : Class) → c.complete ≡ None → one c ≡ 0
one_none c e = ap (λ (o : Option ℕ). cond (is_some o) 1 0) e

one_some : (c : Class) (k : ℕ) → c.complete ≡ Some k → one c ≡ 1
one_some c k e = ap (λ (o : Option ℕ). cond (is_some o) 1 0) e

added_by : (A : Type 0) (cs : List Class) (c : Class) (m j : ℕ) → (completion_of cs m ≡ Some j → A) → (c.complete ≡ Some j → A)
    → completion_of (cs ++ c ∷ []) m ≡ Some j → A
added_by A [] c zero j f g h = g h
added_by A [] c (suc m) j f g h = absurd cc
added_by A (d ∷ cs) c zero j f g h = f h
added_by A (d ∷ cs) c (suc m) j f g h = added_by A cs c m j f g h

many_added : (cs : List Class) (c : Class) → many (cs ++ c ∷ []) ≡ many cs + one c
many_added [] c = let l = many_cons c [] in omega arith
many_added (d ∷ cs) c = let l = many_cons d (cs ++ c ∷ []) in let m = many_cons d cs in let i = many_added cs c in omega arith

pub numbered_added : (cs : List Class) (c : Class) → ((k : ℕ) → c.complete ≡ Some k → k ≡ many cs) → ((n k : ℕ) → completion_of cs n ≡ Some k → k < many cs)
    → (n k : ℕ) → completion_of (cs ++ c ∷ []) n ≡ Some k → k < many (cs ++ c ∷ [])
numbered_added cs c q t n k f = let l = many_added cs c in
    added_by (k < many (cs ++ c ∷ [])) cs c n k (λ g. let i = t n k g in omega arith)
    (λ g. let i = q k g in let j = one_some c k g in omega arith) f

many_set : (cs : List Class) (n : ℕ) (x : Class) → completion_of cs n ≡ None → many cs ≤ many (slice_set cs n x)
many_set [] n x e = omega arith
many_set (d ∷ cs) zero x e = let l = many_cons d cs in let m = many_cons x cs in let i = one_none d e in omega arith
many_set (d ∷ cs) (suc n) x e = let l = many_cons d cs in let m = many_cons d (slice_set cs n x) in let i = many_set cs n x e in omega arith

set_by : (A : Type 0) (cs : List Class) (n : ℕ) (x : Class) (k : ℕ) → x.complete ≡ Some k → completion_of cs n ≡ None → (m j : ℕ)
    → (completion_of cs m ≡ Some j → A) → (j ≡ k → many cs < many (slice_set cs n x) → A) → completion_of (slice_set cs n x) m ≡ Some j → A
set_by A [] n x k q e m j f g h = absurd cc
set_by A (d ∷ cs) zero x k q e zero j f g h =
    let l = many_cons d cs in
    let m = many_cons x cs in
    let i = one_none d e in
    let u = one_some x k q in
    g (same_Some j k (sym h ∙ q)) (omega arith)
set_by A (d ∷ cs) zero x k q e (suc m) j f g h = f h
set_by A (d ∷ cs) (suc n) x k q e zero j f g h = f h
set_by A (d ∷ cs) (suc n) x k q e (suc m) j f g h = set_by A cs n x k q e m j f
    (λ i l. g i (let u = many_cons d cs in let v = many_cons d (slice_set cs n x) in omega arith)) h

pub numbered_set : (cs : List Class) (n : ℕ) (x : Class) (k : ℕ) → x.complete ≡ Some k → k ≡ many cs → completion_of cs n ≡ None
    → ((m j : ℕ) → completion_of cs m ≡ Some j → j < many cs) → (m j : ℕ) → completion_of (slice_set cs n x) m ≡ Some j → j < many (slice_set cs n x)
numbered_set cs n x k q l e t m j h = let u = many_set cs n x e in
    set_by (j < many (slice_set cs n x)) cs n x k q e m j (λ g. let i = t m j g in omega arith) (λ i y. omega arith) h

-- Classes that stay complete

abbrev Persists : List Class → List Class → Type 0
Persists old new = (n k : ℕ) → completion_of old n ≡ Some k → completion_of new n ≡ Some k

persists_added : (cs : List Class) (c : Class) → Persists cs (cs ++ c ∷ [])
persists_added [] c n k h = absurd cc
persists_added (d ∷ cs) c zero k h = h
persists_added (d ∷ cs) c (suc n) k h = persists_added cs c n k h

persists_set : (cs : List Class) (n : ℕ) (x : Class) → completion_of cs n ≡ None → Persists cs (slice_set cs n x)
persists_set [] n x e m k h = h
persists_set (d ∷ cs) zero x e zero k h = let f : None ≡ Some k = sym e ∙ h in absurd cc
persists_set (d ∷ cs) zero x e (suc m) k h = h
persists_set (d ∷ cs) (suc n) x e zero k h = h
persists_set (d ∷ cs) (suc n) x e (suc m) k h = persists_set cs n x e m k h

below_still : (old new : List Class) → Persists old new → (l n : ℕ) → CompleteBelow old l n → CompleteBelow new l n
below_still old new p l n x = record { number = x.number; complete = p n x.number x.complete; below = x.below }

earlier_still : (old new : List Class) → Persists old new → (k : ℕ) (c : Class) → HoldsEarlier old k c → HoldsEarlier new k c
earlier_still old new p k c x = record {
  base = λ b e. below_still old new p k b (x.base b e);
  members = λ i m e n f. below_still old new p k n (x.members i m e n f);
}

-- Lists in which it is so

pub record Ordered (cs : List Class) : Type 0 where
  pub numbered : (n k : ℕ) → completion_of cs n ≡ Some k → k < many cs
  pub earlier : (n : ℕ) (c : Class) (k : ℕ) → slice_get cs n ≡ Some c → c.complete ≡ Some k → HoldsEarlier cs k c

-- what is complete among the classes is so before a class that gets the next number
was_complete : (cs new : List Class) → Ordered cs → Persists cs new → (o : Option ℕ) → IsWhole cs o → (n : ℕ) → o ≡ Some n → CompleteBelow new (many cs) n
was_complete cs new h p o w n e = by (completion_of cs n) refl (w n e)
  where
    by : (q : Option ℕ) → completion_of cs n ≡ q → is_some q ≡ true → CompleteBelow new (many cs) n
    by None f i = absurd cc
    by (Some j) f i = record { number = j; complete = p n j f; below = h.numbered n j f }

-- a class that gets the next number, with a base and members that are complete
pub record IsNext (cs : List Class) (c : Class) : Type 0 where
  pub number : c.complete ≡ Some (count_by is_completed cs)
  pub base : IsWhole cs c.base
  pub members : (i : ℕ) (m : Member) → slice_get c.members i ≡ Some m → IsWhole cs (held m.typ)

next_earlier : (cs new : List Class) (c : Class) → Ordered cs → Persists cs new → IsNext cs c → (k : ℕ) → c.complete ≡ Some k → HoldsEarlier new k c
next_earlier cs new c h p x k e = subst (λ (j : ℕ). HoldsEarlier new j c) (same_Some (many cs) k (sym x.number ∙ e)) (record {
  base = was_complete cs new h p c.base x.base;
  members = λ i m q. was_complete cs new h p (held m.typ) (x.members i m q);
})

abbrev EarlierIn : List Class → Class → Type 0
EarlierIn cs c = (k : ℕ) → c.complete ≡ Some k → HoldsEarlier cs k c

next_number : (cs : List Class) (c : Class) → IsNext cs c → (k : ℕ) → c.complete ≡ Some k → k ≡ many cs
next_number cs c x k e = sym (same_Some (many cs) k (sym x.number ∙ e))

pub ordered_next : (cs : List Class) (c : Class) → IsNext cs c → Ordered cs → Ordered (cs ++ c ∷ [])
ordered_next cs c x h = record {
  numbered = numbered_added cs c (next_number cs c x) h.numbered;
  earlier = λ n d k e q. one_more (EarlierIn (cs ++ c ∷ [])) cs c
      (λ i y f j g. earlier_still cs (cs ++ c ∷ []) (persists_added cs c) j y (h.earlier i y j f g))
      (next_earlier cs (cs ++ c ∷ []) c h (persists_added cs c) x) n d e k q;
}

pub ordered_named : (cs : List Class) (c : Class) → c.complete ≡ None → Ordered cs → Ordered (cs ++ c ∷ [])
ordered_named cs c z h = record {
  numbered = numbered_added cs c (λ k e. let f : None ≡ Some k = sym z ∙ e in absurd cc) h.numbered;
  earlier = λ n d k e q. one_more (EarlierIn (cs ++ c ∷ [])) cs c
      (λ i y f j g. earlier_still cs (cs ++ c ∷ []) (persists_added cs c) j y (h.earlier i y j f g))
      (λ j g. let f : None ≡ Some j = sym z ∙ g in absurd cc) n d e k q;
}

pub ordered_set : (cs : List Class) (n : ℕ) (c : Class) → completion_of cs n ≡ None → IsNext cs c → Ordered cs → Ordered (slice_set cs n c)
ordered_set cs n c z x h = record {
  numbered = numbered_set cs n c (many cs) x.number refl z h.numbered;
  earlier = λ m d k e q. one_set (EarlierIn (slice_set cs n c)) cs n c
      (λ i y f j g. earlier_still cs (slice_set cs n c) (persists_set cs n c z) j y (h.earlier i y j f g))
      (λ y f. next_earlier cs (slice_set cs n c) c h (persists_set cs n c z) x) m d e k q;
}
