-- A dispute among claims is one with the first claim of the symbol.
use Rattle.std.proofs.Common.{Bool, true, false, ◌≡◌, ◌<◌, ℕ, suc, zero, List, [], ◌∷◌, ◌++◌, length, refl, sym, ap, ◌∙◌, arith, Option, Some, None, ◌&&◌, ◌||◌}
use Rattle.std.proofs.Common.{not, nat_eq, cond, slice_get, slice_set, inl, inr, ◌≢◌, length-set}
use Rattle.std.specs.Prelude.{◌⊎◌}
use Rattle.std.specs.List.{list_any}
use borrow.Author.Tests.{eqb-true, eqb-false, eq-eqb}
use Rattle.link_faults.specs.declared.disputes.Claim.{Claim}
use Rattle.link_faults.specs.Faults.{first_of}
use Rattle.link_faults.specs.Disputes.{disputes, is_of, clashes, is_disputed, AreFirst, IsLeast}
use Rattle.link_faults.proofs.Ascending.{or_right}

pub or_left : (a b : Bool) → a ≡ true → (a || b) ≡ true
or_left a b h = rw h refl

pub or_assoc : (a b c : Bool) → ((a || b) || c) ≡ (a || (b || c))
or_assoc true b c = refl
or_assoc false b c = refl

pub any_of_append : {A : Type 0} (t : A → Bool) (xs ys : List A) → list_any t (xs ++ ys) ≡ (list_any t xs || list_any t ys)
any_of_append t [] ys = refl
any_of_append t (x ∷ xs) ys = ap (λ b. t x || b) (any_of_append t xs ys) ∙ sym (or_assoc (t x) _ _)

or_false : (a : Bool) → (a || false) ≡ a
or_false true = refl
or_false false = refl

pub first_passes : {A : Type 0} (t p : A → Bool) (xs : List A) (x : A) → first_of t xs ≡ Some x → (p x ≡ true → list_any p xs ≡ true) × (t x ≡ true)
first_passes t p [] x e = cc
first_passes {A} t p (y ∷ ys) x e = by (t y) refl e (first_passes t p ys x)
  where
    by : (b : Bool) → t y ≡ b → cond b (Some y) (first_of t ys) ≡ Some x → (first_of t ys ≡ Some x → (p x ≡ true → list_any p ys ≡ true) × (t x ≡ true))
        → (p x ≡ true → list_any p (y ∷ ys) ≡ true) × (t x ≡ true)
    by true h e f = let same : y ≡ x = cc in (λ g. or_left (p y) _ (ap p same ∙ g), ap t (sym same) ∙ h)
    by false h e f = (λ g. or_right (p y) _ ((f e).0 g), (f e).1)

-- three claims of one symbol: where the second disputes with the third, the first disputes with one of the two
middle : (xa fa ca : Bool) (x f c : ℕ) → (fa || ca || not (nat_eq f c)) ≡ true → ((xa || fa || not (nat_eq x f)) ≡ true)
    ⊎ ((xa || ca || not (nat_eq x c)) ≡ true)
middle true fa ca x f c h = inl refl
middle false true ca x f c h = inl refl
middle false false true x f c h = inr refl
middle false false false x f c h = by (nat_eq x f) refl
  where
    by : (b : Bool) → nat_eq x f ≡ b → (not (nat_eq x f) ≡ true) ⊎ (not (nat_eq x c) ≡ true)
    by true e = inr (ap (λ z. not (nat_eq z c)) (eqb-true x f e) ∙ h)
    by false e = inl (ap not e)

clash_among : (xs : List Claim) (x c : Claim) (k : ℕ) → c.symbol ≡ k → nat_eq x.symbol k ≡ true → clashes (first_of (is_of c.symbol) xs) c ≡ true
    → (list_any (disputes k x) xs || clashes (Some x) c) ≡ true
clash_among xs x c k same e h = by (first_of (is_of c.symbol) xs) refl h
  where
    by : (o : Option Claim) → first_of (is_of c.symbol) xs ≡ o → clashes o c ≡ true → (list_any (disputes k x) xs || clashes (Some x) c) ≡ true
    by None r g = cc
    by (Some f) r g =
        let p = first_passes (is_of c.symbol) (disputes k x) xs f r in
        let q : nat_eq f.symbol k ≡ true = rw same at p.1 in
        elim (middle x.alone f.alone c.alone x.says f.says c.says g) [
          | inl m ↦ or_left _ _ (p.0 (rw (e, q) m))
          | inr m ↦ or_right (list_any (disputes k x) xs) _ m
        ]

-- the tests of one more claim, where it is of another symbol, where the first one is, and where both are of one
pub apart : (a n q d f g : Bool) → (((a || ((n && false) && q || false)) || (d || (false && f))) ≡ ((a || d) || (false && g)))
apart true true true d f g = refl
apart true true false d f g = refl
apart true false q d f g = refl
apart false true q true f g = refl
apart false true q false f g = refl
apart false false q true f g = refl
apart false false q false f g = refl

pub other : (a q d f : Bool) → ((a || ((false && true) && q || false)) || (d || (true && f))) ≡ ((a || d) || (true && f))
other true q d f = refl
other false q true f = refl
other false q false f = refl

pub both : (a q d f : Bool) → (f ≡ true → (a || q) ≡ true) → ((a || ((true && true) && q || false)) || (d || (true && f))) ≡ ((a || d) || (true && q))
both true q d f h = refl
both false true true f h = refl
both false true false f h = refl
both false false true f h = refl
both false false false true h = sym (h refl)
both false false false false h = refl

pub more_disputes : (claims : List Claim) (c : Claim) (k : ℕ)
    → is_disputed (claims ++ c ∷ []) k ≡ (is_disputed claims k || (nat_eq c.symbol k && clashes (first_of (is_of c.symbol) claims) c))
more_disputes [] c k = by (nat_eq c.symbol k)
  where
    by : (b : Bool) → false ≡ (b && false)
    by true = refl
    by false = refl
more_disputes (x ∷ xs) c k =
    rw (any_of_append (disputes k x) xs (c ∷ []), more_disputes xs c k)
    (by (nat_eq c.symbol k) refl (nat_eq x.symbol c.symbol) refl)
  where
    by : (e : Bool) → nat_eq c.symbol k ≡ e → (s : Bool) → nat_eq x.symbol c.symbol ≡ s
        → ((list_any (disputes k x) xs || (disputes k x c || false)) || (is_disputed xs k || (nat_eq c.symbol k && clashes (first_of (is_of c.symbol) xs) c)))
        ≡ ((list_any (disputes k x) xs || is_disputed xs k)
        || (nat_eq c.symbol k && clashes (cond (nat_eq x.symbol c.symbol) (Some x) (first_of (is_of c.symbol) xs)) c))
    by false e s g = rw e (apart (list_any (disputes k x) xs) (nat_eq x.symbol k) (clashes (Some x) c) (is_disputed xs k)
        (clashes (first_of (is_of c.symbol) xs) c) (clashes (cond (nat_eq x.symbol c.symbol) (Some x) (first_of (is_of c.symbol) xs)) c))
    by true e false g =
        let same : c.symbol ≡ k = eqb-true c.symbol k e in
        let n : nat_eq x.symbol k ≡ false = rw same at g in
        rw (e, g, n) (other (list_any (disputes k x) xs) (clashes (Some x) c) (is_disputed xs k) (clashes (first_of (is_of c.symbol) xs) c))
    by true e true g =
        let same : c.symbol ≡ k = eqb-true c.symbol k e in
        let n : nat_eq x.symbol k ≡ true = rw same at g in
        rw (e, g, n) (both (list_any (disputes k x) xs) (clashes (Some x) c) (is_disputed xs k) (clashes (first_of (is_of c.symbol) xs) c)
        (clash_among xs x c k same n))

pub same_least : (p q : ℕ → Bool) → ((k : ℕ) → p k ≡ q k) → (o : Option ℕ) → IsLeast p o → IsLeast q o
same_least p q s None h = record { none = λ k. sym (s k) ∙ h.none k }
same_least p q s (Some k) h = record { holds = sym (s k) ∙ h.holds; least = λ j e. h.least j (s j ∙ e) }

pub and_true : (a : Bool) → (a && true) ≡ a
and_true true = refl
and_true false = refl

and_false : (a : Bool) → (a && false) ≡ false
and_false true = refl
and_false false = refl

pub one_symbol : (k : ℕ) → IsLeast (λ j. nat_eq k j) (Some k)
one_symbol k = record { holds = eq-eqb k k refl; least = λ j e. let same : k ≡ j = eqb-true k j e in omega arith }

pub least_with : (claims : List Claim) (c : Claim) (first : Option Claim) (r : Option ℕ) → first ≡ first_of (is_of c.symbol) claims → clashes first c ≡ true
    → IsLeast (λ k. is_disputed claims k || nat_eq c.symbol k) r → IsLeast (is_disputed (claims ++ c ∷ [])) r
least_with claims c first r e t h = same_least _ (is_disputed (claims ++ c ∷ []))
    (λ k. sym (more_disputes claims c k ∙ rw (← e, t) (ap (λ b. is_disputed claims k || b) (and_true (nat_eq c.symbol k))))) r h

pub least_without : (claims : List Claim) (c : Claim) (first : Option Claim) (r : Option ℕ) → first ≡ first_of (is_of c.symbol) claims → clashes first c ≡ false
    → IsLeast (is_disputed claims) r → IsLeast (is_disputed (claims ++ c ∷ [])) r
least_without claims c first r e t h = same_least (is_disputed claims) (is_disputed (claims ++ c ∷ []))
    (λ k. sym (more_disputes claims c k ∙ rw (← e, t, and_false (nat_eq c.symbol k)) (or_false (is_disputed claims k)))) r h

-- ---- the first claims

pub first_goes_on : {A : Type 0} (t : A → Bool) (xs : List A) (c x : A) → first_of t xs ≡ Some x → first_of t (xs ++ c ∷ []) ≡ Some x
first_goes_on t [] c x e = cc
first_goes_on {A} t (y ∷ ys) c x e = by (t y) e (first_goes_on t ys c x)
  where
    by : (b : Bool) → cond b (Some y) (first_of t ys) ≡ Some x → (first_of t ys ≡ Some x → first_of t (ys ++ c ∷ []) ≡ Some x)
        → cond b (Some y) (first_of t (ys ++ c ∷ [])) ≡ Some x
    by true e f = e
    by false e f = f e

pub first_is_last : {A : Type 0} (t : A → Bool) (xs : List A) (c : A) → first_of t xs ≡ None → first_of t (xs ++ c ∷ []) ≡ cond (t c) (Some c) None
first_is_last t [] c e = refl
first_is_last {A} t (y ∷ ys) c e = by (t y) e (first_is_last t ys c)
  where
    by : (b : Bool) → cond b (Some y) (first_of t ys) ≡ None → (first_of t ys ≡ None → first_of t (ys ++ c ∷ []) ≡ cond (t c) (Some c) None)
        → cond b (Some y) (first_of t (ys ++ c ∷ [])) ≡ cond (t c) (Some c) None
    by true e f = cc
    by false e f = f e

pub first_skips : {A : Type 0} (t : A → Bool) (xs : List A) (c : A) → t c ≡ false → first_of t (xs ++ c ∷ []) ≡ first_of t xs
first_skips t [] c e = rw e refl
first_skips t (y ∷ ys) c e = ap (λ o. cond (t y) (Some y) o) (first_skips t ys c e)

pub seen : (claims : List Claim) (first : List (Option Claim)) (c f : Claim) → slice_get first c.symbol ≡ Some (Some f) → AreFirst claims first
    → AreFirst (claims ++ c ∷ []) first
seen claims first c f e h k l = by (nat_eq c.symbol k) refl
  where
    by : (b : Bool) → nat_eq c.symbol k ≡ b → slice_get first k ≡ Some (first_of (is_of k) (claims ++ c ∷ []))
    by true g =
        let same : c.symbol ≡ k = eqb-true c.symbol k g in
        let at : slice_get first k ≡ Some (Some f) = rw same at e in
        let was : first_of (is_of k) claims ≡ Some f = let u = h k l in cc in
        at ∙ sym (ap (λ o. Some o) (first_goes_on (is_of k) claims c f was))
    by false g = h k l ∙ sym (ap (λ o. Some o) (first_skips (is_of k) claims c g))

pub get_set_same : {A : Type 0} (xs : List A) (i j : ℕ) (x : A) → i ≡ j → i < length xs → slice_get (slice_set xs i x) j ≡ Some x
get_set_same [] i j x e l = absurd (omega arith)
get_set_same (y ∷ ys) zero zero x e l = refl
get_set_same (y ∷ ys) zero (suc j) x e l = absurd (omega arith)
get_set_same (y ∷ ys) (suc i) zero x e l = absurd (omega arith)
get_set_same (y ∷ ys) (suc i) (suc j) x e l = get_set_same ys i j x (omega arith) (omega arith)

pub get_set_other : {A : Type 0} (xs : List A) (i j : ℕ) (x : A) → i ≢ j → slice_get (slice_set xs i x) j ≡ slice_get xs j
get_set_other [] i j x n = refl
get_set_other (y ∷ ys) zero zero x n = absurd (n refl)
get_set_other (y ∷ ys) zero (suc j) x n = refl
get_set_other (y ∷ ys) (suc i) zero x n = refl
get_set_other (y ∷ ys) (suc i) (suc j) x n = get_set_other ys i j x (λ e. n (ap suc e))

pub inside : {A : Type 0} (a b : A) → Some a ≡ Some b → a ≡ b
inside a b e = cc

pub noted : (claims : List Claim) (first : List (Option Claim)) (c : Claim) → c.symbol < length first → slice_get first c.symbol ≡ Some None
    → AreFirst claims first → AreFirst (claims ++ c ∷ []) (slice_set first c.symbol (Some c))
noted claims first c w e h k l = by (nat_eq c.symbol k) refl
  where
    by : (b : Bool) → nat_eq c.symbol k ≡ b → slice_get (slice_set first c.symbol (Some c)) k ≡ Some (first_of (is_of k) (claims ++ c ∷ []))
    by true g =
        let same : c.symbol ≡ k = eqb-true c.symbol k g in
        let at : slice_get first k ≡ Some None = rw same at e in
        let within : k < length first = omega (arith, same) in
        let was : first_of (is_of k) claims ≡ None = inside (first_of (is_of k) claims) None (sym (h k within) ∙ at) in
        get_set_same first c.symbol k (Some c) same w ∙ sym (ap (λ o. Some o) (first_is_last (is_of k) claims c was ∙ ap (λ b. cond b (Some c) None) g))
    by false g =
        let within : k < length first = let m = length-set first c.symbol (Some c) in omega arith in
        get_set_other first c.symbol k (Some c) (eqb-false c.symbol k g) ∙ h k within ∙ sym (ap (λ o. Some o) (first_skips (is_of k) claims c g))
