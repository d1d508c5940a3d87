-- A temporary that is made is put around the scopes of calls and parts.
use Rattle.std.proofs.Common.{ℕ, zero, suc, ◌≡◌, ◌+◌, ◌≤◌, ◌<◌, refl, ap, sym, ◌∙◌, subst, Bool, true, false, cond, ◌||◌, List, [], ◌∷◌, ◌++◌, arith}
use Rattle.std.specs.Prelude.{length, get_or}
use Rattle.cpp_tree.specs.cpp_types.declared.classes.At.{At}
use Rattle.low_code.specs.declared.scopes.ScopeKind.{ScopeKind}
use Rattle.low_code.specs.declared.scopes.Scope.{Scope}
use Rattle.low_code.specs.Scopes.{is_full, outermost}
use Rattle.cpp_tree.specs.Trees.{nowhere}
use Rattle.low_code.specs.Writer.{Body, scope_in, at_scope, made, entered, entered_as, entered_again, temporary_in}
use Rattle.lowered_objects.specs.Scopes.{with_scope, has_full}
use Rattle.lowered_objects.specs.Around.{AreAround}

-- ---- scopes that were there are there still

get_before : (xs : List Scope) (x other : Scope) (n : ℕ) → n < length xs → get_or (xs ++ x ∷ []) n other ≡ get_or xs n other
get_before [] x other n e = absurd (omega (arith, e))
get_before (y ∷ ys) x other zero e = refl
get_before (y ∷ ys) x other (suc n) e = get_before ys x other n (lower n (length ys) e)
  where
    lower : (a c : ℕ) → suc a < suc c → a < c
    lower a c e = omega (arith, e)

get_last : (xs : List Scope) (x other : Scope) → get_or (xs ++ x ∷ []) (length xs) other ≡ x
get_last [] x other = refl
get_last (y ∷ ys) x other = get_last ys x other

length_more : (xs : List Scope) (x : Scope) → length (xs ++ x ∷ []) ≡ length xs + 1
length_more [] x = refl
length_more (y ∷ ys) x = ap (λ (z : ℕ). suc z) (length_more ys x) ∙ more (length ys)
  where
    more : (n : ℕ) → suc (n + 1) ≡ suc n + 1
    more n = omega arith

module _ (b : Body) (s : Scope) where
  one_more : (n : ℕ) → n < length b.scopes → n < length (b.scopes ++ s ∷ [])
  one_more n e = subst (λ (z : ℕ). n < z) (sym (length_more b.scopes s)) (wider n (length b.scopes) e)
    where
      wider : (a c : ℕ) → a < c → a < c + 1
      wider a c e = omega (arith, e)

  pub around_still : (n : ℕ) (chain : List ScopeKind) → AreAround b n chain → AreAround (entered_as s b) n chain
  around_still n [] a = a
  around_still n (k ∷ []) a = (one_more n a.0, ap (λ (z : Scope). z.kind) (get_before b.scopes s (outermost nowhere) n a.0) ∙ a.1)
  around_still n (k ∷ j ∷ chain) a = (
    one_more n a.0,
    ap (λ (z : Scope). z.kind) (get_before b.scopes s (outermost nowhere) n a.0) ∙ a.1,
    subst (λ (z : Scope). AreAround (entered_as s b) z.parent (j ∷ chain)) (sym (get_before b.scopes s (outermost nowhere) n a.0))
        (around_still (scope_in b n).parent (j ∷ chain) a.2),
  )

  -- a scope that is entered in another one
  pub around_entered : (n : ℕ) (k : ScopeKind) (chain : List ScopeKind) → s.kind ≡ k → s.parent ≡ n → AreAround b n chain
      → AreAround (entered_as s b) (entered_as s b).scope (k ∷ chain)
  around_entered n k [] kind parent a = absurd a
  around_entered n k (j ∷ chain) kind parent a = (
    last_is_there (length b.scopes),
    ap (λ (z : Scope). z.kind) (get_last b.scopes s (outermost nowhere)) ∙ kind,
    subst (λ (z : Scope). AreAround (entered_as s b) z.parent (j ∷ chain)) (sym (get_last b.scopes s (outermost nowhere)))
        (subst (λ (z : ℕ). AreAround (entered_as s b) z (j ∷ chain)) (sym parent) (around_still n (j ∷ chain) a)),
  )
    where
      below_more : (n : ℕ) → n < n + 1
      below_more n = omega arith

      last_is_there : (n : ℕ) → length b.scopes < length (b.scopes ++ s ∷ [])
      last_is_there n = subst (λ (z : ℕ). length b.scopes < z) (sym (length_more b.scopes s)) (below_more (length b.scopes))

around_elsewhere : (b : Body) (m n : ℕ) (chain : List ScopeKind) → AreAround b n chain → AreAround (at_scope m b) n chain
around_elsewhere b m n [] a = a
around_elsewhere b m n (k ∷ []) a = a
around_elsewhere b m n (k ∷ j ∷ chain) a = (a.0, a.1, around_elsewhere b m (scope_in b n).parent (j ∷ chain) a.2)

first_around : (b : Body) (n : ℕ) (k : ScopeKind) (chain : List ScopeKind) → AreAround b n (k ∷ chain) → (scope_in b n).kind ≡ k
first_around b n k [] a = a.1
first_around b n k (j ∷ chain) a = a.1

-- ---- a temporary

module _ (kind : ScopeKind) (at : At) (b : Body) where
  abbrev after : ℕ → ℕ → Body
  after most number = temporary_in most number kind at b

  outside : (full rest : Bool) → (full || rest) ≡ true → full ≡ false → rest ≡ true
  outside true rest e n = absurd cc
  outside false rest e n = e

  fewer : (n m : ℕ) → suc n ≤ suc m → n ≤ m
  fewer n m e = omega (arith, e)

  nothing_fits : (n : ℕ) → suc n ≤ 0 → ⊥
  nothing_fits n e = omega (arith, e)

  temporary_here : (number most : ℕ) (k : ScopeKind) (chain : List ScopeKind) → AreAround b number (k ∷ chain) → is_full k ≡ true
      → AreAround (after (suc most) number) (after (suc most) number).scope (with_scope kind (k ∷ chain))
  temporary_here number most k chain a full = subst (λ (z : Body). AreAround z z.scope (with_scope kind (k ∷ chain))) (sym body_is)
      (subst (λ (z : List ScopeKind). AreAround (entered kind at (at_scope number b)) (entered kind at (at_scope number b)).scope z) (sym chain_is)
      (around_entered (at_scope number b) (made kind number (scope_in b number).depth at (at_scope number b)) number kind (k ∷ chain) refl refl
      (around_elsewhere b number number (k ∷ chain) a)))
    where
      body_is : after (suc most) number ≡ entered kind at (at_scope number b)
      body_is = ap (λ (z : Bool). cond z (entered kind at (at_scope number b)) (entered_again (scope_in b number) (after most (scope_in b number).parent)))
          (ap (λ (z : ScopeKind). is_full z) (first_around b number k chain a) ∙ full)

      chain_is : with_scope kind (k ∷ chain) ≡ kind ∷ k ∷ chain
      chain_is = ap (λ (z : Bool). cond z (kind ∷ k ∷ chain) (k ∷ with_scope kind chain)) full

  temporary_further : (number most : ℕ) (k : ScopeKind) (chain : List ScopeKind) → (scope_in b number).kind ≡ k → is_full k ≡ false
      → AreAround (after most (scope_in b number).parent) (after most (scope_in b number).parent).scope (with_scope kind chain)
      → AreAround (after (suc most) number) (after (suc most) number).scope (with_scope kind (k ∷ chain))
  temporary_further number most k chain is full a = subst (λ (z : Body). AreAround z z.scope (with_scope kind (k ∷ chain))) (sym body_is)
      (subst (λ (z : List ScopeKind). AreAround (entered_again (scope_in b number) further) (entered_again (scope_in b number) further).scope z) (sym chain_is)
      (around_entered further (made (scope_in b number).kind further.scope (scope_in b number).depth (scope_in b number).at further) further.scope k (with_scope kind chain) is refl a))
    where
      further : Body
      further = after most (scope_in b number).parent

      body_is : after (suc most) number ≡ entered_again (scope_in b number) further
      body_is = ap (λ (z : Bool). cond z (entered kind at (at_scope number b)) (entered_again (scope_in b number) (after most (scope_in b number).parent)))
          (ap (λ (z : ScopeKind). is_full z) is ∙ full)

      chain_is : with_scope kind (k ∷ chain) ≡ k ∷ with_scope kind chain
      chain_is = ap (λ (z : Bool). cond z (kind ∷ k ∷ chain) (k ∷ with_scope kind chain)) full

  temporary_by : (full : Bool) (number most : ℕ) (k : ScopeKind) (chain : List ScopeKind) → is_full k ≡ full → AreAround b number (k ∷ chain)
      → (full ≡ false → AreAround (after most (scope_in b number).parent) (after most (scope_in b number).parent).scope (with_scope kind chain))
      → AreAround (after (suc most) number) (after (suc most) number).scope (with_scope kind (k ∷ chain))
  temporary_by true number most k chain full a next = temporary_here number most k chain a full
  temporary_by false number most k chain full a next = temporary_further number most k chain (first_around b number k chain a) full (next refl)

  -- it comes right around the scopes that lie within the full-expression
  pub temporary_around : (most number : ℕ) (chain : List ScopeKind) → length chain ≤ most → has_full chain ≡ true → AreAround b number chain
      → AreAround (after most number) (after most number).scope (with_scope kind chain)
  temporary_around most number [] short e a = absurd a
  temporary_around zero number (k ∷ chain) short e a = absurd (nothing_fits (length chain) short)
  temporary_around (suc most) number (k ∷ []) short e a = temporary_by (is_full k) number most k [] refl a
      (λ n. absurd (nowhere_full (outside (is_full k) false e n)))
    where
      nowhere_full : false ≡ true → ⊥
      nowhere_full e = absurd cc
  temporary_around (suc most) number (k ∷ j ∷ chain) short e a = temporary_by (is_full k) number most k (j ∷ chain) refl a
      (λ n. temporary_around most (scope_in b number).parent (j ∷ chain) (fewer (length (j ∷ chain)) most short) (outside (is_full k) (has_full (j ∷ chain)) e n) a.2)
