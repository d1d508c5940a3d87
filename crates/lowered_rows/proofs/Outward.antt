-- What takes an exception, scope by scope outward.
use Rattle.std.proofs.Common.{◌≡◌, ◌<◌, ◌≤◌, ◌≢◌, ◌⊎◌, inl, inr, ℕ, zero, suc, Bool, true, false, length, refl, sym, ap, ◌∙◌, arith, ltb-true}
use Rattle.std.proofs.Common.{ltb-false}
use Rattle.std.proofs.lemmas.List.{get_or_past}
use Rattle.std.specs.Prelude.{nat_lt, Option}
use Rattle.cpp_tree.specs.Trees.{nowhere}
use Rattle.low_code.specs.declared.scopes.ScopeKind.{ScopeKind}
use Rattle.low_code.specs.declared.scopes.ScopeKind.TheVariants.{Function, Mark, Loop, Switch}
use Rattle.low_code.specs.declared.scopes.Scope.{Scope}
use Rattle.low_code.specs.Scopes.{outermost, rows_within}
use Rattle.low_code.specs.Writer.{Body, scope_in}
use Rattle.lowered_rows.specs.Taking.{Taken, edge_out, taken_by, taken_within, taken_from, taken}
use Rattle.lowered_rows.specs.Lying.{AreNested, is_passed, LiesIn, AreWithin}

pub or_past : (m n : ℕ) → (m < n) ⊎ (n ≤ m)
or_past m n = by_test (nat_lt m n) refl where
  by_test : (v : Bool) → nat_lt m n ≡ v → (m < n) ⊎ (n ≤ m)
  by_test true e = inl (ltb-true m n e)
  by_test false e = inr (ltb-false m n e)

module _ (b : Body) (ty : ℕ) (outside : Option Taken) where
  -- at the function nothing lies around
  at_function : (kind : ScopeKind) (scope : ℕ) (around : Option Taken) → kind ≡ Function → taken_by b ty scope kind outside around ≡ outside
  at_function kind scope around e = ap (λ k. taken_by b ty scope k outside around) e

  past_function : (scope : ℕ) → length b.scopes ≤ scope → (scope_in b scope).kind ≡ Function
  past_function scope h = ap (λ (s : Scope). s.kind) (get_or_past b.scopes scope (outermost nowhere) h)

  module _ (nested : AreNested b) where
    -- a scope is the function, or has one around with a lower number
    abbrev Lies : ℕ → Type 0
    Lies scope = ((scope_in b scope).kind ≡ Function) ⊎ ((scope_in b scope).parent < scope)

    lies : (scope : ℕ) → Lies scope
    lies zero = inl nested.function
    lies (suc n) = elim (or_past (suc n) (length b.scopes)) [ inl l ↦ inr (nested.inward (suc n) (omega arith) l) | inr l ↦ inl (past_function (suc n) l) ]

    one_more : (scope : ℕ) (around other : Option Taken) → ((scope_in b scope).parent < scope → around ≡ other) → Lies scope
        → taken_by b ty scope (scope_in b scope).kind outside around ≡ taken_by b ty scope (scope_in b scope).kind outside other
    one_more scope around other same (inl e) =
        at_function (scope_in b scope).kind scope around e ∙ sym (at_function (scope_in b scope).kind scope other e)
    one_more scope around other same (inr h) = ap (λ o. taken_by b ty scope (scope_in b scope).kind outside o) (same h)

    -- how many scopes may be passed does not matter
    enough : (j k scope : ℕ) → scope < j → scope < k → taken_within j b ty outside scope ≡ taken_within k b ty outside scope
    enough zero k scope l m = let no : ⊥ = omega arith in absurd no
    enough (suc j) zero scope l m = let no : ⊥ = omega arith in absurd no
    enough (suc j) (suc k) scope l m =
        one_more scope (taken_within j b ty outside (scope_in b scope).parent) (taken_within k b ty outside (scope_in b scope).parent)
        (λ (h : (scope_in b scope).parent < scope). enough j k (scope_in b scope).parent (omega arith) (omega arith)) (lies scope)

    beyond : (k scope : ℕ) → (scope_in b scope).kind ≡ Function → taken_within k b ty outside scope ≡ outside
    beyond zero scope e = refl
    beyond (suc k) scope e = at_function (scope_in b scope).kind scope (taken_within k b ty outside (scope_in b scope).parent) e

    pub outward : (scope : ℕ) → taken_from b ty outside scope
        ≡ taken_by b ty scope (scope_in b scope).kind outside (taken_from b ty outside (scope_in b scope).parent)
    outward scope = by_place (or_past scope (length b.scopes)) where
      by_place : (scope < length b.scopes) ⊎ (length b.scopes ≤ scope) → taken_from b ty outside scope
          ≡ taken_by b ty scope (scope_in b scope).kind outside (taken_from b ty outside (scope_in b scope).parent)
      by_place (inl l) = enough (length b.scopes) (suc (length b.scopes)) scope l (omega arith)
      by_place (inr l) =
          beyond (length b.scopes) scope (past_function scope l)
          ∙ sym (at_function (scope_in b scope).kind scope (taken_from b ty outside (scope_in b scope).parent) (past_function scope l))

-- ---- scopes that are passed

module _ (b : Body) (within : AreWithin b) where
  pub nested : AreNested b
  nested = record { function = within.function; inward = λ scope l m. (within.inward scope l m).parent }

  -- the innermost scope with rows takes the same, and has the same block
  pub record Passed (scope : ℕ) : Type 0 where
    taking : (ty : ℕ) (outside : Option Taken) → taken_from b ty outside scope ≡ taken_from b ty outside (scope_in b scope).rows
    edge : (scope_in b scope).edge ≡ (scope_in b (scope_in b scope).rows).edge

  same_passed : (scope : ℕ) → (scope_in b scope).rows ≡ scope → Passed scope
  same_passed scope e = record {
    taking = λ ty outside. ap (λ n. taken_from b ty outside n) (sym e);
    edge = ap (λ n. (scope_in b n).edge) (sym e);
  }

  module _ (scope parent : ℕ) (go : Passed parent) where
    outer_passed : (scope_in b scope).rows ≡ (scope_in b parent).rows → (scope_in b scope).edge ≡ (scope_in b parent).edge
        → ((ty : ℕ) (outside : Option Taken) → taken_from b ty outside scope ≡ taken_from b ty outside parent) → Passed scope
    outer_passed r e t = record {
      taking = λ ty outside. t ty outside ∙ go.taking ty outside ∙ ap (λ n. taken_from b ty outside n) (sym r);
      edge = e ∙ go.edge ∙ ap (λ n. (scope_in b n).edge) (sym r);
    }

    abbrev Taking : ScopeKind → Type 0
    Taking kind = (ty : ℕ) (outside : Option Taken)
        → taken_from b ty outside scope ≡ taken_by b ty scope kind outside (taken_from b ty outside parent)

    by_kind : (kind : ScopeKind) → kind ≢ Function → (scope_in b scope).rows ≡ rows_within kind scope (scope_in b parent).rows
        → (is_passed kind ≡ true → (scope_in b scope).edge ≡ (scope_in b parent).edge) → Taking kind → Passed scope
    by_kind Function other r e t = absurd (other refl)
    by_kind (Mark owner) other r e t = outer_passed r (e refl) t
    by_kind Loop other r e t = outer_passed r (e refl) t
    by_kind Switch other r e t = outer_passed r (e refl) t
    by_kind kind other r e t = same_passed scope r

  -- by the number of the scope
  passed : (k scope : ℕ) → scope < k → scope < length b.scopes → Passed scope
  passed zero scope l m = let no : ⊥ = omega arith in absurd no
  passed (suc k) zero l m = same_passed zero within.rows
  passed (suc k) (suc n) l m =
      let own : Scope = scope_in b (suc n) in
      let lies : LiesIn (suc n) own (scope_in b own.parent) = within.inward (suc n) (omega arith) m in
      let lower : own.parent < suc n = lies.parent in
      by_kind (suc n) own.parent (passed k own.parent (omega arith) (omega arith)) own.kind lies.kind lies.rows lies.edge
      (λ ty outside. outward b ty outside nested (suc n))

  pub passed_taken : (scope ty : ℕ) → scope < length b.scopes → taken b scope ty ≡ taken b (scope_in b scope).rows ty
  passed_taken scope ty l =
      let p : Passed scope = passed (suc scope) scope (omega arith) l in
      p.taking ty (edge_out b (scope_in b scope).edge)
      ∙ ap (λ n. taken_from b ty (edge_out b n) (scope_in b scope).rows) p.edge
