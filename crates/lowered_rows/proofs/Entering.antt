-- Scopes that are entered lie in each other.
use Rattle.std.proofs.Common.{◌≡◌, ◌<◌, ◌≤◌, ◌≢◌, ℕ, zero, suc, Bool, true, false, [], ◌∷◌, length, refl, sym, ap}
use Rattle.std.proofs.Common.{subst, ◌∙◌, arith, true≢false, length-append, ltb-true, ltb-false}
use Rattle.std.proofs.lemmas.List.{get_or_past, get_or_push}
use Rattle.std.proofs.Math.ListN.{get_or-append}
use Rattle.std.specs.Prelude.{nat_lt}
use Rattle.cpp_tree.specs.cpp_types.declared.classes.At.{At}
use Rattle.cpp_tree.specs.Trees.{nowhere}
use Rattle.low_code.specs.declared.scopes.ScopeKind.{ScopeKind}
use Rattle.low_code.specs.declared.scopes.ScopeKind.TheVariants.{Function, Mark, Loop, Switch}
use Rattle.low_code.specs.declared.scopes.Scope.{Scope}
use Rattle.low_code.specs.Scopes.{outermost, edge_within}
use Rattle.low_code.specs.Writer.{Body, begun, scope_in, made, at_scope, added, entered_at}
use Rattle.low_code.specs.Rows.{block_edge}
use Rattle.lowered_rows.specs.Lying.{HasEdges, is_passed, LiesIn, AreWithin}

-- a number is below another, is it, or is above
data Place (n length : ℕ) : Type 0 where
  below : n < length → Place n length
  last : n ≡ length → Place n length
  past : length < n → Place n length

place : (m n : ℕ) → Place m n
place m n = by_test (nat_lt m n) (nat_lt n m) refl refl where
  by_test : (v w : Bool) → nat_lt m n ≡ v → nat_lt n m ≡ w → Place m n
  by_test true w e f = below (ltb-true m n e)
  by_test false true e f = past (ltb-true n m f)
  by_test false false e f =
      let l : n ≤ m = ltb-false m n e in
      let k : m ≤ n = ltb-false n m f in
      last (omega arith)

-- nothing but the scopes matters
pub same_within : (b c : Body) → b.scopes ≡ c.scopes → AreWithin b → AreWithin c
same_within b c e within =
    let there : AreWithin (record b { scopes = c.scopes }) = subst (λ scopes. AreWithin (record b { scopes = scopes })) e within in
    record { function = there.function; rows = there.rows; inward = there.inward }

pub same_edges : (b c : Body) → b.scopes ≡ c.scopes → HasEdges b → HasEdges c
same_edges b c e edges = subst (λ scopes. HasEdges (record b { scopes = scopes })) e edges

pub moved_within : (scope : ℕ) (b : Body) → AreWithin b → AreWithin (at_scope scope b)
moved_within scope b = same_within b (at_scope scope b) refl

-- ---- begun

module _ (depth : ℕ) (at : At) where
  beyond : (scope : ℕ) → 0 < scope → scope_in (begun depth at) scope ≡ outermost nowhere
  beyond scope l = get_or_past (begun depth at).scopes scope (outermost nowhere) (omega arith)

  pub begun_within : AreWithin (begun depth at)
  begun_within = record { function = refl; rows = refl; inward = λ scope l m. let no : ⊥ = omega arith in absurd no }

  pub begun_edges : HasEdges (begun depth at)
  begun_edges zero e = let no : ⊥ = omega arith in absurd no
  begun_edges (suc n) e =
      let none : block_edge (scope_in (begun depth at) (suc n)).kind ≡ 0 = ap (λ (s : Scope). block_edge s.kind) (beyond (suc n) (omega arith)) in
      let no : ⊥ = omega arith in absurd no

-- ---- added

edge_passed : (kind : ScopeKind) (number around : ℕ) → is_passed kind ≡ true → edge_within kind number around ≡ around
edge_passed (Mark owner) number around h = refl
edge_passed Loop number around h = refl
edge_passed Switch number around h = refl
edge_passed kind number around h = absurd (true≢false (sym h))

module _ (b : Body) (scope : Scope) where
  abbrev new : Body
  new = added scope b

  pub added_before : (n : ℕ) → n < length b.scopes → scope_in new n ≡ scope_in b n
  added_before n l = get_or-append b.scopes (scope ∷ []) (outermost nowhere) n l

  the_new : (n : ℕ) → n ≡ length b.scopes → scope_in new n ≡ scope
  the_new n e = get_or_push b.scopes scope (outermost nowhere) n (sym e)

  module _ (within : AreWithin b) (some : 0 < length b.scopes) where
    -- what a scope lies in is as before
    lies_still : (n : ℕ) (own : Scope) → own.parent < length b.scopes → scope_in new n ≡ own → LiesIn n own (scope_in b own.parent)
        → LiesIn n (scope_in new n) (scope_in new (scope_in new n).parent)
    lies_still n own l e h =
        subst (λ (s : Scope). LiesIn n s (scope_in new s.parent)) (sym e) (subst (LiesIn n own) (sym (added_before own.parent l)) h)

    lies_new : LiesIn (length b.scopes) scope (scope_in b scope.parent) → (n : ℕ) → 0 < n → Place n (length b.scopes)
        → n < length new.scopes → LiesIn n (scope_in new n) (scope_in new (scope_in new n).parent)
    lies_new h n l (below m) k =
        let old : LiesIn n (scope_in b n) (scope_in b (scope_in b n).parent) = within.inward n l m in
        let lower : (scope_in b n).parent < n = old.parent in
        lies_still n (scope_in b n) (omega arith) (added_before n m) old
    lies_new h n l (last e) k =
        lies_still n scope h.parent (the_new n e) (subst (λ m. LiesIn m scope (scope_in b scope.parent)) (sym e) h)
    lies_new h n l (past m) k = let no : ⊥ = omega (arith, length-append b.scopes (scope ∷ [])) in absurd no

    pub added_within : LiesIn (length b.scopes) scope (scope_in b scope.parent) → AreWithin new
    added_within h = record {
      function = ap (λ (s : Scope). s.kind) (added_before 0 some) ∙ within.function;
      rows = ap (λ (s : Scope). s.rows) (added_before 0 some) ∙ within.rows;
      inward = λ n l m. lies_new h n l (place n (length b.scopes)) m;
    }

  pub added_edges : HasEdges b → block_edge scope.kind ≢ 1 → HasEdges new
  added_edges edges other n = by_place (place n (length b.scopes)) where
    by_place : Place n (length b.scopes) → block_edge (scope_in new n).kind ≢ 1
    by_place (below l) = λ e. edges n (sym (ap (λ (s : Scope). block_edge s.kind) (added_before n l)) ∙ e)
    by_place (last m) = λ e. other (sym (ap (λ (s : Scope). block_edge s.kind) (the_new n m)) ∙ e)
    by_place (past l) = λ e.
        let size : length new.scopes ≤ n = omega (arith, length-append b.scopes (scope ∷ [])) in
        let none : block_edge (scope_in new n).kind ≡ 0 =
        ap (λ (s : Scope). block_edge s.kind) (get_or_past new.scopes n (outermost nowhere) size) in
        let no : ⊥ = omega arith in absurd no

-- ---- entered

pub made_within : (kind : ScopeKind) (depth : ℕ) (at : At) (b : Body) → AreWithin b → b.scope < length b.scopes → kind ≢ Function
    → AreWithin (entered_at kind depth at b)
made_within kind depth at b within l other =
    let scope : Scope = made kind b.scope depth at b in
    moved_within (length b.scopes) (added scope b) (added_within b scope within (omega arith)
    (record { parent = l; kind = other; rows = refl; edge = λ h. edge_passed kind (length b.scopes) (scope_in b b.scope).edge h }))
