-- Handlers that are entered, with the ways out behind them.
use Rattle.std.proofs.Common.{◌≡◌, ◌<◌, ◌≤◌, ◌≢◌, ◌⊎◌, inl, inr, ℕ, zero, suc, Bool, true, false, cond, [], ◌∷◌, length, set, refl, sym}
use Rattle.std.proofs.Common.{ap, subst, ◌∙◌, arith, true≢false, length-append, length-set, get_or-set_same, get_or-set_other, eqb-true}
use Rattle.std.proofs.lemmas.List.{get_or_past}
use Rattle.std.proofs.lemmas.Bool.{eqb-false}
use Rattle.std.specs.Prelude.{nat_eq}
use Rattle.cpp_tree.specs.cpp_types.declared.classes.At.{At}
use Rattle.cpp_tree.specs.Trees.{nowhere}
use Rattle.low_code.specs.declared.scopes.ScopeKind.{ScopeKind}
use Rattle.low_code.specs.declared.scopes.ScopeKind.TheVariants.{Function, Behind}
use Rattle.low_code.specs.declared.scopes.Scope.{Scope}
use Rattle.low_code.specs.Scopes.{outermost, rows_within, block_of, led_to}
use Rattle.low_code.specs.Writer.{Body, scope_in, added, innermost, outer_edge, behind_scope, led, linked, behind_one, behind_from, behind}
use Rattle.low_code.specs.Writer.{behind_edge, handler_in, entered_handler}
use Rattle.low_code.specs.Rows.{block_edge}
use Rattle.lowered_rows.specs.Lying.{HasEdges, is_passed, LiesIn, AreWithin}
use Rattle.lowered_rows.proofs.Outward.{or_past}
use Rattle.lowered_rows.proofs.Entering.{added_before, moved_within, added_within, added_edges}

abbrev is_function : ScopeKind → Bool
is_function Function = true
is_function kind = false

-- ---- a way out that is led outward lies as before

led_other : (outer : ℕ) (kind : ScopeKind) → kind ≢ Function → led_to outer kind ≢ Function
led_other outer (Behind block next other) h = λ e. true≢false (sym (ap is_function e))
led_other outer kind h = h

led_rows : (outer : ℕ) (kind : ScopeKind) (number around : ℕ) → rows_within (led_to outer kind) number around ≡ rows_within kind number around
led_rows outer (Behind block next other) number around = refl
led_rows outer kind number around = refl

led_passed : (outer : ℕ) (kind : ScopeKind) → is_passed (led_to outer kind) ≡ is_passed kind
led_passed outer (Behind block next other) = refl
led_passed outer kind = refl

led_edge : (outer : ℕ) (kind : ScopeKind) → block_edge (led_to outer kind) ≡ block_edge kind
led_edge outer (Behind block next other) = refl
led_edge outer kind = refl

-- all of a scope but where its way out leads
record Alike (s t : Scope) : Type 0 where
  parent : t.parent ≡ s.parent
  rows : t.rows ≡ s.rows
  edge : t.edge ≡ s.edge
  other : s.kind ≢ Function → t.kind ≢ Function
  within : (number around : ℕ) → rows_within t.kind number around ≡ rows_within s.kind number around
  passed : is_passed t.kind ≡ is_passed s.kind
  block : block_edge t.kind ≡ block_edge s.kind

same_alike : (s t : Scope) → s ≡ t → Alike s t
same_alike s t e = subst (Alike s) e
    (record { parent = refl; rows = refl; edge = refl; other = λ h. h; within = λ number around. refl; passed = refl; block = refl })

led_alike : (outer : ℕ) (s : Scope) → Alike s (led outer s)
led_alike outer s = record {
  parent = refl;
  rows = refl;
  edge = refl;
  other = led_other outer s.kind;
  within = led_rows outer s.kind;
  passed = led_passed outer s.kind;
  block = led_edge outer s.kind;
}

lies_alike : (number : ℕ) (own around own_new around_new : Scope) → Alike own own_new → Alike around around_new → LiesIn number own around
    → LiesIn number own_new around_new
lies_alike number own around own_new around_new o a h = record {
  parent = subst (λ n. n < number) (sym o.parent) h.parent;
  kind = o.other h.kind;
  rows = o.rows ∙ h.rows ∙ sym (o.within number around.rows) ∙ ap (rows_within own_new.kind number) (sym a.rows);
  edge = λ p. o.edge ∙ h.edge (sym o.passed ∙ p) ∙ sym a.edge;
}

module _ (b : Body) (inner outer : ℕ) where
  abbrev new : Scope
  new = led outer (scope_in b inner)

  abbrev set_body : Body
  set_body = record b { scopes = set b.scopes inner new }

  as_before : (n : ℕ) → n ≢ inner → scope_in b n ≡ scope_in set_body n
  as_before n other = sym (get_or-set_other b.scopes inner n new (outermost nowhere) other)

  set_alike : (n : ℕ) → Alike (scope_in b n) (scope_in set_body n)
  set_alike n = by_place (nat_eq n inner) refl (or_past inner (length b.scopes)) where
    by_place : (v : Bool) → nat_eq n inner ≡ v → (inner < length b.scopes) ⊎ (length b.scopes ≤ inner) → Alike (scope_in b n) (scope_in set_body n)
    by_place true e (inl l) =
        let same : n ≡ inner = eqb-true n inner e in
        subst (λ m. Alike (scope_in b m) (scope_in set_body m)) (sym same)
        (subst (Alike (scope_in b inner)) (sym (get_or-set_same b.scopes inner new (outermost nowhere) l)) (led_alike outer (scope_in b inner)))
    by_place true e (inr l) =
        let same : n ≡ inner = eqb-true n inner e in
        let before : length b.scopes ≤ n = omega arith in
        let size : length (set b.scopes inner new) ≤ n = omega (arith, length-set b.scopes inner new) in
        same_alike (scope_in b n) (scope_in set_body n) (get_or_past b.scopes n (outermost nowhere) before
        ∙ sym (get_or_past (set b.scopes inner new) n (outermost nowhere) size))
    by_place false e l = same_alike (scope_in b n) (scope_in set_body n) (as_before n (eqb-false n inner e))

  set_within : inner ≢ 0 → AreWithin b → AreWithin set_body
  set_within some within = record {
    function = ap (λ (s : Scope). s.kind) (sym first) ∙ within.function;
    rows = ap (λ (s : Scope). s.rows) (sym first) ∙ within.rows;
    inward = λ n l m. lies n (within.inward n l (omega (arith, length-set b.scopes inner new)));
  } where
    first : scope_in b 0 ≡ scope_in set_body 0
    first = as_before 0 (λ e. some (sym e))

    lies : (n : ℕ) → LiesIn n (scope_in b n) (scope_in b (scope_in b n).parent)
        → LiesIn n (scope_in set_body n) (scope_in set_body (scope_in set_body n).parent)
    lies n h = lies_alike n (scope_in b n) (scope_in b (scope_in b n).parent) (scope_in set_body n) (scope_in set_body (scope_in set_body n).parent)
        (set_alike n)
        (subst (λ m. Alike (scope_in b (scope_in b n).parent) (scope_in set_body m)) (sym (set_alike n).parent) (set_alike (scope_in b n).parent)) h

  set_edges : HasEdges b → HasEdges set_body
  set_edges edges n = λ e. edges n (sym (set_alike n).block ∙ e)

-- ---- the ways out behind a handler

-- what is carried through them
record Kept (b : Body) : Type 0 where
  within : AreWithin b
  none : (scope_in b 0).parent ≡ 0
  here : b.scope < length b.scopes

linked_kept : (inner outer : ℕ) (b : Body) → Kept b → Kept (linked inner outer b)
linked_kept inner outer b k = by_test (nat_eq inner 0) refl where
  by_test : (v : Bool) → nat_eq inner 0 ≡ v → Kept (cond v b (set_body b inner outer))
  by_test true e = k
  by_test false e = record {
    within = set_within b inner outer (eqb-false inner 0 e) k.within;
    none = (set_alike b inner outer 0).parent ∙ k.none;
    here = subst (λ n. b.scope < n) (sym (length-set b.scopes inner (new b inner outer))) k.here;
  }

linked_edges : (inner outer : ℕ) (b : Body) → HasEdges b → HasEdges (linked inner outer b)
linked_edges inner outer b edges = by_test (nat_eq inner 0) where
  by_test : (v : Bool) → HasEdges (cond v b (set_body b inner outer))
  by_test true = edges
  by_test false = set_edges b inner outer edges

module _ (b : Body) (k : Kept b) where
  parent_there : (n : ℕ) → (scope_in b n).parent < length b.scopes
  parent_there zero = let first : (scope_in b 0).parent ≡ 0 = k.none in let some : b.scope < length b.scopes = k.here in omega arith
  parent_there (suc n) = by_place (or_past (suc n) (length b.scopes)) where
    by_place : (suc n < length b.scopes) ⊎ (length b.scopes ≤ suc n) → (scope_in b (suc n)).parent < length b.scopes
    by_place (inl l) = let lower : (scope_in b (suc n)).parent < suc n = (k.within.inward (suc n) (omega arith) l).parent in omega arith
    by_place (inr l) =
        let first : (scope_in b (suc n)).parent ≡ 0 = ap (λ (s : Scope). s.parent) (get_or_past b.scopes (suc n) (outermost nowhere) l) in
        let some : b.scope < length b.scopes = k.here in
        omega arith

  added_kept : (scope : Scope) → LiesIn (length b.scopes) scope (scope_in b scope.parent) → Kept (added scope b)
  added_kept scope h =
      let some : b.scope < length b.scopes = k.here in record {
        within = added_within b scope k.within (omega arith) h;
        none = ap (λ (s : Scope). s.parent) (added_before b scope 0 (omega arith)) ∙ k.none;
        here = omega (arith, length-append b.scopes (scope ∷ []));
      }

  behind_lies : (block next : ℕ) (at : At) → LiesIn (length b.scopes) (behind_scope block next at b) (scope_in b (scope_in b block).parent)
  behind_lies block next at = record {
    parent = parent_there block;
    kind = λ e. true≢false (sym (ap is_function e));
    rows = refl;
    edge = λ h. absurd (true≢false (sym h));
  }

  one_kept : (edge last : ℕ) (at : At) → Kept (behind_one edge last at b)
  one_kept edge last at =
      let block : ℕ = block_of (scope_in b edge).kind edge in
      linked_kept last (length b.scopes) (added (behind_scope block edge at b) b) (added_kept (behind_scope block edge at b) (behind_lies block edge at))

chosen_kept : (v : Bool) (b c : Body) → Kept b → Kept c → Kept (cond v b c)
chosen_kept true b c k l = k
chosen_kept false b c k l = l

behind_kept : (most edge last : ℕ) (at : At) (b : Body) → Kept b → Kept (behind_from most edge last at b)
behind_kept zero edge last at b k = k
behind_kept (suc most) edge last at b k =
    chosen_kept (nat_eq edge 0) b (behind_from most (outer_edge edge b) (length b.scopes) at (behind_one edge last at b)) k
    (behind_kept most (outer_edge edge b) (length b.scopes) at (behind_one edge last at b) (one_kept b k edge last at))

chosen_edges : (v : Bool) (b c : Body) → HasEdges b → HasEdges c → HasEdges (cond v b c)
chosen_edges true b c k l = k
chosen_edges false b c k l = l

none_other : ◌≢◌ {A = ℕ} 0 1
none_other e = let no : ⊥ = omega arith in absurd no

behind_edges : (most edge last : ℕ) (at : At) (b : Body) → HasEdges b → HasEdges (behind_from most edge last at b)
behind_edges zero edge last at b k = k
behind_edges (suc most) edge last at b k =
    let scope : Scope = behind_scope (block_of (scope_in b edge).kind edge) edge at b in
    chosen_edges (nat_eq edge 0) b (behind_from most (outer_edge edge b) (length b.scopes) at (behind_one edge last at b)) k
    (behind_edges most (outer_edge edge b) (length b.scopes) at (behind_one edge last at b)
    (linked_edges last (length b.scopes) (added scope b) (added_edges b scope k none_other)))

-- ---- the handler

pub handler_within : (at : At) (b : Body) → AreWithin b → (scope_in b 0).parent ≡ 0 → b.scope < length b.scopes → AreWithin (entered_handler at b)
handler_within at b within none here =
    let c : Body = behind at b in
    let k : Kept c = behind_kept (length b.scopes) (innermost b).edge 0 at b (record { within = within; none = none; here = here }) in
    let scope : Scope = handler_in (behind_edge b) at c in
    let some : c.scope < length c.scopes = k.here in
    moved_within (length c.scopes) (added scope c) (added_within c scope k.within (omega arith)
    (record { parent = k.here; kind = λ e. true≢false (sym (ap is_function e)); rows = refl; edge = λ h. absurd (true≢false (sym h)) }))

pub handler_edges : (at : At) (b : Body) → HasEdges b → HasEdges (entered_handler at b)
handler_edges at b edges =
    let c : Body = behind at b in
    added_edges c (handler_in (behind_edge b) at c) (behind_edges (length b.scopes) (innermost b).edge 0 at b edges) none_other
