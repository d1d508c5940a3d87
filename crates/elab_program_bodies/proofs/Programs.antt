-- The units of a program.
use Rattle.std.proofs.Common.{◌≡◌, refl, sym, ap, ◌∙◌, subst, ℕ, zero, suc, ◌+◌, List, [], ◌∷◌, ◌++◌, length, length-append, slice_get, Some}
use Rattle.std.proofs.Common.{Result, Ok, Err, arith}
use Rattle.std.proofs.lemmas.Option.{same_Some}
use Rattle.elab_rules.specs.cpp_tree.Units.{Unit, TypedProgram}
use Rattle.elab_rules.specs.cpp_tree.declared.faults.ElabFault.{ElabFault}
use Rattle.elab_rules.specs.elab_ctx.Ctx.{Traits}
use Rattle.elab_rules.specs.elab_ctx.Steps.{and_then}
use Rattle.elab_rules.specs.Statements.{State}
use Rattle.elab_rules.specs.Units.{unit_from}
use Rattle.elab_rules.specs.Programs.{Source, unit_shown, start_behind, with_unit, program_from}
use Rattle.elab_places.proofs.Steps.{held_by}
use Rattle.elab_program_bodies.specs.Programs.{ComesFrom, UnitsCome, ProgramsHavePlaces, ProgramsFit}
use Rattle.elab_program_bodies.proofs.Shown as shown

-- behind a step that answers
behind : {A B : Type 0} (D : Type 0) (r : Result A ElabFault) (f : A → Result B ElabFault) (q : B) → and_then r f ≡ Ok q
    → ((a : A) → r ≡ Ok a → f a ≡ Ok q → D) → D
behind D (Ok a) f q e h = h a refl e
behind D (Err x) f q e h = absurd cc

-- one unit more
unit_more : (C : ℕ → Unit → Type 0) (us : List Unit) (v : Unit) (n : ℕ) → ((i : ℕ) (u : Unit) → slice_get us i ≡ Some u → C (n + i) u)
    → C (n + length us) v → (i : ℕ) (u : Unit) → slice_get (us ++ v ∷ []) i ≡ Some u → C (n + i) u
unit_more C [] v n h c zero u e = subst (C (n + 0)) (same_Some v u e) c
unit_more C [] v n h c (suc i) u e = absurd cc
unit_more C (x ∷ us) v n h c zero u e = h 0 u e
unit_more C (x ∷ us) v n h c (suc i) u e = subst (λ (m : ℕ). C m u) (omega arith)
    (unit_more C us v (suc n) (λ j w q. subst (λ (m : ℕ). C m w) (omega arith) (h (suc j) w q)) (subst (λ (m : ℕ). C m v) (omega arith) c) i u e)

behind_one : (x : Source) (xs : List Source) (j : ℕ) (u : Unit) → ComesFrom xs j u → ComesFrom (x ∷ xs) (suc j) u
behind_one x xs j u c = record { source = c.source; at = c.at; state = c.state; is = c.is; shown = c.shown }

come : (n : ℕ) (p : TypedProgram) (traits : List Traits) (xs : List Source) (q : TypedProgram) → program_from n p traits xs ≡ Ok q → (C : ℕ → Unit → Type 0)
    → ((i : ℕ) (u : Unit) → slice_get p.units i ≡ Some u → C i u) → ((j : ℕ) (u : Unit) → ComesFrom xs j u → C (length p.units + j) u)
    → (i : ℕ) (u : Unit) → slice_get q.units i ≡ Some u → C i u
come n p traits [] q e C h c i u g = held_by (λ (z : TypedProgram). (k : ℕ) (v : Unit) → slice_get z.units k ≡ Some v → C k v) (Ok p) q h e i u g
come n p traits (x ∷ xs) q e C h c i u g = behind (C i u) (unit_from x.tokens (start_behind n p traits) x.decls)
    (λ (st : State). program_from (suc n) (with_unit p x st) st.ctx.traits xs) q e
    (λ st m f. come (suc n) (with_unit p x st) st.ctx.traits xs q f C
    (λ a v w. subst (λ (k : ℕ). C k v) (omega arith)
    (unit_more C p.units (unit_shown x.tokens x.decls st) 0 (λ b y z. subst (λ (k : ℕ). C k y) (omega arith) (h b y z))
    (subst (λ (k : ℕ). C k (unit_shown x.tokens x.decls st)) (omega arith)
    (c 0 (unit_shown x.tokens x.decls st) (record {
      source = x;
      at = refl;
      state = st;
      is = record { source = n; before = p; traits = traits; made = m };
      shown = refl;
    }))) a v w))
    (λ j v w. let l = length-append p.units (unit_shown x.tokens x.decls st ∷ []) in
    subst (λ (k : ℕ). C k v) (omega arith) (c (suc j) v (behind_one x xs j v w)))
    i u g)

pub come_law : UnitsCome
come_law sources p e i u g = come 0 (record { units = []; classes = []; slots = [] }) [] sources p e (ComesFrom sources) (λ j v q. absurd cc) (λ j v c. subst (λ (k : ℕ). ComesFrom sources k v) (omega arith) c) i u g

pub places_law : ProgramsHavePlaces
places_law sources p e i k u f tree g q t = let c = come_law sources p e i u g in
    shown.places_law c.source.tokens c.source.decls c.state c.is k f tree (ap (λ (z : Unit). slice_get z.funcs k) (sym c.shown) ∙ q) t

pub functions_law : ProgramsFit
functions_law sources p e i k u f tree g q t = let c = come_law sources p e i u g in
    shown.functions_law c.source.tokens c.source.decls c.state c.is k f tree (ap (λ (z : Unit). slice_get z.funcs k) (sym c.shown) ∙ q) t
