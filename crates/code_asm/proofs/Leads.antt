-- Lines that lead from one state to another, none of them the last of its text.
use Rattle.std.proofs.Common.{◌≡◌, ℕ, ◌+◌, ◌^◌, Bool, true, false, List, [], ◌∷◌, ◌++◌, length, map, Some, refl, sym, ap, subst, ◌∙◌, append_assoc, append-nil}
use Rattle.std.proofs.Common.{arith, length-append}
use Rattle.std.specs.List.{list_all, flat_map}
use Rattle.std.proofs.Math.Dec.{eqb-suc-zero}
use Rattle.std.proofs.lemmas.Bool.{and_parts, ltb-true, lt-ltb}
use Rattle.tx_code.specs.Objects.{ObjectView}
use Rattle.tx_code.specs.WellFormed.{is_count, ascends, ascends_from}
use Rattle.object_bytes.specs.Fields.{above}
use Rattle.assembly_text.specs.Lines.{Line, line_text}
use Rattle.assembly_text.specs.Front.{line_is_wide}
use Rattle.code_asm.specs.Steps.{State, step, closed, has_room, is_nil, last_of}
use Rattle.code_asm.specs.Answers.{Reaches, goes_on}
use Rattle.code_asm.proofs.Appended.{last_from, last_is}

pub data Leads : State → List Line → State → Type 0 where
  stays : {s : State} → Leads s [] s
  takes : {s t u : State} {l : Line} {ls : List Line} → line_is_wide l ≡ true → step s l false ≡ Some t → Leads t ls u → Leads s (l ∷ ls) u

pub and_on : {s t u : State} {ls ms : List Line} → Leads s ls t → Leads t ms u → Leads s (ls ++ ms) u
and_on stays b = b
and_on (takes w e a) b = takes w e (and_on a b)

pub record Ahead (text : List ℕ) (s : State) (rest : List ℕ) : Type 0 where
  pub number : ℕ
  pub reached : Reaches text number s rest

not_nil : (xs : List ℕ) (c : ℕ) (tail : List ℕ) → is_nil (xs ++ c ∷ tail) ≡ false
not_nil [] c tail = eqb-suc-zero (length tail)
not_nil (x ∷ xs) c tail = eqb-suc-zero (length (xs ++ c ∷ tail))

pub along : {text : List ℕ} {s t : State} {ls : List Line} (c : ℕ) (tail : List ℕ) → Leads s ls t → (n : ℕ)
    → Reaches text n s (flat_map line_text ls ++ c ∷ tail) → Ahead text t (c ∷ tail)
along c tail stays n r = record { number = n; reached = r }
along c tail (takes {s = s} {l = l} {ls = ls} w e next) n r =
    along c tail next (n + 1) (goes_on l r (record { wide = w; written = append_assoc (line_text l) (flat_map line_text ls) (c ∷ tail) })
    (ap (λ (z : Bool). step s l z) (not_nil (flat_map line_text ls) c tail) ∙ e))

-- ---- lists, item by item

room_by : {A : Type 0} (done : List A) (x : A) (rest : List A) → is_count (done ++ x ∷ rest) ≡ true → has_room done ≡ true
room_by done x rest h =
    let lt = ltb-true (length (done ++ x ∷ rest)) (2 ^ 32) h in
    lt-ltb (length done + 1) (2 ^ 32) (omega (arith, length-append done (x ∷ rest)))

from_above : {A : Type 0} (below : A → A → Bool) (a : A) (done : List A) (x : A) (rest : List A) → ascends_from below a (done ++ x ∷ rest) ≡ true
    → below (last_from a done) x ≡ true
unfolding last_from
from_above below a [] x rest h = (and_parts (below a x) (ascends_from below x rest) h).0
from_above below a (y ∷ ys) x rest h = from_above below y ys x rest (and_parts (below a y) (ascends_from below y (ys ++ x ∷ rest)) h).1

above_by : {A : Type 0} (below : A → A → Bool) (done : List A) (x : A) (rest : List A) → ascends below (done ++ x ∷ rest) ≡ true
    → above below (last_of done) x ≡ true
above_by below [] x rest h = refl
above_by below (a ∷ done) x rest h = subst (λ o. above below o x ≡ true) (sym (last_is a done)) (from_above below a done x rest h)

-- lines of one item each
pub items : {A : Type 0} (at : List A → State) (line : A → Line) (fits wide : A → Bool) (below : A → A → Bool)
    → ((xs : List A) (x : A) → has_room xs ≡ true → fits x ≡ true → above below (last_of xs) x ≡ true → step (at xs) (line x) false ≡ Some (at (xs ++ x ∷ [])))
    → ((x : A) → wide x ≡ true → line_is_wide (line x) ≡ true)
    → (done rest : List A) → is_count (done ++ rest) ≡ true → list_all fits rest ≡ true → list_all wide rest ≡ true → ascends below (done ++ rest) ≡ true
    → Leads (at done) (map line rest) (at (done ++ rest))
items at line fits wide below one w done [] c f v o = subst (λ z. Leads (at done) [] (at z)) (sym (append-nil done)) stays
items at line fits wide below one w done (x ∷ xs) c f v o =
    let p = and_parts (fits x) (list_all fits xs) f in
    let q = and_parts (wide x) (list_all wide xs) v in
    let same : (done ++ x ∷ []) ++ xs ≡ done ++ x ∷ xs = append_assoc done (x ∷ []) xs in
    takes (w x q.0) (one done x (room_by done x xs c) p.0 (above_by below done x xs o))
    (subst (λ z. Leads (at (done ++ x ∷ [])) (map line xs) (at z)) same
    (items at line fits wide below one w (done ++ x ∷ []) xs (ap is_count same ∙ c) p.1 q.1 (ap (ascends below) same ∙ o)))

-- ---- entries

-- the lines lead to a state where the object can end as this one
pub record Arrives (s : State) (ls : List Line) (o : ObjectView) : Type 0 where
  pub state : State
  pub leads : Leads s ls state
  pub closes : closed state.object state.place ≡ Some o

pub entries : {A : Type 0} (at : List A → ObjectView) (lines : A → List Line) (fits wide : A → Bool) (below : A → A → Bool)
    → ((s : State) (xs : List A) (x : A) → closed s.object s.place ≡ Some (at xs) → has_room xs ≡ true → fits x ≡ true → wide x ≡ true
    → above below (last_of xs) x ≡ true → Arrives s (lines x) (at (xs ++ x ∷ [])))
    → (s : State) (done rest : List A) → closed s.object s.place ≡ Some (at done) → is_count (done ++ rest) ≡ true → list_all fits rest ≡ true
    → list_all wide rest ≡ true → ascends below (done ++ rest) ≡ true → Arrives s (flat_map lines rest) (at (done ++ rest))
entries at lines fits wide below one s done [] e c f v o = record { state = s; leads = stays; closes = e ∙ ap (λ z. Some (at z)) (sym (append-nil done)) }
entries at lines fits wide below one s done (x ∷ xs) e c f v o =
    let p = and_parts (fits x) (list_all fits xs) f in
    let q = and_parts (wide x) (list_all wide xs) v in
    let same : (done ++ x ∷ []) ++ xs ≡ done ++ x ∷ xs = append_assoc done (x ∷ []) xs in
    let first = one s done x e (room_by done x xs c) p.0 q.0 (above_by below done x xs o) in
    let rest = entries at lines fits wide below one first.state (done ++ x ∷ []) xs first.closes (ap is_count same ∙ c) p.1 q.1 (ap (ascends below) same ∙ o) in
    record { state = rest.state; leads = and_on first.leads rest.leads; closes = rest.closes ∙ ap (λ z. Some (at z)) same }
