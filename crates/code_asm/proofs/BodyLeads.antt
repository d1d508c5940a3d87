-- The lines of a body lead from an open body to that body.
use Rattle.std.proofs.Common.{◌≡◌, ℕ, Bool, true, false, List, [], ◌∷◌, ◌++◌, length, map, Some, refl, sym, subst, ◌∙◌, ◌&&◌, ◌||◌}
use Rattle.std.specs.Prelude.{nat_eq}
use Rattle.std.specs.List.{list_all, flat_map}
use Rattle.std.proofs.lemmas.Bool.{and_parts, and_from, false≢true, eqb-true}
use Rattle.std.proofs.lemmas.List.{nil_from_length}
use Rattle.std.proofs.lemmas.List.Folds.{list_all-append}
use Rattle.tx_code.specs.declared.instr.Instr.{Instr}
use Rattle.tx_code.specs.declared.instr.Instr.TheVariants.{Push, Dup, Pop, Swap, FrameAddr, GlobalAddr, FuncAddr, ClassAddr, Load, Store, TLoad, TStore, VLoad}
use Rattle.tx_code.specs.declared.instr.Instr.TheVariants.{VStore, Bin, Neg, Conv, Jump, JumpZero, Call, TCall, CallIndirect, TCallIndirect, Slot, Ret, Begin}
use Rattle.tx_code.specs.declared.instr.Instr.TheVariants.{End, BeginSync, EndSync, Out, Inp, Spawn, Join, Abort, NewException, PutException, Throw, Rethrow}
use Rattle.tx_code.specs.declared.instr.Instr.TheVariants.{GetException, EndHandler, Resume, Over}
use Rattle.tx_code.specs.declared.body.Row.{Row}
use Rattle.tx_code.specs.declared.body.LineRow.{LineRow}
use Rattle.tx_code.specs.Objects.{BodyView}
use Rattle.tx_code.specs.WellFormed.{is_name, is_count, named_by, named_by_row, is_line, line_after, ascends, ascends_from, body_fits}
use Rattle.object_bytes.specs.Spelling.{instr_is_wide, row_is_wide, line_is_wide, body_is_wide}
use Rattle.object_bytes.proofs.Parts.{parts3, parts4}
use Rattle.assembly_text.specs.declared.line.Record.TheVariants as kind
use Rattle.assembly_text.specs.Options.{given}
use Rattle.assembly_text.specs.Lines.{code_line, row_line, number_line, body_lines}
use Rattle.assembly_text.specs.Front.{line_is_wide as fits_fields}
use Rattle.code_asm.specs.Steps.{State, inner, place_takes_code, takes_code, no_body, body_step, step, record_step}
use Rattle.code_asm.proofs.BodySteps.{BodyParts}
use Rattle.code_asm.proofs.Leads.{Leads, stays, and_on, items}

pub given_if : {A : Type 0} (b : Bool) (x : A) → b ≡ true → given b x ≡ Some x
given_if true x h = refl
given_if false x h = absurd (false≢true h)

unfoldable pub any_order : {A : Type 0} → A → A → Bool
any_order a b = true

any_from : {A : Type 0} (a : A) (xs : List A) → ascends_from any_order a xs ≡ true
unfolding any_order
any_from a [] = refl
any_from a (x ∷ xs) = any_from x xs

pub in_any_order : {A : Type 0} (xs : List A) → ascends any_order xs ≡ true
in_any_order [] = refl
in_any_order (x ∷ xs) = any_from x xs

-- ---- instructions

-- the line of an instruction, where it may stand
pub code_steps : (s : State) (i : Instr) → place_takes_code s.place ≡ true → step s (code_line i) false ≡ inner s.object s.place (kind.Code i)
unfolding record_step
code_steps s (Push a) h = refl
code_steps s Dup h = refl
code_steps s Pop h = refl
code_steps s Swap h = refl
code_steps s (FrameAddr a) h = refl
code_steps s (GlobalAddr a) h = refl
code_steps s (FuncAddr a) h = refl
code_steps s (ClassAddr a) h = refl
code_steps s (Load a) h = refl
code_steps s (Store a) h = refl
code_steps s (TLoad a) h = refl
code_steps s (TStore a) h = refl
code_steps s (VLoad a) h = refl
code_steps s (VStore a) h = refl
code_steps s (Bin a b) h = refl
code_steps s (Neg a) h = refl
code_steps s (Conv a b) h = refl
code_steps s (Jump a) h = refl
code_steps s (JumpZero a) h = refl
code_steps s (Call a b) h = refl
code_steps s (TCall a b) h = refl
code_steps s (CallIndirect a b) h = refl
code_steps s (TCallIndirect a b) h = refl
code_steps s (Slot a b) h = refl
code_steps s (Ret a) h = refl
code_steps s (Begin a) h = refl
code_steps s End h = rw h refl
code_steps s BeginSync h = refl
code_steps s EndSync h = refl
code_steps s Out h = refl
code_steps s Inp h = refl
code_steps s Spawn h = refl
code_steps s Join h = refl
code_steps s Abort h = refl
code_steps s (NewException a) h = refl
code_steps s (PutException a b) h = refl
code_steps s Throw h = refl
code_steps s Rethrow h = refl
code_steps s (GetException a b) h = refl
code_steps s EndHandler h = refl
code_steps s Resume h = refl
code_steps s Over h = refl

code_fields : (i : Instr) → instr_is_wide i ≡ true → fits_fields (code_line i) ≡ true
code_fields (Push a) h = and_from _ _ h refl
code_fields Dup h = and_from _ _ h refl
code_fields Pop h = and_from _ _ h refl
code_fields Swap h = and_from _ _ h refl
code_fields (FrameAddr a) h = and_from _ _ h refl
code_fields (GlobalAddr a) h = and_from _ _ h refl
code_fields (FuncAddr a) h = and_from _ _ h refl
code_fields (ClassAddr a) h = and_from _ _ h refl
code_fields (Load a) h = and_from _ _ h refl
code_fields (Store a) h = and_from _ _ h refl
code_fields (TLoad a) h = and_from _ _ h refl
code_fields (TStore a) h = and_from _ _ h refl
code_fields (VLoad a) h = and_from _ _ h refl
code_fields (VStore a) h = and_from _ _ h refl
code_fields (Bin a b) h = and_from _ _ h refl
code_fields (Neg a) h = and_from _ _ h refl
code_fields (Conv a b) h = and_from _ _ h refl
code_fields (Jump a) h = and_from _ _ h refl
code_fields (JumpZero a) h = and_from _ _ h refl
code_fields (Call a b) h = and_from _ _ h refl
code_fields (TCall a b) h = and_from _ _ h refl
code_fields (CallIndirect a b) h = and_from _ _ h refl
code_fields (TCallIndirect a b) h = and_from _ _ h refl
code_fields (Slot a b) h = and_from _ _ h refl
code_fields (Ret a) h = and_from _ _ h refl
code_fields (Begin a) h = and_from _ _ h refl
code_fields End h = refl
code_fields BeginSync h = and_from _ _ h refl
code_fields EndSync h = and_from _ _ h refl
code_fields Out h = and_from _ _ h refl
code_fields Inp h = and_from _ _ h refl
code_fields Spawn h = and_from _ _ h refl
code_fields Join h = and_from _ _ h refl
code_fields Abort h = and_from _ _ h refl
code_fields (NewException a) h = and_from _ _ h refl
code_fields (PutException a b) h = and_from _ _ h refl
code_fields Throw h = and_from _ _ h refl
code_fields Rethrow h = and_from _ _ h refl
code_fields (GetException a b) h = and_from _ _ h refl
code_fields EndHandler h = and_from _ _ h refl
code_fields Resume h = and_from _ _ h refl
code_fields Over h = and_from _ _ h refl

-- ---- a body

-- a state in which a body is open
pub record Open (version n : ℕ) (at : BodyView → State) : Type 0 where
  pub code : (b d : BodyView) (i : Instr) → takes_code b ≡ true → body_step version n b (kind.Code i) ≡ Some d → step (at b) (code_line i) false ≡ Some (at d)
  pub row : (b d : BodyView) (r : Row) → body_step version n b (kind.Row r) ≡ Some d → step (at b) (row_line r) false ≡ Some (at d)
  pub line : (b d : BodyView) (l : LineRow) → body_step version n b (kind.Line l) ≡ Some d → step (at b) (number_line l) false ≡ Some (at d)

pub body_parts : (version n : ℕ) (b : BodyView) → body_fits version n b ≡ true → body_is_wide b ≡ true → BodyParts version n b
body_parts version n b fits wide =
    let p = parts4 (is_count b.code) (is_count b.rows) (list_all (is_name n) (flat_map named_by b.code ++ flat_map named_by_row b.rows))
    (is_count b.lines && list_all (is_line (length b.code)) b.lines && ascends line_after b.lines
    && (nat_eq version 2 || nat_eq (length b.lines) 0)) fits in
    let q = and_parts (list_all (is_name n) (flat_map named_by b.code)) (list_all (is_name n) (flat_map named_by_row b.rows))
    (sym (list_all-append (is_name n) (flat_map named_by b.code) (flat_map named_by_row b.rows)) ∙ p.2) in
    let r = parts4 (is_count b.lines) (list_all (is_line (length b.code)) b.lines) (ascends line_after b.lines)
    (nat_eq version 2 || nat_eq (length b.lines) 0) p.3 in
    let w = parts3 (list_all instr_is_wide b.code) (list_all row_is_wide b.rows) (list_all line_is_wide b.lines) wide in
    record {
      code_count = p.0;
      code_names = q.0;
      code_wide = w.0;
      row_count = p.1;
      row_names = q.1;
      row_wide = w.1;
      line_count = r.0;
      line_from = r.1;
      line_order = r.2;
      line_version = r.3;
      line_wide = w.2;
    }

each : {A : Type 0} (p : ℕ → Bool) (f : A → List ℕ) (xs : List A) → list_all p (flat_map f xs) ≡ true → list_all (λ x. list_all p (f x)) xs ≡ true
each p f [] h = refl
each p f (x ∷ xs) h =
    let q = and_parts (list_all p (f x)) (list_all p (flat_map f xs)) (sym (list_all-append p (f x) (flat_map f xs)) ∙ h) in
    and_from _ _ q.0 (each p f xs q.1)

with_lines : (code : List Instr) (rows : List Row) (lines : List LineRow) → BodyView
with_lines code rows lines = record { code = code; rows = rows; lines = lines }

code_leads : (version n : ℕ) (at : BodyView → State) (b : BodyView) → Open version n at → BodyParts version n b
    → Leads (at no_body) (map code_line b.code) (at (with_lines b.code [] []))
unfolding any_order with_lines
code_leads version n at b opens p =
    items (λ xs. at (with_lines xs [] [])) code_line (λ i. list_all (is_name n) (named_by i)) instr_is_wide any_order
    (λ xs i room named a. opens.code (with_lines xs [] []) (with_lines (xs ++ i ∷ []) [] []) i refl
    (given_if _ _ (and_from _ _ (and_from _ _ refl room) named)))
    code_fields [] b.code p.code_count (each (is_name n) named_by b.code p.code_names) p.code_wide (in_any_order b.code)

row_leads : (version n : ℕ) (at : BodyView → State) (b : BodyView) → Open version n at → BodyParts version n b
    → Leads (at (with_lines b.code [] [])) (map row_line b.rows) (at (with_lines b.code b.rows []))
unfolding any_order with_lines
row_leads version n at b opens p =
    items (λ xs. at (with_lines b.code xs [])) row_line (λ r. list_all (is_name n) (named_by_row r)) row_is_wide any_order
    (λ xs r room named a. opens.row (with_lines b.code xs []) (with_lines b.code (xs ++ r ∷ []) []) r
    (given_if _ _ (and_from _ _ (and_from _ _ refl room) named)))
    (λ r h. h) [] b.rows p.row_count (each (is_name n) named_by_row b.rows p.row_names) p.row_wide (in_any_order b.rows)

line_leads : (version n : ℕ) (at : BodyView → State) (b : BodyView) → Open version n at → BodyParts version n b
    → Leads (at (with_lines b.code b.rows [])) (map number_line b.lines) (at b)
unfolding with_lines
line_leads version n at b opens p = by_version (nat_eq version 2) p.line_version (λ h. h)
  where
    by_version : (second : Bool) → (second || nat_eq (length b.lines) 0) ≡ true → (second ≡ true → nat_eq version 2 ≡ true)
        → Leads (at (with_lines b.code b.rows [])) (map number_line b.lines) (at b)
    by_version true h v =
        items (λ xs. at (with_lines b.code b.rows xs)) number_line (is_line (length b.code)) line_is_wide line_after
        (λ xs l room from order. opens.line (with_lines b.code b.rows xs) (with_lines b.code b.rows (xs ++ l ∷ [])) l
        (given_if _ _ (and_from _ _ (and_from _ _ (and_from _ _ (v refl) room) from) order)))
        (λ l h. h) [] b.lines p.line_count p.line_from p.line_wide p.line_order
    by_version false h v =
        let none : b.lines ≡ [] = nil_from_length b.lines (eqb-true _ _ h) in
        subst (λ z. Leads (at (with_lines b.code b.rows [])) (map number_line z) (at (with_lines b.code b.rows z))) (sym none) stays

pub body_leads : (version n : ℕ) (at : BodyView → State) (b : BodyView) → Open version n at → body_fits version n b ≡ true → body_is_wide b ≡ true
    → Leads (at no_body) (body_lines b) (at b)
body_leads version n at b opens fits wide =
    let p = body_parts version n b fits wide in
    and_on (code_leads version n at b opens p) (and_on (row_leads version n at b opens p) (line_leads version n at b opens p))
