-- The lines of a class, a global and a function lead to a state where the object can end with that entry.
use Rattle.std.proofs.Common.{◌≡◌, ℕ, zero, suc, Bool, true, false, cond, List, [], ◌∷◌, ◌++◌, length, map, Option, Some, refl, sym, ap, subst, ◌∙◌, ◌&&◌}
use Rattle.std.specs.Prelude.{nat_eq, nat_lt, not}
use Rattle.std.specs.List.{list_all}
use Rattle.std.specs.Option.{option_map}
use Rattle.std.proofs.Math.Dec.{eqb-suc-zero}
use Rattle.std.proofs.lemmas.Bool.{and_parts, and_from, false≢true, eqb-true}
use Rattle.std.proofs.lemmas.List.{nil_from_length}
use Rattle.tx_code.specs.declared.object.ObjMember.{ObjMember}
use Rattle.tx_code.specs.declared.object.ObjCell.{ObjCell}
use Rattle.tx_code.specs.Objects.{ClassView, GlobalView, ObjectView}
use Rattle.tx_code.specs.WellFormed.{is_name, is_name_or_none, is_count, ascends, member_fits, class_fits, cell_fits, cell_after, global_fits, same}
use Rattle.object_bytes.specs.Spelling.{is_u8, is_u32, member_is_wide, class_is_wide, cell_is_wide, global_is_wide}
use Rattle.object_bytes.specs.Fields.{above}
use Rattle.object_bytes.proofs.Parts.{parts3, parts7, parts8}
use Rattle.assembly_text.specs.declared.line.ClassHead.{ClassHead}
use Rattle.assembly_text.specs.declared.line.Record.TheVariants as kind
use Rattle.assembly_text.specs.Options.{and_then}
use Rattle.assembly_text.specs.Lines.{Of, class_lines, global_lines}
use Rattle.code_asm.specs.Steps.{State, InClass, InGlobal, closed, has_room, last_of, begin_class, begin_global, record_step}
use Rattle.code_asm.proofs.Appended.{above_key}
use Rattle.code_asm.proofs.Leads.{Leads, stays, takes, and_on, items, Arrives}
use Rattle.code_asm.proofs.BodyLeads.{given_if, any_order, in_any_order}

-- ---- classes

in_class : ObjectView → ClassView → State
in_class o c = record { object = o; place = InClass c }

with_lists : ClassView → List ObjMember → List ℕ → ClassView
with_lists c members slots = record {
  name = c.name;
  size = c.size;
  align = c.align;
  base = c.base;
  pointer = c.pointer;
  text = c.text;
  members = members;
  slots = slots;
}

class_head : ClassView → ClassHead
class_head c = record { name = c.name; size = c.size; align = c.align; base = c.base; pointer = c.pointer; text = c.text }

member_leads : (o : ObjectView) (c : ClassView) → is_count c.members ≡ true → list_all (member_fits (length o.names)) c.members ≡ true
    → list_all member_is_wide c.members ≡ true → Leads (in_class o (with_lists c [] [])) (map (λ m. Of (kind.Member m)) c.members)
    (in_class o (with_lists c c.members []))
unfolding record_step any_order in_class with_lists
member_leads o c count fits wide =
    items (λ xs. in_class o (with_lists c xs [])) (λ m. Of (kind.Member m)) (member_fits (length o.names)) member_is_wide any_order
    (λ xs m room fit a. ap (option_map (in_class o)) (given_if _ (with_lists c (xs ++ m ∷ []) []) (and_from _ _ (and_from _ _ refl room) fit)))
    (λ m h. h) [] c.members count fits wide (in_any_order c.members)

slot_leads : (o : ObjectView) (c : ClassView) → is_count c.slots ≡ true → list_all (is_name_or_none (length o.names)) c.slots ≡ true
    → list_all is_u32 c.slots ≡ true → Leads (in_class o (with_lists c c.members [])) (map (λ s. Of (kind.Slot s)) c.slots) (in_class o c)
unfolding record_step any_order in_class with_lists
slot_leads o c count fits wide =
    items (λ xs. in_class o (with_lists c c.members xs)) (λ s. Of (kind.Slot s)) (is_name_or_none (length o.names)) is_u32 any_order
    (λ xs s room fit a. ap (option_map (in_class o)) (given_if _ (with_lists c c.members (xs ++ s ∷ [])) (and_from _ _ room fit)))
    (λ s h. h) [] c.slots count fits wide (in_any_order c.slots)

unfoldable pub classes_only : (version : ℕ) → List (List ℕ) → Option (List ℕ) → List ClassView → ObjectView
classes_only version names source classes = record { version = version; names = names; source = source; classes = classes; globals = []; funcs = [] }

pub class_arrives : (version : ℕ) (names : List (List ℕ)) (source : Option (List ℕ)) (s : State) (xs : List ClassView) (c : ClassView)
    → closed s.object s.place ≡ Some (classes_only version names source xs) → has_room xs ≡ true → class_fits (length names) c ≡ true → class_is_wide c ≡ true
    → above (λ (a b : ClassView). nat_lt a.name b.name) (last_of xs) c ≡ true → Arrives s (class_lines c) (classes_only version names source (xs ++ c ∷ []))
unfolding record_step in_class with_lists class_head classes_only
class_arrives version names source s xs c e room fits wide order =
    let n = length names in
    let o = classes_only version names source xs in
    let p = parts7 (is_name n c.name) (is_name_or_none n c.base) (is_name n c.text) (is_count c.members) (list_all (member_fits n) c.members) (is_count c.slots)
    (list_all (is_name_or_none n) c.slots) fits in
    let w = parts3 (is_u32 c.name && is_u32 c.size && is_u32 c.align && is_u32 c.base && is_u32 c.pointer && is_u32 c.text) (list_all member_is_wide c.members)
    (list_all is_u32 c.slots) wide in
    let above_last : above nat_lt (option_map (λ (x : ClassView). x.name) (last_of xs)) c.name ≡ true = above_key (λ (x : ClassView). x.name) (last_of xs) c
    ∙ order in
    let first = ap (λ z. and_then z (begin_class (class_head c))) e
    ∙ given_if _ (in_class o (with_lists c [] []))
    (and_from _ _ (and_from _ _ (and_from _ _ (and_from _ _ (and_from _ _ (and_from _ _ refl refl) room) p.0) above_last) p.1) p.2) in
    record {
      state = in_class o c;
      leads = takes w.0 first (and_on (member_leads o c p.3 p.4 w.1) (slot_leads o c p.5 p.6 w.2));
      closes = refl;
    }

-- ---- globals

in_global : ObjectView → GlobalView → State
in_global o g = record { object = o; place = InGlobal g }

with_cells : GlobalView → List ObjCell → GlobalView
with_cells g cells = record { symbol = g.symbol; ty = g.ty; linkage = g.linkage; defined = g.defined; size = g.size; cells = cells }

not_zero : (n : ℕ) → nat_lt 0 n ≡ true → not (nat_eq n 0) ≡ true
not_zero zero h = absurd (false≢true h)
not_zero (suc n) h = ap not (eqb-suc-zero n)

record Cells (o : ObjectView) (g : GlobalView) : Type 0 where
  size : same (nat_eq g.defined 0) (nat_eq g.size 0) ≡ true
  leads : Leads (in_global o (with_cells g [])) (map (λ c. Of (kind.Cell c)) g.cells) (in_global o g)

cell_leads : (o : ObjectView) (g : GlobalView) (none : Bool) → nat_eq g.defined 0 ≡ none
    → cond none (nat_eq g.size 0 && nat_eq (length g.cells) 0) (nat_lt 0 g.size) ≡ true → is_count g.cells ≡ true
    → list_all (cell_fits (length o.names) g.size) g.cells ≡ true → list_all cell_is_wide g.cells ≡ true → ascends cell_after g.cells ≡ true → Cells o g
unfolding record_step in_global with_cells
cell_leads o g true d h count fits wide order =
    let p = and_parts (nat_eq g.size 0) (nat_eq (length g.cells) 0) h in
    let none : g.cells ≡ [] = nil_from_length g.cells (eqb-true _ _ p.1) in
    record {
      size = ap (λ z. same z (nat_eq g.size 0)) d ∙ p.0;
      leads = subst (λ z. Leads (in_global o (with_cells g [])) (map (λ c. Of (kind.Cell c)) z) (in_global o (with_cells g z))) (sym none) stays;
    }
cell_leads o g false d h count fits wide order = record {
  size = ap (λ z. same z (nat_eq g.size 0)) d ∙ not_zero g.size h;
  leads = items (λ xs. in_global o (with_cells g xs)) (λ c. Of (kind.Cell c)) (cell_fits (length o.names) g.size) cell_is_wide cell_after
      (λ xs c room fit after. ap (option_map (in_global o))
      (given_if _ (with_cells g (xs ++ c ∷ [])) (and_from _ _ (and_from _ _ (and_from _ _ (ap not d) room) fit) after)))
      (λ c h. h) [] g.cells count fits wide order;
}

unfoldable pub globals_only : (version : ℕ) → List (List ℕ) → Option (List ℕ) → List ClassView → List GlobalView → ObjectView
globals_only version names source classes globals = record {
  version = version;
  names = names;
  source = source;
  classes = classes;
  globals = globals;
  funcs =
      [];
}

pub global_arrives : (version : ℕ) (names : List (List ℕ)) (source : Option (List ℕ)) (classes : List ClassView) (s : State) (xs : List GlobalView)
    (g : GlobalView) → closed s.object s.place ≡ Some (globals_only version names source classes xs) → has_room xs ≡ true → global_fits (length names) g ≡ true
    → global_is_wide g ≡ true
    → above (λ (a b : GlobalView). nat_lt a.symbol b.symbol) (last_of xs) g ≡ true
    → Arrives s (global_lines g) (globals_only version names source classes (xs ++ g ∷ []))
unfolding record_step in_global with_cells globals_only
global_arrives version names source classes s xs g e room fits wide order =
    let n = length names in
    let o = globals_only version names source classes xs in
    let p = parts8 (is_name n g.symbol) (is_name n g.ty) (nat_lt g.linkage 2) (nat_lt g.defined 2) (is_count g.cells) (list_all (cell_fits n g.size) g.cells)
    (ascends cell_after g.cells) (cond (nat_eq g.defined 0) (nat_eq g.size 0 && nat_eq (length g.cells) 0) (nat_lt 0 g.size)) fits in
    let w = and_parts (is_u32 g.symbol && is_u32 g.ty && is_u8 g.linkage && is_u8 g.defined && is_u32 g.size) (list_all cell_is_wide g.cells) wide in
    let cells = cell_leads o g (nat_eq g.defined 0) refl p.7 p.4 p.5 w.1 p.6 in
    let above_last : above nat_lt (option_map (λ (x : GlobalView). x.symbol) (last_of xs)) g.symbol ≡ true =
    above_key (λ (x : GlobalView). x.symbol) (last_of xs) g ∙ order in
    let first = ap (λ z. and_then z (begin_global (record { symbol = g.symbol; ty = g.ty; linkage = g.linkage; defined = g.defined; size = g.size }))) e
    ∙ given_if _ (in_global o (with_cells g [])) (and_from _ _
    (and_from _ _ (and_from _ _ (and_from _ _ (and_from _ _ (and_from _ _ (and_from _ _ refl room) p.0) above_last) p.1) p.2) p.3) cells.size) in
    record { state = in_global o g; leads = takes w.0 first cells.leads; closes = refl }
