-- Folding changes nothing of what a program is linked by, nor what its memory begins with; and bound programs do as before.
use Rattle.std.proofs.Common.{◌≡◌, ℕ, suc, ◌+◌, ◌%◌, ◌^◌, Bool, refl, sym, ap, ap₂, subst, ◌∙◌, List, [], ◌∷◌, ◌++◌, map, slice_get, Option, Some, None, cond}
use Rattle.std.specs.Prelude.{option_map, option_and_then, unwrap_or}
use Rattle.std.proofs.Math.Path.{fun_ext}
use Rattle.cpp_tree.specs.cpp_types.Class.{Function}
use Rattle.cpp_tree.specs.cpp_types.Equal.{name_eq}
use Rattle.cpp_tree.specs.cpp_layout.Layout.{function_address, table_address, extent_of}
use Rattle.cpp_tree.specs.tx_events.declared.GlobalCell.{GlobalCell}
use Rattle.cpp_tree.specs.declared.program.CellKind.{CellKind}
use Rattle.cpp_tree.specs.declared.program.CellKind.TheVariants.{Number, GlobalAddr, FuncAddr}
use Rattle.cpp_tree.specs.declared.program.Program.{Program as Units}
use Rattle.cpp_tree.specs.Units.{Func, Global, Cell, SlotFunc, Unit as TypedUnit, TypedProgram, program_of}
use Rattle.cpp_tree.specs.WellFormed.{WellFormed}
use Rattle.src_mean.specs.Linked.{Program}
use Rattle.src_mean.specs.Links.{Def, global_at, kept_globals, global_size, global_offsets, globals_end, globals_size, global_place, func_place, globals_in}
use Rattle.src_mean.specs.Links.{funcs_in, cell_value, cells_at, all_cells, first_cells, number_of_symbol, numbered, class_name, is_or_has_base, linked}
use Rattle.tx_unsafe.specs.Volatile.{has_volatile_part}
use Rattle.tx_safety.specs.Safe.{is_safe}
use Rattle.src_bind.specs.Infos.{says}
use Rattle.src_bind.specs.Tables.{Given, name_in, no_name, slot_in, linked_of, typed}
use Rattle.src_bind.specs.declared.choices.Choices.{Choices}
use Rattle.src_link.specs.Slots.{slot_function, is_that, symbol_among, or_else, first_symbol, slot_symbol, safe_row, safe_rows, AreChoices}
use Rattle.tree_fold.specs.Programs.{folded_func, folded_unit, folded_program}
use Rattle.fold_events.specs.Keeping.{Keeps}
use Rattle.fold_events.proofs.Shown.{program_shown}
use Rattle.fold_events.proofs.Program.{shown_keeps}
use Rattle.fold_events.proofs.Linking.{map_get, funcs_kept, globals_kept, classes_kept, global_at_kept, linked_kept}
use Rattle.fold_events.proofs.Safety.{is_safe_kept}

map_same : {A B : Type 0} (f g : A → B) → ((x : A) → f x ≡ g x) → (xs : List A) → map f xs ≡ map g xs
map_same f g h [] = refl
map_same f g h (x ∷ xs) = ap₂ (λ y ys. y ∷ ys) (h x) (map_same f g h xs)

-- What is chosen

module _ (v : ℕ → Bool) where
  symbol_kept : (class : ℕ) (f : Function) (us : List Func) → symbol_among class f (map (folded_func v) us) ≡ symbol_among class f us
  symbol_kept class f [] = refl
  symbol_kept class f (u ∷ us) = ap (λ (z : Option (List ℕ)). cond (is_that class f u.class u.declared) (Some u.symbol) z) (symbol_kept class f us)

  first_symbol_kept : (class : ℕ) (f : Function) (xs : List TypedUnit) → first_symbol class f (map (folded_unit v) xs) ≡ first_symbol class f xs
  first_symbol_kept class f [] = refl
  first_symbol_kept class f (x ∷ xs) = ap₂ or_else (symbol_kept class f x.funcs) (first_symbol_kept class f xs)

  row_kept : (t q : TypedProgram) → ((u n : ℕ) → is_safe q u n ≡ is_safe t u n) → (u n : ℕ) (fs : List Func)
      → safe_row q u n (map (folded_func v) fs) ≡ safe_row t u n fs
  row_kept t q same u n [] = refl
  row_kept t q same u n (f ∷ fs) = ap₂ (λ (y : Bool) (ys : List Bool). y ∷ ys) (same u n) (row_kept t q same u (suc n) fs)

  rows_kept : (t q : TypedProgram) → ((u n : ℕ) → is_safe q u n ≡ is_safe t u n) → (u : ℕ) (xs : List TypedUnit)
      → safe_rows q u (map (folded_unit v) xs) ≡ safe_rows t u xs
  rows_kept t q same u [] = refl
  rows_kept t q same u (x ∷ xs) = ap₂ (λ (y : List Bool) (ys : List (List Bool)). y ∷ ys) (row_kept t q same u 0 x.funcs) (rows_kept t q same (suc u) xs)

  func_place_kept : (n : ℕ) (symbol : List ℕ) (fs : List Func) → func_place n symbol (map (folded_func v) fs) ≡ func_place n symbol fs
  func_place_kept n symbol [] = refl
  func_place_kept n symbol (f ∷ fs) = ap (λ (z : ℕ). cond (name_eq symbol f.symbol) n z) (func_place_kept (suc n) symbol fs)

  funcs_of : (o : Option TypedUnit) → unwrap_or (option_map (λ (x : TypedUnit). x.funcs) (option_map (folded_unit v) o)) []
      ≡ map (folded_func v) (unwrap_or (option_map (λ (x : TypedUnit). x.funcs) o) [])
  funcs_of None = refl
  funcs_of (Some x) = refl

  globals_of : (o : Option TypedUnit) → unwrap_or (option_map (λ (x : TypedUnit). x.globals) (option_map (folded_unit v) o)) []
      ≡ unwrap_or (option_map (λ (x : TypedUnit). x.globals) o) []
  globals_of None = refl
  globals_of (Some x) = refl

slot_kept : (t : TypedProgram) (s : SlotFunc) → slot_symbol (folded_program t) s ≡ slot_symbol t s
slot_kept t s = ap (λ (find : Function → Option (List ℕ)). option_and_then find (slot_function t s))
    (fun_ext (λ (f : Function). ap (λ (z : Option (List ℕ)). cond f.pure_virtual None z) (first_symbol_kept (has_volatile_part t.classes) s.class f t.units)))

pub choices_kept : (p : Units) (c : Choices) → WellFormed p → AreChoices (program_of p) c → AreChoices (folded_program (program_of p)) c
choices_kept p c well are = record {
  safe = are.safe ∙ sym (rows_kept (has_volatile_part (program_of p).classes) (program_of p) (folded_program (program_of p)) (is_safe_kept p well) 0
      (program_of p).units);
  symbols = are.symbols ∙ sym (map_same (map (slot_symbol (folded_program (program_of p)))) (map (slot_symbol (program_of p)))
      (map_same (slot_symbol (folded_program (program_of p))) (slot_symbol (program_of p)) (slot_kept (program_of p))) (program_of p).slots);
  main = are.main;
}

-- What memory begins with

module _ (t : TypedProgram) (p : Program) where
  abbrev marks : ℕ → Bool
  marks = has_volatile_part t.classes

  abbrev q : Program
  q = program_shown marks p

  globals_in_kept : (u : ℕ) → globals_in (folded_program t) u ≡ globals_in t u
  globals_in_kept u = ap (λ (o : Option TypedUnit). unwrap_or (option_map (λ (x : TypedUnit). x.globals) o) []) (map_get (folded_unit marks) t.units u)
      ∙ globals_of marks (slice_get t.units u)

  funcs_in_kept : (u : ℕ) → funcs_in (folded_program t) u ≡ map (folded_func marks) (funcs_in t u)
  funcs_in_kept u = ap (λ (o : Option TypedUnit). unwrap_or (option_map (λ (x : TypedUnit). x.funcs) o) []) (map_get (folded_unit marks) t.units u)
      ∙ funcs_of marks (slice_get t.units u)

  value_kept : (u : ℕ) (what : CellKind) (value : ℕ) (symbol : List ℕ)
      → cell_value (folded_program t) q u what value symbol ≡ cell_value t p u what value symbol
  value_kept u Number value symbol = refl
  value_kept u GlobalAddr value symbol = ap (λ (gs : List Global). (p.global u (global_place 0 symbol gs) + value) % 2 ^ 64) (globals_in_kept u)
  value_kept u FuncAddr value symbol = ap (λ (n : ℕ). function_address (p.number u n))
      (ap (func_place 0 symbol) (funcs_in_kept u) ∙ func_place_kept marks 0 symbol (funcs_in t u))

  cells_kept : (u offset : ℕ) (cs : List Cell) → cells_at (folded_program t) q u offset cs ≡ cells_at t p u offset cs
  cells_kept u offset [] = refl
  cells_kept u offset (c ∷ cs) =
      ap₂ (λ (value : ℕ) (others : List GlobalCell). record { offset = offset + c.offset; size = c.size; value = value } ∷ others)
      (value_kept u c.what c.value c.symbol) (cells_kept u offset cs)

  all_kept : (ds : List Def) (offsets : List ℕ) → all_cells (folded_program t) q ds offsets ≡ all_cells t p ds offsets
  all_kept [] offsets = refl
  all_kept (d ∷ ds) [] = refl
  all_kept (d ∷ ds) (o ∷ os) =
      ap₂ (λ (xs ys : List GlobalCell). xs ++ ys) (ap
      (λ (g : Option Global). cells_at (folded_program t) q d.unit o (unwrap_or (option_map (λ (g : Global). g.init) g) []))
      (global_at_kept t d.unit d.place)
      ∙ cells_kept d.unit o (unwrap_or (option_map (λ (g : Global). g.init) (global_at t d.unit d.place)) [])) (all_kept ds os)

  sizes_kept : map (global_size (folded_program t)) (kept_globals (folded_program t)) ≡ map (global_size t) (kept_globals t)
  sizes_kept = ap (map (global_size (folded_program t))) (globals_kept t)
      ∙ map_same (global_size (folded_program t)) (global_size t) (λ (d : Def). size_kept d) (kept_globals t)
    where
      size_kept : (d : Def) → global_size (folded_program t) d ≡ global_size t d
      size_kept d = ap (λ (g : Option Global). unwrap_or (option_map (λ (x : Global). (extent_of t.classes x.typ).size) g) 0) (global_at_kept t d.unit d.place)

  pub cells_are_kept : first_cells (folded_program t) q ≡ first_cells t p
  cells_are_kept =
      ap₂ (λ (ds : List Def) (sizes : List ℕ). all_cells (folded_program t) q ds (global_offsets 0 sizes)) (globals_kept t) sizes_kept
      ∙ all_kept (kept_globals t) (global_offsets 0 (map (global_size t) (kept_globals t)))

  pub size_is_kept : globals_size (folded_program t) ≡ globals_size t
  size_is_kept = ap (globals_end 0) sizes_kept

-- Bound programs

module _ (p : Units) (well : WellFormed p) (safe : ℕ → ℕ → Bool) (names : ℕ → ℕ → Option (List ℕ)) (main : List ℕ) where
  -- a bound program is the linked one, with what its slots name
  abbrev bound_by : TypedProgram → Program
  bound_by t = record (linked safe no_name main t) { slot = slot_in names t }

  abbrev slot_by : (kf kc : List Def) → ℕ → ℕ → ℕ → Option ℕ
  slot_by kf kc a c s = option_and_then (λ (found : Def × ℕ). cond (is_or_has_base (program_of p).classes (found.0).place (class_name (program_of p).classes c))
      (option_and_then (λ (name : List ℕ). number_of_symbol name kf) (names (found.0).place s)) None) (numbered 0 table_address a kc)

  slots_kept : slot_in names (folded_program (program_of p)) ≡ slot_in names (program_of p)
  slots_kept = ap₂ slot_by (funcs_kept (program_of p)) (classes_kept (program_of p))

  pub bound_kept : bound_by (folded_program (program_of p)) ≡ program_shown (has_volatile_part (program_of p).classes) (bound_by (program_of p))
  bound_kept = ap₂ (λ (l : Program) (slot : ℕ → ℕ → ℕ → Option ℕ). record l { slot = slot }) (linked_kept p well safe no_name main) slots_kept

bound_is : (g h : Given) → WellFormed g.program → program_of h.program ≡ folded_program (program_of g.program) → h.choices ≡ g.choices
    → linked_of h ≡ program_shown (has_volatile_part (program_of g.program).classes) (linked_of g)
bound_is g h well same choices =
    let b = λ (t : TypedProgram) (c : Choices). record (linked (says c.safe.items) no_name c.main.items t) { slot = slot_in (name_in c.symbols.items) t } in
    ap₂ b same choices ∙ bound_kept g.program well (says g.choices.safe.items) (name_in g.choices.symbols.items) g.choices.main.items

pub bound_keeps : (g h : Given) → WellFormed g.program → program_of h.program ≡ folded_program (program_of g.program) → h.choices ≡ g.choices
    → Keeps (linked_of g) (linked_of h)
bound_keeps g h well same choices =
    subst (λ (z : Program). Keeps (linked_of g) z) (sym (bound_is g h well same choices))
    (shown_keeps (has_volatile_part (program_of g.program).classes) (linked_of g))

pub bound_cells : (g h : Given) → WellFormed g.program → program_of h.program ≡ folded_program (program_of g.program) → h.choices ≡ g.choices
    → first_cells (typed h) (linked_of h) ≡ first_cells (typed g) (linked_of g)
bound_cells g h well same choices = ap₂ first_cells same (bound_is g h well same choices) ∙ cells_are_kept (typed g) (linked_of g)
