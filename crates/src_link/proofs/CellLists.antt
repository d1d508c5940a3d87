-- The cells of globals, one global after the other.
use Rattle.std.proofs.Common.{◌≡◌, ◌≤◌, ◌∙◌, ◌+◌, ◌<◌, ℕ, zero, suc, List, [], ◌∷◌, ◌++◌, length, drop, get_or, refl, sym, ap, Option, Some, None, slice_get}
use Rattle.std.proofs.Common.{option_map, option_and_then, unwrap_or, arith}
use Rattle.std.proofs.lemmas.List.{drop_more, append-nil, append_assoc}
use Rattle.cpp_tree.specs.tx_events.declared.GlobalCell.{GlobalCell}
use Rattle.cpp_tree.specs.Units.{Global, Cell, Func as UnitFunc, Unit as TypedUnit, TypedProgram}
use Rattle.src_mean.specs.Linked.{Program}
use Rattle.src_mean.specs.Links.{Def, globals_in, funcs_in, global_at, cells_at, all_cells}
use Rattle.src_bind.specs.declared.defs.Found.{Found}
use Rattle.src_bind.specs.Defs.{def_of, defs_of}
use Rattle.src_link.specs.Cells.{init_at}

pub unit_globals : (t : TypedProgram) (u : ℕ) (x : TypedUnit) → slice_get t.units u ≡ Some x → globals_in t u ≡ x.globals
unit_globals t u x e = ap (λ (o : Option TypedUnit). unwrap_or (option_map (λ (x : TypedUnit). x.globals) o) []) e

pub unit_funcs : (t : TypedProgram) (u : ℕ) (x : TypedUnit) → slice_get t.units u ≡ Some x → funcs_in t u ≡ x.funcs
unit_funcs t u x e = ap (λ (o : Option TypedUnit). unwrap_or (option_map (λ (x : TypedUnit). x.funcs) o) []) e

pub init_none : (t : TypedProgram) (u n : ℕ) → slice_get t.units u ≡ None → init_at t u n ≡ []
init_none t u n e = ap (λ (o : Option TypedUnit). unwrap_or
    (option_map (λ (g : Global). g.init) (option_and_then (λ (x : TypedUnit). slice_get x.globals n) o)) []) e

pub init_no_global : (t : TypedProgram) (u n : ℕ) (x : TypedUnit) → slice_get t.units u ≡ Some x → slice_get x.globals n ≡ None → init_at t u n ≡ []
init_no_global t u n x e f = ap (λ (o : Option TypedUnit). unwrap_or
    (option_map (λ (g : Global). g.init) (option_and_then (λ (x : TypedUnit). slice_get x.globals n) o)) []) e
    ∙ ap (λ (o : Option Global). unwrap_or (option_map (λ (g : Global). g.init) o) []) f

pub init_found : (t : TypedProgram) (u n : ℕ) (x : TypedUnit) (g : Global) → slice_get t.units u ≡ Some x → slice_get x.globals n ≡ Some g
    → init_at t u n ≡ g.init
init_found t u n x g e f = ap (λ (o : Option TypedUnit). unwrap_or
    (option_map (λ (g : Global). g.init) (option_and_then (λ (x : TypedUnit). slice_get x.globals n) o)) []) e
    ∙ ap (λ (o : Option Global). unwrap_or (option_map (λ (g : Global). g.init) o) []) f

module _ (t : TypedProgram) (p : Program) where
  -- no cells are added
  pub none_added : (u o : ℕ) (init : List Cell) (before : List GlobalCell) → init ≡ [] → before ≡ before ++ cells_at t p u o init
  none_added u o init before e = sym (ap (λ (z : List Cell). before ++ cells_at t p u o z) e ∙ append-nil before)

  pub some_added : (u o : ℕ) (init cells : List Cell) (before after : List GlobalCell) → init ≡ cells → after ≡ before ++ cells_at t p u o cells
      → after ≡ before ++ cells_at t p u o init
  some_added u o init cells before after e f = f ∙ ap (λ (z : List Cell). before ++ cells_at t p u o z) (sym e)

  no_offsets : (ds : List Def) → all_cells t p ds [] ≡ []
  no_offsets [] = refl
  no_offsets (d ∷ ds) = refl

  drop_past : (i : ℕ) (xs : List ℕ) → length xs ≤ i → drop i xs ≡ []
  drop_past zero [] h = refl
  drop_past zero (x ∷ xs) h = absurd (omega (arith, h))
  drop_past (suc i) [] h = refl
  drop_past (suc i) (x ∷ xs) h = drop_past i xs (omega (arith, h))

  -- all offsets were gone through
  pub cells_past : (kept : List Found) (offsets : List ℕ) (i : ℕ) (before total : List GlobalCell) → length offsets ≤ i
      → before ++ all_cells t p (defs_of (drop i kept)) (drop i offsets) ≡ total → before ≡ total
  cells_past kept offsets i before total h e =
      sym (append-nil before) ∙ ap (λ (z : List GlobalCell). before ++ z) (sym (no_offsets (defs_of (drop i kept))))
      ∙ ap (λ (z : List ℕ). before ++ all_cells t p (defs_of (drop i kept)) z) (sym (drop_past i offsets h)) ∙ e

  -- one global more
  pub cells_next : (kept : List Found) (offsets : List ℕ) (i : ℕ) (d f : Found) (o : ℕ) (before after total : List GlobalCell) → i < length kept
      → i < length offsets → f ≡ get_or kept i d → o ≡ get_or offsets i o
      → after ≡ before ++ cells_at t p f.unit o (init_at t f.unit f.place) → before ++ all_cells t p (defs_of (drop i kept)) (drop i offsets) ≡ total
      → after ++ all_cells t p (defs_of (drop (i + 1) kept)) (drop (i + 1) offsets) ≡ total
  cells_next kept offsets i d f o before after total h k e g added inv =
      let ks : drop i kept ≡ f ∷ drop (i + 1) kept = drop_more kept i d h ∙ ap (λ (z : Found). z ∷ drop (i + 1) kept) (sym e) in
      let os : drop i offsets ≡ o ∷ drop (i + 1) offsets = drop_more offsets i o k ∙ ap (λ (z : ℕ). z ∷ drop (i + 1) offsets) (sym g) in
      let rest = all_cells t p (defs_of (drop (i + 1) kept)) (drop (i + 1) offsets) in
      ap (λ (z : List GlobalCell). z ++ rest) added ∙ append_assoc before (cells_at t p f.unit o (init_at t f.unit f.place)) rest
      ∙ sym (ap (λ (z : List ℕ). before ++ all_cells t p (defs_of (f ∷ drop (i + 1) kept)) z) os)
      ∙ sym (ap (λ (z : List Found). before ++ all_cells t p (defs_of z) (drop i offsets)) ks) ∙ inv
