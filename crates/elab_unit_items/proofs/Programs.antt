-- Each function of each unit of a program has whole items, whatever the words are by which its units are walked.
use Rattle.std.proofs.Common.{◌≡◌, refl, ℕ, suc, List, [], ◌∷◌, slice_get, Some, Ok}
use Rattle.elab_rules.specs.cpp_lex.Tokens.{Lexeme}
use Rattle.elab_rules.specs.cpp_tree.Units.{Unit as UnitTree, TypedProgram}
use Rattle.elab_rules.specs.elab_ctx.Ctx.{Traits}
use Rattle.elab_rules.specs.Programs.{Source, start_behind, with_unit, unit_shown, program_from, program_of}
use Rattle.elab_rules.specs.Statements.{State}
use Rattle.elab_rules.specs.Units.{unit_from}
use Rattle.elab_places.proofs.Steps.{held_by}
use Rattle.elab_contexts.proofs.Lists.{one_more}
use Rattle.state_growth.specs.Programs.{ProgramGrows}
use Rattle.state_growth.proofs.Programs.{programs_law}
use Rattle.elab_fits_units.specs.Below.{Below}
use Rattle.elab_fits_units.specs.Laws.{Laws}
use Rattle.elab_fits_units.specs.Steps.{Words, Steps}
use Rattle.elab_fits_units.proofs.Headers.{split}
use Rattle.elab_fits_units.proofs.Walk.{unit_good}
use Rattle.elab_frame_items.proofs.Growing.{shown_law}
use Rattle.elab_unit_items.specs.Units.{IsWholeUnit, with_whole, GivesUnit, UnitItems, AllUnitsItems}
use Rattle.elab_unit_items.proofs.Steps.{whole_steps}

-- what a unit shows, in a program that stands behind it
unit_items : (st : State) (p q : TypedProgram) (x : Source) → IsWholeUnit st → ProgramGrows (with_unit p x st) q → UnitItems q (unit_shown x.tokens x.decls st)
unit_items st p q x g grown = shown_law x.tokens x.decls st q.classes grown.classes g.bodies

-- where a unit begins, nothing is made
begun : (i : ℕ) (p : TypedProgram) (traits : List Traits) → IsWholeUnit (start_behind i p traits)
begun i p traits = record { defaults = tt; bodies = record { each = λ j b e. absurd cc } }

module _ (below : (s : List Lexeme) → Below s) (laws : (s : List Lexeme) → Laws s) (w : List Lexeme → Words) (steps : (s : List Lexeme) → Steps (w s) s)
    (gives : (s : List Lexeme) → GivesUnit (w s) s)
    (later : (i : ℕ) (p : TypedProgram) (x : Source) (st : State) → (w x.tokens).Good st → (s : List Lexeme) → (w s).Good (start_behind i (with_unit p x st) st.ctx.traits)) where
  ends : (i : ℕ) (p q : TypedProgram) (traits : List Traits) (xs : List Source) → ((s : List Lexeme) → (w s).Good (start_behind i p traits))
      → ((j : ℕ) (x : Source) → slice_get xs j ≡ Some x → (w x.tokens).Texts x.decls)
      → ((j : ℕ) (u : UnitTree) → slice_get p.units j ≡ Some u → UnitItems q u) → program_from i p traits xs ≡ Ok q → AllUnitsItems q
  ends i p q traits [] g t h e = held_by (λ (y : TypedProgram). (j : ℕ) (u : UnitTree) → slice_get y.units j ≡ Some u → UnitItems q u) (Ok p) q h e
  ends i p q traits (x ∷ xs) g t h e =
      let words : Words = w x.tokens in
      let r = split (unit_from x.tokens (start_behind i p traits) x.decls) (λ (st : State). program_from (suc i) (with_unit p x st) st.ctx.traits xs) q e in
      let st : State = r.answer in
      let good = held_by (with_whole words).Good (unit_from x.tokens (start_behind i p traits) x.decls) st
      (unit_good (with_whole words) x.tokens (whole_steps x.tokens (below x.tokens) (laws x.tokens) words (steps x.tokens) (gives x.tokens))
      (start_behind i p traits) x.decls (g x.tokens, begun i p traits) (t 0 x refl)) r.is in
      let next = later (suc i) p x st good.0 in
      let grown : ProgramGrows (with_unit p x st) q = held_by (ProgramGrows (with_unit p x st)) (program_from (suc i) (with_unit p x st) st.ctx.traits xs) q
      (programs_law (suc i) (with_unit p x st) st.ctx.traits xs
      ((gives x.tokens).good (start_behind (suc i) (with_unit p x st) st.ctx.traits) (next x.tokens)).tidy) r.behind in
      ends (suc i) (with_unit p x st) q st.ctx.traits xs next (λ j y k. t (suc j) y k)
      (one_more (UnitItems q) p.units (unit_shown x.tokens x.decls st) h (unit_items st p q x good.1 grown)) r.behind

  -- from where the first unit begins
  pub programs_have_items : ((s : List Lexeme) → (w s).Good (start_behind 0 (record { units = []; classes = []; slots = [] }) [])) → (xs : List Source)
      (p : TypedProgram) → ((j : ℕ) (x : Source) → slice_get xs j ≡ Some x → (w x.tokens).Texts x.decls) → program_of xs ≡ Ok p → AllUnitsItems p
  programs_have_items g xs p t e = ends 0 (record { units = []; classes = []; slots = [] }) p [] xs g t (λ j u q. absurd cc) e
