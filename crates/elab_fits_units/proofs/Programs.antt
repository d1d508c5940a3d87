-- Each body of each unit of a program fits.
use Rattle.std.proofs.Common.{◌≡◌, refl, sym, ap, ◌∙◌, subst, ℕ, zero, suc, ◌+◌, Bool, true, false, List, [], ◌∷◌, ◌++◌, slice_get, arith}
use Rattle.std.proofs.Common.{Option, Some, None, Ok, eqb-true}
use Rattle.std.specs.Prelude.{find, if◌then◌else◌}
use Rattle.std.proofs.lemmas.Option.{same_Some}
use Rattle.elab_rules.specs.cpp_lex.Tokens.{Lexeme}
use Rattle.elab_rules.specs.cpp_tree.declared.roles.Role.TheVariants.{Statement}
use Rattle.elab_rules.specs.cpp_tree.Trees.{Tree}
use Rattle.elab_rules.specs.cpp_tree.Units.{Func as UnitFunc, Unit as UnitTree, TypedProgram}
use Rattle.elab_rules.specs.cpp_tree.WellFormed.{fits, outermost}
use Rattle.elab_rules.specs.elab_ctx.Ctx.{Func, Traits}
use Rattle.elab_rules.specs.Statements.{State, Body}
use Rattle.elab_rules.specs.Programs.{is_body_of, body_of, tree_in, typed_func, typed_funcs, unit_shown, Source, start_behind, with_unit, program_from, program_of}
use Rattle.elab_rules.specs.Units.{unit_from}
use Rattle.elab_fits.proofs.Steps.{answered}
use Rattle.setting_growth.specs.Growth.{Grows, HeldEarlier}
use Rattle.setting_growth.proofs.Trees.{fits_law}
use Rattle.state_growth.specs.Programs.{unit_setting, ProgramGrows}
use Rattle.state_growth.specs.Settings.{setting_at, shown, shown_setting}
use Rattle.state_growth.proofs.Programs.{programs_law, show_law}
use Rattle.state_growth.proofs.Settings.{states_law, shown_law}
use Rattle.state_growth.proofs.Steps.{seen, kept_refl, state_grows}
use Rattle.elab_fits_states.specs.Made.{MadeFits}
use Rattle.elab_fits_units.specs.Below.{Below}
use Rattle.elab_fits_units.specs.Good.{UnitGood}
use Rattle.elab_fits_units.specs.Laws.{Laws, Lasting}
use Rattle.elab_fits_units.specs.Programs.{AreSources, UnitFits, AllUnitsFit}
use Rattle.elab_fits_units.proofs.Growing.{held_earlier}
use Rattle.elab_fits_units.proofs.Headers.{split}
use Rattle.elab_fits_units.proofs.Units.{unit_keeps}

-- The functions that a unit shows

record ShownAt (st : State) (fs : List Func) (j k : ℕ) (f : UnitFunc) : Type 0 where
  func : Func
  at : slice_get fs k ≡ Some func
  is : typed_func st.ctx.classes func (body_of (j + k) st.bodies) ≡ f

shown_at : (st : State) (fs : List Func) (j k : ℕ) (f : UnitFunc) → slice_get (typed_funcs st j fs) k ≡ Some f → ShownAt st fs j k f
shown_at st [] j k f h = absurd cc
shown_at st (g ∷ fs) j zero f h = let z : j + 0 ≡ j = omega arith in
    record { func = g; at = refl; is = ap (λ (n : ℕ). typed_func st.ctx.classes g (body_of n st.bodies)) z ∙ same_Some _ f h }
shown_at st (g ∷ fs) j (suc k) f h = let r = shown_at st fs (suc j) k f h in let z : j + suc k ≡ suc j + k = omega arith in
    record { func = r.func; at = r.at; is = ap (λ (n : ℕ). typed_func st.ctx.classes r.func (body_of n st.bodies)) z ∙ r.is }

record BodyAt (k : ℕ) (bs : List Body) (b : Body) : Type 0 where
  index : ℕ
  at : slice_get bs index ≡ Some b
  of : b.func ≡ k

body_by : (k : ℕ) (y b : Body) (bs : List Body) (x : Bool) → is_body_of k y ≡ x → (if x then Some y else find (is_body_of k) bs) ≡ Some b
    → (find (is_body_of k) bs ≡ Some b → BodyAt k bs b) → BodyAt k (y ∷ bs) b
body_by k y b bs true e h f = record { index = 0; at = h; of = ap (λ (z : Body). z.func) (sym (same_Some y b h)) ∙ eqb-true y.func k e }
body_by k y b bs false e h f = let r = f h in record { index = suc r.index; at = r.at; of = r.of }

body_at : (k : ℕ) (bs : List Body) (b : Body) → find (is_body_of k) bs ≡ Some b → BodyAt k bs b
body_at k [] b h = absurd cc
body_at k (y ∷ bs) b h = body_by k y b bs (is_body_of k y) refl h (λ q. body_at k bs b q)

-- The body of a function that a unit shows

module _ (st : State) (g : UnitGood st) (p q : TypedProgram) (x : Source) (grown : ProgramGrows (with_unit p x st) q) where
  abbrev unit : UnitTree
  unit = unit_shown x.tokens x.decls st

  held : HeldEarlier st.ctx.classes
  held = held_earlier st.ctx g.unit

  made_shown : (k : ℕ) (f : Func) (b : Body) → slice_get st.ctx.funcs k ≡ Some f → b.func ≡ k → MadeFits st b
      → fits (unit_setting q unit (typed_func st.ctx.classes f (Some b))) outermost Statement b.tree ≡ true
  made_shown k f b e o m = let z : UnitFunc = typed_func st.ctx.classes f (Some b) in
      let framed : State = record st { work = record st.work { frame = b.frame } } in
      let same : m.func ≡ f = same_Some m.func f (sym m.at ∙ (ap (λ (n : ℕ). slice_get st.ctx.funcs n) o ∙ e)) in
      let one : Grows (setting_at (shown st.ctx.classes m.func) st.ctx framed.work) (setting_at z st.ctx framed.work) =
      states_law (shown st.ctx.classes m.func) z framed framed (ap (λ (y : Func). y.kind) (sym same)) (ap (λ (y : Func). y.declared.signature) (sym same))
      (state_grows framed framed (kept_refl (seen framed))) in
      fits_law (shown_setting st z) (unit_setting q unit z) held (show_law p q x st z grown) outermost Statement b.tree
      (fits_law (setting_at z st.ctx framed.work) (shown_setting st z) held (shown_law z st) outermost Statement b.tree
      (fits_law (setting_at (shown st.ctx.classes m.func) st.ctx framed.work) (setting_at z st.ctx framed.work) held one outermost Statement b.tree m.fits))

  body_shown : (k : ℕ) (f : Func) (tree : Tree) (o : Option Body) → slice_get st.ctx.funcs k ≡ Some f → body_of k st.bodies ≡ o → tree_in o ≡ Some tree
      → fits (unit_setting q unit (typed_func st.ctx.classes f o)) outermost Statement tree ≡ true
  body_shown k f tree None e o t = absurd cc
  body_shown k f tree (Some b) e o t = let r = body_at k st.bodies b o in
      subst (λ (y : Tree). fits (unit_setting q unit (typed_func st.ctx.classes f (Some b))) outermost Statement y ≡ true) (same_Some b.tree tree t)
      (made_shown k f b e r.of (g.bodies.each r.index b r.at))

  pub unit_fits : UnitFits q unit
  unit_fits k f tree e t = let r = shown_at st st.ctx.funcs 0 k f e in let z : k ≡ 0 + k = omega arith in
      let is : typed_func st.ctx.classes r.func (body_of k st.bodies) ≡ f = ap (λ (n : ℕ). typed_func st.ctx.classes r.func (body_of n st.bodies)) z ∙ r.is in
      subst (λ (y : UnitFunc). fits (unit_setting q unit y) outermost Statement tree ≡ true) is
      (body_shown k r.func tree (body_of k st.bodies) r.at refl (ap (λ (y : UnitFunc). y.body) is ∙ t))

-- Units in order

all_more : (P : UnitTree → Type 0) (us : List UnitTree) (u : UnitTree) → ((i : ℕ) (y : UnitTree) → slice_get us i ≡ Some y → P y) → P u
    → (i : ℕ) (y : UnitTree) → slice_get (us ++ u ∷ []) i ≡ Some y → P y
all_more P [] u f h zero y e = subst P (same_Some u y e) h
all_more P [] u f h (suc i) y e = absurd cc
all_more P (z ∷ us) u f h zero y e = f 0 y e
all_more P (z ∷ us) u f h (suc i) y e = all_more P us u (λ j w q. f (suc j) w q) h i y e

module _ (below : (s : List Lexeme) → Below s) (laws : (s : List Lexeme) → Laws s)
    (also : List Lexeme → State → Type 0) (left : (s : List Lexeme) → Lasting s (also s))
    (later : (source : ℕ) (p : TypedProgram) (x : Source) (st : State) → UnitGood st → UnitGood (start_behind source (with_unit p x st) st.ctx.traits)) where
  ends : (i : ℕ) (p q : TypedProgram) (traits : List Traits) (xs : List Source) → UnitGood (start_behind i p traits) → AreSources xs
      → ((j : ℕ) (u : UnitTree) → slice_get p.units j ≡ Some u → UnitFits q u) → program_from i p traits xs ≡ Ok q → AllUnitsFit q
  ends i p q traits [] g t h e = answered (λ (y : TypedProgram). (j : ℕ) (u : UnitTree) → slice_get y.units j ≡ Some u → UnitFits q u) (Ok p) q h e
  ends i p q traits (x ∷ xs) g t h e =
      let r = split (unit_from x.tokens (start_behind i p traits) x.decls) (λ (st : State). program_from (suc i) (with_unit p x st) st.ctx.traits xs) q e in
      let st : State = r.answer in
      let both : UnitGood st × also x.tokens st =
      answered (λ (y : State). UnitGood y × also x.tokens y) (unit_from x.tokens (start_behind i p traits) x.decls) st
      (unit_keeps x.tokens (also x.tokens) (below x.tokens) (laws x.tokens) (left x.tokens) (start_behind i p traits) x.decls g
      ((left x.tokens).begins i p traits) (t 0 x refl)) r.is in
      let good : UnitGood st = both.0 in
      let next : UnitGood (start_behind (suc i) (with_unit p x st) st.ctx.traits) = later (suc i) p x st good in
      let grown : ProgramGrows (with_unit p x st) q = answered (ProgramGrows (with_unit p x st)) (program_from (suc i) (with_unit p x st) st.ctx.traits xs) q
      (programs_law (suc i) (with_unit p x st) st.ctx.traits xs next.tidy) r.behind in
      ends (suc i) (with_unit p x st) q st.ctx.traits xs next (λ j y w. t (suc j) y w)
      (all_more (UnitFits q) p.units (unit_shown x.tokens x.decls st) h (unit_fits st good p q x grown)) r.behind

  pub program_fits : UnitGood (start_behind 0 (record { units = []; classes = []; slots = [] }) []) → (xs : List Source) (p : TypedProgram) → AreSources xs
      → program_of xs ≡ Ok p → AllUnitsFit p
  program_fits g xs p t e = ends 0 (record { units = []; classes = []; slots = [] }) p [] xs g t (λ j u q. absurd cc) e
