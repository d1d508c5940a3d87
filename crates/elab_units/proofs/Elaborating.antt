-- Units, one behind the other.
use Rattle.std.proofs.Common.{◌≡◌, ◌∙◌, ◌≤◌, ◌+◌, ◌++◌, ℕ, suc, List, [], ◌∷◌, Some, Result, Ok, Err, length, map, slice_get, ap, sym, subst, arith, refl}
use Rattle.std.proofs.Common.{append_assoc, append-nil}
use Rattle.std.proofs.lemmas.List.{length-append}
use Rattle.cpp_ast.specs.declared.units.Unit.{Unit as UnitRecord}
use Rattle.elab_entry.specs.cpp_lex.Tokens.{Lexeme}
use Rattle.elab_entry.specs.cpp_ast.declared.arena.NodeId.{NodeId}
use Rattle.elab_entry.specs.cpp_ast.Trees.{Tree, Trees}
use Rattle.elab_entry.specs.cpp_types.Class.{Class, classes_of}
use Rattle.elab_entry.specs.cpp_types.declared.classes.ClassRec.{ClassRec}
use Rattle.elab_entry.specs.cpp_tree.declared.faults.ElabFault.{ElabFault}
use Rattle.elab_entry.specs.cpp_tree.declared.program.Program.{Program}
use Rattle.elab_entry.specs.cpp_tree.declared.program.UnitTree.{UnitTree}
use Rattle.elab_entry.specs.cpp_tree.Units.{Unit, TypedProgram, SlotFunc, unit_of}
use Rattle.elab_entry.specs.elab_ctx.Ctx.{Traits}
use Rattle.elab_entry.specs.elab_ctx.Says.{Faults}
use Rattle.elab_entry.specs.elab_ctx.Steps.{and_then}
use Rattle.elab_entry.specs.elab_rules.Functions.{no_storage}
use Rattle.elab_entry.specs.elab_rules.Statements.{State}
use Rattle.elab_entry.specs.elab_rules.Programs.{Source, start_behind, with_unit, unit_shown}
use Rattle.elab_entry.specs.elab_scopes.declared.state.State.{State as StateRec}
use Rattle.elab_entry.specs.elab_scopes.States.{state_of}
use Rattle.elab_entry.specs.elab_types.Syntax.{trees_at}
use Rattle.elab_implicit.specs.Implied.{with_implied}
use Rattle.elab_leaving.proofs.Units.{whole_same}
use Rattle.elab_units.specs.declared.known.Classes.{Classes}
use Rattle.elab_units.specs.declared.programs.Behind.{Behind}
use Rattle.elab_units.specs.declared.shown.Made.{Made}
use Rattle.elab_units.specs.Begun.{program_with, traits_known, begun_behind}
use Rattle.elab_leaving.specs.Declaring.{declarations_of}
use Rattle.elab_units.specs.Made.{state_with}
use Rattle.elab_units.specs.Outcomes.{UnlessMemory}
use Rattle.elab_units.specs.Sources.{IsSource, AreFirst}
use Rattle.elab_leaving.specs.Programs.{unit_from, program_from, no_units, program_of}
use Rattle.elab_units.specs.Programs.{IsProgram, IsFault, Elaborates, IsKept, IsUnit, IsFaulty, Keeps}
use Rattle.elab_decls.proofs.Steps.{faults_then}
use Rattle.elab_units.proofs.Outcomes.{unless_memory, unless_so}
use Rattle.elab_units.proofs.Joins.{map_more}

-- What is kept of a unit

pub kept_unit : (s : List Lexeme) (trees : List Tree) (ids those : List NodeId) (st : StateRec) (m : Made) (cs : List ClassRec) (u : Unit)
    → m ≡ record { types = st.env.types; funcs = st.env.funcs; globals = st.work.globals; bodies = st.bodies } → ids ≡ those → cs ≡ st.env.classes.items
    → u ≡ unit_shown s (trees_at trees ids) (state_with (state_of st) m (classes_of cs)) → u ≡ unit_shown s (trees_at trees those) (state_of st)
kept_unit s trees ids those st m cs u d e f h = h ∙ ap (λ (z : List NodeId). unit_shown s (trees_at trees z) (state_with (state_of st) m (classes_of cs))) e
    ∙ ap (λ (z : List ClassRec). unit_shown s (trees_at trees those) (state_with (state_of st) m (classes_of z))) f
    ∙ ap (λ (z : Made). unit_shown s (trees_at trees those) (state_with (state_of st) z (classes_of st.env.classes.items))) d

-- A unit

pub unit_done : (s : List Lexeme) (before started declared done : State) (decls : Trees) → started ≡ before
    → declarations_of s no_storage started decls ≡ Ok declared → with_implied declared ≡ Ok done → unit_from s before decls ≡ Ok done
unit_done s before started declared done decls e f g = ap (λ (z : State). unit_from s z decls) (sym e)
    ∙ ap (λ (z : Result State ElabFault). and_then z with_implied) f ∙ g

pub unit_undeclared : (s : List Lexeme) (before started : State) (decls : Trees) (e : ElabFault) → started ≡ before
    → Faults e (declarations_of s no_storage started decls) → Faults e (unit_from s before decls)
unit_undeclared s before started decls e g h = subst (λ (z : State). Faults e (unit_from s z decls)) g
    (faults_then e (declarations_of s no_storage started decls) with_implied h)

pub unit_unimplied : (s : List Lexeme) (before started declared : State) (decls : Trees) (e : ElabFault) → started ≡ before
    → declarations_of s no_storage started decls ≡ Ok declared → Faults e (with_implied declared) → Faults e (unit_from s before decls)
unit_unimplied s before started declared decls e g f h =
    subst (λ (z : State). Faults e (unit_from s z decls)) g (subst (λ (z : Result State ElabFault). Faults e (and_then z with_implied)) (sym f) h)

pub keeps_fault : (u : UnitRecord) (i : ℕ) (k : Classes) (r : Result Behind ElabFault) (e : ElabFault) → r ≡ Err e → IsFaulty u i k e → Keeps u i k r
keeps_fault u i k r e h f = subst (λ (z : Result Behind ElabFault). Keeps u i k z) (sym h) (unless_memory e (IsFaulty u i k e) f)

-- Sources of the first units

pub first_within : (us : List UnitRecord) (xs : List Source) → AreFirst us xs → length xs ≤ length us
first_within us [] h = omega arith
first_within [] (x ∷ xs) h = absurd h
first_within (u ∷ us) (x ∷ xs) h = let k = first_within us xs h.1 in omega (arith, k)

first_more : (us : List UnitRecord) (xs : List Source) (u : UnitRecord) (x : Source) → AreFirst us xs → slice_get us (length xs) ≡ Some u → IsSource u x
    → AreFirst us (xs ++ x ∷ [])
first_more [] [] u x h e s = absurd cc
first_more (v ∷ us) [] u x h e s =
    let is : v ≡ u = cc in
    (subst (λ (z : UnitRecord). IsSource z x) (sym is) s, tt)
first_more [] (y ∷ xs) u x h e s = absurd h
first_more (v ∷ us) (y ∷ xs) u x h e s = (h.0, first_more us xs u x h.1 e s)

-- So far these units have made this, and these classes are known

pub record SoFar (us : List UnitRecord) (i : ℕ) (trees : List UnitTree) (k : Classes) : Type 0 where
  pub sources : List Source
  pub count : length sources ≡ i
  pub are : AreFirst us sources
  pub program : (rest : List Source) → program_of (sources ++ rest) ≡ program_from i (program_with (map unit_of trees) k) (traits_known k) rest

pub none_yet : (us : List UnitRecord) (trees : List UnitTree) (k : Classes) → trees ≡ [] → program_with [] k ≡ no_units → traits_known k ≡ []
    → SoFar us 0 trees k
none_yet us trees k e f g =
    let program : program_with (map unit_of trees) k ≡ no_units = ap (λ (z : List UnitTree). program_with (map unit_of z) k) e ∙ f in
    record {
      sources = [];
      count = refl;
      are = tt;
      program = λ rest. sym (ap (λ (z : TypedProgram). program_from 0 z (traits_known k) rest) program ∙ ap
          (λ (z : List Traits). program_from 0 no_units z rest) g);
    }

-- the program with one more unit
program_more : (before : List UnitTree) (all : List UnitTree) (k : Classes) (x : Source) (st : State) (b : Behind) → all ≡ before ++ b.unit ∷ [] → IsKept x st b
    → with_unit (program_with (map unit_of before) k) x st ≡ program_with (map unit_of all) b.known
program_more before all k x st b e h =
    let units : map unit_of all ≡ map unit_of before ++ unit_shown x.tokens x.decls st ∷ [] = ap (map unit_of) e ∙ map_more unit_of before b.unit
    ∙ ap (λ (z : Unit). map unit_of before ++ z ∷ []) h.unit in
    ap (λ (z : List Unit). record { units = z; classes = st.ctx.classes; slots = st.ctx.slots }) (sym units)
    ∙ ap (λ (z : List Class). record { units = map unit_of all; classes = z; slots = st.ctx.slots }) (sym h.classes)
    ∙ ap (λ (z : List (List SlotFunc)). record { units = map unit_of all; classes = classes_of b.known.classes.items; slots = z }) (sym h.slots)

pub one_more : (us : List UnitRecord) (i j n : ℕ) (before all : List UnitTree) (k : Classes) (u : UnitRecord) (b : Behind) → SoFar us i before k
    → slice_get us i ≡ Some u → j ≡ i → n ≡ i + 1 → IsUnit u j k b → all ≡ before ++ b.unit ∷ [] → SoFar us n all b.known
one_more us i j n before all k u b h at e f m w =
    let x = m.source in
    let st = m.state in
    let p = program_with (map unit_of before) k in
    let made : unit_from x.tokens (start_behind i p (traits_known k)) x.decls ≡ Ok st = ap (λ (z : ℕ). unit_from x.tokens (begun_behind z k) x.decls) (sym e)
    ∙ m.made in
    let next : suc i ≡ n = omega (arith, f) in
    let program : with_unit p x st ≡ program_with (map unit_of all) b.known = program_more before all k x st b w m.kept in
    let there : slice_get us (length h.sources) ≡ Some u = ap (slice_get us) h.count ∙ at in
    record {
      sources = h.sources ++ x ∷ [];
      count = length-append h.sources (x ∷ []) ∙ ap (λ (z : ℕ). z + 1) h.count ∙ sym f;
      are = first_more us h.sources u x h.are there m.shows;
      program = λ rest. ap program_of (append_assoc h.sources (x ∷ []) rest) ∙ h.program (x ∷ rest)
          ∙ ap (λ (z : Result State ElabFault). and_then z (λ (y : State). program_from (suc i) (with_unit p x y) y.ctx.traits rest)) made
          ∙ ap (λ (z : ℕ). program_from z (with_unit p x st) st.ctx.traits rest) next
          ∙ ap (λ (z : TypedProgram). program_from n z st.ctx.traits rest) program
          ∙ ap (λ (z : List Traits). program_from n (program_with (map unit_of all) b.known) z rest) (sym m.kept.traits);
    }

pub one_faulty : (us : List UnitRecord) (i j : ℕ) (before : List UnitTree) (k : Classes) (u : UnitRecord) (e : ElabFault) → SoFar us i before k
    → slice_get us i ≡ Some u → j ≡ i → IsFaulty u j k e → IsFault us e
one_faulty us i j before k u e h at same m =
    let x = m.source in
    let p = program_with (map unit_of before) k in
    let start = start_behind i p (traits_known k) in
    let there : slice_get us (length h.sources) ≡ Some u = ap (slice_get us) h.count ∙ at in
    let faulty : Faults e (unit_from x.tokens start x.decls) = subst (λ (z : ℕ). Faults e (unit_from x.tokens (begun_behind z k) x.decls)) same m.is in
    let all = h.sources ++ x ∷ [] in
    let made : Faults e (program_of all) = subst (Faults e) (sym (h.program (x ∷ [])))
    (faults_then e (unit_from x.tokens start x.decls) (λ (y : State). program_from (suc i) (with_unit p x y) y.ctx.traits []) faulty) in
    record { sources = all; are = first_more us h.sources u x h.are there m.shows; is = subst (Faults e) (whole_same all) made }

pub refused_at : (us : List UnitRecord) (i j : ℕ) (before : List UnitTree) (k : Classes) (u : UnitRecord) (r : Result Program ElabFault) (e : ElabFault)
    → r ≡ Err e → SoFar us i before k → slice_get us i ≡ Some u → j ≡ i → UnlessMemory e (IsFaulty u j k e) → Elaborates us r
refused_at us i j before k u r e w h at same m = subst (λ (z : Result Program ElabFault). Elaborates us z) (sym w)
    (unless_so e (IsFaulty u j k e) (IsFault us e) (one_faulty us i j before k u e h at same) m)

pub all_units : (us : List UnitRecord) (i : ℕ) (trees : List UnitTree) (k : Classes) → length us ≤ i → SoFar us i trees k
    → IsProgram us (program_with (map unit_of trees) k)
all_units us i trees k l h =
    let within = first_within us h.sources h.are in
    record {
      sources = h.sources;
      all = (let count = h.count in omega (arith, l, within, count));
      are = h.are;
      is = sym (whole_same h.sources) ∙ ap program_of (sym (append-nil h.sources)) ∙ h.program [];
    }
