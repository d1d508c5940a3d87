-- What comes of an instruction depends on what a table says of its names alone; and what names stand for.
use Rattle.std.proofs.Common.{ℕ, suc, ◌+◌, ◌≡◌, ◌∙◌, cond, refl, ap, sym, subst, Bool, true, List, [], ◌∷◌, Option, Some, None}
use Rattle.std.specs.Prelude.{slice_get, map, drop, unwrap_or}
use Rattle.std.specs.Option.{option_map, option_map_or}
use Rattle.tx_code.specs.declared.instr.Instr.{Instr}
use Rattle.tx_code.specs.declared.instr.Instr.TheVariants.{Push, Dup, Pop, Swap, FrameAddr, GlobalAddr, FuncAddr, ClassAddr, Load, Store, TLoad, TStore, VLoad, VStore, Bin, Neg, Conv, Jump, JumpZero, Slot, Begin, End, BeginSync, EndSync, Out, Inp, Spawn, Join, Abort, NewException, PutException, Throw, Rethrow, GetException, EndHandler, Resume, Over, Call, TCall, CallIndirect, TCallIndirect, Ret}
use Rattle.cpp_types.specs.declared.types.Ty.{Ty}
use Rattle.cpp_tree.specs.cpp_types.Typ.{Typ, typ_of}
use Rattle.cpp_tree.specs.declared.program.Program.{Program}
use Rattle.cpp_tree.specs.declared.program.UnitTree.{UnitTree}
use Rattle.cpp_tree.specs.Units.{Unit as TypedUnit, unit_of, func_of, global_of, definition_of, program_of}
use Rattle.cpp_tree.specs.Arena.{trees_of}
use Rattle.src_mean.specs.Links.{globals_in, funcs_in}
use Rattle.symbolic_source.specs.Outcomes.{Outcome}
use Rattle.symbolic_code.specs.Facts.{Fact}
use Rattle.symbolic_code.specs.Following.{Table, followed, if_found, pushes, quietly, one_of, slots_follow}
use Rattle.symbolic_code.specs.Places.{Place, holding, making}
use Rattle.symbolic_source.specs.Terms.{global, function, table, untouched}
use Rattle.symbolic_terms.specs.Words.{type_in, type_or_void}
use Rattle.image_links.specs.Books.{first_place, first_class, first_typ, classes_in}
use Rattle.note_landing.proofs.Shows.{shown_at, none_shown}
use Rattle.body_notes.specs.Named.{AgreeAt}

module _ (t u : Table) (known : List Fact) (i : ℕ) (q : Place) (o : Outcome) where
  pub followed_so : (a : Instr) → AgreeAt t u a → followed t known i a q o ≡ followed u known i a q o
  followed_so (GlobalAddr s) e = ap (λ z. if_found z (λ n. pushes i q o (global n) q.operands)) e
  followed_so (FuncAddr s) e = ap (λ z. if_found z (λ n. pushes i q o (function n) q.operands)) e
  followed_so (ClassAddr s) e = ap (λ z. if_found z (λ n. pushes i q o (table n) q.operands)) e
  followed_so (NewException s) e = ap (λ z. if_found z (λ typ. quietly (i + 1) (holding q (making typ untouched)) o)) e
  followed_so (Slot s slot) e = ap (λ z. if_found z (λ class. one_of q.operands (λ a ws. slots_follow i class slot q a ws o))) e
  followed_so (Push m) e = refl
  followed_so Dup e = refl
  followed_so Pop e = refl
  followed_so Swap e = refl
  followed_so (FrameAddr m) e = refl
  followed_so (Load m) e = refl
  followed_so (Store m) e = refl
  followed_so (TLoad m) e = refl
  followed_so (TStore m) e = refl
  followed_so (VLoad m) e = refl
  followed_so (VStore m) e = refl
  followed_so (Bin m n) e = refl
  followed_so (Neg m) e = refl
  followed_so (Conv m n) e = refl
  followed_so (Jump m) e = refl
  followed_so (JumpZero m) e = refl
  followed_so (Begin m) e = refl
  followed_so End e = refl
  followed_so BeginSync e = refl
  followed_so EndSync e = refl
  followed_so Out e = refl
  followed_so Inp e = refl
  followed_so Spawn e = refl
  followed_so Join e = refl
  followed_so Abort e = refl
  followed_so (PutException m n) e = refl
  followed_so Throw e = refl
  followed_so Rethrow e = refl
  followed_so (GetException m n) e = refl
  followed_so EndHandler e = refl
  followed_so Resume e = refl
  followed_so Over e = refl
  followed_so (Call m n) e = refl
  followed_so (TCall m n) e = refl
  followed_so (CallIndirect m n) e = refl
  followed_so (TCallIndirect m n) e = refl
  followed_so (Ret m) e = refl

-- places are counted, whatever stands there
pub place_shown : {A B : Type 0} (f : A → B) (test : ℕ → Bool) (n : ℕ) (xs : List A) → first_place test n (map f xs) ≡ first_place test n xs
place_shown f test n [] = refl
place_shown f test n (x ∷ xs) = ap (λ z. cond (test n) (Some n) z) (place_shown f test (suc n) xs)

-- a unit that is there
module _ (p : Program) (n : ℕ) (x : UnitTree) (e : slice_get p.units.items n ≡ Some x) where
  there : slice_get (program_of p).units n ≡ Some (unit_of x)
  there = shown_at unit_of p.units.items n x e

  pub globals_there : globals_in (program_of p) n ≡ (unit_of x).globals
  globals_there = ap (λ (z : Option TypedUnit). unwrap_or (option_map (λ (y : TypedUnit). y.globals) z) []) there

  pub funcs_there : funcs_in (program_of p) n ≡ (unit_of x).funcs
  funcs_there = ap (λ (z : Option TypedUnit). unwrap_or (option_map (λ (y : TypedUnit). y.funcs) z) []) there

  pub classes_there : classes_in (program_of p) n ≡ (unit_of x).classes
  classes_there = ap (λ (z : Option TypedUnit). option_map_or (λ (y : TypedUnit). y.classes) z []) there

-- none that is there
module _ (p : Program) (n : ℕ) (e : slice_get p.units.items n ≡ None) where
  none : slice_get (program_of p).units n ≡ None
  none = none_shown unit_of p.units.items n e

  pub no_globals : globals_in (program_of p) n ≡ []
  no_globals = ap (λ (z : Option TypedUnit). unwrap_or (option_map (λ (y : TypedUnit). y.globals) z) []) none

  pub no_funcs : funcs_in (program_of p) n ≡ []
  no_funcs = ap (λ (z : Option TypedUnit). unwrap_or (option_map (λ (y : TypedUnit). y.funcs) z) []) none

  pub no_classes : classes_in (program_of p) n ≡ []
  no_classes = ap (λ (z : Option TypedUnit). option_map_or (λ (y : TypedUnit). y.classes) z []) none

-- what is found in a unit
module _ (p : Program) (u v : ℕ) (i : u ≡ v) where
  pub global_found : (x : UnitTree) (test : ℕ → ℕ → Bool) (o : Option ℕ) → slice_get p.units.items u ≡ Some x → o ≡ first_place (test u) 0 x.globals.items → o ≡ first_place (test v) 0 (globals_in (program_of p) v)
  global_found x test o e h =
      let r : o ≡ first_place (test u) 0 (globals_in (program_of p) u) = h ∙ sym (place_shown global_of (test u) 0 x.globals.items) ∙ ap (λ z. first_place (test u) 0 z) (sym (globals_there p u x e)) in
      subst (λ z. o ≡ first_place (test z) 0 (globals_in (program_of p) z)) i r

  pub function_found : (x : UnitTree) (test : ℕ → ℕ → Bool) (o : Option ℕ) → slice_get p.units.items u ≡ Some x → o ≡ first_place (test u) 0 x.funcs.items → o ≡ first_place (test v) 0 (funcs_in (program_of p) v)
  function_found x test o e h =
      let r : o ≡ first_place (test u) 0 (funcs_in (program_of p) u) = h ∙ sym (place_shown (func_of (trees_of x.nodes.items)) (test u) 0 x.funcs.items) ∙ ap (λ z. first_place (test u) 0 z) (sym (funcs_there p u x e)) in
      subst (λ z. o ≡ first_place (test z) 0 (funcs_in (program_of p) z)) i r

  pub class_found : (x : UnitTree) (test : ℕ → Bool) (o : Option ℕ) → slice_get p.units.items u ≡ Some x → o ≡ first_class test (map definition_of x.classes.items) → o ≡ first_class test (classes_in (program_of p) v)
  class_found x test o e h =
      let r : o ≡ first_class test (classes_in (program_of p) u) = h ∙ ap (λ z. first_class test z) (sym (classes_there p u x e)) in
      subst (λ z. o ≡ first_class test (classes_in (program_of p) z)) i r

  pub global_nowhere : (test : ℕ → ℕ → Bool) → slice_get p.units.items u ≡ None → None ≡ first_place (test v) 0 (globals_in (program_of p) v)
  global_nowhere test e =
      let r : None ≡ first_place (test u) 0 (globals_in (program_of p) u) = ap (λ z. first_place (test u) 0 z) (sym (no_globals p u e)) in
      subst (λ z. None ≡ first_place (test z) 0 (globals_in (program_of p) z)) i r

  pub function_nowhere : (test : ℕ → ℕ → Bool) → slice_get p.units.items u ≡ None → None ≡ first_place (test v) 0 (funcs_in (program_of p) v)
  function_nowhere test e =
      let r : None ≡ first_place (test u) 0 (funcs_in (program_of p) u) = ap (λ z. first_place (test u) 0 z) (sym (no_funcs p u e)) in
      subst (λ z. None ≡ first_place (test z) 0 (funcs_in (program_of p) z)) i r

  pub class_nowhere : (test : ℕ → Bool) → slice_get p.units.items u ≡ None → None ≡ first_class test (classes_in (program_of p) v)
  class_nowhere test e =
      let r : None ≡ first_class test (classes_in (program_of p) u) = ap (λ z. first_class test z) (sym (no_classes p u e)) in
      subst (λ z. None ≡ first_class test (classes_in (program_of p) z)) i r

-- a type among those of the source
module _ (types : List Ty) (n : ℕ) (ty : Ty) (ys : List Ty) (test : Typ → Bool) (o : Option Typ) where
  pub type_here : (m : ℕ) → m ≡ n → slice_get types n ≡ Some ty → drop n types ≡ ty ∷ ys → test (typ_of ty) ≡ true → first_typ test (map typ_of (drop n types)) ≡ o → Some (type_in types m) ≡ o
  type_here m i there d told e =
      ap (λ z. Some (type_in types z)) i ∙ ap (λ z. Some (type_or_void z)) there ∙ sym (ap (λ z. cond z (Some (typ_of ty)) (first_typ test (map typ_of ys))) told) ∙ sym (ap (λ z. first_typ test (map typ_of z)) d) ∙ e
