-- Linking a folded program gives the linked program with folded bodies.
use Rattle.std.proofs.Common.{◌≡◌, ℕ, zero, suc, ◌+◌, Bool, false, refl, sym, ap, ap₂, subst, ◌∙◌, List, [], ◌∷◌, ◌++◌, map, slice_get, Option, Some, None}
use Rattle.std.proofs.Common.{cond}
use Rattle.std.specs.Prelude.{is_some, option_map, option_and_then, unwrap_or}
use Rattle.std.proofs.Math.Path.{fun_ext}
use Rattle.cpp_tree.specs.cpp_types.Typ.{Signature}
use Rattle.cpp_tree.specs.cpp_types.Class.{Class}
use Rattle.cpp_tree.specs.cpp_layout.Layout.{function_address, table_address, extent_of}
use Rattle.cpp_tree.specs.declared.program.Program.{Program as Units}
use Rattle.cpp_tree.specs.declared.program.TFunc.{TFunc}
use Rattle.cpp_tree.specs.declared.program.UnitTree.{UnitTree}
use Rattle.cpp_tree.specs.declared.arena.TNodeId.{TNodeId}
use Rattle.cpp_tree.specs.declared.roles.Role.TheVariants.{Statement}
use Rattle.cpp_tree.specs.Trees.{Tree, literal}
use Rattle.cpp_tree.specs.Arena.{tree_at, trees_of}
use Rattle.cpp_tree.specs.Units.{Func as UnitFunc, Global, SlotFunc, Unit as TypedUnit, TypedProgram, func_of, unit_of, program_of}
use Rattle.cpp_tree.specs.WellFormed.{WellFormed, setting_of, outermost}
use Rattle.src_mean.specs.Linked.{Func, Program}
use Rattle.src_mean.specs.Links.{Def, is_internal, funcs_defined, globals_defined, classes_defined, strings_last, sorted, all_funcs, all_globals, all_classes}
use Rattle.src_mean.specs.Links.{kept_of, number_in, def_of_func, def_of_global, func_at, global_at, kept_funcs, kept_globals, kept_classes, global_offsets}
use Rattle.src_mean.specs.Links.{linked_func, has_type, numbered, number_if, number_of_symbol, class_name, is_or_has_base, linked}
use Rattle.tx_unsafe.specs.Volatile.{has_volatile_part}
use Rattle.tree_fold.specs.Folding.{folded}
use Rattle.tree_fold.specs.Programs.{folded_func, folded_unit, folded_program}
use Rattle.fold_events.proofs.Steady.{steady}
use Rattle.fold_events.proofs.Shown.{func_shown, program_shown}
use Rattle.fold_events.proofs.Fitting.{same_tree}

-- Lists

pub map_get : {A B : Type 0} (g : A → B) (xs : List A) (i : ℕ) → slice_get (map g xs) i ≡ option_map g (slice_get xs i)
map_get g [] i = refl
map_get g (x ∷ xs) zero = refl
map_get g (x ∷ xs) (suc i) = map_get g xs i

pub found_in : {A B : Type 0} (g : A → B) (o : Option A) (y : B) → option_map g o ≡ Some y → (x : A) × (o ≡ Some x) × (g x ≡ y)
found_in g None y e = absurd cc
found_in g (Some x) y e = (x, refl, cc)

and_then_found : {A B : Type 0} (g : A → Option B) (o : Option A) (y : B) → option_and_then g o ≡ Some y → (x : A) × (o ≡ Some x) × (g x ≡ Some y)
and_then_found g None y e = absurd cc
and_then_found g (Some x) y e = (x, refl, e)

-- Definitions

module _ (v : ℕ → Bool) where
  pub some_kept : (o : Option Tree) → is_some (option_map (folded v) o) ≡ is_some o
  some_kept None = refl
  some_kept (Some t) = refl

  defined_kept : (u n : ℕ) (fs : List UnitFunc) → funcs_defined u n (map (folded_func v) fs) ≡ funcs_defined u n fs
  defined_kept u n [] = refl
  defined_kept u n (f ∷ fs) =
      ap₂ (λ (b : Bool) (z : List Def). cond b (record { unit = u; place = n; symbol = f.symbol; internal = is_internal f.linkage } ∷ z) z) (some_kept f.body)
      (defined_kept u (suc n) fs)

  all_funcs_kept : (u : ℕ) (xs : List TypedUnit) → all_funcs u (map (folded_unit v) xs) ≡ all_funcs u xs
  all_funcs_kept u [] = refl
  all_funcs_kept u (x ∷ xs) = ap₂ (λ (a b : List Def). sorted a ++ b) (defined_kept u 0 x.funcs) (all_funcs_kept (suc u) xs)

  all_globals_kept : (u : ℕ) (xs : List TypedUnit) → all_globals u (map (folded_unit v) xs) ≡ all_globals u xs
  all_globals_kept u [] = refl
  all_globals_kept u (x ∷ xs) = ap (λ (b : List Def). strings_last (sorted (globals_defined u 0 x.globals)) ++ b) (all_globals_kept (suc u) xs)

  all_classes_kept : (classes : List Class) (u : ℕ) (xs : List TypedUnit) → all_classes classes u (map (folded_unit v) xs) ≡ all_classes classes u xs
  all_classes_kept classes u [] = refl
  all_classes_kept classes u (x ∷ xs) = ap (λ (b : List Def). sorted (classes_defined classes u 0 x.classes) ++ b) (all_classes_kept classes (suc u) xs)

  -- what stands in a unit

  func_in : (n : ℕ) (o : Option TypedUnit) → option_and_then (λ (x : TypedUnit). slice_get x.funcs n) (option_map (folded_unit v) o)
      ≡ option_map (folded_func v) (option_and_then (λ (x : TypedUnit). slice_get x.funcs n) o)
  func_in n None = refl
  func_in n (Some x) = map_get (folded_func v) x.funcs n

  global_in : (n : ℕ) (o : Option TypedUnit) → option_and_then (λ (x : TypedUnit). slice_get x.globals n) (option_map (folded_unit v) o)
      ≡ option_and_then (λ (x : TypedUnit). slice_get x.globals n) o
  global_in n None = refl
  global_in n (Some x) = refl

module _ (t : TypedProgram) where
  abbrev marks : ℕ → Bool
  marks = has_volatile_part t.classes

  pub funcs_kept : kept_funcs (folded_program t) ≡ kept_funcs t
  funcs_kept = ap (kept_of []) (all_funcs_kept marks 0 t.units)

  pub globals_kept : kept_globals (folded_program t) ≡ kept_globals t
  globals_kept = ap (kept_of []) (all_globals_kept marks 0 t.units)

  pub classes_kept : kept_classes (folded_program t) ≡ kept_classes t
  classes_kept = ap (kept_of []) (all_classes_kept marks t.classes 0 t.units)

  pub func_at_kept : (u n : ℕ) → func_at (folded_program t) u n ≡ option_map (folded_func marks) (func_at t u n)
  func_at_kept u n = ap (option_and_then (λ (x : TypedUnit). slice_get x.funcs n)) (map_get (folded_unit marks) t.units u)
      ∙ func_in marks n (slice_get t.units u)

  pub global_at_kept : (u n : ℕ) → global_at (folded_program t) u n ≡ global_at t u n
  global_at_kept u n = ap (option_and_then (λ (x : TypedUnit). slice_get x.globals n)) (map_get (folded_unit marks) t.units u)
      ∙ global_in marks n (slice_get t.units u)

-- Linking by what stands where

module _ (safe : ℕ → ℕ → Bool) (symbol : SlotFunc → Option (List ℕ)) (main : List ℕ) (classes : List Class) (slots : List (List SlotFunc)) where
  abbrev size_by : (ℕ → ℕ → Option Global) → Def → ℕ
  size_by ga d = unwrap_or (option_map (λ (g : Global). (extent_of classes g.typ).size) (ga d.unit d.place)) 0

  abbrev linked_by : (kf kg kc : List Def) (fa : ℕ → ℕ → Option UnitFunc) (ga : ℕ → ℕ → Option Global) → Program
  linked_by kf kg kc fa ga = record {
    number = λ u n. unwrap_or (option_map (λ (f : UnitFunc). number_in (def_of_func u n f) kf) (fa u n)) 0;
    func = λ n. option_and_then (λ (d : Def). option_map (linked_func safe classes d) (fa d.unit d.place)) (slice_get kf n);
    global = λ u n. 65536 + unwrap_or (option_and_then (λ (g : Global). slice_get (global_offsets 0 (map (size_by ga) kg)) (number_in (def_of_global u n g) kg))
        (ga u n)) 0;
    table = λ c. table_address (number_in (record { unit = 0; place = 0; symbol = class_name classes c; internal = false }) kc);
    slot = λ a c s. option_and_then (λ (found : Def × ℕ). cond (is_or_has_base classes (found.0).place (class_name classes c))
        (option_and_then (λ (f : SlotFunc). option_and_then (λ (name : List ℕ). number_of_symbol name kf) (symbol f))
        (option_and_then (λ (fs : List SlotFunc). slice_get fs s) (slice_get slots (found.0).place)))
        None) (numbered 0 table_address a kc);
    pointed = λ a sig. option_and_then (λ (found : Def × ℕ). option_and_then (λ (f : UnitFunc). number_if (has_type classes sig f) found.1)
        (fa (found.0).unit (found.0).place)) (numbered 0 function_address a kf);
    classes = classes;
    main = number_in (record { unit = 0; place = 0; symbol = main; internal = false }) kf;
  }

  module _ (v : ℕ → Bool) (kf kg kc : List Def) (fa : ℕ → ℕ → Option UnitFunc) (ga : ℕ → ℕ → Option Global)
      (same : (u n : ℕ) (f : UnitFunc) → fa u n ≡ Some f → steady v (unwrap_or f.body (literal 0)) ≡ folded v (unwrap_or f.body (literal 0))) where
    number_of : (u n : ℕ) (o : Option UnitFunc) → unwrap_or (option_map (λ (f : UnitFunc). number_in (def_of_func u n f) kf) (option_map (folded_func v) o)) 0
        ≡ unwrap_or (option_map (λ (f : UnitFunc). number_in (def_of_func u n f) kf) o) 0
    number_of u n None = refl
    number_of u n (Some f) = refl

    body_of : (o : Option Tree) → steady v (unwrap_or o (literal 0)) ≡ folded v (unwrap_or o (literal 0))
        → unwrap_or (option_map (folded v) o) (literal 0) ≡ steady v (unwrap_or o (literal 0))
    body_of None e = refl
    body_of (Some b) e = sym e

    func_for : (d : Def) (o : Option UnitFunc) → ((f : UnitFunc) → o ≡ Some f → steady v (unwrap_or f.body (literal 0)) ≡ folded v
        (unwrap_or f.body (literal 0)))
        → option_map (linked_func safe classes d) (option_map (folded_func v) o) ≡ option_map (func_shown v) (option_map (linked_func safe classes d) o)
    func_for d None h = refl
    func_for d (Some f) h = ap (λ (z : Tree). Some (record (linked_func safe classes d f) { body = z })) (body_of f.body (h f refl))

    func_with : (o : Option Def) → option_and_then (λ (d : Def). option_map (linked_func safe classes d) (option_map (folded_func v) (fa d.unit d.place))) o
        ≡ option_map (func_shown v) (option_and_then (λ (d : Def). option_map (linked_func safe classes d) (fa d.unit d.place)) o)
    func_with None = refl
    func_with (Some d) = func_for d (fa d.unit d.place) (same d.unit d.place)

    pointed_by : (sig : Signature) (n : ℕ) (o : Option UnitFunc)
        → option_and_then (λ (f : UnitFunc). number_if (has_type classes sig f) n) (option_map (folded_func v) o)
        ≡ option_and_then (λ (f : UnitFunc). number_if (has_type classes sig f) n) o
    pointed_by sig n None = refl
    pointed_by sig n (Some f) = refl

    pointed_with : (sig : Signature) (o : Option (Def × ℕ))
        → option_and_then (λ (found : Def × ℕ). option_and_then (λ (f : UnitFunc). number_if (has_type classes sig f) found.1)
        (option_map (folded_func v) (fa (found.0).unit (found.0).place))) o
        ≡ option_and_then (λ (found : Def × ℕ). option_and_then (λ (f : UnitFunc). number_if (has_type classes sig f) found.1)
        (fa (found.0).unit (found.0).place)) o
    pointed_with sig None = refl
    pointed_with sig (Some found) = pointed_by sig found.1 (fa (found.0).unit (found.0).place)

    shown_by : linked_by kf kg kc (λ u n. option_map (folded_func v) (fa u n)) ga ≡ program_shown v (linked_by kf kg kc fa ga)
    shown_by = ap₃ (λ (number : ℕ → ℕ → ℕ) (func : ℕ → Option Func) (pointed : ℕ → Signature → Option ℕ).
        record (linked_by kf kg kc fa ga) { number = number; func = func; pointed = pointed })
        (fun_ext (λ u. fun_ext (λ n. number_of u n (fa u n))))
        (fun_ext (λ n. func_with (slice_get kf n)))
        (fun_ext (λ a. fun_ext (λ sig. pointed_with sig (numbered 0 function_address a kf))))
      where
        ap₃ : {A B C D : Type 0} (f : A → B → C → D) {a b : A} {c d : B} {e g : C} → a ≡ b → c ≡ d → e ≡ g → f a c e ≡ f b d g
        ap₃ f {a} {b} {c} {d} {e} {g} p q r = ap (λ z. f z c e) p ∙ ap₂ (λ y z. f b y z) q r

-- Bodies of well-formed programs

module _ (p : Units) (well : WellFormed p) (v : ℕ → Bool) where
  body_fits : (u : UnitTree) (i : ℕ) (f : TFunc) (n : ℕ) (o : Option TNodeId) → slice_get p.units.items i ≡ Some u → slice_get u.funcs.items n ≡ Some f
      → f.body ≡ o
      → steady v (unwrap_or (option_map (tree_at (trees_of u.nodes.items)) o) (literal 0))
      ≡ folded v (unwrap_or (option_map (tree_at (trees_of u.nodes.items)) o) (literal 0))
  body_fits u i f n None e g h = refl
  body_fits u i f n (Some root) e g h =
      same_tree v (setting_of p u f) outermost Statement (tree_at (trees_of u.nodes.items) root) ((((well.units i u e).bodies n f root g h).well_formed).nodes)

  pub bodies_same : (u n : ℕ) (f : UnitFunc) → func_at (program_of p) u n ≡ Some f
      → steady v (unwrap_or f.body (literal 0)) ≡ folded v (unwrap_or f.body (literal 0))
  bodies_same u n f e =
      let x = and_then_found (λ (x : TypedUnit). slice_get x.funcs n) (slice_get (map unit_of p.units.items) u) f e in
      let y = found_in unit_of (slice_get p.units.items u) x.0 (sym (map_get unit_of p.units.items u) ∙ x.1) in
      let trees = trees_of (y.0).nodes.items in
      let g : slice_get (map (func_of trees) (y.0).funcs.items) n ≡ Some f = ap (λ (z : TypedUnit). slice_get z.funcs n) (y.2) ∙ x.2 in
      let w = found_in (func_of trees) (slice_get (y.0).funcs.items n) f (sym (map_get (func_of trees) (y.0).funcs.items n) ∙ g) in
      subst (λ (z : UnitFunc). steady v (unwrap_or z.body (literal 0)) ≡ folded v (unwrap_or z.body (literal 0))) {x = func_of trees (w.0)} (w.2)
      (body_fits y.0 u w.0 n (w.0).body (y.1) (w.1) refl)

module _ (p : Units) (well : WellFormed p) (safe : ℕ → ℕ → Bool) (symbol : SlotFunc → Option (List ℕ)) (main : List ℕ) where
  abbrev typed : TypedProgram
  typed = program_of p

  pub linked_kept : linked safe symbol main (folded_program typed) ≡ program_shown (has_volatile_part typed.classes) (linked safe symbol main typed)
  linked_kept =
      let l = linked_by safe symbol main typed.classes typed.slots in
      ap (λ (z : List Def). l z (kept_globals (folded_program typed)) (kept_classes (folded_program typed)) (func_at (folded_program typed))
      (global_at (folded_program typed))) (funcs_kept typed)
      ∙ ap₂ (λ (y z : List Def). l (kept_funcs typed) y z (func_at (folded_program typed)) (global_at (folded_program typed))) (globals_kept typed)
      (classes_kept typed)
      ∙ ap₂ (λ (y : ℕ → ℕ → Option UnitFunc) (z : ℕ → ℕ → Option Global). l (kept_funcs typed) (kept_globals typed) (kept_classes typed) y z)
      (fun_ext (λ u. fun_ext (λ n. func_at_kept typed u n))) (fun_ext (λ u. fun_ext (λ n. global_at_kept typed u n)))
      ∙ shown_by safe symbol main typed.classes typed.slots (has_volatile_part typed.classes) (kept_funcs typed) (kept_globals typed) (kept_classes typed)
      (func_at typed) (global_at typed) (bodies_same p well (has_volatile_part typed.classes))
