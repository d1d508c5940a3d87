-- What is true of all definitions is true of those that are kept.
use Rattle.std.proofs.Common.{◌≡◌, ◌∙◌, ◌<◌, ◌≤◌, ◌+◌, ℕ, zero, suc, Bool, true, false, cond, List, [], ◌∷◌, ◌++◌, map, filter, drop, not, length, get_or, refl}
use Rattle.std.proofs.Common.{sym, ap, subst, arith, Option, Some, slice_get, is_some, option_map, option_and_then, unwrap_or}
use Rattle.std.specs.List.{list_all, list_any}
use Rattle.std.specs.Cmp.Derive.{both_true}
use Rattle.std.proofs.lemmas.Bool.{and_parts}
use Rattle.std.proofs.lemmas.List.Folds.{list_all-append}
use Rattle.std.proofs.lemmas.List.{map-append, append_assoc}
use Rattle.std.proofs.lemmas.Option.{slice_get-map, slice_get-get_or}
use Rattle.cpp_tree.specs.cpp_types.Class.{Class}
use Rattle.cpp_tree.specs.cpp_types.Conversion.{form_of}
use Rattle.cpp_tree.specs.cpp_layout.Layout.{extent_of, next_multiple}
use Rattle.cpp_tree.specs.cpp_layout.Measured.{HoldsComplete, Measured}
use Rattle.cpp_tree.specs.cpp_layout.declared.extents.SizeAlign.{SizeAlign}
use Rattle.cpp_tree.specs.cpp_layout.declared.extents.TheConstants.{GREATEST_SIZE}
use Rattle.cpp_tree.proofs.cpp_layout.Ends.{next_low}
use Rattle.cpp_tree.specs.Typing.{passes}
use Rattle.cpp_tree.specs.Units.{Func as UnitFunc, Global, Unit as TypedUnit, TypedProgram}
use Rattle.src_mean.specs.Links.{Def, name_lt, insert, sorted, kept_of, same_def, is_internal, is_string, strings_last, func_at, global_at, funcs_defined}
use Rattle.src_mean.specs.Links.{globals_defined, all_funcs, all_globals, kept_funcs, kept_globals, global_size, globals_end}
use Rattle.src_bind.specs.declared.defs.Found.{Found}
use Rattle.src_bind.specs.Defs.{def_of, defs_of}
use Rattle.src_bind.specs.Infos.{has_body}
use Rattle.src_bind.specs.Globals.{has_definition, HasSize, HaveSizes}
use Rattle.src_bind.specs.Tables.{CanBind}

module _ (p : Def → Bool) where
  put_by : (b : Bool) (d e : Def) (es more : List Def) → p d ≡ true → p e ≡ true → list_all p es ≡ true → list_all p more ≡ true
      → list_all p (cond b (d ∷ e ∷ es) (e ∷ more)) ≡ true
  put_by true d e es more h k l m = both_true h (both_true k l)
  put_by false d e es more h k l m = both_true k m

  insert_all : (d : Def) (es : List Def) → p d ≡ true → list_all p es ≡ true → list_all p (insert d es) ≡ true
  insert_all d [] h l = both_true h refl
  insert_all d (e ∷ es) h l = let k = and_parts (p e) (list_all p es) l in
      put_by (name_lt d.symbol e.symbol) d e es (insert d es) h k.0 k.1 (insert_all d es h k.1)

  pub sorted_all : (ds : List Def) → list_all p ds ≡ true → list_all p (sorted ds) ≡ true
  sorted_all [] l = refl
  sorted_all (d ∷ ds) l = let k = and_parts (p d) (list_all p ds) l in insert_all d (sorted ds) k.0 (sorted_all ds k.1)

  one_by : (b : Bool) (d : Def) (less more : List Def) → p d ≡ true → list_all p less ≡ true → list_all p more ≡ true
      → list_all p (cond b less (d ∷ more)) ≡ true
  one_by true d less more h l m = l
  one_by false d less more h l m = both_true h m

  pub kept_all : (seen ds : List Def) → list_all p ds ≡ true → list_all p (kept_of seen ds) ≡ true
  kept_all seen [] l = refl
  kept_all seen (d ∷ ds) l = let k = and_parts (p d) (list_all p ds) l in
      one_by (list_any (same_def d) seen) d (kept_of seen ds) (kept_of (d ∷ seen) ds) k.0 (kept_all seen ds k.1) (kept_all (d ∷ seen) ds k.1)

  if_by : (b : Bool) (d : Def) (more : List Def) → p d ≡ true → list_all p more ≡ true → list_all p (cond b (d ∷ more) more) ≡ true
  if_by true d more h l = both_true h l
  if_by false d more h l = l

  filter_all : (q : Def → Bool) (ds : List Def) → list_all p ds ≡ true → list_all p (filter q ds) ≡ true
  filter_all q [] l = refl
  filter_all q (d ∷ ds) l = let k = and_parts (p d) (list_all p ds) l in if_by (q d) d (filter q ds) k.0 (filter_all q ds k.1)

  pub strings_all : (ds : List Def) → list_all p ds ≡ true → list_all p (strings_last ds) ≡ true
  strings_all ds l = list_all-append p (filter (λ (d : Def). not (is_string d)) ds) (filter is_string ds)
      ∙ both_true (filter_all (λ (d : Def). not (is_string d)) ds l) (filter_all is_string ds l)

  pub all_at : (ds : List Def) (i : ℕ) (d : Def) → list_all p ds ≡ true → slice_get ds i ≡ Some d → p d ≡ true
  all_at [] i d l e = absurd cc
  all_at (x ∷ ds) zero d l e = let k = and_parts (p x) (list_all p ds) l in let f : x ≡ d = cc in sym (ap p f) ∙ k.0
  all_at (x ∷ ds) (suc i) d l e = let k = and_parts (p x) (list_all p ds) l in all_at ds i d k.1 e

right_zero : (n : ℕ) → n ≡ n + zero
right_zero n = omega arith

right_suc : (n i : ℕ) → suc n + i ≡ n + suc i
right_suc n i = omega arith

left_zero : (n : ℕ) → 0 + n ≡ n
left_zero n = omega arith

module _ (t : TypedProgram) where
  body_by : (d : Def) (f : UnitFunc) (b : Bool) (rest : List Def) → func_at t d.unit d.place ≡ Some f → is_some f.body ≡ b → list_all (has_body t) rest ≡ true
      → list_all (has_body t) (cond b (d ∷ rest) rest) ≡ true
  body_by d f true rest e h l = both_true (ap (passes (λ (f : UnitFunc). is_some f.body)) e ∙ h) l
  body_by d f false rest e h l = l

  funcs_there : (u n : ℕ) (fs : List UnitFunc) → ((i : ℕ) (f : UnitFunc) → slice_get fs i ≡ Some f → func_at t u (n + i) ≡ Some f)
      → list_all (has_body t) (funcs_defined u n fs) ≡ true
  funcs_there u n [] h = refl
  funcs_there u n (f ∷ fs) h = body_by (record { unit = u; place = n; symbol = f.symbol; internal = is_internal f.linkage }) f (is_some f.body)
      (funcs_defined u (suc n) fs) (ap (func_at t u) (right_zero n) ∙ h zero f refl) refl
      (funcs_there u (suc n) fs (λ i x e. ap (func_at t u) (right_suc n i) ∙ h (suc i) x e))

  unit_func : (u : ℕ) (x : TypedUnit) → slice_get t.units u ≡ Some x → (i : ℕ) (f : UnitFunc) → slice_get x.funcs i ≡ Some f → func_at t u (0 + i) ≡ Some f
  unit_func u x h i f e = ap (option_and_then (λ (y : TypedUnit). slice_get y.funcs (0 + i))) h ∙ ap (slice_get x.funcs) (left_zero i) ∙ e

  units_there : (u : ℕ) (xs : List TypedUnit) → ((i : ℕ) (x : TypedUnit) → slice_get xs i ≡ Some x → slice_get t.units (u + i) ≡ Some x)
      → list_all (has_body t) (all_funcs u xs) ≡ true
  units_there u [] h = refl
  units_there u (x ∷ xs) h = list_all-append (has_body t) (sorted (funcs_defined u 0 x.funcs)) (all_funcs (suc u) xs)
      ∙ both_true (sorted_all (has_body t) (funcs_defined u 0 x.funcs)
      (funcs_there u 0 x.funcs (unit_func u x (ap (slice_get t.units) (right_zero u) ∙ h zero x refl))))
      (units_there (suc u) xs (λ i y e. ap (slice_get t.units) (right_suc u i) ∙ h (suc i) y e))

  -- each kept function has a body
  pub bodies_there : list_all (has_body t) (kept_funcs t) ≡ true
  bodies_there = kept_all (has_body t) [] (all_funcs 0 t.units) (units_there 0 t.units (λ i x e. ap (slice_get t.units) (left_zero i) ∙ e))

  definition_by : (d : Def) (g : Global) (b : Bool) (rest : List Def) → global_at t d.unit d.place ≡ Some g → g.defined ≡ b
      → list_all (has_definition t) rest ≡ true → list_all (has_definition t) (cond b (d ∷ rest) rest) ≡ true
  definition_by d g true rest e h l = both_true (ap (passes (λ (g : Global). g.defined)) e ∙ h) l
  definition_by d g false rest e h l = l

  globals_there : (u n : ℕ) (gs : List Global) → ((i : ℕ) (g : Global) → slice_get gs i ≡ Some g → global_at t u (n + i) ≡ Some g)
      → list_all (has_definition t) (globals_defined u n gs) ≡ true
  globals_there u n [] h = refl
  globals_there u n (g ∷ gs) h = definition_by (record { unit = u; place = n; symbol = g.symbol; internal = is_internal g.linkage }) g g.defined
      (globals_defined u (suc n) gs) (ap (global_at t u) (right_zero n) ∙ h zero g refl) refl
      (globals_there u (suc n) gs (λ i x e. ap (global_at t u) (right_suc n i) ∙ h (suc i) x e))

  unit_global : (u : ℕ) (x : TypedUnit) → slice_get t.units u ≡ Some x → (i : ℕ) (g : Global) → slice_get x.globals i ≡ Some g → global_at t u (0 + i) ≡ Some g
  unit_global u x h i g e = ap (option_and_then (λ (y : TypedUnit). slice_get y.globals (0 + i))) h ∙ ap (slice_get x.globals) (left_zero i) ∙ e

  all_there : (u : ℕ) (xs : List TypedUnit) → ((i : ℕ) (x : TypedUnit) → slice_get xs i ≡ Some x → slice_get t.units (u + i) ≡ Some x)
      → list_all (has_definition t) (all_globals u xs) ≡ true
  all_there u [] h = refl
  all_there u (x ∷ xs) h = list_all-append (has_definition t) (strings_last (sorted (globals_defined u 0 x.globals))) (all_globals (suc u) xs)
      ∙ both_true (strings_all (has_definition t) (sorted (globals_defined u 0 x.globals))
      (sorted_all (has_definition t) (globals_defined u 0 x.globals)
      (globals_there u 0 x.globals (unit_global u x (ap (slice_get t.units) (right_zero u) ∙ h zero x refl)))))
      (all_there (suc u) xs (λ i y e. ap (slice_get t.units) (right_suc u i) ∙ h (suc i) y e))

  definitions_there : list_all (has_definition t) (kept_globals t) ≡ true
  definitions_there = kept_all (has_definition t) [] (all_globals 0 t.units) (all_there 0 t.units (λ i x e. ap (slice_get t.units) (left_zero i) ∙ e))

  -- each kept global has a size
  pub sizes_there : CanBind t → (ds : List Def) → ds ≡ kept_globals t → HaveSizes t ds
  sizes_there can ds e = record { each = λ i d f. can.globals d (all_at (has_definition t) ds i d (ap (list_all (has_definition t)) e ∙ definitions_there) f) }

  -- sizes
  pub holds_by : (d : Def) (g : Global) (classes : List Class) → HasSize t d → global_at t d.unit d.place ≡ Some g → classes ≡ t.classes
      → HoldsComplete classes (form_of g.typ)
  holds_by d g classes h e p = subst (λ z. HoldsComplete z (form_of g.typ)) (sym p) (h.complete g e)

  pub too_large : (d : Def) (g : Global) (classes : List Class) → HasSize t d → global_at t d.unit d.place ≡ Some g → classes ≡ t.classes
      → GREATEST_SIZE < (extent_of classes g.typ).size → ⊥
  too_large d g classes h e p l =
      let w = h.within g e in
      let q : (extent_of classes g.typ).size ≡ (extent_of t.classes g.typ).size = ap (λ z. (extent_of z g.typ).size) p in
      absurd (omega (arith, w, q, l))

  pub sized_by : (d : Def) (g : Global) (classes : List Class) (s : SizeAlign) → global_at t d.unit d.place ≡ Some g → classes ≡ t.classes
      → Measured (extent_of classes g.typ) s → s.size ≡ global_size t d
  sized_by d g classes s e p m = m.size ∙ ap (λ z. (extent_of z g.typ).size) p
      ∙ sym (ap (λ (o : Option Global). unwrap_or (option_map (λ (g : Global). (extent_of t.classes g.typ).size) o) 0) e)

-- where globals end
pub end_within : (from : ℕ) (ss : List ℕ) → from ≤ globals_end from ss
end_within from [] = omega arith
end_within from (s ∷ ss) = let p = next_low from 8 (omega arith) in let q = end_within (next_multiple from 8 + s) ss in omega (arith, p, q)

pub next_within : (from s most : ℕ) (all ss : List ℕ) → all ≡ s ∷ ss → globals_end from all ≤ most → next_multiple from 8 + s ≤ most
next_within from s most all ss e h =
    let p : globals_end from all ≡ globals_end (next_multiple from 8 + s) ss = ap (globals_end from) e in
    let q = end_within (next_multiple from 8 + s) ss in omega (arith, h, p, q)

-- an element of a list of definitions
pub def_at : (p : Def → Bool) (kept : List Found) (i : ℕ) (d : Found) → list_all p (defs_of kept) ≡ true → i < length kept → p (def_of (get_or kept i d)) ≡ true
def_at p kept i d l h = all_at p (defs_of kept) i (def_of (get_or kept i d)) l
    (slice_get-map def_of kept i ∙ ap (option_map def_of) (slice_get-get_or kept i d h))

-- a list of images, one more
pub image_more : {A B : Type 0} (v : A → B) (w : Def → B) (xs new : List A) (x : A) (kept : List Found) (i : ℕ) (d : Found) (all : List B)
    → drop i kept ≡ d ∷ drop (i + 1) kept → v x ≡ w (def_of d) → new ≡ xs ++ x ∷ [] → map v xs ++ map w (defs_of (drop i kept)) ≡ all
    → map v new ++ map w (defs_of (drop (i + 1) kept)) ≡ all
image_more v w xs new x kept i d all m e f h =
    ap (λ z. map v z ++ map w (defs_of (drop (i + 1) kept))) f ∙ ap (λ z. z ++ map w (defs_of (drop (i + 1) kept))) (map-append v xs (x ∷ []))
    ∙ append_assoc (map v xs) (v x ∷ []) (map w (defs_of (drop (i + 1) kept)))
    ∙ ap (λ z. map v xs ++ z ∷ map w (defs_of (drop (i + 1) kept))) e ∙ sym (ap (λ z. map v xs ++ map w (defs_of z)) m) ∙ h
