-- No word of a call of a safe function is marked: the addresses are plain pointers, and what the check finds are volatile parameters.
use Rattle.std.proofs.Common.{◌≡◌, ◌∙◌, ℕ, zero, suc, ◌+◌, Bool, true, false, not, List, [], ◌∷◌, ◌++◌, map, take, Option, Some, None, slice_get}
use Rattle.std.proofs.Common.{ap, sym, subst, arith, refl}
use Rattle.std.specs.Prelude.{option_and_then, if◌then◌else◌}
use Rattle.std.specs.List.{list_all, flat_map}
use Rattle.std.proofs.lemmas.Bool.{and_from}
use Rattle.std.proofs.lemmas.List.Folds.{list_all-append}
use Rattle.cpp_tree.specs.cpp_types.Typ.{Typ, typ, ptr}
use Rattle.cpp_tree.specs.cpp_types.declared.classes.At.{At}
use Rattle.cpp_tree.specs.declared.faults.UnsafeReason.{UnsafeReason}
use Rattle.cpp_tree.specs.Notation.{plain}
use Rattle.cpp_tree.specs.Trees.{Tree}
use Rattle.cpp_tree.specs.Typing.{passes, is_class_typ}
use Rattle.cpp_tree.specs.Rows.{result_of}
use Rattle.cpp_tree.specs.Units.{Param, Func, Unit as TypedUnit, TypedProgram}
use Rattle.src_mean.specs.Links.{is_marked}
use Rattle.tx_unsafe.specs.Volatile.{has_volatile_part, is_volatile_object}
use Rattle.tx_unsafe.specs.Unsafe.{where_so, builds_volatile, param_findings, head_findings, body_findings, own_findings}
use Rattle.tx_safety.specs.Safe.{safe, unit_end, func_findings, unit_findings, IsSafe, is_safe}
use Rattle.elab_rules.specs.Functions.{word_item, result_items, this_items}
use Rattle.safe_blocks.specs.UnsafeFree.{has_unmarked_words, IsUnmarked}
use Rattle.safe_blocks.proofs.TameTrees.{nothing_left, nothing_right}
use Rattle.safe_blocks.proofs.SafeFuncs.{AreClosed, func_clean, from_all, from_funcs}
use Rattle.offset_bounds.specs.Fitting.{OffsetsFit}
use Rattle.elab_well_formed.specs.Programs.{words_of_call, HasCallWords, ProgramsHaveCallWords}
use Rattle.source_verdict.specs.Elaborated.{HasProgram}

abbrev is_plain : Typ → Bool
is_plain t = not (is_marked t)

-- The words

item_plain : (v : ℕ → Bool) (t : Typ) → is_volatile_object v t ≡ false → is_plain (word_item t) ≡ true
item_plain v t h = by t h (is_class_typ t)
  where
    by : (t : Typ) → is_volatile_object v t ≡ false → (b : Bool) → is_plain (if b then plain (ptr t) else t) ≡ true
    by t h true = refl
    by (typ f c true) h false = absurd cc
    by (typ f c false) h false = refl

result_plain : (t : Typ) → list_all is_plain (result_items t) ≡ true
result_plain t = by (is_class_typ t)
  where
    by : (b : Bool) → list_all is_plain (if b then plain (ptr t) ∷ [] else []) ≡ true
    by true = refl
    by false = refl

object_plain : (o : Option Typ) → list_all is_plain (this_items o) ≡ true
object_plain None = refl
object_plain (Some t) = refl

-- what is not found is not so
not_so : (b : Bool) (at : At) (reason : UnsafeReason) → where_so b at reason ≡ [] → b ≡ false
not_so true at reason h = absurd cc
not_so false at reason h = refl

params_plain : (v : ℕ → Bool) (ps : List Param) → flat_map (param_findings v) ps ≡ [] → list_all is_plain (map (λ (p : Param). word_item p.typ) ps) ≡ true
params_plain v [] h = refl
params_plain v (p ∷ ps) h = and_from _ _
    (item_plain v p.typ (not_so (is_volatile_object v p.typ) p.at _ (nothing_left (param_findings v p) (flat_map (param_findings v) ps) h)))
    (params_plain v ps (nothing_right (param_findings v p) (flat_map (param_findings v) ps) h))

both_plain : (xs ys : List Typ) → list_all is_plain xs ≡ true → list_all is_plain ys ≡ true → list_all is_plain (xs ++ ys) ≡ true
both_plain xs ys a b = list_all-append is_plain xs ys ∙ and_from _ _ a b

call_plain : (v : ℕ → Bool) (f : Func) (o : Option Typ) → flat_map (param_findings v) f.params ≡ [] → list_all is_plain (words_of_call f o) ≡ true
call_plain v f o h = both_plain (result_items (result_of f)) (this_items o ++ map (λ (p : Param). word_item p.typ) f.params) (result_plain (result_of f))
    (both_plain (this_items o) (map (λ (p : Param). word_item p.typ) f.params) (object_plain o) (params_plain v f.params h))

-- One function

empty_plain : (n : ℕ) → list_all is_plain (take n []) ≡ true
empty_plain zero = refl
empty_plain (suc n) = refl

func_plain : (v : ℕ → Bool) (f : Func) → HasCallWords f → flat_map (param_findings v) f.params ≡ [] → (o : Option Tree) → f.body ≡ o
    → has_unmarked_words f ≡ true
func_plain v f w h None e = subst (λ (z : List Typ). list_all is_plain (take f.words z) ≡ true) (sym (w.bare e)) (empty_plain f.words)
func_plain v f w h (Some tree) e = let b = w.begins tree e in
    subst (λ (z : List Typ). list_all is_plain z ≡ true) (sym b.words) (call_plain v f b.object h)

no_param : (v : ℕ → Bool) (f : Func) → own_findings v true f ≡ [] → flat_map (param_findings v) f.params ≡ []
no_param v f h = nothing_right (where_so (builds_volatile v f) f.declared.at _) (flat_map (param_findings v) f.params)
    (nothing_left (head_findings v f) (body_findings v true f.body) h)

-- Functions of a program

found_in : (t : TypedProgram) (unit n : ℕ) (f : Func) (o : Option TypedUnit) → slice_get t.units unit ≡ o
    → option_and_then (λ (x : TypedUnit). slice_get x.funcs n) o ≡ Some f
    → (x : TypedUnit) × (slice_get t.units unit ≡ Some x) × (slice_get x.funcs n ≡ Some f)
found_in t unit n f None s e = absurd cc
found_in t unit n f (Some x) s e = (x, s, e)

safe_of_unit : (t : TypedProgram) (unit m : ℕ) (x : TypedUnit) → slice_get t.units unit ≡ Some x
    → is_safe t unit m ≡ safe (has_volatile_part t.classes) x.funcs unit_end m
unfolding is_safe
safe_of_unit t unit m x e = ap (passes (λ (u : TypedUnit). safe (has_volatile_part t.classes) u.funcs unit_end m)) e

closed_unit : (t : TypedProgram) → OffsetsFit t → (unit : ℕ) (x : TypedUnit) → slice_get t.units unit ≡ Some x → AreClosed x.funcs
closed_unit t u unit x e = record { closed = λ n f g. u.each unit n f (ap (option_and_then (λ (y : TypedUnit). slice_get y.funcs n)) e ∙ g) }

-- a safe function has no volatile parameter
safe_params : (t : TypedProgram) → IsSafe t → OffsetsFit t → (unit n : ℕ) (f : Func) (x : TypedUnit) → slice_get t.units unit ≡ Some x
    → slice_get x.funcs n ≡ Some f → is_safe t unit n ≡ true → flat_map (param_findings (has_volatile_part t.classes)) f.params ≡ []
safe_params t s u unit n f x a b h =
    let v = has_volatile_part t.classes in
    let findings : func_findings v (safe v x.funcs) n f ≡ [] =
    subst (λ k. func_findings v (safe v x.funcs) k f ≡ []) (let z : 0 + n ≡ n = omega arith in z)
    (from_funcs v (safe v x.funcs) 0 x.funcs n f (from_all (unit_findings v) t.units unit x s a) b) in
    no_param v f (func_clean v x.funcs (closed_unit t u unit x a) n f true b findings (sym (safe_of_unit t unit n x a) ∙ h)).own

pub unmarked : ProgramsHaveCallWords → (texts : List (List ℕ)) (t : TypedProgram) → HasProgram texts t → IsSafe t → OffsetsFit t → IsUnmarked t
unmarked law texts t p s u = record {
  words = λ unit n f e h. let x = found_in t unit n f (slice_get t.units unit) refl e in
      func_plain (has_volatile_part t.classes) f (law p.sources t p.is unit n x.0 f x.1 x.2)
      (safe_params t s u unit n f x.0 x.1 x.2 h) f.body refl;
  places = u.each;
}
