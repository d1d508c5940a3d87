-- The functions of a folded program are safe where those of the program are.
use Rattle.std.proofs.Common.{◌≡◌, ℕ, zero, suc, ◌+◌, Bool, true, ◌&&◌, ◌||◌, refl, sym, ap, ap₂, subst, ◌∙◌, List, [], ◌∷◌, map, length, slice_get, Option}
use Rattle.std.proofs.Common.{Some, None}
use Rattle.std.specs.Prelude.{is_some, option_map}
use Rattle.std.specs.List.{list_all, flat_map}
use Rattle.std.proofs.Math.Path.{fun_ext}
use Rattle.cpp_tree.specs.declared.program.Program.{Program as Units}
use Rattle.cpp_tree.specs.declared.roles.Role.TheVariants.{Statement}
use Rattle.cpp_tree.specs.Trees.{Tree}
use Rattle.cpp_tree.specs.Arena.{tree_at, trees_of}
use Rattle.cpp_tree.specs.Typing.{passes}
use Rattle.cpp_tree.specs.Units.{Func, Unit as TypedUnit, TypedProgram, func_of, unit_of, program_of}
use Rattle.cpp_tree.specs.Rows.{Setting}
use Rattle.cpp_tree.specs.WellFormed.{WellFormed, setting_of, outermost, fits}
use Rattle.tx_unsafe.specs.Volatile.{has_volatile_part}
use Rattle.tx_unsafe.specs.Unsafe.{counted, head_findings, own_findings, body_findings, body_calls, calls_of}
use Rattle.tx_unsafe.specs.declared.finding.CallSite.{CallSite}
use Rattle.tx_safety.specs.Safe.{is_promised, is_passed, may_call, is_empty, is_safe_by, safe_within, safe, unit_end, is_safe, call_findings, func_findings}
use Rattle.tx_safety.specs.Safe.{funcs_findings, unit_findings, program_findings, IsSafe}
use Rattle.tree_fold.specs.Folding.{folded}
use Rattle.tree_fold.specs.Programs.{folded_func, folded_unit, folded_program}
use Rattle.fold_events.proofs.Clean.{empty_both, Alike, alike_tree}
use Rattle.fold_events.proofs.Linking.{map_get, found_in, some_kept}

length_kept : {A B : Type 0} (g : A → B) (xs : List A) → length (map g xs) ≡ length xs
length_kept g [] = refl
length_kept g (x ∷ xs) = ap suc (length_kept g xs)

module _ (v : ℕ → Bool) where
  -- what safety asks of a function
  record SameParts (f : Func) : Type 0 where
    own : (whole : Bool) → is_empty (own_findings v whole (folded_func v f)) ≡ is_empty (own_findings v whole f)
    calls : (whole : Bool) → calls_of whole (folded_func v f) ≡ calls_of whole f

  body_clean : (whole : Bool) (o : Option Tree) → ((body : Tree) → o ≡ Some body → Alike v body (folded v body))
      → is_empty (body_findings v whole (option_map (folded v) o)) ≡ is_empty (body_findings v whole o)
  body_clean whole None h = refl
  body_clean whole (Some body) h = (h body refl).clean whole

  body_called : (whole : Bool) (o : Option Tree) → ((body : Tree) → o ≡ Some body → Alike v body (folded v body))
      → body_calls whole (option_map (folded v) o) ≡ body_calls whole o
  body_called whole None h = refl
  body_called whole (Some body) h = (h body refl).calls whole

  same_parts : (f : Func) → ((body : Tree) → f.body ≡ Some body → Alike v body (folded v body)) → SameParts f
  same_parts f h = record {
    own = λ whole.
        empty_both (counted whole (head_findings v f)) (body_findings v whole (option_map (folded v) f.body))
        ∙ ap (λ (b : Bool). is_empty (counted whole (head_findings v f)) && b) (body_clean whole f.body h)
        ∙ sym (empty_both (counted whole (head_findings v f)) (body_findings v whole f.body));
    calls = λ whole. body_called whole f.body h;
  }

  safe_by_same : (may : ℕ → ℕ → Bool) (place n : ℕ) (f : Func) → SameParts f → is_safe_by v may place n (folded_func v f) ≡ is_safe_by v may place n f
  safe_by_same may place n f same =
      ap₂ (λ (a b : Bool). is_promised f || (is_passed place f && (a && b && list_all (may_call may place n f) (calls_of true (folded_func v f)))))
      (some_kept v f.body) (same.own true)
      ∙ ap (λ (xs : List CallSite). is_promised f || (is_passed place f &&
      (is_some f.body && is_empty (own_findings v true f) && list_all (may_call may place n f) xs))) (same.calls true)

  module _ (funcs : List Func) (each : (n : ℕ) (f : Func) → slice_get funcs n ≡ Some f → SameParts f) where
    passes_same : (may : ℕ → ℕ → Bool) (place n : ℕ) (o : Option Func) → ((f : Func) → o ≡ Some f → SameParts f)
        → passes (is_safe_by v may place n) (option_map (folded_func v) o) ≡ passes (is_safe_by v may place n) o
    passes_same may place n None h = refl
    passes_same may place n (Some f) h = safe_by_same may place n f (h f refl)

    within_same : (depth : ℕ) → safe_within depth v (map (folded_func v) funcs) ≡ safe_within depth v funcs
    within_same zero = refl
    within_same (suc depth) = fun_ext (λ place. fun_ext (λ n.
        ap₂ (λ (may : ℕ → ℕ → Bool) (o : Option Func). passes (is_safe_by v may place n) o) (within_same depth) (map_get (folded_func v) funcs n)
        ∙ passes_same (safe_within depth v funcs) place n (slice_get funcs n) (each n)))

    safe_same : (place n : ℕ) → safe v (map (folded_func v) funcs) place n ≡ safe v funcs place n
    safe_same place n = ap (λ (depth : ℕ). safe_within depth v (map (folded_func v) funcs) place n) (length_kept (folded_func v) funcs)
        ∙ ap (λ (z : ℕ → ℕ → Bool). z place n) (within_same (length funcs))

  -- what is unsafe in functions

  func_kept : (may : ℕ → ℕ → Bool) (n : ℕ) (f : Func) → SameParts f → is_empty (func_findings v may n (folded_func v f)) ≡ is_empty (func_findings v may n f)
  func_kept may n f same =
      empty_both (own_findings v (is_promised f) (folded_func v f)) (call_findings may n (calls_of (is_promised f) (folded_func v f)))
      ∙ ap₂ (λ (b : Bool) (xs : List CallSite). b && is_empty (call_findings may n xs)) (same.own (is_promised f)) (same.calls (is_promised f))
      ∙ sym (empty_both (own_findings v (is_promised f) f) (call_findings may n (calls_of (is_promised f) f)))

  funcs_kept : (may : ℕ → ℕ → Bool) (n : ℕ) (fs : List Func) → ((i : ℕ) (f : Func) → slice_get fs i ≡ Some f → SameParts f)
      → is_empty (funcs_findings v may n (map (folded_func v) fs)) ≡ is_empty (funcs_findings v may n fs)
  funcs_kept may n [] h = refl
  funcs_kept may n (f ∷ fs) h =
      empty_both (func_findings v may n (folded_func v f)) (funcs_findings v may (n + 1) (map (folded_func v) fs))
      ∙ ap₂ (λ (x y : Bool). x && y) (func_kept may n f (h 0 f refl)) (funcs_kept may (n + 1) fs (λ i g e. h (suc i) g e))
      ∙ sym (empty_both (func_findings v may n f) (funcs_findings v may (n + 1) fs))

  unit_kept : (x : TypedUnit) → ((n : ℕ) (f : Func) → slice_get x.funcs n ≡ Some f → SameParts f)
      → is_empty (unit_findings v (folded_unit v x)) ≡ is_empty (unit_findings v x)
  unit_kept x h =
      ap (λ (may : ℕ → ℕ → Bool). is_empty (funcs_findings v may 0 (map (folded_func v) x.funcs)))
      (fun_ext (λ place. fun_ext (λ n. safe_same x.funcs h place n)))
      ∙ funcs_kept (safe v x.funcs) 0 x.funcs h

  units_kept : (xs : List TypedUnit) → ((u n : ℕ) (x : TypedUnit) (f : Func) → slice_get xs u ≡ Some x → slice_get x.funcs n ≡ Some f → SameParts f)
      → is_empty (flat_map (unit_findings v) (map (folded_unit v) xs)) ≡ is_empty (flat_map (unit_findings v) xs)
  units_kept [] h = refl
  units_kept (x ∷ xs) h =
      empty_both (unit_findings v (folded_unit v x)) (flat_map (unit_findings v) (map (folded_unit v) xs))
      ∙ ap₂ (λ (a b : Bool). a && b) (unit_kept x (λ n f e. h 0 n x f refl e)) (units_kept xs (λ u n y f e g. h (suc u) n y f e g))
      ∙ sym (empty_both (unit_findings v x) (flat_map (unit_findings v) xs))

empty_is : {A : Type 0} (xs : List A) → is_empty xs ≡ true → xs ≡ []
empty_is [] e = refl
empty_is (x ∷ xs) e = absurd cc

is_empty_of : {A : Type 0} (xs : List A) → xs ≡ [] → is_empty xs ≡ true
is_empty_of xs e = ap is_empty e

module _ (p : Units) (well : WellFormed p) where
  abbrev typed : TypedProgram
  typed = program_of p

  abbrev marks : ℕ → Bool
  marks = has_volatile_part typed.classes

  fits_of : (u n : ℕ) (x : TypedUnit) (f : Func) (body : Tree) → slice_get typed.units u ≡ Some x → slice_get x.funcs n ≡ Some f → f.body ≡ Some body
      → (s : Setting) × (fits s outermost Statement body ≡ true)
  fits_of u n x f body e g h =
      let y = found_in unit_of (slice_get p.units.items u) x (sym (map_get unit_of p.units.items u) ∙ e) in
      let trees = trees_of (y.0).nodes.items in
      let i : slice_get (map (func_of trees) (y.0).funcs.items) n ≡ Some f = ap (λ (z : TypedUnit). slice_get z.funcs n) (y.2) ∙ g in
      let w = found_in (func_of trees) (slice_get (y.0).funcs.items n) f (sym (map_get (func_of trees) (y.0).funcs.items n) ∙ i) in
      let r = found_in (tree_at trees) (w.0).body body (ap (λ (z : Func). z.body) (w.2) ∙ h) in (
        setting_of p y.0 w.0,
        subst (λ (z : Tree). fits (setting_of p y.0 w.0) outermost Statement z ≡ true) (r.2)
            ((((well.units u y.0 (y.1)).bodies n w.0 r.0 (w.1) (r.1)).well_formed).nodes),
      )

  parts_of : (u n : ℕ) (x : TypedUnit) (f : Func) → slice_get typed.units u ≡ Some x → slice_get x.funcs n ≡ Some f → SameParts marks f
  parts_of u n x f e g = same_parts marks f (λ body h. let s = fits_of u n x f body e g h in alike_tree marks s.0 outermost Statement body s.1)

  unit_safe : (u n : ℕ) (o : Option TypedUnit) → ((x : TypedUnit) → o ≡ Some x → (n : ℕ) (f : Func) → slice_get x.funcs n ≡ Some f → SameParts marks f)
      → passes (λ (x : TypedUnit). safe marks x.funcs unit_end n) (option_map (folded_unit marks) o)
      ≡ passes (λ (x : TypedUnit). safe marks x.funcs unit_end n) o
  unit_safe u n None h = refl
  unit_safe u n (Some x) h = safe_same marks x.funcs (h x refl) unit_end n

  pub is_safe_kept : (u n : ℕ) → is_safe (folded_program typed) u n ≡ is_safe typed u n
  unfolding is_safe
  is_safe_kept u n =
      ap (passes (λ (x : TypedUnit). safe marks x.funcs unit_end n)) (map_get (folded_unit marks) typed.units u)
      ∙ unit_safe u n (slice_get typed.units u) (λ x e m f g. parts_of u m x f e g)

  pub findings_kept : IsSafe typed → IsSafe (folded_program typed)
  findings_kept e = empty_is (program_findings (folded_program typed))
      (units_kept marks typed.units (λ u n x f g h. parts_of u n x f g h) ∙ is_empty_of (program_findings typed) e)
