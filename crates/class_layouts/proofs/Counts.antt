-- How many classes are complete where the list of them changes.
use Rattle.std.proofs.Common.{◌≡◌, ◌∙◌, ℕ, ◌+◌, ◌<◌, Bool, true, cond, List, [], ◌∷◌, ◌++◌, set, take, drop, length, get_or, Option, None, is_some}
use Rattle.std.proofs.Common.{sym, ap, arith}
use Rattle.std.proofs.lemmas.List.Sums.{sum_by_push, sum_by-take-drop, sum_by-set}
use Rattle.std.proofs.lemmas.Option.{slice_get-get_or}
use Rattle.std.specs.Option.{option_and_then}
use Rattle.cpp_types.specs.Class.{Class, completion_of}
use Rattle.elab_ctx.specs.Layouts.{completed_in}

abbrev pub one_of : Class → ℕ
one_of c = cond (is_some c.complete) 1 0

pub counted_push : (classes : List Class) (c : Class) → completed_in (classes ++ c ∷ []) ≡ completed_in classes + one_of c
counted_push classes c = sum_by_push one_of classes c

pub counted_cut : (classes : List Class) (n : ℕ) → completed_in (take n classes) + completed_in (drop n classes) ≡ completed_in classes
counted_cut classes n = sum_by-take-drop one_of classes n

none_before : (classes : List Class) (n : ℕ) (d : Class) → n < length classes → completion_of classes n ≡ None → one_of (get_or classes n d) ≡ 0
none_before classes n d h e = ap (λ (z : Option ℕ). cond (is_some z) 1 0)
    (sym (ap (option_and_then (λ (c : Class). c.complete)) (slice_get-get_or classes n d h)) ∙ e)

-- one that was not complete becomes complete
pub counted_put : (classes : List Class) (n : ℕ) (c : Class) → n < length classes → completion_of classes n ≡ None → is_some c.complete ≡ true
    → completed_in (set classes n c) ≡ completed_in classes + 1
counted_put classes n c h e k =
    let a : completed_in (set classes n c) + one_of (get_or classes n c) ≡ completed_in classes + one_of c = sum_by-set one_of classes n c c h in
    let b = none_before classes n c h e in
    let d : one_of c ≡ 1 = ap (λ (z : Bool). cond z 1 0) k in
    omega arith
