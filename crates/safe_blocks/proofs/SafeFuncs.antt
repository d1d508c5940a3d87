-- What a program without unsafe parts has in the bodies of its functions.
use Rattle.std.proofs.Common.{◌≡◌, ◌∙◌, ℕ, zero, suc, ◌+◌, ◌==◌, nat_le, Bool, true, false, not, ◌&&◌, ◌||◌, List, [], ◌∷◌, Option, Some, None, cond, length}
use Rattle.std.proofs.Common.{slice_get, is_some, ap, sym, subst, arith, refl, eqb-true}
use Rattle.std.specs.List.{list_all, flat_map}
use Rattle.std.proofs.lemmas.Bool.{false≢true, and_parts, and_from}
use Rattle.cpp_tree.specs.cpp_types.declared.classes.At.{At}
use Rattle.cpp_tree.specs.declared.faults.UnsafeReason.{UnsafeReason}
use Rattle.cpp_tree.specs.Typing.{passes}
use Rattle.cpp_tree.specs.Units.{Func}
use Rattle.tx_unsafe.specs.declared.finding.CallSite.{CallSite}
use Rattle.tx_unsafe.specs.Unsafe.{where_so, own_findings, calls_of}
use Rattle.tx_unsafe.proofs.ClassMarks.{or_more}
use Rattle.tx_safety.specs.Safe.{is_promised, is_passed, judged_at, may_call, is_empty, has_safe_definition, is_safe_by, safe_within, safe, unit_end}
use Rattle.tx_safety.specs.Safe.{is_allowed, call_finding, call_findings, func_findings, funcs_findings}
use Rattle.tx_safety.proofs.FuncMarks.{and_more, all_more, within_more}
use Rattle.safe_blocks.proofs.TameTrees.{nothing_left, nothing_right, calls_safe}

-- Lists of findings

pub from_all : {A B : Type 0} (f : A → List B) (xs : List A) (i : ℕ) (x : A) → flat_map f xs ≡ [] → slice_get xs i ≡ Some x → f x ≡ []
from_all f [] i x h e = absurd cc
from_all f (y ∷ ys) zero x h e = let s : y ≡ x = cc in subst (λ z. f z ≡ []) s (nothing_left (f y) (flat_map f ys) h)
from_all f (y ∷ ys) (suc i) x h e = from_all f ys i x (nothing_right (f y) (flat_map f ys) h) e

pub from_funcs : (v : ℕ → Bool) (may : ℕ → ℕ → Bool) (m : ℕ) (fs : List Func) (i : ℕ) (f : Func) → funcs_findings v may m fs ≡ [] → slice_get fs i ≡ Some f
    → func_findings v may (m + i) f ≡ []
from_funcs v may m [] i f h e = absurd cc
from_funcs v may m (g ∷ gs) zero f h e = let s : g ≡ f = cc in let z : m ≡ m + zero = omega arith in
    subst (λ k. func_findings v may k f ≡ []) z (subst (λ k. func_findings v may m k ≡ []) s
    (nothing_left (func_findings v may m g) (funcs_findings v may (m + 1) gs) h))
from_funcs v may m (g ∷ gs) (suc i) f h e = let z : (m + 1) + i ≡ m + suc i = omega arith in
    subst (λ k. func_findings v may k f ≡ []) z (from_funcs v may (m + 1) gs i f
    (nothing_right (func_findings v may m g) (funcs_findings v may (m + 1) gs) h) e)

-- Places: what is safe at one is so at the end

pub record AreClosed (funcs : List Func) : Type 0 where
  pub closed : (n : ℕ) (f : Func) → slice_get funcs n ≡ Some f → nat_le f.closed_at unit_end ≡ true

passed_at_end : (place : ℕ) (f : Func) → nat_le f.closed_at unit_end ≡ true → is_passed place f ≡ true → is_passed unit_end f ≡ true
passed_at_end place f c h = or_more f.implicit (not f.declared.is_virtual && nat_le f.closed_at place) f.implicit
    (not f.declared.is_virtual && nat_le f.closed_at unit_end) (λ x. x)
    (and_more (not f.declared.is_virtual) (nat_le f.closed_at place) (not f.declared.is_virtual) (nat_le f.closed_at unit_end) (λ x. x) (λ x. c)) h

judged_end : (may : ℕ → ℕ → Bool) (implicit : Bool) (place offset n : ℕ) → ((place n : ℕ) → may place n ≡ true → may unit_end n ≡ true)
    → may (cond implicit place offset) n ≡ true → may (cond implicit unit_end offset) n ≡ true
judged_end may true place offset n g h = g place n h
judged_end may false place offset n g h = h

by_at_end : (v : ℕ → Bool) (may : ℕ → ℕ → Bool) → ((place m : ℕ) → may place m ≡ true → may unit_end m ≡ true) → (place n : ℕ) (f : Func)
    → nat_le f.closed_at unit_end ≡ true
    → is_safe_by v may place n f ≡ true → is_safe_by v may unit_end n f ≡ true
by_at_end v may g place n f c h = or_more (is_promised f) (is_passed place f && has_safe_definition v may place n f) (is_promised f)
    (is_passed unit_end f && has_safe_definition v may unit_end n f) (λ x. x)
    (and_more (is_passed place f) (has_safe_definition v may place n f) (is_passed unit_end f) (has_safe_definition v may unit_end n f)
    (passed_at_end place f c)
    (and_more (is_some f.body && is_empty (own_findings v true f)) (list_all (may_call may place n f) (calls_of true f))
    (is_some f.body && is_empty (own_findings v true f)) (list_all (may_call may unit_end n f) (calls_of true f)) (λ x. x)
    (all_more (may_call may place n f) (may_call may unit_end n f)
    (λ site. or_more (site.func == n) (may (judged_at place f site) site.func) (site.func == n) (may (judged_at unit_end f site) site.func) (λ x. x)
    (judged_end may f.implicit place site.at.offset site.func g)) (calls_of true f))))
    h

end_found : (v : ℕ → Bool) (funcs : List Func) → AreClosed funcs → (may : ℕ → ℕ → Bool) → ((place m : ℕ) → may place m ≡ true → may unit_end m ≡ true)
    → (place n : ℕ) (o : Option Func) → slice_get funcs n ≡ o
    → passes (is_safe_by v may place n) o ≡ true → passes (is_safe_by v may unit_end n) o ≡ true
end_found v funcs c may g place n None e h = absurd (false≢true h)
end_found v funcs c may g place n (Some f) e h = by_at_end v may g place n f (c.closed n f e) h

at_end : (v : ℕ → Bool) (funcs : List Func) → AreClosed funcs → (depth place n : ℕ) → safe_within depth v funcs place n ≡ true
    → safe_within depth v funcs unit_end n ≡ true
at_end v funcs c zero place n h = absurd (false≢true h)
at_end v funcs c (suc d) place n h = end_found v funcs c (safe_within d v funcs) (at_end v funcs c d) place n (slice_get funcs n) refl h

-- One function

-- a promised one is safe
promised_depth : (v : ℕ → Bool) (all : List Func) (depth n : ℕ) (f : Func) → slice_get all n ≡ Some f → is_promised f ≡ true
    → safe_within (suc depth) v all unit_end n ≡ true
promised_depth v all depth n f e p =
    subst (λ o. passes (is_safe_by v (safe_within depth v all) unit_end n) o ≡ true) (sym e)
    (ap (λ z. z || (is_passed unit_end f && has_safe_definition v (safe_within depth v all) unit_end n f)) p)

is_there : (fs : List Func) (n : ℕ) (f : Func) → slice_get fs n ≡ Some f → (depth : ℕ) × (length fs ≡ suc depth)
is_there [] n f e = absurd cc
is_there (g ∷ gs) n f e = (length gs, refl)

pub promised_safe : (v : ℕ → Bool) (fs : List Func) (n : ℕ) (f : Func) → slice_get fs n ≡ Some f → is_promised f ≡ true → safe v fs unit_end n ≡ true
promised_safe v fs n f e p = let d = is_there fs n f e in subst (λ z. safe_within z v fs unit_end n ≡ true) (sym d.1) (promised_depth v fs d.0 n f e p)

empty_nil : {A : Type 0} (xs : List A) → is_empty xs ≡ true → xs ≡ []
empty_nil [] h = refl
empty_nil (x ∷ xs) h = absurd (false≢true h)

pub record IsClean (v : ℕ → Bool) (s : ℕ → Bool) (whole : Bool) (f : Func) : Type 0 where
  pub own : own_findings v whole f ≡ []
  pub calls : list_all (calls_safe s) (calls_of whole f) ≡ true

-- a call in a safe definition, at a depth
own_call : (v : ℕ → Bool) (fs : List Func) → AreClosed fs → (depth n : ℕ) (f : Func) → safe_within (suc depth) v fs unit_end n ≡ true
    → (site : CallSite) (b : Bool) → (site.func == n) ≡ b
    → (b || safe_within depth v fs (judged_at unit_end f site) site.func) ≡ true → safe_within (suc depth) v fs unit_end site.func ≡ true
own_call v fs c depth n f h site true e m = let same : site.func ≡ n = eqb-true site.func n e in
    subst (λ z. safe_within (suc depth) v fs unit_end z ≡ true) (sym same) h
own_call v fs c depth n f h site false e m = at_end v fs c (suc depth) (judged_at unit_end f site) site.func
    (within_more v fs depth (judged_at unit_end f site) site.func m)

call_at_end : (v : ℕ → Bool) (fs : List Func) → AreClosed fs → (depth n : ℕ) (f : Func) → safe_within (suc depth) v fs unit_end n ≡ true → (site : CallSite)
    → may_call (safe_within depth v fs) unit_end n f site ≡ true
    → safe_within (suc depth) v fs unit_end site.func ≡ true
call_at_end v fs c depth n f h site m = own_call v fs c depth n f h site (site.func == n) refl m

clean_at : (v : ℕ → Bool) (fs : List Func) → AreClosed fs → (depth n : ℕ) (f : Func) → slice_get fs n ≡ Some f → is_promised f ≡ false
    → safe_within (suc depth) v fs unit_end n ≡ true
    → IsClean v (safe_within (suc depth) v fs unit_end) true f
clean_at v fs c depth n f e p h =
    let by : is_safe_by v (safe_within depth v fs) unit_end n f ≡ true = subst (λ o. passes (is_safe_by v (safe_within depth v fs) unit_end n) o ≡ true) e h in
    let d : (is_passed unit_end f && has_safe_definition v (safe_within depth v fs) unit_end n f) ≡ true =
    subst (λ z. (z || (is_passed unit_end f && has_safe_definition v (safe_within depth v fs) unit_end n f)) ≡ true) p by in
    let q = and_parts (is_passed unit_end f) (has_safe_definition v (safe_within depth v fs) unit_end n f) d in
    let r = and_parts (is_some f.body && is_empty (own_findings v true f)) (list_all (may_call (safe_within depth v fs) unit_end n f) (calls_of true f)) q.1 in
    record {
      own = empty_nil (own_findings v true f) (and_parts (is_some f.body) (is_empty (own_findings v true f)) r.0).1;
      calls = all_more (may_call (safe_within depth v fs) unit_end n f) (calls_safe (safe_within (suc depth) v fs unit_end)) (call_at_end v fs c depth n f h)
          (calls_of true f) r.1;
    }

-- a call that the check allows
where_not : (b : Bool) (at : At) (reason : UnsafeReason) → where_so (not b) at reason ≡ [] → b ≡ true
where_not true at reason h = refl
where_not false at reason h = absurd (false≢true (ap is_empty h))

all_allowed : (may : ℕ → ℕ → Bool) (s : ℕ → Bool) → ((place m : ℕ) → may place m ≡ true → s m ≡ true) → (n : ℕ) (calls : List CallSite)
    → call_findings may n calls ≡ [] → list_all (calls_safe s) calls ≡ true
all_allowed may s g n [] h = refl
all_allowed may s g n (site ∷ others) h =
    and_from _ _ (g (cond (site.func == n) unit_end site.at.offset) site.func
    (where_not (is_allowed may n site) site.at _ (nothing_left (call_finding may n site) (call_findings may n others) h)))
    (all_allowed may s g n others (nothing_right (call_finding may n site) (call_findings may n others) h))

found_clean : (v : ℕ → Bool) (fs : List Func) → AreClosed fs → (n : ℕ) (f : Func) → func_findings v (safe v fs) n f ≡ []
    → IsClean v (safe v fs unit_end) (is_promised f) f
found_clean v fs c n f h = record {
  own = nothing_left (own_findings v (is_promised f) f) (call_findings (safe v fs) n (calls_of (is_promised f) f)) h;
  calls = all_allowed (safe v fs) (safe v fs unit_end) (at_end v fs c (length fs)) n (calls_of (is_promised f) f)
      (nothing_right (own_findings v (is_promised f) f) (call_findings (safe v fs) n (calls_of (is_promised f) f)) h);
}

-- what counts of a function: all of it where it is safe
by_test : (v : ℕ → Bool) (fs : List Func) → AreClosed fs → (n : ℕ) (f : Func) (b : Bool) → slice_get fs n ≡ Some f → func_findings v (safe v fs) n f ≡ []
    → is_promised f ≡ false → safe v fs unit_end n ≡ b → IsClean v (safe v fs unit_end) b f
by_test v fs c n f true e h p s = let d = is_there fs n f e in
    subst (λ z. IsClean v (safe_within z v fs unit_end) true f) (sym d.1)
    (clean_at v fs c d.0 n f e p (subst (λ z. safe_within z v fs unit_end n ≡ true) d.1 s))
by_test v fs c n f false e h p s = subst (λ z. IsClean v (safe v fs unit_end) z f) p (found_clean v fs c n f h)

by_word : (v : ℕ → Bool) (fs : List Func) → AreClosed fs → (n : ℕ) (f : Func) (b w : Bool) → slice_get fs n ≡ Some f → func_findings v (safe v fs) n f ≡ []
    → is_promised f ≡ w → safe v fs unit_end n ≡ b → IsClean v (safe v fs unit_end) b f
by_word v fs c n f b true e h p s =
    let both : true ≡ b = sym (promised_safe v fs n f e p) ∙ s in
    subst (λ z. IsClean v (safe v fs unit_end) z f) both (subst (λ z. IsClean v (safe v fs unit_end) z f) p (found_clean v fs c n f h))
by_word v fs c n f b false e h p s = by_test v fs c n f b e h p s

pub func_clean : (v : ℕ → Bool) (fs : List Func) → AreClosed fs → (n : ℕ) (f : Func) (b : Bool) → slice_get fs n ≡ Some f → func_findings v (safe v fs) n f ≡ []
    → safe v fs unit_end n ≡ b → IsClean v (safe v fs unit_end) b f
func_clean v fs c n f b e h s = by_word v fs c n f b (is_promised f) e h refl s
