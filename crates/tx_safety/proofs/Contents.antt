-- What stands in definitions, and the marks that come of it.
use Rattle.std.proofs.Common.{◌≡◌, ◌∙◌, ◌⊎◌, inl, inr, zero, suc, ◌<◌, ◌≤◌, ◌+◌, ◌&&◌, ◌++◌, ℕ, Bool, true, false, List, [], ◌∷◌, Option, Some, None, cond, map}
use Rattle.std.proofs.Common.{fold, get_or, length, slice_get, is_some, is_none, ap, sym, subst, arith, refl}
use Rattle.std.specs.Prelude.{option_map, option_and_then}
use Rattle.std.specs.List.{list_all}
use Rattle.std.proofs.lemmas.Bool.{cases_lt}
use Rattle.std.proofs.lemmas.List.{length-append}
use Rattle.std.proofs.lemmas.Option.{slice_get_read, slice_get-map, slice_get_within}
use Rattle.cpp_tree.specs.declared.program.TFunc.{TFunc}
use Rattle.cpp_tree.specs.Trees.{Tree}
use Rattle.cpp_tree.specs.Units.{Func, func_of}
use Rattle.tx_unsafe.specs.declared.finding.Finding.{Finding}
use Rattle.tx_unsafe.specs.declared.finding.CallSite.{CallSite}
use Rattle.tx_unsafe.specs.declared.walk.Contents.{Contents}
use Rattle.tx_unsafe.specs.Unsafe.{own_findings, calls_of}
use Rattle.tx_safety.specs.Safe.{is_promised, is_empty}
use Rattle.tx_unsafe.specs.First.{is_before, sooner}
use Rattle.tx_safety.specs.Marks.{mark_at, is_marked_call, latest, mark_by, mark_of, new_mark_of, new_mark, IsContents, AreContents}

pub slice_get_front : {A : Type 0} (xs ys : List A) (n : ℕ) → n < length xs → slice_get (xs ++ ys) n ≡ slice_get xs n
slice_get_front [] ys n l = absurd (omega arith)
slice_get_front (x ∷ xs) ys zero l = refl
slice_get_front (x ∷ xs) ys (suc n) l = slice_get_front xs ys n (omega arith)

pub slice_get_last : {A : Type 0} (xs : List A) (x : A) → slice_get (xs ++ x ∷ []) (length xs) ≡ Some x
slice_get_last [] x = refl
slice_get_last (y ∷ xs) x = slice_get_last xs x

pub mark_of_is : (marks : List (Option ℕ)) (n : ℕ) (f : Func) (p c clean : Bool) (calls others : List CallSite) → p ≡ is_promised f
    → c ≡ (is_some f.body && clean) → calls ≡ others
    → mark_by p c f.implicit f.declared.is_virtual (list_all (is_marked_call marks n) calls) (latest marks n calls) f.closed_at ≡ mark_of marks n f clean others
mark_of_is marks n f p c clean calls others a b e =
    ap (λ z. mark_by z c f.implicit f.declared.is_virtual (list_all (is_marked_call marks n) calls) (latest marks n calls) f.closed_at) a
    ∙ ap (λ z. mark_by (is_promised f) z f.implicit f.declared.is_virtual (list_all (is_marked_call marks n) calls) (latest marks n calls) f.closed_at) b
    ∙ ap (λ z. mark_by (is_promised f) (is_some f.body && clean) f.implicit f.declared.is_virtual (list_all (is_marked_call marks n) z)
    (latest marks n z) f.closed_at) e

pub still_some_if : (b : Bool) (x y : Finding) (xs : List Finding) → ((z : Finding) → is_none (fold sooner (Some z) xs) ≡ false)
    → is_none (fold sooner (cond b (Some x) (Some y)) xs) ≡ false
still_some_if true x y xs h = h x
still_some_if false x y xs h = h y

pub still_some : (y : Finding) (xs : List Finding) → is_none (fold sooner (Some y) xs) ≡ false
still_some y [] = refl
still_some y (x ∷ xs) = still_some_if (is_before x.at y.at) x y xs (λ z. still_some z xs)

pub none_first : (xs : List Finding) → is_none (fold sooner None xs) ≡ is_empty xs
none_first [] = refl
none_first (x ∷ xs) = still_some x xs

pub new_mark_is : (v : ℕ → Bool) (trees : List Tree) (funcs : List TFunc) (marks : List (Option ℕ)) (n : ℕ) (f : TFunc) (c : Contents)
    → slice_get funcs n ≡ Some f → IsContents v (func_of trees f) c
    → cond (is_some (mark_at marks n)) None (mark_of marks n (func_of trees f) (is_none c.first) c.calls.items) ≡ new_mark v (map (func_of trees) funcs) marks n
new_mark_is v trees funcs marks n f c g h =
    ap (λ z. cond (is_some (mark_at marks n)) None (mark_of marks n (func_of trees f) z c.calls.items))
    (ap is_none h.first ∙ none_first (own_findings v true (func_of trees f)))
    ∙ ap (λ z. cond (is_some (mark_at marks n)) None (mark_of marks n (func_of trees f) (is_empty (own_findings v true (func_of trees f))) z)) h.calls
    ∙ sym (ap (option_and_then (new_mark_of v marks n)) (slice_get-map (func_of trees) funcs n ∙ ap (option_map (func_of trees)) g))

pub next_contents : (v : ℕ → Bool) (trees : List Tree) (funcs : List TFunc) (all new : List Contents) (i : ℕ) (f : TFunc) (c : Contents) → length all ≡ i
    → AreContents v trees funcs all → new ≡ all ++ c ∷ []
    → i < length funcs → f ≡ get_or funcs i f → IsContents v (func_of trees f) c → AreContents v trees funcs new
next_contents v trees funcs all new i f c l a e b r h =
    record { each = λ n g d p q. here n g d p (sym (ap (λ z. slice_get z n) e) ∙ q) (cases_lt n (length all)) }
  where
    here : (n : ℕ) (g : TFunc) (d : Contents) → slice_get funcs n ≡ Some g → slice_get (all ++ c ∷ []) n ≡ Some d → (n < length all) ⊎ (length all ≤ n)
        → IsContents v (func_of trees g) d
    here n g d p q (inl k) = a.each n g d p (sym (slice_get_front all (c ∷ []) n k) ∙ q)
    here n g d p q (inr k) =
        let m : n < length (all ++ c ∷ []) = slice_get_within (all ++ c ∷ []) n d q in
        let w : length (all ++ c ∷ []) ≡ length all + 1 = length-append all (c ∷ []) in
        let y : n ≡ i = omega arith in
        let x : slice_get funcs i ≡ Some f = slice_get_read funcs (length funcs) i f refl b r in
        let u : slice_get funcs n ≡ slice_get funcs i = ap (slice_get funcs) y in
        let o : f ≡ g = cc in
        let t : slice_get (all ++ c ∷ []) n ≡ Some c = ap (slice_get (all ++ c ∷ [])) (y ∙ sym l) ∙ slice_get_last all c in
        let s : c ≡ d = cc in
        subst (λ z. IsContents v (func_of trees z) d) o (subst (λ z. IsContents v (func_of trees f) z) s h)
