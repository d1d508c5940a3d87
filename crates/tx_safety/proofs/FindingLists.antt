-- The unsafe parts of functions, units and programs, found one after the other.
use Rattle.std.proofs.Common.{◌≡◌, ◌∙◌, ◌⊎◌, inl, inr, ◌<◌, ◌≤◌, ◌+◌, ◌++◌, ℕ, Bool, List, [], ◌∷◌, Option, Some, None, map, fold, get_or, drop, length}
use Rattle.std.proofs.Common.{slice_get, ap, sym, subst, arith, refl}
use Rattle.std.specs.List.{flat_map}
use Rattle.std.proofs.Math.Path.{fun_ext}
use Rattle.std.proofs.lemmas.List.{drop_more, drop_all, length-append}
use Rattle.std.proofs.lemmas.Bool.{cases_lt}
use Rattle.std.proofs.lemmas.Option.{slice_get_read, slice_get_within}
use Rattle.std.specs.Global.{Vec}
use Rattle.cpp_tree.specs.declared.program.UnitTree.{UnitTree}
use Rattle.std.proofs.lemmas.List.Sums.{fold-append}
use Rattle.cpp_tree.specs.declared.program.TFunc.{TFunc}
use Rattle.cpp_tree.specs.Trees.{Tree}
use Rattle.cpp_tree.specs.Units.{Func, func_of, unit_of, Unit as TypedUnit}
use Rattle.tx_unsafe.specs.declared.finding.Finding.{Finding}
use Rattle.tx_unsafe.specs.declared.finding.CallSite.{CallSite}
use Rattle.tx_unsafe.specs.Unsafe.{own_findings, calls_of}
use Rattle.tx_safety.specs.Safe.{is_promised, call_findings, func_findings, funcs_findings, safe, unit_findings}
use Rattle.tx_unsafe.specs.First.{sooner}
use Rattle.tx_safety.specs.Marks.{may_from, AreUnitMarks}
use Rattle.tx_safety.proofs.Contents.{slice_get_front, slice_get_last}

pub func_found : (v : ℕ → Bool) (may : ℕ → ℕ → Bool) (n : ℕ) (f : Func) (whole : Bool) (found first last : Option Finding) (calls others : List CallSite)
    → whole ≡ is_promised f
    → first ≡ fold sooner found (own_findings v whole f) → calls ≡ calls_of whole f → others ≡ calls → last ≡ fold sooner first (call_findings may n others)
    → last ≡ fold sooner found (func_findings v may n f)
func_found v may n f whole found first last calls others w a b o e = e
    ∙ ap (λ z. fold sooner first (call_findings may n z)) (o ∙ b)
    ∙ ap (λ z. fold sooner z (call_findings may n (calls_of whole f))) a
    ∙ ap (λ z. fold sooner (fold sooner found (own_findings v z f)) (call_findings may n (calls_of z f))) w
    ∙ sym (fold-append sooner found (own_findings v (is_promised f) f) (call_findings may n (calls_of (is_promised f) f)))

pub next_func : (v : ℕ → Bool) (may : ℕ → ℕ → Bool) (trees : List Tree) (funcs : List TFunc) (n : ℕ) (f : TFunc) (found next all : Option Finding)
    → n < length funcs → f ≡ get_or funcs n f
    → next ≡ fold sooner found (func_findings v may n (func_of trees f)) → fold sooner found (funcs_findings v may n (map (func_of trees) (drop n funcs))) ≡ all
    → fold sooner next (funcs_findings v may (n + 1) (map (func_of trees) (drop (n + 1) funcs))) ≡ all
next_func v may trees funcs n f found next all l r e h =
    ap (λ z. fold sooner z (funcs_findings v may (n + 1) (map (func_of trees) (drop (n + 1) funcs)))) e
    ∙ sym (fold-append sooner found (func_findings v may n (func_of trees f)) (funcs_findings v may (n + 1) (map (func_of trees) (drop (n + 1) funcs))))
    ∙ sym (ap (λ z. fold sooner found (funcs_findings v may n (map (func_of trees) z))) (drop_more funcs n f l ∙ ap (λ z. z ∷ drop (n + 1) funcs) (sym r))) ∙ h

pub last_func : (v : ℕ → Bool) (may : ℕ → ℕ → Bool) (trees : List Tree) (funcs : List TFunc) (n : ℕ) (found all : Option Finding) → length funcs ≤ n
    → fold sooner found (funcs_findings v may n (map (func_of trees) (drop n funcs))) ≡ all → found ≡ all
last_func v may trees funcs n found all l h = ap (λ z. fold sooner found (funcs_findings v may n (map (func_of trees) z))) (sym (drop_all n funcs l)) ∙ h

-- the marks of a unit allow what its functions do
pub unit_found : (v : ℕ → Bool) (marks : List (Option ℕ)) (u : TypedUnit) (found last : Option Finding)
    → ((place n : ℕ) → may_from marks place n ≡ safe v u.funcs place n)
    → last ≡ fold sooner found (funcs_findings v (may_from marks) 0 u.funcs) → last ≡ fold sooner found (unit_findings v u)
unit_found v marks u found last k h = h ∙ ap (λ z. fold sooner found (funcs_findings v z 0 u.funcs)) (fun_ext (λ place. fun_ext (λ n. k place n)))

-- Unit by unit

pub next_unit : (v : ℕ → Bool) (units : List UnitTree) (n : ℕ) (u : UnitTree) (found next all : Option Finding) → n < length units → u ≡ get_or units n u
    → next ≡ fold sooner found (unit_findings v (unit_of u))
    → fold sooner found (flat_map (unit_findings v) (map unit_of (drop n units))) ≡ all
    → fold sooner next (flat_map (unit_findings v) (map unit_of (drop (n + 1) units))) ≡ all
next_unit v units n u found next all l r e h =
    ap (λ z. fold sooner z (flat_map (unit_findings v) (map unit_of (drop (n + 1) units)))) e
    ∙ sym (fold-append sooner found (unit_findings v (unit_of u)) (flat_map (unit_findings v) (map unit_of (drop (n + 1) units))))
    ∙ sym (ap (λ z. fold sooner found (flat_map (unit_findings v) (map unit_of z))) (drop_more units n u l ∙ ap (λ z. z ∷ drop (n + 1) units) (sym r))) ∙ h

pub next_marks : (v : ℕ → Bool) (units : List UnitTree) (all new : List (Vec (Option ℕ))) (i : ℕ) (u : UnitTree) (m : Vec (Option ℕ)) → length all ≡ i
    → AreUnitMarks v units all → new ≡ all ++ m ∷ []
    → i < length units → u ≡ get_or units i u → ((place n : ℕ) → may_from m.items place n ≡ safe v (unit_of u).funcs place n) → AreUnitMarks v units new
next_marks v units all new i u m l a e b r h = record { each = λ n g d p q. here n g d p (sym (ap (λ z. slice_get z n) e) ∙ q) (cases_lt n (length all)) }
  where
    here : (n : ℕ) (g : UnitTree) (d : Vec (Option ℕ)) → slice_get units n ≡ Some g → slice_get (all ++ m ∷ []) n ≡ Some d → (n < length all) ⊎ (length all ≤ n)
        → (place k : ℕ) → may_from d.items place k ≡ safe v (unit_of g).funcs place k
    here n g d p q (inl k) = a.each n g d p (sym (slice_get_front all (m ∷ []) n k) ∙ q)
    here n g d p q (inr k) =
        let j : n < length (all ++ m ∷ []) = slice_get_within (all ++ m ∷ []) n d q in
        let w : length (all ++ m ∷ []) ≡ length all + 1 = length-append all (m ∷ []) in
        let y : n ≡ i = omega arith in
        let x : slice_get units i ≡ Some u = slice_get_read units (length units) i u refl b r in
        let t : slice_get units n ≡ slice_get units i = ap (slice_get units) y in
        let o : u ≡ g = cc in
        let f : slice_get (all ++ m ∷ []) n ≡ Some m = ap (slice_get (all ++ m ∷ [])) (y ∙ sym l) ∙ slice_get_last all m in
        let s : m ≡ d = cc in
        subst (λ z. (place k : ℕ) → may_from d.items place k ≡ safe v (unit_of z).funcs place k) o
        (subst (λ z. (place k : ℕ) → may_from z.items place k ≡ safe v (unit_of u).funcs place k) s h)
