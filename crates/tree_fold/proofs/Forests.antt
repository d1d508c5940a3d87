-- Trees of their own are added body by body, and units one by one.
use Rattle.std.proofs.Common.{◌≡◌, ◌≤◌, ◌<◌, ℕ, zero, suc, ◌+◌, nat_lt, nat_eq, Bool, true, false, List, [], ◌∷◌, ◌++◌, length, take, set, slice_get}
use Rattle.std.proofs.Common.{refl, sym, ◌∙◌, ap, subst, arith, append-nil, append_assoc, add-one, Option, Some, None, cond}
use Rattle.std.proofs.lemmas.Bool.{ltb-true, ltb-false}
use Rattle.std.proofs.lemmas.List.Sums.{sum_by-cons}
use Rattle.std.proofs.lemmas.Option.{slice_get_within}
use Rattle.cpp_tree.specs.declared.arena.TNode.{TNode}
use Rattle.cpp_tree.specs.declared.arena.TNodeId.{TNodeId}
use Rattle.cpp_tree.specs.declared.program.TFunc.{TFunc}
use Rattle.cpp_tree.specs.declared.program.UnitTree.{UnitTree}
use Rattle.cpp_tree.specs.Arena.{times_in}
use Rattle.cpp_tree.specs.Typing.{passes}
use Rattle.cpp_tree.specs.WellFormed.{is_root, times_a_body}
use Rattle.tree_forests.specs.Copies.{OwnForest}
use Rattle.tree_forests.specs.Forests.{HasForest, HaveForests}
use Rattle.tree_forests.proofs.Behind.{in_both, forest_then}
use Rattle.tree_forests.proofs.Forests.{unit_forest}
use Rattle.tree_fold.specs.Forests.{body_root, body_roots, ForestsUpTo}
use Rattle.tree_fold.proofs.ProgramParts.{take_set_next, take_past}

-- Bodies

roots_push : (fs : List TFunc) (f : TFunc) → body_roots (fs ++ f ∷ []) ≡ body_roots fs ++ body_root f.body
roots_push [] f = append-nil (body_root f.body)
roots_push (g ∷ fs) f = ap (λ (z : List TNodeId). body_root g.body ++ z) (roots_push fs f)
    ∙ sym (append_assoc (body_root g.body) (body_roots fs) (body_root f.body))

pub next_root : (old now next : List TNode) (i : ℕ) (funcs new : List TFunc) (f : TFunc) (body : Option TNodeId)
    → OwnForest old now (body_roots (take i funcs)) → i < length funcs → OwnForest now next (body_root body) → new ≡ set funcs i (record f { body = body })
    → OwnForest old next (body_roots (take (i + 1) new))
next_root old now next i funcs new f body h l g e =
    let w : TFunc = record f { body = body } in
    let front : take (i + 1) new ≡ take i funcs ++ w ∷ [] = rw (add-one i) (ap (take (suc i)) e ∙ take_set_next funcs i w l) in
    subst (OwnForest old next) (sym (ap body_roots front ∙ roots_push (take i funcs) w))
    (forest_then old now next (body_roots (take i funcs)) (body_root body) h g)

pub all_roots : (old now : List TNode) (i : ℕ) (funcs : List TFunc) → OwnForest old now (body_roots (take i funcs)) → length funcs ≤ i
    → OwnForest old now (body_roots funcs)
all_roots old now i funcs h l = subst (OwnForest old now) (ap body_roots (take_past funcs i l)) h

-- Units

root_times : (n : ℕ) (o : Option TNodeId) → times_in n (body_root o) ≡ cond (passes (λ (root : TNodeId). nat_eq root.0 n) o) 1 0
root_times n None = refl
root_times n (Some id) =
    let e : times_in n (body_root (Some id)) ≡ 0 + cond (nat_eq id.0 n) 1 0 = refl in
    let f : ◌≡◌ {A = ℕ} (cond (passes (λ (root : TNodeId). nat_eq root.0 n) (Some id)) 1 0) (cond (nat_eq id.0 n) 1 0) = refl in
    omega (arith, e, f)

roots_times : (n : ℕ) (fs : List TFunc) → times_in n (body_roots fs) ≡ times_a_body n fs
roots_times n [] = refl
roots_times n (f ∷ fs) = in_both n (body_root f.body) (body_roots fs) ∙ ap (λ (z : ℕ). z + times_in n (body_roots fs)) (root_times n f.body)
    ∙ ap (λ (z : ℕ). cond (is_root n f) 1 0 + z) (roots_times n fs) ∙ sym (sum_by-cons (λ (g : TFunc). cond (is_root n g) 1 0) f fs)

pub own_trees : (u : UnitTree) → OwnForest [] u.nodes.items (body_roots u.funcs.items) → HasForest u
own_trees u h = unit_forest u (body_roots u.funcs.items) h
    (record { few = λ n. let e = roots_times n u.funcs.items in let z : 0 ≤ times_a_body n [] = omega arith in omega (arith, e, z) })

get_set_same : {A : Type 0} (xs : List A) (i : ℕ) (y x : A) → slice_get (set xs i y) i ≡ Some x → y ≡ x
get_set_same [] i y x e = absurd cc
get_set_same (z ∷ xs) zero y x e = cc
get_set_same (z ∷ xs) (suc i) y x e = get_set_same xs i y x e

get_set_before : {A : Type 0} (xs : List A) (i n : ℕ) (y : A) → n < i → slice_get (set xs i y) n ≡ slice_get xs n
get_set_before [] i n y h = refl
get_set_before (x ∷ xs) zero n y h = absurd (omega arith)
get_set_before (x ∷ xs) (suc i) zero y h = refl
get_set_before (x ∷ xs) (suc i) (suc n) y h = get_set_before xs i n y (omega arith)

pub no_units : (units : List UnitTree) → ForestsUpTo 0 units
no_units units = record { each = λ n u l e. absurd (omega (arith, l)) }

pub next_own : (units new : List UnitTree) (i : ℕ) (w : UnitTree) → ForestsUpTo i units → new ≡ set units i w → HasForest w → ForestsUpTo (i + 1) new
next_own units new i w h e o = record { each = λ n u l s. by n u l s (nat_lt n i) refl }
  where
    by : (n : ℕ) (u : UnitTree) → n < i + 1 → slice_get new n ≡ Some u → (b : Bool) → nat_lt n i ≡ b → HasForest u
    by n u l s true f = h.each n u (ltb-true n i f) (sym (get_set_before units i n w (ltb-true n i f)) ∙ sym (ap (λ (z : List UnitTree). slice_get z n) e) ∙ s)
    by n u l s false f =
        let m = ltb-false n i f in
        let k : n ≡ i = omega (arith, l, m) in
        let here : slice_get (set units i w) i ≡ Some u = subst (λ (z : ℕ). slice_get (set units i w) z ≡ Some u) k
        (sym (ap (λ (z : List UnitTree). slice_get z n) e) ∙ s) in
        subst HasForest (get_set_same units i w u here) o

pub all_own : (units : List UnitTree) (i : ℕ) → ForestsUpTo i units → length units ≤ i → HaveForests units
all_own units i h l = record { each = λ n u s. let m = slice_get_within units n u s in h.each n u (omega (arith, l, m)) s }
