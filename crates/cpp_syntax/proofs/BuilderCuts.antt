-- A builder that is cut back.
use Rattle.std.proofs.Common.{◌≡◌, ℕ, zero, suc, ◌+◌, ◌<◌, ◌≤◌, nat_lt, nat_le, ◌&&◌, if◌then◌else◌, true, List, [], ◌∷◌, ◌++◌, length, map, take, drop, get_or}
use Rattle.std.proofs.Common.{refl, sym, ◌∙◌, nat_eq, ap, subst, arith, length-append, length-take-le, append-nil}
use Rattle.std.specs.List.{concat, list_all, sum_by, count_by}
use Rattle.std.proofs.lemmas.Bool.{and_parts, and_from}
use Rattle.std.proofs.lemmas.List.{map-append, length-map, take-append-drop, take-append-le, take-map}
use Rattle.std.proofs.lemmas.List.Folds.{concat-append}
use Rattle.std.proofs.lemmas.List.Sums.{sum_by-take-drop}
use Rattle.std.proofs.Math.Seq.{take-append_seam}
use Rattle.cpp_ast.specs.declared.arena.Node.{Node}
use Rattle.cpp_ast.specs.declared.arena.NodeId.{NodeId}
use Rattle.cpp_ast.specs.Orders.{are_below}
use Rattle.cpp_ast.specs.Trees.{Trees}
use Rattle.cpp_ast.specs.Units.{times_in, times_a_kid}
use Rattle.cpp_syntax.specs.declared.positions.Checkpoint.{Checkpoint}
use Rattle.cpp_syntax.specs.declared.positions.OpenBody.{OpenBody}
use Rattle.cpp_syntax.specs.Gathers.{last_or_none}
use Rattle.cpp_syntax.specs.Derivations.{Body, Read}
use Rattle.cpp_syntax.specs.View.{BuilderState, EachShows, appended, builder_state, count_trees, count_lambdas_in, IsBuilt, IsMark, body_of, lams_of}
use Rattle.cpp_syntax.specs.View.{lambdas_at, lambdas_from, lambdas_made, running, trees_at, values_from}
use Rattle.cpp_syntax.proofs.NodeValues.{below_take}
use Rattle.cpp_syntax.proofs.TreeLists.{as_many}
use Rattle.cpp_syntax.proofs.GatheredNodes.{each_take, running_take, front_and_back}
use Rattle.cpp_syntax.proofs.BuilderViews.{since, same_building}

-- the last running total is the sum of all
last_running : (sum : ℕ) (xss : List (List ℕ)) → last_or_none (sum ∷ running sum xss) ≡ sum + length (concat xss)
last_running sum [] = omega arith
last_running sum (xs ∷ xss) =
    let rest = last_running (sum + length xs) xss in
    let both = length-append xs (concat xss) in
    omega (arith, rest, both)

last_total : (xss : List (List ℕ)) → last_or_none (running 0 xss) ≡ length (concat xss)
last_total [] = refl
last_total (xs ∷ xss) =
    let rest = last_running (0 + length xs) xss in
    let both = length-append xs (concat xss) in
    omega (arith, rest, both)

last_taken : (start : ℕ) (nodes : List Node) (ids : List NodeId) (totals : List ℕ) → totals ≡ running 0 (lambdas_from nodes ids)
    → last_or_none (take start totals) ≡ length (lambdas_at nodes (take start ids))
last_taken start nodes ids totals counted =
    ap (λ (ns : List ℕ). last_or_none (take start ns)) counted ∙ ap last_or_none (running_take start 0 (lambdas_from nodes ids))
    ∙ last_total (take start (lambdas_from nodes ids)) ∙ ap (λ (xss : List (List ℕ)). length (concat xss))
    (take-map (λ (id : NodeId). get_or (values_from [] lambdas_made [] nodes) id.0 []) start ids)

pub lambdas_taken : (start : ℕ) (nodes : List Node) (ids : List NodeId)
    → take (length (lambdas_at nodes (take start ids))) (lambdas_at nodes ids) ≡ lambdas_at nodes (take start ids)
lambdas_taken start nodes ids =
    ap (take (length (lambdas_at nodes (take start ids)))) (sym (front_and_back nodes start ids))
    ∙ take-append_seam (lambdas_at nodes (take start ids)) (lambdas_at nodes (drop start ids))

below_cut : (index n : ℕ) (lams : List ℕ) → list_all (λ (lam : ℕ). nat_lt lam index) lams ≡ true → list_all (λ (lam : ℕ). nat_lt lam index) (take n lams) ≡ true
below_cut index zero lams h = refl
below_cut index (suc n) [] h = refl
below_cut index (suc n) (lam ∷ lams) h =
    let parts = and_parts (nat_lt lam index) (list_all (λ (l : ℕ). nat_lt l index) lams) h in
    and_from (nat_lt lam index) (list_all (λ (l : ℕ). nat_lt l index) (take n lams)) parts.0 (below_cut index n lams parts.1)

few_in : (k start : ℕ) (ids : List NodeId) → times_in k (take start ids) ≤ times_in k ids
few_in k start ids = let whole = sum_by-take-drop (λ (i : NodeId). if nat_eq i.0 k then 1 else 0) ids start in omega (arith, whole)

pub built_cut : (base : ℕ) (nodes : List Node) (ids ids' : List NodeId) (start : ℕ) (totals totals' : List ℕ) (bodies bodies' : List OpenBody)
    → IsBuilt base nodes ids totals bodies → ids' ≡ take start ids → totals' ≡ take start totals → bodies' ≡ take (last_or_none totals') bodies
    → IsBuilt base nodes ids' totals' bodies'
built_cut base nodes ids ids' start totals totals' bodies bodies' inv cut cut_totals cut_bodies =
    let number : last_or_none totals' ≡ length (lambdas_at nodes (take start ids)) = ap last_or_none cut_totals ∙ last_taken start nodes ids totals
    inv.counted in
    let lams : lams_of bodies' ≡ take (last_or_none totals') (lams_of bodies) = ap (λ (bs : List OpenBody). lams_of bs) cut_bodies ∙ sym
    (take-map (λ (body : OpenBody). body.lam.0) (last_or_none totals') bodies) in
    let at : NodeId → List ℕ = λ (id : NodeId). get_or (values_from [] lambdas_made [] nodes) id.0 [] in
    record {
      within = inv.within;
      below = ap (are_below (length nodes)) cut ∙ below_take (length nodes) start ids inv.below;
      lams_below =
          ap (list_all (λ (lam : ℕ). nat_lt lam (length nodes))) lams ∙ below_cut (length nodes) (last_or_none totals') (lams_of bodies)
          inv.lams_below;
      shows = subst (EachShows nodes) (sym cut) (each_take nodes start ids inv.shows);
      apart = λ k.
          let fewer = few_in k start ids in
          let same : times_in k ids' ≡ times_in k (take start ids) = ap (λ (is : List NodeId). times_in k is) cut in
          let before = inv.apart k in
          omega (arith, fewer, same, before);
      lambdas =
          lams ∙ ap (take (last_or_none totals')) inv.lambdas ∙ ap (λ (n : ℕ). take n (lambdas_at nodes ids)) number ∙ lambdas_taken start nodes ids
          ∙ ap (λ (is : List NodeId). lambdas_at nodes is) (sym cut);
      counted =
          cut_totals ∙ ap (take start) inv.counted ∙ running_take start 0 (lambdas_from nodes ids) ∙ ap (running 0) (take-map at start ids) ∙ ap
          (λ (is : List NodeId). running 0 (lambdas_from nodes is)) (sym cut);
    }

pub cut_shown : (base : ℕ) (nodes : List Node) (ids ids' : List NodeId) (mark : Checkpoint) (totals totals' : List ℕ)
    (bodies bodies' : List OpenBody) (shown before : BuilderState) (got : Read)
    → IsBuilt base nodes ids totals bodies → builder_state base nodes ids bodies ≡ shown → ids' ≡ take mark.trees ids
    → totals' ≡ take mark.trees totals → bodies' ≡ take (last_or_none totals') bodies → IsMark mark before → shown ≡ appended before got
    → builder_state base nodes ids' bodies' ≡ before
cut_shown base nodes ids ids' mark totals totals' bodies bodies' shown before got inv view cut cut_totals cut_bodies marks e =
    let start : ℕ = mark.trees in
    let was_shown : builder_state base nodes ids bodies ≡ appended before got = view ∙ e in
    let front : trees_at nodes (take start ids) ≡ before.read.trees = (since nodes start ids before.read.trees got.trees
    (ap (λ (b : BuilderState). b.read.trees) was_shown) marks.trees).front in
    let number : last_or_none totals' ≡ length before.read.bodies = ap last_or_none cut_totals ∙ last_taken start nodes ids totals inv.counted ∙
    as_many nodes (take start ids) ∙ ap count_lambdas_in front ∙ sym marks.bodies in
    same_building (take base nodes) before.base (trees_at nodes ids') before.read.trees (map (body_of nodes) bodies') before.read.bodies
    (ap (λ (b : BuilderState). b.base) was_shown)
    (ap (λ (is : List NodeId). trees_at nodes is) cut ∙ front)
    (ap (map (body_of nodes)) cut_bodies ∙ sym (take-map (body_of nodes) (last_or_none totals') bodies) ∙ ap (take (last_or_none totals'))
    (ap (λ (b : BuilderState). b.read.bodies) was_shown)
    ∙ ap (λ (n : ℕ). take n (before.read.bodies ++ got.bodies)) number ∙ take-append_seam before.read.bodies got.bodies)
