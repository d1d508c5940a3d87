-- Nodes show the trees with the bodies of lambdas in them, where they show those without, and each body shows its tree.
use Rattle.std.proofs.Common.{◌≡◌, ℕ, ◌+◌, ◌≤◌, nat_eq, Bool, true, false, if◌then◌else◌, List, [], ◌∷◌, ◌++◌, slice_get, Some, refl, sym, ◌∙◌, ap}
use Rattle.std.proofs.Common.{subst, arith, append_assoc, append-nil}
use Rattle.std.proofs.lemmas.List.Sums.{sum_by-cons}
use Rattle.cpp_ast.proofs.NodeTrees.{get_grow}
use Rattle.cpp_ast.specs.declared.arena.Node.{Node}
use Rattle.cpp_ast.specs.declared.arena.NodeId.{NodeId}
use Rattle.cpp_ast.specs.declared.units.LamBody.{LamBody}
use Rattle.cpp_ast.specs.Trees.{Tree, Trees, none, more, Shows, ShowsAll, ShowsWith, ShowsAllWith, Extends, kids_with}
use Rattle.cpp_ast.specs.Units.{times_in}
use Rattle.cpp_syntax.specs.declared.positions.OpenBody.{OpenBody}
use Rattle.cpp_syntax.specs.Derivations.{join, one_tree}
use Rattle.cpp_syntax.specs.View.{is_lambda, lambdas_at, lams_of, trees_at, BuiltTrees}
use Rattle.cpp_syntax.specs.WithBodies.{FilledTree, no_body, a_body, Filled, no_trees, more_trees}
use Rattle.cpp_parse_expr.specs.Depths.{HoldLower}
use Rattle.cpp_parse.specs.NotedBodies.{lams_noted, is_lambda_node, is_lambda_at, AreNoted, Among, first, later, noted_for, BodiesShow}
use Rattle.cpp_syntax.proofs.NodeLambdas.{lambdas_of, lambdas_are, own_lambda}
use Rattle.cpp_parse.proofs.LambdasOnce.{one_for}
use Rattle.cpp_parse.proofs.BodyTable.{kids_without, left_out, chosen, one_same}

pub get_grown : (old new : List Node) (id : ℕ) (n : Node) → Extends old new → slice_get old id ≡ Some n → slice_get new id ≡ Some n
get_grown old new id n x e = ap (λ (ns : List Node). slice_get ns id) x.appended ∙ get_grow old x.extra id n e

-- What is noted for a lambda.

times_cons : (id : ℕ) (b : LamBody) (bodies : List LamBody) → times_in id (lams_noted (b ∷ bodies)) ≡ one_for id b.lam + times_in id (lams_noted bodies)
times_cons id b bodies = sum_by-cons (one_for id) b.lam (lams_noted bodies)

among_times : {b : LamBody} {bodies : List LamBody} → Among b bodies → 1 ≤ times_in b.lam.0 (lams_noted bodies)
among_times {b = b} {bodies = bodies} (first {rest = rest} e) =
    let cons = times_cons b.lam.0 b rest in
    let one = one_same b.lam.0 in
    let same : times_in b.lam.0 (lams_noted bodies) ≡ times_in b.lam.0 (lams_noted (b ∷ rest)) = ap
    (λ (bs : List LamBody). times_in b.lam.0 (lams_noted bs)) e in
    omega (arith, cons, one, same)
among_times {b = b} {bodies = bodies} (later {rest = rest} other e a) =
    let cons = times_cons b.lam.0 other rest in
    let least = among_times a in
    let same : times_in b.lam.0 (lams_noted bodies) ≡ times_in b.lam.0 (lams_noted (other ∷ rest)) = ap
    (λ (bs : List LamBody). times_in b.lam.0 (lams_noted bs)) e in
    omega (arith, cons, least, same)

kids_one : {b : LamBody} {bodies : List LamBody} (kids : List NodeId) → Among b bodies → times_in b.lam.0 (lams_noted bodies) ≤ 1
    → kids_with kids bodies b.lam.0 ≡ kids ++ b.body ∷ []
kids_one {b = b} {bodies = bodies} kids (first {rest = rest} e) few =
    let cons = times_cons b.lam.0 b rest in
    let one = one_same b.lam.0 in
    let same : times_in b.lam.0 (lams_noted bodies) ≡ times_in b.lam.0 (lams_noted (b ∷ rest)) = ap
    (λ (bs : List LamBody). times_in b.lam.0 (lams_noted bs)) e in
    ap (λ (bs : List LamBody). kids_with kids bs b.lam.0) e
    ∙ ap (λ (is : List NodeId). kids_with is rest b.lam.0) (chosen (nat_eq b.lam.0 b.lam.0) (kids ++ b.body ∷ []) kids (one_for b.lam.0 b.lam) refl one)
    ∙ kids_without rest (kids ++ b.body ∷ []) b.lam.0 (omega (arith, cons, one, same, few))
kids_one {b = b} {bodies = bodies} kids (later {rest = rest} other e a) few =
    let cons = times_cons b.lam.0 other rest in
    let least = among_times a in
    let same : times_in b.lam.0 (lams_noted bodies) ≡ times_in b.lam.0 (lams_noted (other ∷ rest)) = ap
    (λ (bs : List LamBody). times_in b.lam.0 (lams_noted bs)) e in
    ap (λ (bs : List LamBody). kids_with kids bs b.lam.0) e
    ∙ left_out (nat_eq other.lam.0 b.lam.0) (kids ++ other.body ∷ []) kids rest b.lam.0 (omega (arith, cons, least, same, few))
    ∙ kids_one kids a (omega (arith, cons, same, few))

by_kind : (n : ℕ) (own : Bool) → n ≤ (if own then 1 else 0) → own ≡ false → n ≡ 0
by_kind n true h e = absurd (let f : true ≡ false = e in cc)
by_kind n false h e = omega (arith, h)

at_most_once : (n : ℕ) (own : Bool) → n ≤ (if own then 1 else 0) → n ≤ 1
at_most_once n true h = omega (arith, h)
at_most_once n false h = omega (arith, h)

no_own : (own : Bool) (id : ℕ) (ls : List ℕ) → own ≡ false → (if own then id ∷ [] else []) ++ ls ≡ ls
no_own true id ls e = absurd (let f : true ≡ false = e in cc)
no_own false id ls e = refl

an_own : (own : Bool) (id : ℕ) (ls : List ℕ) → own ≡ true → (if own then id ∷ [] else []) ++ ls ≡ id ∷ ls
an_own true id ls e = refl
an_own false id ls e = absurd (let f : false ≡ true = e in cc)

shown_snoc : (noted : List LamBody) (nodes : List Node) (ids : List NodeId) (ts : Trees) (id : NodeId) (t : Tree) → ShowsAllWith noted nodes ids ts
    → ShowsWith noted nodes id.0 t → ShowsAllWith noted nodes (ids ++ id ∷ []) (join ts (one_tree t))
shown_snoc noted nodes ids none id t s last = (id, [], ap (λ (is : List NodeId). is ++ id ∷ []) s, last, refl)
shown_snoc noted nodes ids (more u us) id t s last =
    (s.0, s.1 ++ id ∷ [], ap (λ (is : List NodeId). is ++ id ∷ []) s.2, s.3, shown_snoc noted nodes s.1 us id t s.4 last)

module _ (nodes old : List Node) (noted : List LamBody) (grown : Extends old nodes) (lower : HoldLower 0 old) (are : AreNoted nodes noted) where
  found_kind : (id : ℕ) (n : Node) → slice_get old id ≡ Some n → is_lambda_at nodes id ≡ is_lambda n.kind
  found_kind id n e = ap is_lambda_node (get_grown old nodes id n grown e)

  mutual
    tree_shown : {fs : List Tree} {t u : Tree} → FilledTree fs t u → (id : ℕ) → Shows old id t → (ls : List ℕ) (gs : List Tree)
        → BodiesShow noted nodes (lambdas_of old id ++ ls) (fs ++ gs) → ShowsWith noted nodes id u × BodiesShow noted nodes ls gs
    tree_shown (no_body {fs = fs} {us = us} e x) id s ls gs h =
        let n = (s.0).found in
        let stands : slice_get old id ≡ Some n = (s.0).stands in
        let no : is_lambda n.kind ≡ false = ap is_lambda (s.0).kind_is ∙ e in
        let all : lambdas_of old id ++ ls ≡ lambdas_at old n.kids.items ++ ls =
        ap (λ (is : List ℕ). is ++ ls) (lambdas_are old id n stands (lower.lower id n (omega arith) stands))
        ∙ append_assoc (lambdas_at old n.kids.items) (own_lambda n.kind id) ls
        ∙ ap (λ (is : List ℕ). lambdas_at old n.kids.items ++ is) (no_own (is_lambda n.kind) id ls no) in
        let kids = trees_shown x n.kids.items s.1 ls gs (subst (λ (is : List ℕ). BodiesShow noted nodes is (fs ++ gs)) all h) in
        let without : kids_with n.kids.items noted id ≡ n.kids.items = kids_without noted n.kids.items id
        (by_kind (times_in id (lams_noted noted)) (is_lambda_at nodes id) (are.each id) (found_kind id n stands ∙ no)) in (
          (
            record {
              found = n;
              stands = get_grown old nodes id n grown stands;
              kind_is = (s.0).kind_is;
              at_is = (s.0).at_is;
              token_is = (s.0).token_is;
            },
            subst (λ (is : List NodeId). ShowsAllWith noted nodes is us) (sym without) kids.0,
          ),
          kids.1,
        )
    tree_shown (a_body {fs = fs} {gs = hs} body {us = us} {vs = vs} e x f g) id s ls gs h =
        let n = (s.0).found in
        let stands : slice_get old id ≡ Some n = (s.0).stands in
        let own : is_lambda n.kind ≡ true = ap is_lambda (s.0).kind_is ∙ e in
        let all : lambdas_of old id ++ ls ≡ lambdas_at old n.kids.items ++ (id ∷ ls) =
        ap (λ (is : List ℕ). is ++ ls) (lambdas_are old id n stands (lower.lower id n (omega arith) stands))
        ∙ append_assoc (lambdas_at old n.kids.items) (own_lambda n.kind id) ls
        ∙ ap (λ (is : List ℕ). lambdas_at old n.kids.items ++ is) (an_own (is_lambda n.kind) id ls own) in
        let trees = ap (λ (us : List Tree). us ++ gs) f ∙ append_assoc fs (body ∷ []) gs in
        let kids = trees_shown x n.kids.items s.1 (id ∷ ls) (body ∷ gs) (subst (λ (us : List Tree). BodiesShow noted nodes
        (lambdas_at old n.kids.items ++ (id ∷ ls)) us) trees (subst (λ (is : List ℕ). BodiesShow noted nodes is (hs ++ gs)) all h)) in
        let last = kids.1 in
        let with_one : kids_with n.kids.items noted id ≡ n.kids.items ++ last.0 ∷ [] = kids_one {b = noted_for id last.0} n.kids.items last.1
        (at_most_once (times_in id (lams_noted noted)) (is_lambda_at nodes id) (are.each id)) in
        let whole : ShowsAllWith noted nodes (n.kids.items ++ last.0 ∷ []) vs = subst (λ (ts : Trees). ShowsAllWith noted nodes
        (n.kids.items ++ last.0 ∷ []) ts) (sym g) (shown_snoc noted nodes n.kids.items us last.0 body kids.0 last.2) in (
          (
            record {
              found = n;
              stands = get_grown old nodes id n grown stands;
              kind_is = (s.0).kind_is;
              at_is = (s.0).at_is;
              token_is = (s.0).token_is;
            },
            subst (λ (is : List NodeId). ShowsAllWith noted nodes is vs) (sym with_one) whole,
          ),
          last.3,
        )

    trees_shown : {fs : List Tree} {ts us : Trees} → Filled fs ts us → (ids : List NodeId) → ShowsAll old ids ts → (ls : List ℕ) (gs : List Tree)
        → BodiesShow noted nodes (lambdas_at old ids ++ ls) (fs ++ gs) → ShowsAllWith noted nodes ids us × BodiesShow noted nodes ls gs
    trees_shown {fs = fs} (no_trees e) ids s ls gs h = (
      s,
      subst (λ (us : List Tree). BodiesShow noted nodes ls (us ++ gs)) e (subst (λ (is : List NodeId). BodiesShow noted nodes
          (lambdas_at old is ++ ls) (fs ++ gs)) s h),
    )
    trees_shown {fs = hs} (more_trees {fs = f1} {gs = g1} x y e) ids s ls gs h =
        let rest = lambdas_at old s.1 in
        let all : lambdas_at old ids ++ ls ≡ lambdas_of old (s.0).0 ++ (rest ++ ls) = ap (λ (is : List NodeId). lambdas_at old is ++ ls) s.2 ∙
        append_assoc (lambdas_of old (s.0).0) rest ls in
        let trees : hs ++ gs ≡ f1 ++ (g1 ++ gs) = ap (λ (us : List Tree). us ++ gs) e ∙ append_assoc f1 g1 gs in
        let tree = tree_shown x (s.0).0 s.3 (rest ++ ls) (g1 ++ gs) (subst (λ (us : List Tree). BodiesShow noted nodes
        (lambdas_of old (s.0).0 ++ (rest ++ ls)) us) trees (subst (λ (is : List ℕ). BodiesShow noted nodes is (hs ++ gs)) all h)) in
        let others = trees_shown y s.1 s.4 ls gs tree.1 in
        ((s.0, s.1, s.2, tree.0, others.0), others.1)

  pub filled_shown : (base : ℕ) (ids : List NodeId) (bodies : List OpenBody) (fs : List Tree) (us : Trees) → BuiltTrees base old ids bodies
      → Filled fs (trees_at old ids) us → BodiesShow noted nodes (lams_of bodies) fs → ShowsAllWith noted nodes ids us
  filled_shown base ids bodies fs us s x h =
      let all : lams_of bodies ≡ lambdas_at old ids ++ [] = s.lambdas ∙ sym (append-nil (lambdas_at old ids)) in
      (trees_shown x ids s.shows [] [] (subst (λ (gs : List Tree). BodiesShow noted nodes (lambdas_at old ids ++ []) gs) (sym (append-nil fs))
      (subst (λ (is : List ℕ). BodiesShow noted nodes is fs) all h))).0
