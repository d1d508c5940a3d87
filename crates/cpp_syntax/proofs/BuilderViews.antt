-- What a builder shows when a node is added, and when it is cut back.
use Rattle.std.proofs.Common.{◌≡◌, ℕ, zero, suc, ◌+◌, ◌<◌, ◌≤◌, nat_lt, true, List, [], ◌∷◌, ◌++◌, Option, Some, None, slice_get, length, map, take, drop}
use Rattle.std.proofs.Common.{get_or, refl, sym, ◌∙◌, ap, subst, arith, length-append, length-take-le, append_assoc, append-nil}
use Rattle.std.specs.List.{concat, list_all}
use Rattle.std.proofs.lemmas.Bool.{and_parts, ltb-true}
use Rattle.std.proofs.lemmas.List.{map-append, length-map, take-append-drop, take-append-le, take-map}
use Rattle.std.proofs.Math.Seq.{take-append_seam}
use Rattle.cpp_ast.specs.declared.arena.At.{At}
use Rattle.cpp_ast.specs.declared.arena.Node.{Node}
use Rattle.cpp_ast.specs.declared.arena.NodeId.{NodeId}
use Rattle.cpp_ast.specs.declared.kinds.NodeKind.{NodeKind}
use Rattle.cpp_ast.specs.declared.kinds.NodeKind.TheVariants.{Lambda}
use Rattle.cpp_ast.specs.Orders.{are_below}
use Rattle.cpp_ast.specs.Trees.{Tree, node, Trees, none, more}
use Rattle.cpp_syntax.specs.declared.positions.Checkpoint.{Checkpoint}
use Rattle.cpp_syntax.specs.declared.positions.OpenBody.{OpenBody}
use Rattle.cpp_syntax.specs.Gathers.{Gathered}
use Rattle.cpp_syntax.specs.Derivations.{Body, Read, join, one_tree, no_read, and_then, reads_node, with_body_apart}
use Rattle.cpp_syntax.specs.View.{BuilderState, appended, builder_state, count_trees, IsBuilt, IsMark, body_of, lams_of, token_of, trees_at, trees_of}
use Rattle.cpp_syntax.specs.View.{trees_from, values_from, tree_made, no_tree}
use Rattle.cpp_syntax.proofs.NodeValues.{at_gathered}
use Rattle.cpp_syntax.proofs.TreeLists.{trees_of-append, join_parts, join_none, Same}
use Rattle.cpp_syntax.proofs.BuilderMarks.{trees_count}

count_join : (ts us : Trees) → count_trees (join ts us) ≡ count_trees ts + count_trees us
count_join none us = omega arith
count_join (more t ts) us = let rest = count_join ts us in omega (arith, rest)

pub same_building : (b b' : List Node) (t t' : Trees) (s s' : List Body) → b ≡ b' → t ≡ t' → s ≡ s'
    → ◌≡◌ {A = BuilderState} (record { base = b; read = record { trees = t; bodies = s } }) (record { base = b'; read = record { trees = t'; bodies = s' } })
same_building b b' t t' s s' e f g = cc

pub split_trees : (nodes : List Node) (start : ℕ) (ids : List NodeId)
    → trees_at nodes ids ≡ join (trees_at nodes (take start ids)) (trees_at nodes (drop start ids))
split_trees nodes start ids =
    let at : NodeId → Tree = λ (id : NodeId). get_or (values_from no_tree tree_made [] nodes) id.0 no_tree in
    sym (ap (λ (is : List NodeId). trees_at nodes is) (take-append-drop start ids))
    ∙ ap trees_of (map-append at (take start ids) (drop start ids))
    ∙ trees_of-append (trees_from nodes (take start ids)) (trees_from nodes (drop start ids))

-- the trees from an index on are those that were read since
pub since : (nodes : List Node) (start : ℕ) (ids : List NodeId) (before got : Trees) → trees_at nodes ids ≡ join before got
    → count_trees before ≡ start → Same (trees_at nodes (take start ids)) (trees_at nodes (drop start ids)) before got
since nodes start ids before got e count =
    let all : length ids ≡ count_trees before + count_trees got = sym (trees_count nodes ids) ∙ ap count_trees e ∙ count_join before got in
    let front : count_trees (trees_at nodes (take start ids)) ≡ count_trees before = trees_count nodes (take start ids) ∙ length-take-le start ids
    (omega (arith, all, count)) ∙ sym count in
    join_parts (trees_at nodes (take start ids)) (trees_at nodes (drop start ids)) before got (sym (split_trees nodes start ids) ∙ e) front

trees_gathered : (old new : List Node) (was ids : List NodeId) (start : ℕ) (added : Node) (id : NodeId) → new ≡ old ++ added ∷ []
    → added.kids.items ≡ drop start was → id.0 ≡ length old → ids ≡ take start was ++ id ∷ [] → are_below (length old) was ≡ true
    → trees_at new ids ≡ join (trees_at old (take start was)) (one_tree (node added.kind added.at added.token (trees_at old (drop start was))))
trees_gathered old new was ids start added id nodes kids index pending below =
    ap trees_of (at_gathered no_tree tree_made old new was ids start added id nodes kids index pending below)
    ∙ trees_of-append (trees_from old (take start was)) (node added.kind added.at added.token (trees_at old (drop start was)) ∷ [])

got_front : (nodes : List Node) (n : Node) (i : ℕ) → i < length nodes → slice_get (nodes ++ n ∷ []) i ≡ slice_get nodes i
got_front [] n i h = absurd (omega (arith, h))
got_front (m ∷ nodes) n zero h = refl
got_front (m ∷ nodes) n (suc i) h = got_front nodes n i (omega (arith, h))

got_last : (nodes : List Node) (n : Node) → slice_get (nodes ++ n ∷ []) (length nodes) ≡ Some n
got_last [] n = refl
got_last (m ∷ nodes) n = got_last nodes n

bodies_grow : (nodes : List Node) (n : Node) (bodies : List OpenBody) → list_all (λ (lam : ℕ). nat_lt lam (length nodes)) (lams_of bodies) ≡ true
    → map (body_of (nodes ++ n ∷ [])) bodies ≡ map (body_of nodes) bodies
bodies_grow nodes n [] h = refl
bodies_grow nodes n (body ∷ bodies) h =
    let parts = and_parts (nat_lt body.lam.0 (length nodes)) (list_all (λ (lam : ℕ). nat_lt lam (length nodes)) (lams_of bodies)) h in
    let found : slice_get (nodes ++ n ∷ []) body.lam.0 ≡ slice_get nodes body.lam.0 = got_front nodes n body.lam.0
    (ltb-true body.lam.0 (length nodes) parts.0) in
    let first : body_of (nodes ++ n ∷ []) body ≡ body_of nodes body = ap (λ (o : Option Node). record
    { lambda = token_of o; from = body.from; to = body.to }) found in
    let rest = bodies_grow nodes n bodies parts.1 in
    cc

-- what one node more shows, where the trees from an index on become its kids
trees_since : (old new : List Node) (was ids : List NodeId) (start : ℕ) (id : NodeId) (k : NodeKind) (at : At) (token : Option ℕ) (before got : Trees)
    → Gathered old new was ids start id k at token → are_below (length old) was ≡ true → trees_at old was ≡ join before got
    → count_trees before ≡ start → trees_at new ids ≡ join before (one_tree (node k at token got))
trees_since old new was ids start id k at token before got g below e count =
    let parts = since old start was before got e count in
    let front : trees_at old (take start was) ≡ before = parts.front in
    let back : trees_at old (drop start was) ≡ got = parts.back in
    let kind_is : g.added.kind ≡ k = g.kind_is in
    let at_is : g.added.at ≡ at = g.at_is in
    let token_is : g.added.token ≡ token = g.token_is in
    trees_gathered old new was ids start g.added id g.nodes g.kids g.index g.pending below
    ∙ ap (λ (ts : Trees). join ts (one_tree (node g.added.kind g.added.at g.added.token (trees_at old (drop start was))))) front
    ∙ ap (λ (t : Tree). join before (one_tree t)) (let one : node g.added.kind g.added.at g.added.token (trees_at old (drop start was)) ≡ node k at
    token got = cc in one)

base_kept : (base : ℕ) (old new : List Node) (added : Node) → new ≡ old ++ added ∷ [] → base ≤ length old → take base new ≡ take base old
base_kept base old new added nodes within = ap (take base) nodes ∙ take-append-le base old (added ∷ []) within

pub node_shown : (base : ℕ) (old new : List Node) (was ids : List NodeId) (start : ℕ) (id : NodeId) (k : NodeKind) (at : At) (token : Option ℕ)
    (totals : List ℕ) (bodies : List OpenBody) (shown before : BuilderState) (got : Read)
    → Gathered old new was ids start id k at token → IsBuilt base old was totals bodies → builder_state base old was bodies ≡ shown
    → shown ≡ appended before got → count_trees before.read.trees ≡ start
    → builder_state base new ids bodies ≡ appended before (reads_node k at token got)
node_shown base old new was ids start id k at token totals bodies shown before got g inv view e count =
    let was_shown : builder_state base old was bodies ≡ appended before got = view ∙ e in
    same_building (take base new) before.base (trees_at new ids) (join before.read.trees (one_tree (node k at token got.trees)))
    (map (body_of new) bodies) (before.read.bodies ++ got.bodies)
    (base_kept base old new g.added g.nodes inv.within ∙ ap (λ (b : BuilderState). b.base) was_shown)
    (trees_since old new was ids start id k at token before.read.trees got.trees g inv.below (ap (λ (b : BuilderState). b.read.trees) was_shown) count)
    (ap (λ (ns : List Node). map (body_of ns) bodies) g.nodes ∙ bodies_grow old g.added bodies inv.lams_below ∙ ap
    (λ (b : BuilderState). b.read.bodies) was_shown)

pub lambda_shown : (base : ℕ) (old new : List Node) (was ids : List NodeId) (start : ℕ) (id : NodeId) (at : At) (token from to : ℕ) (totals : List ℕ)
    (bodies bodies' : List OpenBody) (shown before : BuilderState) (got : Read)
    → Gathered old new was ids start id Lambda at (Some token) → IsBuilt base old was totals bodies → builder_state base old was bodies ≡ shown
    → bodies' ≡ bodies ++ record { lam = id; from = from; to = to } ∷ [] → shown ≡ appended before got → count_trees before.read.trees ≡ start
    → builder_state base new ids bodies' ≡ appended before (with_body_apart Lambda at token from to got)
lambda_shown base old new was ids start id at token from to totals bodies bodies' shown before got g inv view push e count =
    let was_shown : builder_state base old was bodies ≡ appended before got = view ∙ e in
    let body : OpenBody = record { lam = id; from = from; to = to } in
    let now : Body = record { lambda = token; from = from; to = to } in
    let found : slice_get new id.0 ≡ Some g.added = ap (λ (k : ℕ). slice_get new k) g.index ∙ ap (λ (ns : List Node). slice_get ns (length old))
    g.nodes ∙ got_last old g.added in
    let token_is : token_of (slice_get new id.0) ≡ token = ap token_of found ∙ ap (λ (o : Option ℕ). token_of
    (Some (record { kind = g.added.kind; at = g.added.at; kids = g.added.kids; token = o }))) g.token_is in
    let last : body_of new body ≡ now = ap (λ (k : ℕ). record { lambda = k; from = from; to = to }) token_is in
    same_building (take base new) before.base (trees_at new ids) (join before.read.trees (one_tree (node Lambda at (Some token) got.trees)))
    (map (body_of new) bodies') (before.read.bodies ++ (got.bodies ++ now ∷ []))
    (base_kept base old new g.added g.nodes inv.within ∙ ap (λ (b : BuilderState). b.base) was_shown)
    (trees_since old new was ids start id Lambda at (Some token) before.read.trees got.trees g inv.below
    (ap (λ (b : BuilderState). b.read.trees) was_shown) count)
    (ap (map (body_of new)) push ∙ map-append (body_of new) bodies (body ∷ [])
    ∙ ap (λ (bs : List Body). bs ++ body_of new body ∷ []) (ap (λ (ns : List Node). map (body_of ns) bodies) g.nodes ∙ bodies_grow old g.added bodies
    inv.lams_below ∙ ap (λ (b : BuilderState). b.read.bodies) was_shown)
    ∙ ap (λ (b : Body). (before.read.bodies ++ got.bodies) ++ b ∷ []) last
    ∙ append_assoc before.read.bodies got.bodies (now ∷ []))

-- nothing is read behind all that was
pub appended_nothing : (built : BuilderState) → built ≡ appended built no_read
appended_nothing built =
    same_building built.base built.base built.read.trees (join built.read.trees none) built.read.bodies (built.read.bodies ++ []) refl
    (sym (join_none built.read.trees)) (sym (append-nil built.read.bodies))
