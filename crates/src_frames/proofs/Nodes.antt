-- Which tree a node shows, whatever its kids are.
use Rattle.std.proofs.Common.{◌≡◌, ◌∙◌, ℕ, zero, suc, ◌+◌, ◌<◌, ◌≤◌, List, [], ◌∷◌, length, get_or, sym, ap, refl, inl, inr, arith, length-append, fold, nat_lt}
use Rattle.std.proofs.Common.{true, slice_get, Some}
use Rattle.std.specs.Prelude.{Option, None, Bool, false, cond, option_and_then}
use Rattle.std.proofs.lemmas.Bool.{ltb-true, ltb-false}
use Rattle.std.proofs.lemmas.List.{get_or_append_left, get_or_push, get_or_past}
use Rattle.std.proofs.lemmas.Option.{slice_get_cases}
use Rattle.cpp_tree.specs.cpp_types.Typ.{typ_of}
use Rattle.cpp_tree.specs.declared.arena.TNodeId.{TNodeId}
use Rattle.cpp_tree.specs.declared.arena.TNode.{TNode}
use Rattle.cpp_tree.specs.declared.program.UnitTree.{UnitTree}
use Rattle.cpp_tree.specs.declared.program.Program.{Program}
use Rattle.cpp_tree.specs.Trees.{Tree, node, Trees, literal}
use Rattle.cpp_tree.specs.Arena.{tree_at, trees_at, tree_of, trees_of, with_node}
use Rattle.cpp_tree.proofs.Shown.{many_trees}
use Rattle.src_bind.specs.Infos.{trees_found, trees_in}
use Rattle.src_frames.specs.declared.trees.TreeAt.TheVariants.{Node}
use Rattle.src_frames.specs.Trees.{kids_below, node_found, tree_shown}

kept : (ts : List Tree) (ns : List TNode) (i : ℕ) → i < length ts → get_or (fold with_node ts ns) i (literal 0) ≡ get_or ts i (literal 0)
kept ts [] i h = refl
kept ts (n ∷ ns) i h =
    let more_there : i < length (with_node ts n) = simp length-append (omega arith) in
    kept (with_node ts n) ns i more_there ∙ get_or_append_left ts (tree_of ts n ∷ []) (literal 0) i h

-- a kid among the trees before a node, by its place among all
kid_shows : (ts us : List Tree) (i bound : ℕ) (b : Bool) → nat_lt i bound ≡ b → bound ≡ length ts
    → ((k : ℕ) → k < bound → get_or us k (literal 0) ≡ get_or ts k (literal 0)) → get_or ts i (literal 0) ≡ cond b (get_or us i (literal 0)) (literal 0)
kid_shows ts us i bound true h e agree = sym (agree i (ltb-true i bound h))
kid_shows ts us i bound false h e agree =
    let past : bound ≤ i = ltb-false i bound h in
    get_or_past ts i (literal 0) (omega arith)

kids_show : (ts us : List Tree) (bound : ℕ) (ids : List TNodeId) → bound ≡ length ts → ((k : ℕ) → k < bound → get_or us k (literal 0) ≡ get_or ts k (literal 0))
    → trees_at ts ids ≡ kids_below us bound ids
kids_show ts us bound [] e agree = refl
kids_show ts us bound (id ∷ ids) e agree =
    let here : get_or ts id.0 (literal 0) ≡ cond (nat_lt id.0 bound) (get_or us id.0 (literal 0)) (literal 0) =
    kid_shows ts us id.0 bound (nat_lt id.0 bound) refl e agree in
    let there : trees_at ts ids ≡ kids_below us bound ids = kids_show ts us bound ids e agree in
    cc

tree_is : (ts : List Tree) (ns : List TNode) (i j : ℕ) (n : TNode) → j ≡ length ts + i → slice_get ns i ≡ Some n
    → get_or (fold with_node ts ns) j (literal 0) ≡ node n.kind (typ_of n.ty) n.cat n.at (kids_below (fold with_node ts ns) j n.kids.items)
tree_is ts [] i j n e h = absurd cc
tree_is ts (m ∷ ns) zero j n e h =
    let all : List Tree = fold with_node (with_node ts m) ns in
    let is : m ≡ n = cc in
    let seam : j ≡ length ts = omega arith in
    let there : j < length (with_node ts m) = simp length-append (omega arith) in
    let found : get_or all j (literal 0) ≡ tree_of ts m = kept (with_node ts m) ns j there ∙ get_or_push ts (tree_of ts m) (literal 0) j (sym seam) in
    let agree : (i : ℕ) → i < j → get_or all i (literal 0) ≡ get_or ts i (literal 0) = λ i h. (
    let low : i < length ts = omega (arith, h, seam) in
    let there : i < length (with_node ts m) = simp length-append (omega (arith, low)) in
    kept (with_node ts m) ns i there ∙ get_or_append_left ts (tree_of ts m ∷ []) (literal 0) i low
    ) in
    let kids : trees_at ts n.kids.items ≡ kids_below all j n.kids.items = kids_show ts all j n.kids.items seam agree in
    found ∙ ap (λ (z : TNode). tree_of ts z) is ∙ ap (λ (z : Trees). node n.kind (typ_of n.ty) n.cat n.at z) kids
tree_is ts (m ∷ ns) (suc i) j n e h =
    let one_more : length (with_node ts m) ≡ length ts + 1 = simp length-append (omega arith) in
    tree_is (with_node ts m) ns i j n (omega arith) h

pub node_shows : (ns : List TNode) (id : TNodeId) (n : TNode) → slice_get ns id.0 ≡ Some n
    → tree_at (trees_of ns) id ≡ node n.kind (typ_of n.ty) n.cat n.at (kids_below (trees_of ns) id.0 n.kids.items)
unfolding trees_of
node_shows ns id n h = tree_is [] ns id.0 id.0 n (omega arith) h

pub none_shows : (ns : List TNode) (id : TNodeId) → slice_get ns id.0 ≡ None → tree_at (trees_of ns) id ≡ literal 0
none_shows ns id h =
    let count : length (trees_of ns) ≡ length ns = many_trees ns in
    elim (slice_get_cases ns id.0).1 [ inl w ↦ absurd cc | inr w ↦ get_or_past (trees_of ns) id.0 (literal 0) (omega arith) ]

-- The same for the node of a unit

found_in : (o : Option UnitTree) (id : TNodeId) (n : TNode) → option_and_then (λ (x : UnitTree). slice_get x.nodes.items id.0) o ≡ Some n
    → tree_at (trees_found o) id ≡ node n.kind (typ_of n.ty) n.cat n.at (kids_below (trees_found o) id.0 n.kids.items)
found_in None id n h = absurd cc
found_in (Some x) id n h = node_shows x.nodes.items id n h

missing_in : (o : Option UnitTree) (id : TNodeId) → option_and_then (λ (x : UnitTree). slice_get x.nodes.items id.0) o ≡ None
    → tree_at (trees_found o) id ≡ literal 0
missing_in None id h = refl
missing_in (Some x) id h = none_shows x.nodes.items id h

pub tree_found : (p : Program) (u : ℕ) (id : TNodeId) (n : TNode) → node_found p u id ≡ Some n
    → tree_shown p (Node u id) ≡ node n.kind (typ_of n.ty) n.cat n.at (kids_below (trees_in p u) id.0 n.kids.items)
tree_found p u id n h = found_in (slice_get p.units.items u) id n h

pub tree_missing : (p : Program) (u : ℕ) (id : TNodeId) → node_found p u id ≡ None → tree_shown p (Node u id) ≡ literal 0
tree_missing p u id h = missing_in (slice_get p.units.items u) id h
