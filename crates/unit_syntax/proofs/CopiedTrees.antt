-- Copies of trees of a unit show the whole trees.
use Rattle.std.proofs.Common.{◌≡◌, ◌+◌, ◌<◌, true, nat_lt, List, [], ◌∷◌, ◌++◌, length, slice_get, Some, refl, sym, ◌∙◌, ap, subst, arith, length-append}
use Rattle.std.proofs.lemmas.List.Folds.{list_all-append}
use Rattle.cpp_ast.specs.declared.arena.NodeId.{NodeId}
use Rattle.cpp_ast.specs.declared.arena.Node.{Node}
use Rattle.cpp_ast.specs.declared.units.LamBody.{LamBody}
use Rattle.cpp_ast.specs.declared.units.Unit.{Unit as UnitRecord}
use Rattle.cpp_ast.specs.Orders.{are_below}
use Rattle.cpp_ast.specs.Trees.{Tree, Trees, ShowsWith, ShowsAllWith, kids_with}
use Rattle.elab_types.specs.Syntax.{tree_at, trees_at, tree_of, syntax_of}
use Rattle.unit_syntax.specs.Copies.{Keeps, IsCopied, AreCopied}
use Rattle.unit_syntax.proofs.GrownSyntax.{tree_pushed, keeps_all, keeps_both, keeps_one, trees_kept, below_kept}

pub none_copied : (unit : UnitRecord) (nodes : List Node) → AreCopied unit nodes nodes [] []
none_copied unit nodes = record { keeps = keeps_all nodes; there = refl; whole = refl }

shown_behind : (noted : List LamBody) (nodes : List Node) (trees : List Tree) (ids copies : List NodeId) (id copy : NodeId)
    → ShowsAllWith noted nodes ids (trees_at trees copies) → ShowsWith noted nodes id.0 (tree_at trees copy)
    → ShowsAllWith noted nodes (ids ++ id ∷ []) (trees_at trees (copies ++ copy ∷ []))
shown_behind noted nodes trees ids [] id copy s last = (id, [], ap (λ (is : List NodeId). is ++ id ∷ []) s, last, refl)
shown_behind noted nodes trees ids (c ∷ copies) id copy s last =
    (s.0, s.1 ++ id ∷ [], ap (λ (is : List NodeId). is ++ id ∷ []) s.2, s.3, shown_behind noted nodes trees s.1 copies id copy s.4 last)

-- one tree behind others
pub one_more_copied : (unit : UnitRecord) (old mid new : List Node) (ids copies : List NodeId) (id copy : NodeId) → AreCopied unit old mid ids copies
    → IsCopied unit mid new id copy → AreCopied unit old new (ids ++ id ∷ []) (copies ++ copy ∷ [])
one_more_copied unit old mid new ids copies id copy all one =
    let longer = one.keeps.longer in
    let low : are_below (length new) copies ≡ true = below_kept (length mid) (length new) copies longer all.there in
    let within : copy.0 < length new = one.there in
    let last : are_below (length new) (copy ∷ []) ≡ true = grind (arith, within) in
    let same : trees_at (syntax_of new) copies ≡ trees_at (syntax_of mid) copies = trees_kept mid new copies one.keeps all.there in
    record {
      keeps = keeps_both old mid new all.keeps one.keeps;
      there = list_all-append (λ (i : NodeId). nat_lt i.0 (length new)) copies (copy ∷ []) ∙ rw (low, last) refl;
      whole = shown_behind unit.bodies.items unit.nodes (syntax_of new) ids copies id copy
          (subst (λ (ts : Trees). ShowsAllWith unit.bodies.items unit.nodes ids ts) (sym same) all.whole) one.whole;
    }

-- a node behind the copies of its kids and its body
pub node_copied : (unit : UnitRecord) (old mid new : List Node) (id copy : NodeId) (found added : Node) (ids : List NodeId)
    → slice_get unit.nodes id.0 ≡ Some found → ids ≡ kids_with found.kids.items unit.bodies.items id.0
    → AreCopied unit old mid ids added.kids.items → added.kind ≡ found.kind → added.at ≡ found.at → added.token ≡ found.token
    → copy.0 ≡ length mid → new ≡ mid ++ added ∷ [] → IsCopied unit old new id copy
node_copied unit old mid new id copy found added ids stands are kids kind at token place grown =
    let bodies : List LamBody = unit.bodies.items in
    let long : length new ≡ length mid + 1 = ap (λ (ns : List Node). length ns) grown ∙ simp length-append (omega arith) in
    let tree : tree_at (syntax_of new) copy ≡ tree_of (syntax_of mid) added = ap (λ (ns : List Node). tree_at (syntax_of ns) copy) grown ∙ tree_pushed
    mid added copy place in
    let shown : ShowsAllWith bodies unit.nodes (kids_with found.kids.items bodies id.0) (trees_at (syntax_of mid) added.kids.items) = subst
    (λ (is : List NodeId). ShowsAllWith bodies unit.nodes is (trees_at (syntax_of mid) added.kids.items)) are kids.whole in
    record {
      keeps = keeps_both old mid new kids.keeps (subst (λ (ns : List Node). Keeps mid ns) (sym grown) (keeps_one mid added));
      there = omega (arith, long, place);
      whole = subst (λ (t : Tree). ShowsWith bodies unit.nodes id.0 t) (sym tree)
          (record { found = found; stands = stands; kind_is = sym kind; at_is = sym at; token_is = sym token }, shown);
    }
