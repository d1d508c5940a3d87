use Rattle.std.proofs.Common.{◌≡◌, ◌∙◌, [], ◌∷◌, ◌++◌, List, length, map, ap, sym, append_assoc, append-nil, arith, refl, rules}
use Rattle.std.specs.Vec.Iter.{into_iter_items}
use Rattle.elab_entry.specs.cpp_tree.Arena.{trees_of}
use Rattle.elab_entry.specs.elab_rules.Statements.{Body}
use Rattle.elab_entry.specs.elab_scopes.declared.state.Body.{Body as BodyRec}
use Rattle.elab_entry.specs.elab_scopes.States.{body_of}
use Rattle.tree_forests.proofs.Behind.{no_forest}
use Rattle.elab_units.specs.Joined.{placed_in, roots_of}
use Rattle.elab_units.proofs.Joins.{nothing_left}
use Rattle.elab_units.proofs.joining.joined_bodies.Goals as goal

pub loop-body-init : goal.loop-body-init
loop-body-init c =
    let none : c.new-placed.result.items ≡ [] = search rules in
    record {
      placed = rw none refl;
      shown = rw none refl;
      forest = no_forest c.new-nodes.result.items (roots_of c.new-placed.result.items) c.new-nodes.ensures.items (rw none refl);
      count = search rules;
    }

pub loop-body-preserved : goal.loop-body-preserved
loop-body-preserved c =
    let at = c.loop-body in
    let steps : into_iter_items at.body-iterator ≡ c.in-Some.body ∷ into_iter_items c.next.new.self = c.in-Some.ensures.steps.0 in
    let before : List Body = map (placed_in (trees_of at.nodes.items)) at.placed.items in
    record {
      placed = c.in_ok-put_body.ensures.placed;
      shown = ap (λ (z : List Body). z ++ map body_of (into_iter_items c.next.new.self)) c.in_ok-put_body.ensures.bodies
          ∙ append_assoc before (body_of c.in-Some.body ∷ []) (map body_of (into_iter_items c.next.new.self))
          ∙ ap (λ (z : List BodyRec). before ++ map body_of z) (sym steps) ∙ at.invariant.shown;
      forest = c.in_ok-put_body.ensures.forest at.invariant.forest;
      count = let was = at.invariant.count in let gone = c.in-Some.ensures.steps.1 in let short = ap length steps in omega arith;
    }

pub returns-clause-bodies : goal.returns-clause-bodies
returns-clause-bodies c =
    let at = c.loop-body in
    let none = c.in-None.ensures.steps in
    let empty : into_iter_items at.body-iterator ≡ [] = nothing_left _ (sym at.invariant.count ∙ none.0) in
    let before : List Body = map (placed_in (trees_of at.nodes.items)) at.placed.items in
    sym (append-nil before) ∙ ap (λ (z : List BodyRec). before ++ map body_of z) (sym empty) ∙ at.invariant.shown
    ∙ ap (map body_of) c.into_iter-body-iterator.ensures.into_iter_gives.0

pub returns-clause-forest : goal.returns-clause-forest
returns-clause-forest c = c.loop-body.invariant.forest
