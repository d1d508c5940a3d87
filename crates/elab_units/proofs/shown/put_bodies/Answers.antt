use Rattle.std.proofs.Common.{◌≡◌, ◌∙◌, [], ◌∷◌, List, length, map, ap, sym, subst, arith, refl, rules}
use Rattle.std.specs.Vec.Iter.{into_iter_items}
use Rattle.elab_entry.specs.cpp_tree.Units.{func_of}
use Rattle.elab_units.specs.declared.joining.Placed.{Placed}
use Rattle.elab_units.specs.Joined.{placed_in, roots_of}
use Rattle.elab_units.specs.Made.{with_bodies}
use Rattle.elab_units.proofs.Joins.{nothing_left}
use Rattle.elab_units.proofs.Bodied.{no_bodies}
use Rattle.tree_forests.specs.Forests.{GetBodies}
use Rattle.tree_forests.proofs.Forests.{getting_first, getting_one, getting_all}
use Rattle.elab_units.proofs.shown.put_bodies.Goals as goal

pub loop-body-init : goal.loop-body-init
loop-body-init c = record { given = λ trees. refl; roots = getting_first _ _ _ refl; count = search rules }

pub loop-body-preserved : goal.loop-body-preserved
loop-body-preserved c =
    let at = c.loop-body in
    let steps : into_iter_items at.body-iterator ≡ c.in-Some.body ∷ into_iter_items c.next.new.self = c.in-Some.ensures.steps.0 in
    record {
      given = λ trees. c.put_one.ensures.shown trees (map (placed_in trees) (into_iter_items c.next.new.self))
          ∙ ap (λ (z : List Placed). with_bodies 0 (map (func_of trees) at.funcs.items) (map (placed_in trees) z)) (sym steps) ∙ at.invariant.given trees;
      roots = getting_one _ _ _ _ _ _ c.in-Some.body.tree at.invariant.roots (ap roots_of steps) c.put_one.ensures.root;
      count = let was = at.invariant.count in let gone = c.in-Some.ensures.steps.1 in let short = ap length steps in omega arith;
    }

pub returns-clause-shown : goal.returns-clause-shown
returns-clause-shown c trees =
    let at = c.loop-body in
    let none = c.in-None.ensures.steps in
    let empty : into_iter_items at.body-iterator ≡ [] = nothing_left _ (sym at.invariant.count ∙ none.0) in
    sym (no_bodies 0 (map (func_of trees) at.funcs.items))
    ∙ ap (λ (z : List Placed). with_bodies 0 (map (func_of trees) at.funcs.items) (map (placed_in trees) z)) (sym empty) ∙ at.invariant.given trees
    ∙ ap (λ (z : List Placed). with_bodies 0 (map (func_of trees) c.args.funcs.now.items)
    (map (placed_in trees) z)) c.into_iter-body-iterator.ensures.into_iter_gives.0

pub returns-clause-roots : goal.returns-clause-roots
returns-clause-roots c = subst (λ (z : List Placed). GetBodies c.args.funcs.now.items c.loop-body.funcs.items (roots_of z))
    c.into_iter-body-iterator.ensures.into_iter_gives.0 (getting_all _ _ _ _ c.loop-body.invariant.roots)
