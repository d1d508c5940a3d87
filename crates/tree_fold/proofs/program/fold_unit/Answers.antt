use Rattle.std.proofs.Common.{List, map, ap, sym, subst, ◌∙◌}
use Rattle.cpp_tree.specs.declared.arena.TNode.{TNode}
use Rattle.cpp_tree.specs.Arena.{trees_of}
use Rattle.cpp_tree.specs.Units.{Func, func_of, unit_of}
use Rattle.tx_unsafe.specs.Volatile.{marked}
use Rattle.tree_fold.specs.declared.sights.Sight.{Sight}
use Rattle.tree_fold.specs.Programs.{folded_func}
use Rattle.tree_fold.specs.Sights.{AreSights}
use Rattle.tree_fold.specs.Forests.{body_roots}
use Rattle.tree_forests.specs.Copies.{OwnForest}
use Rattle.tree_fold.proofs.Forests.{own_trees}
use Rattle.tree_fold.proofs.program.fold_unit.Goals as goal

pub returns-clause-unit : goal.returns-clause-unit
returns-clause-unit c =
    let v = marked c.args.volatile.now in
    let shown = subst (λ (z : List Sight). AreSights v (trees_of c.as_slice-from.result.now) z) (sym c.as_slice.ensures.value) c.in_ok-sights.ensures.shown in
    ap (λ (z : List Func). record (unit_of c.args.unit.now) { funcs = z })
    (c.in_ok-fold_funcs.ensures.funcs v shown ∙ ap (λ (z : List TNode). map (folded_func v)
    (map (func_of (trees_of z)) c.args.unit.now.funcs.items)) c.as_slice-from.ensures.value)

pub returns-clause-own : goal.returns-clause-own
returns-clause-own c = own_trees _ (subst (λ (z : List TNode). OwnForest z c.fold_funcs.new.nodes.items (body_roots c.fold_funcs.new.funcs.items))
    c.new-nodes.ensures.items c.in_ok-fold_funcs.ensures.own)
