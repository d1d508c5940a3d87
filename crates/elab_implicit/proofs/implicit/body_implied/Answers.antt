use Rattle.std.proofs.Common.{◌≡◌, ◌∙◌, Err, List, option_map, map, ap, rules}
use Rattle.cpp_types.specs.Typ.{typ_of}
use Rattle.elab_entry.specs.cpp_tree.Trees.{Tree}
use Rattle.elab_entry.specs.cpp_tree.Arena.{trees_of, tree_at}
use Rattle.elab_entry.specs.elab_scopes.States.{state_of}
use Rattle.elab_entry.specs.Round.{round_of}
use Rattle.elab_implicit.proofs.Implying.{body_done, body_refused, changes_fail, table_after, size_after}
use Rattle.elab_implicit.proofs.implicit.body_implied.Goals as goal

pub returns-clause-is : goal.returns-clause-is
returns-clause-is c = body_done c.args.st.now _ _ _ _ c.args.at c.args.func c.args.class c.args.kind (option_map typ_of c.args.param.now)
    (round_of c.in_ok-around.around) c.in_ok-tree.tree _ _ _ c.in_ok-around.ensures.is c.in_ok-around.ensures.round c.in_ok-tree.ensures
    c.leave_function-inside.ensures.is (c.leave_function-inside.ensures.trees ∙ c.in_ok-around.ensures.trees)
    (ap (λ (z : List Tree). tree_at z c.in_ok-tree.tree) c.leave_function-inside.ensures.nodes) c.leave_function-inside.ensures.frame c.body_made.ensures

pub returns-in_err-tree-clause-is : goal.returns-in_err-tree-clause-is
returns-in_err-tree-clause-is c =
    let is_error : c.from_residual-in_err-tree.result ≡ Err c.in_err-tree.field-0.0 = search rules in
    changes_fail _ _ _ _ _ is_error (body_refused (state_of c.args.st.now) _ c.args.at c.args.func c.args.class c.args.kind
    (option_map typ_of c.args.param.now) _ c.in_ok-around.ensures.is c.in_err-tree.ensures)

pub returns-clause-table : goal.returns-clause-table
returns-clause-table c = table_after c.args.st.now _ _ _ _ c.args.marks.now.items _ c.args.at c.args.func c.args.class c.args.kind
    (option_map typ_of c.args.param.now) (round_of c.in_ok-around.around) c.in_ok-tree.tree
    (tree_at (trees_of c.leave_function-inside.result.nodes.items) c.in_ok-tree.tree)
    (map typ_of c.leave_function-inside.result.frame.items) _ c.requires c.in_ok-around.ensures.is c.in_ok-tree.ensures c.leave_function-inside.ensures.is
    c.in_ok-mark_names.ensures c.body_made.ensures

pub returns-clause-size : goal.returns-clause-size
returns-clause-size c = size_after c.args.marks.now.items _
    (tree_at (trees_of c.leave_function-inside.result.nodes.items) c.in_ok-tree.tree) _ c.in_ok-mark_names.ensures
