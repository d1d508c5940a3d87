use Rattle.std.proofs.Common.{◌≡◌, true, List, length, sym, ap, rules}
use Rattle.elab_entry.proofs.cpp_tree.Shown.{many_trees}
use Rattle.elab_entry.specs.cpp_tree.Arena.{trees_of, tree_at}
use Rattle.elab_entry.specs.cpp_types.Typ.{Typ}
use Rattle.elab_entry.specs.elab_ctx.Ctx.{ctx_of}
use Rattle.elab_entry.specs.elab_ctx.declared.env.DefaultInit.{DefaultInit}
use Rattle.elab_members.specs.Initialisers.{are_known}
use Rattle.elab_members.proofs.InitialiserSteps.{more_known}
use Rattle.elab_members.proofs.defaults.keep_default.Goals as goal

pub returns : goal.returns
returns c =
    let known : are_known (length c.args.env.now.default_nodes.items) c.args.env.now.defaults.items ≡ true = search rules in
    let init : DefaultInit = record { class = c.args.class; member = c.args.member; init = c.in_ok-init.init; frame = c.behind_this-frame.result } in
    more_known (ctx_of c.args.env.now) _ _ c.args.env.now.defaults.items _ init c.args.class c.args.member
    (length c.args.env.now.default_nodes.items) _ _ c.in_ok-init.ensures known (sym (many_trees c.args.env.now.default_nodes.items)) (search rules)
    (ap (λ (z : List Typ). record {
      class = c.args.class;
      member = c.args.member;
      init = tree_at (trees_of c.copy_tree.new.nodes.items) c.in_ok-init.init;
      frame = z;
    }) c.behind_this-frame.ensures)
