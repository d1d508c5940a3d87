use Rattle.std.proofs.Common.{◌∙◌, sym}
use Rattle.elab_conv.specs.cpp_types.Typ.{typ_of}
use Rattle.elab_conv.specs.cpp_tree.Arena.{trees_of, tree_at}
use Rattle.elab_conv.specs.elab_ctx.Ctx.{ctx_of}
use Rattle.elab_names.proofs.Callees.{refused}
use Rattle.elab_names.proofs.resolving.resolved.Goals as goal

pub returns-then-not-is_empty : goal.returns-then-not-is_empty
returns-then-not-is_empty c =
    let n = c.node_at-node in
    refused (ctx_of c.args.env.now) (tree_at (trees_of c.args.nodes.now.items) c.args.id)
    (trees_of c.args.nodes.now.items) c.in_ok-kids_at-in-Functions.field-0.now n.result.now.kind
    (typ_of n.result.now.ty) n.result.now.cat n.result.now.at c.in-Functions.func c.ill.result n.ensures.kind n.ensures.typ n.ensures.cat n.ensures.place
    c.in-Functions.ensures c.in_ok-kids_at-in-Functions.ensures.kids (sym c.is_empty.ensures ∙ c.if-not-is_empty.true) c.ill.ensures
