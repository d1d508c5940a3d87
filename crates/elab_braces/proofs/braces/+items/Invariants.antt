use Rattle.std.proofs.Common.{◌+◌, ◌*◌, drop}
use Rattle.elab_expr.specs.cpp_lex.Tokens.{lexemes_of}
use Rattle.elab_expr.specs.cpp_types.Typ.{typ_of}
use Rattle.elab_expr.specs.cpp_tree.Arena.{trees_of, tree_at}
use Rattle.elab_expr.specs.elab_ctx.Ctx.{ctx_of, work_of}
use Rattle.elab_expr.specs.elab_rules.Braces.{items_of}
use Rattle.elab_expr.specs.elab_types.Syntax.{syntax_of, trees_at}
use Rattle.elab_aggregates.proofs.Making.{Making}
use Rattle.elab_braces.proofs.braces.+items.Given as goal

abbrev pub decreases-item : goal.decreases-item
decreases-item l = l.id.0 * 8 + 2

abbrev pub decreases-braced : goal.decreases-braced
decreases-braced l = l.parent.0 * 8 + 1

abbrev pub decreases-items : goal.decreases-items
decreases-items l = l.parent.0 * 8

abbrev pub decreases-item_piece : goal.decreases-item_piece
decreases-item_piece l = l.id.0 * 8 + 4

abbrev pub decreases-placed_item : goal.decreases-placed_item
decreases-placed_item l = l.id.0 * 8 + 3

abbrev pub invariant-items-loop-index : goal.invariant-items-loop-index
invariant-items-loop-index l = Making (trees_of l.fn.work.nodes.items) (trees_of l.work.nodes.items) l.list.items
    (items_of (lexemes_of l.tokens) (ctx_of l.env) (work_of l.work) (tree_at (trees_of l.fn.work.nodes.items) l.object) (typ_of l.ty) l.index l.at
    (trees_at (syntax_of l.nodes) (drop l.index l.ids)))
    (items_of (lexemes_of l.tokens) (ctx_of l.env) (work_of l.fn.work) (tree_at (trees_of l.fn.work.nodes.items) l.object) (typ_of l.ty) 0 l.at
    (trees_at (syntax_of l.nodes) l.ids))
