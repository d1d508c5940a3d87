use Rattle.std.proofs.Common.{◌≡◌, ◌∙◌, ◌++◌, option_map, Err, refl, ap, sym, arith, rules}
use Rattle.elab_expr.specs.cpp_lex.Tokens.{lexemes_of}
use Rattle.elab_expr.specs.cpp_types.Typ.{typ_of}
use Rattle.elab_expr.specs.elab_ctx.Ctx.{ctx_of}
use Rattle.elab_expr.proofs.elab_make.Calling.{refused_made, refused_all}
use Rattle.elab_expr.specs.elab_types.Syntax as nodes
use Rattle.elab_expr.specs.elab_init.Parts.{part_of}
use Rattle.elab_braces.proofs.Itemised.{item_braced, item_plain, item_made, item_fails, items_done, rest_fails, placed_made, placed_fails, part_makes, no_part}
use Rattle.elab_braces.proofs.braces.+items.Goals as goal

pub item-returns-in-BracedInitList : goal.item-returns-in-BracedInitList
item-returns-in-BracedInitList t c = item_braced (lexemes_of c.args.tokens.now) (ctx_of c.args.env.now) _ _ _ (typ_of c.args.ty.now)
    (nodes.tree_at (nodes.syntax_of c.args.nodes.now) c.args.id) _ _ _ _ _ _ _ _ _ c.node_at-node.ensures.node c.in-BracedInitList.is c.place.ensures
    (ap (nodes.trees_at (nodes.syntax_of c.args.nodes.now)) c.deref.ensures.value) c.braced.ensures

pub item-returns-in_default : goal.item-returns-in_default
item-returns-in_default t c = item_plain (lexemes_of c.args.tokens.now) (ctx_of c.args.env.now) _ _ _ (typ_of c.args.ty.now)
    (nodes.tree_at (nodes.syntax_of c.args.nodes.now) c.args.id) _ _ _ _ _ _ _ c.node_at-node.ensures.node c.in_default.not-BracedInitList c.plain_item.ensures

pub items-loop-index-preserved : goal.items-loop-index-preserved
items-loop-index-preserved t c = item_made (lexemes_of c.args.tokens.now) (ctx_of c.args.env.now) _ _ c.args.object
    (typ_of c.args.ty.now) c.loop-index.index c.args.at (nodes.syntax_of c.args.nodes.now) c.args.ids.now _
    (record { 0 = 0 }) _ _ _ _ _ _ _ c.loop-index.invariant c.requires.object (omega arith) refl c.in_ok-kid.ensures c.in_ok-keep.ensures

pub items-returns-in_err-kid : goal.items-returns-in_err-kid
items-returns-in_err-kid t c =
    let is_error : c.from_residual.result ≡ Err c.in_err-kid.field-0.0 = search rules in
    refused_all _ _ _ _ _ _ is_error (item_fails (lexemes_of c.args.tokens.now) (ctx_of c.args.env.now) _ c.args.object
    (typ_of c.args.ty.now) c.loop-index.index c.args.at (nodes.syntax_of c.args.nodes.now) c.args.ids.now _
    (record { 0 = 0 }) _ _ _ _ _ c.loop-index.invariant c.requires.object (omega arith) refl c.in_err-kid.ensures)

pub items-returns-in_err-rest : goal.items-returns-in_err-rest
items-returns-in_err-rest t c =
    let is_error : c.from_residual-in_err-rest.result ≡ Err c.in_err-rest.field-0.0 = search rules in
    refused_all _ _ _ _ _ _ is_error (rest_fails (lexemes_of c.args.tokens.now) (ctx_of c.args.env.now) _ c.args.object
    (typ_of c.args.ty.now) c.loop-index.index _ c.args.at
    (nodes.syntax_of c.args.nodes.now) c.args.ids.now _ _ _ _ _ c.loop-index.invariant c.requires.object (omega arith) (omega arith) c.in_err-rest.ensures)

pub items-returns : goal.items-returns
items-returns t c = items_done (lexemes_of c.args.tokens.now) (ctx_of c.args.env.now) _ _ c.args.object (typ_of c.args.ty.now) c.loop-index.index _ c.args.at
    (nodes.syntax_of c.args.nodes.now) c.args.ids.now _ _ _ _ _ _ _ c.loop-index.invariant c.requires.object (omega arith) (omega arith) c.in_ok-rest.ensures
    (c.in_ok-keep_all.ensures ∙ ap (λ z. c.loop-index.list.items ++ z) c.deref.ensures.value)

pub item_piece-returns-in_default : goal.item_piece-returns-in_default
item_piece-returns-in_default t c = no_part (lexemes_of c.args.tokens.now) (ctx_of c.args.env.now) _ _ (typ_of c.args.ty.now) c.args.index c.args.at
    (nodes.tree_at
    (nodes.syntax_of c.args.nodes.now) c.args.id) _ _ _ _ _ _ _ c.node_at.ensures.node c.in_default.not-Some c.in_ok-part.ensures c.ill.ensures c.place.ensures

pub item_piece-returns : goal.item_piece-returns
item_piece-returns t c = part_makes (lexemes_of c.args.tokens.now) (ctx_of c.args.env.now) _ _ _ (typ_of c.args.ty.now) c.args.index c.args.at
    (nodes.tree_at (nodes.syntax_of c.args.nodes.now) c.args.id) (part_of c.in-Some.part) _ _ _
    (sym (ap (option_map part_of) c.in-Some.is) ∙ c.in_ok-part.ensures) c.placed_item.ensures

pub placed_item-returns-in_err-init : goal.placed_item-returns-in_err-init
placed_item-returns-in_err-init t c =
    let is_error : c.from_residual-in_err-init.result ≡ Err c.in_err-init.field-0.0 = search rules in
    refused_made _ _ _ _ _ _ is_error (placed_fails (lexemes_of c.args.tokens.now) (ctx_of c.args.env.now) _ _ c.args.at (part_of c.args.part.now) _
    (nodes.tree_at (nodes.syntax_of c.args.nodes.now) c.args.id) _ _ _ _ c.in_ok-target.ensures c.in_ok-ty.ensures c.in_err-init.ensures)

pub placed_item-returns : goal.placed_item-returns
placed_item-returns t c = placed_made (lexemes_of c.args.tokens.now) (ctx_of c.args.env.now) _ _ _ c.args.at _ (part_of c.args.part.now) _
    (nodes.tree_at (nodes.syntax_of c.args.nodes.now) c.args.id) _ _ _ _ _ _ _ c.in_ok-target.ensures c.in_ok-ty.ensures c.in_ok-init.ensures
    c.in_ok-made.ensures c.node_at.ensures.place
