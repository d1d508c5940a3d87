use Rattle.std.proofs.Common.{◌∙◌, ◌++◌, List, map, ap, sym, append-nil}
use Rattle.elab_entry.specs.cpp_lex.Tokens.{lexemes_of}
use Rattle.elab_entry.specs.cpp_ast.declared.arena.NodeId.{NodeId}
use Rattle.elab_entry.specs.cpp_tree.Units.{Definition, definition_of}
use Rattle.elab_entry.specs.elab_ctx.Ctx.{Ctx}
use Rattle.elab_entry.specs.elab_ctx.Types.{named_of}
use Rattle.elab_entry.specs.elab_ctx.Steps.{spelling}
use Rattle.elab_entry.specs.elab_rules.Types.{type_named}
use Rattle.elab_entry.specs.elab_rules.Programs.{definition_in, definition_if}
use Rattle.elab_entry.specs.elab_types.Syntax.{syntax_of, trees_at}
use Rattle.elab_units.proofs.Bodied.{ok_more}
use Rattle.elab_units.proofs.shown.keep_definition.Goals as goal

pub returns-in-None : goal.returns-in-None
returns-in-None c x =
    let s = lexemes_of c.args.tokens.now in
    let d : Ctx = record x { types = map named_of c.args.types.now } in
    let n = c.node_in-node.result.now in
    sym (append-nil (map definition_of c.args.list.now.items))
    ∙ ap (λ (z : List Definition). map definition_of c.args.list.now.items ++ z)
    (sym (ap (definition_in s d) c.node_in-node.ensures.node ∙ c.in-None.ensures s d n.at (trees_at (syntax_of c.args.nodes.now) n.kids.items)))

pub returns-in-Some : goal.returns-in-Some
returns-in-Some c x =
    let s = lexemes_of c.args.tokens.now in
    let d : Ctx = record x { types = map named_of c.args.types.now } in
    let n = c.node_in-node.result.now in
    let trees = syntax_of c.args.nodes.now in
    ok_more c.keep_named.result _ _ _ c.keep_named.ensures (ap (λ (z : List Definition). map definition_of c.args.list.now.items ++ z)
    (ap (λ (z : List NodeId). definition_if s (type_named (spelling s c.in-Some.token) (map named_of c.args.types.now))
    (trees_at trees z)) c.deref.ensures.value
    ∙ sym (ap (definition_in s d) c.node_in-node.ensures.node ∙ c.in-Some.ensures s d n.at (trees_at trees n.kids.items))))
