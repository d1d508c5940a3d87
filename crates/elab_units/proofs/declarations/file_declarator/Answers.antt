use Rattle.std.proofs.Common.{ap}
use Rattle.elab_entry.specs.cpp_lex.Tokens.{lexemes_of}
use Rattle.elab_entry.specs.cpp_types.Typ.{typ_of}
use Rattle.elab_entry.specs.elab_scopes.States.{state_of}
use Rattle.elab_entry.specs.elab_types.Syntax.{syntax_of, tree_at, trees_at}
use Rattle.class_members.specs.Shown.{storage_of}
use Rattle.elab_decls.proofs.Steps.{answers_same}
use Rattle.elab_units.proofs.Declarings.{declarator_is}
use Rattle.elab_units.proofs.declarations.file_declarator.Goals as goal

pub returns : goal.returns
returns c =
    let n = c.node_in-node.result.now in
    let trees = syntax_of c.args.nodes.now in
    answers_same _ c.declarator_declared.result _ _
    (declarator_is (lexemes_of c.args.tokens.now) (storage_of c.args.storage) (typ_of c.args.ty.now) (state_of c.args.st.now)
    (tree_at trees c.args.id) n.kind n.at n.token (trees_at trees n.kids.items) _ c.place-at.result c.node_in-node.ensures.node
    (c.is_declarator.ensures.yes c.if-not-is_declarator.false) c.place-at.ensures (ap (trees_at trees) c.deref.ensures.value))
    c.declarator_declared.ensures
