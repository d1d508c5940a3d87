use Rattle.elab_entry.specs.cpp_lex.Tokens.{lexemes_of}
use Rattle.elab_entry.specs.cpp_types.Typ.{typ_of}
use Rattle.elab_entry.specs.elab_types.Syntax.{syntax_of, tree_at, trees_at}
use Rattle.class_members.specs.Shown.{storage_of}
use Rattle.elab_units.proofs.Declarings.{typed_then}
use Rattle.elab_units.proofs.declarations.declarators_typed.Goals as goal

pub returns : goal.returns
returns c =
    let trees = syntax_of c.args.nodes.now in
    let found = c.node_at.result.now in
    typed_then (lexemes_of c.args.tokens.now) c.args.st.now c.file_declarators.new.st c.specified.new.work (storage_of c.args.storage) c.args.at
    (tree_at trees c.args.base) found.kind found.at found.token (trees_at trees found.kids.items) (trees_at trees c.args.rest.now) (typ_of c.in_ok-ty.ty)
    c.file_declarators.result c.node_at.ensures.node (c.is_specifiers.ensures.yes c.if-not-is_specifiers.false) c.in_ok-ty.ensures.says
    c.in_ok-ty.ensures.kept c.file_declarators.ensures
