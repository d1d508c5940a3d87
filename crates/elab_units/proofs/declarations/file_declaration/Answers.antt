use Rattle.std.proofs.Common.{◌∙◌, List, sym, ap}
use Rattle.elab_entry.specs.cpp_lex.Tokens.{lexemes_of}
use Rattle.elab_entry.specs.cpp_ast.declared.arena.NodeId.{NodeId}
use Rattle.elab_entry.specs.cpp_ast.Trees.{more}
use Rattle.elab_entry.specs.elab_scopes.States.{state_of}
use Rattle.elab_entry.specs.elab_types.Syntax.{syntax_of, tree_at, trees_at}
use Rattle.class_members.specs.Shown.{storage_of}
use Rattle.elab_decls.proofs.Steps.{answers_same}
use Rattle.elab_leaving.specs.Declaring.{file_typed, file_started}
use Rattle.elab_units.proofs.Declarings.{started_is, fault_by}
use Rattle.elab_units.proofs.declarations.file_declaration.Goals as goal

pub returns-in_default : goal.returns-in_default
returns-in_default c =
    let s = lexemes_of c.args.tokens.now in
    let st = state_of c.args.st.now in
    let trees = syntax_of c.args.nodes.now in
    fault_by _ _ _ c.ill.ensures
    (started_is s st c.args.at (trees_at trees c.args.kids.now) (storage_of c.args.storage)
    ∙ ap (file_started s st c.args.at) c.started_from-started.ensures.started
    ∙ ap (λ (z : List NodeId). file_typed s st (storage_of c.started_from-started.result.storage) c.args.at (trees_at trees z)) c.in_default.ensures.kid)

pub returns : goal.returns
returns c =
    let s = lexemes_of c.args.tokens.now in
    let st = state_of c.args.st.now in
    let trees = syntax_of c.args.nodes.now in
    answers_same _ c.declarators_typed.result _ _
    (started_is s st c.args.at (trees_at trees c.args.kids.now) (storage_of c.args.storage)
    ∙ ap (file_started s st c.args.at) c.started_from-started.ensures.started
    ∙ ap (λ (z : List NodeId). file_typed s st (storage_of c.started_from-started.result.storage) c.args.at (trees_at trees z)) c.in-Some.ensures.kid
    ∙ ap (λ (z : List NodeId). file_typed s st (storage_of c.started_from-started.result.storage) c.args.at
    (more (tree_at trees c.in-Some.base) (trees_at trees z))) (sym c.rest_from-rest.ensures.rest))
    c.declarators_typed.ensures
