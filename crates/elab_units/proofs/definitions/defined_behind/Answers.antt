use Rattle.std.proofs.Common.{◌≡◌, ◌∙◌, true, false, map, Err, sym, rules}
use Rattle.elab_entry.specs.cpp_lex.Tokens.{lexemes_of}
use Rattle.elab_entry.specs.cpp_types.Typ.{typ_of}
use Rattle.elab_entry.specs.elab_scopes.States.{state_of}
use Rattle.elab_entry.specs.elab_types.Shown.{declared_of}
use Rattle.elab_entry.specs.elab_types.Syntax.{syntax_of, tree_at, trees_at}
use Rattle.class_members.specs.Shown.{storage_of}
use Rattle.elab_decls.proofs.Steps.{answers_refused}
use Rattle.elab_units.proofs.Declarings.{changes_answers, defined_then, defined_fails}
use Rattle.elab_units.proofs.definitions.defined_behind.Goals as goal

pub returns : goal.returns
returns c =
    let trees = syntax_of c.args.nodes.now in
    let p = c.in-Some.parts in
    defined_then (lexemes_of c.args.tokens.now) c.args.st.now c.specified.new.work (storage_of c.args.known) (storage_of c.args.storage)
    (trees_at trees c.args.kids.now) (trees_at trees c.args.rest.now) c.args.at c.args.first (tree_at trees p.base) (tree_at trees p.declarator)
    (tree_at trees p.body) (typ_of c.in_ok-ty.ty) (c.in-Some.ensures.kids trees) c.in_ok-ty.ensures.says c.in_ok-ty.ensures.kept
    c.defined_with.new.st c.declared_by.new.work (declared_of c.in_ok-found.found) false c.defined_with.result c.in_ok-found.ensures.says
    c.in_ok-found.ensures.kept (sym c.is_qualified.ensures ∙ c.if-is_qualified.false) c.defined_with.ensures

pub returns-then-is_qualified : goal.returns-then-is_qualified
returns-then-is_qualified c =
    let trees = syntax_of c.args.nodes.now in
    let p = c.in-Some.parts in
    defined_then (lexemes_of c.args.tokens.now) c.args.st.now c.specified.new.work (storage_of c.args.known) (storage_of c.args.storage)
    (trees_at trees c.args.kids.now) (trees_at trees c.args.rest.now) c.args.at c.args.first (tree_at trees p.base) (tree_at trees p.declarator)
    (tree_at trees p.body) (typ_of c.in_ok-ty.ty) (c.in-Some.ensures.kids trees) c.in_ok-ty.ensures.says c.in_ok-ty.ensures.kept
    c.member_defined.new.st c.declared_by.new.work (declared_of c.in_ok-found.found) true c.member_defined.result c.in_ok-found.ensures.says
    c.in_ok-found.ensures.kept (sym c.is_qualified.ensures ∙ c.if-is_qualified.true)
    (changes_answers (record c.args.st.now { work = c.declared_by.new.work }) c.member_defined.new.st c.member_defined.result _ c.member_defined.ensures)

pub returns-in_err-found : goal.returns-in_err-found
returns-in_err-found c =
    let is_error : c.from_residual-in_err-found.result ≡ Err c.in_err-found.field-0.0 = search rules in
    let trees = syntax_of c.args.nodes.now in
    let p = c.in-Some.parts in
    answers_refused _ c.from_residual-in_err-found.result c.in_err-found.field-0.0 _ is_error
    (defined_fails (lexemes_of c.args.tokens.now) c.args.st.now c.specified.new.work (storage_of c.args.known) (storage_of c.args.storage)
    (trees_at trees c.args.kids.now) (trees_at trees c.args.rest.now) c.args.at c.args.first (tree_at trees p.base) (tree_at trees p.declarator)
    (tree_at trees p.body) (typ_of c.in_ok-ty.ty) (c.in-Some.ensures.kids trees) c.in_ok-ty.ensures.says c.in_ok-ty.ensures.kept
    c.in_err-found.field-0.0 c.in_err-found.ensures.says)
