use Rattle.std.proofs.Common.{◌∙◌, ℕ, List, map, sym, ap}
use Rattle.elab_entry.specs.cpp_lex.Tokens.{lexemes_of}
use Rattle.elab_entry.specs.cpp_types.Typ.{Typ, typ_of}
use Rattle.elab_entry.specs.elab_rules.Globals.{global_declared}
use Rattle.elab_entry.specs.elab_rules.Statements.{bound_by_initialiser}
use Rattle.elab_entry.specs.elab_scopes.States.{state_of, body_of}
use Rattle.elab_entry.specs.elab_types.Syntax.{syntax_of, trees_at}
use Rattle.class_members.specs.Shown.{storage_of}
use Rattle.elab_decls.proofs.Steps.{answers_same}
use Rattle.elab_units.proofs.declarations.variable_declared.Goals as goal

pub returns : goal.returns
returns c =
    let s = lexemes_of c.args.tokens.now in
    let init = trees_at (syntax_of c.args.nodes.now) c.args.init.now in
    answers_same _ c.global_declared.result _ _
    (ap (λ (z : List ℕ). global_declared s (state_of c.args.st.now) (storage_of c.args.storage) c.args.at z
    (bound_by_initialiser s (typ_of c.args.found.now.ty) init) init) (sym c.name_of-name.ensures)
    ∙ ap (λ (z : Typ). global_declared s (state_of c.args.st.now) (storage_of c.args.storage) c.args.at c.name_of-name.result.now z init)
    (sym c.in_ok-ty.ensures))
    (c.global_declared.ensures (map body_of c.args.st.now.bodies.items))
