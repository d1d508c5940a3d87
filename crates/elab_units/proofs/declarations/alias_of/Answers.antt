use Rattle.std.proofs.Common.{◌∙◌, List, Result, ap, subst, sym}
use Rattle.elab_entry.specs.cpp_lex.Tokens.{lexemes_of}
use Rattle.elab_entry.specs.cpp_types.Typ.{Typ}
use Rattle.elab_entry.specs.cpp_ast.declared.arena.NodeId.{NodeId}
use Rattle.elab_entry.specs.cpp_tree.declared.faults.ElabFault.{ElabFault}
use Rattle.elab_entry.specs.elab_ctx.Ctx.{Work, ctx_of}
use Rattle.elab_entry.specs.elab_ctx.Steps.{and_then}
use Rattle.elab_entry.specs.elab_rules.Statements.{State}
use Rattle.elab_entry.specs.elab_rules.Units.{alias_of}
use Rattle.elab_entry.specs.elab_scopes.States.{state_of}
use Rattle.elab_entry.specs.elab_types.Syntax.{syntax_of, trees_at}
use Rattle.class_members.specs.Shown.{Answers}
use Rattle.elab_decls.proofs.Steps.{answers_same}
use Rattle.elab_entry.specs.elab_rules.Globals.{alias_declared}
use Rattle.elab_units.proofs.Declarings.{alias_answers}
use Rattle.elab_units.proofs.declarations.alias_of.Goals as goal

pub returns : goal.returns
returns c =
    let s = lexemes_of c.args.tokens.now in
    let st = state_of c.args.st.now in
    let trees = syntax_of c.args.nodes.now in
    let next : Typ → Result State ElabFault = λ (u : Typ). alias_declared st c.args.at c.args.name.now u in
    let behind : Work → State = λ (w : Work). record { ctx = ctx_of c.alias_declared.new.env; work = w; bodies = st.bodies } in
    let whole = alias_of s st c.args.at c.args.name.now (trees_at trees c.args.kids.now) in
    subst (λ (w : Work). Answers (behind w) c.alias_declared.result whole) (sym c.in_ok-ty.ensures.kept.work)
    (answers_same (behind st.work) c.alias_declared.result _ whole
    (ap (λ (z : List NodeId). alias_of s st c.args.at c.args.name.now (trees_at trees z)) c.in-Some.ensures.kid
    ∙ ap (λ (z : Result Typ ElabFault). and_then z next) c.in_ok-ty.ensures.says)
    (alias_answers _ c.alias_declared.result _ (c.alias_declared.ensures.done st.work st.bodies) (c.alias_declared.ensures.fault st.work st.bodies)))
