use Rattle.std.proofs.Common.{◌≡◌, ◌∙◌, List, Ok, Err, refl, ap, sym, subst}
use Rattle.elab_entry.specs.cpp_ast.declared.arena.NodeId.{NodeId}
use Rattle.elab_entry.specs.cpp_lex.Tokens.{lexemes_of}
use Rattle.elab_entry.specs.elab_ctx.Says.{Faults}
use Rattle.elab_entry.specs.elab_rules.Functions.{no_storage}
use Rattle.elab_entry.specs.elab_scopes.States.{state_of}
use Rattle.elab_entry.specs.elab_types.Syntax.{syntax_of, trees_at}
use Rattle.elab_units.specs.Begun.{begun_behind}
use Rattle.elab_leaving.specs.Declaring.{declarations_of}
use Rattle.elab_leaving.specs.Programs.{unit_from}
use Rattle.elab_units.specs.Sources.{source_in}
use Rattle.elab_units.proofs.Elaborating.{unit_done, unit_undeclared, unit_unimplied, keeps_fault}
use Rattle.elab_units.proofs.Outcomes.{handed_on}
use Rattle.elab_units.proofs.programs.unit_behind.Goals as goal

pub returns-clause-keeps : goal.returns-clause-keeps
returns-clause-keeps c =
    let s = lexemes_of c.args.unit.now.tokens in
    let whole = c.in_ok-whole.whole in
    let trees = syntax_of whole.nodes in
    let started = state_of c.in_ok-st.st in
    let declared = state_of c.all_declared.new.st in
    let well : declarations_of s no_storage started (trees_at trees c.deref.result.now) ≡ Ok declared = c.in_ok-all_declared.ensures in
    record {
      source = source_in c.args.unit.now whole;
      shows = record { tokens = refl; decls = c.in_ok-whole.ensures.whole };
      state = state_of c.with_implied.new.st;
      made = unit_done s (begun_behind c.args.source c.args.known) started declared (state_of c.with_implied.new.st)
          (trees_at trees whole.decls.items) c.in_ok-st.ensures.state
          (ap (λ (z : List NodeId). declarations_of s no_storage started (trees_at trees z)) (sym c.deref.ensures.value)
          ∙ well) c.in_ok-with_implied.ensures.is;
      kept = c.in_ok-behind.ensures.kept;
    }

pub returns-in_err-all_declared-clause-keeps : goal.returns-in_err-all_declared-clause-keeps
returns-in_err-all_declared-clause-keeps c =
    let is_error : c.from_residual-in_err-all_declared.result ≡ Err c.in_err-all_declared.field-0.0 =
    handed_on c.from_residual-in_err-all_declared.result c.in_err-all_declared.field-0.0 c.from_residual-in_err-all_declared.ensures.1 in
    let s = lexemes_of c.args.unit.now.tokens in
    let whole = c.in_ok-whole.whole in
    let trees = syntax_of whole.nodes in
    let before = begun_behind c.args.source c.args.known in
    let e = c.in_err-all_declared.field-0.0 in
    keeps_fault c.args.unit.now c.args.source c.args.known c.from_residual-in_err-all_declared.result e is_error (record {
      source = source_in c.args.unit.now whole;
      shows = record { tokens = refl; decls = c.in_ok-whole.ensures.whole };
      is = subst (λ (z : List NodeId). Faults e (unit_from s before (trees_at trees z))) c.deref.ensures.value
          (unit_undeclared s before (state_of c.in_ok-st.st) (trees_at trees c.deref.result.now) e c.in_ok-st.ensures.state c.in_err-all_declared.ensures);
    })

pub returns-in_err-with_implied-clause-keeps : goal.returns-in_err-with_implied-clause-keeps
returns-in_err-with_implied-clause-keeps c =
    let is_error : c.from_residual-in_err-with_implied.result ≡ Err c.in_err-with_implied.field-0.0 =
    handed_on c.from_residual-in_err-with_implied.result c.in_err-with_implied.field-0.0 c.from_residual-in_err-with_implied.ensures.1 in
    let s = lexemes_of c.args.unit.now.tokens in
    let whole = c.in_ok-whole.whole in
    let trees = syntax_of whole.nodes in
    let before = begun_behind c.args.source c.args.known in
    let started = state_of c.in_ok-st.st in
    let declared = state_of c.all_declared.new.st in
    let e = c.in_err-with_implied.field-0.0 in
    let well : declarations_of s no_storage started (trees_at trees c.deref.result.now) ≡ Ok declared = c.in_ok-all_declared.ensures in
    keeps_fault c.args.unit.now c.args.source c.args.known c.from_residual-in_err-with_implied.result e is_error (record {
      source = source_in c.args.unit.now whole;
      shows = record { tokens = refl; decls = c.in_ok-whole.ensures.whole };
      is = unit_unimplied s before started declared (trees_at trees whole.decls.items) e c.in_ok-st.ensures.state
          (ap (λ (z : List NodeId). declarations_of s no_storage started (trees_at trees z)) (sym c.deref.ensures.value) ∙ well) c.in_err-with_implied.ensures;
    })
