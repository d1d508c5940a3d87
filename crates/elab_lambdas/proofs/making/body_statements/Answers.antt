use Rattle.elab_entry.specs.cpp_lex.Tokens.{lexemes_of}
use Rattle.elab_entry.specs.elab_rules.Statements.{State, statements_of}
use Rattle.elab_entry.specs.elab_rules.Functions.{with_parameters}
use Rattle.elab_entry.specs.elab_rules.Lambdas.{no_lambda}
use Rattle.elab_entry.specs.elab_types.Syntax.{syntax_of}
use Rattle.elab_entry.specs.elab_scopes.States.{state_of}
use Rattle.elab_lambdas.specs.Whole.{written_of}
use Rattle.elab_lambdas.proofs.Kept.{lists_after}
use Rattle.elab_lambdas.proofs.making.body_statements.Goals as goal

pub returns : goal.returns
returns c =
    let x = written_of (syntax_of c.args.nodes.now) c.args.x.now in
    lists_after c.args.st.now c.add_parameters.new.st c.statements_in.new.st (with_parameters (lexemes_of c.args.tokens.now) (state_of c.args.st.now) x.params)
    (λ (y : State). statements_of no_lambda
    (lexemes_of c.args.tokens.now) y x.body) c.statements_in.result c.in_ok-add_parameters.ensures c.statements_in.ensures
