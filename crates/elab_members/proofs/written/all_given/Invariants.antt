use Rattle.std.proofs.Common.{[], drop}
use Rattle.elab_entry.specs.cpp_lex.Tokens.{lexemes_of}
use Rattle.elab_entry.specs.elab_rules.Members.{all_given}
use Rattle.elab_entry.specs.elab_types.Syntax.{syntax_of, trees_at}
use Rattle.elab_entry.specs.elab_scopes.States.{state_of}
use Rattle.elab_members.specs.Giving.{giving_in}
use Rattle.elab_members.proofs.GivenSteps.{Gathering}
use Rattle.elab_members.proofs.written.all_given.Given as goal

abbrev pub invariant-loop-id : goal.invariant-loop-id
invariant-loop-id g l = Gathering l.fn.st l.st l.list.items
    (all_given (g.L.MakeLambdas.lambdas l.lams) (lexemes_of l.tokens) l.class (giving_in l.st l.list.items)
    (trees_at (syntax_of l.nodes) (drop l.id-index l.ids)))
    (all_given (g.L.MakeLambdas.lambdas l.lams) (lexemes_of l.tokens) l.class (record { state = state_of l.fn.st; given = [] })
    (trees_at (syntax_of l.nodes) l.ids))
