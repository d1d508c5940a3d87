use Rattle.std.proofs.Common.{drop}
use Rattle.elab_entry.specs.cpp_lex.Tokens.{lexemes_of}
use Rattle.elab_entry.specs.elab_ctx.Steps.{each_of}
use Rattle.elab_entry.specs.elab_types.Syntax.{syntax_of, trees_at}
use Rattle.elab_entry.specs.elab_scopes.States.{state_of}
use Rattle.elab_entry.proofs.OneByOne.{Steps}
use Rattle.elab_members.specs.Initialisers.{defaults_of}
use Rattle.elab_members.proofs.declarations.all_defaults.Given as goal

abbrev pub invariant-loop-id : goal.invariant-loop-id
invariant-loop-id g l = Steps l.fn.st l.st (each_of (defaults_of (g.L.MakeLambdas.lambdas l.lams) (lexemes_of l.tokens) l.class) (state_of l.st)
    (trees_at (syntax_of l.nodes) (drop l.id-index l.ids)))
    (each_of (defaults_of (g.L.MakeLambdas.lambdas l.lams) (lexemes_of l.tokens) l.class) (state_of l.fn.st) (trees_at (syntax_of l.nodes) l.ids))
