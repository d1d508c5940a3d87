use Rattle.std.proofs.Common.{map, drop}
use Rattle.elab_stmt.specs.cpp_lex.Tokens.{lexemes_of}
use Rattle.elab_stmt.specs.elab_rules.Functions.{with_parameters}
use Rattle.elab_stmt.specs.elab_types.Shown.{parameter_of}
use Rattle.elab_stmt.specs.elab_scopes.States.{state_of}
use Rattle.elab_entry.proofs.OneByOne.{Steps}
use Rattle.elab_entry.proofs.parameters.with_parameters.Given as goal

abbrev pub invariant-loop-param : goal.invariant-loop-param
invariant-loop-param l = Steps l.fn.st l.st (with_parameters (lexemes_of l.tokens) (state_of l.st) (map parameter_of (drop l.param-index l.params)))
    (with_parameters (lexemes_of l.tokens) (state_of l.fn.st) (map parameter_of l.params))
