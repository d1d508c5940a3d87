use Rattle.std.proofs.Common.{◌+◌, ◌*◌, drop}
use Rattle.elab_entry.specs.cpp_lex.Tokens.{lexemes_of}
use Rattle.elab_entry.specs.elab_types.Syntax.{syntax_of, trees_at}
use Rattle.elab_entry.specs.elab_scopes.States.{state_of}
use Rattle.elab_entry.proofs.elab_scopes.Makings.{Making}
use Rattle.elab_lambdas.specs.Whole.{lambdas_among}
use Rattle.elab_lambdas.proofs.written.+lambdas.Given as goal

abbrev pub decreases-all_in : goal.decreases-all_in
decreases-all_in l = l.id.0 * 2 + 1

abbrev pub decreases-all_among : goal.decreases-all_among
decreases-all_among l = l.parent.0 * 2

abbrev pub invariant-all_among-loop-id : goal.invariant-all_among-loop-id
invariant-all_among-loop-id l = Making l.fn.st l.st (lambdas_among (lexemes_of l.tokens) (state_of l.st) (trees_at (syntax_of l.nodes) (drop l.id-index l.ids)))
    (lambdas_among (lexemes_of l.tokens) (state_of l.fn.st) (trees_at (syntax_of l.nodes) l.ids))
