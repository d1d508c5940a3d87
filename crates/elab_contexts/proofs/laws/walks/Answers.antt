use Rattle.elab_rules.specs.Lambdas.{lambdas_of}
use Rattle.elab_rules.specs.Statements.{Done, Full, full_operand, statements_of}
use Rattle.elab_rules.specs.Functions.{function_body}
use Rattle.elab_fits.proofs.Steps.{weaken}
use Rattle.elab_contexts.specs.Walks.{Walks}
use Rattle.elab_contexts.proofs.Walking.{Leaves}
use Rattle.elab_contexts.proofs.Bodies.{lambdas_lawful, function_kept}
use Rattle.elab_contexts.proofs.Statements.{full_kept, statements_kept}
use Rattle.elab_contexts.proofs.Units.{declarations_walk, units_walk}
use Rattle.elab_contexts.proofs.laws.walks.Goals as goal

pub returns-clause-lambdas : goal.returns-clause-lambdas
returns-clause-lambdas c s st e = weaken (Leaves st) (Walks st) (lambdas_of s st e) (λ y h. h.walk) (lambdas_lawful.each s st e)

pub returns-clause-operands : goal.returns-clause-operands
returns-clause-operands c s st e = weaken (λ (f : Full). Leaves st f.state) (λ (f : Full). Walks st f.state) (full_operand lambdas_of s st e)
    (λ f h. h.walk) (full_kept lambdas_of lambdas_lawful s st e)

pub returns-clause-statements : goal.returns-clause-statements
returns-clause-statements c s st ts = weaken (λ (d : Done). Leaves st d.state) (λ (d : Done). Walks st d.state) (statements_of lambdas_of s st ts)
    (λ d h. h.walk) (statements_kept lambdas_of lambdas_lawful s st ts)

pub returns-clause-bodies : goal.returns-clause-bodies
returns-clause-bodies c s st h this place t = weaken (Leaves st) (Walks st) (function_body lambdas_of s st h this place t) (λ y i. i.walk)
    (function_kept lambdas_of lambdas_lawful s st h this place t)

pub returns-clause-declarations : goal.returns-clause-declarations
returns-clause-declarations c = declarations_walk

pub returns-clause-units : goal.returns-clause-units
returns-clause-units c = units_walk
