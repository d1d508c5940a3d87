use Rattle.lowered_expressions.proofs.Moving.{operator_moves, load_moves, assigned_moves, branch_moves}
use Rattle.lowered_expressions.proofs.laws.expressions_fit.Goals as goal

pub returns-clause-operators : goal.returns-clause-operators
returns-clause-operators c = λ p b book h g chain rank index after falls items d op kind at going a.
    operator_moves p b book h g chain rank index after falls d op kind at going a

pub returns-clause-reads : goal.returns-clause-reads
returns-clause-reads c = λ p b book h g chain rank index after items d kind volatile at going a.
    load_moves p b book h g chain rank index after d kind volatile at going a

pub returns-clause-assignments : goal.returns-clause-assignments
returns-clause-assignments c = λ p b book h g chain rank index after items d kind volatile at going a.
    assigned_moves p b book h g chain rank index after d kind volatile at going a

pub returns-clause-branches : goal.returns-clause-branches
returns-clause-branches c = λ p b book h g chain rank index target m items d id way x y first second going there here.
    branch_moves p b book h g chain rank index target d id way x y first second going there here
