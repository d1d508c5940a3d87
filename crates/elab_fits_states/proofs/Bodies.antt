-- Statements of the body of a function fit.
use Rattle.std.proofs.Common.{false}
use Rattle.elab_rules.specs.cpp_tree.declared.roles.Role.TheVariants.{BlockItem}
use Rattle.elab_rules.specs.Statements.{Done, statements_of}
use Rattle.elab_fits_statements.specs.Anywhere.{AllServe}
use Rattle.elab_fits_statements.specs.Discipline as discipline
use Rattle.elab_fits_statements.proofs.States.{mapped}
use Rattle.elab_fits_statements.proofs.Statements.{body_serves}
use Rattle.elab_fits_states.specs.States.{setting, words}
use Rattle.elab_fits_states.specs.Bodies.{BodyFits, BodiesFit}
use Rattle.elab_fits_states.proofs.Discipline.{a_discipline}

pub bodies_fit : BodiesFit
bodies_fit f lams s st ts p g a t = mapped
    (λ (x : Done). discipline.Goes (words f s) st x.state × AllServe (setting f x.state) false false BlockItem x.trees) (BodyFits f st)
    (statements_of lams s st ts)
    (body_serves (words f s) lams s (a_discipline f lams s p) st ts g a.label a.breaks a.continues t)
    (λ y i. record { settled = i.0.good; leads = i.0.leads; serve = i.1 })
