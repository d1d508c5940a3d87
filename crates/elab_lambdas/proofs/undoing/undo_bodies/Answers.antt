use Rattle.std.proofs.Common.{List, map, ap, sym, ◌∙◌}
use Rattle.std.proofs.lemmas.List.{take-map}
use Rattle.elab_entry.specs.elab_rules.Statements.{Body}
use Rattle.elab_entry.specs.elab_scopes.States.{state_of, body_of}
use Rattle.elab_lambdas.proofs.undoing.undo_bodies.Goals as goal

pub returns-clause-is : goal.returns-clause-is
returns-clause-is c = ap (λ (z : List Body). record (state_of c.args.st.now) { bodies = z })
    (ap (map body_of) c.truncate.ensures.items ∙ sym (take-map body_of c.args.count c.args.st.now.bodies.items))
