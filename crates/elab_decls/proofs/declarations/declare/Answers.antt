use Rattle.std.proofs.Common.{rules, sym}
use Rattle.elab_decls.proofs.declarations.declare.Goals as goal

pub returns-in-Err-Twice-clause-found : goal.returns-in-Err-Twice-clause-found
returns-in-Err-Twice-clause-found c = sym ((c.in-Err-Twice.ensures.twice c.in-Err-Twice.old).0
    (search (rules, c.in-Err-Twice.field-0-is, c.in-Err-Twice.old-is)))
