use Rattle.elab_entry.proofs.elab_scopes.elab_expr.Unmoved.{unmoved_all}
use Rattle.elab_members.proofs.outside.outside_special.Goals as goal

pub returns-clause-kept : goal.returns-clause-kept
returns-clause-kept c = unmoved_all c.special_header.result c.args.work.now c.declared_written.new.work c.in_ok-found.ensures.kept
