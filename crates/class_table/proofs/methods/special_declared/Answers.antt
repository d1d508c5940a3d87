use Rattle.elab_expr.proofs.Unmoved.{unmoved_all}
use Rattle.class_table.proofs.methods.special_declared.Goals as goal

pub returns-clause-kept : goal.returns-clause-kept
returns-clause-kept c = unmoved_all c.special_header.result c.args.work.now c.declared_written.new.work c.in_ok-found.ensures.kept
