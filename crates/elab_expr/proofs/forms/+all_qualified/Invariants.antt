use Rattle.std.proofs.Common.{length}
use Rattle.elab_expr.proofs.forms.+all_qualified.Given as goal

abbrev pub decreases-all_qualified : goal.decreases-all_qualified
decreases-all_qualified l = length l.ids.now
