use Rattle.std.proofs.Common.{refl, rules}
use Rattle.elab_scopes.proofs.Standing.{grown_by, one_added}
use Rattle.elab_scopes.proofs.simple.whole.Goals as goal

pub returns : goal.returns
returns c = one_added c.args.st.now _ c.in_ok-made.made _ _ _
    (grown_by _ _ c.in_ok-made.ensures.grows refl) c.in_ok-made.ensures.within c.in_ok-made.ensures.is refl (search rules)
