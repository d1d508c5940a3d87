use Rattle.std.proofs.Common.{refl, rules}
use Rattle.elab_scopes.proofs.Standing.{grown_by, one_added}
use Rattle.elab_scopes.proofs.returns.return_nothing.Goals as goal

pub returns-in_ok-made-in-Some : goal.returns-in_ok-made-in-Some
returns-in_ok-made-in-Some c = one_added c.args.st.now _ c.in_ok-made-in-Some.made _ _ _
    (grown_by _ _ c.in_ok-made-in-Some.ensures.grows refl) c.in_ok-made-in-Some.ensures.within c.in_ok-made-in-Some.ensures.is refl (search rules)
