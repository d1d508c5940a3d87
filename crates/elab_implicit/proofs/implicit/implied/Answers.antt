use Rattle.std.proofs.Common.{◌∙◌, sym}
use Rattle.elab_implicit.proofs.Implying.{implied_some, changes_none}
use Rattle.elab_implicit.proofs.implicit.implied.Goals as goal

pub returns-in-Some-clause-is : goal.returns-in-Some-clause-is
returns-in-Some-clause-is c = implied_some c.args.st.now _ _ c.args.func c.in-Some.class _ c.wanted.ensures c.in-Some.is c.body_at.ensures.is

pub returns-in-None-clause-is : goal.returns-in-None-clause-is
returns-in-None-clause-is c = changes_none c.args.st.now c.args.func (sym c.wanted.ensures ∙ c.in-None.is)
