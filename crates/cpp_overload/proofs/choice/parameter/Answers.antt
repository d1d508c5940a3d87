use Rattle.cpp_overload.proofs.Params.{match_same, typ_at-later, at_params}
use Rattle.cpp_overload.proofs.choice.parameter.Goals as goal

pub returns-in-None : goal.returns-in-None
returns-in-None c = match_same c.type_at.result _ _ (at_params c.args.cand.now c.args.i c.deref.result.now c.in-None.is c.deref.ensures.value) c.type_at.ensures

pub returns-else-i-eq0 : goal.returns-else-i-eq0
returns-else-i-eq0 c = match_same c.type_at-else-i-eq0.result _ _
    (typ_at-later c.args.cand.now c.in-Some.object c.args.i c.deref-else-i-eq0.result.now c.in-Some.is c.if-i-eq0.false c.deref-else-i-eq0.ensures.value)
    c.type_at-else-i-eq0.ensures
