use Rattle.cpp_overload.proofs.Params.{count_none, count_object}
use Rattle.cpp_overload.proofs.choice.has_count.Goals as goal

pub returns-in-None : goal.returns-in-None
returns-in-None c = count_none c.args.cand.now c.args.args c.count.result c.deref.result.now c.in-None.is c.deref.ensures.value c.count.ensures

pub returns-then-args-gt0 : goal.returns-then-args-gt0
returns-then-args-gt0 c = count_object c.args.cand.now c.in-Some.field-0 c.args.args c.count-then-args-gt0.result c.deref-then-args-gt0.result.now
    c.if-args-gt0.true c.in-Some.is c.deref-then-args-gt0.ensures.value c.count-then-args-gt0.ensures
