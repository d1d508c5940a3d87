use Rattle.elab_types.proofs.ParameterTypes.{types_more, types_all}
use Rattle.elab_types.proofs.declarators.types_of_parameters.Goals as goal

pub loop-param-preserved : goal.loop-param-preserved
loop-param-preserved c = types_more c.args.params.now c.loop-param.param-index c.param-item.result c.loop-param.types.items _ c.in_ok-unqualified_type.field-0 _
    c.loop-param-test.true c.param-item.is c.in_ok-unqualified_type.ensures c.in_ok-push.ensures.items c.loop-param.invariant

pub returns : goal.returns
returns c = types_all c.args.params.now c.loop-param.param-index c.loop-param.types.items _ c.loop-param-test.false c.loop-param.invariant
