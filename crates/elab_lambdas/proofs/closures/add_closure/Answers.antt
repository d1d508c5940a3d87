use Rattle.std.proofs.Common.{map}
use Rattle.elab_entry.specs.cpp_types.Typ.{signature_of}
use Rattle.elab_entry.specs.elab_ctx.Ctx.{ctx_of, capture_of, func_of, traits_of}
use Rattle.elab_entry.specs.elab_types.Shown.{parameter_of}
use Rattle.elab_lambdas.specs.Shown.{call_of}
use Rattle.elab_lambdas.proofs.Closing.{closure_is}
use Rattle.elab_lambdas.proofs.closures.add_closure.Goals as goal

pub returns : goal.returns
returns c = closure_is (ctx_of c.args.env.now) (ctx_of c.add_closure_class.new.env) (ctx_of c.add_rows.new.env) (ctx_of c.add_call.new.env)
    (map capture_of c.args.captures.now) (call_of c.args.words (signature_of c.args.ty.now))
    (map parameter_of c.args.params.now) c.in_ok-class.class c.args.words.closed (traits_of c.closure_traits-traits.result) (func_of c.in_ok-call.call)
    c.in_ok-add_closure_class.ensures c.in_ok-add_rows.ensures c.in_ok-add_call.ensures c.in_ok-class.ensures c.closure_traits-traits.ensures
    c.in_ok-call.ensures
