use Rattle.std.proofs.Common.{map}
use Rattle.elab_entry.specs.cpp_types.Typ.{signature_of}
use Rattle.elab_entry.specs.cpp_types.Class.{class_of, function_of}
use Rattle.elab_entry.specs.elab_ctx.Ctx.{ctx_of, capture_of}
use Rattle.elab_lambdas.specs.Shown.{call_of}
use Rattle.elab_lambdas.proofs.Closing.{class_is}
use Rattle.elab_lambdas.proofs.closures.add_closure_class.Goals as goal

pub returns : goal.returns
returns c = class_is (ctx_of c.args.env.now) (ctx_of c.push_class.new.env) (map capture_of c.args.captures.now)
    (call_of c.args.words (signature_of c.args.ty.now)) (function_of c.in_ok-call.call) c.next_completion-number.result (class_of c.in_ok-made.made)
    c.in_ok-push_class.ensures c.in_ok-made.ensures c.in_ok-call.ensures c.next_completion-number.ensures
