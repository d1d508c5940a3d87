use Rattle.std.proofs.Common.{◌≡◌, [], map, ap, sym, subst, rules, Result, Err, IfErr}
use Rattle.elab_entry.specs.cpp_tree.declared.faults.ElabFault.{ElabFault}
use Rattle.elab_entry.specs.declared.around.Around.{Around}
use Rattle.elab_entry.specs.elab_ctx.Says.{Faults}
use Rattle.elab_entry.specs.elab_rules.Lambdas.{closure_sized}
use Rattle.elab_entry.specs.cpp_types.Typ.{typ_of, signature_of}
use Rattle.elab_entry.specs.elab_ctx.Ctx.{Ctx, ctx_of, work_of, returns_of, lambda_of}
use Rattle.elab_entry.specs.elab_scopes.States.{state_of, body_of}
use Rattle.elab_entry.specs.Round.{round_of}
use Rattle.elab_lambdas.specs.Whole.{written_of}
use Rattle.elab_lambdas.proofs.Closing.{closed_sized, closed_large}
use Rattle.elab_lambdas.proofs.Made.{entered_is, round_is}
use Rattle.elab_lambdas.proofs.making.enter.Goals as goal

pub returns-clause-is : goal.returns-clause-is
returns-clause-is c trees =
    entered_is (state_of c.args.st.now) (record {
      ctx = ctx_of c.declare_closure.new.env;
      work = work_of c.args.st.now.work;
      bodies =
          map body_of c.args.st.now.bodies.items;
    }) (state_of c.enter_lambda.new.st) (written_of trees c.args.x.now) (returns_of c.args.returns)
    (typ_of c.args.ret.now) (typ_of c.object_type.result) (signature_of c.args.function.now) (lambda_of c.in_ok-lambda.lambda) c.in_ok-class.class
    (ap (λ (z : Ctx). record (state_of c.args.st.now) {
      ctx =
          z;
    }) c.in_ok-declare_closure.ensures) c.in_ok-around.ensures.is c.object_type.ensures c.in_ok-lambda.ensures c.in_ok-class.ensures

pub returns-clause-round : goal.returns-clause-round
returns-clause-round c =
    round_is (state_of c.args.st.now) (record {
      ctx = ctx_of c.declare_closure.new.env;
      work = work_of c.args.st.now.work;
      bodies =
          map body_of c.args.st.now.bodies.items;
    }) (written_of [] c.args.x.now) (signature_of c.args.function.now) (round_of c.in_ok-around.around)
    (ap (λ (z : Ctx). record (state_of c.args.st.now) { ctx = z }) c.in_ok-declare_closure.ensures) c.in_ok-around.ensures.round

pub returns-clause-sized : goal.returns-clause-sized
returns-clause-sized c trees = closed_sized (state_of c.args.st.now) (written_of trees c.args.x.now) (signature_of c.args.function.now)
    (ctx_of c.declare_closure.new.env) c.in_ok-class.class c.in_ok-declare_closure.ensures c.in_ok-class.ensures c.in_ok-sized_class.ensures

pub returns-in_err-sized_class-clause-large : goal.returns-in_err-sized_class-clause-large
returns-in_err-sized_class-clause-large c trees =
    let is_error : c.from_residual-in_err-sized_class.result ≡ Err c.in_err-sized_class.field-0.0 = search rules in
    subst (λ (z : Result Around ElabFault). IfErr z
    (λ (e : ElabFault). Faults e (closure_sized (state_of c.args.st.now) (written_of trees c.args.x.now) (signature_of c.args.function.now)))) (sym is_error)
    (closed_large (state_of c.args.st.now) (written_of trees c.args.x.now) (signature_of c.args.function.now)
    (ctx_of c.declare_closure.new.env) c.in_ok-class.class c.in_err-sized_class.field-0.0 c.in_ok-declare_closure.ensures c.in_ok-class.ensures
    c.in_err-sized_class.ensures)
