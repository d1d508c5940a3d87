use Rattle.std.proofs.Common.{◌≡◌, Err, ap, map, rules}
use Rattle.cpp_types.specs.Typ.{typ_of}
use Rattle.elab_entry.specs.elab_rules.Implicit.{source_object}
use Rattle.elab_entry.specs.elab_ctx.Ctx.{Ctx, closure_of}
use Rattle.elab_entry.specs.elab_scopes.States.{state_of}
use Rattle.elab_implicit.proofs.CopyLists.{base_listed, base_refused, cleared_is}
use Rattle.elab_implicit.proofs.PartLists.{lists_fail}
use Rattle.elab_implicit.proofs.copying.base_ready.Goals as goal

pub returns-clause-is : goal.returns-clause-is
returns-clause-is c = base_listed c.args.st.now _ c.args.at c.args.class c.args.base
    (source_object c.args.class (typ_of c.args.param.now) c.args.at) c.in_ok-made.made _ _ c.in_ok-made.ensures.made
    (cleared_is (state_of c.args.st.now) _ _ _ c.in_ok-made.ensures.ctx (ap (map closure_of) c.clear.ensures.items)) c.in_ok-list.ensures

pub returns-clause-classes : goal.returns-clause-classes
returns-clause-classes c = ap (λ (z : Ctx). z.classes) c.in_ok-made.ensures.ctx

pub returns-in_err-made-clause-is : goal.returns-in_err-made-clause-is
returns-in_err-made-clause-is c =
    let is_error : c.from_residual.result ≡ Err c.in_err-made.field-0.0 = search rules in
    lists_fail _ _ _ _ _ is_error (base_refused c.args.st.now c.args.at c.args.class c.args.base
    (source_object c.args.class (typ_of c.args.param.now) c.args.at) _ c.in_err-made.ensures.made)
