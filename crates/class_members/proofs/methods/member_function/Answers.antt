use Rattle.std.proofs.Common.{◌≡◌, rules, map, option_map, Ok, Err, subst}
use Rattle.cpp_types.specs.Class.{member_of}
use Rattle.elab_init.specs.elab_ctx.Ctx.{ctx_of, func_of}
use Rattle.elab_init.specs.elab_ctx.Says.{Faults}
use Rattle.class_members.specs.Shown.{home_of, header_of, marks_of, definition_of}
use Rattle.class_members.specs.Parts.{member_made}
use Rattle.class_members.proofs.Chains.{member_function_refused, member_function_done}
use Rattle.class_members.proofs.methods.member_function.Goals as goal

pub returns-in_err-made : goal.returns-in_err-made
returns-in_err-made c w bodies =
    let is_error : c.from_residual.result ≡ Err c.in_err-made.field-0.0 = search rules in
    member_function_refused c.from_residual.result c.in_err-made.field-0.0 (ctx_of c.args.env.now) (ctx_of c.args.env.now) w bodies c.args.members.now
    (home_of c.args.home.now) (header_of c.args.header.now) (marks_of c.args.marks) (option_map definition_of c.args.definition) is_error
    (subst (λ z. Faults c.in_err-made.field-0.0 (member_made (ctx_of c.args.env.now) (home_of c.args.home.now) (map member_of z) (header_of c.args.header.now)
    (marks_of c.args.marks) (option_map definition_of c.args.definition))) c.deref.ensures.value c.in_err-made.ensures)

pub returns : goal.returns
returns c w bodies =
    member_function_done (ctx_of c.args.env.now) (ctx_of c.add_function.new.env) w bodies c.args.members.now (home_of c.args.home.now)
    (header_of c.args.header.now) (marks_of c.args.marks) (option_map definition_of c.args.definition) (func_of c.in_ok-made.made)
    (subst (λ z. member_made (ctx_of c.args.env.now) (home_of c.args.home.now) (map member_of z) (header_of c.args.header.now) (marks_of c.args.marks)
    (option_map definition_of c.args.definition) ≡ Ok (func_of c.in_ok-made.made)) c.deref.ensures.value c.in_ok-made.ensures)
    c.in_ok-add_function.ensures
