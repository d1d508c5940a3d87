use Rattle.std.proofs.Common.{◌∙◌, ap}
use Rattle.elab_init.specs.elab_ctx.Places.{places_where, is_free_of}
use Rattle.class_members.specs.Shown.{header_of}
use Rattle.class_members.proofs.SameFunctions.{member_like, free_like}
use Rattle.class_members.proofs.methods.places_like.Goals as goal

pub returns-in-Some : goal.returns-in-Some
returns-in-Some c = member_like (header_of c.args.header.now) c.in-Some.class c.in-Some.is c.args.funcs.now c.of_class.result.now c.of_class.ensures

pub returns-in-None : goal.returns-in-None
returns-in-None c = free_like (header_of c.args.header.now) c.in-None.is c.args.funcs.now c.of_name.result.now
    (c.of_name.ensures ∙ ap (λ name. places_where (is_free_of name) 0 c.args.funcs.now) c.deref.ensures.value)
