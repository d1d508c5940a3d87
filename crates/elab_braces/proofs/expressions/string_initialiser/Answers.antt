use Rattle.std.proofs.Common.{◌∙◌, sym, ap}
use Rattle.elab_expr.specs.cpp_types.Typ.{typ_of}
use Rattle.elab_expr.specs.elab_ctx.Ctx.{ctx_of}
use Rattle.elab_expr.proofs.elab_ctx.Making.{gives_same}
use Rattle.elab_expr.specs.elab_rules.Strings.{string_bytes}
use Rattle.elab_expr.specs.elab_rules.Braces.{string_object}
use Rattle.elab_braces.proofs.expressions.string_initialiser.Goals as goal

pub returns : goal.returns
returns c = gives_same _ _ _ _ _ (ap (λ z. string_object (ctx_of c.args.env.now) (typ_of c.args.ty.now) c.args.at z)
    (sym (c.deref.ensures.value ∙ c.in_ok-bytes.ensures ∙ ap string_bytes c.spelling.ensures))) c.string_object.ensures
