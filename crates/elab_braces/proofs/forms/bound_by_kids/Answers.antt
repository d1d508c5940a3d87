use Rattle.std.proofs.Common.{◌∙◌, sym}
use Rattle.elab_expr.specs.cpp_types.Typ.{typ_of}
use Rattle.elab_braces.proofs.Initials.{count_is, same_bound}
use Rattle.elab_braces.proofs.forms.bound_by_kids.Goals as goal

pub returns : goal.returns
returns c = λ trees. same_bound (typ_of c.args.ty.now) _ _ _ (c.in_ok-count.ensures ∙ sym (count_is trees c.args.ids.now)) c.closed_bound.ensures
