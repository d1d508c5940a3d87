use Rattle.std.proofs.Common.{◌∙◌, ap, sym}
use Rattle.elab_expr.specs.tx_ints.declared.kinds.IntKind.TheVariants.{Int}
use Rattle.cpp_types.specs.Typ.{Signature, int}
use Rattle.cpp_types.specs.Equal.{typ_eq}
use Rattle.cpp_types.proofs.Views.{signature_view}
use Rattle.elab_expr.specs.cpp_tree.Notation.{plain}
use Rattle.elab_expr.specs.elab_rules.Initialising.{signature_result}
use Rattle.elab_decls.proofs.functions.gives_int.Goals as goal

pub returns : goal.returns
returns c = c.is_int.ensures ∙ ap (λ (z : Signature). typ_eq (signature_result z) (plain (int Int))) (sym (signature_view c.args.ty.now))
