use Rattle.std.proofs.Common.{refl, rules}
use Rattle.elab_expr.specs.cpp_types.Typ.{typ_of}
use Rattle.elab_expr.specs.cpp_tree.Trees.{Tree}
use Rattle.elab_scopes.specs.States.{full_in}
use Rattle.elab_scopes.specs.Returning.{scalar_returned}
use Rattle.elab_scopes.proofs.Wholly.{made_done}
use Rattle.elab_scopes.proofs.returns.return_scalar.Goals as goal

pub returns : goal.returns
returns c = made_done c.args.st.now _ (full_in c.args.st.now c.args.o) _ _ _ _ _
    (λ (z : Tree). scalar_returned c.args.at c.args.o.at (typ_of c.args.ty.now) z) c.in_ok-value.ensures c.in_ok-made.ensures refl (search rules)
