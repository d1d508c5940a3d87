use Rattle.std.proofs.Common.{refl, rules}
use Rattle.elab_expr.specs.cpp_types.Typ.{typ_of}
use Rattle.elab_expr.specs.cpp_tree.Trees.{Tree}
use Rattle.elab_scopes.specs.States.{full_in}
use Rattle.elab_scopes.specs.Returning.{object_returned}
use Rattle.elab_scopes.proofs.Wholly.{made_done}
use Rattle.elab_scopes.proofs.returns.return_object.Goals as goal

pub returns : goal.returns
returns c = made_done c.args.st.now _ (full_in c.args.st.now c.args.o) _ _ _ _ _
    (λ (z : Tree). object_returned c.args.at (typ_of c.args.ty.now) c.args.o.at z) c.in_ok-object.ensures c.in_ok-made.ensures refl (search rules)
