use Rattle.std.proofs.Common.{ap, refl, Result, Ok}
use Rattle.elab_expr.specs.cpp_tree.declared.faults.ElabFault.{ElabFault}
use Rattle.elab_expr.specs.cpp_tree.Trees.{Tree}
use Rattle.elab_expr.specs.elab_ctx.Ctx.{work_of}
use Rattle.elab_expr.specs.elab_ctx.Steps.{and_then}
use Rattle.elab_scopes.specs.States.{full_in}
use Rattle.elab_scopes.proofs.Standing.{grown_by}
use Rattle.elab_scopes.proofs.Wholly.{whole_made}
use Rattle.elab_scopes.proofs.simple.truth_whole.Goals as goal

pub returns : goal.returns
returns c =
    let w = work_of c.args.st.now.work in
    whole_made c.args.st.now _ _ (full_in c.args.st.now c.args.o) c.in_ok-value.value _ _ _ (grown_by _ _ c.in_ok-value.ensures.grows refl) refl
    (ap (λ (z : Result Tree ElabFault). and_then z (λ (t : Tree). Ok (record { tree = t; work = w })))
    (c.in_ok-value.ensures.exact w).is) refl refl refl c.in_ok-made.ensures
