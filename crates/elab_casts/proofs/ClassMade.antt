-- Objects of classes from values, as expressions.
use Rattle.std.proofs.Common.{List}
use Rattle.elab_forms.specs.cpp_types.Typ.{Typ}
use Rattle.elab_forms.specs.cpp_types.declared.classes.At.{At}
use Rattle.elab_forms.specs.cpp_tree.declared.arena.TNodeId.{TNodeId}
use Rattle.elab_forms.specs.cpp_tree.Trees.{Tree}
use Rattle.elab_forms.specs.cpp_tree.Arena.{tree_at, Adds}
use Rattle.elab_forms.specs.elab_ctx.Ctx.{Ctx, Work}
use Rattle.elab_forms.specs.elab_ctx.Steps.{Operand}
use Rattle.elab_forms.specs.elab_ctx.Says.{MadeAt}
use Rattle.elab_forms.specs.elab_rules.Initialising.{from_values}
use Rattle.elab_forms.specs.elab_rules.Casts.{as_expression}
use Rattle.elab_forms.proofs.Steps.{then_adds}
use Rattle.elab_casts.specs.Rows.{class_made}

pub class_makes : (c : Ctx) (w work : Work) (at : At) (t : Typ) (os : List Operand) (n0 n1 n2 : List Tree) (id r : TNodeId)
    → MadeAt n0 n1 work id (from_values c w t at os) → Adds n1 n2 r (as_expression at t (tree_at n1 id)) → MadeAt n0 n2 work r (class_made c w at t os)
class_makes c w work at t os n0 n1 n2 id r m a = then_adds n0 n1 n2 work id r (from_values c w t at os) (as_expression at t) m a
