-- The end of a body, part by part.
use Rattle.std.specs.Prelude.{Bool, true, false}
use Rattle.elab_stmt.specs.tx_ints.declared.kinds.IntKind.TheVariants.{ULong}
use Rattle.cpp_types.specs.Typ.{Typ, ptr}
use Rattle.cpp_types.specs.declared.classes.At.{At}
use Rattle.cpp_types.specs.declared.ranks.Cat.TheVariants.{Lvalue}
use Rattle.elab_stmt.specs.cpp_tree.declared.kinds.TKind.{TKind}
use Rattle.elab_stmt.specs.cpp_tree.declared.kinds.TKind.TheVariants as forms
use Rattle.elab_stmt.specs.cpp_tree.Notation.{plain}
use Rattle.elab_stmt.specs.cpp_tree.Trees.{Tree, node, Trees, none, one, two}
use Rattle.elab_stmt.specs.elab_ctx.Ctx.{Ctx}
use Rattle.elab_stmt.specs.elab_rules.Functions.{void_at, zero_result, result_zeroed}

abbrev pub is_literal : TKind → Bool
is_literal (forms.Literal w) = true
is_literal kind = false

-- the object that a call gives, at the address in place 0 of the frame
abbrev pub address_of : At → Typ → Tree
address_of at t = void_at (forms.Load ULong false) at (one (node (forms.Local 0) (plain (ptr t)) Lvalue at none))

-- the end of a body that gives an object
abbrev pub object_end : Ctx → Typ → At → Trees
object_end c t at = two (result_zeroed c t at) (void_at forms.Return at none)

-- the end of a body that gives a value
abbrev pub value_end : Typ → At → Trees
value_end t at = one (void_at forms.Return at (one (zero_result t at)))
