use Rattle.std.proofs.Common.{◌≡◌, length, map}
use Rattle.cpp_types.specs.Typ.{typ_of}
use Rattle.elab_expr.specs.elab_ctx.Ctx.{enumerator_of}
use Rattle.elab_expr.specs.elab_rules.Globals.{typed_from}
use Rattle.elab_decls.proofs.names.retype_from.Given as goal

abbrev pub invariant-loop-i : goal.invariant-loop-i
invariant-loop-i l = (typed_from l.i (typ_of l.ty) (map enumerator_of l.list.items) ≡ typed_from l.from (typ_of l.ty) (map enumerator_of l.initial.list.items))
    × (length (map enumerator_of l.list.items) ≡ length (map enumerator_of l.initial.list.items))
