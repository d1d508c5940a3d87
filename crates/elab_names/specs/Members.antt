-- What a name was found to be among the members of a class.
use Rattle.std.specs.Prelude.{ℕ, false, ◌&&◌, Result, Ok, if◌then◌else◌}
use Rattle.elab_conv.specs.tx_ints.declared.kinds.IntKind.TheVariants.{ULong}
use Rattle.elab_conv.specs.cpp_types.declared.classes.At.{At}
use Rattle.elab_conv.specs.cpp_types.declared.ranks.Cat.TheVariants.{Lvalue}
use Rattle.elab_conv.specs.cpp_tree.declared.kinds.TKind.TheVariants.{Local, Load}
use Rattle.elab_conv.specs.cpp_tree.declared.faults.ElabFault.{ElabFault}
use Rattle.elab_conv.specs.cpp_tree.declared.faults.IllRule.TheVariants.{UnknownName}
use Rattle.elab_conv.specs.cpp_tree.Typing.{form_in, qualified, is_class_typ}
use Rattle.elab_conv.specs.elab_ctx.Steps.{and_then, expect}
use Rattle.elab_conv.specs.elab_rules.Values.{retyped}
use Rattle.elab_conv.specs.elab_ctx.Ctx.{Ctx, This, Lambda}
use Rattle.elab_conv.specs.cpp_types.Typ.{Typ, typ_of}
use Rattle.elab_conv.specs.cpp_tree.Trees.{Tree, node, typ_in, none, one}
use Rattle.elab_conv.specs.elab_rules.Names.{Found, field, methods, is_pointer, held_by, captured_place, is_const_typ, target_of}
use Rattle.elab_names.specs.declared.members.FoundMember.{FoundMember}
use Rattle.elab_names.specs.declared.members.FoundMember.TheVariants as found_member

abbrev pub found_of : FoundMember → Found
found_of (found_member.Field n i t) = field n i (typ_of t.now)
found_of (found_member.Methods k) = methods k

-- Parts of rows of elab_rules

-- a variable that is no reference
abbrev pub object_tree : At → ℕ → Typ → Typ → Tree
object_tree at place item t = if is_class_typ t && is_pointer item then held_by t item at place else node (Local place) t Lvalue at none

-- what was captured by reference, in a member of this type
abbrev pub referred_capture : Ctx → At → This → Lambda → ℕ → Typ → Typ → Tree
referred_capture c at t l i u member = node (Load ULong false) u Lvalue at (one (captured_place c at t l i member))

-- what was captured by copy
abbrev pub copied_capture : Ctx → At → This → Lambda → ℕ → Typ → Tree
copied_capture c at t l i u = captured_place c at t l i (qualified (is_const_typ t.typ) false u)

-- the object to which a pointer points
abbrev pub pointed_tree : At → Tree → Result Tree ElabFault
pointed_tree at p = and_then (expect at UnknownName (target_of (form_in (typ_in p)))) (λ (t : Typ). Ok (retyped at t Lvalue p))
