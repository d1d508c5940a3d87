-- Operands that may be dropped where they are not run: they are not unsafe (the TS, [dcl.fct.def.tx]), and have in them no call, no lambda, and no name of
-- a function or a global, strings included. So what a program refers to, what is unsafe in it and whom it calls stay.
use Rattle.std.specs.Prelude.{ℕ, Bool, true, false, not, ◌&&◌}
use Rattle.cpp_tree.specs.cpp_types.Typ.{Typ, typ, closure}
use Rattle.cpp_tree.specs.declared.kinds.TKind.{TKind}
use Rattle.cpp_tree.specs.declared.kinds.TKind.TheVariants.{Literal, Local, ClassTable, Load, Convert, Retype, Binary, Conditional, Comma, Assign, Update}
use Rattle.cpp_tree.specs.declared.kinds.TKind.TheVariants.{CopyAssign, Materialize, FullExpression, Throw, Rethrow, Store, CopyScalar, CopyFrom, Pieces, Piece}
use Rattle.cpp_tree.specs.declared.kinds.TKind.TheVariants.{Elements, Field}
use Rattle.cpp_tree.specs.Trees.{Tree, node, Trees, none, more}
use Rattle.cpp_tree.specs.Typing.{is_void}
use Rattle.tx_unsafe.specs.Volatile.{is_volatile_object, is_volatile_class}

-- the object of a lambda
abbrev pub is_closure : Typ → Bool
is_closure (typ (closure n) c v) = true
is_closure t = false

-- an object that is built or copied: none of a lambda, and none with a volatile part. The test `volatile` tells which classes have one
abbrev pub is_bare_object : (volatile : ℕ → Bool) → Typ → Bool
is_bare_object volatile t = not (is_volatile_class volatile t) && not (is_closure t)

-- a node by itself; calls, addresses of functions and globals, destructions and statements are not bare
abbrev pub is_bare_node : (volatile : ℕ → Bool) → TKind → Typ → Bool
is_bare_node volatile (Literal w) t = true
is_bare_node volatile (Local place) t = true
is_bare_node volatile (ClassTable class) t = true
is_bare_node volatile (Load kind marked) t = not marked
is_bare_node volatile (Convert to) t = true
is_bare_node volatile Retype t = true
is_bare_node volatile (Binary op kind) t = true
is_bare_node volatile Conditional t = true
is_bare_node volatile Comma t = true
is_bare_node volatile (Assign kind marked) t = not marked
is_bare_node volatile (Update op stored operation marked old) t = not marked
is_bare_node volatile CopyAssign t = is_bare_object volatile t
is_bare_node volatile (Materialize place argument) t = not (is_volatile_object volatile t)
is_bare_node volatile FullExpression t = true
is_bare_node volatile Throw t = true
is_bare_node volatile Rethrow t = true
is_bare_node volatile (Store kind marked) t = not (marked && is_void t)
is_bare_node volatile (CopyScalar kind marked) t = true
is_bare_node volatile CopyFrom t = is_bare_object volatile t
is_bare_node volatile Pieces t = is_bare_object volatile t
is_bare_node volatile (Piece offset) t = is_bare_object volatile t
is_bare_node volatile (Elements count stride) t = is_bare_object volatile t
is_bare_node volatile (Field offset kind) t = true
is_bare_node volatile kind t = false

abbrev mutual
  pub is_bare : (volatile : ℕ → Bool) → Tree → Bool
  is_bare volatile (node kind t cat at kids) = is_bare_node volatile kind t && are_bare volatile kids

  pub are_bare : (volatile : ℕ → Bool) → Trees → Bool
  are_bare volatile none = true
  are_bare volatile (more t ts) = is_bare volatile t && are_bare volatile ts
