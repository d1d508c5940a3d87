-- What stands at the root of a tree, taken apart.
use Rattle.std.specs.Prelude.{ℕ, Option, Some, None}
use Rattle.cpp_tree.specs.declared.kinds.TKind.{TKind}
use Rattle.cpp_tree.specs.declared.kinds.TKind.TheVariants.{Handler, Destroy, Field}
use Rattle.symbolic_leaving.specs.declared.roots.FieldAt.{FieldAt}
use Rattle.symbolic_leaving.specs.declared.roots.Destruction.{Destruction}

-- the parts of a destruction
abbrev pub destroy_in : TKind → Option Destruction
destroy_in (Destroy f offset count stride) = Some (record { func = f; offset = offset; count = count; stride = stride })
destroy_in kind = None

-- the offset and the kind of a field
abbrev pub field_in : TKind → Option FieldAt
field_in (Field offset kind) = Some (record { offset = offset; kind = kind })
field_in kind = None

-- the place of a handler's object
abbrev pub place_in : TKind → Option ℕ
place_in (Handler place) = place
place_in kind = None
