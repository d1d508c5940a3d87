-- Trees that a row takes apart, by their kind, type, category and kids.
use Rattle.std.specs.Prelude.{Bool, true, false, ◌&&◌, if◌then◌else◌}
use Rattle.elab_make.specs.cpp_types.declared.classes.At.{At}
use Rattle.elab_make.specs.cpp_types.declared.ranks.Cat.{Cat}
use Rattle.elab_make.specs.cpp_types.declared.ranks.Cat.TheVariants.{Lvalue, Prvalue}
use Rattle.elab_make.specs.cpp_tree.declared.kinds.TKind.{TKind}
use Rattle.elab_make.specs.cpp_tree.declared.kinds.TKind.TheVariants.{Local, Global, Load, Retype, Binary}
use Rattle.elab_make.specs.cpp_tree.Trees.{Tree, Trees, none, more, cat_of, kind_of}
use Rattle.elab_make.specs.cpp_tree.Typing.{is_prvalue}
use Rattle.elab_make.specs.elab_ctx.Says.{place_in}
use Rattle.elab_make.specs.elab_rules.Values.{same_at}
use Rattle.elab_make.specs.elab_rules.Operators.{is_throw}

abbrev pub is_one_prvalue : Trees → Bool
is_one_prvalue (more e none) = is_prvalue (cat_of e)
is_one_prvalue kids = false

-- an lvalue that is written as a name, a member access, a subscript or an indirection
abbrev pub is_read_lvalue : TKind → Trees → Bool
is_read_lvalue (Local k) kids = true
is_read_lvalue (Global g) kids = true
is_read_lvalue (Load k v) kids = true
is_read_lvalue (Binary op k) kids = true
is_read_lvalue Retype kids = is_one_prvalue kids
is_read_lvalue kind kids = false

abbrev pub is_read_by : TKind → Cat → Trees → Bool
is_read_by kind Prvalue kids = false
is_read_by kind Lvalue kids = is_read_lvalue kind kids

-- a kid that is a `throw` at a place, else another tree
abbrev pub throw_or : At → Tree → Tree → Tree
throw_or at e other = if is_throw (kind_of e) && same_at at (place_in e) then e else other

abbrev pub only_throw : At → Trees → Tree → Tree
only_throw at (more e none) other = throw_or at e other
only_throw at kids other = other
