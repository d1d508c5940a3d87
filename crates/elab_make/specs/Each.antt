-- Objects that are built alike.
use Rattle.std.specs.Prelude.{if◌then◌else◌}
use Rattle.elab_init.specs.cpp_types.Typ.{Typ}
use Rattle.elab_init.specs.cpp_types.declared.classes.At.{At}
use Rattle.elab_init.specs.cpp_types.declared.ranks.Cat.TheVariants.{Prvalue}
use Rattle.elab_init.specs.cpp_tree.declared.kinds.TKind.{TKind}
use Rattle.elab_init.specs.cpp_tree.declared.kinds.TKind.TheVariants.{Elements}
use Rattle.elab_init.specs.cpp_tree.Trees.{Tree, node, none, more}
use Rattle.elab_init.specs.elab_ctx.Ctx.{Ctx}
use Rattle.elab_init.specs.elab_rules.Objects.{is_array, count_in, element_of, size_of, destroys}

-- an object, or each one of an array, by a function
abbrev pub each_by : Ctx → TKind → Typ → At → Tree
each_by c kind t at = if is_array t then node (Elements (count_in t) (size_of c.classes (element_of t))) t Prvalue at
    (more (node kind (element_of t) Prvalue at none) (destroys c at (element_of t))) else node kind t Prvalue at none
