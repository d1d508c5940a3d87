-- What a declarator names, as the code says it.
use Rattle.std.specs.Prelude.{Bool, true, false}
use Rattle.cpp_syntax.specs.declared.naming.Naming.{Naming as DeclaredNaming}
use Rattle.cpp_syntax.specs.declared.naming.Naming.TheVariants as declared
use Rattle.cpp_syntax.specs.Rules.{Naming, named, unnamed, either, in_block}

abbrev pub naming_of : DeclaredNaming → Naming
naming_of declared.Named = named
naming_of declared.Unnamed = unnamed
naming_of declared.Either = either
naming_of declared.InBlock = in_block

-- a declarator may name what it declares
abbrev pub may_name : Naming → Bool
may_name unnamed = false
may_name _ = true

-- it stands in a block
abbrev pub is_in_block : Naming → Bool
is_in_block in_block = true
is_in_block _ = false
