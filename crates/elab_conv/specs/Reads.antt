-- What is read of an expression where its value is wanted.
use Rattle.std.specs.Prelude.{Some}
use Rattle.elab_rules.specs.cpp_types.Conversion.{decayed}
use Rattle.elab_rules.specs.cpp_types.declared.classes.At.{At}
use Rattle.elab_rules.specs.cpp_types.declared.ranks.Cat.TheVariants.{Prvalue}
use Rattle.elab_rules.specs.cpp_tree.Trees.{Tree, typ_in}
use Rattle.elab_rules.specs.cpp_tree.Notation.{plain}
use Rattle.elab_rules.specs.Values.{retyped, loaded}
use Rattle.elab_conv.specs.declared.values.Reading.{Reading}
use Rattle.elab_conv.specs.declared.values.Reading.TheVariants.{Stays, Decays, Loads}

abbrev pub read_as : Reading → At → Tree → Tree
read_as Stays at e = e
read_as Decays at e = retyped at (plain (decayed (typ_in e))) Prvalue e
read_as (Loads kind) at e = loaded at (Some kind) e
