-- Short forms for trees that are written by hand.
use Rattle.std.specs.Prelude.{true, false, List, [], ◌∷◌}
use Rattle.cpp_layout.specs.cpp_types.Typ.{Typ, typ, Form, void}
use Rattle.cpp_layout.specs.cpp_types.declared.ranks.Cat.TheVariants.{Lvalue, Prvalue}
use Rattle.cpp_tree.specs.declared.kinds.TKind.{TKind}
use Rattle.cpp_tree.specs.Trees.{Tree, node, Trees, none, more, nowhere}

abbrev pub plain : Form → Typ
plain f = typ f false false

abbrev pub const : Form → Typ
const f = typ f true false

abbrev pub kids : List Tree → Trees
kids [] = none
kids (t ∷ ts) = more t (kids ts)

-- a statement, or a part of one
abbrev pub effect : TKind → List Tree → Tree
effect kind ts = node kind (plain void) Prvalue nowhere (kids ts)

abbrev pub prvalue : TKind → Typ → List Tree → Tree
prvalue kind t ts = node kind t Prvalue nowhere (kids ts)

abbrev pub lvalue : TKind → Typ → List Tree → Tree
lvalue kind t ts = node kind t Lvalue nowhere (kids ts)
