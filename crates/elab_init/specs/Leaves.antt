-- What is done to each scalar of an object.
use Rattle.std.specs.Prelude.{ℕ, Bool, List}
use Rattle.elab_conv.specs.tx_ints.declared.kinds.IntKind.TheVariants.{ULong}
use Rattle.cpp_types.specs.Typ.{Typ, typ, int, ref}
use Rattle.cpp_types.specs.Class.{Class}
use Rattle.cpp_types.specs.declared.classes.At.{At}
use Rattle.elab_conv.specs.cpp_tree.Trees.{Trees}
use Rattle.elab_conv.specs.cpp_tree.Notation.{plain}
use Rattle.elab_conv.specs.cpp_tree.Typing.{qualified, unqualified}
use Rattle.elab_conv.specs.elab_rules.Objects.{Leaf as LeafTree, Part, zero_leaf, copy_leaf, whole, class_whole, pieces}
use Rattle.elab_init.specs.declared.leaves.Leaf.{Leaf}
use Rattle.elab_init.specs.declared.leaves.Leaf.TheVariants.{Zero, Copied}

-- the type of the zero that a scalar is initialised by: the word of a reference
abbrev pub zero_word : Typ → Typ
zero_word (typ (ref u) c v) = plain (int ULong)
zero_word t = unqualified t

abbrev pub leaf_of : Leaf → LeafTree
leaf_of Zero = zero_leaf
leaf_of Copied = copy_leaf

-- parts of an object with these qualifiers, in which classes nest no deeper than this
abbrev pub pieces_by : ℕ → LeafTree → List Class → At → Bool → Bool → List Part → Trees
pieces_by depth leaf classes at c v ps = pieces (λ (p : Part). whole (class_whole depth leaf classes at) leaf classes at c v p.typ)
    (λ (p : Part). qualified c v p.typ) at ps
