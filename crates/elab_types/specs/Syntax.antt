-- The syntax trees that the nodes of a unit show.
use Rattle.std.specs.Prelude.{List, [], ◌∷◌, ◌++◌, None, get_or, fold}
use Rattle.elab_conv.specs.cpp_ast.declared.kinds.NodeKind.TheVariants.{Absent}
use Rattle.elab_conv.specs.cpp_ast.declared.arena.NodeId.{NodeId}
use Rattle.elab_conv.specs.cpp_ast.declared.arena.Node.{Node}
use Rattle.elab_conv.specs.cpp_ast.Trees.{Tree, node, Trees, none, more}

-- what stands where there is no node
abbrev pub nothing : Tree
nothing = node Absent (record { source = 0; offset = 0 }) None none

abbrev pub tree_at : List Tree → NodeId → Tree
tree_at trees id = get_or trees id.0 nothing

abbrev pub trees_at : List Tree → List NodeId → Trees
trees_at trees [] = none
trees_at trees (id ∷ ids) = more (tree_at trees id) (trees_at trees ids)

-- the tree of a node, whose kids are among these
abbrev pub tree_of : List Tree → Node → Tree
tree_of trees n = node n.kind n.at n.token (trees_at trees n.kids.items)

abbrev pub with_node : List Tree → Node → List Tree
with_node trees n = trees ++ tree_of trees n ∷ []

-- the trees of all nodes, each made of those of the nodes before it
unfoldable pub syntax_of : List Node → List Tree
syntax_of nodes = fold with_node [] nodes
