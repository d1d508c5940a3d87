-- What a unit is as a whole: its declarations, where the body of each lambda stands among the kids of the lambda.
--
-- `whole_unit` answers nodes and ids for which `IsWhole unit (trees_at (syntax_of nodes) decls)` holds, where `syntax_of` is the
-- fold by which elaboration reads a list of nodes (elab_types, Syntax). `one_whole` (laws) says that a unit has one such list of
-- trees. What `parse_unit` says of its unit is `IsWhole unit decls` too: that is the field `shows` of `ShowsUnit` (cpp_ast), which
-- is the field `shows` of `IsUnitRead` (cpp_parse). So `one_whole unit _ _ whole read.shows.shows` says that the trees which
-- elaboration reads are those which the text derives.
use Rattle.cpp_ast.specs.declared.units.Unit.{Unit as UnitRecord}
use Rattle.cpp_ast.specs.Trees.{Trees, ShowsAllWith}

-- These are the declarations of a unit: a node has the trees of its kids, and behind them the tree of the body that is noted for it.
abbrev pub IsWhole : UnitRecord → Trees → Type 0
IsWhole unit decls = ShowsAllWith unit.bodies.items unit.nodes unit.decls.items decls
