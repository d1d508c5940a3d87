use Rattle.std.proofs.Common.{◌≡◌, drop, map, List}
use Rattle.cpp_tree.specs.Trees.{Tree}
use Rattle.cpp_tree.specs.Units.{func_of, definition_of, program_of}
use Rattle.unit_entries.specs.Uses.{noted_classes}
use Rattle.unit_entries.specs.Marked.{marks_in}
use Rattle.unit_entries.proofs.uses.note_classes.Given as goal

abbrev pub invariant-loop-def : goal.invariant-loop-def
invariant-loop-def l = (trees : List Tree) → noted_classes (program_of l.program) (map (func_of trees) l.funcs) (map definition_of (drop l.def-index l.defs))
    (marks_in l.uses) ≡ noted_classes (program_of l.program) (map (func_of trees) l.funcs) (map definition_of l.defs) (marks_in l.initial.uses)
