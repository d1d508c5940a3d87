use Rattle.std.proofs.Common.{◌≡◌, drop, map}
use Rattle.cpp_tree.specs.Units.{definition_of}
use Rattle.unit_entries.specs.Entries.{class_text}
use Rattle.unit_entries.proofs.functions.class_text.Given as goal

abbrev pub invariant-loop-def : goal.invariant-loop-def
invariant-loop-def l = class_text l.class (map definition_of (drop l.def-index l.defs)) l.text ≡ class_text l.class (map definition_of l.defs) l.text
