use Rattle.std.proofs.Common.{◌≡◌, drop, map}
use Rattle.cpp_tree.specs.Units.{global_of, unit_of}
use Rattle.unit_entries.specs.Uses.{noted_globals}
use Rattle.unit_entries.specs.Marked.{marks_in}
use Rattle.unit_entries.proofs.uses.note_globals.Given as goal

abbrev pub invariant-loop-global : goal.invariant-loop-global
invariant-loop-global l = noted_globals (unit_of l.unit) (map global_of (drop l.global-index l.unit.globals.items)) (marks_in l.uses)
    ≡ noted_globals (unit_of l.unit) (unit_of l.unit).globals (marks_in l.initial.uses)
