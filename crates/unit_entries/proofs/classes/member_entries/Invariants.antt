use Rattle.std.proofs.Common.{◌≡◌, ◌++◌, drop, map}
use Rattle.cpp_tree.specs.cpp_types.Class.{classes_of, member_of}
use Rattle.tx_code.specs.Objects.{bytes_of}
use Rattle.link_faults.specs.Faults.{member_record}
use Rattle.unit_entries.specs.Records.{naming}
use Rattle.unit_entries.specs.Entries.{members_from}
use Rattle.unit_entries.proofs.classes.member_entries.Given as goal

abbrev pub invariant-loop-i : goal.invariant-loop-i
invariant-loop-i l = map (member_record (naming (map bytes_of l.names))) l.entries.items
    ++ members_from (classes_of l.classes) l.class l.i (map member_of (drop l.i l.members))
    ≡ members_from (classes_of l.classes) l.class 0 (map member_of l.members)
