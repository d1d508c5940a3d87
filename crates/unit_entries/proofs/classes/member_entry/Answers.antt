use Rattle.std.proofs.Common.{◌∙◌, map}
use Rattle.tx_code.specs.Objects.{bytes_of}
use Rattle.tx_code.specs.Linked.{name_in}
use Rattle.cpp_tree.specs.cpp_types.Class.{classes_of, member_of}
use Rattle.unit_entries.specs.Records.{naming}
use Rattle.unit_entries.specs.Entries.{class_at, member_entry_of}
use Rattle.unit_entries.proofs.Steps.{member_is}
use Rattle.unit_entries.proofs.classes.member_entry.Goals as goal

pub returns : goal.returns
returns c =
    let o = naming (map bytes_of c.args.names.now) in
    let m = member_entry_of (classes_of c.args.classes.now) c.args.class c.args.index (member_of c.args.member.now) in
    member_is (name_in o c.in_ok-place_of.field-0) m.name (name_in o c.in_ok-place_of-2.field-0) m.ty c.in_ok-member_offset.field-0 m.offset
    (c.in_ok-place_of.ensures ∙ c.deref.ensures.value)
    (c.in_ok-member_offset.ensures (class_at (classes_of c.args.classes.now) c.args.class) (member_of c.args.member.now) c.requires.class c.requires.member)
    (c.in_ok-place_of-2.ensures ∙ c.deref-2.ensures.value ∙ c.in_ok-text.ensures)
