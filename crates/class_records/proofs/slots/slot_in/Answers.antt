use Rattle.std.proofs.Common.{map}
use Rattle.cpp_types.specs.Class.{classes_of, function_of}
use Rattle.elab_init.specs.cpp_tree.Units.{slot_of as slot_shown}
use Rattle.elab_init.specs.elab_rules.Classes.{slot_function}
use Rattle.class_records.proofs.Overriders.{copy_none}
use Rattle.class_records.proofs.slots.slot_in.Goals as goal

pub returns-in-None : goal.returns-in-None
returns-in-None c = copy_none c.slot_copy.result c.args.class (slot_function (classes_of c.args.classes.now) (slot_shown c.args.slot.now))
    (slot_shown c.args.slot.now) (map function_of c.args.functions.now) c.slot_copy.ensures c.in-None.ensures
