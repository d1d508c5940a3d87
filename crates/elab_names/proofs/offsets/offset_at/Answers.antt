use Rattle.std.proofs.Common.{arith}
use Rattle.elab_conv.specs.cpp_types.Class.{classes_of}
use Rattle.elab_names.proofs.Places.{offset_is}
use Rattle.elab_names.proofs.offsets.offset_at.Goals as goal

pub returns-in-Some-member_place : goal.returns-in-Some-member_place
returns-in-Some-member_place c = offset_is (classes_of c.args.env.now.classes.items) c.args.class c.args.index c.in-Some-member_place.place
    c.in-Some.found.now c.in-Some.ensures (omega arith) c.in-Some-member_place.ensures
