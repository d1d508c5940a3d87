use Rattle.std.proofs.Common.{arith}
use Rattle.cpp_types.specs.Typ.{typs_of}
use Rattle.cpp_types.specs.Class.{classes_of}
use Rattle.elab_sizes.proofs.Lengths.{typs_listed, room_same, function_pointer, plain_pointer}
use Rattle.elab_sizes.proofs.rooms.+room.Goals as goal

pub list_room-loop-ty-init : goal.list_room-loop-ty-init
list_room-loop-ty-init t c = omega (arith, typs_listed (classes_of c.args.classes.now) (typs_of c.args.types.now))

pub pointer_room-returns-in-Func : goal.pointer_room-returns-in-Func
pointer_room-returns-in-Func t c =
    room_same c.args.room c.function_pointer_room.result _ _
    (function_pointer (classes_of c.args.classes.now) c.args.target.now.shape c.in-Func.function c.deref.result.now c.args.target.now.is_const
    c.args.target.now.is_volatile c.deref.ensures c.in-Func.is) c.function_pointer_room.ensures

pub pointer_room-returns-in_default : goal.pointer_room-returns-in_default
pointer_room-returns-in_default t c =
    room_same c.args.room c.plain_pointer_room.result _ _
    (plain_pointer (classes_of c.args.classes.now) c.args.target.now.shape c.args.target.now.is_const c.args.target.now.is_volatile c.in_default.not-Func)
    c.plain_pointer_room.ensures
