use Rattle.std.proofs.Common.{Vec, Global, List, ap, map}
use Rattle.std.proofs.lemmas.List.{map-set}
use Rattle.elab_init.specs.cpp_tree.Units.{SlotFunc, slot_of}
use Rattle.elab_init.specs.cpp_tree.declared.program.SlotRec.{SlotRec}
use Rattle.elab_init.specs.elab_ctx.Ctx.{ctx_of}
use Rattle.class_records.proofs.closing.put_slots.Goals as goal

pub returns : goal.returns
returns c = ap (λ (z : List (List SlotFunc)). record (ctx_of c.args.env.now) { slots = z })
    (map-set (λ (v : Vec SlotRec Global). map slot_of v.items) c.args.env.now.slots.items c.args.class c.args.slots)
