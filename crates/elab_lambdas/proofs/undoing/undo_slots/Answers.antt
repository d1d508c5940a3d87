use Rattle.std.proofs.Common.{List, map, ap, sym, ◌∙◌}
use Rattle.std.proofs.lemmas.List.{take-map}
use Rattle.std.specs.Prelude.{Vec}
use Rattle.std.specs.declared.alloc.Global.{Global}
use Rattle.elab_entry.specs.cpp_tree.Units.{SlotFunc, slot_of}
use Rattle.elab_entry.specs.cpp_tree.declared.program.SlotRec.{SlotRec}
use Rattle.elab_entry.specs.elab_ctx.Ctx.{ctx_of}
use Rattle.elab_lambdas.proofs.undoing.undo_slots.Goals as goal

pub returns : goal.returns
returns c = ap (λ (z : List (List SlotFunc)). record (ctx_of c.args.env.now) { slots = z })
    (ap (map (λ (slots : Vec SlotRec Global). map slot_of slots.items)) c.truncate.ensures.items
    ∙ sym (take-map (λ (slots : Vec SlotRec Global). map slot_of slots.items) c.args.count c.args.env.now.slots.items))
