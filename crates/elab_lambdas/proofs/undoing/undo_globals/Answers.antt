use Rattle.std.proofs.Common.{List, map, ap, sym, ◌∙◌}
use Rattle.std.proofs.lemmas.List.{take-map}
use Rattle.elab_entry.specs.cpp_tree.Units.{Global, global_of}
use Rattle.elab_entry.specs.elab_ctx.Ctx.{work_of}
use Rattle.elab_lambdas.proofs.undoing.undo_globals.Goals as goal

pub returns-clause-is : goal.returns-clause-is
returns-clause-is c = ap (λ (z : List Global). record (work_of c.args.work.now) { globals = z })
    (ap (map global_of) c.truncate.ensures.items ∙ sym (take-map global_of c.args.count c.args.work.now.globals.items))
