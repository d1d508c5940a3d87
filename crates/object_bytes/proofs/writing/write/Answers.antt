use Rattle.std.proofs.Common.{length}
use Rattle.tx_code.specs.Objects.{object_view}
use Rattle.object_bytes.proofs.Puts.{class_counts, global_counts, func_counts}
use Rattle.object_bytes.proofs.writing.write.Goals as goal

pub put_classes-requires-clause-each : goal.put_classes-requires-clause-each
put_classes-requires-clause-each c = rw c.deref-3.ensures.value
    (class_counts (length (object_view c.args.object.now).names) (object_view c.args.object.now).classes c.requires.classes)

pub put_globals-requires-clause-each : goal.put_globals-requires-clause-each
put_globals-requires-clause-each c = rw c.deref-4.ensures.value
    (global_counts (length (object_view c.args.object.now).names) (object_view c.args.object.now).globals c.requires.globals)

pub put_funcs-requires-clause-each : goal.put_funcs-requires-clause-each
put_funcs-requires-clause-each c = rw c.deref-5.ensures.value
    (func_counts c.args.object.now.version (length (object_view c.args.object.now).names) (object_view c.args.object.now).funcs c.requires.funcs)
