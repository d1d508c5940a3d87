use Rattle.cpp_syntax.proofs.Readers.{leaves_none, leaves_same}
use Rattle.cpp_parse.proofs.StatementParts.{leaves_any}
use Rattle.cpp_parse.proofs.single_members.note_values.Goals as goal

pub returns-then-not-begins_values-clause-leaves : goal.returns-then-not-begins_values-clause-leaves
returns-then-not-begins_values-clause-leaves c = leaves_none _

pub returns-in_err-equal_initializer-clause-leaves : goal.returns-in_err-equal_initializer-clause-leaves
returns-in_err-equal_initializer-clause-leaves c = c.in_err-equal_initializer.ensures

pub returns-clause-same : goal.returns-clause-same
returns-clause-same c = c.cut.ensures _ _ c.checkpoint-mark.ensures (leaves_any _ _ _ _ _ _ c.equal_initializer.result c.equal_initializer.ensures).gained

pub returns-clause-leaves : goal.returns-clause-leaves
returns-clause-leaves c =
    leaves_same (c.cut.ensures _ _ c.checkpoint-mark.ensures (leaves_any _ _ _ _ _ _ c.equal_initializer.result c.equal_initializer.ensures).gained)
