use Rattle.cpp_syntax.proofs.Readers.{leaves_none}
use Rattle.cpp_parse.proofs.StatementParts.{leaves_any}
use Rattle.cpp_parse.proofs.statements.note_declaration.Goals as goal

pub returns-then-not-begins_type_at : goal.returns-then-not-begins_type_at
returns-then-not-begins_type_at c = leaves_none _

pub returns-in_err-block_declaration : goal.returns-in_err-block_declaration
returns-in_err-block_declaration c = c.in_err-block_declaration.ensures

pub returns : goal.returns
returns c = leaves_any _ _ _ _ _ _ c.block_declaration.result c.block_declaration.ensures
