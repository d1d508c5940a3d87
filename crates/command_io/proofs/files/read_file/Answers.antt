use Rattle.std.proofs.Common.{rules}
use Rattle.command_io.proofs.Steps.{behind_none}
use Rattle.command_io.proofs.files.read_file.Goals as goal

pub returns-in-Err-clause-unread : goal.returns-in-Err-clause-unread
returns-in-Err-clause-unread g c = search (rules, behind_none)
