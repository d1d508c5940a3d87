use Rattle.src_replay.proofs.Came.{is_open, is_shut}
use Rattle.src_replay.proofs.nested.Nested.is_open.Goals as goal

pub returns-clause-open : goal.returns-clause-open
returns-clause-open c = is_open c.is_empty-none.result c.args.self.now.marks.items c.is_empty-none.ensures

pub returns-clause-shut : goal.returns-clause-shut
returns-clause-shut c = is_shut c.is_empty-none.result c.args.self.now.marks.items c.is_empty-none.ensures
