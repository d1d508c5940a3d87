use Rattle.note_landing.proofs.Thrown.{put_thrown}
use Rattle.note_landing.proofs.landing.are_thrown.Goals as goal

pub returns-in_ok-thrown-in-Table : goal.returns-in_ok-thrown-in-Table
returns-in_ok-thrown-in-Table c told = put_thrown c.args.body.now _ _ _ c.in-Table.is (c.in_ok-thrown-in-Table.ensures told)
