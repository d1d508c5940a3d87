use Rattle.source_verdict.specs.Verdict.{unread}
use Rattle.source_verdict.proofs.judging.verdict_of.Goals as goal

pub returns-in_ok-refuse_front-in-Err : goal.returns-in_ok-refuse_front-in-Err
returns-in_ok-refuse_front-in-Err c = unread c.in-Err.unread c.in-Err.ensures.unread c.in_ok-refuse_front-in-Err.ensures
