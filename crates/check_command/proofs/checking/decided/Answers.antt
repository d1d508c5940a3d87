use Rattle.std.proofs.Common.{map, string_bytes, subst}
use Rattle.std.proofs.lemmas.Result.{IfOk-weaker}
use Rattle.command_io.specs.Writes.{written_of}
use Rattle.tx_safety.specs.Answers.{checked_in}
use Rattle.source_verdict.specs.Verdict.{RefusesTexts}
use Rattle.check_command.specs.Check.{accepts, refuses}
use Rattle.check_command.proofs.checking.decided.Goals as goal

pub returns-in-Accepted : goal.returns-in-Accepted
returns-in-Accepted c = IfOk-weaker c.accepted.result _ _
    (λ d h. accepts (checked_in c.in-Accepted.safe) (rw c.in-Accepted.is at c.in_ok-safe.ensures) h) c.accepted.ensures

pub returns-in-Refused : goal.returns-in-Refused
returns-in-Refused c =
    refuses (subst (λ l. RefusesTexts (map string_bytes l) (map (λ text. text.items) c.args.texts.now) c.in-Refused.decision.answer
    (map written_of c.in-Refused.decision.writes.items)) c.as_slice.ensures.value
    (rw c.in-Refused.is at c.in_ok-safe.ensures))
