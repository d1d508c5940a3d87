use Rattle.std.proofs.Common.{map}
use Rattle.std.proofs.lemmas.Result.{IfOk-weaker}
use Rattle.run_command.specs.tx_safety.Answers.{checked_in}
use Rattle.races_command.specs.Commands.{runs, refuses}
use Rattle.races_command.proofs.steps.with_texts.Goals as goal

pub compiled-requires : goal.compiled-requires
compiled-requires c = let k = rw c.in-Accepted.is at c.in_ok-safe.ensures in
    record {
      options = c.requires.options;
      threads = c.requires.threads;
      well_formed = k.well_formed;
      safe = k.safe;
      plain = c.accepted_declares_plainly.ensures (map (λ text. text.items) c.args.texts.now) (checked_in c.in-Accepted.safe) k;
    }

pub returns-in-Accepted : goal.returns-in-Accepted
returns-in-Accepted c = IfOk-weaker c.compiled.result _ _
    (λ d h. runs (checked_in c.in-Accepted.safe) (rw c.in-Accepted.is at c.in_ok-safe.ensures) h) c.compiled.ensures

pub returns-in-Refused : goal.returns-in-Refused
returns-in-Refused c = refuses (rw c.in-Refused.is at c.in_ok-safe.ensures)
