use Rattle.tx_answers.specs.Report.{status_of}
use Rattle.exec_command.proofs.Parts.{can_pick, same_answer}
use Rattle.exec_command.proofs.steps.run.Goals as goal

pub run_named-requires-clause-picker : goal.run_named-requires-clause-picker
run_named-requires-clause-picker c = can_pick c.args.options.now.picker c.args.entries.now c.requires.options.slot c.requires.threads

pub returns : goal.returns
returns c = record {
  ran = c.in_ok-ran.ran;
  is = record {
    sound = c.requires.sound;
    run = c.in_ok-ran.ensures;
    answer = same_answer c.status_of.result
        (status_of c.in_ok-ran.ran.end) c.in_ok-ran.ran c.status_of.ensures;
    writes_are = c.in_ok-writes.ensures;
  };
}
