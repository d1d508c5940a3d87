use Rattle.exec_command.proofs.Parts.{same_answer}
use Rattle.tx_answers.specs.Report.{status_of}
use Rattle.object_races.proofs.runs.run.Goals as goal

pub returns : goal.returns
returns c =
    record {
      ran = c.in_ok-raced.raced.ran;
      words = c.in_ok-raced.raced.words.items;
      sound = c.requires.sound;
      run = c.in_ok-raced.ensures.run;
      races = c.in_ok-raced.ensures.races;
      answer = same_answer c.status_of.result (status_of c.in_ok-raced.raced.ran.end) c.in_ok-raced.raced.ran c.status_of.ensures;
      writes_are = c.in_ok-writes.ensures;
    }
