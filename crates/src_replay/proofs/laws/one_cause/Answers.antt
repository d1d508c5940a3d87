use Rattle.src_mean.specs.Source.{source}
use Rattle.src_replay.proofs.OneEntry.{refused_no_step, unfinished_more, refused_finished}
use Rattle.src_replay.proofs.laws.one_cause.Goals as goal

pub returns : goal.returns
returns c = record {
  refused = λ program p t most w v. refused_no_step (source program) p t w most v;
  unfinished = λ program p t most w v. unfinished_more (source program) p t w most v;
  both = λ program p t most w. refused_finished (source program) p t w most;
}
