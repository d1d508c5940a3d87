use Rattle.src_mean.specs.Source.{source}
use Rattle.src_replay.proofs.OneAnswer.{only_replay, no_replay, more_cost}
use Rattle.src_replay.proofs.laws.one_answer.Goals as goal

pub returns : goal.returns
returns c = record {
  replay = λ program p first v order most r. only_replay (source program) p first order most r v;
  not_a_run = λ program p first v order most index. no_replay (source program) p first order most index v;
  spent = λ program p first v order most index. more_cost (source program) p first order most index v;
}
