use Rattle.std.proofs.Common.{refl}
use Rattle.undo_log.proofs.PutBack.{noted_law, untouched_law, store_law, parts_law, by_word_law}
use Rattle.undo_log.proofs.laws.puts_back.Goals as goal

pub returns : goal.returns
returns c = record {
  noted = noted_law;
  untouched = untouched_law;
  nothing = λ memory. refl;
  store = store_law;
  parts = parts_law;
  by_word = by_word_law;
}
