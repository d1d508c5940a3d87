use Rattle.std.proofs.Common.{refl}
use Rattle.clap.proofs.OnLiterals.{clap_on_literals}
use Rattle.tx_words.specs.Line.{txcc_app}
use Rattle.tx_words.proofs.laws.worked.Goals as goal

pub returns : goal.returns
unfolding clap_on_literals txcc_app
returns c = record {
  taken = refl;
  refused = refl;
  steps = refl;
  folds = refl;
  picker = refl;
  policy = refl;
  sources = refl;
}
