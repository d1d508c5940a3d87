-- The command line is a simple command.
use Rattle.std.proofs.Common.{◌≡◌, true, refl}
use Rattle.clap.specs.Words.{is_simple, is_simple_and_free}
use Rattle.clap.proofs.OnLiterals.{clap_on_literals}
use Rattle.tx_words.specs.Line.{txcc_app}

pub simple : is_simple txcc_app ≡ true
unfolding clap_on_literals txcc_app
simple = refl

pub simple_and_free : is_simple_and_free txcc_app ≡ true
unfolding clap_on_literals txcc_app
simple_and_free = refl
