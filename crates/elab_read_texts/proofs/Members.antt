-- Units that are read are named as the grammar has it.
use Rattle.std.proofs.Common.{true, refl}
use Rattle.cpp_syntax.specs.Classes.{source_of}
use Rattle.elab_read_texts.specs.Names.{ReadUnitsAreNamed}
use Rattle.elab_read_texts.proofs.Tokens.{calm, typed, plain, not_virtual}
use Rattle.elab_read_texts.proofs.Words.{words_of}
use Rattle.elab_read_texts.proofs.Plain.{AreKnown}
use Rattle.elab_read_texts.proofs.Named.{named}

pub read_named : ReadUnitsAreNamed
read_named number text tokens decls x =
    let words = words_of text tokens x.lexed in
    let known : AreKnown tokens (source_of number tokens) = record {
      stays = calm number tokens;
      plain = λ a. plain number tokens a words;
    } in
    named tokens true (record { known = known; others = not_virtual number tokens; typed = λ a. typed number tokens a words }) x.derives refl (λ z. refl) refl
