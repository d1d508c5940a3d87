use Rattle.std.proofs.Common.{ap, ◌∷◌}
use Rattle.symbolic_terms.specs.Meanings.{word_of, words_of}
use Rattle.body_notes.proofs.Behind.{place_word}
use Rattle.body_notes.proofs.calls.place_by_word.Goals as goal

pub returns-clause-is : goal.returns-clause-is
returns-clause-is c types m a =
    let before = c.in_ok-later.ensures.grows types m a in
    let first = c.in_ok-word.ensures.grows types m before in
    place_word _ _ _ _ _ (c.in_ok-others.ensures.is types m first) (c.in_ok-word.ensures.is types m before) (ap (λ z. word_of m c.in_ok-word.word ∷ words_of m z) c.in_ok-kept.ensures) (c.in_ok-later.ensures.is types m a)
