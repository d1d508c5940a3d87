use Rattle.elab_fits_objects.proofs.Passing.{word_passes, words_fit, words_keep, chosen_viable}
use Rattle.elab_fits_objects.proofs.laws.words.Goals as goal

pub returns-clause-passed : goal.returns-clause-passed
returns-clause-passed c = word_passes

pub returns-clause-words : goal.returns-clause-words
returns-clause-words c = words_fit

pub returns-clause-kept : goal.returns-clause-kept
returns-clause-kept c = words_keep

pub returns-clause-chosen : goal.returns-clause-chosen
returns-clause-chosen c = chosen_viable
