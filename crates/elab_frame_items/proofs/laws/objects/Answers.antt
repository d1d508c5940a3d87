use Rattle.elab_frame_items.proofs.Objects.{initials_law, objects_law, values_law, words_law}
use Rattle.elab_frame_items.proofs.laws.objects.Goals as goal

pub returns-clause-initials : goal.returns-clause-initials
returns-clause-initials c = initials_law

pub returns-clause-objects : goal.returns-clause-objects
returns-clause-objects c = objects_law

pub returns-clause-values : goal.returns-clause-values
returns-clause-values c = values_law

pub returns-clause-words : goal.returns-clause-words
returns-clause-words c = words_law
