use Rattle.elab_read_texts.proofs.Texts.{read_texts, read_names}
use Rattle.elab_read_texts.proofs.laws.texts.Goals as goal

pub returns-clause-texts : goal.returns-clause-texts
returns-clause-texts c = read_texts

pub returns-clause-names : goal.returns-clause-names
returns-clause-names c = read_names
