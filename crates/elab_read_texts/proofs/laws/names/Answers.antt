use Rattle.elab_read_texts.proofs.Members.{read_named}
use Rattle.elab_read_texts.proofs.laws.names.Goals as goal

pub returns : goal.returns
returns c = record { named = read_named }
