use Rattle.elab_whole_states.proofs.Items.{places_law}
use Rattle.elab_whole_states.proofs.laws.places.Goals as goal

pub returns : goal.returns
returns c = record { places = places_law }
