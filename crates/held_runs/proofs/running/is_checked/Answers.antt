use Rattle.tx_code.specs.Views.{image_view}
use Rattle.held_runs.proofs.running.is_checked.Goals as goal

pub returns-in-Ok : goal.returns-in-Ok
returns-in-Ok c = λ e. record {
  image = image_view c.in-Ok.image;
  links = c.in-Ok.ensures;
  code = c.is_sound_code.ensures.shown e;
  whole = c.is_sound_code.ensures.whole;
  sound = c.is_sound_code.ensures.sound e;
}
