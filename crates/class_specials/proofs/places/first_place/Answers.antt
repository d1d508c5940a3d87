use Rattle.class_members.specs.Shown.{home_of}
use Rattle.class_specials.proofs.Wanted.{wanted_first}
use Rattle.class_specials.proofs.places.first_place.Goals as goal

pub loop-place-init : goal.loop-place-init
loop-place-init c = wanted_first c.args.what (home_of c.args.home.now) c.args.funcs.now c.of_class-members.result.now c.of_class-members.ensures
