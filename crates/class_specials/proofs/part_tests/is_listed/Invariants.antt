use Rattle.std.proofs.Common.{◌≡◌, drop}
use Rattle.elab_init.specs.elab_rules.Classes.{is_listed}
use Rattle.class_specials.proofs.part_tests.is_listed.Given as goal

abbrev pub invariant-loop-found : goal.invariant-loop-found
invariant-loop-found l = is_listed l.place l.places ≡ is_listed l.place (drop l.found-index l.places)
