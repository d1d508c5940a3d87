use Rattle.std.proofs.Common.{arith}
use Rattle.link_faults.proofs.PlacedSizes.{names_counted}
use Rattle.link_faults.proofs.check.check_objects.Goals as goal

pub globals_size-size-requires-clause-names : goal.globals_size-size-requires-clause-names
globals_size-size-requires-clause-names c = omega (arith, names_counted c.args.objects.now, c.requires.names)
