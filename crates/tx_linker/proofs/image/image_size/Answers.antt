use Rattle.std.proofs.Common.{arith}
use Rattle.link_faults.proofs.PlacedSizes.{names_counted}
use Rattle.tx_linker.proofs.image.image_size.Goals as goal

pub globals_size-requires-clause-names : goal.globals_size-requires-clause-names
globals_size-requires-clause-names c = omega (arith, names_counted c.args.kept.now.objects.now, c.requires.kept.few)
