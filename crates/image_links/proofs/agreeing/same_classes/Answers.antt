use Rattle.src_bind.specs.Bounds.{given}
use Rattle.image_links.proofs.agreeing.same_classes.Goals as goal

pub same_slots-requires : goal.same_slots-requires
same_slots-requires c = c.symbols_of-symbols.ensures (given c.args.bound.now) c.requires.kept c.requires.choices
