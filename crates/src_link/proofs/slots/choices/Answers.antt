use Rattle.std.proofs.Common.{ap, ◌∙◌, length}
use Rattle.cpp_tree.specs.declared.program.Program.{Program}
use Rattle.src_link.proofs.slots.choices.Goals as goal

pub safe_rows-requires : goal.safe_rows-requires
safe_rows-requires c = ap length c.as_slice-units.ensures.value ∙ ap (λ (z : Program). length z.units.items) c.program-program.ensures.program
