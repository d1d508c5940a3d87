-- What the words say can be done.
use Rattle.std.proofs.Common.{ℕ, List}
use Rattle.run_command.specs.tx_words.Names.{IsInBounds}
use Rattle.run_command.specs.tx_words.Reads.{Says}
use Rattle.run_command.specs.tx_words.declared.command.Command.{Command}
use Rattle.run_command.specs.tx_words.declared.command.Command.TheVariants as command
use Rattle.run_command.specs.tx_words.declared.command.PickerName.{PickerName}
use Rattle.run_command.specs.tx_words.declared.command.PickerName.TheVariants.{Round, Clash, File}
use Rattle.run_command.specs.exec_command.Exec.{HasSlot}
use Rattle.txcc_core.specs.TopCall.{CanDo}

has_slot : (p : PickerName) → IsInBounds p → HasSlot p
has_slot (Round slot) h = h.0
has_slot Clash h = tt
has_slot (File name) h = tt

pub can_do : (words : List (List ℕ)) (c : Command) → Says words c → CanDo c
can_do words (command.Run r) h = record { steps = h.says.1.options.bound; slot = has_slot r.options.picker h.says.1.options.picker.bounds }
can_do words (command.Check c) h = tt
can_do words (command.Selftest n) h = (h.says.1.least, h.says.1.most)
can_do words (command.Build b) h = tt
can_do words (command.Exec e) h = record { steps = h.says.1.options.bound; slot = has_slot e.options.picker h.says.1.options.picker.bounds }
can_do words (command.Replay r) h = tt
can_do words (command.Dis object) h = tt
can_do words (command.Asm m) h = tt
can_do words (command.Races r) h = record { steps = h.says.1.run.options.bound; slot = has_slot r.run.options.picker h.says.1.run.options.picker.bounds }
can_do words (command.Explain rule) h = tt
