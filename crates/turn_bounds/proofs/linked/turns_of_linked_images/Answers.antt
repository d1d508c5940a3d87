use Rattle.src_bind.specs.Tables.{linked_of}
use Rattle.tx_machine.specs.ImageRuns.{layout_of_image, first_words}
use Rattle.tx_serial.specs.Bound.{zeros}
use Rattle.turn_bounds.proofs.CheckedBounds.{units_enough, image_ends, image_only, image_quiet}
use Rattle.turn_bounds.proofs.LinkedBounds.{few_threads, is_checked, with_image}
use Rattle.turn_bounds.proofs.linked.turns_of_linked_images.Goals as goal

pub returns-clause-units : goal.returns-clause-units
returns-clause-units c = λ g i b book is image sound few input n out end run slots many.
    image_ends (linked_of g) i b book (is_checked g i b book is image sound) (layout_of_image i) few_threads (first_words i) input n out end
    (with_image g i b book is input n out end run) slots
    (units_enough b n (zeros slots) few many)

pub returns-clause-ends : goal.returns-clause-ends
returns-clause-ends c = λ g i b book is image sound input n out end run slots many.
    image_ends (linked_of g) i b book (is_checked g i b book is image sound) (layout_of_image i) few_threads (first_words i) input n out end
    (with_image g i b book is input n out end run) slots many

pub returns-clause-no_other_end : goal.returns-clause-no_other_end
returns-clause-no_other_end c = λ g i b book is image sound input n out end run slots other e.
    image_only (linked_of g) i b book (is_checked g i b book is image sound) (layout_of_image i) few_threads (first_words i) input n out end
    (with_image g i b book is input n out end run) slots other e

pub returns-clause-never_waits : goal.returns-clause-never_waits
returns-clause-never_waits c = λ g i b book is image sound input n out end run slots answer t.
    image_quiet (linked_of g) i b book (is_checked g i b book is image sound) (layout_of_image i) few_threads (first_words i) input n out end
    (with_image g i b book is input n out end run) slots answer t
