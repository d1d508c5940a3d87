use Rattle.tx_serial.specs.Bound.{zeros}
use Rattle.turn_bounds.proofs.CheckedBounds.{units_enough, image_ends, image_only, image_quiet}
use Rattle.turn_bounds.proofs.images.turns_of_checked_images.Goals as goal

pub returns-clause-units : goal.returns-clause-units
returns-clause-units c = λ p i b book is few layout small memory input n out end run slots many.
    image_ends p i b book is layout small memory input n out end run slots (units_enough b n (zeros slots) few many)

pub returns-clause-ends : goal.returns-clause-ends
returns-clause-ends c = λ p i b book is layout small memory input n out end run slots many.
    image_ends p i b book is layout small memory input n out end run slots many

pub returns-clause-no_other_end : goal.returns-clause-no_other_end
returns-clause-no_other_end c = λ p i b book is layout small memory input n out end run slots other e.
    image_only p i b book is layout small memory input n out end run slots other e

pub returns-clause-never_waits : goal.returns-clause-never_waits
returns-clause-never_waits c = λ p i b book is layout small memory input n out end run slots answer t.
    image_quiet p i b book is layout small memory input n out end run slots answer t
