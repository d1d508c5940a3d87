use Rattle.turn_bounds.proofs.CheckedBounds.{units_enough}
use Rattle.turn_bounds.proofs.LinkedBounds.{ran_not_out, ran_in_time, ran_picked, ran_quiet}
use Rattle.turn_bounds.proofs.linked.runs_of_images_that_stay_alone.Goals as goal

pub returns-clause-units : goal.returns-clause-units
returns-clause-units c = λ g i b book is image sound few input n out end run picker policy bound ran named started many.
    ran_picked g i b book is input n out end image sound run picker policy bound ran named started (units_enough b n bound few many)

pub returns-clause-bounded : goal.returns-clause-bounded
returns-clause-bounded c = λ g i b book is image sound input n out end run picker policy bound ran named started many.
    ran_picked g i b book is input n out end image sound run picker policy bound ran named started many

pub returns-clause-picked : goal.returns-clause-picked
returns-clause-picked c = λ g i b book is image sound input n out end run picker policy bound ran named many.
    ran_in_time g i b book is input n out end image sound run picker policy bound ran named many

pub returns-clause-ended : goal.returns-clause-ended
returns-clause-ended c = λ g i b book is image sound input n out end run picker policy bound ran named other.
    ran_not_out g i b book is input n out end image sound run picker policy bound ran named other

pub returns-clause-never_waits : goal.returns-clause-never_waits
returns-clause-never_waits c = λ g i b book is image sound input n out end run picker policy bound ran named.
    ran_quiet g i b book is input n out end image sound run picker policy bound ran named
