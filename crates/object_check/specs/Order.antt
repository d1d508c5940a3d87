-- Lists that ascend behind an item, if there is one.
use Rattle.std.specs.Prelude.{Bool, true, List, Option, Some, None}
use Rattle.tx_code.specs.WellFormed.{ascends, ascends_from}

abbrev pub follows : {A : Type 0} → (A → A → Bool) → Option A → A → Bool
follows below None x = true
follows below (Some b) x = below b x

abbrev pub ascends_behind : {A : Type 0} → (A → A → Bool) → Option A → List A → Bool
ascends_behind below None xs = ascends below xs
ascends_behind below (Some b) xs = ascends_from below b xs
