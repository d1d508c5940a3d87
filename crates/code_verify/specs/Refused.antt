-- When an image is refused.
use Rattle.std.specs.Prelude.{⊤}
use Rattle.tx_code.specs.Images.{ImageView}
use Rattle.tx_code.specs.Sound.{Sound}
use Rattle.code_verify.specs.Places.{FirstBroken}
use Rattle.code_verify.specs.declared.verified.BadCode.{BadCode}
use Rattle.code_verify.specs.declared.verified.BadCode.TheVariants.{Rule, Memory}

-- the clause that is named is broken first, in an image that is not sound; want of memory may come at any
abbrev pub Refuses : ImageView → BadCode → Type 0
Refuses i (Rule func index rule) = FirstBroken i func index rule × (Sound i → ⊥)
Refuses i Memory = ⊤
