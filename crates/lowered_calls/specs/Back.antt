-- Where the value of a call lies behind it.
use Rattle.std.specs.Prelude.{Bool, true, false}
use Rattle.lowered_frames.specs.Modes.{Mode, top, IsBare}

-- the function hands back a word, which lies on top, or none
abbrev pub HandsBack : (gives : Bool) → Mode → Type 0
HandsBack true top = Unit {0}
HandsBack true m = ⊥
HandsBack false m = IsBare m
