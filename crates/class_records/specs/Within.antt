-- A class that may stand, complete, in the place of one that is only declared, and one that may stand behind the others.
use Rattle.std.specs.Prelude.{ℕ, ◌+◌, Bool, ◌&&◌, nat_lt, List, is_none, length}
use Rattle.cpp_types.specs.Class.{Class, completion_of}
use Rattle.cpp_types.specs.Order.{each_passes, class_below, holds_earlier}

-- it holds only what was complete before so many classes were
abbrev pub may_stand : List Class → ℕ → ℕ → Class → Bool
may_stand classes n number c = nat_lt n (length classes)
    && (is_none (completion_of classes n) && (class_below (length classes) c && holds_earlier classes c number))

-- it names those before it and itself, and holds only what was complete before it
abbrev pub may_follow : List Class → Class → Bool
may_follow classes c = class_below (length classes + 1) c && each_passes (holds_earlier classes c) c.complete
