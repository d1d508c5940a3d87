-- A list of classes in order, as a test.
use Rattle.std.specs.Prelude.{Bool, true, false, ◌&&◌, ℕ, List, length, Option, Some, None, nat_lt}
use Rattle.std.specs.List.{list_all}
use Rattle.cpp_types.specs.Class.{Class, Member, Function, held, typ_below, signature_below, completion_of}

-- a number that is there passes
abbrev pub each_passes : (ℕ → Bool) → Option ℕ → Bool
each_passes test None = true
each_passes test (Some n) = test n

-- there is a number, and it passes
abbrev pub one_passes : (ℕ → Bool) → Option ℕ → Bool
one_passes test None = false
one_passes test (Some n) = test n

abbrev pub is_below : ℕ → ℕ → Bool
is_below limit n = nat_lt n limit

abbrev pub members_below : ℕ → List Member → Bool
members_below limit ms = list_all (λ (m : Member). typ_below limit m.typ) ms

abbrev pub functions_below : ℕ → List Function → Bool
functions_below limit fs = list_all (λ (f : Function). signature_below limit f.signature) fs

abbrev pub class_below : ℕ → Class → Bool
class_below limit c = each_passes (is_below limit) c.base && (members_below limit c.members && functions_below limit c.functions)

abbrev pub is_complete_below : List Class → ℕ → ℕ → Bool
is_complete_below classes limit n = one_passes (is_below limit) (completion_of classes n)

abbrev pub members_earlier : List Class → ℕ → List Member → Bool
members_earlier classes limit ms = list_all (λ (m : Member). each_passes (is_complete_below classes limit) (held m.typ)) ms

abbrev pub holds_earlier : List Class → Class → ℕ → Bool
holds_earlier classes c limit = each_passes (is_complete_below classes limit) c.base && members_earlier classes limit c.members

abbrev pub is_consistent : List Class → Class → Bool
is_consistent classes c = class_below (length classes) c && each_passes (holds_earlier classes c) c.complete

abbrev pub all_consistent : List Class → Bool
all_consistent classes = list_all (is_consistent classes) classes
