use Rattle.std.proofs.Common.{◌≡◌, ℕ, ◌<◌, slice_get, Some, map, unwrap_or}
use Rattle.cpp_types.specs.Class.{Member, member_of, classes_of, completion_of, held}
use Rattle.cpp_types.specs.Trivial.{IsTrivialClass}
use Rattle.cpp_types.proofs.copyability.+is_trivial_class.Given as goal

-- what the members so far hold is trivial
abbrev pub invariant-loop-member : goal.invariant-loop-member
invariant-loop-member l = (j : ℕ) (m : Member) (e : ℕ) → j < l.member-index → slice_get (map member_of l.found.members.items) j ≡ Some m → held m.typ ≡ Some e
    → IsTrivialClass (classes_of l.classes) e

abbrev pub decreases-is_trivial_class : goal.decreases-is_trivial_class
decreases-is_trivial_class l = unwrap_or (completion_of (classes_of l.classes.now) l.class) 0
