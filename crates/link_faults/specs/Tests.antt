-- Tests of names and of their ranks.
use Rattle.std.specs.Prelude.{Bool, true, ◌≡◌, ◌<◌, ℕ, List, [], ◌&&◌, Option, Some, None, length}
use Rattle.std.specs.Prelude.{slice_index_or}
use Rattle.std.specs.List.{list_all}
use Rattle.std.specs.Option.{option_map_or}
use Rattle.link_faults.specs.Answers.{NoneOf, Least}
use Rattle.link_faults.specs.Faults.{Entry, MemberRecord, ClassRecord}
use Rattle.link_faults.specs.Ranks.{is_listed, rank_of}

-- a test of names is one of their ranks, where only names that are listed pass
pub record IsByRank (all : List (List ℕ)) (test : List ℕ → Bool) (by_rank : ℕ → Bool) : Type 0 where
  pub same : (name : List ℕ) → test name ≡ (is_listed all name && by_rank (rank_of all name))

-- the names of an entry are listed
abbrev pub is_listed_entry : (all : List (List ℕ)) → Entry → Bool
is_listed_entry all e = is_listed all e.symbol && is_listed all e.ty && option_map_or (is_listed all) e.text true

-- the least name that passes, by its rank
abbrev pub IsFirst : (List ℕ → Bool) → List (List ℕ) → Option ℕ → Type 0
IsFirst test all None = NoneOf test
IsFirst test all (Some k) = (k < length all) × Least test (slice_index_or all k [])

abbrev pub is_listed_option : (all : List (List ℕ)) → Option (List ℕ) → Bool
is_listed_option all o = option_map_or (is_listed all) o true

abbrev pub is_listed_member : (all : List (List ℕ)) → MemberRecord → Bool
is_listed_member all m = is_listed all m.name && is_listed all m.ty

-- the names of a class are listed
abbrev pub is_listed_class : (all : List (List ℕ)) → ClassRecord → Bool
is_listed_class all r = is_listed all r.name && is_listed_option all r.base && is_listed all r.text && list_all (is_listed_member all) r.members
    && list_all (is_listed_option all) r.slots
