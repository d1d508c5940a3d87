-- Symbols of definitions, and the numbers that they stand for.
use Rattle.std.specs.Prelude.{Bool, ◌≡◌, ◌<◌, ℕ, List, [], ◌∷◌, Option, Some, None, not, ◌&&◌, nat_eq, if◌then◌else◌, length, slice_get, slice_index}
use Rattle.std.specs.List.{list_any}
use Rattle.tx_code.specs.Linked.{or_else}
use Rattle.link_tables.specs.declared.symbols.Symbol.{Symbol}
use Rattle.link_tables.specs.declared.symbols.Numbered.{Numbered}

-- the internal definition whose name stands here
abbrev pub has_place : (place : ℕ) → Symbol → Bool
has_place place s = s.internal && nat_eq s.place place

-- a definition of this name that other objects see
abbrev pub has_rank : (rank : ℕ) → Symbol → Bool
has_rank rank s = not s.internal && nat_eq s.rank rank

abbrev pub comes_again : (earlier : List Symbol) → Symbol → Bool
comes_again earlier s = not s.internal && list_any (has_rank s.rank) earlier

-- of each rank whether a definition that others see has it
abbrev pub Seen : (earlier : List Symbol) → List Bool → Type 0
Seen earlier marks = (k : ℕ) → k < length marks → slice_get marks k ≡ Some (list_any (has_rank k) earlier)

-- the number of the first one that passes
abbrev pub number_of : (Symbol → Bool) → List Numbered → Option ℕ
number_of test [] = None
number_of test (d ∷ ds) = if test d.symbol then Some d.number else number_of test ds

-- what the name at a place stands for
abbrev pub number_for : (ranks : List ℕ) → List Numbered → (place : ℕ) → Option ℕ
number_for ranks ds place = or_else (number_of (has_place place) ds) (number_of (has_rank (slice_index ranks place)) ds)

-- a table that has at each index what the function says
abbrev pub Tells : (ℕ → Option ℕ) → List (Option ℕ) → Type 0
Tells f table = (k : ℕ) → k < length table → slice_get table k ≡ Some (f k)

-- a table of definitions, by places
pub record TellsDefs (ranks : List ℕ) (defs : List Numbered) (table : List (Option ℕ)) : Type 0 where
  pub tells : Tells (number_for ranks defs) table
  pub long : length table ≡ length ranks
