-- A table of nests of open blocks: nest 0 is empty, and each link makes one more of an earlier one.
use Rattle.std.specs.Prelude.{Some, ◌≡◌, ◌<◌, ◌≤◌, ℕ, ◌+◌, List, [], ◌∷◌, ◌++◌, length, not, slice_get, slice_index_or}
use Rattle.tx_events.specs.Thread.{Open, Atomic, Sync, no_atomic}
use Rattle.code_walk.specs.declared.nests.Block.{Block}
use Rattle.code_walk.specs.declared.nests.Block.TheVariants.{Atomic as AtomicBlock, Sync as SyncBlock}
use Rattle.code_walk.specs.declared.nests.Link.{Link}

abbrev pub open_of : Block → Open
open_of (AtomicBlock kind) = Atomic kind
open_of SyncBlock = Sync

-- the nest of a number; past the table there is the empty one
abbrev pub nest : List (List Open) → ℕ → List Open
nest table n = slice_index_or table n []

abbrev pub linked : List (List Open) → Link → List Open
linked table l = open_of l.block ∷ nest table l.outer

abbrev pub table_with : List (List Open) → List Link → List (List Open)
table_with table [] = table
table_with table (l ∷ ls) = table_with (table ++ linked table l ∷ []) ls

abbrev pub table_of_links : List Link → List (List Open)
table_of_links links = table_with ([] ∷ []) links

-- each link's nest, and that the one that it stands in is an earlier one
pub record AreLinks (links : List Link) : Type 0 where
  pub count : length (table_of_links links) ≡ length links + 1
  pub first : nest (table_of_links links) 0 ≡ []
  pub earlier : (n : ℕ) (l : Link) → slice_get links n ≡ Some l → l.outer ≤ n
  pub link : (n : ℕ) (l : Link) → slice_get links n ≡ Some l → nest (table_of_links links) (n + 1) ≡ linked (table_of_links links) l
  pub atomic : (n : ℕ) (l : Link) → slice_get links n ≡ Some l → l.atomic ≡ not (no_atomic (nest (table_of_links links) (n + 1)))

-- what a number's link says of its nest
pub record IsLink (table : List (List Open)) (n : ℕ) (l : Link) : Type 0 where
  pub earlier : l.outer < n
  pub link : nest table n ≡ linked table l
  pub atomic : l.atomic ≡ not (no_atomic (nest table n))

-- a table with further nests: the numbers of before keep theirs
pub record Extends (old new : List (List Open)) : Type 0 where
  pub more : length old ≤ length new
  pub same : (n : ℕ) → n < length old → nest new n ≡ nest old n
