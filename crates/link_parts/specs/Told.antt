-- Tables that tell what the names of objects stand for.
use Rattle.std.specs.Prelude.{true, ◌≡◌, ◌<◌, ℕ, ◌+◌, List, Option, Some, length, slice_get}
use Rattle.std.specs.List.{list_any}
use Rattle.std.specs.Str.{bytes_eq}
use Rattle.tx_code.specs.Objects.{ObjectView}
use Rattle.tx_code.specs.WellFormed.{ascends, bytes_lt}
use Rattle.tx_code.specs.Linked.{class_number, func_number, global_number, type_number}
use Rattle.link_tables.specs.declared.renamed.Numbers.{Numbers}
use Rattle.link_tables.specs.Homes.{start_of}
use Rattle.link_tables.specs.Renamed.{told}

-- at the place of each name of each object the table has what the name stands for
abbrev pub TellsEach : List ObjectView → (ℕ → ObjectView → ℕ → Option ℕ) → List (Option ℕ) → Type 0
TellsEach os number table = (at n : ℕ) (o : ObjectView) → slice_get os at ≡ Some o → n < length o.names → told table (start_of os at + n) ≡ number at o n

-- in an image with these types
pub record TellNames (os : List ObjectView) (spellings : List (List ℕ)) (x : Numbers) : Type 0 where
  pub globals : TellsEach os (global_number os) x.globals.items
  pub funcs : TellsEach os (func_number os) x.funcs.items
  pub classes : TellsEach os (λ at. class_number os) x.classes.items
  pub types : TellsEach os (λ at. type_number spellings) x.types.items

-- these names, ascending and each once
pub record AreTypes (names types : List (List ℕ)) : Type 0 where
  pub ascend : ascends bytes_lt types ≡ true
  pub same : (ty : List ℕ) → list_any (bytes_eq ty) types ≡ list_any (bytes_eq ty) names
