-- Names as numbers: the position of each name in the ascending list of all names.
use Rattle.std.specs.Prelude.{Bool, true, ◌≡◌, ◌<◌, ◌+◌, ℕ, List, length, unwrap_or}
use Rattle.std.specs.List.{list_all, list_any, position_from, flat_map}
use Rattle.std.specs.Str.{bytes_eq}
use Rattle.tx_code.specs.Objects.{ObjectView}
use Rattle.tx_code.specs.WellFormed.{ascends, bytes_lt, IsObject}

abbrev pub is_listed : List (List ℕ) → List ℕ → Bool
is_listed all name = list_any (bytes_eq name) all

abbrev pub rank_of : List (List ℕ) → List ℕ → ℕ
rank_of all name = unwrap_or (position_from (bytes_eq name) 0 all) 0

abbrev pub names_of : ObjectView → List (List ℕ)
names_of o = o.names

-- all names of the objects, ascending
pub record AreNames (os : List ObjectView) (all : List (List ℕ)) : Type 0 where
  pub ascend : ascends bytes_lt all ≡ true
  pub listed : list_all (is_listed all) (flat_map names_of os) ≡ true
  pub count : length all < length (flat_map names_of os) + 1

-- an object with all its names among them
pub record Known (all : List (List ℕ)) (o : ObjectView) : Type 0 where
  pub ascend : ascends bytes_lt all ≡ true
  pub few : length all < 4294967295
  pub listed : list_all (is_listed all) o.names ≡ true
  pub object : IsObject o
