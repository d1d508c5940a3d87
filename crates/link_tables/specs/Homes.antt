-- Objects with the places of their names among the names of all objects.
use Rattle.std.specs.Prelude.{Bool, ℕ, zero, suc, ◌+◌, ◌<◌, List, [], ◌∷◌, length}
use Rattle.tx_code.specs.Objects.{ObjectView, object_view}
use Rattle.tx_code.specs.Linked.{name_in}
use Rattle.link_faults.specs.Ranks.{Known, rank_of}
use Rattle.link_tables.specs.declared.homes.Home.{Home}
use Rattle.link_tables.specs.declared.symbols.Symbol.{Symbol}

pub record HomeView : Type 0 where
  pub at : ℕ
  pub start : ℕ
  pub object : ObjectView

abbrev pub home_view : Home → HomeView
home_view h = record { at = h.at; start = h.start; object = object_view h.object.now }

-- the objects, of which the first has this position and its names begin at this place
abbrev pub homes : (at start : ℕ) → List ObjectView → List HomeView
homes at start [] = []
homes at start (o ∷ os) = record { at = at; start = start; object = o } ∷ homes (at + 1) (start + length o.names) os

-- where the names of the object at this position begin
abbrev pub start_of : List ObjectView → (at : ℕ) → ℕ
start_of [] at = 0
start_of (o ∷ os) zero = 0
start_of (o ∷ os) (suc at) = length o.names + start_of os at

abbrev pub names_at : HomeView → List (List ℕ)
names_at h = h.object.names

abbrev pub symbol_of : (all : List (List ℕ)) → HomeView → (name : ℕ) → (internal : Bool) → Symbol
symbol_of all h name internal = record { place = h.start + name; rank = rank_of all (name_in h.object name); internal = internal }

-- a home whose names are among all names, and whose places are numbers of 32 bits
pub record IsHome (all : List (List ℕ)) (h : Home) : Type 0 where
  pub known : Known all (object_view h.object.now)
  pub few : h.start + length h.object.now.names.items < 4294967295
