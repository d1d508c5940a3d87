-- The definitions of objects with their symbols, and which of them are kept.
use Rattle.std.specs.Prelude.{false, ℕ, ◌+◌, List, [], ◌∷◌, ◌++◌, map, filter, nat_eq, if◌then◌else◌}
use Rattle.tx_code.specs.Objects.{ClassView, FuncView, GlobalView, class_view, func_view, global_view}
use Rattle.tx_code.specs.WellFormed.{is_defined}
use Rattle.tx_code.specs.Linked.{ClassDef, FuncDef, GlobalDef, class_def, func_def, global_def, placed_globals, rounded}
use Rattle.link_tables.specs.declared.symbols.Symbol.{Symbol}
use Rattle.link_tables.specs.declared.symbols.Numbered.{Numbered}
use Rattle.link_tables.specs.declared.found.FoundFunc.{FoundFunc}
use Rattle.link_tables.specs.declared.found.FoundGlobal.{FoundGlobal}
use Rattle.link_tables.specs.declared.found.FoundClass.{FoundClass}
use Rattle.link_tables.specs.Homes.{HomeView, home_view, symbol_of}
use Rattle.link_tables.specs.Symbols.{comes_again}

-- ---- functions

pub record FuncRow : Type 0 where
  pub home : HomeView
  pub func : FuncView
  pub symbol : Symbol

abbrev pub func_row : FoundFunc → FuncRow
func_row f = record { home = home_view f.home; func = func_view f.func.now; symbol = f.symbol }

abbrev pub func_of_row : FuncRow → FuncDef
func_of_row r = func_def r.home.at r.home.object r.func

abbrev pub row_of_func : (all : List (List ℕ)) → HomeView → FuncView → FuncRow
row_of_func all h f = record { home = h; func = f; symbol = symbol_of all h f.symbol (nat_eq f.linkage 1) }

-- the definitions of an object
abbrev pub funcs_in : (all : List (List ℕ)) → HomeView → List FuncRow
funcs_in all h = map (row_of_func all h) (filter is_defined h.object.funcs)

abbrev pub func_symbol_of : FuncRow → Symbol
func_symbol_of r = r.symbol

abbrev pub kept_with_row : List FuncRow → FuncRow → List FuncRow
kept_with_row kept r = if comes_again (map func_symbol_of kept) r.symbol then kept else kept ++ r ∷ []

abbrev pub kept_rows : List FuncRow → List FuncRow → List FuncRow
kept_rows kept [] = kept
kept_rows kept (r ∷ rs) = kept_rows (kept_with_row kept r) rs

-- ---- globals

pub record GlobalRow : Type 0 where
  pub home : HomeView
  pub global : GlobalView
  pub symbol : Symbol

abbrev pub global_row : FoundGlobal → GlobalRow
global_row g = record { home = home_view g.home; global = global_view g.global.now; symbol = g.symbol }

abbrev pub global_of_row : GlobalRow → GlobalDef
global_of_row r = global_def r.home.at r.home.object r.global

abbrev pub row_of_global : (all : List (List ℕ)) → HomeView → GlobalView → GlobalRow
row_of_global all h g = record { home = h; global = g; symbol = symbol_of all h g.symbol (nat_eq g.linkage 1) }

abbrev pub globals_in : (all : List (List ℕ)) → HomeView → List GlobalRow
globals_in all h = map (row_of_global all h) (placed_globals h.object)

-- ---- classes

pub record ClassRow : Type 0 where
  pub home : HomeView
  pub class : ClassView
  pub symbol : Symbol

abbrev pub class_row : FoundClass → ClassRow
class_row c = record { home = home_view c.home; class = class_view c.class.now; symbol = c.symbol }

abbrev pub class_of_row : ClassRow → ClassDef
class_of_row r = class_def r.home.at r.home.object r.class

-- all objects see a class
abbrev pub row_of_class : (all : List (List ℕ)) → HomeView → ClassView → ClassRow
row_of_class all h c = record { home = h; class = c; symbol = symbol_of all h c.name false }

abbrev pub classes_in : (all : List (List ℕ)) → HomeView → List ClassRow
classes_in all h = map (row_of_class all h) h.object.classes

abbrev pub class_symbol_of : ClassRow → Symbol
class_symbol_of r = r.symbol

abbrev pub kept_with_class : List ClassRow → ClassRow → List ClassRow
kept_with_class kept r = if comes_again (map class_symbol_of kept) r.symbol then kept else kept ++ r ∷ []

abbrev pub kept_class_rows : List ClassRow → List ClassRow → List ClassRow
kept_class_rows kept [] = kept
kept_class_rows kept (r ∷ rs) = kept_class_rows (kept_with_class kept r) rs

-- ---- numbers

-- one after another, from n on
abbrev pub numbered : (n : ℕ) → List Symbol → List Numbered
numbered n [] = []
numbered n (s ∷ ss) = record { symbol = s; number = n } ∷ numbered (n + 1) ss

-- globals with their offsets, of which the first is this one
abbrev pub placed : (start : ℕ) → List GlobalRow → List Numbered
placed start [] = []
placed start (r ∷ rs) = record { symbol = r.symbol; number = start } ∷ placed (start + rounded r.global.size) rs
