-- What tables tell of objects.
use Rattle.std.specs.Prelude.{true, ◌≡◌, ◌<◌, ℕ, List, map, length}
use Rattle.std.specs.List.{list_all, All}
use Rattle.tx_code.specs.Objects.{ObjectView, bytes_of, object_view}
use Rattle.link_faults.specs.declared.tables.Tables.{Tables}
use Rattle.link_faults.specs.Faults.{func_entries, global_entries, class_records}
use Rattle.link_faults.specs.Ranks.{AreNames, Known}
use Rattle.link_faults.specs.Ranked.{ranked}
use Rattle.link_faults.specs.Tests.{is_listed_entry, is_listed_class}
use Rattle.link_faults.specs.RankedClasses.{view_of, ranked_class}

-- the objects that they were made of
abbrev pub objects_of : Tables → List ObjectView
objects_of t = map object_view t.objects.now

abbrev pub names_in : Tables → List (List ℕ)
names_in t = map bytes_of t.names.items

pub record AreTables (t : Tables) : Type 0 where
  pub names : AreNames (objects_of t) (names_in t)
  pub few : length t.names.items < 4294967295
  pub known : All (λ o. Known (names_in t) (object_view o)) t.objects.now
  pub funcs : t.funcs.items ≡ map (ranked (names_in t)) (func_entries (objects_of t))
  pub globals : t.globals.items ≡ map (ranked (names_in t)) (global_entries (objects_of t))
  pub funcs_within : All (λ e. e.symbol < length t.names.items) t.funcs.items
  pub globals_within : All (λ e. e.symbol < length t.names.items) t.globals.items
  pub classes : map view_of t.classes.items ≡ map (ranked_class (names_in t)) (class_records (objects_of t))
  pub classes_within : All (λ c. c.name < length t.names.items) t.classes.items
  pub classes_listed : list_all (is_listed_class (names_in t)) (class_records (objects_of t)) ≡ true
  pub funcs_listed : list_all (is_listed_entry (names_in t)) (func_entries (objects_of t)) ≡ true
  pub globals_listed : list_all (is_listed_entry (names_in t)) (global_entries (objects_of t)) ≡ true
