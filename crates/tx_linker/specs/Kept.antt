-- What the definitions that are kept tell.
use Rattle.std.specs.Prelude.{◌≡◌, ◌<◌, ℕ, List, [], map, length}
use Rattle.std.specs.List.{All, flat_map}
use Rattle.tx_code.specs.declared.object.Object.{Object}
use Rattle.tx_code.specs.Objects.{ObjectView, bytes_of, object_view}
use Rattle.tx_code.specs.WellFormed.{IsObject}
use Rattle.link_faults.specs.Ranks.{AreNames, Known, names_of, rank_of}
use Rattle.link_tables.specs.Homes.{home_view, homes}
use Rattle.link_tables.specs.Found.{class_row, classes_in, func_row, funcs_in, global_row, globals_in, kept_class_rows, kept_rows}
use Rattle.tx_linker.specs.declared.kept.Kept.{Kept}

-- the objects that they are of
abbrev pub objects_of : Kept → List ObjectView
objects_of k = map object_view k.objects.now

abbrev pub names_in : Kept → List (List ℕ)
names_in k = map bytes_of k.names.items

pub record AreKept (k : Kept) : Type 0 where
  pub names : AreNames (objects_of k) (names_in k)
  pub objects : All (λ (o : Object). IsObject (object_view o)) k.objects.now
  pub few : length (flat_map names_of (objects_of k)) < 4294967295
  pub known : All (Known (names_in k)) (objects_of k)
  pub placed : map home_view k.homes.items ≡ homes 0 0 (objects_of k)
  pub ranks : k.ranks.items ≡ map (rank_of (names_in k)) (flat_map names_of (objects_of k))
  pub funcs : map func_row k.funcs.items ≡ kept_rows [] (flat_map (funcs_in (names_in k)) (homes 0 0 (objects_of k)))
  pub globals : map global_row k.globals.items ≡ flat_map (globals_in (names_in k)) (homes 0 0 (objects_of k))
  pub classes : map class_row k.classes.items ≡ kept_class_rows [] (flat_map (classes_in (names_in k)) (homes 0 0 (objects_of k)))
