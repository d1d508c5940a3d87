-- Tables tell what names stand for.
use Rattle.std.proofs.Common.{◌≡◌, ◌<◌, ℕ, suc, zero, ◌+◌, List, [], ◌∷◌, map, length, refl, ap, ◌∙◌, arith, Option, Some, slice_get, slice_index}
use Rattle.std.specs.List.{flat_map, position_from}
use Rattle.std.specs.Option.{option_map}
use Rattle.std.proofs.lemmas.List.{length-map}
use Rattle.tx_code.specs.Objects.{ObjectView}
use Rattle.tx_code.specs.Linked.{name_in, or_else, kept_funcs, kept_classes, global_defs, func_number, global_number, class_number, is_own, defines}
use Rattle.tx_code.specs.Linked.{is_own_global, defines_global, has_class_name, offset_of}
use Rattle.link_faults.specs.Ranks.{Known, rank_of, names_of}
use Rattle.link_faults.proofs.FirstClaims.{inside}
use Rattle.link_tables.specs.declared.symbols.Numbered.{Numbered}
use Rattle.link_tables.specs.Symbols.{Tells, TellsDefs, number_for, number_of, has_place, has_rank}
use Rattle.link_tables.specs.Found.{FuncRow, func_of_row, func_symbol_of, GlobalRow, global_of_row, ClassRow, class_of_row, class_symbol_of, numbered, placed}
use Rattle.link_tables.specs.Renamed.{told}
use Rattle.link_tables.specs.Homes.{start_of}
use Rattle.link_tables.proofs.NamePlaces.{StandsAt, Each, name_at_place, place_within, get_map, get_there}
use Rattle.link_tables.proofs.ByPlace.{IsFuncRow, IsGlobalRow, IsClassRow, own_func, seen_func, own_global, seen_global, own_class, seen_class, listed_here}

get_index : (xs : List ℕ) (i v : ℕ) → slice_get xs i ≡ Some v → slice_index xs i ≡ v
get_index [] i v e = cc
get_index (x ∷ xs) zero v e = inside x v e
get_index (x ∷ xs) (suc i) v e = get_index xs i v e

told_is : (table : List (Option ℕ)) (f : ℕ → Option ℕ) (k : ℕ) → Tells f table → k < length table → told table k ≡ f k
told_is table f k h l = rw (h k l) refl

name_there : (os : List ObjectView) (at n : ℕ) (o : ObjectView) → StandsAt os at o → n < length o.names
    → slice_get (flat_map names_of os) (start_of os at + n) ≡ Some (name_in o n)
name_there os at n o e l = name_at_place os at n o e.is l ∙ get_there o.names n [] l

map_there : {B : Type 0} (f : List ℕ → B) (os : List ObjectView) (at n : ℕ) (o : ObjectView) → StandsAt os at o → n < length o.names
    → slice_get (map f (flat_map names_of os)) (start_of os at + n) ≡ Some (f (name_in o n))
map_there f os at n o e l = get_map f (flat_map names_of os) (start_of os at + n) ∙ ap (option_map f) (name_there os at n o e l)

-- ranks of the names at all places
pub record AreRanks (all : List (List ℕ)) (os : List ObjectView) (ranks : List ℕ) : Type 0 where
  pub are : ranks ≡ map (rank_of all) (flat_map names_of os)

rank_there : (all : List (List ℕ)) (os : List ObjectView) (ranks : List ℕ) (at n : ℕ) (o : ObjectView) → AreRanks all os ranks → StandsAt os at o
    → n < length o.names → slice_index ranks (start_of os at + n) ≡ rank_of all (name_in o n)
rank_there all os ranks at n o r e l = get_index ranks (start_of os at + n) (rank_of all (name_in o n))
    (ap (λ rs. slice_get rs (start_of os at + n)) r.are ∙ map_there (rank_of all) os at n o e l)

within : (all : List (List ℕ)) (os : List ObjectView) (ranks : List ℕ) (table : List (Option ℕ)) (at n : ℕ) (o : ObjectView) → AreRanks all os ranks
    → length table ≡ length ranks → StandsAt os at o → n < length o.names → start_of os at + n < length table
within all os ranks table at n o r t e l =
    let p = place_within os at n o e.is l in
    let s : length ranks ≡ length (flat_map names_of os) = ap length r.are ∙ length-map (flat_map names_of os) (rank_of all) in
    omega (arith, p, s, t)

told_number : (all : List (List ℕ)) (os : List ObjectView) (ranks : List ℕ) (defs : List Numbered) (table : List (Option ℕ)) → AreRanks all os ranks
    → TellsDefs ranks defs table → (at n : ℕ) (o : ObjectView) → StandsAt os at o → n < length o.names
    → told table (start_of os at + n) ≡ or_else (number_of (has_place (start_of os at + n)) defs) (number_of (has_rank (rank_of all (name_in o n))) defs)
told_number all os ranks defs table r t at n o e l =
    told_is table (number_for ranks defs) (start_of os at + n) t.tells (within all os ranks table at n o r t.long e l)
    ∙ ap (λ k. or_else (number_of (has_place (start_of os at + n)) defs) (number_of (has_rank k) defs)) (rank_there all os ranks at n o r e l)

pub func_there : (all : List (List ℕ)) (os : List ObjectView) (ranks : List ℕ) (rows : List FuncRow) (table : List (Option ℕ)) → AreRanks all os ranks
    → Each (IsFuncRow all os) rows → map func_of_row rows ≡ kept_funcs os
    → TellsDefs ranks (numbered 0 (map func_symbol_of rows)) table → (at n : ℕ) (o : ObjectView) → StandsAt os at o → Known all o → n < length o.names
    → told table (start_of os at + n) ≡ func_number os at o n
func_there all os ranks rows table r h k t at n o e known l =
    told_number all os ranks (numbered 0 (map func_symbol_of rows)) table r t at n o e l
    ∙ ap (λ a. or_else a (number_of (has_rank (rank_of all (name_in o n))) (numbered 0 (map func_symbol_of rows))))
    (own_func all os rows h at n o e l ∙ ap (position_from (is_own at n) 0) k)
    ∙ ap (or_else (position_from (is_own at n) 0 (kept_funcs os)))
    (seen_func all os rows h (name_in o n) (listed_here all o n known l) ∙ ap (position_from (defines (name_in o n)) 0) k)

pub global_there : (all : List (List ℕ)) (os : List ObjectView) (ranks : List ℕ) (rows : List GlobalRow) (table : List (Option ℕ)) → AreRanks all os ranks
    → Each (IsGlobalRow all os) rows → map global_of_row rows ≡ global_defs 0 os
    → TellsDefs ranks (placed 0 rows) table → (at n : ℕ) (o : ObjectView) → StandsAt os at o → Known all o → n < length o.names
    → told table (start_of os at + n) ≡ global_number os at o n
global_there all os ranks rows table r h k t at n o e known l =
    told_number all os ranks (placed 0 rows) table r t at n o e l
    ∙ ap (λ a. or_else a (number_of (has_rank (rank_of all (name_in o n))) (placed 0 rows)))
    (own_global all os rows h at n o e l ∙ ap (offset_of (is_own_global at n) 0) k)
    ∙ ap (or_else (offset_of (is_own_global at n) 0 (global_defs 0 os)))
    (seen_global all os rows h (name_in o n) (listed_here all o n known l) ∙ ap (offset_of (defines_global (name_in o n)) 0) k)

pub class_there : (all : List (List ℕ)) (os : List ObjectView) (ranks : List ℕ) (rows : List ClassRow) (table : List (Option ℕ)) → AreRanks all os ranks
    → Each (IsClassRow all os) rows → map class_of_row rows ≡ kept_classes os
    → TellsDefs ranks (numbered 0 (map class_symbol_of rows)) table → (at n : ℕ) (o : ObjectView) → StandsAt os at o → Known all o → n < length o.names
    → told table (start_of os at + n) ≡ class_number os o n
class_there all os ranks rows table r h k t at n o e known l =
    told_number all os ranks (numbered 0 (map class_symbol_of rows)) table r t at n o e l
    ∙ ap (λ a. or_else a (number_of (has_rank (rank_of all (name_in o n))) (numbered 0 (map class_symbol_of rows))))
    (own_class all os (start_of os at + n) rows h)
    ∙ seen_class all os rows h (name_in o n) (listed_here all o n known l) ∙ ap (position_from (has_class_name (name_in o n)) 0) k
