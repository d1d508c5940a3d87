-- Objects that can be linked have an image, which is whole.
use Rattle.std.proofs.Common.{Bool, true, false, ◌≡◌, ◌<◌, ◌≤◌, ℕ, ◌+◌, ◌^◌, List, [], ◌∷◌, ◌++◌, map, length, refl, sym, ap, ◌∙◌, arith, Option, None, cond}
use Rattle.std.proofs.Common.{nat_lt, length-append}
use Rattle.std.specs.List.{All, flat_map, list_all, position_from}
use Rattle.std.specs.Global.{Vec}
use Rattle.std.proofs.lemmas.List.{length-map}
use Rattle.std.proofs.lemmas.List.Elements.{All-cons}
use borrow.Author.Tests.{ltb-true}
use Rattle.tx_code.specs.Objects.{ObjectView, ClassView, bytes_of}
use Rattle.tx_code.specs.WellFormed.{IsObject, ascends, ascends_from, class_fits}
use Rattle.tx_code.specs.Images.{ImageView, IsImage}
use Rattle.tx_code.specs.Linked.{ImageOf, class_number, end_of, func_number, global_defs, global_number, is_main_def, kept_funcs, type_number, types_named}
use Rattle.link_faults.specs.Answers.{Links}
use Rattle.link_faults.specs.Ranks.{names_of, rank_of}
use Rattle.link_faults.specs.Unlisted.{AreMarks}
use Rattle.link_faults.proofs.Ascending.{and_left, and_right}
use Rattle.link_faults.proofs.ListedEntries.{AllKnown, some}
use Rattle.link_tables.specs.declared.homes.Home.{Home}
use Rattle.link_tables.specs.declared.found.FoundGlobal.{FoundGlobal}
use Rattle.link_tables.specs.declared.symbols.Numbered.{Numbered}
use Rattle.link_tables.specs.Symbols.{TellsDefs, comes_again}
use Rattle.link_tables.specs.Homes.{HomeView, home_view, homes, names_at}
use Rattle.link_tables.specs.Found.{func_row, func_of_row, func_symbol_of, funcs_in, kept_rows, global_row, global_of_row, globals_in, ClassRow, class_row}
use Rattle.link_tables.specs.Found.{class_symbol_of, row_of_class, classes_in, kept_class_rows, numbered, placed}
use Rattle.link_tables.proofs.NamePlaces.{Each, also, names_flat}
use Rattle.link_tables.proofs.ByPlace.{globals_are_defs}
use Rattle.link_tables.proofs.FoundRows.{each_of_all, known_at, kept_func_rows, kept_class_rows_are, found_global_rows, all_homes, class_named}
use Rattle.link_tables.proofs.Told.{func_there, class_there, global_there}
use Rattle.link_parts.specs.Parts.{IsPlacedGlobal, is_main_row}
use Rattle.link_parts.specs.Types.{marked, number_in, ranks_in_rows}
use Rattle.link_parts.specs.Told.{AreTypes, TellsEach}
use Rattle.link_parts.proofs.RowParts.{GlobalStands, globals_stand, main_is}
use Rattle.link_parts.proofs.RowTypes.{numbers_tell, types_are}
use Rattle.link_laws.proofs.WholeImages.{all_objects, few_kept, few_image, starts_image, slots_image, size_image}
use Rattle.link_laws.proofs.WholeCells.{cells_image}
use Rattle.link_laws.proofs.WholeBases.{bases_image}
use Rattle.link_laws.proofs.MainThere.{main_there, position_there}
use Rattle.tx_linker.specs.declared.kept.Kept.{Kept}
use Rattle.tx_linker.specs.Kept.{AreKept, names_in, objects_of}
use Rattle.tx_linker.proofs.KeptRows.{Fits, all_each, numbered_fit, placed_fit, kept_funcs_fit, kept_classes_fit, globals_fit, ranks_within}

-- ---- the image is whole

pub image_is : (os : List ObjectView) (i : ImageView) → All IsObject os → length (flat_map names_of os) < 4294967295 → Links os → ImageOf os i → IsImage i
image_is os i h l k o =
    let a = all_objects os h in
    let size : i.size ≤ 1048576 = let s = o.size in let g = k.globals in omega (arith, s, g) in
    record {
      cells = cells_image os i a l o;
      whole = size_image os i o size;
      few = few_image os i a l o;
      starts = starts_image os i o;
      slots = slots_image os i o;
      bases = bases_image os i a k.different o;
    }

-- ---- main

pub main_number : (k : Kept) → AreKept k → position_from is_main_row 0 (map func_row k.funcs.items) ≡ position_from is_main_def 0 (kept_funcs (objects_of k))
main_number k a = ap (position_from is_main_row 0) a.funcs ∙ main_is (names_in k) (objects_of k) a.known

pub main_defined : (k : Kept) → AreKept k → Links (objects_of k) → position_from is_main_row 0 (map func_row k.funcs.items) ≡ None → ⊥
main_defined k a l e = position_there is_main_def 0 (kept_funcs (objects_of k)) (main_there (objects_of k) l.twice l.main) (sym (main_number k a) ∙ e)

-- ---- types

marked_fewer : (ns : List (List ℕ)) (ms : List Bool) → length (marked ns ms) ≤ length ns
marked_fewer [] ms = omega arith
marked_fewer (n ∷ ns) [] = omega arith
marked_fewer (n ∷ ns) (m ∷ ms) = by m (marked_fewer ns ms)
  where
    by : (b : Bool) → length (marked ns ms) ≤ length ns → length (cond b (n ∷ marked ns ms) (marked ns ms)) ≤ length (n ∷ ns)
    by true l = omega (arith, l)
    by false l = omega (arith, l)

pub types_made : (k : Kept) → AreKept k → (v : List (Vec ℕ)) (marks : List Bool) → AreMarks (ranks_in_rows k.ranks.items (map func_row k.funcs.items)) marks
    → length marks ≡ length k.names.items → map bytes_of v ≡ marked (names_in k) marks
    → AreTypes (types_named (objects_of k)) (map bytes_of v)
types_made k a v marks m l e = rw e (types_are (names_in k) (objects_of k) marks a.names.ascend a.known (l ∙ sym (length-map k.names.items bytes_of))
    (rw a.funcs at (rw a.ranks at m)))

pub types_few : (k : Kept) → AreKept k → (v : List (Vec ℕ)) (marks : List Bool) → map bytes_of v ≡ marked (names_in k) marks → length v < 2 ^ 32
types_few k a v marks e =
    let s : length v ≡ length (marked (names_in k) marks) = sym (length-map v bytes_of) ∙ ap length e in
    let f = marked_fewer (names_in k) marks in
    let c = a.names.count in
    let w = a.few in
    omega (arith, s, f, c, w)

-- ---- few definitions

pub funcs_few : (k : Kept) → AreKept k → length k.funcs.items < 2 ^ 32
funcs_few k a =
    let all = names_in k in
    let os = objects_of k in
    let known = each_of_all all os a.known in
    let rows = kept_rows [] (flat_map (funcs_in all) (homes 0 0 os)) in
    let s : length k.funcs.items ≡ length (kept_funcs os) = sym (length-map k.funcs.items func_row) ∙ ap length a.funcs ∙ sym (length-map rows func_of_row)
    ∙ ap length (kept_func_rows all os known).kept in
    let f = few_kept os (all_objects os (λ n d m. (a.known n d m).object)) in
    let w = a.few in
    omega (arith, s, f, w)

class_above : (n : ℕ) (c : ClassView) (cs : List ClassView) → ascends_from (λ (a b : ClassView). nat_lt a.name b.name) c cs ≡ true
    → list_all (class_fits n) (c ∷ cs) ≡ true → c.name + length (c ∷ cs) ≤ n
class_above n c [] h l = let s = ltb-true c.name n (class_named n c (and_left (class_fits n c) _ l)) in omega (arith, s)
class_above n c (d ∷ ds) h l =
    let less = ltb-true c.name d.name (and_left _ _ h) in
    let rest = class_above n d ds (and_right (nat_lt c.name d.name) _ h) (and_right (class_fits n c) _ l) in
    omega (arith, less, rest)

few_classes : (n : ℕ) (cs : List ClassView) → ascends (λ (a b : ClassView). nat_lt a.name b.name) cs ≡ true → list_all (class_fits n) cs ≡ true → length cs ≤ n
few_classes n [] h l = omega arith
few_classes n (c ∷ cs) h l = let a = class_above n c cs h l in omega (arith, a)

classes_fewer : (all : List (List ℕ)) (at start : ℕ) (os : List ObjectView) → AllKnown all os
    → length (flat_map (classes_in all) (homes at start os)) ≤ length (flat_map names_of os)
classes_fewer all at start [] k = omega arith
classes_fewer all at start (o ∷ os) (some i k) =
    let h : HomeView = record { at = at; start = start; object = o } in
    let here = few_classes (length o.names) o.classes i.object.classes_ascend i.object.classes in
    let rest = classes_fewer all (at + 1) (start + length o.names) os k in
    let a = length-map o.classes (row_of_class all h) in
    let b = length-append (classes_in all h) (flat_map (classes_in all) (homes (at + 1) (start + length o.names) os)) in
    let c = length-append o.names (flat_map names_of os) in
    let d : length (flat_map (classes_in all) (homes at start (o ∷ os)))
    ≡ length (classes_in all h ++ flat_map (classes_in all) (homes (at + 1) (start + length o.names) os)) = refl in
    let e : length (flat_map names_of (o ∷ os)) ≡ length (o.names ++ flat_map names_of os) = refl in
    omega (arith, here, rest, a, b, c, d, e)

kept_fewer : (kept rs : List ClassRow) → length (kept_class_rows kept rs) ≤ length kept + length rs
kept_fewer kept [] = omega arith
kept_fewer kept (r ∷ rs) = by (comes_again (map class_symbol_of kept) r.symbol) (λ ks. kept_fewer ks rs)
  where
    by : (b : Bool) → ((ks : List ClassRow) → length (kept_class_rows ks rs) ≤ length ks + length rs)
        → length (kept_class_rows (cond b kept (kept ++ r ∷ [])) rs) ≤ length kept + length (r ∷ rs)
    by true f = let l = f kept in omega (arith, l)
    by false f = let l = f (kept ++ r ∷ []) in let s = length-append kept (r ∷ []) in omega (arith, l, s)

pub classes_few : (k : Kept) → AreKept k → length k.classes.items < 2 ^ 32
classes_few k a =
    let all = names_in k in
    let os = objects_of k in
    let known = each_of_all all os a.known in
    let s : length k.classes.items ≡ length (kept_class_rows [] (flat_map (classes_in all) (homes 0 0 os))) = sym (length-map k.classes.items class_row)
    ∙ ap length a.classes in
    let f = kept_fewer [] (flat_map (classes_in all) (homes 0 0 os)) in
    let g = classes_fewer all 0 0 os known in
    let w = a.few in
    omega (arith, s, f, g, w)

-- ---- tables

places_are : (k : Kept) → AreKept k → length k.ranks.items ≡ length (flat_map names_of (objects_of k))
places_are k a = ap length a.ranks ∙ length-map (flat_map names_of (objects_of k)) (rank_of (names_in k))

pub ranks_fit : (k : Kept) → AreKept k → (n : ℕ) → n ≡ length k.names.items → All (λ (r : ℕ). r < n) k.ranks.items
ranks_fit k a n e =
    let s : n ≡ length (names_in k) = e ∙ sym (length-map k.names.items bytes_of) in
    rw (s, a.ranks) (ranks_within (names_in k) (objects_of k) (each_of_all (names_in k) (objects_of k) a.known))

pub func_defs_fit : (k : Kept) → AreKept k → (n : ℕ) (defs : List Numbered) → n ≡ length k.names.items
    → defs ≡ numbered 0 (map func_symbol_of (map func_row k.funcs.items)) → All (λ (d : Numbered). Fits n (length k.ranks.items) d.symbol) defs
func_defs_fit k a n defs e d =
    let all = names_in k in
    let os = objects_of k in
    let rows = kept_rows [] (flat_map (funcs_in all) (homes 0 0 os)) in
    let s : n ≡ length all = e ∙ sym (length-map k.names.items bytes_of) in
    let q : defs ≡ numbered 0 (map func_symbol_of rows) = d ∙ ap (λ rs. numbered 0 (map func_symbol_of rs)) a.funcs in
    rw (s, places_are k a, q) (all_each (λ (x : Numbered). Fits (length all) (length (flat_map names_of os)) x.symbol) (numbered 0 (map func_symbol_of rows))
    (numbered_fit func_symbol_of (Fits (length all) (length (flat_map names_of os))) 0 rows (kept_funcs_fit all os (each_of_all all os a.known))))

pub class_defs_fit : (k : Kept) → AreKept k → (n : ℕ) (defs : List Numbered) → n ≡ length k.names.items
    → defs ≡ numbered 0 (map class_symbol_of (map class_row k.classes.items)) → All (λ (d : Numbered). Fits n (length k.ranks.items) d.symbol) defs
class_defs_fit k a n defs e d =
    let all = names_in k in
    let os = objects_of k in
    let rows = kept_class_rows [] (flat_map (classes_in all) (homes 0 0 os)) in
    let s : n ≡ length all = e ∙ sym (length-map k.names.items bytes_of) in
    let q : defs ≡ numbered 0 (map class_symbol_of rows) = d ∙ ap (λ rs. numbered 0 (map class_symbol_of rs)) a.classes in
    rw (s, places_are k a, q) (all_each (λ (x : Numbered). Fits (length all) (length (flat_map names_of os)) x.symbol) (numbered 0 (map class_symbol_of rows))
    (numbered_fit class_symbol_of (Fits (length all) (length (flat_map names_of os))) 0 rows (kept_classes_fit all os (each_of_all all os a.known))))

pub global_defs_fit : (k : Kept) → AreKept k → (n : ℕ) (defs : List Numbered) → n ≡ length k.names.items → defs ≡ placed 0 (map global_row k.globals.items)
    → All (λ (d : Numbered). Fits n (length k.ranks.items) d.symbol) defs
global_defs_fit k a n defs e d =
    let all = names_in k in
    let os = objects_of k in
    let rows = flat_map (globals_in all) (homes 0 0 os) in
    let s : n ≡ length all = e ∙ sym (length-map k.names.items bytes_of) in
    let q : defs ≡ placed 0 rows = d ∙ ap (placed 0) a.globals in
    rw (s, places_are k a, q) (all_each (λ (x : Numbered). Fits (length all) (length (flat_map names_of os)) x.symbol) (placed 0 rows)
    (placed_fit (Fits (length all) (length (flat_map names_of os))) 0 rows (globals_fit all os (each_of_all all os a.known))))

pub funcs_told : (k : Kept) → AreKept k → (defs : List Numbered) (table : List (Option ℕ)) → defs ≡ numbered 0 (map func_symbol_of (map func_row k.funcs.items))
    → TellsDefs k.ranks.items defs table → TellsEach (objects_of k) (func_number (objects_of k)) table
funcs_told k a defs table d t at n o e l =
    let all = names_in k in
    let os = objects_of k in
    let w = kept_func_rows all os (each_of_all all os a.known) in
    let q : defs ≡ numbered 0 (map func_symbol_of (kept_rows [] (flat_map (funcs_in all) (homes 0 0 os)))) = d
    ∙ ap (λ rs. numbered 0 (map func_symbol_of rs)) a.funcs in
    func_there all os (map (rank_of all) (flat_map names_of os)) (kept_rows [] (flat_map (funcs_in all) (homes 0 0 os))) table
    (record { are = refl }) w.each w.kept (rw a.ranks at (rw q at t)) at n o (record { is = e }) (known_at all os at o a.known e) l

pub classes_told : (k : Kept) → AreKept k → (defs : List Numbered) (table : List (Option ℕ))
    → defs ≡ numbered 0 (map class_symbol_of (map class_row k.classes.items)) → TellsDefs k.ranks.items defs table
    → TellsEach (objects_of k) (λ at. class_number (objects_of k)) table
classes_told k a defs table d t at n o e l =
    let all = names_in k in
    let os = objects_of k in
    let w = kept_class_rows_are all os (each_of_all all os a.known) in
    let q : defs ≡ numbered 0 (map class_symbol_of (kept_class_rows [] (flat_map (classes_in all) (homes 0 0 os)))) = d
    ∙ ap (λ rs. numbered 0 (map class_symbol_of rs)) a.classes in
    class_there all os (map (rank_of all) (flat_map names_of os)) (kept_class_rows [] (flat_map (classes_in all) (homes 0 0 os))) table
    (record { are = refl }) w.each w.kept (rw a.ranks at (rw q at t)) at n o (record { is = e }) (known_at all os at o a.known e) l

pub globals_told : (k : Kept) → AreKept k → (defs : List Numbered) (table : List (Option ℕ)) → defs ≡ placed 0 (map global_row k.globals.items)
    → TellsDefs k.ranks.items defs table → TellsEach (objects_of k) (global_number (objects_of k)) table
globals_told k a defs table d t at n o e l =
    let all = names_in k in
    let os = objects_of k in
    let known = each_of_all all os a.known in
    let q : defs ≡ placed 0 (flat_map (globals_in all) (homes 0 0 os)) = d ∙ ap (placed 0) a.globals in
    global_there all os (map (rank_of all) (flat_map names_of os)) (flat_map (globals_in all) (homes 0 0 os)) table (record { are = refl })
    (found_global_rows all os (homes 0 0 os) (all_homes all os known)) (globals_are_defs all 0 0 os) (rw a.ranks at (rw q at t)) at n o (record { is = e })
    (known_at all os at o a.known e) l

-- ---- globals

pub size_is : (k : Kept) → AreKept k → end_of 0 (map global_of_row (map global_row k.globals.items)) ≡ end_of 0 (global_defs 0 (objects_of k))
size_is k a = ap (λ rs. end_of 0 (map global_of_row rs)) a.globals ∙ ap (end_of 0) (globals_are_defs (names_in k) 0 0 (objects_of k))

placed_of : (all : List (List ℕ)) (os : List ObjectView) (gs : List FoundGlobal) → Each (GlobalStands all os) (map global_row gs) → All IsPlacedGlobal gs
placed_of all os [] h = λ i d m. absurd (omega (arith, m))
placed_of all os (g ∷ gs) (also s h) = All-cons IsPlacedGlobal g gs (record { fits = rw (length-map g.home.object.now.names.items bytes_of) at s.fits })
    (placed_of all os gs h)

pub placed_fits : (k : Kept) → AreKept k → All IsPlacedGlobal k.globals.items
placed_fits k a = placed_of (names_in k) (objects_of k) k.globals.items
    (rw a.globals (globals_stand (names_in k) (objects_of k) (each_of_all (names_in k) (objects_of k) a.known)))

pub types_told : (k : Kept) → AreKept k → (types : List (List ℕ)) (hs : List Home) (table : List (Option ℕ)) → hs ≡ k.homes.items
    → table ≡ map (number_in types) (flat_map names_at (map home_view hs)) → TellsEach (objects_of k) (λ at. type_number types) table
types_told k a types hs table h e =
    let q : table ≡ map (number_in types) (flat_map names_of (objects_of k)) =
    e ∙ ap (λ ps. map (number_in types) (flat_map names_at (map home_view ps))) h ∙ ap (λ ps. map (number_in types) (flat_map names_at ps)) a.placed
    ∙ ap (map (number_in types)) (names_flat 0 0 (objects_of k)) in
    rw q (numbers_tell (objects_of k) types)
