-- The rows that are found are those of the objects.
use Rattle.std.proofs.Common.{Bool, true, false, ◌≡◌, ◌<◌, ℕ, suc, zero, ◌+◌, List, [], ◌∷◌, ◌++◌, map, filter, length, refl, ap, ◌∙◌, arith, Some, not, nat_eq}
use Rattle.std.proofs.Common.{nat_lt, cond, slice_get}
use Rattle.std.specs.List.{All, flat_map, list_all}
use borrow.Author.Tests.{ltb-true}
use Rattle.tx_code.specs.Objects.{ObjectView, FuncView, GlobalView, ClassView}
use Rattle.tx_code.specs.WellFormed.{is_defined, func_fits, global_fits, class_fits}
use Rattle.tx_code.specs.Linked.{name_in, kept_funcs, kept_classes, is_string, is_defined_global, kept_after, classes_after}
use Rattle.link_faults.specs.Ranks.{Known, rank_of}
use Rattle.link_faults.proofs.Ascending.{and_left, and_right}
use Rattle.link_faults.proofs.FirstClaims.{inside}
use Rattle.link_faults.proofs.ListedEntries.{AllKnown, none, some, func_symbol, global_symbol}
use Rattle.link_tables.specs.Homes.{HomeView, homes}
use Rattle.link_tables.specs.Found.{FuncRow, func_of_row, row_of_func, funcs_in, kept_rows, row_of_global, globals_in, ClassRow, class_of_row, row_of_class}
use Rattle.link_tables.specs.Found.{classes_in, kept_class_rows}
use Rattle.link_tables.proofs.NamePlaces.{Each, nil, also, IsPlaced, each_append, all_placed}
use Rattle.link_tables.proofs.ByPlace.{IsSymbol, IsFuncRow, IsGlobalRow, IsClassRow, funcs_are_defs, classes_are_defs, kept_agree, kept_classes_agree}

-- ---- homes

pub record IsKnownHome (all : List (List ℕ)) (os : List ObjectView) (h : HomeView) : Type 0 where
  pub placed : IsPlaced os h
  pub known : Known all h.object

known_homes : (all : List (List ℕ)) (os : List ObjectView) (at start : ℕ) (rest : List ObjectView) → AllKnown all rest
    → Each (IsPlaced os) (homes at start rest) → Each (IsKnownHome all os) (homes at start rest)
known_homes all os at start [] k p = nil
known_homes all os at start (o ∷ rest) (some h k) (also i p) =
    also (record { placed = i; known = h }) (known_homes all os (at + 1) (start + length o.names) rest k p)

pub all_homes : (all : List (List ℕ)) (os : List ObjectView) → AllKnown all os → Each (IsKnownHome all os) (homes 0 0 os)
all_homes all os k = known_homes all os 0 0 os k (all_placed os)

is_symbol : (all : List (List ℕ)) (os : List ObjectView) (h : HomeView) (name : ℕ) (internal : Bool) → IsKnownHome all os h → name < length h.object.names
    → IsSymbol all os h name (record { place = h.start + name; rank = rank_of all (name_in h.object name); internal = internal })
is_symbol all os h name internal k l = record { here = k.placed.here; start = k.placed.start; known = k.known; named = l; place = refl; rank = refl }

-- ---- functions

func_rows : (all : List (List ℕ)) (os : List ObjectView) (h : HomeView) → IsKnownHome all os h → (fs : List FuncView)
    → list_all (func_fits h.object.version (length h.object.names)) fs ≡ true
    → Each (IsFuncRow all os) (map (row_of_func all h) (filter is_defined fs))
func_rows all os h k [] e = nil
func_rows all os h k (f ∷ fs) e = by (is_defined f) (func_rows all os h k fs (and_right (func_fits h.object.version (length h.object.names) f) _ e))
  where
    fits : func_fits h.object.version (length h.object.names) f ≡ true
    fits = and_left (func_fits h.object.version (length h.object.names) f) _ e

    by : (b : Bool) → Each (IsFuncRow all os) (map (row_of_func all h) (filter is_defined fs))
        → Each (IsFuncRow all os) (map (row_of_func all h) (cond b (f ∷ filter is_defined fs) (filter is_defined fs)))
    by true rest = also (record {
      symbol = is_symbol all os h f.symbol (nat_eq f.linkage 1) k
          (ltb-true _ _ (func_symbol h.object.version (length h.object.names) f fits));
      internal = refl;
    }) rest
    by false rest = rest

pub found_func_rows : (all : List (List ℕ)) (os : List ObjectView) (hs : List HomeView) → Each (IsKnownHome all os) hs
    → Each (IsFuncRow all os) (flat_map (funcs_in all) hs)
found_func_rows all os [] k = nil
found_func_rows all os (h ∷ hs) (also i k) = each_append (IsFuncRow all os) (funcs_in all h) (flat_map (funcs_in all) hs)
    (func_rows all os h i h.object.funcs i.known.object.funcs) (found_func_rows all os hs k)

-- the kept rows are the kept definitions
pub record AreKept (all : List (List ℕ)) (os : List ObjectView) (rows : List FuncRow) : Type 0 where
  pub kept : map func_of_row rows ≡ kept_funcs os
  pub each : Each (IsFuncRow all os) rows

pub kept_func_rows : (all : List (List ℕ)) (os : List ObjectView) → AllKnown all os → AreKept all os (kept_rows [] (flat_map (funcs_in all) (homes 0 0 os)))
kept_func_rows all os k =
    let a = kept_agree all os [] (flat_map (funcs_in all) (homes 0 0 os)) nil (found_func_rows all os (homes 0 0 os) (all_homes all os k)) in
    record { kept = a.0 ∙ ap (kept_after []) (funcs_are_defs all 0 0 os); each = a.1 }

-- ---- globals

global_rows : (all : List (List ℕ)) (os : List ObjectView) (h : HomeView) → IsKnownHome all os h → (t : GlobalView → Bool) (gs : List GlobalView)
    → list_all (global_fits (length h.object.names)) gs ≡ true
    → Each (IsGlobalRow all os) (map (row_of_global all h) (filter t (filter is_defined_global gs)))
global_rows all os h k t [] e = nil
global_rows all os h k t (g ∷ gs) e = by (is_defined_global g) (global_rows all os h k t gs (and_right (global_fits (length h.object.names) g) _ e))
  where
    fits : global_fits (length h.object.names) g ≡ true
    fits = and_left (global_fits (length h.object.names) g) _ e

    one : (b : Bool) → Each (IsGlobalRow all os) (map (row_of_global all h) (filter t (filter is_defined_global gs)))
        → Each (IsGlobalRow all os) (map (row_of_global all h) (cond b (g ∷ filter t (filter is_defined_global gs)) (filter t (filter is_defined_global gs))))
    one true rest = also (record {
      symbol = is_symbol all os h g.symbol (nat_eq g.linkage 1) k (ltb-true _ _ (global_symbol (length h.object.names) g fits));
      internal = refl;
    }) rest
    one false rest = rest

    by : (b : Bool) → Each (IsGlobalRow all os) (map (row_of_global all h) (filter t (filter is_defined_global gs)))
        → Each (IsGlobalRow all os) (map (row_of_global all h) (filter t (cond b (g ∷ filter is_defined_global gs) (filter is_defined_global gs))))
    by true rest = one (t g) rest
    by false rest = rest

map_append : {A B : Type 0} (f : A → B) (xs ys : List A) → map f (xs ++ ys) ≡ map f xs ++ map f ys
map_append f [] ys = refl
map_append f (x ∷ xs) ys = ap (λ zs. f x ∷ zs) (map_append f xs ys)

placed_rows : (all : List (List ℕ)) (os : List ObjectView) (h : HomeView) → IsKnownHome all os h → Each (IsGlobalRow all os) (globals_in all h)
placed_rows all os h k =
    let o = h.object in
    rw (map_append (row_of_global all h) (filter (λ g. not (is_string o g)) (filter is_defined_global o.globals))
    (filter (is_string o) (filter is_defined_global o.globals)))
    (each_append (IsGlobalRow all os) _ _ (global_rows all os h k (λ g. not (is_string o g)) o.globals k.known.object.globals)
    (global_rows all os h k (is_string o) o.globals k.known.object.globals))

pub found_global_rows : (all : List (List ℕ)) (os : List ObjectView) (hs : List HomeView) → Each (IsKnownHome all os) hs
    → Each (IsGlobalRow all os) (flat_map (globals_in all) hs)
found_global_rows all os [] k = nil
found_global_rows all os (h ∷ hs) (also i k) = each_append (IsGlobalRow all os) (globals_in all h) (flat_map (globals_in all) hs) (placed_rows all os h i)
    (found_global_rows all os hs k)

-- ---- classes

pub class_named : (n : ℕ) (c : ClassView) → class_fits n c ≡ true → nat_lt c.name n ≡ true
class_named n c h = and_left _ _ (and_left _ _ (and_left _ _ (and_left _ _ (and_left _ _ (and_left _ _ h)))))

class_rows : (all : List (List ℕ)) (os : List ObjectView) (h : HomeView) → IsKnownHome all os h → (cs : List ClassView)
    → list_all (class_fits (length h.object.names)) cs ≡ true → Each (IsClassRow all os) (map (row_of_class all h) cs)
class_rows all os h k [] e = nil
class_rows all os h k (c ∷ cs) e =
    also (record {
      symbol = is_symbol all os h c.name false k
          (ltb-true _ _ (class_named (length h.object.names) c (and_left (class_fits (length h.object.names) c) _ e)));
      internal = refl;
    })
    (class_rows all os h k cs (and_right (class_fits (length h.object.names) c) _ e))

pub found_class_rows : (all : List (List ℕ)) (os : List ObjectView) (hs : List HomeView) → Each (IsKnownHome all os) hs
    → Each (IsClassRow all os) (flat_map (classes_in all) hs)
found_class_rows all os [] k = nil
found_class_rows all os (h ∷ hs) (also i k) = each_append (IsClassRow all os) (classes_in all h) (flat_map (classes_in all) hs)
    (class_rows all os h i h.object.classes i.known.object.classes) (found_class_rows all os hs k)

pub record AreKeptClasses (all : List (List ℕ)) (os : List ObjectView) (rows : List ClassRow) : Type 0 where
  pub kept : map class_of_row rows ≡ kept_classes os
  pub each : Each (IsClassRow all os) rows

pub kept_class_rows_are : (all : List (List ℕ)) (os : List ObjectView) → AllKnown all os
    → AreKeptClasses all os (kept_class_rows [] (flat_map (classes_in all) (homes 0 0 os)))
kept_class_rows_are all os k =
    let a = kept_classes_agree all os [] (flat_map (classes_in all) (homes 0 0 os)) nil (found_class_rows all os (homes 0 0 os) (all_homes all os k)) in
    record { kept = a.0 ∙ ap (classes_after []) (classes_are_defs all 0 0 os); each = a.1 }

-- ---- objects that are all known

pub each_of_all : (all : List (List ℕ)) (os : List ObjectView) → All (Known all) os → AllKnown all os
each_of_all all [] h = none
each_of_all all (o ∷ os) h = some (h 0 o (omega arith)) (each_of_all all os (λ k d l. h (suc k) d (omega arith)))

pub known_at : (all : List (List ℕ)) (os : List ObjectView) (at : ℕ) (o : ObjectView) → All (Known all) os → slice_get os at ≡ Some o → Known all o
known_at all [] at o h e = cc
known_at all (p ∷ os) zero o h e = let s : p ≡ o = inside p o e in rw (← s) (h 0 p (omega arith))
known_at all (p ∷ os) (suc at) o h e = known_at all os at o (λ k d l. h (suc k) d (omega arith)) e
