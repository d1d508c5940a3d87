-- What tables by places and ranks say is what the definitions say by names.
use Rattle.std.proofs.Common.{Bool, true, false, ◌≡◌, ◌<◌, ℕ, ◌+◌, List, [], ◌∷◌, ◌++◌, map, filter, length, refl, sym, ap, ◌∙◌, Some, None, ◌&&◌, ◌||◌, not}
use Rattle.std.proofs.Common.{nat_eq, cond}
use Rattle.std.specs.List.{flat_map, list_any, position_from}
use Rattle.std.specs.Str.{bytes_eq}
use Rattle.std.proofs.lemmas.Bool.{lt-ltb}
use Rattle.tx_code.specs.Objects.{ObjectView}
use Rattle.tx_code.specs.WellFormed.{is_defined}
use Rattle.tx_code.specs.Linked.{FuncDef, GlobalDef, ClassDef, func_def, global_def, class_def, func_defs, global_defs, class_defs, is_own, defines, repeats}
use Rattle.tx_code.specs.Linked.{kept_with, kept_after, is_own_global, defines_global, offset_of, rounded, has_class_name, class_name, classes_with}
use Rattle.tx_code.specs.Linked.{classes_after, placed_globals, name_in}
use Rattle.link_faults.specs.Ranks.{Known, is_listed, rank_of}
use Rattle.link_faults.proofs.ByRank.{equal_ranks}
use Rattle.link_faults.proofs.ListedEntries.{name_listed}
use Rattle.link_tables.specs.declared.symbols.Symbol.{Symbol}
use Rattle.link_tables.specs.Symbols.{has_place, has_rank, comes_again, number_of}
use Rattle.link_tables.specs.Homes.{HomeView, homes, start_of}
use Rattle.link_tables.specs.Found.{FuncRow, func_of_row, row_of_func, funcs_in, func_symbol_of, kept_rows, GlobalRow, global_of_row, row_of_global, globals_in}
use Rattle.link_tables.specs.Found.{ClassRow, class_of_row, row_of_class, classes_in, class_symbol_of, kept_class_rows, numbered, placed}
use Rattle.link_tables.proofs.NamePlaces.{StandsAt, Each, nil, also, same_places, each_append}

map_append : {A B : Type 0} (f : A → B) (xs ys : List A) → map f (xs ++ ys) ≡ map f xs ++ map f ys
map_append f [] ys = refl
map_append f (x ∷ xs) ys = ap (λ zs. f x ∷ zs) (map_append f xs ys)

map_twice : {A B C : Type 0} (g : B → C) (f : A → B) (h : A → C) (xs : List A) → ((x : A) → g (f x) ≡ h x) → map g (map f xs) ≡ map h xs
map_twice g f h [] e = refl
map_twice g f h (x ∷ xs) e = ap (λ y. y ∷ map g (map f xs)) (e x) ∙ ap (λ ys. h x ∷ ys) (map_twice g f h xs e)

-- ---- rows are definitions

pub funcs_are_defs : (all : List (List ℕ)) (at start : ℕ) (os : List ObjectView)
    → map func_of_row (flat_map (funcs_in all) (homes at start os)) ≡ func_defs at os
funcs_are_defs all at start [] = refl
funcs_are_defs all at start (o ∷ os) =
    let h : HomeView = record { at = at; start = start; object = o } in
    map_append func_of_row (funcs_in all h) (flat_map (funcs_in all) (homes (at + 1) (start + length o.names) os))
    ∙ ap (λ ds. ds ++ map func_of_row (flat_map (funcs_in all) (homes (at + 1) (start + length o.names) os)))
    (map_twice func_of_row (row_of_func all h) (func_def at o) (filter is_defined o.funcs) (λ f. refl))
    ∙ ap (λ ds. map (func_def at o) (filter is_defined o.funcs) ++ ds) (funcs_are_defs all (at + 1) (start + length o.names) os)

pub globals_are_defs : (all : List (List ℕ)) (at start : ℕ) (os : List ObjectView)
    → map global_of_row (flat_map (globals_in all) (homes at start os)) ≡ global_defs at os
globals_are_defs all at start [] = refl
globals_are_defs all at start (o ∷ os) =
    let h : HomeView = record { at = at; start = start; object = o } in
    map_append global_of_row (globals_in all h) (flat_map (globals_in all) (homes (at + 1) (start + length o.names) os))
    ∙ ap (λ ds. ds ++ map global_of_row (flat_map (globals_in all) (homes (at + 1) (start + length o.names) os)))
    (map_twice global_of_row (row_of_global all h) (global_def at o) (placed_globals o) (λ g. refl))
    ∙ ap (λ ds. map (global_def at o) (placed_globals o) ++ ds) (globals_are_defs all (at + 1) (start + length o.names) os)

pub classes_are_defs : (all : List (List ℕ)) (at start : ℕ) (os : List ObjectView)
    → map class_of_row (flat_map (classes_in all) (homes at start os)) ≡ class_defs at os
classes_are_defs all at start [] = refl
classes_are_defs all at start (o ∷ os) =
    let h : HomeView = record { at = at; start = start; object = o } in
    map_append class_of_row (classes_in all h) (flat_map (classes_in all) (homes (at + 1) (start + length o.names) os))
    ∙ ap (λ ds. ds ++ map class_of_row (flat_map (classes_in all) (homes (at + 1) (start + length o.names) os)))
    (map_twice class_of_row (row_of_class all h) (class_def at o) o.classes (λ c. refl))
    ∙ ap (λ ds. map (class_def at o) o.classes ++ ds) (classes_are_defs all (at + 1) (start + length o.names) os)

-- ---- what holds of a row

-- a symbol of this name of an object of the list
pub record IsSymbol (all : List (List ℕ)) (os : List ObjectView) (h : HomeView) (name : ℕ) (s : Symbol) : Type 0 where
  pub here : StandsAt os h.at h.object
  pub start : h.start ≡ start_of os h.at
  pub known : Known all h.object
  pub named : name < length h.object.names
  pub place : s.place ≡ h.start + name
  pub rank : s.rank ≡ rank_of all (name_in h.object name)

pub listed_here : (all : List (List ℕ)) (o : ObjectView) (n : ℕ) → Known all o → n < length o.names → is_listed all (name_in o n) ≡ true
listed_here all o n k l = name_listed all o n k.listed (lt-ltb n (length o.names) l)

place_test : (all : List (List ℕ)) (os : List ObjectView) (h : HomeView) (name : ℕ) (s : Symbol) → IsSymbol all os h name s
    → (at n : ℕ) (o : ObjectView) → StandsAt os at o → n < length o.names → nat_eq s.place (start_of os at + n) ≡ (nat_eq h.at at && nat_eq name n)
place_test all os h name s i at n o e l =
    let p : s.place ≡ start_of os h.at + name = i.place ∙ ap (λ k. k + name) i.start in
    rw p (same_places os h.at at name n h.object o i.here e i.named l)

rank_test : (all : List (List ℕ)) (os : List ObjectView) (h : HomeView) (name : ℕ) (s : Symbol) → IsSymbol all os h name s
    → (other : List ℕ) → is_listed all other ≡ true → nat_eq s.rank (rank_of all other) ≡ bytes_eq (name_in h.object name) other
rank_test all os h name s i other l = rw i.rank (equal_ranks all i.known.ascend (name_in h.object name) other (listed_here all h.object name i.known i.named) l)

and_swap : (a b c : Bool) → (b && (a && c)) ≡ ((a && b) && c)
and_swap true b c = refl
and_swap false true c = refl
and_swap false false c = refl

-- ---- functions

pub record IsFuncRow (all : List (List ℕ)) (os : List ObjectView) (r : FuncRow) : Type 0 where
  pub symbol : IsSymbol all os r.home r.func.symbol r.symbol
  pub internal : r.symbol.internal ≡ nat_eq r.func.linkage 1

func_own : (all : List (List ℕ)) (os : List ObjectView) (r : FuncRow) → IsFuncRow all os r → (at n : ℕ) (o : ObjectView) → StandsAt os at o → n < length o.names
    → has_place (start_of os at + n) r.symbol ≡ is_own at n (func_of_row r)
func_own all os r i at n o e l = rw (i.internal, place_test all os r.home r.func.symbol r.symbol i.symbol at n o e l)
    (and_swap (nat_eq r.home.at at) (nat_eq r.func.linkage 1) (nat_eq r.func.symbol n))

func_seen : (all : List (List ℕ)) (os : List ObjectView) (r : FuncRow) → IsFuncRow all os r → (other : List ℕ) → is_listed all other ≡ true
    → has_rank (rank_of all other) r.symbol ≡ defines other (func_of_row r)
func_seen all os r i other l = rw (i.internal, rank_test all os r.home r.func.symbol r.symbol i.symbol other l) refl

-- numbers by tests that agree
pub numbers_agree : (t : Symbol → Bool) (u : FuncDef → Bool) (n : ℕ) (rs : List FuncRow) → Each (λ (r : FuncRow). t r.symbol ≡ u (func_of_row r)) rs
    → number_of t (numbered n (map func_symbol_of rs)) ≡ position_from u n (map func_of_row rs)
numbers_agree t u n [] h = refl
numbers_agree t u n (r ∷ rs) (also e h) = ap (λ b. cond b (Some n) (number_of t (numbered (n + 1) (map func_symbol_of rs)))) e
    ∙ ap (λ o. cond (u (func_of_row r)) (Some n) o) (numbers_agree t u (n + 1) rs h)

each_func : (all : List (List ℕ)) (os : List ObjectView) (t : Symbol → Bool) (u : FuncDef → Bool)
    → ((r : FuncRow) → IsFuncRow all os r → t r.symbol ≡ u (func_of_row r)) → (rs : List FuncRow) → Each (IsFuncRow all os) rs
    → Each (λ (r : FuncRow). t r.symbol ≡ u (func_of_row r)) rs
each_func all os t u f [] h = nil
each_func all os t u f (r ∷ rs) (also i h) = also (f r i) (each_func all os t u f rs h)

pub own_func : (all : List (List ℕ)) (os : List ObjectView) (rs : List FuncRow) → Each (IsFuncRow all os) rs → (at n : ℕ) (o : ObjectView) → StandsAt os at o
    → n < length o.names
    → number_of (has_place (start_of os at + n)) (numbered 0 (map func_symbol_of rs)) ≡ position_from (is_own at n) 0 (map func_of_row rs)
own_func all os rs h at n o e l = numbers_agree (has_place (start_of os at + n)) (is_own at n) 0 rs
    (each_func all os (has_place (start_of os at + n)) (is_own at n) (λ r i. func_own all os r i at n o e l) rs h)

pub seen_func : (all : List (List ℕ)) (os : List ObjectView) (rs : List FuncRow) → Each (IsFuncRow all os) rs → (other : List ℕ) → is_listed all other ≡ true
    → number_of (has_rank (rank_of all other)) (numbered 0 (map func_symbol_of rs)) ≡ position_from (defines other) 0 (map func_of_row rs)
seen_func all os rs h other l = numbers_agree (has_rank (rank_of all other)) (defines other) 0 rs
    (each_func all os (has_rank (rank_of all other)) (defines other) (λ r i. func_seen all os r i other l) rs h)

any_agree : (t : Symbol → Bool) (u : FuncDef → Bool) (rs : List FuncRow) → Each (λ (r : FuncRow). t r.symbol ≡ u (func_of_row r)) rs
    → list_any t (map func_symbol_of rs) ≡ list_any u (map func_of_row rs)
any_agree t u [] h = refl
any_agree t u (r ∷ rs) (also e h) = ap (λ b. b || list_any t (map func_symbol_of rs)) e ∙ ap (λ b. u (func_of_row r) || b) (any_agree t u rs h)

func_repeats : (all : List (List ℕ)) (os : List ObjectView) (kept : List FuncRow) (r : FuncRow) → Each (IsFuncRow all os) kept → IsFuncRow all os r
    → comes_again (map func_symbol_of kept) r.symbol ≡ repeats (map func_of_row kept) (func_of_row r)
func_repeats all os kept r h i =
    let name = name_in r.home.object r.func.symbol in
    let l = listed_here all r.home.object r.func.symbol i.symbol.known i.symbol.named in
    rw (i.internal, i.symbol.rank) (ap (λ b. not (nat_eq r.func.linkage 1) && b)
    (any_agree (has_rank (rank_of all name)) (defines name) kept
    (each_func all os (has_rank (rank_of all name)) (defines name) (λ q j. func_seen all os q j name l) kept h)))

pub kept_agree : (all : List (List ℕ)) (os : List ObjectView) (kept rs : List FuncRow) → Each (IsFuncRow all os) kept → Each (IsFuncRow all os) rs
    → (map func_of_row (kept_rows kept rs) ≡ kept_after (map func_of_row kept) (map func_of_row rs)) × Each (IsFuncRow all os) (kept_rows kept rs)
kept_agree all os kept [] h g = (refl, h)
kept_agree all os kept (r ∷ rs) h (also i g) = by (comes_again (map func_symbol_of kept) r.symbol) refl (λ ks k. kept_agree all os ks rs k g)
  where
    by : (b : Bool) → comes_again (map func_symbol_of kept) r.symbol ≡ b
        → ((ks : List FuncRow) → Each (IsFuncRow all os) ks → (map func_of_row (kept_rows ks rs) ≡ kept_after (map func_of_row ks) (map func_of_row rs))
        × Each (IsFuncRow all os) (kept_rows ks rs))
        → (map func_of_row (kept_rows (cond b kept (kept ++ r ∷ [])) rs) ≡ kept_after (kept_with (map func_of_row kept) (func_of_row r)) (map func_of_row rs))
        × Each (IsFuncRow all os) (kept_rows (cond b kept (kept ++ r ∷ [])) rs)
    by true e f =
        let s : repeats (map func_of_row kept) (func_of_row r) ≡ true = sym (func_repeats all os kept r h i) ∙ e in
        let k = f kept h in
        (k.0 ∙ ap (λ b. kept_after (cond b (map func_of_row kept) (map func_of_row kept ++ func_of_row r ∷ [])) (map func_of_row rs)) (sym s), k.1)
    by false e f =
        let s : repeats (map func_of_row kept) (func_of_row r) ≡ false = sym (func_repeats all os kept r h i) ∙ e in
        let k = f (kept ++ r ∷ []) (each_append (IsFuncRow all os) kept (r ∷ []) h (also i nil)) in (
          k.0 ∙ ap (λ ds. kept_after ds (map func_of_row rs)) (map_append func_of_row kept (r ∷ []))
              ∙ ap (λ b. kept_after (cond b (map func_of_row kept) (map func_of_row kept ++ func_of_row r ∷ [])) (map func_of_row rs)) (sym s),
          k.1,
        )

-- ---- globals

pub record IsGlobalRow (all : List (List ℕ)) (os : List ObjectView) (r : GlobalRow) : Type 0 where
  pub symbol : IsSymbol all os r.home r.global.symbol r.symbol
  pub internal : r.symbol.internal ≡ nat_eq r.global.linkage 1

global_own : (all : List (List ℕ)) (os : List ObjectView) (r : GlobalRow) → IsGlobalRow all os r → (at n : ℕ) (o : ObjectView) → StandsAt os at o
    → n < length o.names
    → has_place (start_of os at + n) r.symbol ≡ is_own_global at n (global_of_row r)
global_own all os r i at n o e l = rw (i.internal, place_test all os r.home r.global.symbol r.symbol i.symbol at n o e l)
    (and_swap (nat_eq r.home.at at) (nat_eq r.global.linkage 1) (nat_eq r.global.symbol n))

global_seen : (all : List (List ℕ)) (os : List ObjectView) (r : GlobalRow) → IsGlobalRow all os r → (other : List ℕ) → is_listed all other ≡ true
    → has_rank (rank_of all other) r.symbol ≡ defines_global other (global_of_row r)
global_seen all os r i other l = rw (i.internal, rank_test all os r.home r.global.symbol r.symbol i.symbol other l) refl

offsets_agree : (t : Symbol → Bool) (u : GlobalDef → Bool) (start : ℕ) (rs : List GlobalRow) → Each (λ (r : GlobalRow). t r.symbol ≡ u (global_of_row r)) rs
    → number_of t (placed start rs) ≡ offset_of u start (map global_of_row rs)
offsets_agree t u start [] h = refl
offsets_agree t u start (r ∷ rs) (also e h) = ap (λ b. cond b (Some start) (number_of t (placed (start + rounded r.global.size) rs))) e
    ∙ ap (λ o. cond (u (global_of_row r)) (Some start) o) (offsets_agree t u (start + rounded r.global.size) rs h)

each_global : (all : List (List ℕ)) (os : List ObjectView) (t : Symbol → Bool) (u : GlobalDef → Bool)
    → ((r : GlobalRow) → IsGlobalRow all os r → t r.symbol ≡ u (global_of_row r)) → (rs : List GlobalRow) → Each (IsGlobalRow all os) rs
    → Each (λ (r : GlobalRow). t r.symbol ≡ u (global_of_row r)) rs
each_global all os t u f [] h = nil
each_global all os t u f (r ∷ rs) (also i h) = also (f r i) (each_global all os t u f rs h)

pub own_global : (all : List (List ℕ)) (os : List ObjectView) (rs : List GlobalRow) → Each (IsGlobalRow all os) rs → (at n : ℕ) (o : ObjectView)
    → StandsAt os at o → n < length o.names
    → number_of (has_place (start_of os at + n)) (placed 0 rs) ≡ offset_of (is_own_global at n) 0 (map global_of_row rs)
own_global all os rs h at n o e l = offsets_agree (has_place (start_of os at + n)) (is_own_global at n) 0 rs
    (each_global all os (has_place (start_of os at + n)) (is_own_global at n) (λ r i. global_own all os r i at n o e l) rs h)

pub seen_global : (all : List (List ℕ)) (os : List ObjectView) (rs : List GlobalRow) → Each (IsGlobalRow all os) rs → (other : List ℕ)
    → is_listed all other ≡ true
    → number_of (has_rank (rank_of all other)) (placed 0 rs) ≡ offset_of (defines_global other) 0 (map global_of_row rs)
seen_global all os rs h other l = offsets_agree (has_rank (rank_of all other)) (defines_global other) 0 rs
    (each_global all os (has_rank (rank_of all other)) (defines_global other) (λ r i. global_seen all os r i other l) rs h)

-- ---- classes

pub record IsClassRow (all : List (List ℕ)) (os : List ObjectView) (r : ClassRow) : Type 0 where
  pub symbol : IsSymbol all os r.home r.class.name r.symbol
  pub internal : r.symbol.internal ≡ false

class_own : (all : List (List ℕ)) (os : List ObjectView) (place : ℕ) (n : ℕ) (rs : List ClassRow) → Each (IsClassRow all os) rs
    → number_of (has_place place) (numbered n (map class_symbol_of rs)) ≡ None
class_own all os place n [] h = refl
class_own all os place n (r ∷ rs) (also i h) = ap (λ b. cond (b && nat_eq r.symbol.place place) (Some n)
    (number_of (has_place place) (numbered (n + 1) (map class_symbol_of rs)))) i.internal ∙ class_own all os place (n + 1) rs h

pub own_class : (all : List (List ℕ)) (os : List ObjectView) (place : ℕ) (rs : List ClassRow) → Each (IsClassRow all os) rs
    → number_of (has_place place) (numbered 0 (map class_symbol_of rs)) ≡ None
own_class all os place rs h = class_own all os place 0 rs h

class_seen : (all : List (List ℕ)) (os : List ObjectView) (r : ClassRow) → IsClassRow all os r → (other : List ℕ) → is_listed all other ≡ true
    → has_rank (rank_of all other) r.symbol ≡ has_class_name other (class_of_row r)
class_seen all os r i other l = rw (i.internal, rank_test all os r.home r.class.name r.symbol i.symbol other l) refl

classes_number : (t : Symbol → Bool) (u : ClassDef → Bool) (n : ℕ) (rs : List ClassRow) → Each (λ (r : ClassRow). t r.symbol ≡ u (class_of_row r)) rs
    → number_of t (numbered n (map class_symbol_of rs)) ≡ position_from u n (map class_of_row rs)
classes_number t u n [] h = refl
classes_number t u n (r ∷ rs) (also e h) = ap (λ b. cond b (Some n) (number_of t (numbered (n + 1) (map class_symbol_of rs)))) e
    ∙ ap (λ o. cond (u (class_of_row r)) (Some n) o) (classes_number t u (n + 1) rs h)

each_class : (all : List (List ℕ)) (os : List ObjectView) (t : Symbol → Bool) (u : ClassDef → Bool)
    → ((r : ClassRow) → IsClassRow all os r → t r.symbol ≡ u (class_of_row r)) → (rs : List ClassRow) → Each (IsClassRow all os) rs
    → Each (λ (r : ClassRow). t r.symbol ≡ u (class_of_row r)) rs
each_class all os t u f [] h = nil
each_class all os t u f (r ∷ rs) (also i h) = also (f r i) (each_class all os t u f rs h)

pub seen_class : (all : List (List ℕ)) (os : List ObjectView) (rs : List ClassRow) → Each (IsClassRow all os) rs → (other : List ℕ) → is_listed all other ≡ true
    → number_of (has_rank (rank_of all other)) (numbered 0 (map class_symbol_of rs)) ≡ position_from (has_class_name other) 0 (map class_of_row rs)
seen_class all os rs h other l = classes_number (has_rank (rank_of all other)) (has_class_name other) 0 rs
    (each_class all os (has_rank (rank_of all other)) (has_class_name other) (λ r i. class_seen all os r i other l) rs h)

any_class : (t : Symbol → Bool) (u : ClassDef → Bool) (rs : List ClassRow) → Each (λ (r : ClassRow). t r.symbol ≡ u (class_of_row r)) rs
    → list_any t (map class_symbol_of rs) ≡ list_any u (map class_of_row rs)
any_class t u [] h = refl
any_class t u (r ∷ rs) (also e h) = ap (λ b. b || list_any t (map class_symbol_of rs)) e ∙ ap (λ b. u (class_of_row r) || b) (any_class t u rs h)

class_again : (all : List (List ℕ)) (os : List ObjectView) (kept : List ClassRow) (r : ClassRow) → Each (IsClassRow all os) kept → IsClassRow all os r
    → comes_again (map class_symbol_of kept) r.symbol ≡ list_any (has_class_name (class_name (class_of_row r))) (map class_of_row kept)
class_again all os kept r h i =
    let name = name_in r.home.object r.class.name in
    let l = listed_here all r.home.object r.class.name i.symbol.known i.symbol.named in
    rw (i.internal, i.symbol.rank) (any_class (has_rank (rank_of all name)) (has_class_name name) kept
    (each_class all os (has_rank (rank_of all name)) (has_class_name name) (λ q j. class_seen all os q j name l) kept h))

pub kept_classes_agree : (all : List (List ℕ)) (os : List ObjectView) (kept rs : List ClassRow) → Each (IsClassRow all os) kept → Each (IsClassRow all os) rs
    → (map class_of_row (kept_class_rows kept rs) ≡ classes_after (map class_of_row kept) (map class_of_row rs))
    × Each (IsClassRow all os) (kept_class_rows kept rs)
kept_classes_agree all os kept [] h g = (refl, h)
kept_classes_agree all os kept (r ∷ rs) h (also i g) = by (comes_again (map class_symbol_of kept) r.symbol) refl (λ ks k. kept_classes_agree all os ks rs k g)
  where
    by : (b : Bool) → comes_again (map class_symbol_of kept) r.symbol ≡ b
        → ((ks : List ClassRow) → Each (IsClassRow all os) ks
        → (map class_of_row (kept_class_rows ks rs) ≡ classes_after (map class_of_row ks) (map class_of_row rs))
        × Each (IsClassRow all os) (kept_class_rows ks rs))
        → (map class_of_row (kept_class_rows (cond b kept (kept ++ r ∷ [])) rs)
        ≡ classes_after (classes_with (map class_of_row kept) (class_of_row r)) (map class_of_row rs))
        × Each (IsClassRow all os) (kept_class_rows (cond b kept (kept ++ r ∷ [])) rs)
    by true e f =
        let s : list_any (has_class_name (class_name (class_of_row r))) (map class_of_row kept) ≡ true = sym (class_again all os kept r h i) ∙ e in
        let k = f kept h in
        (k.0 ∙ ap (λ b. classes_after (cond b (map class_of_row kept) (map class_of_row kept ++ class_of_row r ∷ [])) (map class_of_row rs)) (sym s), k.1)
    by false e f =
        let s : list_any (has_class_name (class_name (class_of_row r))) (map class_of_row kept) ≡ false = sym (class_again all os kept r h i) ∙ e in
        let k = f (kept ++ r ∷ []) (each_append (IsClassRow all os) kept (r ∷ []) h (also i nil)) in (
          k.0 ∙ ap (λ ds. classes_after ds (map class_of_row rs)) (map_append class_of_row kept (r ∷ []))
              ∙ ap (λ b. classes_after (cond b (map class_of_row kept) (map class_of_row kept ++ class_of_row r ∷ [])) (map class_of_row rs)) (sym s),
          k.1,
        )
