-- What the rows of definitions keep: their ranks and places are within their tables.
use Rattle.std.proofs.Common.{Bool, true, false, ◌≡◌, ◌<◌, ◌≤◌, ℕ, suc, ◌+◌, List, [], ◌∷◌, ◌++◌, map, length, refl, sym, ap, ◌∙◌, arith, Result, Ok, Err}
use Rattle.std.proofs.Common.{nat_lt, length-append}
use Rattle.std.specs.Prelude.{IfOk}
use Rattle.std.specs.List.{All, flat_map, list_all}
use borrow.Author.Tests.{ltb-true}
use Rattle.std.proofs.lemmas.List.{length-map}
use Rattle.std.proofs.lemmas.List.Elements.{All-cons}
use Rattle.tx_code.specs.declared.object.Object.{Object}
use Rattle.tx_code.specs.Objects.{ObjectView, object_view, bytes_of}
use Rattle.tx_code.specs.WellFormed.{IsObject}
use Rattle.tx_code.specs.Linked.{name_in, rounded}
use Rattle.link_faults.specs.Ranks.{AreNames, Known, is_listed, names_of, rank_of}
use Rattle.link_faults.proofs.Ascending.{and_left, and_right}
use Rattle.link_faults.proofs.ListedEntries.{AllKnown, some, all_known, each_known, rank_within}
use Rattle.link_tables.specs.declared.homes.Home.{Home}
use Rattle.link_tables.specs.declared.found.FoundFunc.{FoundFunc}
use Rattle.link_tables.specs.declared.found.FoundClass.{FoundClass}
use Rattle.link_tables.specs.declared.symbols.Symbol.{Symbol}
use Rattle.link_tables.specs.declared.symbols.Numbered.{Numbered}
use Rattle.link_tables.specs.Homes.{HomeView, IsHome, home_view, homes}
use Rattle.link_tables.specs.Found.{FuncRow, func_row, funcs_in, kept_rows, GlobalRow, globals_in, ClassRow, class_row, classes_in, kept_class_rows, numbered}
use Rattle.link_tables.specs.Found.{placed}
use Rattle.link_tables.proofs.NamePlaces.{Each, nil, also, place_within}
use Rattle.link_tables.proofs.ByPlace.{IsSymbol, IsFuncRow, IsGlobalRow, IsClassRow, listed_here}
use Rattle.link_tables.proofs.FoundRows.{all_homes, found_func_rows, found_global_rows, found_class_rows, kept_func_rows, kept_class_rows_are}

-- ---- homes

pub homes_are : (all : List (List ℕ)) (at start : ℕ) (os : List ObjectView) (hs : List Home) → AllKnown all os
    → start + length (flat_map names_of os) < 4294967295 → map home_view hs ≡ homes at start os → All (IsHome all) hs
homes_are all at start os [] k l e = λ n d m. absurd (omega (arith, m))
homes_are all at start [] (h ∷ hs) k l e = cc
homes_are all at start (o ∷ os) (h ∷ hs) (some i k) l e =
    let v : HomeView = record { at = at; start = start; object = o } in
    let head : home_view h ≡ v = head_of (home_view h) v (map home_view hs) (homes (at + 1) (start + length o.names) os) e in
    let tail : map home_view hs ≡ homes (at + 1) (start + length o.names) os =
    tail_of (home_view h) v (map home_view hs) (homes (at + 1) (start + length o.names) os) e in
    let object : object_view h.object.now ≡ o = ap (λ (w : HomeView). w.object) head in
    let first : h.start ≡ start = ap (λ (w : HomeView). w.start) head in
    let long : length h.object.now.names.items ≡ length o.names = sym (length-map h.object.now.names.items bytes_of)
    ∙ ap (λ (w : ObjectView). length w.names) object in
    let total : length (flat_map names_of (o ∷ os)) ≡ length (o.names ++ flat_map names_of os) = refl in
    let sum = length-append o.names (flat_map names_of os) in
    All-cons (IsHome all) h hs (record { known = rw object i; few = omega (arith, first, long, total, sum, l) })
    (homes_are all (at + 1) (start + length o.names) os hs k (omega (arith, total, sum, l)) tail)
  where
    head_of : {A : Type 0} (x y : A) (xs ys : List A) → x ∷ xs ≡ y ∷ ys → x ≡ y
    head_of x y xs ys e = cc

    tail_of : {A : Type 0} (x y : A) (xs ys : List A) → x ∷ xs ≡ y ∷ ys → xs ≡ ys
    tail_of x y xs ys e = cc

-- ---- facts of rows are facts of what is found

pub all_of : {A B : Type 0} (f : A → B) (P : B → Type 0) (xs : List A) → Each P (map f xs) → All (λ x. P (f x)) xs
all_of f P [] h = λ n d m. absurd (omega (arith, m))
all_of f P (x ∷ xs) (also p h) = All-cons (λ x. P (f x)) x xs p (all_of f P xs h)

pub all_each : {A : Type 0} (P : A → Type 0) (xs : List A) → Each P xs → All P xs
all_each P [] h = λ n d m. absurd (omega (arith, m))
all_each P (x ∷ xs) (also p h) = All-cons P x xs p (all_each P xs h)

each_from : {A : Type 0} (P Q : A → Type 0) → ((x : A) → P x → Q x) → (xs : List A) → Each P xs → Each Q xs
each_from P Q f [] h = nil
each_from P Q f (x ∷ xs) (also p h) = also (f x p) (each_from P Q f xs h)

-- a symbol's rank and place
pub record Fits (names places : ℕ) (s : Symbol) : Type 0 where
  pub rank : s.rank < names
  pub place : s.place < places

symbol_fits : (all : List (List ℕ)) (os : List ObjectView) (h : HomeView) (name : ℕ) (s : Symbol) → IsSymbol all os h name s
    → Fits (length all) (length (flat_map names_of os)) s
symbol_fits all os h name s i =
    let r : rank_of all (name_in h.object name) < length all =
    rank_within all (name_in h.object name) i.known.ascend (listed_here all h.object name i.known i.named) in
    let p = place_within os h.at name h.object i.here.is i.named in
    record { rank = omega (arith, i.rank, r); place = omega (arith, i.place, i.start, p) }

-- ---- rows of the objects

pub funcs_fit : (all : List (List ℕ)) (os : List ObjectView) → AllKnown all os
    → Each (λ (r : FuncRow). Fits (length all) (length (flat_map names_of os)) r.symbol) (flat_map (funcs_in all) (homes 0 0 os))
funcs_fit all os k = each_from (IsFuncRow all os) (λ (r : FuncRow). Fits (length all) (length (flat_map names_of os)) r.symbol)
    (λ r i. symbol_fits all os r.home r.func.symbol r.symbol i.symbol) (flat_map (funcs_in all) (homes 0 0 os))
    (found_func_rows all os (homes 0 0 os) (all_homes all os k))

pub kept_funcs_fit : (all : List (List ℕ)) (os : List ObjectView) → AllKnown all os
    → Each (λ (r : FuncRow). Fits (length all) (length (flat_map names_of os)) r.symbol) (kept_rows [] (flat_map (funcs_in all) (homes 0 0 os)))
kept_funcs_fit all os k = each_from (IsFuncRow all os) (λ (r : FuncRow). Fits (length all) (length (flat_map names_of os)) r.symbol)
    (λ r i. symbol_fits all os r.home r.func.symbol r.symbol i.symbol) (kept_rows [] (flat_map (funcs_in all) (homes 0 0 os))) (kept_func_rows all os k).each

pub globals_fit : (all : List (List ℕ)) (os : List ObjectView) → AllKnown all os
    → Each (λ (r : GlobalRow). Fits (length all) (length (flat_map names_of os)) r.symbol) (flat_map (globals_in all) (homes 0 0 os))
globals_fit all os k = each_from (IsGlobalRow all os) (λ (r : GlobalRow). Fits (length all) (length (flat_map names_of os)) r.symbol)
    (λ r i. symbol_fits all os r.home r.global.symbol r.symbol i.symbol) (flat_map (globals_in all) (homes 0 0 os))
    (found_global_rows all os (homes 0 0 os) (all_homes all os k))

pub classes_fit : (all : List (List ℕ)) (os : List ObjectView) → AllKnown all os
    → Each (λ (r : ClassRow). Fits (length all) (length (flat_map names_of os)) r.symbol) (flat_map (classes_in all) (homes 0 0 os))
classes_fit all os k = each_from (IsClassRow all os) (λ (r : ClassRow). Fits (length all) (length (flat_map names_of os)) r.symbol)
    (λ r i. symbol_fits all os r.home r.class.name r.symbol i.symbol) (flat_map (classes_in all) (homes 0 0 os))
    (found_class_rows all os (homes 0 0 os) (all_homes all os k))

pub kept_classes_fit : (all : List (List ℕ)) (os : List ObjectView) → AllKnown all os
    → Each (λ (r : ClassRow). Fits (length all) (length (flat_map names_of os)) r.symbol) (kept_class_rows [] (flat_map (classes_in all) (homes 0 0 os)))
kept_classes_fit all os k = each_from (IsClassRow all os) (λ (r : ClassRow). Fits (length all) (length (flat_map names_of os)) r.symbol)
    (λ r i. symbol_fits all os r.home r.class.name r.symbol i.symbol) (kept_class_rows [] (flat_map (classes_in all) (homes 0 0 os)))
    (kept_class_rows_are all os k).each

-- ---- numbered definitions

pub numbered_fit : {R : Type 0} (symbol : R → Symbol) (P : Symbol → Type 0) (n : ℕ) (rs : List R) → Each (λ r. P (symbol r)) rs
    → Each (λ (d : Numbered). P d.symbol) (numbered n (map symbol rs))
numbered_fit symbol P n [] h = nil
numbered_fit symbol P n (r ∷ rs) (also p h) = also p (numbered_fit symbol P (n + 1) rs h)

pub placed_fit : (P : Symbol → Type 0) (n : ℕ) (rs : List GlobalRow) → Each (λ (r : GlobalRow). P r.symbol) rs
    → Each (λ (d : Numbered). P d.symbol) (placed n rs)
placed_fit P n [] h = nil
placed_fit P n (r ∷ rs) (also p h) = also p (placed_fit P (n + rounded r.global.size) rs h)

pub ranks_within : (all : List (List ℕ)) → (os : List ObjectView) → AllKnown all os → All (λ (r : ℕ). r < length all) (map (rank_of all) (flat_map names_of os))
ranks_within all [] k = λ n d m. absurd (omega (arith, m))
ranks_within all (o ∷ os) (some i k) = rw (map_append (rank_of all) o.names (flat_map names_of os))
    (all_append (λ (r : ℕ). r < length all) (map (rank_of all) o.names) (map (rank_of all) (flat_map names_of os)) (here o.names i.listed)
    (ranks_within all os k))
  where
    here : (ns : List (List ℕ)) → list_all (is_listed all) ns ≡ true → All (λ (r : ℕ). r < length all) (map (rank_of all) ns)
    here [] h = λ n d m. absurd (omega (arith, m))
    here (n ∷ ns) h = All-cons (λ (r : ℕ). r < length all) (rank_of all n) (map (rank_of all) ns) (rank_within all n i.ascend (and_left (is_listed all n) _ h))
        (here ns (and_right (is_listed all n) _ h))

    map_append : {A B : Type 0} (f : A → B) (xs ys : List A) → map f (xs ++ ys) ≡ map f xs ++ map f ys
    map_append f [] ys = refl
    map_append f (x ∷ xs) ys = ap (λ zs. f x ∷ zs) (map_append f xs ys)

    all_append : {A : Type 0} (P : A → Type 0) (xs ys : List A) → All P xs → All P ys → All P (xs ++ ys)
    all_append P [] ys h g = g
    all_append P (x ∷ xs) ys h g = All-cons P x (xs ++ ys) (h 0 x (omega arith)) (all_append P xs ys (λ n d m. h (suc n) d (omega (arith, m))) g)

-- ---- how many

pub all_objects_known : (all : List (List ℕ)) (objects : List Object) → AreNames (map object_view objects) all
    → length (flat_map names_of (map object_view objects)) < 4294967295 → All (λ (o : Object). IsObject (object_view o)) objects
    → AllKnown all (map object_view objects)
all_objects_known all objects n l h = all_known all objects (each_known all objects n.ascend (omega (arith, n.count, l)) h n.listed)

pub all_from : (all : List (List ℕ)) (os : List ObjectView) → AllKnown all os → All (Known all) os
all_from all [] k = λ n d m. absurd (omega (arith, m))
all_from all (o ∷ os) (some i k) = All-cons (Known all) o os i (all_from all os k)

-- ---- of what is found

pub found_funcs_fit : (all : List (List ℕ)) (os : List ObjectView) (fs : List FoundFunc) (n : ℕ) → AllKnown all os → n ≡ length all
    → map func_row fs ≡ flat_map (funcs_in all) (homes 0 0 os) → All (λ (f : FoundFunc). f.symbol.rank < n) fs
found_funcs_fit all os fs n k e r =
    let here : Each (λ (q : FuncRow). Fits (length all) (length (flat_map names_of os)) q.symbol) (map func_row fs) = rw r (funcs_fit all os k) in
    all_of func_row (λ (q : FuncRow). q.symbol.rank < n) fs
    (each_from (λ (q : FuncRow). Fits (length all) (length (flat_map names_of os)) q.symbol) (λ (q : FuncRow). q.symbol.rank < n)
    (λ q f. let l = f.rank in omega (arith, l, e)) (map func_row fs) here)

pub found_classes_fit : (all : List (List ℕ)) (os : List ObjectView) (cs : List FoundClass) (n : ℕ) → AllKnown all os → n ≡ length all
    → map class_row cs ≡ flat_map (classes_in all) (homes 0 0 os) → All (λ (c : FoundClass). c.symbol.rank < n) cs
found_classes_fit all os cs n k e r =
    let here : Each (λ (q : ClassRow). Fits (length all) (length (flat_map names_of os)) q.symbol) (map class_row cs) = rw r (classes_fit all os k) in
    all_of class_row (λ (q : ClassRow). q.symbol.rank < n) cs
    (each_from (λ (q : ClassRow). Fits (length all) (length (flat_map names_of os)) q.symbol) (λ (q : ClassRow). q.symbol.rank < n)
    (λ q f. let l = f.rank in omega (arith, l, e)) (map class_row cs) here)

pub not_less : (a b : ℕ) → b ≤ a → nat_lt a b ≡ false
not_less a b l = by (nat_lt a b) refl
  where
    by : (t : Bool) → nat_lt a b ≡ t → t ≡ false
    by true e = let m = ltb-true a b e in absurd (omega (arith, m, l))
    by false e = refl

-- ---- results

pub if_ok : {A E : Type 0} (r : Result A E) (P Q : A → Type 0) → ((v : A) → P v → Q v) → IfOk r P → IfOk r Q
if_ok (Ok v) P Q f h = f v h
if_ok (Err e) P Q f h = h
