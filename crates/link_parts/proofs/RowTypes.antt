-- The types by ranks are those that the kept bodies name.
use Rattle.std.proofs.Common.{Bool, true, ◌≡◌, ◌<◌, ℕ, suc, zero, ◌+◌, List, [], ◌∷◌, ◌++◌, map, length, refl, sym, ap, ◌∙◌, Option, Some, None, nat_lt}
use Rattle.std.proofs.Common.{slice_get, slice_index}
use Rattle.std.specs.List.{All, flat_map, list_all}
use Rattle.std.specs.Option.{option_map, option_map_or}
use borrow.Author.Tests.{ltb-true}
use Rattle.tx_code.specs.declared.instr.Instr.{Instr}
use Rattle.tx_code.specs.declared.instr.Instr.TheVariants.{CallIndirect, TCallIndirect, NewException}
use Rattle.tx_code.specs.Objects.{ObjectView, BodyView}
use Rattle.tx_code.specs.WellFormed.{ascends, bytes_lt, is_name, named_by, named_by_row, named_by_body, some_fits}
use Rattle.tx_code.specs.Linked.{name_in, named_types, types_in_body, types_in_def, types_named, type_number}
use Rattle.link_faults.specs.Ranks.{Known, is_listed, names_of, rank_of}
use Rattle.link_faults.specs.Unlisted.{AreMarks}
use Rattle.link_faults.proofs.Ascending.{and_left, and_right}
use Rattle.link_faults.proofs.FirstClaims.{inside}
use Rattle.link_faults.proofs.ListedEntries.{all_of_append}
use Rattle.link_tables.specs.Homes.{HomeView, homes, start_of}
use Rattle.link_tables.specs.Found.{FuncRow, func_of_row, funcs_in, kept_rows}
use Rattle.link_tables.proofs.NamePlaces.{Each, also, name_at_place, get_map, get_there}
use Rattle.link_tables.proofs.ByPlace.{listed_here}
use Rattle.link_tables.proofs.FoundRows.{IsKnownHome, each_of_all, kept_func_rows}
use Rattle.link_parts.specs.Types.{marked, number_in, ranks_in_body, ranks_in_some, ranks_in_row, ranks_in_rows}
use Rattle.link_parts.specs.Told.{AreTypes, TellsEach}
use Rattle.link_parts.proofs.SameBodies.{all_left, all_right}
use Rattle.link_parts.proofs.MarkedTypes.{types_by_name}
use Rattle.link_parts.proofs.RowParts.{FuncStands, kept_funcs_stand, body_named, plain_fits, safe_fits}

map_append : {A B : Type 0} (f : A → B) (xs ys : List A) → map f (xs ++ ys) ≡ map f xs ++ map f ys
map_append f [] ys = refl
map_append f (x ∷ xs) ys = ap (λ zs. f x ∷ zs) (map_append f xs ys)

-- ---- the rank of a name at its place

abbrev pub all_ranks : (all : List (List ℕ)) → List ObjectView → List ℕ
all_ranks all os = map (rank_of all) (flat_map names_of os)

get_index : (xs : List ℕ) (i v : ℕ) → slice_get xs i ≡ Some v → slice_index xs i ≡ v
get_index [] i v e = cc
get_index (x ∷ xs) zero v e = inside x v e
get_index (x ∷ xs) (suc i) v e = get_index xs i v e

map_there : {B : Type 0} (f : List ℕ → B) (os : List ObjectView) (at n : ℕ) (o : ObjectView) → slice_get os at ≡ Some o → n < length o.names
    → slice_get (map f (flat_map names_of os)) (start_of os at + n) ≡ Some (f (name_in o n))
map_there f os at n o e l = get_map f (flat_map names_of os) (start_of os at + n) ∙ ap (option_map f) (name_at_place os at n o e l ∙ get_there o.names n [] l)

rank_there : (all : List (List ℕ)) (os : List ObjectView) (at n : ℕ) (o : ObjectView) → slice_get os at ≡ Some o → n < length o.names
    → slice_index (all_ranks all os) (start_of os at + n) ≡ rank_of all (name_in o n)
rank_there all os at n o e l = get_index (all_ranks all os) (start_of os at + n) (rank_of all (name_in o n)) (map_there (rank_of all) os at n o e l)

pub numbers_tell : (os : List ObjectView) (types : List (List ℕ)) → TellsEach os (λ at. type_number types) (map (number_in types) (flat_map names_of os))
numbers_tell os types at n o e l = let there : slice_get (map (number_in types) (flat_map names_of os)) (start_of os at + n)
    ≡ Some (number_in types (name_in o n)) = map_there (number_in types) os at n o e l in rw there refl

-- ---- names of an object by their ranks

ranks_here : (all : List (List ℕ)) (os : List ObjectView) (h : HomeView) → IsKnownHome all os h → (ns : List ℕ)
    → list_all (is_name (length h.object.names)) ns ≡ true
    → map (λ n. slice_index (all_ranks all os) (h.start + n)) ns ≡ map (rank_of all) (map (name_in h.object) ns)
ranks_here all os h k [] f = refl
ranks_here all os h k (n ∷ ns) f =
    let l : n < length h.object.names = ltb-true n (length h.object.names) (and_left (nat_lt n (length h.object.names)) _ f) in
    let one : slice_index (all_ranks all os) (h.start + n) ≡ rank_of all (name_in h.object n) =
    ap (λ (s : ℕ). slice_index (all_ranks all os) (s + n)) k.placed.start ∙ rank_there all os h.at n h.object k.placed.here.is l in
    ap (λ (r : ℕ). r ∷ map (λ n. slice_index (all_ranks all os) (h.start + n)) ns) one
    ∙ ap (λ rs. rank_of all (name_in h.object n) ∷ rs) (ranks_here all os h k ns (and_right (nat_lt n (length h.object.names)) _ f))

listed_names : (all : List (List ℕ)) (o : ObjectView) → Known all o → (ns : List ℕ) → list_all (is_name (length o.names)) ns ≡ true
    → list_all (is_listed all) (map (name_in o) ns) ≡ true
listed_names all o k [] f = refl
listed_names all o k (n ∷ ns) f =
    rw (
      listed_here all o n k (ltb-true n (length o.names) (and_left (nat_lt n (length o.names)) _ f)),
      listed_names all o k ns (and_right (nat_lt n (length o.names)) _ f),
    ) refl

-- ---- the names that bodies name as types are names of their object

types_within : (n : ℕ) (i : Instr) → list_all (is_name n) (named_by i) ≡ true → list_all (is_name n) (named_types i) ≡ true
types_within n (CallIndirect ty w) h = h
types_within n (TCallIndirect ty w) h = h
types_within n (NewException ty) h = h
types_within n i h = refl

code_within : (n : ℕ) (is : List Instr) → list_all (is_name n) (flat_map named_by is) ≡ true → list_all (is_name n) (flat_map named_types is) ≡ true
code_within n [] h = refl
code_within n (i ∷ is) h =
    all_of_append (is_name n) (named_types i) (flat_map named_types is) (types_within n i (all_left (is_name n) (named_by i) (flat_map named_by is) h))
    (code_within n is (all_right (is_name n) (named_by i) (flat_map named_by is) h))

abbrev pub names_in_body : BodyView → List ℕ
names_in_body b = flat_map named_types b.code ++ flat_map named_by_row b.rows

body_within : (n : ℕ) (b : BodyView) → list_all (is_name n) (named_by_body b) ≡ true → list_all (is_name n) (names_in_body b) ≡ true
body_within n b h =
    all_of_append (is_name n) (flat_map named_types b.code) (flat_map named_by_row b.rows)
    (code_within n b.code (all_left (is_name n) (flat_map named_by b.code) (flat_map named_by_row b.rows) h))
    (all_right (is_name n) (flat_map named_by b.code) (flat_map named_by_row b.rows) h)

-- ---- bodies, rows and all

body_ranks : (all : List (List ℕ)) (os : List ObjectView) (h : HomeView) → IsKnownHome all os h → (b : BodyView)
    → list_all (is_name (length h.object.names)) (named_by_body b) ≡ true
    → ranks_in_body (all_ranks all os) h.start b ≡ map (rank_of all) (types_in_body h.object b)
body_ranks all os h k b f =
    sym (map_append (λ n. slice_index (all_ranks all os) (h.start + n)) (flat_map named_types b.code) (flat_map named_by_row b.rows))
    ∙ ranks_here all os h k (names_in_body b) (body_within (length h.object.names) b f)

some_ranks : (all : List (List ℕ)) (os : List ObjectView) (h : HomeView) → IsKnownHome all os h → (v : ℕ) (o : Option BodyView)
    → some_fits v (length h.object.names) o ≡ true
    → ranks_in_some (all_ranks all os) h.start o ≡ map (rank_of all) (option_map_or (types_in_body h.object) o [])
some_ranks all os h k v None f = refl
some_ranks all os h k v (Some b) f = body_ranks all os h k b (body_named v (length h.object.names) b f)

some_listed : (all : List (List ℕ)) (o : ObjectView) → Known all o → (v : ℕ) (b : Option BodyView) → some_fits v (length o.names) b ≡ true
    → list_all (is_listed all) (option_map_or (types_in_body o) b []) ≡ true
some_listed all o k v None f = refl
some_listed all o k v (Some b) f = listed_names all o k (names_in_body b) (body_within (length o.names) b (body_named v (length o.names) b f))

row_ranks : (all : List (List ℕ)) (os : List ObjectView) (r : FuncRow) → FuncStands all os r
    → ranks_in_row (all_ranks all os) r ≡ map (rank_of all) (types_in_def (func_of_row r))
row_ranks all os r s =
    let v = r.home.object.version in
    let n = length r.home.object.names in
    let plain = some_ranks all os r.home s.home v r.func.plain (plain_fits v n r.func s.fits) in
    let safe = some_ranks all os r.home s.home v r.func.safe (safe_fits v n r.func s.fits) in
    ap (λ rs. rs ++ ranks_in_some (all_ranks all os) r.home.start r.func.safe) plain
    ∙ ap (λ rs. map (rank_of all) (option_map_or (types_in_body r.home.object) r.func.plain []) ++ rs) safe
    ∙ sym (map_append (rank_of all) (option_map_or (types_in_body r.home.object) r.func.plain []) (option_map_or (types_in_body r.home.object) r.func.safe []))

row_listed : (all : List (List ℕ)) (os : List ObjectView) (r : FuncRow) → FuncStands all os r → list_all (is_listed all) (types_in_def (func_of_row r)) ≡ true
row_listed all os r s =
    let o = r.home.object in
    all_of_append (is_listed all) (option_map_or (types_in_body o) r.func.plain []) (option_map_or (types_in_body o) r.func.safe [])
    (some_listed all o s.home.known o.version r.func.plain (plain_fits o.version (length o.names) r.func s.fits))
    (some_listed all o s.home.known o.version r.func.safe (safe_fits o.version (length o.names) r.func s.fits))

rows_ranks : (all : List (List ℕ)) (os : List ObjectView) (rs : List FuncRow) → Each (FuncStands all os) rs
    → ranks_in_rows (all_ranks all os) rs ≡ map (rank_of all) (flat_map types_in_def (map func_of_row rs))
rows_ranks all os [] h = refl
rows_ranks all os (r ∷ rs) (also s h) =
    ap (λ ns. ns ++ ranks_in_rows (all_ranks all os) rs) (row_ranks all os r s)
    ∙ ap (λ ns. map (rank_of all) (types_in_def (func_of_row r)) ++ ns) (rows_ranks all os rs h)
    ∙ sym (map_append (rank_of all) (types_in_def (func_of_row r)) (flat_map types_in_def (map func_of_row rs)))

rows_listed : (all : List (List ℕ)) (os : List ObjectView) (rs : List FuncRow) → Each (FuncStands all os) rs
    → list_all (is_listed all) (flat_map types_in_def (map func_of_row rs)) ≡ true
rows_listed all os [] h = refl
rows_listed all os (r ∷ rs) (also s h) = all_of_append (is_listed all) (types_in_def (func_of_row r)) (flat_map types_in_def (map func_of_row rs))
    (row_listed all os r s) (rows_listed all os rs h)

pub types_are : (all : List (List ℕ)) (os : List ObjectView) (marks : List Bool) → ascends bytes_lt all ≡ true → All (Known all) os → length marks ≡ length all
    → AreMarks (ranks_in_rows (all_ranks all os) (kept_rows [] (flat_map (funcs_in all) (homes 0 0 os)))) marks → AreTypes (types_named os) (marked all marks)
types_are all os marks a h l m =
    let k = each_of_all all os h in
    let rows = kept_rows [] (flat_map (funcs_in all) (homes 0 0 os)) in
    let stand = kept_funcs_stand all os k in
    let kept = (kept_func_rows all os k).kept in
    let ranks : ranks_in_rows (all_ranks all os) rows ≡ map (rank_of all) (types_named os) = rows_ranks all os rows stand
    ∙ ap (λ ds. map (rank_of all) (flat_map types_in_def ds)) kept in
    let listed : list_all (is_listed all) (types_named os) ≡ true = sym (ap (λ ds. list_all (is_listed all) (flat_map types_in_def ds)) kept)
    ∙ rows_listed all os rows stand in
    types_by_name all (types_named os) marks a listed l (rw ranks at m)
