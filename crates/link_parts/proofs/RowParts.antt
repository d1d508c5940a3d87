-- Parts by tables are those of the image of the objects.
use Rattle.std.proofs.Common.{Bool, true, false, ◌≡◌, ◌<◌, ◌≤◌, ℕ, suc, zero, ◌+◌, ◌-◌, ◌%◌, ◌^◌, List, [], ◌∷◌, ◌++◌, map, filter, length, refl, ap, ◌∙◌}
use Rattle.std.proofs.Common.{arith, Option, Some, None, ◌&&◌, not, cond, nat_lt, nat_le, nat_eq, unwrap_or}
use Rattle.std.specs.List.{All, flat_map, list_all, position_from}
use Rattle.std.specs.Option.{option_map}
use borrow.Author.Tests.{eqb-true, ltb-true, leb-true}
use Rattle.tx_code.specs.declared.object.ObjCell.{ObjCell}
use Rattle.tx_code.specs.Objects.{ObjectView, BodyView, FuncView, GlobalView, ClassView}
use Rattle.tx_code.specs.WellFormed.{is_defined, is_no_except, is_name, is_name_or_none, named_by_body, body_fits, some_fits, func_fits, global_fits}
use Rattle.tx_code.specs.WellFormed.{class_fits, cell_fits, is_count}
use Rattle.tx_code.specs.Renaming.{Numbering, renamed_body}
use Rattle.tx_code.specs.Program.{func_address, global_address}
use Rattle.tx_code.specs.Linked.{absent, name_in, kept_funcs, kept_classes, global_defs, image_func, image_class, image_cell, image_cells, is_main_def}
use Rattle.tx_code.specs.Linked.{numbering, numbering_at, plain_body, no_body, or_none, rounded, class_number, func_number, cell_value, is_string}
use Rattle.tx_code.specs.Linked.{is_defined_global}
use Rattle.link_faults.specs.Ranks.{Known}
use Rattle.link_faults.proofs.Ascending.{and_left, and_right}
use Rattle.link_faults.proofs.ListedEntries.{AllKnown}
use Rattle.link_tables.specs.declared.renamed.Numbers.{Numbers}
use Rattle.link_tables.specs.Homes.{HomeView, homes}
use Rattle.link_tables.specs.Found.{FuncRow, func_of_row, func_symbol_of, row_of_func, funcs_in, kept_rows, GlobalRow, global_of_row, row_of_global, globals_in}
use Rattle.link_tables.specs.Found.{ClassRow, class_of_row, class_symbol_of, row_of_class, classes_in, kept_class_rows}
use Rattle.link_tables.specs.Symbols.{comes_again}
use Rattle.link_tables.specs.Renamed.{numbering_in, told}
use Rattle.link_tables.proofs.NamePlaces.{Each, nil, also, each_append}
use Rattle.link_tables.proofs.ByPlace.{globals_are_defs}
use Rattle.link_tables.proofs.FoundRows.{IsKnownHome, all_homes, each_of_all, kept_func_rows, kept_class_rows_are}
use Rattle.link_parts.specs.Parts.{cell_number, cell_told, cells_told, class_told, func_told, is_main_row}
use Rattle.link_parts.specs.Told.{TellNames}
use Rattle.link_parts.proofs.SameBodies.{Agree, same_body}

-- ---- rows of objects

pub record FuncStands (all : List (List ℕ)) (os : List ObjectView) (r : FuncRow) : Type 0 where
  pub home : IsKnownHome all os r.home
  pub fits : func_fits r.home.object.version (length r.home.object.names) r.func ≡ true

pub record GlobalStands (all : List (List ℕ)) (os : List ObjectView) (r : GlobalRow) : Type 0 where
  pub home : IsKnownHome all os r.home
  pub fits : global_fits (length r.home.object.names) r.global ≡ true

pub record ClassStands (all : List (List ℕ)) (os : List ObjectView) (r : ClassRow) : Type 0 where
  pub home : IsKnownHome all os r.home
  pub fits : class_fits (length r.home.object.names) r.class ≡ true

funcs_here : (all : List (List ℕ)) (os : List ObjectView) (h : HomeView) → IsKnownHome all os h → (fs : List FuncView)
    → list_all (func_fits h.object.version (length h.object.names)) fs ≡ true
    → Each (FuncStands all os) (map (row_of_func all h) (filter is_defined fs))
funcs_here all os h k [] e = nil
funcs_here all os h k (f ∷ fs) e = by (is_defined f) (funcs_here all os h k fs (and_right (func_fits h.object.version (length h.object.names) f) _ e))
  where
    by : (b : Bool) → Each (FuncStands all os) (map (row_of_func all h) (filter is_defined fs))
        → Each (FuncStands all os) (map (row_of_func all h) (cond b (f ∷ filter is_defined fs) (filter is_defined fs)))
    by true rest = also (record { home = k; fits = and_left (func_fits h.object.version (length h.object.names) f) _ e }) rest
    by false rest = rest

found_funcs : (all : List (List ℕ)) (os : List ObjectView) (hs : List HomeView) → Each (IsKnownHome all os) hs
    → Each (FuncStands all os) (flat_map (funcs_in all) hs)
found_funcs all os [] k = nil
found_funcs all os (h ∷ hs) (also i k) = each_append (FuncStands all os) (funcs_in all h) (flat_map (funcs_in all) hs)
    (funcs_here all os h i h.object.funcs i.known.object.funcs) (found_funcs all os hs k)

kept_each : (P : FuncRow → Type 0) (kept rs : List FuncRow) → Each P kept → Each P rs → Each P (kept_rows kept rs)
kept_each P kept [] h g = h
kept_each P kept (r ∷ rs) h (also p g) = by (comes_again (map func_symbol_of kept) r.symbol) (λ ks k. kept_each P ks rs k g)
  where
    by : (b : Bool) → ((ks : List FuncRow) → Each P ks → Each P (kept_rows ks rs)) → Each P (kept_rows (cond b kept (kept ++ r ∷ [])) rs)
    by true f = f kept h
    by false f = f (kept ++ r ∷ []) (each_append P kept (r ∷ []) h (also p nil))

pub kept_funcs_stand : (all : List (List ℕ)) (os : List ObjectView) → AllKnown all os
    → Each (FuncStands all os) (kept_rows [] (flat_map (funcs_in all) (homes 0 0 os)))
kept_funcs_stand all os k = kept_each (FuncStands all os) [] (flat_map (funcs_in all) (homes 0 0 os)) nil
    (found_funcs all os (homes 0 0 os) (all_homes all os k))

globals_here : (all : List (List ℕ)) (os : List ObjectView) (h : HomeView) → IsKnownHome all os h → (t : GlobalView → Bool) (gs : List GlobalView)
    → list_all (global_fits (length h.object.names)) gs ≡ true
    → Each (GlobalStands all os) (map (row_of_global all h) (filter t (filter is_defined_global gs)))
globals_here all os h k t [] e = nil
globals_here all os h k t (g ∷ gs) e = by (is_defined_global g) (globals_here all os h k t gs (and_right (global_fits (length h.object.names) g) _ e))
  where
    one : (b : Bool) → Each (GlobalStands all os) (map (row_of_global all h) (filter t (filter is_defined_global gs)))
        → Each (GlobalStands all os) (map (row_of_global all h) (cond b (g ∷ filter t (filter is_defined_global gs)) (filter t (filter is_defined_global gs))))
    one true rest = also (record { home = k; fits = and_left (global_fits (length h.object.names) g) _ e }) rest
    one false rest = rest

    by : (b : Bool) → Each (GlobalStands all os) (map (row_of_global all h) (filter t (filter is_defined_global gs)))
        → Each (GlobalStands all os) (map (row_of_global all h) (filter t (cond b (g ∷ filter is_defined_global gs) (filter is_defined_global gs))))
    by true rest = one (t g) rest
    by false rest = rest

map_append : {A B : Type 0} (f : A → B) (xs ys : List A) → map f (xs ++ ys) ≡ map f xs ++ map f ys
map_append f [] ys = refl
map_append f (x ∷ xs) ys = ap (λ zs. f x ∷ zs) (map_append f xs ys)

placed_stand : (all : List (List ℕ)) (os : List ObjectView) (h : HomeView) → IsKnownHome all os h → Each (GlobalStands all os) (globals_in all h)
placed_stand all os h k =
    let o = h.object in
    rw (map_append (row_of_global all h) (filter (λ g. not (is_string o g)) (filter is_defined_global o.globals))
    (filter (is_string o) (filter is_defined_global o.globals)))
    (each_append (GlobalStands all os) _ _ (globals_here all os h k (λ g. not (is_string o g)) o.globals k.known.object.globals)
    (globals_here all os h k (is_string o) o.globals k.known.object.globals))

found_globals : (all : List (List ℕ)) (os : List ObjectView) (hs : List HomeView) → Each (IsKnownHome all os) hs
    → Each (GlobalStands all os) (flat_map (globals_in all) hs)
found_globals all os [] k = nil
found_globals all os (h ∷ hs) (also i k) = each_append (GlobalStands all os) (globals_in all h) (flat_map (globals_in all) hs) (placed_stand all os h i)
    (found_globals all os hs k)

pub globals_stand : (all : List (List ℕ)) (os : List ObjectView) → AllKnown all os → Each (GlobalStands all os) (flat_map (globals_in all) (homes 0 0 os))
globals_stand all os k = found_globals all os (homes 0 0 os) (all_homes all os k)

classes_here : (all : List (List ℕ)) (os : List ObjectView) (h : HomeView) → IsKnownHome all os h → (cs : List ClassView)
    → list_all (class_fits (length h.object.names)) cs ≡ true → Each (ClassStands all os) (map (row_of_class all h) cs)
classes_here all os h k [] e = nil
classes_here all os h k (c ∷ cs) e = also (record { home = k; fits = and_left (class_fits (length h.object.names) c) _ e })
    (classes_here all os h k cs (and_right (class_fits (length h.object.names) c) _ e))

found_classes : (all : List (List ℕ)) (os : List ObjectView) (hs : List HomeView) → Each (IsKnownHome all os) hs
    → Each (ClassStands all os) (flat_map (classes_in all) hs)
found_classes all os [] k = nil
found_classes all os (h ∷ hs) (also i k) = each_append (ClassStands all os) (classes_in all h) (flat_map (classes_in all) hs)
    (classes_here all os h i h.object.classes i.known.object.classes) (found_classes all os hs k)

class_each : (P : ClassRow → Type 0) (kept rs : List ClassRow) → Each P kept → Each P rs → Each P (kept_class_rows kept rs)
class_each P kept [] h g = h
class_each P kept (r ∷ rs) h (also p g) = by (comes_again (map class_symbol_of kept) r.symbol) (λ ks k. class_each P ks rs k g)
  where
    by : (b : Bool) → ((ks : List ClassRow) → Each P ks → Each P (kept_class_rows ks rs)) → Each P (kept_class_rows (cond b kept (kept ++ r ∷ [])) rs)
    by true f = f kept h
    by false f = f (kept ++ r ∷ []) (each_append P kept (r ∷ []) h (also p nil))

kept_classes_stand : (all : List (List ℕ)) (os : List ObjectView) → AllKnown all os
    → Each (ClassStands all os) (kept_class_rows [] (flat_map (classes_in all) (homes 0 0 os)))
kept_classes_stand all os k = class_each (ClassStands all os) [] (flat_map (classes_in all) (homes 0 0 os)) nil
    (found_classes all os (homes 0 0 os) (all_homes all os k))

-- ---- maps that agree on what stands

map_each : {A B : Type 0} (f g : A → B) (P : A → Type 0) → ((x : A) → P x → f x ≡ g x) → (xs : List A) → Each P xs → map f xs ≡ map g xs
map_each f g P e [] h = refl
map_each f g P e (x ∷ xs) (also p h) = ap (λ y. y ∷ map f xs) (e x p) ∙ ap (λ ys. g x ∷ ys) (map_each f g P e xs h)

map_twice : {A B C : Type 0} (g : B → C) (f : A → B) (xs : List A) → map (λ x. g (f x)) xs ≡ map g (map f xs)
map_twice g f [] = refl
map_twice g f (x ∷ xs) = ap (λ ys. g (f x) ∷ ys) (map_twice g f xs)

-- ---- names

agree_here : (all : List (List ℕ)) (os : List ObjectView) (types : List (List ℕ)) (x : Numbers) → TellNames os types x → (h : HomeView) → IsKnownHome all os h
    → Agree (length h.object.names) (numbering_in x h.start) (numbering os types h.at h.object)
agree_here all os types x t h k = record {
  global = λ n l. ap (λ (o : Option ℕ). unwrap_or o absent)
      (ap (λ (s : ℕ). told x.globals.items (s + n)) k.placed.start ∙ t.globals h.at n h.object k.placed.here.is l);
  func = λ n l. ap (λ (o : Option ℕ). unwrap_or o absent)
      (ap (λ (s : ℕ). told x.funcs.items (s + n)) k.placed.start ∙ t.funcs h.at n h.object k.placed.here.is l);
  class = λ n l. ap (λ (o : Option ℕ). unwrap_or o absent)
      (ap (λ (s : ℕ). told x.classes.items (s + n)) k.placed.start ∙ t.classes h.at n h.object k.placed.here.is l);
  ty = λ n l. ap (λ (o : Option ℕ). unwrap_or o absent)
      (ap (λ (s : ℕ). told x.types.items (s + n)) k.placed.start ∙ t.types h.at n h.object k.placed.here.is l);
}

-- ---- functions

pub body_named : (v n : ℕ) (b : BodyView) → body_fits v n b ≡ true → list_all (is_name n) (named_by_body b) ≡ true
body_named v n b h = and_right (is_count b.code && is_count b.rows) _ (and_left _ _ h)

plain_named : (v n : ℕ) (o : Option BodyView) → some_fits v n o ≡ true → list_all (is_name n) (named_by_body (unwrap_or o no_body)) ≡ true
plain_named v n None h = refl
plain_named v n (Some b) h = body_named v n b h

same_some : (v n : ℕ) (x y : Numbering) → Agree n x y → (o : Option BodyView) → some_fits v n o ≡ true
    → option_map (renamed_body x) o ≡ option_map (renamed_body y) o
same_some v n x y a None h = refl
same_some v n x y a (Some b) h = ap (λ (c : BodyView). Some c) (same_body n x y a b (body_named v n b h))

pub plain_fits : (v n : ℕ) (f : FuncView) → func_fits v n f ≡ true → some_fits v n f.plain ≡ true
plain_fits v n f h = and_right _ _ (and_left _ _ (and_left _ _ h))

pub safe_fits : (v n : ℕ) (f : FuncView) → func_fits v n f ≡ true → some_fits v n f.safe ≡ true
safe_fits v n f h = and_right _ _ h

one_func : (all : List (List ℕ)) (os : List ObjectView) (types : List (List ℕ)) (x : Numbers) → TellNames os types x → (r : FuncRow) → FuncStands all os r
    → func_told x r ≡ image_func os types (func_of_row r)
one_func all os types x t r s =
    let v = r.home.object.version in
    let n = length r.home.object.names in
    let a = agree_here all os types x t r.home s.home in
    let plain : renamed_body (numbering_in x r.home.start) (plain_body r.func) ≡ renamed_body (numbering_at os types (func_of_row r)) (plain_body r.func) =
    same_body n (numbering_in x r.home.start) (numbering_at os types (func_of_row r)) a (plain_body r.func)
    (plain_named v n r.func.plain (plain_fits v n r.func s.fits)) in
    let safe : option_map (renamed_body (numbering_in x r.home.start)) r.func.safe
    ≡ option_map (renamed_body (numbering_at os types (func_of_row r))) r.func.safe =
    same_some v n (numbering_in x r.home.start) (numbering_at os types (func_of_row r)) a r.func.safe (safe_fits v n r.func s.fits) in
    λ i. record {
      symbol = name_in r.home.object r.func.symbol;
      ty = name_in r.home.object r.func.ty;
      frame = r.func.frame;
      no_except = is_no_except r.func;
      plain = plain i;
      safe = safe i;
      source = r.home.object.source;
    }

pub funcs_are : (all : List (List ℕ)) (os : List ObjectView) (types : List (List ℕ)) (x : Numbers) → All (Known all) os → TellNames os types x
    → map (func_told x) (kept_rows [] (flat_map (funcs_in all) (homes 0 0 os))) ≡ map (image_func os types) (kept_funcs os)
funcs_are all os types x h t =
    let k = each_of_all all os h in
    let rows = kept_rows [] (flat_map (funcs_in all) (homes 0 0 os)) in
    map_each (func_told x) (λ r. image_func os types (func_of_row r)) (FuncStands all os) (λ r s. one_func all os types x t r s) rows
    (kept_funcs_stand all os k)
    ∙ map_twice (image_func os types) func_of_row rows ∙ ap (map (image_func os types)) (kept_func_rows all os k).kept

-- ---- main

main_rows : (n : ℕ) (rs : List FuncRow) → position_from is_main_row n rs ≡ position_from is_main_def n (map func_of_row rs)
main_rows n [] = refl
main_rows n (r ∷ rs) = ap (λ (o : Option ℕ). cond (is_main_def (func_of_row r)) (Some n) o) (main_rows (n + 1) rs)

pub main_is : (all : List (List ℕ)) (os : List ObjectView) → All (Known all) os
    → position_from is_main_row 0 (kept_rows [] (flat_map (funcs_in all) (homes 0 0 os))) ≡ position_from is_main_def 0 (kept_funcs os)
main_is all os h = main_rows 0 (kept_rows [] (flat_map (funcs_in all) (homes 0 0 os)))
    ∙ ap (position_from is_main_def 0) (kept_func_rows all os (each_of_all all os h)).kept

-- ---- classes

or_none_same : (n : ℕ) (f g : ℕ → Option ℕ) → ((k : ℕ) → k < n → f k ≡ g k) → (m : ℕ) → nat_le m n ≡ true → or_none f m ≡ or_none g m
or_none_same n f g e zero h = refl
or_none_same n f g e (suc m) h = let l : suc m ≤ n = leb-true (suc m) n h in e m (omega (arith, l))

slots_same : (n : ℕ) (f g : ℕ → Option ℕ) → ((k : ℕ) → k < n → f k ≡ g k) → (ss : List ℕ) → list_all (is_name_or_none n) ss ≡ true
    → map (or_none f) ss ≡ map (or_none g) ss
slots_same n f g e [] h = refl
slots_same n f g e (s ∷ ss) h =
    ap (λ (o : Option ℕ). o ∷ map (or_none f) ss) (or_none_same n f g e s (and_left (is_name_or_none n s) _ h))
    ∙ ap (λ os. or_none g s ∷ os) (slots_same n f g e ss (and_right (is_name_or_none n s) _ h))

one_class : (all : List (List ℕ)) (os : List ObjectView) (types : List (List ℕ)) (x : Numbers) → TellNames os types x → (r : ClassRow) → ClassStands all os r
    → class_told x r ≡ image_class os (class_of_row r)
one_class all os types x t r s =
    let n = length r.home.object.names in
    let k = s.home in
    let class : (m : ℕ) → m < n → told x.classes.items (r.home.start + m) ≡ class_number os r.home.object m =
    λ m l. ap (λ (p : ℕ). told x.classes.items (p + m)) k.placed.start ∙ t.classes r.home.at m r.home.object k.placed.here.is l in
    let func : (m : ℕ) → m < n → told x.funcs.items (r.home.start + m) ≡ func_number os r.home.at r.home.object m =
    λ m l. ap (λ (p : ℕ). told x.funcs.items (p + m)) k.placed.start ∙ t.funcs r.home.at m r.home.object k.placed.here.is l in
    let named : nat_le r.class.base n ≡ true = and_right _ _ (and_left _ _ (and_left _ _ (and_left _ _ (and_left _ _ (and_left _ _ s.fits))))) in
    let base : or_none (λ m. told x.classes.items (r.home.start + m)) r.class.base ≡ or_none (class_number os r.home.object) r.class.base =
    or_none_same n (λ m. told x.classes.items (r.home.start + m)) (class_number os r.home.object) class r.class.base named in
    let slots : map (or_none (λ m. told x.funcs.items (r.home.start + m))) r.class.slots
    ≡ map (or_none (func_number os r.home.at r.home.object)) r.class.slots =
    slots_same n (λ m. told x.funcs.items (r.home.start + m)) (func_number os r.home.at r.home.object) func r.class.slots (and_right _ _ s.fits) in
    λ i. record { name = name_in r.home.object r.class.name; base = base i; slots = slots i }

pub classes_are : (all : List (List ℕ)) (os : List ObjectView) (types : List (List ℕ)) (x : Numbers) → All (Known all) os → TellNames os types x
    → map (class_told x) (kept_class_rows [] (flat_map (classes_in all) (homes 0 0 os))) ≡ map (image_class os) (kept_classes os)
classes_are all os types x h t =
    let k = each_of_all all os h in
    let rows = kept_class_rows [] (flat_map (classes_in all) (homes 0 0 os)) in
    map_each (class_told x) (λ r. image_class os (class_of_row r)) (ClassStands all os) (λ r s. one_class all os types x t r s) rows
    (kept_classes_stand all os k)
    ∙ map_twice (image_class os) class_of_row rows ∙ ap (map (image_class os)) (kept_class_rows_are all os k).kept

-- ---- cells

positive : (w s : ℕ) → (w ≡ 0 → ⊥) → cond (nat_eq w 0) (nat_eq s 0) (nat_lt 0 s) ≡ true → 0 < s
positive w s n h = by (nat_eq w 0) refl h
  where
    by : (b : Bool) → nat_eq w 0 ≡ b → cond b (nat_eq s 0) (nat_lt 0 s) ≡ true → 0 < s
    by true e g = absurd (n (eqb-true w 0 e))
    by false e g = ltb-true 0 s g

cell_named : (n size : ℕ) (c : ObjCell) → cell_fits n size c ≡ true → (c.what ≡ 0 → ⊥) → c.symbol - 1 < n
cell_named n size c h z =
    let above : 0 < c.symbol = positive c.what c.symbol z (and_right _ _ h) in
    let below : c.symbol ≤ n = leb-true c.symbol n (and_right _ _ (and_left _ _ h)) in
    omega (arith, above, below)

cell_value_is : (all : List (List ℕ)) (os : List ObjectView) (types : List (List ℕ)) (x : Numbers) → TellNames os types x → (h : HomeView)
    → IsKnownHome all os h → (size : ℕ) (c : ObjCell) → cell_fits (length h.object.names) size c ≡ true
    → (what : ℕ) → what ≡ c.what → cell_number x h.start c what ≡ cell_value os h.at h.object c what
cell_value_is all os types x t h k size c f zero e = refl
cell_value_is all os types x t h k size c f (suc zero) e =
    let l : c.symbol - 1 < length h.object.names = cell_named (length h.object.names) size c f (λ z. omega (arith, e, z)) in
    ap (λ (o : Option ℕ). (global_address (unwrap_or o absent) + c.value) % 2 ^ 64)
    (ap (λ (s : ℕ). told x.globals.items (s + (c.symbol - 1))) k.placed.start ∙ t.globals h.at (c.symbol - 1) h.object k.placed.here.is l)
cell_value_is all os types x t h k size c f (suc (suc w)) e =
    let l : c.symbol - 1 < length h.object.names = cell_named (length h.object.names) size c f (λ z. omega (arith, e, z)) in
    ap (λ (o : Option ℕ). func_address (unwrap_or o absent))
    (ap (λ (s : ℕ). told x.funcs.items (s + (c.symbol - 1))) k.placed.start ∙ t.funcs h.at (c.symbol - 1) h.object k.placed.here.is l)

one_cell : (all : List (List ℕ)) (os : List ObjectView) (types : List (List ℕ)) (x : Numbers) → TellNames os types x → (h : HomeView) → IsKnownHome all os h
    → (place size : ℕ) (c : ObjCell) → cell_fits (length h.object.names) size c ≡ true
    → cell_told x h.start place c ≡ image_cell os h.at h.object place c
one_cell all os types x t h k place size c f =
    let v = cell_value_is all os types x t h k size c f c.what refl in
    λ i. record { offset = place + c.offset; size = c.size; value = v i }

cells_here : (all : List (List ℕ)) (os : List ObjectView) (types : List (List ℕ)) (x : Numbers) → TellNames os types x → (h : HomeView) → IsKnownHome all os h
    → (place size : ℕ) (cs : List ObjCell) → list_all (cell_fits (length h.object.names) size) cs ≡ true
    → map (cell_told x h.start place) cs ≡ map (image_cell os h.at h.object place) cs
cells_here all os types x t h k place size [] f = refl
cells_here all os types x t h k place size (c ∷ cs) f =
    ap (λ d. d ∷ map (cell_told x h.start place) cs) (one_cell all os types x t h k place size c (and_left (cell_fits (length h.object.names) size c) _ f))
    ∙ ap (λ ds. image_cell os h.at h.object place c ∷ ds)
    (cells_here all os types x t h k place size cs (and_right (cell_fits (length h.object.names) size c) _ f))

cells_of_rows : (all : List (List ℕ)) (os : List ObjectView) (types : List (List ℕ)) (x : Numbers) → TellNames os types x → (place : ℕ) (rs : List GlobalRow)
    → Each (GlobalStands all os) rs → cells_told x place rs ≡ image_cells os place (map global_of_row rs)
cells_of_rows all os types x t place [] h = refl
cells_of_rows all os types x t place (r ∷ rs) (also s h) =
    ap (λ cs. cs ++ cells_told x (place + rounded r.global.size) rs)
    (cells_here all os types x t r.home s.home place r.global.size r.global.cells (and_right _ _ (and_left _ _ (and_left _ _ s.fits))))
    ∙ ap (λ cs. map (image_cell os r.home.at r.home.object place) r.global.cells ++ cs) (cells_of_rows all os types x t (place + rounded r.global.size) rs h)

pub cells_are : (all : List (List ℕ)) (os : List ObjectView) (types : List (List ℕ)) (x : Numbers) → All (Known all) os → TellNames os types x
    → cells_told x 0 (flat_map (globals_in all) (homes 0 0 os)) ≡ image_cells os 0 (global_defs 0 os)
cells_are all os types x h t =
    let k = each_of_all all os h in
    cells_of_rows all os types x t 0 (flat_map (globals_in all) (homes 0 0 os)) (globals_stand all os k) ∙ ap (image_cells os 0) (globals_are_defs all 0 0 os)
