-- The cells of a linked image lie within its globals and apart from one another.
use Rattle.std.proofs.Common.{Bool, true, false, ◌≡◌, ◌<◌, ◌≤◌, ℕ, suc, zero, ◌+◌, ◌-◌, ◌*◌, ◌%◌, ◌^◌, List, [], ◌∷◌, ◌++◌, map, filter, length, refl, ap, ◌∙◌}
use Rattle.std.proofs.Common.{arith, ◌&&◌, ◌||◌, not, nat_eq, nat_lt, nat_le, cond, unwrap_or, eq-eqb}
use Rattle.std.specs.List.{flat_map, list_all}
use borrow.Author.Tests.{eqb-true, ltb-true, leb-true}
use Rattle.std.proofs.lemmas.Bool.{lt-ltb, le-leb}
use Rattle.tx_events.specs.declared.GlobalCell.{GlobalCell}
use Rattle.tx_code.specs.declared.object.ObjCell.{ObjCell}
use Rattle.tx_code.specs.Objects.{ObjectView, GlobalView}
use Rattle.tx_code.specs.WellFormed.{ascends, ascends_from, global_fits, is_cell_size, is_multiple, cell_fits, cell_after, cell_kind_fits}
use Rattle.tx_code.specs.Images.{ImageView, is_cell, apart, all_apart, cells_fit}
use Rattle.tx_code.specs.Program.{func_address}
use Rattle.link_faults.specs.Ranks.{names_of}
use Rattle.tx_code.specs.Linked.{ImageOf, global_def, global_defs, placed_globals, is_defined_global, is_string, GlobalDef, absent, cell_value, func_number}
use Rattle.tx_code.specs.Linked.{rounded, end_of, image_cell, image_cells, kept_funcs}
use Rattle.link_faults.proofs.Ascending.{and_left, and_right}
use Rattle.link_faults.proofs.ListedEntries.{and_both, all_of_append}
use Rattle.link_laws.proofs.WholeImages.{AllObjects, some, end_above, few_kept, number_bounded}

-- ---- places

sum_multiple : (s start off : ℕ) → is_cell_size s ≡ true → start % 8 ≡ 0 → is_multiple off s ≡ true → is_multiple (start + off) s ≡ true
sum_multiple s start off h m e = by (nat_eq s 1) refl (nat_eq s 2) refl (nat_eq s 4) refl (nat_eq s 8) refl h
  where
    rest : off % s ≡ 0
    rest = eqb-true (off % s) 0 e

    at-1 : s ≡ 1 → is_multiple (start + off) s ≡ true
    at-1 q = rw q (eq-eqb ((start + off) % 1) 0 (omega arith))

    at-2 : s ≡ 2 → is_multiple (start + off) s ≡ true
    at-2 q = let r : off % 2 ≡ 0 = rw q at rest in rw q (eq-eqb ((start + off) % 2) 0 (omega arith))

    at-4 : s ≡ 4 → is_multiple (start + off) s ≡ true
    at-4 q = let r : off % 4 ≡ 0 = rw q at rest in rw q (eq-eqb ((start + off) % 4) 0 (omega arith))

    at-8 : s ≡ 8 → is_multiple (start + off) s ≡ true
    at-8 q = let r : off % 8 ≡ 0 = rw q at rest in rw q (eq-eqb ((start + off) % 8) 0 (omega arith))

    by : (a : Bool) → nat_eq s 1 ≡ a → (b : Bool) → nat_eq s 2 ≡ b → (c : Bool) → nat_eq s 4 ≡ c → (d : Bool) → nat_eq s 8 ≡ d → (a || b || c || d) ≡ true
        → is_multiple (start + off) s ≡ true
    by true f b g c i d j k = at-1 (eqb-true s 1 f)
    by false f true g c i d j k = at-2 (eqb-true s 2 g)
    by false f false g true i d j k = at-4 (eqb-true s 4 i)
    by false f false g false i true j k = at-8 (eqb-true s 8 j)
    by false f false g false i false j k = cc

-- ---- what a cell of an object keeps

record Fits (size : ℕ) (c : ObjCell) : Type 0 where
  sized : is_cell_size c.size ≡ true
  multiple : is_multiple c.offset c.size ≡ true
  within : c.offset + c.size ≤ size
  kind : cell_kind_fits c ≡ true
  small : c.value < 2 ^ (8 * c.size)

fits_of : (n size : ℕ) (c : ObjCell) → cell_fits n size c ≡ true → Fits size c
fits_of n size c h =
    let a = and_left _ _ (and_left _ _ h) in
    let b = and_left _ _ a in
    let d = and_left _ _ b in
    let e = and_left _ _ d in
    record {
      sized = and_left _ _ e;
      multiple = and_right (is_cell_size c.size) _ e;
      within = leb-true _ _ (and_right (is_cell_size c.size && is_multiple c.offset c.size) _ d);
      kind = and_right (is_cell_size c.size && is_multiple c.offset c.size && nat_le (c.offset + c.size) size) _ b;
      small = ltb-true _ _ (and_right (is_cell_size c.size && is_multiple c.offset c.size && nat_le (c.offset + c.size) size && cell_kind_fits c) _ a);
    }

eight : (c : ObjCell) → cell_kind_fits c ≡ true → (c.what ≡ 0 → ⊥) → c.size ≡ 8
eight c h n = by (nat_eq c.what 0) refl (nat_eq c.size 8) refl (and_right (nat_lt c.what 3) _ h)
  where
    by : (a : Bool) → nat_eq c.what 0 ≡ a → (b : Bool) → nat_eq c.size 8 ≡ b → (a || b) ≡ true → c.size ≡ 8
    by true e b f g = absurd (n (eqb-true c.what 0 e))
    by false e true f g = eqb-true c.size 8 f
    by false e false f g = cc

func_small : (k : ℕ) → k ≤ 4294967295 → func_address k < 2 ^ 64
func_small k l = omega arith

value_small : (os : List ObjectView) (at : ℕ) (o : ObjectView) (size : ℕ) (c : ObjCell) → length (kept_funcs os) ≤ 4294967295 → Fits size c → (what : ℕ)
    → what ≡ c.what → cell_value os at o c what < 2 ^ (8 * c.size)
value_small os at o size c few f zero e = f.small
value_small os at o size c few f (suc zero) e =
    let s : c.size ≡ 8 = eight c f.kind (λ z. omega (arith, e, z)) in
    rw s (omega arith)
value_small os at o size c few f (suc (suc n)) e =
    let s : c.size ≡ 8 = eight c f.kind (λ z. omega (arith, e, z)) in
    rw s (func_small (unwrap_or (func_number os at o (c.symbol - 1)) absent) (number_bounded os at o (c.symbol - 1) few))

one_cell : (os : List ObjectView) (at : ℕ) (o : ObjectView) (start size total : ℕ) (c : ObjCell) → length (kept_funcs os) ≤ 4294967295 → start % 8 ≡ 0
    → start + size ≤ total → Fits size c → is_cell total (image_cell os at o start c) ≡ true
one_cell os at o start size total c few m l f =
    and_both _ _ (and_both _ _ (and_both _ _ f.sized (sum_multiple c.size start c.offset f.sized m f.multiple))
    (le-leb _ _ (let w = f.within in omega (arith, w)))) (lt-ltb _ _ (value_small os at o size c few f c.what refl))

-- ---- cells apart

ends_by : (m : ℕ) → GlobalCell → Bool
ends_by m c = nat_le (c.offset + c.size) m

begins_at : (m : ℕ) → GlobalCell → Bool
begins_at m c = nat_le m c.offset

le_true : (a b : ℕ) → nat_le a b ≡ true → a ≤ b
le_true a b h = leb-true a b h

one_apart : (m : ℕ) (x : GlobalCell) (ys : List GlobalCell) → x.offset + x.size ≤ m → list_all (λ y. nat_le m y.offset) ys ≡ true → list_all (apart x) ys ≡ true
one_apart m x [] l h = refl
one_apart m x (y ∷ ys) l h =
    let far : m ≤ y.offset = leb-true m y.offset (and_left _ _ h) in
    let e : nat_le (x.offset + x.size) y.offset ≡ true = le-leb _ _ (omega arith) in
    rw e (one_apart m x ys l (and_right (nat_le m y.offset) _ h))

apart_lists : (m : ℕ) (xs ys : List GlobalCell) → list_all (λ x. nat_le (x.offset + x.size) m) xs ≡ true → list_all (λ y. nat_le m y.offset) ys ≡ true
    → all_apart xs ≡ true → all_apart ys ≡ true → all_apart (xs ++ ys) ≡ true
apart_lists m [] ys h g a b = b
apart_lists m (x ∷ xs) ys h g a b =
    and_both _ _ (all_of_append (apart x) xs ys (and_left _ _ a) (one_apart m x ys (leb-true _ _ (and_left _ _ h)) g))
    (apart_lists m xs ys (and_right (nat_le (x.offset + x.size) m) _ h) g (and_right (list_all (apart x) xs) _ a) b)

-- in one global the cells ascend
later_cells : (os : List ObjectView) (at : ℕ) (o : ObjectView) (start m : ℕ) (c : ObjCell) (cs : List ObjCell) → m ≤ start + c.offset + c.size
    → ascends_from cell_after c cs ≡ true
    → list_all (λ y. nat_le m y.offset) (map (image_cell os at o start) cs) ≡ true
later_cells os at o start m c [] l h = refl
later_cells os at o start m c (d ∷ ds) l h =
    let next : c.offset + c.size ≤ d.offset = leb-true _ _ (and_right (nat_lt c.offset d.offset) _ (and_left _ _ h)) in
    and_both _ _ (le-leb m (start + d.offset) (omega arith)) (later_cells os at o start m d ds (omega arith) (and_right (cell_after c d) _ h))

from_tail : (c : ObjCell) (cs : List ObjCell) → ascends_from cell_after c cs ≡ true → ascends cell_after cs ≡ true
from_tail c [] h = refl
from_tail c (d ∷ ds) h = and_right (cell_after c d) _ h

in_one : (os : List ObjectView) (at : ℕ) (o : ObjectView) (start : ℕ) (cs : List ObjCell) → ascends cell_after cs ≡ true
    → all_apart (map (image_cell os at o start) cs) ≡ true
in_one os at o start [] h = refl
in_one os at o start (c ∷ cs) h =
    and_both _ _ (one_apart (start + c.offset + c.size) (image_cell os at o start c) (map (image_cell os at o start) cs) (omega arith)
    (later_cells os at o start (start + c.offset + c.size) c cs (omega arith) h))
    (in_one os at o start cs (from_tail c cs h))

pub record FitsDef (d : GlobalDef) : Type 0 where
  pub names : ℕ
  pub fits : global_fits names d.global ≡ true

pub data AllFit : List GlobalDef → Type 0 where
  empty : AllFit []
  joined : {d : GlobalDef} {ds : List GlobalDef} → FitsDef d → AllFit ds → AllFit (d ∷ ds)

pub fit_append : (ds es : List GlobalDef) → AllFit ds → AllFit es → AllFit (ds ++ es)
fit_append [] es h g = g
fit_append (d ∷ ds) es (joined f h) g = joined f (fit_append ds es h g)

-- ---- all cells

global_cells_fit : (n : ℕ) (g : GlobalView) → global_fits n g ≡ true → list_all (cell_fits n g.size) g.cells ≡ true
global_cells_fit n g h = and_right _ _ (and_left _ _ (and_left _ _ h))

global_cells_ascend : (n : ℕ) (g : GlobalView) → global_fits n g ≡ true → ascends cell_after g.cells ≡ true
global_cells_ascend n g h = and_right _ _ (and_left _ _ h)

rounded_above : (n : ℕ) → n ≤ rounded n
rounded_above n = omega arith

cells_here : (os : List ObjectView) (at : ℕ) (o : ObjectView) (n start size total : ℕ) (cs : List ObjCell) → length (kept_funcs os) ≤ 4294967295 → start % 8 ≡ 0
    → start + size ≤ total → list_all (cell_fits n size) cs ≡ true
    → list_all (is_cell total) (map (image_cell os at o start) cs) ≡ true
cells_here os at o n start size total [] few m l h = refl
cells_here os at o n start size total (c ∷ cs) few m l h =
    and_both _ _ (one_cell os at o start size total c few m l (fits_of n size c (and_left _ _ h)))
    (cells_here os at o n start size total cs few m l (and_right (cell_fits n size c) _ h))

ends_here : (os : List ObjectView) (at : ℕ) (o : ObjectView) (n start size m : ℕ) (cs : List ObjCell) → start + size ≤ m → list_all (cell_fits n size) cs ≡ true
    → list_all (λ x. nat_le (x.offset + x.size) m) (map (image_cell os at o start) cs) ≡ true
ends_here os at o n start size m [] l h = refl
ends_here os at o n start size m (c ∷ cs) l h =
    let f = fits_of n size c (and_left _ _ h) in
    let w = f.within in
    and_both _ _ (le-leb (start + c.offset + c.size) m (omega (arith, w))) (ends_here os at o n start size m cs l (and_right (cell_fits n size c) _ h))

begins_here : (os : List ObjectView) (at : ℕ) (o : ObjectView) (start m : ℕ) (cs : List ObjCell) → m ≤ start
    → list_all (λ y. nat_le m y.offset) (map (image_cell os at o start) cs) ≡ true
begins_here os at o start m [] l = refl
begins_here os at o start m (c ∷ cs) l = and_both _ _ (le-leb m (start + c.offset) (omega arith)) (begins_here os at o start m cs l)

begins_all : (os : List ObjectView) (start m : ℕ) (ds : List GlobalDef) → m ≤ start → list_all (λ y. nat_le m y.offset) (image_cells os start ds) ≡ true
begins_all os start m [] l = refl
begins_all os start m (d ∷ ds) l =
    all_of_append (λ (y : GlobalCell). nat_le m y.offset) (map (image_cell os d.at d.object start) d.global.cells)
    (image_cells os (start + rounded d.global.size) ds)
    (begins_here os d.at d.object start m d.global.cells l) (begins_all os (start + rounded d.global.size) m ds (omega arith))

all_cells : (os : List ObjectView) (start total : ℕ) (ds : List GlobalDef) → length (kept_funcs os) ≤ 4294967295 → start % 8 ≡ 0 → end_of start ds ≤ total
    → AllFit ds → list_all (is_cell total) (image_cells os start ds) ≡ true
all_cells os start total [] few m l h = refl
all_cells os start total (d ∷ ds) few m l (joined f h) =
    let e = end_above (start + rounded d.global.size) ds in
    let r = rounded_above d.global.size in
    all_of_append (is_cell total) (map (image_cell os d.at d.object start) d.global.cells) (image_cells os (start + rounded d.global.size) ds)
    (cells_here os d.at d.object f.names start d.global.size total d.global.cells few m (omega (arith, e, r, l)) (global_cells_fit f.names d.global f.fits))
    (all_cells os (start + rounded d.global.size) total ds few (omega (arith, m)) l h)

apart_all : (os : List ObjectView) (start : ℕ) (ds : List GlobalDef) → AllFit ds → all_apart (image_cells os start ds) ≡ true
apart_all os start [] h = refl
apart_all os start (d ∷ ds) (joined f h) =
    let r = rounded_above d.global.size in
    apart_lists (start + rounded d.global.size) (map (image_cell os d.at d.object start) d.global.cells) (image_cells os (start + rounded d.global.size) ds)
    (ends_here os d.at d.object f.names start d.global.size (start + rounded d.global.size) d.global.cells (omega (arith, r))
    (global_cells_fit f.names d.global f.fits))
    (begins_all os (start + rounded d.global.size) (start + rounded d.global.size) ds (omega arith))
    (in_one os d.at d.object start d.global.cells (global_cells_ascend f.names d.global f.fits))
    (apart_all os (start + rounded d.global.size) ds h)

pub cells_whole : (os : List ObjectView) (total : ℕ) (ds : List GlobalDef) → length (kept_funcs os) ≤ 4294967295 → total ≡ end_of 0 ds → AllFit ds
    → cells_fit total (image_cells os 0 ds) ≡ true
cells_whole os total ds few e h = and_both _ _ (all_cells os 0 total ds few refl (omega (arith, e)) h) (apart_all os 0 ds h)

-- ---- of an image

fit_globals : (at : ℕ) (o : ObjectView) (n : ℕ) (t : GlobalView → Bool) (gs : List GlobalView) → list_all (global_fits n) gs ≡ true
    → AllFit (map (global_def at o) (filter t (filter is_defined_global gs)))
fit_globals at o n t [] h = empty
fit_globals at o n t (g ∷ gs) h = by (is_defined_global g) (fit_globals at o n t gs (and_right (global_fits n g) _ h))
  where
    one : (b : Bool) → AllFit (map (global_def at o) (filter t (filter is_defined_global gs)))
        → AllFit (map (global_def at o) (cond b (g ∷ filter t (filter is_defined_global gs)) (filter t (filter is_defined_global gs))))
    one true r = joined (record { names = n; fits = and_left (global_fits n g) _ h }) r
    one false r = r

    by : (b : Bool) → AllFit (map (global_def at o) (filter t (filter is_defined_global gs)))
        → AllFit (map (global_def at o) (filter t (cond b (g ∷ filter is_defined_global gs) (filter is_defined_global gs))))
    by true r = one (t g) r
    by false r = r

map_append : {A B : Type 0} (f : A → B) (xs ys : List A) → map f (xs ++ ys) ≡ map f xs ++ map f ys
map_append f [] ys = refl
map_append f (x ∷ xs) ys = ap (λ zs. f x ∷ zs) (map_append f xs ys)

all_fit : (at : ℕ) (os : List ObjectView) → AllObjects os → AllFit (global_defs at os)
all_fit at [] h = empty
all_fit at (o ∷ os) (some i h) =
    fit_append (map (global_def at o) (placed_globals o)) (global_defs (at + 1) os)
    (rw (map_append (global_def at o) (filter (λ g. not (is_string o g)) (filter is_defined_global o.globals))
    (filter (is_string o) (filter is_defined_global o.globals)))
    (fit_append (map (global_def at o) (filter (λ g. not (is_string o g)) (filter is_defined_global o.globals)))
    (map (global_def at o) (filter (is_string o) (filter is_defined_global o.globals)))
    (fit_globals at o (length o.names) (λ g. not (is_string o g)) o.globals i.globals) (fit_globals at o (length o.names) (is_string o) o.globals i.globals)))
    (all_fit (at + 1) os h)

pub cells_image : (os : List ObjectView) (i : ImageView) → AllObjects os → length (flat_map names_of os) < 4294967295 → ImageOf os i
    → cells_fit i.size i.globals ≡ true
cells_image os i h l o =
    let few = few_kept os h in
    ap (cells_fit i.size) o.globals ∙ cells_whole os i.size (global_defs 0 os) (omega (arith, few, l)) o.size (all_fit 0 os h)
