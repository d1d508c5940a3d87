-- The steps of loops over types and the parts of an image.
use Rattle.std.proofs.Common.{Bool, true, false, ◌≡◌, ◌<◌, ℕ, suc, zero, ◌+◌, List, [], ◌∷◌, ◌++◌, map, take, length, refl, sym, ap, ◌∙◌, arith, Some, None}
use Rattle.std.proofs.Common.{◌||◌, cond, get_or, slice_get, add-one, length-take}
use Rattle.std.specs.List.{flat_map, list_any, position_from}
use Rattle.std.specs.Global.{Vec}
use Rattle.std.proofs.lemmas.List.{length-map}
use Rattle.tx_events.specs.declared.GlobalCell.{GlobalCell}
use Rattle.tx_code.specs.Objects.{bytes_of}
use Rattle.tx_code.specs.Linked.{end_of, rounded}
use Rattle.link_faults.proofs.KeptDefinitions.{take_step}
use Rattle.link_tables.specs.declared.found.FoundGlobal.{FoundGlobal}
use Rattle.link_tables.specs.declared.renamed.Numbers.{Numbers}
use Rattle.link_tables.specs.Found.{GlobalRow, global_row, global_of_row}
use Rattle.link_parts.specs.Types.{Adds, marked}
use Rattle.link_parts.specs.Parts.{cell_told, cells_told}
use Rattle.link_tables.proofs.HomeSteps.{mapped_step}
use Rattle.link_parts.proofs.MarkedTypes.{adds_more, marked_snoc}

append_twice : {A : Type 0} (xs ys zs : List A) → (xs ++ ys) ++ zs ≡ xs ++ (ys ++ zs)
append_twice [] ys zs = refl
append_twice (x ∷ xs) ys zs = ap (λ ws. x ∷ ws) (append_twice xs ys zs)

append_nothing : {A : Type 0} (xs : List A) → xs ++ [] ≡ xs
append_nothing [] = refl
append_nothing (x ∷ xs) = ap (λ ys. x ∷ ys) (append_nothing xs)

map_append : {A B : Type 0} (f : A → B) (xs ys : List A) → map f (xs ++ ys) ≡ map f xs ++ map f ys
map_append f [] ys = refl
map_append f (x ∷ xs) ys = ap (λ zs. f x ∷ zs) (map_append f xs ys)

flat_append : {A B : Type 0} (f : A → List B) (xs : List A) (y : A) → flat_map f (xs ++ y ∷ []) ≡ flat_map f xs ++ f y
flat_append f [] y = append_nothing (f y)
flat_append f (x ∷ xs) y = ap (λ ns. f x ++ ns) (flat_append f xs y) ∙ sym (append_twice (f x) (flat_map f xs) (f y))

-- ---- marks

pub adds_step : {A : Type 0} (f : A → List ℕ) (g : ℕ → ℕ) (xs : List A) (i : ℕ) (d : A) (ys : List ℕ) (first mid new : List Bool) → i < length xs
    → Adds (map g (flat_map f (take i xs))) first mid → Adds (map g ys) mid new → ys ≡ f (get_or xs i d)
    → Adds (map g (flat_map f (take (i + 1) xs))) first new
adds_step f g xs i d ys first mid new l a b e =
    let same : map g (flat_map f (take (i + 1) xs)) ≡ map g (flat_map f (take i xs)) ++ map g ys =
    ap (λ zs. map g (flat_map f zs)) (let s : take (i + 1) xs ≡ take i xs ++ get_or xs i d ∷ [] = rw (add-one) (take_step xs i d l) in s)
    ∙ ap (map g) (flat_append f (take i xs) (get_or xs i d)) ∙ map_append g (flat_map f (take i xs)) (f (get_or xs i d))
    ∙ ap (λ zs. map g (flat_map f (take i xs)) ++ map g zs) (sym e) in
    rw same (adds_more (map g (flat_map f (take i xs))) (map g ys) first mid new a b)

get_there : {A : Type 0} (xs : List A) (i : ℕ) (d : A) → i < length xs → slice_get xs i ≡ Some (get_or xs i d)
get_there [] i d l = absurd (omega arith)
get_there (x ∷ xs) zero d l = refl
get_there (x ∷ xs) (suc i) d l = get_there xs i d (omega arith)

pub marked_step : (all : List (Vec ℕ)) (i j : ℕ) (x : Vec ℕ) (marks : List Bool) (d : Bool) (old new : List (List ℕ)) → i < length all → x ≡ get_or all i x
    → j ≡ i → i < length marks → old ≡ marked (map bytes_of (take i all)) marks
    → new ≡ old ++ cond (get_or marks j d) (x.items ∷ []) [] → new ≡ marked (map bytes_of (take (i + 1) all)) marks
marked_step all i j x marks d old new l e s w o n =
    let long : length (map bytes_of (take i all)) ≡ i = length-map (take i all) bytes_of ∙ (let t = length-take i all in omega (arith, t)) in
    let at : slice_get marks (length (map bytes_of (take i all))) ≡ Some (get_or marks i d) = ap (slice_get marks) long ∙ get_there marks i d w in
    n ∙ ap (λ k. old ++ cond (get_or marks k d) (x.items ∷ []) []) s ∙ ap (λ os. os ++ cond (get_or marks i d) (x.items ∷ []) []) o
    ∙ sym (marked_snoc (map bytes_of (take i all)) x.items marks (get_or marks i d) at) ∙ ap (λ ns. marked ns marks) (sym (mapped_step bytes_of all i x l e))

-- ---- parts

pub told_step : {A B C R : Type 0} (view : B → C) (told : R → C) (row : A → R) (xs : List A) (i : ℕ) (x : A) (b : B) (old new : List B) → i < length xs
    → x ≡ get_or xs i x → map view old ≡ map told (map row (take i xs)) → view b ≡ told (row x)
    → new ≡ old ++ b ∷ [] → map view new ≡ map told (map row (take (i + 1) xs))
told_step view told row xs i x b old new l e o v n =
    ap (map view) n ∙ map_append view old (b ∷ []) ∙ ap (λ cs. cs ++ view b ∷ []) o ∙ ap (λ c. map told (map row (take i xs)) ++ c ∷ []) v
    ∙ sym (ap (map told) (mapped_step row xs i x l e) ∙ map_append told (map row (take i xs)) (row x ∷ []))

cells_snoc : (x : Numbers) (place : ℕ) (rs : List GlobalRow) (r : GlobalRow)
    → cells_told x place (rs ++ r ∷ []) ≡ cells_told x place rs ++ map (cell_told x r.home.start (end_of place (map global_of_row rs))) r.global.cells
cells_snoc x place [] r = append_nothing (map (cell_told x r.home.start place) r.global.cells)
cells_snoc x place (q ∷ qs) r =
    ap (λ cs. map (cell_told x q.home.start place) q.global.cells ++ cs) (cells_snoc x (place + rounded q.global.size) qs r)
    ∙ sym (append_twice (map (cell_told x q.home.start place) q.global.cells) (cells_told x (place + rounded q.global.size) qs)
    (map (cell_told x r.home.start (end_of (place + rounded q.global.size) (map global_of_row qs))) r.global.cells))

pub cells_step : (n : Numbers) (xs : List FoundGlobal) (i : ℕ) (x : FoundGlobal) (place : ℕ) (old new : List GlobalCell) → i < length xs → x ≡ get_or xs i x
    → old ≡ cells_told n 0 (map global_row (take i xs)) → place ≡ end_of 0 (map global_of_row (map global_row (take i xs)))
    → new ≡ old ++ map (cell_told n x.home.start place) x.global.now.cells.items → new ≡ cells_told n 0 (map global_row (take (i + 1) xs))
cells_step n xs i x place old new l e o p w =
    w ∙ ap (λ cs. cs ++ map (cell_told n x.home.start place) x.global.now.cells.items) o
    ∙ ap (λ (k : ℕ). cells_told n 0 (map global_row (take i xs)) ++ map (cell_told n x.home.start k) x.global.now.cells.items) p
    ∙ sym (cells_snoc n 0 (map global_row (take i xs)) (global_row x)) ∙ ap (cells_told n 0) (sym (mapped_step global_row xs i x l e))

-- ---- main

pub first_there : {A R : Type 0} (t : R → Bool) (f : A → R) (n : ℕ) (xs : List A) (i : ℕ) (x : A) → i < length xs → x ≡ get_or xs i x
    → list_any t (map f (take i xs)) ≡ false → t (f x) ≡ true → position_from t n (map f xs) ≡ Some (n + i)
first_there t f n [] i x l e a p = absurd (omega arith)
first_there t f n (y ∷ ys) zero x l e a p =
    let here : t (f y) ≡ true = ap (λ z. t (f z)) (sym e) ∙ p in
    let s : n ≡ n + 0 = omega arith in
    ap (λ b. cond b (Some n) (position_from t (n + 1) (map f ys))) here ∙ ap (λ (k : ℕ). Some k) s
first_there t f n (y ∷ ys) (suc i) x l e a p =
    let parts = both (t (f y)) (list_any t (map f (take i ys))) a in
    let s : n + 1 + i ≡ n + suc i = omega arith in
    ap (λ b. cond b (Some n) (position_from t (n + 1) (map f ys))) parts.0 ∙ first_there t f (n + 1) ys i x (omega arith) e parts.1 p ∙ ap (λ (k : ℕ). Some k) s
  where
    both : (a b : Bool) → (a || b) ≡ false → (a ≡ false) × (b ≡ false)
    both true b h = cc
    both false b h = (refl, h)

pub first_absent : {R : Type 0} (t : R → Bool) (n : ℕ) (xs : List R) → list_any t xs ≡ false → position_from t n xs ≡ None
first_absent t n [] a = refl
first_absent t n (x ∷ xs) a = by (t x) a (first_absent t (n + 1) xs)
  where
    by : (b : Bool) → (b || list_any t xs) ≡ false → (list_any t xs ≡ false → position_from t (n + 1) xs ≡ None)
        → cond b (Some n) (position_from t (n + 1) xs) ≡ None
    by true h f = cc
    by false h f = f h
