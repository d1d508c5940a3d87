-- The steps of loops over homes, rows and numbers.
use Rattle.std.proofs.Common.{Bool, true, false, ◌≡◌, ◌<◌, ◌≤◌, ℕ, suc, zero, ◌+◌, List, [], ◌∷◌, ◌++◌, map, filter, take, length, refl, sym, ap, ◌∙◌, arith}
use Rattle.std.proofs.Common.{not, cond, get_or, add-one, length-append, length-take}
use Rattle.std.specs.List.{flat_map}
use Rattle.std.proofs.lemmas.List.{length-map}
use Rattle.tx_code.specs.declared.object.Object.{Object}
use Rattle.tx_code.specs.Objects.{ObjectView, object_view, bytes_of}
use Rattle.tx_code.specs.Linked.{end_of, rounded}
use Rattle.link_faults.specs.Ranks.{names_of}
use Rattle.link_faults.proofs.KeptDefinitions.{take_step}
use Rattle.link_tables.specs.declared.homes.Home.{Home}
use Rattle.link_tables.specs.declared.symbols.Symbol.{Symbol}
use Rattle.link_tables.specs.declared.symbols.Numbered.{Numbered}
use Rattle.link_tables.specs.declared.found.FoundFunc.{FoundFunc}
use Rattle.link_tables.specs.declared.found.FoundGlobal.{FoundGlobal}
use Rattle.link_tables.specs.declared.found.FoundClass.{FoundClass}
use Rattle.link_tables.specs.Symbols.{Seen, comes_again}
use Rattle.link_tables.specs.Homes.{home_view, homes}
use Rattle.link_tables.specs.Found.{FuncRow, func_row, func_symbol_of, kept_with_row, kept_rows, ClassRow, class_row, class_symbol_of, kept_with_class}
use Rattle.link_tables.specs.Found.{kept_class_rows, global_row, global_of_row, numbered, placed}
use Rattle.link_tables.proofs.Rows.{kept_snoc, kept_class_snoc, numbered_snoc, placed_snoc, end_snoc, end_above, homes_snoc}

map_append : {A B : Type 0} (f : A → B) (xs ys : List A) → map f (xs ++ ys) ≡ map f xs ++ map f ys
map_append f [] ys = refl
map_append f (x ∷ xs) ys = ap (λ zs. f x ∷ zs) (map_append f xs ys)

-- one more of the items before this index
pub mapped_step : {A B : Type 0} (f : A → B) (xs : List A) (i : ℕ) (x : A) → i < length xs → x ≡ get_or xs i x
    → map f (take (i + 1) xs) ≡ map f (take i xs) ++ f x ∷ []
mapped_step f xs i x l e = rw (add-one, take_step xs i x l, ← e) (map_append f (take i xs) (x ∷ []))

-- ---- homes

length_homes : (at start : ℕ) (os : List ObjectView) → length (homes at start os) ≡ length os
length_homes at start [] = refl
length_homes at start (o ∷ os) = let e = length_homes (at + 1) (start + length o.names) os in omega (arith, e)

pub homes_step : (objects : List Object) (i : ℕ) (o : Object) (found new : List Home) (h : Home) → i < length objects → o ≡ get_or objects i o
    → h.at ≡ length found → h.start ≡ length (flat_map names_of (map object_view (take i objects)))
    → object_view h.object.now ≡ object_view o → map home_view found ≡ homes 0 0 (map object_view (take i objects)) → new ≡ found ++ h ∷ []
    → map home_view new ≡ homes 0 0 (map object_view (take (i + 1) objects))
homes_step objects i o found new h l e a s q f n =
    let os = map object_view (take i objects) in
    let long : length found ≡ length os = sym (length-map found home_view) ∙ ap length f ∙ length_homes 0 0 os in
    let at : h.at ≡ 0 + length os = omega (arith, a, long) in
    let start : h.start ≡ 0 + length (flat_map names_of os) = omega (arith, s) in
    let one : home_view h ≡ record { at = 0 + length os; start = 0 + length (flat_map names_of os); object = object_view o } =
    λ t. record { at = at t; start = start t; object = q t } in
    ap (map home_view) n ∙ map_append home_view found (h ∷ []) ∙ ap (λ hs. hs ++ home_view h ∷ []) f ∙ ap (λ v. homes 0 0 os ++ v ∷ []) one
    ∙ sym (homes_snoc 0 0 os (object_view o)) ∙ ap (homes 0 0) (sym (mapped_step object_view objects i o l e))

flat_append : (xs ys : List ObjectView) → flat_map names_of (xs ++ ys) ≡ flat_map names_of xs ++ flat_map names_of ys
flat_append [] ys = refl
flat_append (x ∷ xs) ys = ap (λ ns. x.names ++ ns) (flat_append xs ys) ∙ sym (assoc x.names (flat_map names_of xs) (flat_map names_of ys))
  where
    assoc : {A : Type 0} (us vs ws : List A) → (us ++ vs) ++ ws ≡ us ++ (vs ++ ws)
    assoc [] vs ws = refl
    assoc (u ∷ us) vs ws = ap (λ ds. u ∷ ds) (assoc us vs ws)

pub names_step : (objects : List Object) (i : ℕ) (o : Object) → i < length objects → o ≡ get_or objects i o
    → length (flat_map names_of (map object_view (take (i + 1) objects))) ≡ length (flat_map names_of (map object_view (take i objects))) + length o.names.items
names_step objects i o l e =
    let os = map object_view (take i objects) in
    let v = object_view o in
    let a : length (flat_map names_of (map object_view (take (i + 1) objects))) ≡ length (flat_map names_of os ++ (v.names ++ [])) =
    ap (λ ps. length (flat_map names_of ps)) (mapped_step object_view objects i o l e) ∙ ap length (flat_append os (v ∷ [])) in
    let b = length-append (flat_map names_of os) (v.names ++ []) in
    let c = length-append v.names [] in
    let d : length v.names ≡ length o.names.items = length-map o.names.items bytes_of in
    omega (arith, a, b, c, d)

pub names_front : (objects : List Object) (i : ℕ) → length (flat_map names_of (map object_view (take i objects))) ≤ length
    (flat_map names_of (map object_view objects))
names_front [] zero = omega arith
names_front [] (suc i) = omega arith
names_front (o ∷ os) zero = omega arith
names_front (o ∷ os) (suc i) =
    let e = names_front os i in
    let v = object_view o in
    let a : length (flat_map names_of (map object_view (take (suc i) (o ∷ os)))) ≡ length (v.names ++ flat_map names_of (map object_view (take i os))) = refl in
    let b : length (flat_map names_of (map object_view (o ∷ os))) ≡ length (v.names ++ flat_map names_of (map object_view os)) = refl in
    omega (
      arith,
      e,
      a,
      b,
      length-append v.names (flat_map names_of (map object_view (take i os))),
      length-append v.names
          (flat_map names_of (map object_view os)),
    )

-- ---- kept ones

pub kept_step : (found : List FoundFunc) (i : ℕ) (x : FoundFunc) (old new : List FuncRow) (b : Bool) → i < length found → x ≡ get_or found i x
    → old ≡ kept_rows [] (map func_row (take i found))
    → b ≡ not (comes_again (map func_symbol_of old) x.symbol) → new ≡ cond b (old ++ func_row x ∷ []) old
    → new ≡ kept_rows [] (map func_row (take (i + 1) found))
kept_step found i x old new b l e f c n =
    n ∙ by b (comes_again (map func_symbol_of old) x.symbol) c
    ∙ ap (λ ks. kept_with_row ks (func_row x)) f ∙ sym (kept_snoc [] (map func_row (take i found)) (func_row x))
    ∙ ap (kept_rows []) (sym (mapped_step func_row found i x l e))
  where
    by : (b again : Bool) → b ≡ not again → cond b (old ++ func_row x ∷ []) old ≡ cond again old (old ++ func_row x ∷ [])
    by true true g = cc
    by true false g = refl
    by false true g = refl
    by false false g = cc

pub kept_class_step : (found : List FoundClass) (i : ℕ) (x : FoundClass) (old new : List ClassRow) (b : Bool) → i < length found → x ≡ get_or found i x
    → old ≡ kept_class_rows [] (map class_row (take i found))
    → b ≡ not (comes_again (map class_symbol_of old) x.symbol) → new ≡ cond b (old ++ class_row x ∷ []) old
    → new ≡ kept_class_rows [] (map class_row (take (i + 1) found))
kept_class_step found i x old new b l e f c n =
    n ∙ by b (comes_again (map class_symbol_of old) x.symbol) c
    ∙ ap (λ ks. kept_with_class ks (class_row x)) f ∙ sym (kept_class_snoc [] (map class_row (take i found)) (class_row x))
    ∙ ap (kept_class_rows []) (sym (mapped_step class_row found i x l e))
  where
    by : (b again : Bool) → b ≡ not again → cond b (old ++ class_row x ∷ []) old ≡ cond again old (old ++ class_row x ∷ [])
    by true true g = cc
    by true false g = refl
    by false true g = refl
    by false false g = cc

pub seen_step : {R : Type 0} (symbol : R → Symbol) (old new : List R) (x : R) (b : Bool) (before after : List Bool)
    → (b ≡ true → Seen (map symbol old ++ symbol x ∷ []) after) → (b ≡ false → after ≡ before) → Seen (map symbol old) before
    → new ≡ cond b (old ++ x ∷ []) old → Seen (map symbol new) after
seen_step {R} symbol old new x b before after f g h n = by b refl
  where
    by : (c : Bool) → b ≡ c → Seen (map symbol new) after
    by true e =
        let r : new ≡ old ++ x ∷ [] = n ∙ ap (λ d. cond d (old ++ x ∷ []) old) e in
        let s : map symbol new ≡ map symbol old ++ symbol x ∷ [] = ap (map symbol) r ∙ map_append symbol old (x ∷ []) in
        rw s (f e)
    by false e =
        let r : new ≡ old = n ∙ ap (λ d. cond d (old ++ x ∷ []) old) e in
        rw (g e, r) h

-- ---- numbers

pub numbers_step : {A B : Type 0} (g : B → Symbol) (f : A → B) (xs : List A) (i : ℕ) (x : A) (old new : List Numbered) (number : ℕ) → i < length xs
    → x ≡ get_or xs i x → number ≡ i → old ≡ numbered 0 (map g (map f (take i xs)))
    → new ≡ old ++ record { symbol = g (f x); number = number } ∷ [] → new ≡ numbered 0 (map g (map f (take (i + 1) xs)))
numbers_step g f xs i x old new number l e n d w =
    let long : length (map g (map f (take i xs))) ≡ i = length-map (map f (take i xs)) g ∙ length-map (take i xs) f
    ∙ (let t = length-take i xs in omega (arith, t)) in
    let k : number ≡ 0 + length (map g (map f (take i xs))) = omega (arith, n, long) in
    let rows : map g (map f (take (i + 1) xs)) ≡ map g (map f (take i xs)) ++ g (f x) ∷ [] = ap (map g) (mapped_step f xs i x l e)
    ∙ map_append g (map f (take i xs)) (f x ∷ []) in
    w ∙ ap (λ (m : ℕ). old ++ record { symbol = g (f x); number = m } ∷ []) k
    ∙ ap (λ ds. ds ++ record { symbol = g (f x); number = 0 + length (map g (map f (take i xs))) } ∷ []) d
    ∙ sym (numbered_snoc 0 (map g (map f (take i xs))) (g (f x))) ∙ ap (numbered 0) (sym rows)

pub placed_step : (xs : List FoundGlobal) (i : ℕ) (x : FoundGlobal) (old new : List Numbered) (number : ℕ) → i < length xs → x ≡ get_or xs i x
    → number ≡ end_of 0 (map global_of_row (map global_row (take i xs))) → old ≡ placed 0 (map global_row (take i xs))
    → new ≡ old ++ record { symbol = x.symbol; number = number } ∷ [] → new ≡ placed 0 (map global_row (take (i + 1) xs))
placed_step xs i x old new number l e n d w =
    let rows = map global_row (take i xs) in
    w ∙ ap (λ (m : ℕ). old ++ record { symbol = x.symbol; number = m } ∷ []) n
    ∙ ap (λ ds. ds ++ record { symbol = x.symbol; number = end_of 0 (map global_of_row rows) } ∷ []) d ∙ sym (placed_snoc 0 rows (global_row x))
    ∙ ap (placed 0) (sym (mapped_step global_row xs i x l e))

pub end_step : (xs : List FoundGlobal) (i : ℕ) (x : FoundGlobal) (number result : ℕ) → i < length xs → x ≡ get_or xs i x
    → number ≡ end_of 0 (map global_of_row (map global_row (take i xs))) → result ≡ number + rounded x.global.now.size
    → result ≡ end_of 0 (map global_of_row (map global_row (take (i + 1) xs)))
end_step xs i x number result l e n r =
    r ∙ ap (λ (m : ℕ). m + rounded x.global.now.size) n ∙ sym (end_snoc 0 (map global_row (take i xs)) (global_row x))
    ∙ ap (λ rs. end_of 0 (map global_of_row rs)) (sym (mapped_step global_row xs i x l e))

pub end_within : (start : ℕ) (xs : List FoundGlobal) (i : ℕ) (x : FoundGlobal) → i < length xs → x ≡ get_or xs i x
    → end_of start (map global_of_row (map global_row (take i xs))) + rounded x.global.now.size ≤ end_of start (map global_of_row (map global_row xs))
end_within start [] i x l e = absurd (omega arith)
end_within start (y ∷ ys) zero x l e =
    let s : rounded x.global.now.size ≡ rounded y.global.now.size = ap (λ (g : FoundGlobal). rounded g.global.now.size) e in
    let a = end_above (start + rounded y.global.now.size) (map global_row ys) in
    omega (arith, s, a)
end_within start (y ∷ ys) (suc i) x l e = end_within (start + rounded y.global.now.size) ys i x (omega arith) e

-- ---- globals

filter_append : {A : Type 0} (p : A → Bool) (xs : List A) (y : A) → filter p (xs ++ y ∷ []) ≡ filter p xs ++ cond (p y) (y ∷ []) []
filter_append p [] y = by (p y)
  where
    by : (b : Bool) → cond b (y ∷ []) [] ≡ [] ++ cond b (y ∷ []) []
    by true = refl
    by false = refl
filter_append p (x ∷ xs) y = by (p x) (filter_append p xs y)
  where
    by : (b : Bool) → filter p (xs ++ y ∷ []) ≡ filter p xs ++ cond (p y) (y ∷ []) []
        → cond b (x ∷ filter p (xs ++ y ∷ [])) (filter p (xs ++ y ∷ [])) ≡ cond b (x ∷ filter p xs) (filter p xs) ++ cond (p y) (y ∷ []) []
    by true e = ap (λ ys. x ∷ ys) e
    by false e = e

append_nothing : {A : Type 0} (xs : List A) → xs ++ [] ≡ xs
append_nothing [] = refl
append_nothing (x ∷ xs) = ap (λ ys. x ∷ ys) (append_nothing xs)

append_twice : {A : Type 0} (xs ys zs : List A) → (xs ++ ys) ++ zs ≡ xs ++ (ys ++ zs)
append_twice [] ys zs = refl
append_twice (x ∷ xs) ys zs = ap (λ ws. x ∷ ws) (append_twice xs ys zs)

-- one more item, that a filter keeps or not
pub filtered_step : {A V R : Type 0} (view : A → V) (row : V → R) (p : V → Bool) (xs : List A) (i : ℕ) (x : A) (first old new : List R) → i < length xs
    → x ≡ get_or xs i x → old ≡ first ++ map row (filter p (map view (take i xs)))
    → new ≡ cond (p (view x)) (old ++ row (view x) ∷ []) old → new ≡ first ++ map row (filter p (map view (take (i + 1) xs)))
filtered_step view row p xs i x first old new l e f n =
    let rest = filter p (map view (take i xs)) in
    n ∙ by (p (view x)) ∙ ap (λ os. os ++ map row (cond (p (view x)) (view x ∷ []) [])) f
    ∙ append_twice first (map row rest) (map row (cond (p (view x)) (view x ∷ []) []))
    ∙ ap (λ rs. first ++ rs) (sym (map_append row rest (cond (p (view x)) (view x ∷ []) [])) ∙ ap (map row)
    (sym (filter_append p (map view (take i xs)) (view x)) ∙ ap (filter p) (sym (mapped_step view xs i x l e))))
  where
    by : (b : Bool) → cond b (old ++ row (view x) ∷ []) old ≡ old ++ map row (cond b (view x ∷ []) [])
    by true = refl
    by false = sym (append_nothing old)
