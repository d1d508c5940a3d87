-- One more at the end of a list of rows.
use Rattle.std.proofs.Common.{Bool, true, false, ◌≡◌, ◌≤◌, ℕ, ◌+◌, List, [], ◌∷◌, ◌++◌, map, filter, length, refl, sym, ap, ◌∙◌, arith, ◌&&◌, not, cond}
use Rattle.std.proofs.Common.{length-append}
use Rattle.std.specs.List.{flat_map}
use Rattle.tx_code.specs.Objects.{GlobalView, ObjectView}
use Rattle.tx_code.specs.WellFormed.{same}
use Rattle.tx_code.specs.Linked.{end_of, rounded, is_defined_global, is_string}
use Rattle.link_faults.specs.Ranks.{names_of}
use Rattle.link_tables.specs.declared.symbols.Symbol.{Symbol}
use Rattle.link_tables.specs.Homes.{HomeView, homes}
use Rattle.link_tables.specs.Found.{FuncRow, ClassRow, GlobalRow, kept_with_row, kept_rows, kept_with_class, kept_class_rows, numbered, placed, global_of_row}
use Rattle.link_tables.specs.Found.{row_of_global, globals_in}

pub kept_snoc : (kept rs : List FuncRow) (r : FuncRow) → kept_rows kept (rs ++ r ∷ []) ≡ kept_with_row (kept_rows kept rs) r
kept_snoc kept [] r = refl
kept_snoc kept (x ∷ xs) r = kept_snoc (kept_with_row kept x) xs r

pub kept_class_snoc : (kept rs : List ClassRow) (r : ClassRow) → kept_class_rows kept (rs ++ r ∷ []) ≡ kept_with_class (kept_class_rows kept rs) r
kept_class_snoc kept [] r = refl
kept_class_snoc kept (x ∷ xs) r = kept_class_snoc (kept_with_class kept x) xs r

pub numbered_snoc : (n : ℕ) (ss : List Symbol) (s : Symbol) → numbered n (ss ++ s ∷ []) ≡ numbered n ss ++ record { symbol = s; number = n + length ss } ∷ []
numbered_snoc n [] s = let e : n ≡ n + 0 = omega arith in ap (λ (k : ℕ). record { symbol = s; number = k } ∷ []) e
numbered_snoc n (x ∷ xs) s =
    let e : n + 1 + length xs ≡ n + length (x ∷ xs) = omega arith in
    ap (λ ds. record { symbol = x; number = n } ∷ ds)
    (numbered_snoc (n + 1) xs s ∙ ap (λ (k : ℕ). numbered (n + 1) xs ++ record { symbol = s; number = k } ∷ []) e)

pub placed_snoc : (start : ℕ) (rs : List GlobalRow) (r : GlobalRow)
    → placed start (rs ++ r ∷ []) ≡ placed start rs ++ record { symbol = r.symbol; number = end_of start (map global_of_row rs) } ∷ []
placed_snoc start [] r = refl
placed_snoc start (x ∷ xs) r = ap (λ ds. record { symbol = x.symbol; number = start } ∷ ds) (placed_snoc (start + rounded x.global.size) xs r)

pub end_snoc : (start : ℕ) (rs : List GlobalRow) (r : GlobalRow)
    → end_of start (map global_of_row (rs ++ r ∷ [])) ≡ end_of start (map global_of_row rs) + rounded r.global.size
end_snoc start [] r = refl
end_snoc start (x ∷ xs) r = end_snoc (start + rounded x.global.size) xs r

pub end_above : (start : ℕ) (rs : List GlobalRow) → start ≤ end_of start (map global_of_row rs)
end_above start [] = omega arith
end_above start (x ∷ xs) = let e = end_above (start + rounded x.global.size) xs in omega (arith, e)

pub end_append : (start : ℕ) (rs ss : List GlobalRow)
    → end_of start (map global_of_row (rs ++ ss)) ≡ end_of (end_of start (map global_of_row rs)) (map global_of_row ss)
end_append start [] ss = refl
end_append start (x ∷ xs) ss = end_append (start + rounded x.global.size) xs ss

pub homes_snoc : (at start : ℕ) (os : List ObjectView) (o : ObjectView)
    → homes at start (os ++ o ∷ []) ≡ homes at start os ++ record { at = at + length os; start = start + length (flat_map names_of os); object = o } ∷ []
homes_snoc at start [] o =
    let a : at ≡ at + 0 = omega arith in
    let b : start ≡ start + 0 = omega arith in
    ap (λ (k : ℕ). record { at = k; start = start; object = o } ∷ []) a ∙ ap (λ (k : ℕ). record { at = at + 0; start = k; object = o } ∷ []) b
homes_snoc at start (x ∷ xs) o =
    let a : at + 1 + length xs ≡ at + length (x ∷ xs) = omega arith in
    let l : length (flat_map names_of (x ∷ xs)) ≡ length (x.names ++ flat_map names_of xs) = refl in
    let b : start + length x.names + length (flat_map names_of xs) ≡ start + length (flat_map names_of (x ∷ xs)) =
    omega (arith, l, length-append x.names (flat_map names_of xs)) in
    ap (λ hs. record { at = at; start = start; object = x } ∷ hs)
    (homes_snoc (at + 1) (start + length x.names) xs o
    ∙ ap (λ (k : ℕ). homes (at + 1) (start + length x.names) xs ++ record { at = k; start = start + length x.names + length (flat_map names_of xs); object = o }
    ∷ []) a
    ∙ ap (λ (k : ℕ). homes (at + 1) (start + length x.names) xs ++ record { at = at + length (x ∷ xs); start = k; object = o } ∷ []) b)

-- globals of string literals and the others
pub others : (o : ObjectView) (gs : List GlobalView) → filter (λ g. is_defined_global g && same false (is_string o g)) gs
    ≡ filter (λ g. not (is_string o g)) (filter is_defined_global gs)
others o [] = refl
others o (g ∷ gs) = by (is_defined_global g) (others o gs)
  where
    by : (b : Bool) → filter (λ g. is_defined_global g && same false (is_string o g)) gs ≡ filter (λ g. not (is_string o g)) (filter is_defined_global gs)
        → cond (b && same false (is_string o g)) (g ∷ filter (λ g. is_defined_global g && same false (is_string o g)) gs)
        (filter (λ g. is_defined_global g && same false (is_string o g)) gs)
        ≡ filter (λ g. not (is_string o g)) (cond b (g ∷ filter is_defined_global gs) (filter is_defined_global gs))
    by true e = ap (λ hs. cond (not (is_string o g)) (g ∷ hs) hs) e
    by false e = e

pub literals : (o : ObjectView) (gs : List GlobalView)
    → filter (λ g. is_defined_global g && same true (is_string o g)) gs ≡ filter (is_string o) (filter is_defined_global gs)
literals o [] = refl
literals o (g ∷ gs) = by (is_defined_global g) (literals o gs)
  where
    by : (b : Bool) → filter (λ g. is_defined_global g && same true (is_string o g)) gs ≡ filter (is_string o) (filter is_defined_global gs)
        → cond (b && same true (is_string o g)) (g ∷ filter (λ g. is_defined_global g && same true (is_string o g)) gs)
        (filter (λ g. is_defined_global g && same true (is_string o g)) gs)
        ≡ filter (is_string o) (cond b (g ∷ filter is_defined_global gs) (filter is_defined_global gs))
    by true e = ap (λ hs. cond (is_string o g) (g ∷ hs) hs) e
    by false e = e

map_append : {A B : Type 0} (f : A → B) (xs ys : List A) → map f (xs ++ ys) ≡ map f xs ++ map f ys
map_append f [] ys = refl
map_append f (x ∷ xs) ys = ap (λ zs. f x ∷ zs) (map_append f xs ys)

append_assoc : {A : Type 0} (xs ys zs : List A) → (xs ++ ys) ++ zs ≡ xs ++ (ys ++ zs)
append_assoc [] ys zs = refl
append_assoc (x ∷ xs) ys zs = ap (λ ws. x ∷ ws) (append_assoc xs ys zs)

-- the two parts of an object's globals, one behind the other
pub both_parts : (all : List (List ℕ)) (h : HomeView) (old mid new : List GlobalRow)
    → mid ≡ old ++ map (row_of_global all h) (filter (λ g. is_defined_global g && same false (is_string h.object g)) h.object.globals)
    → new ≡ mid ++ map (row_of_global all h) (filter (λ g. is_defined_global g && same true (is_string h.object g)) h.object.globals)
    → new ≡ old ++ globals_in all h
both_parts all h old mid new e f =
    let a = others h.object h.object.globals in
    let b = literals h.object h.object.globals in
    let e' = rw a at e in
    let f' = rw (b, e') at f in
    f' ∙ append_assoc old _ _ ∙ ap (λ zs. old ++ zs) (sym
    (map_append (row_of_global all h) (filter (λ g. not (is_string h.object g)) (filter is_defined_global h.object.globals))
    (filter (is_string h.object) (filter is_defined_global h.object.globals))))
