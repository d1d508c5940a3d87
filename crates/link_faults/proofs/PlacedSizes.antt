-- What globals take, whatever their order.
use Rattle.std.proofs.Common.{Bool, true, false, ◌≡◌, ◌≤◌, ℕ, ◌+◌, List, [], ◌∷◌, ◌++◌, map, filter, length, refl, sym, ap, ◌∙◌, arith, not, nat_lt, cond}
use Rattle.std.proofs.Common.{if◌then◌else◌}
use Rattle.std.specs.List.{list_all, sum_by, flat_map}
use borrow.Author.Tests.{ltb-true}
use Rattle.tx_code.specs.declared.object.Object.{Object}
use Rattle.tx_code.specs.declared.object.ObjGlobal.{ObjGlobal}
use Rattle.tx_code.specs.Objects.{ObjectView, GlobalView, object_view, global_view, bytes_of}
use Rattle.tx_code.specs.WellFormed.{IsObject, global_fits, ascends, ascends_from}
use Rattle.tx_code.specs.Linked.{GlobalDef, global_def, global_defs, placed_globals, is_defined_global, is_string, rounded, end_of}
use Rattle.link_faults.specs.Ranks.{names_of}
use Rattle.link_faults.specs.Sizes.{placed_size, size_in, name_count}
use Rattle.link_faults.proofs.Ascending.{and_left, and_right}
use Rattle.link_faults.proofs.ListedEntries.{global_symbol}
use Rattle.std.proofs.lemmas.List.{length-map}
use Rattle.std.proofs.lemmas.List.Sums.{sum_by-cons}
use Rattle.std.proofs.Common.{length-append}

sum_cons : {A : Type 0} (f : A → ℕ) (x : A) (xs : List A) → sum_by f (x ∷ xs) ≡ f x + sum_by f xs
sum_cons f x xs = sum_by-cons f x xs

end_of_append : (start : ℕ) (ds es : List GlobalDef) → end_of start (ds ++ es) ≡ end_of (end_of start ds) es
end_of_append start [] es = refl
end_of_append start (d ∷ ds) es = end_of_append (start + rounded d.global.size) ds es

end_of_globals : (start at : ℕ) (o : ObjectView) (gs : List GlobalView)
    → end_of start (map (global_def at o) gs) ≡ start + sum_by (λ (g : GlobalView). rounded g.size) gs
end_of_globals start at o [] = omega arith
end_of_globals start at o (g ∷ gs) = end_of_globals (start + rounded g.size) at o gs
    ∙ (let c = sum_cons (λ (g : GlobalView). rounded g.size) g gs in omega (arith, c))

sum_append : (f : GlobalView → ℕ) (xs ys : List GlobalView) → sum_by f (xs ++ ys) ≡ sum_by f xs + sum_by f ys
sum_append f [] ys = omega arith
sum_append f (x ∷ xs) ys =
    let e = sum_append f xs ys in
    let a = sum_cons f x (xs ++ ys) in
    let b = sum_cons f x xs in
    omega (arith, e, a, b)

sum_parts : (f : GlobalView → ℕ) (p : GlobalView → Bool) (xs : List GlobalView) → sum_by f (filter (λ x. not (p x)) xs) + sum_by f (filter p xs) ≡ sum_by f xs
sum_parts f p [] = omega arith
sum_parts f p (x ∷ xs) = by (p x) (sum_parts f p xs)
  where
    by : (b : Bool) → sum_by f (filter (λ x. not (p x)) xs) + sum_by f (filter p xs) ≡ sum_by f xs
        → sum_by f (cond (not b) (x ∷ filter (λ x. not (p x)) xs) (filter (λ x. not (p x)) xs)) + sum_by f (cond b (x ∷ filter p xs) (filter p xs))
        ≡ sum_by f (x ∷ xs)
    by true e = let a = sum_cons f x (filter p xs) in let b = sum_cons f x xs in omega (arith, e, a, b)
    by false e = let a = sum_cons f x (filter (λ x. not (p x)) xs) in let b = sum_cons f x xs in omega (arith, e, a, b)

sum_defined : (gs : List ObjGlobal) → sum_by (λ (g : GlobalView). rounded g.size) (filter is_defined_global (map global_view gs)) ≡ sum_by placed_size gs
sum_defined [] = refl
sum_defined (g ∷ gs) = by (is_defined_global (global_view g)) (sum_defined gs) ∙ sym (sum_cons placed_size g gs)
  where
    by : (b : Bool) → sum_by (λ (g : GlobalView). rounded g.size) (filter is_defined_global (map global_view gs)) ≡ sum_by placed_size gs
        → sum_by (λ (g : GlobalView). rounded g.size)
        (cond b (global_view g ∷ filter is_defined_global (map global_view gs)) (filter is_defined_global (map global_view gs)))
        ≡ (if b then rounded g.size else 0) + sum_by placed_size gs
    by true e = let a = sum_cons (λ (g : GlobalView). rounded g.size) (global_view g) (filter is_defined_global (map global_view gs)) in omega (arith, e, a)
    by false e = omega (arith, e)

placed_sum : (o : Object) → sum_by (λ (g : GlobalView). rounded g.size) (placed_globals (object_view o)) ≡ size_in o
placed_sum o =
    let v = object_view o in
    sum_append (λ (g : GlobalView). rounded g.size) (filter (λ g. not (is_string v g)) (filter is_defined_global v.globals))
    (filter (is_string v) (filter is_defined_global v.globals))
    ∙ sum_parts (λ (g : GlobalView). rounded g.size) (is_string v) (filter is_defined_global v.globals)
    ∙ sum_defined o.globals.items

pub all_placed : (start at : ℕ) (os : List Object) → end_of start (global_defs at (map object_view os)) ≡ start + sum_by size_in os
all_placed start at [] = omega arith
all_placed start at (o ∷ os) =
    let v = object_view o in
    end_of_append start (map (global_def at v) (placed_globals v)) (global_defs (at + 1) (map object_view os))
    ∙ ap (λ s. end_of s (global_defs (at + 1) (map object_view os))) (end_of_globals start at v (placed_globals v) ∙ ap (λ s. start + s) (placed_sum o))
    ∙ all_placed (start + size_in o) (at + 1) os ∙ (let c = sum_cons size_in o os in omega (arith, c))

-- ---- an object has no more globals than names

above : (n : ℕ) (g : GlobalView) (gs : List GlobalView) → ascends_from (λ (a b : GlobalView). nat_lt a.symbol b.symbol) g gs ≡ true
    → list_all (global_fits n) (g ∷ gs) ≡ true → g.symbol + length (g ∷ gs) ≤ n
above n g [] h l = let s = ltb-true g.symbol n (global_symbol n g (and_left (global_fits n g) _ l)) in omega (arith, s)
above n g (k ∷ ks) h l =
    let less = ltb-true g.symbol k.symbol (and_left _ _ h) in
    let rest = above n k ks (and_right (nat_lt g.symbol k.symbol) _ h) (and_right (global_fits n g) _ l) in
    omega (arith, less, rest)

few : (n : ℕ) (gs : List GlobalView) → ascends (λ (a b : GlobalView). nat_lt a.symbol b.symbol) gs ≡ true → list_all (global_fits n) gs ≡ true → length gs ≤ n
few n [] h l = omega arith
few n (g ∷ gs) h l = let a = above n g gs h l in omega (arith, a)

pub few_globals : (o : Object) → IsObject (object_view o) → length o.globals.items ≤ name_count o
few_globals o h =
    let a = few (length (map bytes_of o.names.items)) (map global_view o.globals.items) h.globals_ascend h.globals in
    omega (arith, a, length-map o.names.items bytes_of, length-map o.globals.items global_view)

pub names_counted : (os : List Object) → length (flat_map names_of (map object_view os)) ≡ sum_by name_count os
names_counted [] = refl
names_counted (o ∷ os) =
    let e = names_counted os in
    let c = sum_cons name_count o os in
    let l : length (flat_map names_of (map object_view (o ∷ os))) ≡ length (map bytes_of o.names.items ++ flat_map names_of (map object_view os)) = refl in
    omega (arith, e, c, l, length-append (map bytes_of o.names.items) (flat_map names_of (map object_view os)), length-map o.names.items bytes_of)
