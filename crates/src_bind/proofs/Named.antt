-- Numbers by symbols.
use Rattle.std.proofs.Common.{◌≡◌, ◌∙◌, ◌<◌, ◌≤◌, ℕ, suc, Bool, true, false, not, cond, ◌&&◌, ◌||◌, ◌==◌, List, [], ◌∷◌, length, refl, sym, ap, arith, Option}
use Rattle.std.proofs.Common.{Some, None}
use Rattle.std.specs.Global.{Vec}
use Rattle.std.proofs.lemmas.List.{length-map}
use Rattle.std.specs.List.{list_any}
use Rattle.cpp_tree.specs.cpp_types.Equal.{name_eq}
use Rattle.src_mean.specs.Links.{Def, same_def, number_in, number_if}
use Rattle.src_bind.specs.declared.defs.Found.{Found}
use Rattle.src_bind.specs.Defs.{named, def_of, defs_of}
use Rattle.src_bind.specs.Numbers.{slot_numbers}

same_number : (a b : ℕ) → (a == b) ≡ (b == a)
same_number a b = grind arith

pub name_turned : (s t : List ℕ) → name_eq s t ≡ name_eq t s
name_turned [] [] = refl
name_turned [] (b ∷ t) = refl
name_turned (a ∷ s) [] = refl
name_turned (a ∷ s) (b ∷ t) = ap (λ z. z && name_eq s t) (same_number a b) ∙ ap (λ z. (b == a) && z) (name_turned s t)

and_no : (b : Bool) → (b && false) ≡ false
and_no true = refl
and_no false = refl

seen_outside : (z i : Bool) → cond i (z && false) true ≡ not i
seen_outside z true = and_no z
seen_outside z false = refl

same_named : (s : List ℕ) (d : Def) → same_def (named s) d ≡ (name_eq d.symbol s && not d.internal)
same_named s d = ap (λ z. z && cond d.internal ((0 == d.unit) && false) true) (name_turned s d.symbol)
    ∙ ap (λ z. name_eq d.symbol s && z) (seen_outside (0 == d.unit) d.internal)

any_named : (s : List ℕ) (ds : List Def) → list_any (same_def (named s)) ds ≡ list_any (λ (d : Def). name_eq d.symbol s && not d.internal) ds
any_named s [] = refl
any_named s (d ∷ ds) = ap (λ z. z || list_any (same_def (named s)) ds) (same_named s d) ∙ ap (λ z. (name_eq d.symbol s && not d.internal) || z) (any_named s ds)

among_by : (b : Bool) (n many : ℕ) (rest : Bool) → (n < many → rest ≡ true) → cond b 0 (suc n) < suc many → (b || rest) ≡ true
among_by true n many rest f h = refl
among_by false n many rest f h = f (omega (arith, h))

among : (d : Def) (ds : List Def) → number_in d ds < length ds → list_any (same_def d) ds ≡ true
among d [] h = absurd (omega (arith, h))
among d (e ∷ es) h = among_by (same_def d e) (number_in d es) (length es) (list_any (same_def d) es) (among d es) h

not_among_by : (b : Bool) (n many : ℕ) (rest : Bool) → (many ≤ n → rest ≡ false) → suc many ≤ cond b 0 (suc n) → (b || rest) ≡ false
not_among_by true n many rest f h = absurd (omega (arith, h))
not_among_by false n many rest f h = f (omega (arith, h))

not_among : (d : Def) (ds : List Def) → length ds ≤ number_in d ds → list_any (same_def d) ds ≡ false
not_among d [] h = refl
not_among d (e ∷ es) h = not_among_by (same_def d e) (number_in d es) (length es) (list_any (same_def d) es) (not_among d es) h

pub symbol_there : (o : Option (Vec ℕ)) (name : Vec ℕ) (lent : List ℕ) (kept : List Found) (n : ℕ) → o ≡ Some name → lent ≡ name.items
    → n ≡ number_in (named lent) (defs_of kept) → n < length kept → Some n ≡ slot_numbers (defs_of kept) o
symbol_there o name lent kept n p q e h =
    let f : n ≡ number_in (named name.items) (defs_of kept) = e ∙ ap (λ z. number_in (named z) (defs_of kept)) q in
    let m : length (defs_of kept) ≡ length kept = length-map kept def_of in
    let g : number_in (named name.items) (defs_of kept) < length (defs_of kept) = omega (arith, h, f, m) in
    sym (ap (slot_numbers (defs_of kept)) p ∙ ap (λ z. number_if z (number_in (named name.items) (defs_of kept)))
    (sym (any_named name.items (defs_of kept)) ∙ among (named name.items) (defs_of kept) g) ∙ ap Some (sym f))

pub symbol_not_there : (o : Option (Vec ℕ)) (name : Vec ℕ) (lent : List ℕ) (kept : List Found) (n : ℕ) → o ≡ Some name → lent ≡ name.items
    → n ≡ number_in (named lent) (defs_of kept) → length kept ≤ n → None ≡ slot_numbers (defs_of kept) o
symbol_not_there o name lent kept n p q e h =
    let f : n ≡ number_in (named name.items) (defs_of kept) = e ∙ ap (λ z. number_in (named z) (defs_of kept)) q in
    let m : length (defs_of kept) ≡ length kept = length-map kept def_of in
    let g : length (defs_of kept) ≤ number_in (named name.items) (defs_of kept) = omega (arith, h, f, m) in
    sym (ap (slot_numbers (defs_of kept)) p ∙ ap (λ z. number_if z (number_in (named name.items) (defs_of kept)))
    (sym (any_named name.items (defs_of kept)) ∙ not_among (named name.items) (defs_of kept) g))
