-- Entries in another order, and with bodies.
use Rattle.std.proofs.Common.{◌≡◌, ◌∙◌, ℕ, zero, suc, List, [], ◌∷◌, map, Option, Some, slice_get, slice_set, refl, ap, sym, subst}
use Rattle.std.specs.List.Sorted.{IsPermutation}
use Rattle.std.proofs.lemmas.List.Sorted.{IsPermutation-map}
use Rattle.tx_code.specs.declared.object.ObjFunc.{ObjFunc}
use Rattle.tx_code.specs.declared.body.Body.{Body}
use Rattle.tx_code.specs.Objects.{ObjectView, func_view}
use Rattle.unit_entries.specs.Records.{func_record}
use Rattle.cpp_tree.specs.declared.program.UnitTree.{UnitTree}
use Rattle.cpp_tree.specs.Units.{Unit, unit_of}

-- what is said of a list stays where one of its items changes in what is not said
twice_set : {A B C : Type 0} (f : A → B) (g : B → C) (xs : List A) (i : ℕ) (x y : A) → slice_get xs i ≡ Some x → g (f y) ≡ g (f x)
    → map g (map f (slice_set xs i y)) ≡ map g (map f xs)
twice_set f g [] i x y e h = absurd cc
twice_set f g (z ∷ zs) zero x y e h = let k : z ≡ x = cc in ap (λ w. w ∷ map g (map f zs)) (h ∙ ap (λ w. g (f w)) (sym k))
twice_set f g (z ∷ zs) (suc i) x y e h = ap (λ ws. g (f z) ∷ ws) (twice_set f g zs i x y e h)

-- what is said of an entry but its bodies stays where it gets others
pub bodies_set : (o : ObjectView) (funcs : List ObjFunc) (i : ℕ) (f : ObjFunc) (plain safe : Option Body) → slice_get funcs i ≡ Some f
    → map (func_record o) (map func_view (slice_set funcs i
    (record { symbol = f.symbol; ty = f.ty; linkage = f.linkage; flags = f.flags; text = f.text; frame = f.frame; plain = plain; safe = safe })))
    ≡ map (func_record o) (map func_view funcs)
bodies_set o funcs i f plain safe e = twice_set func_view (func_record o) funcs i f
    (record { symbol = f.symbol; ty = f.ty; linkage = f.linkage; flags = f.flags; text = f.text; frame = f.frame; plain = plain; safe = safe }) e refl

-- what is said of a list is said of it in another order
pub in_order : {A B C : Type 0} (f : A → B) (g : B → C) (xs ys : List A) (all : List C) → map g (map f xs) ≡ all → IsPermutation xs ys
    → IsPermutation all (map g (map f ys))
in_order f g xs ys all e h = subst (λ zs. IsPermutation zs (map g (map f ys))) e (IsPermutation-map g (map f xs) (map f ys) (IsPermutation-map f xs ys h))

-- the unit at a place
pub unit_at : (units : List UnitTree) (n : ℕ) (tree : UnitTree) (u : Unit) → slice_get units n ≡ Some tree → slice_get (map unit_of units) n ≡ Some u
    → unit_of tree ≡ u
unit_at [] n tree u e h = absurd cc
unit_at (t ∷ ts) zero tree u e h = let k : t ≡ tree = cc in let l : unit_of t ≡ u = cc in ap unit_of (sym k) ∙ l
unit_at (t ∷ ts) (suc n) tree u e h = unit_at ts n tree u e h

-- what is said by names is said by what they are read from
pub named_so : {A C : Type 0} {ns ms : A} {all : C} (f : A → C) → ns ≡ ms → f ns ≡ all → f ms ≡ all
named_so f e h = sym (ap f e) ∙ h
