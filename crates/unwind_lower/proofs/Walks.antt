-- Walks along lists, from the front or from the back.
use Rattle.std.proofs.Common.{◌≡◌, ◌∙◌, ℕ, zero, suc, ◌+◌, ◌<◌, ◌≤◌, Bool, List, [], ◌∷◌, length, take, drop, sym, ap, refl, arith, Some, Option, ◌⊎◌, inl, inr}
use Rattle.std.specs.Prelude.{slice_get, map, option_map}
use Rattle.std.proofs.lemmas.List.{drop_more, drop_all}
use Rattle.std.proofs.lemmas.Option.{slice_get-map}
use Rattle.cpp_tree.specs.cpp_types.Typ.{typ_of}
use Rattle.cpp_tree.specs.cpp_types.declared.types.Ty.{Ty}
use Rattle.cpp_tree.specs.cpp_types.declared.classes.At.{At}
use Rattle.cpp_tree.specs.declared.arena.TNodeId.{TNodeId}
use Rattle.low_code.specs.declared.writer.Jump.{Jump}
use Rattle.low_code.specs.Nodes.{Node, first_id, kid_in}
use Rattle.unwind_lower.specs.declared.items.Way.{Way}
use Rattle.unwind_lower.specs.declared.items.Item.TheVariants.{Handle}
use Rattle.unwind_lower.specs.States.{State, later}
use Rattle.unwind_lower.specs.Settings.{Setting, place_in}
use Rattle.unwind_lower.specs.Kids.{run_kid, runs, run_all}
use Rattle.unwind_lower.specs.Exceptions.{handles, later_handlers}
use Rattle.unwind_lower.specs.Blocks.{label_at, first_label, other_labels, run_item, labelled, run_items}
use Rattle.unwind_lower.specs.Functions.{store_word, store_each}

-- a loop from the back ends at the first place, or at once
pub drop_reached : {A : Type 0} (xs : List A) (index first : ℕ) → index ≤ length xs → index ≤ first → (index < length xs → first ≤ index)
    → drop index xs ≡ drop first xs
drop_reached xs index first w b h = elim (cases index (length xs) w) as (λ _. drop index xs ≡ drop first xs) [
  | inl less ↦ ap (λ n. drop n xs) (omega (arith, h less))
  | inr same ↦ drop_all index xs (omega (arith, same)) ∙ sym (drop_all first xs (omega (arith, same)))
]
  where
    cases : (a b : ℕ) → a ≤ b → (a < b) ⊎ (a ≡ b)
    cases a b w = grind arith

-- the kid before those that are run already
pub run_more : (n : Node) (way : Way) (i j : ℕ) (s : State) → i + 1 ≡ j → i < length n.kids
    → run_kid n i way (run_all way (drop j n.kids) s) ≡ run_all way (drop i n.kids) s
unfolding later run_kid runs run_all
run_more n way i j s e h = ap (λ k. run_kid n i way (run_all way (drop k n.kids) s)) (sym e)
    ∙ sym (ap (λ ids. run_all way ids s) (drop_more n.kids i first_id h))

pub handler_more : (kids : List TNodeId) (id : TNodeId) (i j scope : ℕ) (live : Bool) (s : State) → i + 1 ≡ j → i < length kids → id ≡ kid_in kids i
    → later (Handle id scope live) (later_handlers (drop j kids) scope live s) ≡ later_handlers (drop i kids) scope live s
unfolding later handles later_handlers
handler_more kids id i j scope live s e h is = ap (λ k. later (Handle id scope live) (later_handlers (drop k kids) scope live s)) (sym e)
    ∙ (ap (λ (x : TNodeId). later (Handle x scope live) (later_handlers (drop (i + 1) kids) scope live s)) is
    ∙ sym (ap (λ ids. later_handlers ids scope live s) (drop_more kids i first_id h)))

first_dropped : (labels : List (Option Jump)) (i : ℕ) → first_label (drop i labels) ≡ label_at labels i
first_dropped [] zero = refl
first_dropped [] (suc i) = refl
first_dropped (label ∷ labels) zero = refl
first_dropped (label ∷ labels) (suc i) = first_dropped labels i

others_dropped : (labels : List (Option Jump)) (i : ℕ) → other_labels (drop i labels) ≡ drop (suc i) labels
others_dropped [] zero = refl
others_dropped [] (suc i) = refl
others_dropped (label ∷ labels) zero = refl
others_dropped (label ∷ labels) (suc i) = others_dropped labels i

pub item_more : (g : Setting) (otherwise : Option Jump) (kids : List TNodeId) (labels : List (Option Jump)) (id : TNodeId) (label : Option Jump) (i j : ℕ)
    (s : State) → i + 1 ≡ j → i < length kids → id ≡ kid_in kids i → label ≡ label_at labels i
    → run_item g otherwise id label (run_items g otherwise (drop j kids) (drop j labels) s) ≡ run_items g otherwise (drop i kids) (drop i labels) s
unfolding later run_item labelled run_items
item_more g otherwise kids labels id label i j s e h is there =
    ap (λ k. run_item g otherwise id label (run_items g otherwise (drop k kids) (drop k labels) s)) (sym e)
    ∙ (ap (λ (x : TNodeId). run_item g otherwise x label (run_items g otherwise (drop (i + 1) kids) (drop (i + 1) labels) s)) is
    ∙ (ap (λ (l : Option Jump). run_item g otherwise (kid_in kids i) l (run_items g otherwise (drop (i + 1) kids) (drop (i + 1) labels) s))
    (there ∙ sym (first_dropped labels i))
    ∙ (ap (λ ls. run_item g otherwise (kid_in kids i) (first_label (drop i labels)) (run_items g otherwise (drop (i + 1) kids) ls s))
    (ap (λ k. drop k labels) {x = i + 1} {y = suc i} (omega arith) ∙ sym (others_dropped labels i))
    ∙ sym (ap (λ ids. run_items g otherwise ids (drop i labels) s) (drop_more kids i first_id h)))))

-- ---- the words of a call

pub taken_more : {A : Type 0} (xs : List A) (i n : ℕ) (x : A) → i < n → slice_get xs i ≡ Some x → drop i (take n xs) ≡ x ∷ drop (suc i) (take n xs)
taken_more [] i n x h e = absurd cc
taken_more (y ∷ ys) zero zero x h e = absurd (omega arith)
taken_more (y ∷ ys) zero (suc n) x h e = let is : y ≡ x = cc in ap (λ z. z ∷ take n ys) is
taken_more (y ∷ ys) (suc i) zero x h e = absurd (omega arith)
taken_more (y ∷ ys) (suc i) (suc n) x h e = taken_more ys i n x (omega arith) e

pub word_more : (g : Setting) (tys : List Ty) (i n : ℕ) (ty : Ty) (at : At) (s : State) → i < n → slice_get tys i ≡ Some ty
    → store_each g i (drop i (take n (map typ_of tys))) at s
    ≡ store_each g (i + 1) (drop (i + 1) (take n (map typ_of tys))) at (store_word (place_in g i) (typ_of ty) at s)
unfolding store_each
word_more g tys i n ty at s h e =
    ap (λ ts. store_each g i ts at s) (taken_more (map typ_of tys) i n (typ_of ty) h (slice_get-map typ_of tys i ∙ ap (option_map typ_of) e))
    ∙ ap (λ k. store_each g (i + 1) (drop k (take n (map typ_of tys))) at (store_word (place_in g i) (typ_of ty) at s)) {x = suc i} {y = i + 1} (omega arith)

one_of : (index count : ℕ) → index ≤ suc count → index ≤ 1 → (index < suc count → 1 ≤ index) → index ≡ 1
one_of index count w b h = grind arith

-- where the loop ends at the first place
pub items_reached : (g : Setting) (otherwise : Option Jump) (kids : List TNodeId) (labels : List (Option Jump)) (index : ℕ) (s : State)
    → index ≤ length kids → index ≤ 1 → (index < length kids → 1 ≤ index)
    → run_items g otherwise (drop index kids) (drop index labels) s ≡ run_items g otherwise (drop 1 kids) (drop 1 labels) s
unfolding labelled run_items
items_reached g otherwise [] labels index s w b h = ap (λ ids. run_items g otherwise ids (drop index labels) s) (drop_all {X = TNodeId} index [] (omega arith))
items_reached g otherwise (kid ∷ kids) labels index s w b h =
    ap (λ k. run_items g otherwise (drop k (kid ∷ kids)) (drop k labels) s) (one_of index (length kids) w b h)

pub taken_all : {A : Type 0} (xs : List A) (n i : ℕ) → n ≤ i → drop i (take n xs) ≡ []
taken_all xs zero i h = drop_all i [] (omega arith)
taken_all [] (suc n) i h = drop_all i [] (omega arith)
taken_all (x ∷ xs) (suc n) zero h = absurd (omega arith)
taken_all (x ∷ xs) (suc n) (suc i) h = taken_all xs n i (omega arith)
