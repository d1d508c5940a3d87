-- What is written for parts, as trees of nodes that grow; a class that is marked and marked back.
use Rattle.std.proofs.Common.{◌≡◌, ◌∙◌, ℕ, zero, suc, Bool, true, false, nat_lt, ◌&&◌, List, [], ◌∷◌, length, map, Option, Some, None, option_map}
use Rattle.std.proofs.Common.{if◌then◌else◌, refl, sym, ap}
use Rattle.std.proofs.lemmas.Bool.{and_parts, ltb-true}
use Rattle.elab_entry.specs.cpp_tree.Trees.{Tree}
use Rattle.elab_entry.specs.cpp_tree.Arena.{tree_at, Grows}
use Rattle.elab_entry.specs.elab_ctx.Ctx.{Ctx, Traits}
use Rattle.elab_entry.proofs.elab_ctx.Looks.{at_grown, within_grown}
use Rattle.std.proofs.lemmas.Bool.{lt-ltb}
use Rattle.elab_entry.specs.elab_rules.Names.{same_variable}
use Rattle.elab_entry.specs.elab_rules.Members.{Given, same_part, given_for}
use Rattle.elab_implicit.specs.declared.given.Given.{Given as GivenRec}
use Rattle.elab_implicit.specs.Written.{given_in, found_for, are_there, traits_in, marked_abstract, was_abstract, with_abstract}

same_is : (i j : Option ℕ) → same_part i j ≡ same_variable i j
same_is (Some i) (Some j) = refl
same_is (Some i) None = refl
same_is None (Some j) = refl
same_is None None = refl

first_or : (trees : List Tree) (b : Bool) (g : GivenRec) (x : Option Given) (y : Option GivenRec) → x ≡ option_map (given_in trees) y
    → (if b then Some (given_in trees g) else x) ≡ option_map (given_in trees) (if b then Some g else y)
first_or trees true g x y e = refl
first_or trees false g x y e = e

pub given_is : (trees : List Tree) (i : Option ℕ) (gs : List GivenRec) → given_for i (map (given_in trees) gs) ≡ option_map (given_in trees) (found_for i gs)
given_is trees i [] = refl
given_is trees i (g ∷ gs) = ap (λ (z : Bool). if z then Some (given_in trees g) else given_for i (map (given_in trees) gs)) (same_is i g.member)
    ∙ first_or trees (same_variable i g.member) g (given_for i (map (given_in trees) gs)) (found_for i gs) (given_is trees i gs)

pub given_grown : (old new : List Tree) (gs : List GivenRec) → Grows old new → are_there (length old) gs ≡ true → map (given_in new) gs ≡ map (given_in old) gs
given_grown old new [] g h = refl
given_grown old new (x ∷ xs) g h =
    let p = and_parts (nat_lt x.init.0 (length old)) (are_there (length old) xs) h in
    let first : tree_at new x.init ≡ tree_at old x.init = at_grown old new x.init g (ltb-true x.init.0 (length old) p.0) in
    ap (λ (z : Tree). record { member = x.member; at = x.at; tree = z } ∷ map (given_in new) xs) first
    ∙ ap (λ (z : List Given). given_in old x ∷ z) (given_grown old new xs g p.1)

both_true : (a b : Bool) → a ≡ true → b ≡ true → (a && b) ≡ true
both_true a b h g = rw (h, g) refl

pub there_grown : (old new : List Tree) (gs : List GivenRec) → Grows old new → are_there (length old) gs ≡ true → are_there (length new) gs ≡ true
there_grown old new [] g h = refl
there_grown old new (x ∷ xs) g h =
    let p = and_parts (nat_lt x.init.0 (length old)) (are_there (length old) xs) h in
    both_true _ _ (lt-ltb x.init.0 (length new) (within_grown old new x.init g (ltb-true x.init.0 (length old) p.0))) (there_grown old new xs g p.1)

-- what is found now for a part is what was written at first
pub found_is : (old new : List Tree) (i : Option ℕ) (gs : List GivenRec) (found : Option GivenRec) → Grows old new → are_there (length old) gs ≡ true
    → found ≡ found_for i gs → option_map (given_in new) found ≡ given_for i (map (given_in old) gs)
found_is old new i gs found g h e = ap (option_map (given_in new)) e ∙ sym (given_is new i gs) ∙ ap (given_for i) (given_grown old new gs g h)

-- Marks of classes

marked_back : (ts : List Traits) (n : ℕ) → marked_abstract (marked_abstract ts n false) n (traits_in ts n).is_abstract ≡ ts
marked_back [] n = refl
marked_back (t ∷ ts) zero = refl
marked_back (t ∷ ts) (suc n) = ap (λ (z : List Traits). t ∷ z) (marked_back ts n)

pub abstract_back : (c d e : Ctx) (n : ℕ) (was : Bool) → d ≡ with_abstract c (Some n) false → was ≡ was_abstract c (Some n) → e ≡ with_abstract d (Some n) was
    → e ≡ c
abstract_back c d e n was f g h = h ∙ ap (λ (z : Bool). with_abstract d (Some n) z) g ∙ ap (λ (z : Ctx). with_abstract z (Some n) (was_abstract c (Some n))) f
    ∙ ap (λ (z : List Traits). record c { traits = z }) (marked_back c.traits n)
