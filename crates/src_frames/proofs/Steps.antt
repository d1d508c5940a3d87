-- Steps that look at lists: kids, and the words of a call.
use Rattle.std.proofs.Common.{◌≡◌, ◌∙◌, ℕ, zero, suc, ◌+◌, List, [], ◌∷◌, refl, sym, ap, drop, true, false, add-one}
use Rattle.std.specs.Prelude.{Some, None, slice_get}
use Rattle.std.proofs.lemmas.Option.{slice_get_within, get_or_from_slice_get}
use Rattle.std.proofs.Math.Seq.{drop-cons}
use Rattle.cpp_tree.specs.tx_events.declared.Event.TheVariants.{Silent}
use Rattle.cpp_tree.specs.Trees.{Trees, none, more, first, rest}
use Rattle.src_mean.specs.Linked.{Program, WordPlace}
use Rattle.src_mean.specs.Frames.{Here, Callee, Frame, at, value, Run, Words, Passes}
use Rattle.src_mean.specs.Source.{next_word, invoke, give, write, plus}
use Rattle.src_frames.specs.Trees.{are_none}

pub word_more : (p : Program) (h : Here) (callee : Callee) (before : List ℕ) (ts : Trees) (k : List Frame) → are_none ts ≡ false
    → next_word p h callee before ts k ≡ at Silent h (Run value (first ts) ∷ Words callee before (rest ts) ∷ k)
word_more p h callee before none k e = absurd cc
word_more p h callee before (more t ts) k e = refl

pub word_none : (p : Program) (h : Here) (callee : Callee) (before : List ℕ) (ts : Trees) (k : List Frame) → are_none ts ≡ true
    → next_word p h callee before ts k ≡ invoke p h callee before k
word_none p h callee before none k e = refl
word_none p h callee before (more t ts) k e = absurd cc

drop_some : {A : Type 0} (xs : List A) (n : ℕ) (x : A) → slice_get xs n ≡ Some x → drop n xs ≡ x ∷ drop (n + 1) xs
drop_some xs n x e =
    let here : drop n xs ≡ _ ∷ drop (suc n) xs = drop-cons xs n x (slice_get_within xs n x e) in
    here ∙ ap (λ z. z ∷ drop (suc n) xs) (get_or_from_slice_get xs n x x e) ∙ ap (λ z. x ∷ drop z xs) (sym (add-one n))

drop_none : {A : Type 0} (xs : List A) (n : ℕ) → slice_get xs n ≡ None → drop n xs ≡ []
drop_none [] zero e = refl
drop_none [] (suc n) e = refl
drop_none (x ∷ xs) zero e = absurd cc
drop_none (x ∷ xs) (suc n) e = drop_none xs n e

-- no word is left to pass
pub pass_no_word : (p : Program) (h : Here) (v : ℕ) (words : List ℕ) (places : List WordPlace) (from : ℕ) (k : List Frame) → slice_get words from ≡ None
    → give p h v (Passes (drop from words) (drop from places) ∷ k) ≡ give p h 0 k
pass_no_word p h v words places from k e = ap (λ z. give p h v (Passes z (drop from places) ∷ k)) (drop_none words from e)

-- no place is left
pub pass_no_place : (p : Program) (h : Here) (v : ℕ) (words : List ℕ) (places : List WordPlace) (from w : ℕ) (k : List Frame) → slice_get words from ≡ Some w
    → slice_get places from ≡ None → give p h v (Passes (drop from words) (drop from places) ∷ k) ≡ give p h 0 k
pass_no_place p h v words places from w k e f = ap (λ z. give p h v (Passes z (drop from places) ∷ k)) (drop_some words from w e)
    ∙ ap (λ z. give p h v (Passes (w ∷ drop (from + 1) words) z ∷ k)) (drop_none places from f)

pub pass_one : (p : Program) (h : Here) (v : ℕ) (words : List ℕ) (places : List WordPlace) (from w : ℕ) (place : WordPlace) (k : List Frame)
    → slice_get words from ≡ Some w → slice_get places from ≡ Some place
    → give p h v (Passes (drop from words) (drop from places) ∷ k)
    ≡ write h (plus h.frame place.offset) place.kind place.volatile w (Passes (drop (from + 1) words) (drop (from + 1) places) ∷ k)
pass_one p h v words places from w place k e f = ap (λ z. give p h v (Passes z (drop from places) ∷ k)) (drop_some words from w e)
    ∙ ap (λ z. give p h v (Passes (w ∷ drop (from + 1) words) z ∷ k)) (drop_some places from place f)
