-- What the stacks of all frames have.
use Rattle.std.proofs.Common.{true, ◌≡◌, ◌≤◌, ℕ, ◌-◌, List, [], ◌∷◌, ◌++◌, map, length, take, drop, reverse, refl, sym, ap, ◌∙◌, arith, get_or}
use Rattle.std.specs.Prelude.{Option, Some, None, nat_eq, ◌&&◌, slice_get}
use Rattle.std.specs.Option.{option_map}
use Rattle.std.proofs.lemmas.Bool.{eqb-true}
use Rattle.std.proofs.lemmas.List.{reverse-append, reverse-reverse, take-append-drop, length-take}
use Rattle.tx_code.specs.Meaning as meaning
use Rattle.tx_code.proofs.ReachedIndexes.{and_left, and_right}
use Rattle.vm_frames.specs.declared.parts.Suspended.{Suspended}
use Rattle.vm_frames.specs.declared.parts.Block.{Block}
use Rattle.vm_frames.specs.declared.parts.Exception.{Exception}
use Rattle.vm_frames.specs.Stacks.{above}
use Rattle.vm_frames.proofs.Stacked.{split_last}
use Rattle.std.proofs.lemmas.Option.{slice_get-get_or}
use Rattle.vm_frames.specs.Frames.{exception_of, frames_of, are_nested, words_down}

abbrev first : {A : Type 0} → List A → Option A
first [] = None
first (x ∷ xs) = Some x

no_words : (xs : List ℕ) → length xs ≤ 0 → xs ≡ []
no_words [] h = refl
no_words (x ∷ xs) h = absurd (omega arith)

split : {A : Type 0} (n : ℕ) (xs : List A) → reverse xs ≡ above n xs ++ reverse (take n xs)
unfolding above
split n xs = ap reverse (sym (take-append-drop n xs)) ∙ reverse-append (take n xs) (drop n xs)

-- the words of the frames below, the top first
pub words_are : (t : ℕ) (ss : List Suspended) (w b c : ℕ) (ws : List ℕ) (bs : List Block) (cs : List Exception) → are_nested w b c ss ≡ true → length ws ≤ w
    → words_down (frames_of t ss ws bs cs) ≡ reverse ws
words_are t [] w b c ws bs cs n h =
    let z : w ≡ 0 = eqb-true w 0 (and_left (nat_eq w 0) (nat_eq b 0) (and_left (nat_eq w 0 && nat_eq b 0) (nat_eq c 0) n)) in
    sym (ap reverse (no_words ws (omega arith)))
words_are t (s ∷ ss) w b c ws bs cs n h =
    ap (λ z. above s.words ws ++ z) (words_are t ss s.words s.blocks s.caught (take s.words ws) (take s.blocks bs) (take s.caught cs)
    (and_right _ (are_nested s.words s.blocks s.caught ss) n) (omega (arith, length-take s.words ws))) ∙ sym (split s.words ws)

no_caught : (cs : List Exception) → length cs ≤ 0 → cs ≡ []
no_caught [] h = refl
no_caught (x ∷ xs) h = absurd (omega arith)

or_first : (xs ys : List Exception) (o : Option meaning.Exception) → o ≡ option_map exception_of (first ys)
    → meaning.first_or (map exception_of xs) o ≡ option_map exception_of (first (xs ++ ys))
or_first [] ys o h = h
or_first (x ∷ xs) ys o h = refl

pub current_is : (t : ℕ) (ss : List Suspended) (w b c : ℕ) (ws : List ℕ) (bs : List Block) (cs : List Exception) → are_nested w b c ss ≡ true → length cs ≤ c
    → meaning.current (frames_of t ss ws bs cs) ≡ option_map exception_of (first (reverse cs))
current_is t [] w b c ws bs cs n h =
    let z : c ≡ 0 = eqb-true c 0 (and_right (nat_eq w 0 && nat_eq b 0) (nat_eq c 0) n) in
    sym (ap (λ z. option_map exception_of (first (reverse z))) (no_caught cs (omega arith)))
current_is t (s ∷ ss) w b c ws bs cs n h =
    or_first (above s.caught cs) (reverse (take s.caught cs)) _
    (current_is t ss s.words s.blocks s.caught (take s.words ws) (take s.blocks bs) (take s.caught cs)
    (and_right _ (are_nested s.words s.blocks s.caught ss) n) (omega (arith, length-take s.caught cs)))
    ∙ ap (λ z. option_map exception_of (first z)) (sym (split s.caught cs))

last_first : (cs : List Exception) → first (reverse cs) ≡ slice_get cs (length cs - 1)
last_first [] = refl
last_first (c ∷ cs) =
    let xs : List Exception = c ∷ cs in
    ap (λ z. first (reverse z)) (split_last xs c (omega arith)) ∙ ap first (reverse-append (take (length xs - 1) xs) (get_or xs (length xs - 1) c ∷ []))
    ∙ sym (slice_get-get_or xs (length xs - 1) c (omega arith))

-- the exception of the handler that was entered last is the last of all
pub current_last : (t : ℕ) (ss : List Suspended) (w b c : ℕ) (ws : List ℕ) (bs : List Block) (cs : List Exception) → are_nested w b c ss ≡ true
    → meaning.first_or (map exception_of (above c cs)) (meaning.current (frames_of t ss ws bs (take c cs)))
    ≡ option_map exception_of (slice_get cs (length cs - 1))
current_last t ss w b c ws bs cs n =
    or_first (above c cs) (reverse (take c cs)) _ (current_is t ss w b c ws bs (take c cs) n (omega (arith, length-take c cs)))
    ∙ ap (λ z. option_map exception_of (first z)) (sym (split c cs)) ∙ ap (option_map exception_of) (last_first cs)

pub all_words_are : (t : ℕ) (ss : List Suspended) (w b c : ℕ) (ws : List ℕ) (bs : List Block) (cs : List Exception) → are_nested w b c ss ≡ true
    → ws ≡ reverse (above w ws ++ words_down (frames_of t ss (take w ws) bs cs))
all_words_are t ss w b c ws bs cs n =
    sym (ap (λ z. reverse (above w ws ++ z)) (words_are t ss w b c (take w ws) bs cs n (omega (arith, length-take w ws))) ∙ ap reverse (sym (split w ws))
    ∙ reverse-reverse ws)
