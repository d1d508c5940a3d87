-- What the function of a source has.
use Rattle.std.proofs.Common.{◌≡◌, ◌∙◌, ◌<◌, ◌≤◌, ℕ, List, length, get_or, refl, sym, ap}
use Rattle.std.specs.Prelude.{Some, None, slice_get, unwrap_or}
use Rattle.std.specs.Option.{option_map}
use Rattle.std.proofs.lemmas.Option.{slice_get-map, slice_get_read, slice_get_past}
use Rattle.src_bind.specs.Infos.{info_of, word_of}
use Rattle.src_bind.specs.declared.infos.WordAt.{WordAt}
use Rattle.cpp_tree.specs.Arena.{tree_at}
use Rattle.src_bind.specs.Infos.{trees_in}
use Rattle.symbolic_leaving.specs.declared.source.Source.{Source}
use Rattle.symbolic_leaving.specs.Source.{units_of, func_of}

pub func_is : (s : Source) → func_of s ≡ info_of (units_of s) s.info.now
unfolding func_of
func_is s = refl

pub unit_is : (s : Source) → (func_of s).unit ≡ s.info.now.unit
unfolding func_of
unit_is s = refl

pub offset_found : (s : Source) (xs : List ℕ) (i n : ℕ) → xs ≡ s.info.now.places.items → i < length xs → n ≡ get_or xs i n → n ≡ unwrap_or (slice_get (func_of s).places i) 0
unfolding func_of
offset_found s xs i n is h e = sym (ap (λ (z : List ℕ). unwrap_or (slice_get z i) 0) (sym is) ∙ ap (λ o. unwrap_or o 0) (slice_get_read xs (length xs) i n refl h e))

pub offset_none : (s : Source) (xs : List ℕ) (i : ℕ) → xs ≡ s.info.now.places.items → length xs ≤ i → 0 ≡ unwrap_or (slice_get (func_of s).places i) 0
unfolding func_of
offset_none s xs i is h = sym (ap (λ (z : List ℕ). unwrap_or (slice_get z i) 0) (sym is) ∙ ap (λ o. unwrap_or o 0) (slice_get_past xs i h))

pub word_found : (s : Source) (xs : List WordAt) (i : ℕ) (w : WordAt) → xs ≡ s.info.now.words.items → i < length xs → w ≡ get_or xs i w → slice_get (func_of s).words i ≡ Some (word_of w)
unfolding func_of
word_found s xs i w is h e = slice_get-map word_of s.info.now.words.items i ∙ ap (λ (z : List WordAt). option_map word_of (slice_get z i)) (sym is) ∙ ap (option_map word_of) (slice_get_read xs (length xs) i w refl h e)

pub word_none : (s : Source) (xs : List WordAt) (i : ℕ) → xs ≡ s.info.now.words.items → length xs ≤ i → slice_get (func_of s).words i ≡ None
unfolding func_of
word_none s xs i is h = slice_get-map word_of s.info.now.words.items i ∙ ap (λ (z : List WordAt). option_map word_of (slice_get z i)) (sym is) ∙ ap (option_map word_of) (slice_get_past xs i h)

pub body_is : (s : Source) → (func_of s).body ≡ tree_at (trees_in (units_of s) s.info.now.unit) s.info.now.body
unfolding func_of
body_is s = refl
