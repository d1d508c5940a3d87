-- The files of a list after a write.
use Rattle.std.proofs.Common.{◌≡◌, ℕ, ◌+◌, Bool, true, false, List, [], ◌∷◌, ◌++◌, Option, Some, None, set, get_or, sym, ◌∙◌, ap, ap₂, subst, refl, arith, inl}
use Rattle.std.proofs.Common.{inr, find, position, Vec, string_bytes}
use Rattle.std.proofs.Math.Path.{fun_ext}
use Rattle.std.proofs.lemmas.Bool.{cases_Bool, cond-true, cond-false}
use Rattle.std.specs.List.{position_or_len, position_from}
use Rattle.std.specs.Option.{option_map, option_or}
use Rattle.std.specs.Str.{bytes_eq}
use Rattle.std.specs.declared.string.String.{String}
use Rattle.std.proofs.lemmas.Iterator.Adapters.{position_from-zero}
use Rattle.std.proofs.lemmas.List.Folds.{find-set, find_past, find-append}
use Rattle.std.proofs.lemmas.List.Quantifiers.{position-Some}
use Rattle.std.proofs.lemmas.List.Sums.{position_or_len_is}
use Rattle.std.proofs.lemmas.Slice.Eq.{bytes_eq-Decides}
use Rattle.tx_host.specs.Told.{Files, set_file}
use Rattle.tx_host.specs.Kept.{files_of}

apart : (a b : List ℕ) → bytes_eq a b ≡ false → bytes_eq b a ≡ false
apart a b h = grind (arith, bytes_eq-Decides a b, bytes_eq-Decides b a, h)

-- where no element passes, none is found
none_from : {X : Type 0} (p : X → Bool) (i : ℕ) (xs : List X) → position_from p i xs ≡ None → find p xs ≡ None
none_from p i [] h = refl
none_from p i (x ∷ xs) h =
    elim (cases_Bool (p x)) [
      | inl hit ↦ let e : Some i ≡ None = sym (cond-true (p x) (Some i) (position_from p (i + 1) xs) hit) ∙ h in absurd (cc)
      | inr miss ↦ cond-false (p x) (Some x) (find p xs) miss ∙ none_from p (i + 1) xs (sym (cond-false (p x) (Some i) (position_from p (i + 1) xs) miss) ∙ h)
    ]

none_found : {X : Type 0} (p : X → Bool) (xs : List X) → position p xs ≡ None → find p xs ≡ None
none_found p xs h = none_from p 0 xs (sym (position_from-zero p xs) ∙ h)

or_none : {X : Type 0} (o : Option X) → option_or o None ≡ o
or_none None = refl
or_none (Some x) = refl

-- a map that agrees with a write at each name is that of the write
agrees : (old new : Files) (name bytes : List ℕ) → new name ≡ Some bytes → ((other : List ℕ) → bytes_eq other name ≡ false → new other ≡ old other)
    → new ≡ set_file old name bytes
agrees old new name bytes here others =
    fun_ext (λ other. elim (cases_Bool (bytes_eq other name)) [
      | inl hit ↦ subst (λ o. new o ≡ Some bytes) (sym ((bytes_eq-Decides other name).0 hit)) here
          ∙ sym (cond-true (bytes_eq other name) (Some bytes) (old other) hit)
      | inr miss ↦ others other miss ∙ sym (cond-false (bytes_eq other name) (Some bytes) (old other) miss)
    ])

module _ {Y Z : Type 0} where
  -- the entries with a name
  abbrev has_name : List ℕ → String Y × Vec ℕ Z → Bool
  has_name name file = bytes_eq (string_bytes file.0) name

  -- the files after a write at the first index that has the name
  pub files_of-set : (files : List (String Y × Vec ℕ Z)) (at : ℕ) (name : List ℕ) (y d : String Y × Vec ℕ Z)
      → position (λ file. bytes_eq (string_bytes file.0) name) files ≡ Some at → y.0 ≡ (get_or files at d).0
      → files_of (set files at y) ≡ set_file (files_of files) name y.1.items
  files_of-set files at name y d found same =
      let first = position-Some (has_name name) files at d found in
      let at_is : at ≡ position_or_len (has_name name) files =
      sym (position_or_len_is (has_name name) files at d (omega (arith, first.0)) first.2 (λ _. first.1)) in
      let passes : has_name name y ≡ true = ap (λ text. bytes_eq (string_bytes text) name) same ∙ first.1 in
      agrees (files_of files) (files_of (set files at y)) name y.1.items
      (ap (option_map (λ (file : String Y × Vec ℕ Z). file.1.items)) (find-set (has_name name) files at y at_is first.0 passes))
      (λ other miss. ap (option_map (λ (file : String Y × Vec ℕ Z). file.1.items)) (find_past (has_name other) files at y d
      (subst (λ text. bytes_eq text other ≡ false) (sym ((bytes_eq-Decides (string_bytes (get_or files at d).0) name).0 first.1)) (apart other name miss))
      (subst (λ text. bytes_eq text other ≡ false) (sym ((bytes_eq-Decides (string_bytes y.0) name).0 passes)) (apart other name miss))))

  -- the files after a push of a name that has no index
  pub files_of-push : (files : List (String Y × Vec ℕ Z)) (name : List ℕ) (y : String Y × Vec ℕ Z)
      → position (λ file. bytes_eq (string_bytes file.0) name) files ≡ None → string_bytes y.0 ≡ name
      → files_of (files ++ y ∷ []) ≡ set_file (files_of files) name y.1.items
  files_of-push files name y missing same =
      agrees (files_of files) (files_of (files ++ y ∷ [])) name y.1.items
      (ap (option_map (λ (file : String Y × Vec ℕ Z). file.1.items))
      (find-append (has_name name) files (y ∷ [])
      ∙ ap₂ option_or (none_found (has_name name) files missing)
      (cond-true (has_name name y) (Some y) None ((bytes_eq-Decides (string_bytes y.0) name).1 same))))
      (λ other miss. ap (option_map (λ (file : String Y × Vec ℕ Z). file.1.items))
      (find-append (has_name other) files (y ∷ [])
      ∙ ap (option_or (find (has_name other) files))
      (cond-false (has_name other y) (Some y) None (subst (λ text. bytes_eq text other ≡ false) (sym same) (apart other name miss)))
      ∙ or_none (find (has_name other) files)))
