-- The keys of a set as the names of a table.
use Rattle.std.proofs.Common.{◌≡◌, ◌∙◌, Bool, true, false, ◌||◌, not, ℕ, suc, ◌+◌, List, [], ◌∷◌, ◌++◌, map, length, cond, sym, ap, refl, arith, Vec, nat_lt}
use Rattle.std.specs.Prelude.{Some, None, if◌then◌else◌}
use Rattle.std.specs.Str.{bytes_eq}
use Rattle.std.specs.List.{list_any, position, position_or_len}
use Rattle.low_code.specs.Names.{number_of, with_name}

some_of : (v : Bool) (i n : ℕ) → Some i ≡ cond v (Some n) None → i ≡ n
some_of true i n e = cc
some_of false i n e = absurd cc

none_by : (b m : Bool) (n l : ℕ) → (b || m) ≡ false → (m ≡ false → n ≡ l) → cond (not b) (1 + n) 0 ≡ suc l
none_by true m n l e h = absurd cc
none_by false m n l e h = let k : n ≡ l = h e in omega arith

none_at : {A : Type 0} (p : A → Bool) (xs : List A) → list_any p xs ≡ false → position_or_len p xs ≡ length xs
none_at p [] e = refl
none_at p (x ∷ xs) e = none_by (p x) (list_any p xs) (position_or_len p xs) (length xs) e (none_at p xs)

module _ {Z : Type 0} where
  abbrev pub texts_of : List (Vec ℕ Z) → List (List ℕ)
  texts_of keys = map (λ (key : Vec ℕ Z). key.items) keys

  abbrev pub is_named : List ℕ → Vec ℕ Z → Bool
  is_named name key = bytes_eq name key.items

  place_shown : (name : List ℕ) (keys : List (Vec ℕ Z)) → position_or_len (is_named name) keys ≡ number_of name (texts_of keys)
  place_shown name [] = refl
  place_shown name (key ∷ keys) = ap (λ n. cond (not (bytes_eq name key.items)) (1 + n) 0) (place_shown name keys)

  any_shown : (name : List ℕ) (keys : List (Vec ℕ Z)) → list_any (is_named name) keys ≡ list_any (bytes_eq name) (texts_of keys)
  any_shown name [] = refl
  any_shown name (key ∷ keys) = ap (λ b. bytes_eq name key.items || b) (any_shown name keys)

  length_shown : (keys : List (Vec ℕ Z)) → length keys ≡ length (texts_of keys)
  length_shown [] = refl
  length_shown (key ∷ keys) = ap suc (length_shown keys)

  texts_push : (keys : List (Vec ℕ Z)) (key : Vec ℕ Z) → texts_of (keys ++ key ∷ []) ≡ texts_of keys ++ key.items ∷ []
  texts_push [] key = refl
  texts_push (k ∷ keys) key = ap (λ more. k.items ∷ more) (texts_push keys key)

  module _ (name : List ℕ) (keys : List (Vec ℕ Z)) (names : List (List ℕ)) (view : texts_of keys ≡ names) where
    -- a name that is there
    pub number_there : (place : ℕ) → Some place ≡ position (is_named name) keys → place ≡ number_of name names
    number_there place e =
        some_of (nat_lt (position_or_len (is_named name) keys) (length keys)) place (position_or_len (is_named name) keys) e
        ∙ place_shown name keys ∙ ap (number_of name) view

    pub names_there : true ≡ list_any (is_named name) keys → names ≡ with_name name names
    names_there e =
        let h : list_any (bytes_eq name) names ≡ true = sym (e ∙ any_shown name keys ∙ ap (list_any (bytes_eq name)) view) in
        sym (ap (λ v. cond v names (names ++ name ∷ [])) h)

    -- a new name
    pub number_new : false ≡ list_any (is_named name) keys → length keys ≡ number_of name names
    number_new e = sym (none_at (is_named name) keys (sym e)) ∙ place_shown name keys ∙ ap (number_of name) view

    pub names_new : (key : Vec ℕ Z) (new : List (Vec ℕ Z)) → key.items ≡ name → new ≡ (if list_any (is_named key.items) keys then keys else keys ++ key ∷ [])
        → texts_of new ≡ with_name name names
    names_new key new e h =
        ap texts_of h ∙ by (list_any (is_named key.items) keys)
        ∙ ap (λ v. cond v (texts_of keys) (texts_of keys ++ key.items ∷ [])) (any_shown key.items keys)
        ∙ ap (λ z. with_name z (texts_of keys)) e ∙ ap (with_name name) view
      where
        by : (v : Bool) → texts_of (if v then keys else keys ++ key ∷ []) ≡ cond v (texts_of keys) (texts_of keys ++ key.items ∷ [])
        by true = refl
        by false = texts_push keys key
