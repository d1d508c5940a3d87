-- What an exception is caught as.
use Rattle.std.proofs.Common.{◌≡◌, ◌∙◌, ℕ, suc, Bool, true, false, List, [], ◌∷◌, Option, Some, None, map, refl, sym, ap}
use Rattle.std.specs.Prelude.{◌||◌}
use Rattle.std.specs.List.{list_any}
use Rattle.cpp_tree.specs.cpp_types.Typ.{Form, void, int, enum, null, ptr, ref, array, func, class, closure, tx_ex}
use Rattle.cpp_tree.specs.cpp_types.Class.{Class, base_of}
use Rattle.cpp_tree.specs.cpp_types.Conversion.{chain, bases, first_and}
use Rattle.cpp_tree.specs.cpp_types.Equal.{name_eq}
use Rattle.cpp_tree.specs.cpp_types.Spelling.{form_spelling}
use Rattle.src_mean.specs.Exceptions.{caught_as, catches_form}
use Rattle.src_frames.specs.Texts.{is_spelled, class_in}

any_first : (p : ℕ → Bool) (b : ℕ) (xs : List ℕ) → p b ≡ true → list_any p (b ∷ xs) ≡ true
any_first p b xs e = simp e

any_rest : (p : ℕ → Bool) (b : ℕ) (xs : List ℕ) → p b ≡ false → list_any p (b ∷ xs) ≡ list_any p xs
any_rest p b xs e = simp e

module _ (classes : List Class) (text : List ℕ) where
  -- the text is the spelling of one of at most `most` bases
  abbrev pub left : ℕ → ℕ → Bool
  left most n = list_any (is_spelled classes text) (chain most classes n)

  along : (k n : ℕ) (o : Option ℕ) → base_of classes n ≡ o → left (suc k) n ≡ list_any (is_spelled classes text) (first_and o (chain k classes))
  along k n o e = ap (λ (z : Option ℕ). list_any (is_spelled classes text) (first_and z (chain k classes))) e

  pub left_none : (k n : ℕ) → base_of classes n ≡ None → left (suc k) n ≡ false
  left_none k n e = along k n None e

  pub left_found : (k n b : ℕ) → base_of classes n ≡ Some b → is_spelled classes text b ≡ true → left (suc k) n ≡ true
  left_found k n b e p = along k n (Some b) e ∙ any_first (is_spelled classes text) b (chain k classes b) p

  pub left_next : (k n b : ℕ) → base_of classes n ≡ Some b → is_spelled classes text b ≡ false → left (suc k) n ≡ left k b
  left_next k n b e p = along k n (Some b) e ∙ any_rest (is_spelled classes text) b (chain k classes b) p

  spelled_any : (ns : List ℕ) → list_any (name_eq text) (map (λ b. form_spelling classes (class b) false false) ns) ≡ list_any (is_spelled classes text) ns
  spelled_any [] = refl
  spelled_any (n ∷ ns) = ap (λ (z : Bool). is_spelled classes text n || z) (spelled_any ns)

  own_first : (f : Form) → name_eq text (form_spelling classes f false false) ≡ true → list_any (name_eq text) (caught_as classes f) ≡ true
  own_first void e = simp e
  own_first (int k) e = simp e
  own_first (enum n s) e = simp e
  own_first null e = simp e
  own_first (ptr t) e = simp e
  own_first (ref t) e = simp e
  own_first (array t n) e = simp e
  own_first (func s) e = simp e
  own_first (class n) e = simp e
  own_first (closure n) e = simp e
  own_first (tx_ex t) e = simp e

  none_behind : (f : Form) → class_in f ≡ None → name_eq text (form_spelling classes f false false) ≡ false
      → list_any (name_eq text) (caught_as classes f) ≡ false
  none_behind void i e = simp e
  none_behind (int k) i e = simp e
  none_behind (enum n s) i e = simp e
  none_behind null i e = simp e
  none_behind (ptr t) i e = simp e
  none_behind (ref t) i e = simp e
  none_behind (array t n) i e = simp e
  none_behind (func s) i e = simp e
  none_behind (class n) i e = absurd cc
  none_behind (closure n) i e = simp e
  none_behind (tx_ex t) i e = simp e

  bases_behind : (f : Form) (n : ℕ) → class_in f ≡ Some n → name_eq text (form_spelling classes f false false) ≡ false
      → list_any (name_eq text) (caught_as classes f) ≡ list_any (is_spelled classes text) (bases classes n)
  bases_behind void n i e = absurd cc
  bases_behind (int k) n i e = absurd cc
  bases_behind (enum m s) n i e = absurd cc
  bases_behind null n i e = absurd cc
  bases_behind (ptr t) n i e = absurd cc
  bases_behind (ref t) n i e = absurd cc
  bases_behind (array t m) n i e = absurd cc
  bases_behind (func s) n i e = absurd cc
  bases_behind (class m) n i e =
      let is : m ≡ n = cc in
      let own : list_any (name_eq text) (caught_as classes (class m))
      ≡ list_any (name_eq text) (map (λ b. form_spelling classes (class b) false false) (bases classes m)) = simp e in
      own ∙ spelled_any (bases classes m) ∙ ap (λ z. list_any (is_spelled classes text) (bases classes z)) is
  bases_behind (closure m) n i e = absurd cc
  bases_behind (tx_ex t) n i e = absurd cc

-- by the spelling of the type itself, of a base, or not
pub catches_own : (classes : List Class) (f thrown : Form) (text own : List ℕ) → text ≡ form_spelling classes f false false
    → own ≡ form_spelling classes thrown false false → true ≡ name_eq text own → true ≡ catches_form classes f thrown
catches_own classes f thrown text own e o h =
    let there : name_eq (form_spelling classes f false false) (form_spelling classes thrown false false) ≡ true =
    ap (λ z. name_eq z (form_spelling classes thrown false false)) (sym e) ∙ ap (λ z. name_eq text z) (sym o) ∙ sym h in
    sym (own_first classes (form_spelling classes f false false) thrown there)

pub catches_none : (classes : List Class) (f thrown : Form) (text own : List ℕ) → text ≡ form_spelling classes f false false
    → own ≡ form_spelling classes thrown false false → false ≡ name_eq text own → None ≡ class_in thrown → false ≡ catches_form classes f thrown
catches_none classes f thrown text own e o h i =
    let there : name_eq (form_spelling classes f false false) (form_spelling classes thrown false false) ≡ false =
    ap (λ z. name_eq z (form_spelling classes thrown false false)) (sym e) ∙ ap (λ z. name_eq text z) (sym o) ∙ sym h in
    sym (none_behind classes (form_spelling classes f false false) thrown (sym i) there)

pub catches_base : (classes : List Class) (f thrown : Form) (text own : List ℕ) (n : ℕ) (b : Bool) → text ≡ form_spelling classes f false false
    → own ≡ form_spelling classes thrown false false → false ≡ name_eq text own → Some n ≡ class_in thrown
    → b ≡ list_any (is_spelled classes text) (bases classes n) → b ≡ catches_form classes f thrown
catches_base classes f thrown text own n b e o h i k =
    let there : name_eq (form_spelling classes f false false) (form_spelling classes thrown false false) ≡ false =
    ap (λ z. name_eq z (form_spelling classes thrown false false)) (sym e) ∙ ap (λ z. name_eq text z) (sym o) ∙ sym h in
    k ∙ ap (λ z. list_any (is_spelled classes z) (bases classes n)) e ∙ sym (bases_behind classes (form_spelling classes f false false) thrown n (sym i) there)
