-- Strings build arrays of characters.
use Rattle.std.proofs.Common.{◌≡◌, refl, ap, ◌∙◌, subst, ℕ, zero, suc, ◌+◌, ◌-◌, ◌*◌, ◌<◌, ◌≤◌, ◌==◌, Bool, true, nat_lt, pos, List, [], ◌∷◌}
use Rattle.std.proofs.Common.{length, Some, is_some, arith, eq-eqb, le-leb, lt-ltb, ltb-true}
use Rattle.tx_ints.specs.declared.kinds.IntKind.{IntKind}
use Rattle.tx_ints.specs.declared.kinds.IntKind.TheVariants.{Char, SChar, UChar}
use Rattle.tx_ints.specs.Words.{word_of, value_of_word}
use Rattle.tx_ints.proofs.ConversionLaws.{converts_into_range}
use Rattle.tx_ints.proofs.WordLaws.{word_back}
use Rattle.elab_rules.specs.cpp_types.Typ.{Typ, typ, Form, int, array}
use Rattle.elab_rules.specs.cpp_types.Class.{Class}
use Rattle.elab_rules.specs.cpp_types.Equal.{typ_eq}
use Rattle.elab_rules.specs.cpp_types.declared.classes.At.{At}
use Rattle.elab_rules.specs.cpp_types.declared.ranks.Cat.TheVariants.{Prvalue}
use Rattle.elab_rules.specs.cpp_layout.Layout.{extent_of}
use Rattle.elab_rules.specs.cpp_tree.declared.faults.IllRule.TheVariants.{BadInit}
use Rattle.elab_rules.specs.cpp_tree.declared.kinds.TKind.TheVariants.{Literal, Pieces, Piece}
use Rattle.elab_rules.specs.cpp_tree.declared.roles.Position.{Position}
use Rattle.elab_rules.specs.cpp_tree.declared.roles.Role.TheVariants.{Initialiser, Part, Destruction}
use Rattle.elab_rules.specs.cpp_tree.Trees.{Tree, node, Trees, none, one}
use Rattle.elab_rules.specs.cpp_tree.Notation.{plain}
use Rattle.elab_rules.specs.cpp_tree.Typing.{passes, is_word_of, form_in}
use Rattle.elab_rules.specs.cpp_tree.Parts.{size_in, holds_complete, are_element_pieces}
use Rattle.elab_rules.specs.cpp_tree.Roles.{and_any}
use Rattle.elab_rules.specs.cpp_tree.Rows.{Setting}
use Rattle.elab_rules.specs.cpp_tree.WellFormed.{fits, kids_fit, heads_of}
use Rattle.elab_rules.specs.elab_ctx.Ctx.{Ctx}
use Rattle.elab_rules.specs.Constants.{word_in}
use Rattle.elab_rules.specs.Values.{stored, number}
use Rattle.elab_rules.specs.Objects.{zeros}
use Rattle.elab_rules.specs.Braces.{is_char, string_object, byte_pieces, zero_rest, followed}
use Rattle.elab_fits.specs.Standing.{BuildsOne, IsSetting, On}
use Rattle.elab_fits.proofs.Nodes.{both, or_left, or_right, node_fits, one_object}
use Rattle.elab_fits.proofs.Objects.{sized_from, size_is}
use Rattle.elab_fits.proofs.Equal.{typ_refl}
use Rattle.elab_fits.proofs.Steps.{checked}
use Rattle.elab_fits.proofs.Values.{number_gives, stored_builds}
use Rattle.elab_fits.proofs.Zeros.{zeros_law}
use Rattle.elab_fits_braces.specs.Strings.{StringsBuild}

-- a word that was taken into a kind is one of it
word_in_kind : (k : IntKind) (w : ℕ) → is_word_of k (word_in k w) ≡ true
word_in_kind k w = eq-eqb (word_of (value_of_word k (word_in k w))) (word_in k w)
    (ap word_of (word_back k (value_of_word k w) (converts_into_range k (pos w))))

-- a piece of what is built there, without destructions
pub piece_fits : (s : Setting) (p : Position) (offset : ℕ) (t : Typ) (at : At) (e : Tree) → p.full ≡ true → BuildsOne s t e
    → fits s p Part (node (Piece offset) t Prvalue at (one e)) ≡ true
piece_fits s p offset t at e full h = node_fits s p Part (Piece offset) t Prvalue at (one e) (and_any (Initialiser ∷ []) Destruction) refl refl refl refl
    (both (both refl h.builds) refl) refl refl refl (one_object s p e Destruction (h.fits p full))

module _ (s : Setting) (c : Ctx) (i : IsSetting s c) (k : IntKind) (q v : Bool) (at : At)
    (z : (m : ℕ) → 1 ≤ m → m ≤ 1048576 → is_some (size_in c.classes (plain (array (typ (int k) q v) m))) ≡ true) where
  abbrev e : Typ
  e = typ (int k) q v

  byte : (b : ℕ) → BuildsOne s e (stored at e (node (Literal (word_in k b)) (plain (int k)) Prvalue at none))
  byte b = stored_builds s at (int k) q v (number k (word_in k b) at) (number_gives s k (word_in k b) at (word_in_kind k b))

  rest : (m : ℕ) → suc m ≤ 1048576 → BuildsOne s (plain (array e (suc m))) (zeros c.classes at (plain (array e (suc m))))
  rest m l = zeros_law s c at (plain (array e (suc m))) i (z (suc m) (omega arith) l) (both (lt-ltb 0 (suc m) (omega arith)) refl)

  pieces_fit : (p : Position) (j f m : ℕ) (bs : List ℕ) → p.full ≡ true → m ≤ 1048576
      → kids_fit s p (and_any [] Part) f (followed (byte_pieces e at j bs) (zero_rest c e at (j + length bs) m)) ≡ true
  pieces_fit p j f zero [] full l = refl
  pieces_fit p j f (suc m) [] full l = both (both refl (piece_fits s p (j + 0) (plain (array e (suc m))) at (zeros c.classes at (plain (array e (suc m)))) full (rest m l))) refl
  pieces_fit p j f m (b ∷ bs) full l =
      both (both refl (piece_fits s p j e at (stored at e (node (Literal (word_in k b)) (plain (int k)) Prvalue at none)) full (byte b)))
      (subst (λ (x : ℕ). kids_fit s p (and_any [] Part) (suc f) (followed (byte_pieces e at (suc j) bs) (zero_rest c e at x m)) ≡ true)
      (let y : suc j + length bs ≡ j + suc (length bs) = omega arith in y) (pieces_fit p (suc j) (suc f) m bs full l))

  -- the pieces from a place on
  agree : (n j m : ℕ) (bs : List ℕ) → j + length bs + suc m ≡ n
      → are_element_pieces e 1 n j (heads_of (followed (byte_pieces e at j bs) (zero_rest c e at (j + length bs) (suc m)))) ≡ true
  agree n j m [] g =
      let l : nat_lt j n ≡ true = lt-ltb j n (omega arith) in
      let o : (j + 0 == j * 1) ≡ true = eq-eqb (j + 0) (j * 1) (omega arith) in
      let d : n - j ≡ suc m = omega arith in
      let y : typ_eq (plain (array e (n - j))) (plain (array e (suc m))) ≡ true = ap (λ (x : ℕ). typ_eq (plain (array e x)) (plain (array e (suc m)))) d
      ∙ typ_refl (plain (array e (suc m))) in
      both l (or_left _ (both o y))
  agree n j m (b ∷ bs) g =
      let l : nat_lt j n ≡ true = lt-ltb j n (omega arith) in
      let o : (j == j * 1) ≡ true = eq-eqb j (j * 1) (omega arith) in
      let y : suc j + length bs ≡ j + suc (length bs) = omega arith in
      let a = subst (λ (x : ℕ). are_element_pieces e 1 n (suc j) (heads_of (followed (byte_pieces e at (suc j) bs) (zero_rest c e at x (suc m)))) ≡ true)
      y (agree n (suc j) m bs (omega arith)) in
      both l (or_right _ (both (both o (typ_refl e)) a))

module _ (s : Setting) (c : Ctx) (i : IsSetting s c) (k : IntKind) (q v d w : Bool) (n : ℕ) (at : At) (bytes : List ℕ) (one : size_in s.classes (typ (int k) q v) ≡ Some 1)
    (z : (m : ℕ) → 1 ≤ m → m ≤ 1048576 → is_some (size_in c.classes (plain (array (typ (int k) q v) m))) ≡ true) (most : n ≤ 1048576)
    (less : length bytes < n) where
  abbrev kids_of : ℕ → Trees
  kids_of m = followed (byte_pieces (typ (int k) q v) at 0 bytes) (zero_rest c (typ (int k) q v) at (length bytes) m)

  abbrev t : Typ
  t = typ (array (typ (int k) q v) n) d w

  start : 0 + length bytes ≡ length bytes
  start = omega arith

  string_builds : (m : ℕ) → suc m ≡ n - length bytes → BuildsOne s t (node Pieces t Prvalue at (kids_of (suc m)))
  string_builds m g =
      let a : are_element_pieces (typ (int k) q v) 1 n 0 (heads_of (kids_of (suc m))) ≡ true =
      subst (λ (x : ℕ). are_element_pieces (typ (int k) q v) 1 n 0 (heads_of (followed (byte_pieces (typ (int k) q v) at 0 bytes)
      (zero_rest c (typ (int k) q v) at x (suc m)))) ≡ true) start (agree s c i k q v at z n 0 m bytes (omega arith)) in
      let b : (p : Position) → p.full ≡ true → kids_fit s p (and_any [] Part) 0 (kids_of (suc m)) ≡ true =
      λ p full. subst (λ (x : ℕ). kids_fit s p (and_any [] Part) 0 (followed (byte_pieces (typ (int k) q v) at 0 bytes)
      (zero_rest c (typ (int k) q v) at x (suc m))) ≡ true) start (pieces_fit s c i k q v at z p 0 0 (suc m) bytes full (omega arith)) in
      record {
        fits = λ p full. node_fits s p Initialiser Pieces t Prvalue at (kids_of (suc m)) (and_any [] Part) refl refl refl refl
            (both refl (ap (passes (λ (size : ℕ). are_element_pieces (typ (int k) q v) size n 0 (heads_of (kids_of (suc m))))) one ∙ a)) refl
            (le-leb 0 (length (heads_of (kids_of (suc m)))) (omega arith)) refl (b p full);
        builds = or_left _ (or_left _ (typ_refl t));
      }

  pub built : BuildsOne s t (node Pieces t Prvalue at (kids_of (n - length bytes)))
  built =
      let g : suc (n - length bytes - 1) ≡ n - length bytes = omega arith in
      subst (λ (x : ℕ). BuildsOne s t (node Pieces t Prvalue at (kids_of x))) g (string_builds (n - length bytes - 1) g)

-- so many characters have a size
sized_chars : (classes : List Class) (t : Typ) (m : ℕ) → (extent_of classes (plain (array t m))).size ≡ m → holds_complete classes (form_in t) ≡ true
    → holds_complete classes (form_in (plain (array t m))) ≡ true → m ≤ 1048576 → is_some (size_in classes (plain (array t m))) ≡ true
sized_chars classes t m e h g l = ap is_some (size_is classes (plain (array t m)) (record { complete = g; within = omega arith }))

module _ (s : Setting) (c : Ctx) (i : IsSetting s c) (q v d w : Bool) (n : ℕ) (at : At) (bytes : List ℕ) where
  char_string : (k : IntKind) → size_in s.classes (typ (int k) q v) ≡ Some 1
      → ((m : ℕ) → (extent_of c.classes (plain (array (typ (int k) q v) m))).size ≡ m) → (extent_of c.classes (typ (array (typ (int k) q v) n) d w)).size ≡ n
      → is_some (size_in c.classes (typ (array (typ (int k) q v) n) d w)) ≡ true
      → On (BuildsOne s (typ (array (typ (int k) q v) n) d w)) (string_object c (typ (array (typ (int k) q v) n) d w) at bytes)
  char_string k one each whole z =
      let y = sized_from c.classes (typ (array (typ (int k) q v) n) d w) z in
      let l : (extent_of c.classes (typ (array (typ (int k) q v) n) d w)).size ≤ 1048576 = y.within in
      checked (BuildsOne s (typ (array (typ (int k) q v) n) d w)) at BadInit (nat_lt (length bytes) n) _ (λ b.
      built s c i k q v d w n at bytes one (λ m g u. sized_chars c.classes (typ (int k) q v) m (each m) refl refl u) (omega arith)
      (ltb-true (length bytes) n b))

  pub string_builds_array : (f : Form) → is_char f ≡ true → is_some (size_in c.classes (typ (array (typ f q v) n) d w)) ≡ true
      → On (BuildsOne s (typ (array (typ f q v) n) d w)) (string_object c (typ (array (typ f q v) n) d w) at bytes)
  string_builds_array (int Char) h z = char_string Char refl (λ m. (omega arith)) (omega arith) z
  string_builds_array (int SChar) h z = char_string SChar refl (λ m. (omega arith)) (omega arith) z
  string_builds_array (int UChar) h z = char_string UChar refl (λ m. (omega arith)) (omega arith) z
  string_builds_array f h z = absurd cc

pub strings_build : StringsBuild
strings_build s c (typ (array (typ f q v) n) d w) at bytes i z h = string_builds_array s c i q v d w n at bytes f h z
strings_build s c (typ f d w) at bytes i z h = absurd cc
