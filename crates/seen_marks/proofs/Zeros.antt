-- The zeros of a result, whose trees have no types: each marked one is found.
use Rattle.std.proofs.Common.{◌≡◌, ap, refl, ℕ, suc, Bool, true, false, not, ◌&&◌, ◌||◌, List, [], ◌++◌, Option}
use Rattle.std.proofs.lemmas.Bool.{false≢true, and_parts, and_from, or_right}
use Rattle.cpp_types.specs.Typ.{Typ, typ, Form, void}
use Rattle.cpp_types.specs.Class.{Class}
use Rattle.cpp_types.specs.declared.ranks.Cat.{Cat}
use Rattle.cpp_types.specs.declared.ranks.Cat.TheVariants.{Lvalue, Prvalue}
use Rattle.cpp_tree.specs.declared.kinds.TKind.TheVariants.{Literal, Store, Pieces, Piece, Elements}
use Rattle.cpp_tree.specs.Trees.{Tree, node, Trees, none, more, rest}
use Rattle.cpp_tree.specs.Typing.{is_void, is_statement_typ}
use Rattle.cpp_tree.specs.Parts.{Part, part_of}
use Rattle.cpp_tree.specs.WellFormed.{zeroes, zero_parts, zero_part, is_zero_of}
use Rattle.tx_unsafe.specs.Unsafe.{first_of, own_in, own_in_all}
use Rattle.seen_marks.specs.Marks.{is_unmarked, are_unmarked}
use Rattle.seen_marks.proofs.Findings.{nothing_left, nothing_right, unfound}

statement_void : (t : Typ) (cat : Cat) → is_statement_typ t cat ≡ true → is_void t ≡ true
statement_void (typ void c v) cat h = refl
statement_void (typ f c v) Lvalue h = absurd (false≢true h)
statement_void (typ f c v) Prvalue h = absurd (false≢true (and_parts _ _ h).1)

zero_word : (o : Bool) (f : Form) (x : Tree) → is_zero_of f x ≡ true → is_unmarked o x ≡ true
zero_word o f (node (Literal w) t cat at none) h = refl
zero_word o f x h = absurd (false≢true h)

no_mark : (b c : Bool) → c ≡ true → (b && c) ≡ false → not b ≡ true
no_mark false c h g = refl
no_mark true c h g = absurd cc

mutual
  -- all of it counts
  pub zero_inside : (v : ℕ → Bool) (cs : List Class) (b : Bool) (t : Typ) (x : Tree) → zeroes cs b t x ≡ true → own_in v true x ≡ []
      → is_unmarked false x ≡ true
  zero_inside v cs b t (node Pieces u cat at kids) h o =
      zeros_inside v cs _ _ 0 kids (and_parts _ _ h).1 (nothing_right _ (own_in_all v true kids) o)
  zero_inside v cs b t (node (Elements count stride) u cat at (more kid none)) h o =
      and_from _ _ (zero_inside v cs _ _ kid (and_parts _ _ h).1 (nothing_left (own_in v true kid) [] (nothing_right _ (own_in v true kid ++ []) o))) refl
  zero_inside v cs b t (node (Store k marked) u cat at (more word none)) h o =
      let a = and_parts _ _ h in
      and_from _ _ (or_first (no_mark marked (is_void u) (statement_void u cat a.0)
      (unfound v (Store k marked) u cat at (first_of (more word none)) (first_of (rest (more word none)))
      (nothing_left _ (own_in v true word ++ []) o)).writes))
      (and_from _ _ (zero_word false _ word (and_parts _ _ a.1).1) refl)
    where
      or_first : {b : Bool} → b ≡ true → (b || false) ≡ true
      or_first {b} e = ap (λ z. z || false) e
  zero_inside v cs b t x h o = absurd (false≢true h)

  zeros_inside : (v : ℕ → Bool) (cs : List Class) (b : Bool) (n i : ℕ) (ts : Trees) → zero_parts cs b n i ts ≡ true → own_in_all v true ts ≡ []
      → are_unmarked false ts ≡ true
  zeros_inside v cs b n i none h o = refl
  zeros_inside v cs b n i (more t ts) h o = let a = and_parts (zero_part cs b (part_of cs n i) t) (zero_parts cs b n (suc i) ts) h in
      and_from _ _ (part_inside v cs b (part_of cs n i) t a.0 (nothing_left (own_in v true t) (own_in_all v true ts) o))
      (zeros_inside v cs b n (suc i) ts a.1 (nothing_right (own_in v true t) (own_in_all v true ts) o))

  part_inside : (v : ℕ → Bool) (cs : List Class) (b : Bool) (part : Option Part) (x : Tree) → zero_part cs b part x ≡ true → own_in v true x ≡ []
      → is_unmarked false x ≡ true
  part_inside v cs b part (node (Piece offset) u cat at (more kid none)) h o =
      and_from _ _ (zero_inside v cs b _ kid (and_parts _ _ h).1 (nothing_left (own_in v true kid) [] (nothing_right _ (own_in v true kid ++ []) o))) refl
  part_inside v cs b part x h o = absurd (false≢true h)

mutual
  -- none of it does
  pub zero_outside : (cs : List Class) (b : Bool) (t : Typ) (x : Tree) → zeroes cs b t x ≡ true → is_unmarked true x ≡ true
  zero_outside cs b t (node Pieces u cat at kids) h = zeros_outside cs _ _ 0 kids (and_parts _ _ h).1
  zero_outside cs b t (node (Elements count stride) u cat at (more kid none)) h = and_from _ _ (zero_outside cs _ _ kid (and_parts _ _ h).1) refl
  zero_outside cs b t (node (Store k marked) u cat at (more word none)) h =
      and_from _ _ (or_right (not marked) true refl) (and_from _ _ (zero_word true _ word (and_parts _ _ (and_parts _ _ h).1).1) refl)
  zero_outside cs b t x h = absurd (false≢true h)

  zeros_outside : (cs : List Class) (b : Bool) (n i : ℕ) (ts : Trees) → zero_parts cs b n i ts ≡ true → are_unmarked true ts ≡ true
  zeros_outside cs b n i none h = refl
  zeros_outside cs b n i (more t ts) h = let a = and_parts (zero_part cs b (part_of cs n i) t) (zero_parts cs b n (suc i) ts) h in
      and_from _ _ (part_outside cs b (part_of cs n i) t a.0) (zeros_outside cs b n (suc i) ts a.1)

  part_outside : (cs : List Class) (b : Bool) (part : Option Part) (x : Tree) → zero_part cs b part x ≡ true → is_unmarked true x ≡ true
  part_outside cs b part (node (Piece offset) u cat at (more kid none)) h = and_from _ _ (zero_outside cs b _ kid (and_parts _ _ h).1) refl
  part_outside cs b part x h = absurd (false≢true h)
