-- Rows of parts and elements, in an object with more qualifiers.
use Rattle.std.proofs.Common.{◌≡◌, refl, sym, ap, ◌∙◌, ℕ, suc, ◌*◌, ◌-◌, ◌<◌, Bool, true, false, not, ◌&&◌, ◌||◌, ◌==◌, nat_le, nat_lt, List, [], ◌∷◌, map}
use Rattle.std.proofs.Common.{Option, Some, None, is_some, arith, lt-ltb, ltb-true}
use Rattle.std.proofs.lemmas.Bool.{and_parts}
use Rattle.std.specs.List.{list_all}
use Rattle.elab_rules.specs.cpp_types.Typ.{Typ, typ, Form, void, int, enum, null, ptr, ref, array, func, class, closure, tx_ex}
use Rattle.elab_rules.specs.cpp_types.Class.{Class}
use Rattle.elab_rules.specs.cpp_types.Equal.{typ_eq}
use Rattle.elab_rules.specs.cpp_types.declared.ranks.Cat.{Cat}
use Rattle.elab_rules.specs.cpp_tree.declared.kinds.TKind.{TKind}
use Rattle.elab_rules.specs.cpp_tree.Typing.{Head, passes, qualified, builds, without_exception, is_prvalue, is_class_typ, same_shape, goes_both_ways}
use Rattle.elab_rules.specs.cpp_tree.Parts as told
use Rattle.elab_rules.specs.cpp_tree.Parts.{part_of, sized_class, size_in, has_size, is_at, is_piece_at, is_piece_of, are_part_pieces, are_element_pieces, is_last}
use Rattle.elab_rules.specs.cpp_tree.Parts.{are_pieces, are_elements, count_of_parts}
use Rattle.elab_fits.specs.Objects.{is_single, typ_ready, form_ready}
use Rattle.elab_fits.proofs.Equal.{typ_refl, typ_same}
use Rattle.elab_fits.proofs.Nodes.{both, or_left, or_right}
use Rattle.elab_fits_braces.proofs.Qualifiers.{again, size_again, stride_again}
use Rattle.elab_fits_braces.proofs.Depth.{ArePlain}

-- Tests

pub either_way : (R : Type 0) (a b : Bool) → (a || b) ≡ true → (a ≡ true → R) → (b ≡ true → R) → R
either_way R true b h f g = f refl
either_way R false b h f g = g h

passes_more : {A : Type 0} (P Q : A → Bool) → ((a : A) → P a ≡ true → Q a ≡ true) → (o : Option A) → passes P o ≡ true → passes Q o ≡ true
passes_more {A} P Q h None g = absurd cc
passes_more {A} P Q h (Some a) g = h a g

passes_some : {A : Type 0} (P : A → Bool) (R : Type 0) (o : Option A) → passes P o ≡ true → ((a : A) → o ≡ Some a → P a ≡ true → R) → R
passes_some {A} P R None h f = absurd cc
passes_some {A} P R (Some a) h f = f a refl h

-- Readiness

pub ready_again : (p : ℕ → Bool) (r q v : Bool) (t : Typ) → typ_ready p r t ≡ true → typ_ready p r (qualified q v t) ≡ true
ready_again p r q v (typ void d w) h = absurd cc
ready_again p r q v (typ (int k) d w) h = refl
ready_again p r q v (typ (enum n s) d w) h = refl
ready_again p r q v (typ null d w) h = refl
ready_again p r q v (typ (ptr t) d w) h = refl
ready_again p r q v (typ (ref t) d w) h = h
ready_again p r q v (typ (array t n) d w) h =
    let a = and_parts (not (d || w)) (nat_lt 0 n && typ_ready p r t) h in
    let b = and_parts (nat_lt 0 n) (typ_ready p r t) a.1 in
    both a.0 (both b.0 (ready_again p r q v t b.1))
ready_again p r q v (typ (func s) d w) h = absurd cc
ready_again p r q v (typ (class n) d w) h = h
ready_again p r q v (typ (closure n) d w) h = h
ready_again p r q v (typ (tx_ex (typ f x y)) d w) h = h

single_own : (p : ℕ → Bool) (r own : Bool) (f : Form) → is_single f ≡ true → form_ready p r false f ≡ true → form_ready p r own f ≡ true
single_own p r own (int k) i h = refl
single_own p r own (enum n s) i h = refl
single_own p r own null i h = refl
single_own p r own (ptr t) i h = refl
single_own p r own (class n) i h = h
single_own p r own (closure n) i h = h
single_own p r own void i h = absurd cc
single_own p r own (ref t) i h = absurd cc
single_own p r own (array t n) i h = absurd cc
single_own p r own (func s) i h = absurd cc
single_own p r own (tx_ex t) i h = absurd cc

pub single_again : (q v : Bool) (f : Form) (c x : Bool) → is_single f ≡ true → qualified q v (typ f c x) ≡ typ f (q || c) (v || x)
single_again q v (int k) c x i = refl
single_again q v (enum n s) c x i = refl
single_again q v null c x i = refl
single_again q v (ptr t) c x i = refl
single_again q v (class n) c x i = refl
single_again q v (closure n) c x i = refl
single_again q v void c x i = absurd cc
single_again q v (ref t) c x i = absurd cc
single_again q v (array t n) c x i = absurd cc
single_again q v (func s) c x i = absurd cc
single_again q v (tx_ex t) c x i = absurd cc

module _ (classes : List Class) (plain : ℕ → Bool) (closed : ArePlain classes plain) (q v : Bool) where
  abbrev pub changed : Head → Head
  changed h = record { kind = h.kind; typ = qualified q v h.typ; cat = h.cat }

  -- What builds an object has its type, or that of the value in it

  pub record Own (t u : Typ) (cat : Cat) : Type 0 where
    pub value : is_prvalue cat ≡ true
    pub ready : typ_ready plain false u ≡ true
    pub again : (k : TKind) → builds (qualified q v t) (record { kind = k; typ = qualified q v u; cat = cat }) ≡ true

  own_same : (t u : Typ) (cat : Cat) → is_prvalue cat ≡ true → typ_ready plain false t ≡ true → t ≡ u → Own t u cat
  own_same t u cat p r e = record {
    value = p;
    ready = ap (typ_ready plain false) (sym e) ∙ r;
    again = λ k. both p (or_left _ (or_left _ (ap (λ (x : Typ). typ_eq (qualified q v t) (qualified q v x)) (sym e) ∙ typ_refl (qualified q v t))));
  }

  own_value : (f : Form) (d w c x : Bool) (u : Typ) (cat : Cat) → is_prvalue cat ≡ true → typ_ready plain false (typ (tx_ex (typ f d w)) c x) ≡ true
      → typ f c x ≡ u → Own (typ (tx_ex (typ f d w)) c x) u cat
  own_value f d w c x u cat p r e =
      let a = and_parts (is_single f) (form_ready plain false false f) r in
      record {
        value = p;
        ready = ap (typ_ready plain false) (sym e) ∙ single_own plain false (c || x) f a.0 a.1;
        again = λ k. both p (or_left _ (or_right _ (ap (λ (y : Typ). typ_eq (typ f (q || c) (v || x)) (qualified q v y)) (sym e)
            ∙ ap (typ_eq (typ f (q || c) (v || x))) (single_again q v f c x a.0) ∙ typ_refl (typ f (q || c) (v || x)))));
      }

  own_without : (t u : Typ) (cat : Cat) → is_prvalue cat ≡ true → typ_ready plain false t ≡ true → without_exception t ≡ u → Own t u cat
  own_without (typ (tx_ex (typ f d w)) c x) u cat p r e = own_value f d w c x u cat p r e
  own_without (typ f c x) u cat p r e = own_same (typ f c x) u cat p r e

  ways : (R : Type 0) (a b g x y : Bool) → ((a || b) || ((g && x) && y)) ≡ true → g ≡ false → (a ≡ true → R) → (b ≡ true → R) → R
  ways R true b g x y h n f k = f refl
  ways R false true g x y h n f k = k refl
  ways R false false true x y h n f k = absurd cc
  ways R false false false x y h n f k = absurd cc

  pub own_type : (t : Typ) (k : TKind) (u : Typ) (cat : Cat) → goes_both_ways k ≡ false → typ_ready plain false t ≡ true
      → builds t (record { kind = k; typ = u; cat = cat }) ≡ true → Own t u cat
  own_type t k u cat g r b =
      let a = and_parts (is_prvalue cat) ((typ_eq t u || typ_eq (without_exception t) u) || ((goes_both_ways k && is_class_typ t) && same_shape t u)) b in
      ways (Own t u cat) (typ_eq t u) (typ_eq (without_exception t) u) (goes_both_ways k) (is_class_typ t) (same_shape t u) a.1 g
      (λ e. own_same t u cat a.0 r (typ_same t u e)) (λ e. own_without t u cat a.0 r (typ_same (without_exception t) u e))

  -- Pieces

  abbrev pub are_ready : List Head → Bool
  are_ready hs = list_all (λ (h : Head). typ_ready plain false h.typ) hs

  parts_ready : (c x : Bool) (n i : ℕ) (hs : List Head) → plain n ≡ true → are_part_pieces classes c x n i hs ≡ true → are_ready hs ≡ true
  parts_ready c x n i [] l h = refl
  parts_ready c x n i (y ∷ hs) l h =
      let a = and_parts (passes (is_piece_of c x y) (part_of classes n i)) (are_part_pieces classes c x n (suc i) hs) h in
      let b : typ_ready plain false y.typ ≡ true = passes_some (is_piece_of c x y) (typ_ready plain false y.typ ≡ true) (part_of classes n i) a.0
      (λ (p : told.Part) e g. let d = and_parts (is_at p.offset y.kind) (typ_eq (qualified c x p.typ) y.typ) g in
      ap (typ_ready plain false) (sym (typ_same (qualified c x p.typ) y.typ d.1)) ∙ ready_again plain false c x p.typ (closed.parts n i p l e)) in
      both b (parts_ready c x n (suc i) hs l a.1)

  elements_ready : (e : Typ) (size many i : ℕ) (hs : List Head) → typ_ready plain false e ≡ true → are_element_pieces e size many i hs ≡ true
      → are_ready hs ≡ true
  elements_ready e size many i [] r h = refl
  elements_ready e size many i (y ∷ []) r h =
      let a = and_parts (nat_lt i many) ((true && is_piece_at (i * size) (typ (array e (many - i)) false false) y)
      || (is_piece_at (i * size) e y && are_element_pieces e size many (suc i) [])) h in
      either_way (are_ready (y ∷ []) ≡ true) (true && is_piece_at (i * size) (typ (array e (many - i)) false false) y)
      (is_piece_at (i * size) e y && are_element_pieces e size many (suc i) []) a.1
      (λ b. let d = and_parts (is_at (i * size) y.kind) (typ_eq (typ (array e (many - i)) false false) y.typ) b in
      let l : i < many = ltb-true i many a.0 in
      let g : typ_ready plain false (typ (array e (many - i)) false false) ≡ true = both refl (both (lt-ltb 0 (many - i) (omega arith)) r) in
      both (ap (typ_ready plain false) (sym (typ_same (typ (array e (many - i)) false false) y.typ d.1)) ∙ g) refl)
      (λ b. let d = and_parts (is_piece_at (i * size) e y) (are_element_pieces e size many (suc i) []) b in
      let g = and_parts (is_at (i * size) y.kind) (typ_eq e y.typ) d.0 in
      both (ap (typ_ready plain false) (sym (typ_same e y.typ g.1)) ∙ r) refl)
  elements_ready e size many i (y ∷ z ∷ hs) r h =
      let a = and_parts (nat_lt i many) (is_piece_at (i * size) e y && are_element_pieces e size many (suc i) (z ∷ hs)) h in
      let b = and_parts (is_piece_at (i * size) e y) (are_element_pieces e size many (suc i) (z ∷ hs)) a.1 in
      let d = and_parts (is_at (i * size) y.kind) (typ_eq e y.typ) b.0 in
      both (ap (typ_ready plain false) (sym (typ_same e y.typ d.1)) ∙ r) (elements_ready e size many (suc i) (z ∷ hs) r b.1)

  pub pieces_ready : (t : Typ) (hs : List Head) → typ_ready plain false t ≡ true → are_pieces classes t hs ≡ true → are_ready hs ≡ true
  pieces_ready (typ (class n) c x) hs r h = parts_ready c x n 0 hs r (and_parts (is_some (sized_class classes n)) (are_part_pieces classes c x n 0 hs) h).1
  pieces_ready (typ (closure n) c x) hs r h = parts_ready c x n 0 hs r (and_parts (is_some (sized_class classes n)) (are_part_pieces classes c x n 0 hs) h).1
  pieces_ready (typ (array e many) c x) hs r h = passes_some (λ (size : ℕ). are_element_pieces e size many 0 hs) (are_ready hs ≡ true) (size_in classes e) h
      (λ size g k. elements_ready e size many 0 hs (and_parts (nat_lt 0 many) (typ_ready plain false e)
      (and_parts (not (c || x)) (nat_lt 0 many && typ_ready plain false e) r).1).1 k)
  pieces_ready (typ void c x) hs r h = absurd cc
  pieces_ready (typ (int k) c x) hs r h = absurd cc
  pieces_ready (typ (enum n s) c x) hs r h = absurd cc
  pieces_ready (typ null c x) hs r h = absurd cc
  pieces_ready (typ (ptr t) c x) hs r h = absurd cc
  pieces_ready (typ (ref t) c x) hs r h = absurd cc
  pieces_ready (typ (func s) c x) hs r h = absurd cc
  pieces_ready (typ (tx_ex t) c x) hs r h = absurd cc

  -- the same pieces, changed

  piece_again : (offset : ℕ) (t : Typ) (h : Head) → is_piece_at offset t h ≡ true → is_piece_at offset (qualified q v t) (changed h) ≡ true
  piece_again offset t h g = let a = and_parts (is_at offset h.kind) (typ_eq t h.typ) g in
      both a.0 (ap (λ (x : Typ). typ_eq (qualified q v t) (qualified q v x)) (sym (typ_same t h.typ a.1)) ∙ typ_refl (qualified q v t))

  parts_again : (c x : Bool) (n i : ℕ) (hs : List Head) → are_part_pieces classes c x n i hs ≡ true
      → are_part_pieces classes (q || c) (v || x) n i (map changed hs) ≡ true
  parts_again c x n i [] h = h
  parts_again c x n i (y ∷ hs) h =
      let a = and_parts (passes (is_piece_of c x y) (part_of classes n i)) (are_part_pieces classes c x n (suc i) hs) h in
      both (passes_more (is_piece_of c x y) (is_piece_of (q || c) (v || x) (changed y)) (λ (p : told.Part) g.
      let b = piece_again p.offset (qualified c x p.typ) y g in
      ap (λ (z : Typ). is_piece_at p.offset z (changed y)) (sym (again q v c x p.typ)) ∙ b) (part_of classes n i) a.0)
      (parts_again c x n (suc i) hs a.1)

  elements_again : (e : Typ) (size many i : ℕ) (hs : List Head) → are_element_pieces e size many i hs ≡ true
      → are_element_pieces (qualified q v e) size many i (map changed hs) ≡ true
  elements_again e size many i [] h = h
  elements_again e size many i (y ∷ []) h =
      let a = and_parts (nat_lt i many) ((true && is_piece_at (i * size) (typ (array e (many - i)) false false) y)
      || (is_piece_at (i * size) e y && are_element_pieces e size many (suc i) [])) h in
      both a.0 (either_way _ (true && is_piece_at (i * size) (typ (array e (many - i)) false false) y)
      (is_piece_at (i * size) e y && are_element_pieces e size many (suc i) []) a.1
      (λ b. or_left (is_piece_at (i * size) (qualified q v e) (changed y) && are_element_pieces (qualified q v e) size many (suc i) [])
      (piece_again (i * size) (typ (array e (many - i)) false false) y b))
      (λ b. let d = and_parts (is_piece_at (i * size) e y) (are_element_pieces e size many (suc i) []) b in
      or_right (true && is_piece_at (i * size) (typ (array (qualified q v e) (many - i)) false false) (changed y)) (both (piece_again (i * size) e y d.0) d.1)))
  elements_again e size many i (y ∷ z ∷ hs) h =
      let a = and_parts (nat_lt i many) (is_piece_at (i * size) e y && are_element_pieces e size many (suc i) (z ∷ hs)) h in
      let b = and_parts (is_piece_at (i * size) e y) (are_element_pieces e size many (suc i) (z ∷ hs)) a.1 in
      both a.0 (both (piece_again (i * size) e y b.0) (elements_again e size many (suc i) (z ∷ hs) b.1))

  pub pieces_again : (t : Typ) (hs : List Head) → are_pieces classes t hs ≡ true → are_pieces classes (qualified q v t) (map changed hs) ≡ true
  pieces_again (typ (class n) c x) hs h = let a = and_parts (is_some (sized_class classes n)) (are_part_pieces classes c x n 0 hs) h in
      both a.0 (parts_again c x n 0 hs a.1)
  pieces_again (typ (closure n) c x) hs h = let a = and_parts (is_some (sized_class classes n)) (are_part_pieces classes c x n 0 hs) h in
      both a.0 (parts_again c x n 0 hs a.1)
  pieces_again (typ (array e many) c x) hs h =
      ap (passes (λ (size : ℕ). are_element_pieces (qualified q v e) size many 0 (map changed hs))) (size_again classes q v e)
      ∙ passes_more (λ (size : ℕ). are_element_pieces e size many 0 hs) (λ (size : ℕ). are_element_pieces (qualified q v e) size many 0 (map changed hs))
      (λ size g. elements_again e size many 0 hs g) (size_in classes e) h
  pieces_again (typ void c x) hs h = absurd cc
  pieces_again (typ (int k) c x) hs h = absurd cc
  pieces_again (typ (enum n s) c x) hs h = absurd cc
  pieces_again (typ null c x) hs h = absurd cc
  pieces_again (typ (ptr t) c x) hs h = absurd cc
  pieces_again (typ (ref t) c x) hs h = absurd cc
  pieces_again (typ (func s) c x) hs h = absurd cc
  pieces_again (typ (tx_ex t) c x) hs h = absurd cc

  -- Elements that are built alike: what builds one

  pub record ElementAt (count stride before : ℕ) (t : Typ) (h : Head) : Type 0 where
    pub element : Typ
    pub ready : typ_ready plain false element ≡ true
    pub built : builds element h ≡ true
    pub again : (g : Head) → builds (qualified q v element) g ≡ true → are_elements classes count stride before (qualified q v t) g ≡ true

  pub element_found : (count stride before : ℕ) (t : Typ) (h : Head) → typ_ready plain false t ≡ true → are_elements classes count stride before t h ≡ true
      → ElementAt count stride before t h
  element_found count stride before (typ (array e many) c x) h r g =
      let k = (and_parts (nat_lt 0 many) (typ_ready plain false e) (and_parts (not (c || x)) (nat_lt 0 many && typ_ready plain false e) r).1).1 in
      let a = and_parts (nat_le (before * many) count) ((((before * many == count) && builds e h) && has_size classes e stride)
      || are_elements classes count stride (before * many) e h) g in
      either_way (ElementAt count stride before (typ (array e many) c x) h) (((before * many == count) && builds e h) && has_size classes e stride)
      (are_elements classes count stride (before * many) e h) a.1
      (λ b. let d = and_parts ((before * many == count) && builds e h) (has_size classes e stride) b in
      let f = and_parts (before * many == count) (builds e h) d.0 in
      record {
        element = e;
        ready = k;
        built = f.1;
        again = λ y z. both a.0 (or_left _ (both (both f.0 z) (stride_again classes q v e stride ∙ d.1)));
      })
      (λ b. let y = element_found count stride (before * many) e h k b in
      record { element = y.element; ready = y.ready; built = y.built; again = λ z w. both a.0 (or_right _ (y.again z w)) })
  element_found count stride before (typ void c x) h r g = absurd cc
  element_found count stride before (typ (int k) c x) h r g = absurd cc
  element_found count stride before (typ (enum n s) c x) h r g = absurd cc
  element_found count stride before (typ null c x) h r g = absurd cc
  element_found count stride before (typ (ptr t) c x) h r g = absurd cc
  element_found count stride before (typ (ref t) c x) h r g = absurd cc
  element_found count stride before (typ (func s) c x) h r g = absurd cc
  element_found count stride before (typ (class n) c x) h r g = absurd cc
  element_found count stride before (typ (closure n) c x) h r g = absurd cc
  element_found count stride before (typ (tx_ex t) c x) h r g = absurd cc
