-- Nodes that build or copy objects by their parts fit where those of the parts do.
use Rattle.std.proofs.Common.{◌≡◌, refl, sym, subst, ℕ, suc, ◌+◌, ◌*◌, ◌<◌, Bool, true, false, ◌&&◌, ◌||◌, ◌==◌, nat_le, nat_lt}
use Rattle.std.proofs.Common.{List, [], ◌∷◌, length, slice_get, Some, is_some, arith, lt-ltb, le-leb, eq-eqb}
use Rattle.std.proofs.lemmas.Bool.{and_from}
use Rattle.elab_rules.specs.cpp_types.Typ.{Typ, typ, Form, array, class, closure, tx_ex}
use Rattle.elab_rules.specs.cpp_types.Class.{Class}
use Rattle.elab_rules.specs.cpp_types.Equal.{typ_eq}
use Rattle.elab_rules.specs.cpp_types.declared.classes.At.{At}
use Rattle.elab_rules.specs.cpp_types.declared.ranks.Cat.TheVariants.{Prvalue}
use Rattle.elab_rules.specs.cpp_tree.declared.kinds.TKind.TheVariants.{Pieces, Piece, Elements}
use Rattle.elab_rules.specs.cpp_tree.declared.roles.Position.{Position}
use Rattle.elab_rules.specs.cpp_tree.declared.roles.Role.{Role}
use Rattle.elab_rules.specs.cpp_tree.declared.roles.Role.TheVariants.{Initialiser, CopyInit, Part as PartRole, CopiedPart}
use Rattle.elab_rules.specs.cpp_tree.Trees.{Tree, node, Trees, more, one, kind_of}
use Rattle.elab_rules.specs.cpp_tree.Typing.{head_of, builds, qualified, without_exception, is_prvalue, is_class_typ, same_shape}
use Rattle.elab_rules.specs.cpp_tree.Typing.{goes_both_ways}
use Rattle.elab_rules.specs.cpp_tree.Parts.{part_of, count_of_parts, are_part_pieces, sized_class, has_size}
use Rattle.elab_rules.specs.cpp_tree.Roles.{and_any}
use Rattle.elab_rules.specs.cpp_tree.Rows.{Setting}
use Rattle.elab_rules.specs.cpp_tree.WellFormed.{fits, kids_fit, heads_of, is_kid, enough}
use Rattle.elab_rules.specs.cpp_tree.Notation.{plain}
use Rattle.elab_rules.specs.Objects.{Part, pieces}
use Rattle.elab_rules.proofs.cpp_types.EqualTests.{typ_eq_is}
use Rattle.elab_fits.proofs.Objects.{shown}

pub typ_refl : (t : Typ) → typ_eq t t ≡ true
typ_refl t = sym (typ_eq_is true t t ((λ h. refl), (λ h. refl)))

-- the role of what builds an object, or copies one, and that of its parts
abbrev pub object_as : Bool → Role
object_as true = CopyInit
object_as false = Initialiser

abbrev pub part_as : Bool → Role
part_as true = CopiedPart
part_as false = PartRole

pub record IsObject (s : Setting) (copying : Bool) (t : Typ) (e : Tree) : Type 0 where
  pub fits : (p : Position) → fits s p (object_as copying) e ≡ true
  pub builds : builds t (head_of e) ≡ true
  pub kid : is_kid (kind_of e) ≡ true

pub piece_fits : (s : Setting) (copying : Bool) (p : Position) (offset : ℕ) (t : Typ) (at : At) (e : Tree) → IsObject s copying t e
    → fits s p (part_as copying) (node (Piece offset) t Prvalue at (one e)) ≡ true
piece_fits s true p offset t at e h = let b = h.builds in let k = h.kid in let f = h.fits p in rw (b, k, f) refl
piece_fits s false p offset t at e h = let b = h.builds in let k = h.kid in let f = h.fits p in rw (b, k, f) refl

piece_kid : (s : Setting) (p : Position) (copying : Bool) (i : ℕ) (e : Tree) (others : Trees) → is_kid (kind_of e) ≡ true → fits s p (part_as copying) e ≡ true
    → kids_fit s p (and_any [] (part_as copying)) (suc i) others ≡ true → kids_fit s p (and_any [] (part_as copying)) i (more e others) ≡ true
piece_kid s p true i e others k f h = rw (k, f, h) refl
piece_kid s p false i e others k f h = rw (k, f, h) refl

pub pieces_fit : (s : Setting) (copying : Bool) (p : Position) (each : Part → Tree) (type : Part → Typ) (at : At) (ps : List Part) (i : ℕ)
    → ((j : ℕ) (q : Part) → slice_get ps j ≡ Some q → IsObject s copying (type q) (each q))
    → kids_fit s p (and_any [] (part_as copying)) i (pieces each type at ps) ≡ true
pieces_fit s copying p each type at [] i h = refl
pieces_fit s copying p each type at (q ∷ ps) i h =
    piece_kid s p copying i (node (Piece q.offset) (type q) Prvalue at (one (each q))) (pieces each type at ps) refl
    (piece_fits s copying p q.offset (type q) at (each q) (h 0 q refl)) (pieces_fit s copying p each type at ps (suc i) (λ j r g. h (suc j) r g))

pub pieces_agree : (classes : List Class) (n : ℕ) (c v : Bool) (each : Part → Tree) (at : At) (ps : List Part) (i : ℕ)
    → ((j : ℕ) (p : Part) → slice_get ps j ≡ Some p → part_of classes n (i + j) ≡ Some (shown p)) → i + length ps ≡ count_of_parts classes n
    → are_part_pieces classes c v n i (heads_of (pieces each (λ (p : Part). qualified c v p.typ) at ps)) ≡ true
pieces_agree classes n c v each at [] i h e = eq-eqb i (count_of_parts classes n) (omega arith)
pieces_agree classes n c v each at (p ∷ ps) i h e =
    let z : i + 0 ≡ i = omega arith in
    let f : part_of classes n i ≡ Some (shown p) = subst (λ (x : ℕ). part_of classes n x ≡ Some (shown p)) z (h 0 p refl) in
    let o : (p.offset == p.offset) ≡ true = eq-eqb p.offset p.offset refl in
    let t = typ_refl (qualified c v p.typ) in
    let r = pieces_agree classes n c v each at ps (suc i)
    (λ j q g. let y : i + suc j ≡ suc i + j = omega arith in subst (λ (x : ℕ). part_of classes n x ≡ Some (shown q)) y (h (suc j) q g)) (omega arith) in
    rw (f, o, t, r) refl

-- of exactly this type
pub record IsExact (s : Setting) (copying : Bool) (t : Typ) (e : Tree) : Type 0 where
  pub fits : (p : Position) → fits s p (object_as copying) e ≡ true
  pub value : is_prvalue (head_of e).cat ≡ true
  pub typed : typ_eq t (head_of e).typ ≡ true
  pub kid : is_kid (kind_of e) ≡ true

first_of : (a b c : Bool) → a ≡ true → (a || b || c) ≡ true
first_of a b c h = rw h refl

second_of : (a b c : Bool) → b ≡ true → (a || b || c) ≡ true
second_of true b c h = refl
second_of false b c h = rw h refl

pub object_from : (s : Setting) (copying : Bool) (t : Typ) (e : Tree) → IsExact s copying t e → IsObject s copying t e
object_from s copying t e h = record {
  fits = h.fits;
  builds = and_from (is_prvalue (head_of e).cat) (typ_eq t (head_of e).typ || typ_eq (without_exception t) (head_of e).typ
      || (goes_both_ways (head_of e).kind && is_class_typ t && same_shape t (head_of e).typ)) h.value
      (first_of (typ_eq t (head_of e).typ) (typ_eq (without_exception t) (head_of e).typ)
      (goes_both_ways (head_of e).kind && is_class_typ t && same_shape t (head_of e).typ) h.typed);
  kid = h.kid;
}

-- a `std::tx_exception` is built as the value in it
pub exception_from : (s : Setting) (copying : Bool) (f : Form) (a b c v : Bool) (e : Tree) → IsExact s copying (typ f c v) e
    → IsObject s copying (typ (tx_ex (typ f a b)) c v) e
exception_from s copying f a b c v e h = let t : Typ = typ (tx_ex (typ f a b)) c v in record {
  fits = h.fits;
  builds = and_from (is_prvalue (head_of e).cat) (typ_eq t (head_of e).typ || typ_eq (without_exception t) (head_of e).typ
      || (goes_both_ways (head_of e).kind && is_class_typ t && same_shape t (head_of e).typ)) h.value
      (second_of (typ_eq t (head_of e).typ) (typ_eq (without_exception t) (head_of e).typ)
      (goes_both_ways (head_of e).kind && is_class_typ t && same_shape t (head_of e).typ) h.typed);
  kid = h.kid;
}

pub any_many : (role : Role) (many : ℕ) → enough (and_any [] role) many ≡ true
any_many role many = le-leb 0 many (omega arith)

-- an object of a class, by its parts
pub class_node : (s : Setting) (copying : Bool) (n : ℕ) (c v : Bool) (at : At) (kids : Trees) → is_some (sized_class s.classes n) ≡ true
    → are_part_pieces s.classes c v n 0 (heads_of kids) ≡ true → ((p : Position) → kids_fit s p (and_any [] (part_as copying)) 0 kids ≡ true)
    → IsExact s copying (typ (class n) c v) (node Pieces (typ (class n) c v) Prvalue at kids)
class_node s true n c v at kids h a f = record {
  fits = λ p. let g = f p in let m = any_many (part_as true) (length (heads_of kids)) in rw (h, a, m, g) refl;
  value = refl;
  typed = typ_refl (typ (class n) c v);
  kid = refl;
}
class_node s false n c v at kids h a f = record {
  fits = λ p. let g = f p in let m = any_many (part_as false) (length (heads_of kids)) in rw (h, a, m, g) refl;
  value = refl;
  typed = typ_refl (typ (class n) c v);
  kid = refl;
}

pub closure_node : (s : Setting) (copying : Bool) (n : ℕ) (c v : Bool) (at : At) (kids : Trees) → is_some (sized_class s.classes n) ≡ true
    → are_part_pieces s.classes c v n 0 (heads_of kids) ≡ true → ((p : Position) → kids_fit s p (and_any [] (part_as copying)) 0 kids ≡ true)
    → IsExact s copying (typ (closure n) c v) (node Pieces (typ (closure n) c v) Prvalue at kids)
closure_node s true n c v at kids h a f = record {
  fits = λ p. let g = f p in let m = any_many (part_as true) (length (heads_of kids)) in rw (h, a, m, g) refl;
  value = refl;
  typed = typ_refl (typ (closure n) c v);
  kid = refl;
}
closure_node s false n c v at kids h a f = record {
  fits = λ p. let g = f p in let m = any_many (part_as false) (length (heads_of kids)) in rw (h, a, m, g) refl;
  value = refl;
  typed = typ_refl (typ (closure n) c v);
  kid = refl;
}

-- an array, by what is done to each element
pub elements_node : (s : Setting) (copying : Bool) (n size : ℕ) (t : Typ) (at : At) (e : Tree) → 0 < n → has_size s.classes t size ≡ true
    → IsObject s copying t e → IsExact s copying (plain (array t n)) (node (Elements n size) (plain (array t n)) Prvalue at (one e))
elements_node s copying n size t at e l z h = record {
  fits = by copying h;
  value = refl;
  typed = typ_refl (plain (array t n));
  kid = refl;
}
  where
    by : (copying : Bool) → IsObject s copying t e → (p : Position)
        → fits s p (object_as copying) (node (Elements n size) (plain (array t n)) Prvalue at (one e)) ≡ true
    by true h p =
        let a : nat_lt 0 n ≡ true = lt-ltb 0 n l in
        let m : nat_le (1 * n) n ≡ true = le-leb (1 * n) n (omega arith) in
        let q : (1 * n == n) ≡ true = eq-eqb (1 * n) n (omega arith) in
        let b = h.builds in let k = h.kid in let f = h.fits p in
        rw (a, m, q, b, z, k, f) refl
    by false h p =
        let a : nat_lt 0 n ≡ true = lt-ltb 0 n l in
        let m : nat_le (1 * n) n ≡ true = le-leb (1 * n) n (omega arith) in
        let q : (1 * n == n) ≡ true = eq-eqb (1 * n) n (omega arith) in
        let b = h.builds in let k = h.kid in let f = h.fits p in
        rw (a, m, q, b, z, k, f) refl
