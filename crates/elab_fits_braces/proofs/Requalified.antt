-- What builds an object builds one with more qualifiers.
use Rattle.std.proofs.Common.{◌≡◌, refl, sym, ap, ◌∙◌, subst, ℕ, suc, Bool, true, false, not, ◌&&◌, ◌||◌, nat_lt, List, [], ◌∷◌, map, length, None, is_some, slice_get, arith, le-leb}
use Rattle.std.proofs.lemmas.Bool.{and_parts}
use Rattle.std.specs.Prelude.{if◌then◌else◌}
use Rattle.elab_rules.specs.tx_ints.declared.kinds.IntKind.{IntKind}
use Rattle.elab_rules.specs.cpp_types.Typ.{Typ, typ, Form, void, int, enum, null, ptr, ref, array, func, class, closure, tx_ex}
use Rattle.elab_rules.specs.cpp_types.Class.{InOrder}
use Rattle.elab_rules.specs.cpp_types.Equal.{flag_eq}
use Rattle.elab_rules.specs.cpp_types.Conversion.{is_lvalue}
use Rattle.elab_rules.specs.cpp_types.declared.classes.At.{At}
use Rattle.elab_rules.specs.cpp_types.declared.ranks.Cat.{Cat}
use Rattle.elab_rules.specs.cpp_tree.declared.kinds.TKind.{TKind}
use Rattle.elab_rules.specs.cpp_tree.declared.kinds.TKind.TheVariants.{Store, CopyScalar, Construct, CopyConstruct, CopyFrom, Pieces, Piece, Elements, Block}
use Rattle.elab_rules.specs.cpp_tree.declared.roles.Position.{Position}
use Rattle.elab_rules.specs.cpp_tree.declared.roles.Role.{Role}
use Rattle.elab_rules.specs.cpp_tree.declared.roles.Role.TheVariants.{Value, Word, Initialiser, CopyInit, Destruction}
use Rattle.elab_rules.specs.cpp_tree.Trees.{Tree, node, Trees, none, more, kind_of, typ_in}
use Rattle.elab_rules.specs.cpp_tree.Typing.{Head, head_of, passes, form_in, qualified, builds, same_shape, without_exception, is_prvalue, is_class, is_class_typ}
use Rattle.elab_rules.specs.cpp_tree.Typing.{goes_both_ways, kind_in, is_kind, initialises, are_words}
use Rattle.elab_rules.specs.cpp_tree.Parts.{are_pieces, are_elements, size_in}
use Rattle.elab_rules.specs.cpp_tree.Units.{Func}
use Rattle.elab_rules.specs.cpp_tree.Roles.{Kids, only, and_any, serves, way_fits, is_piece, part_role, object_role}
use Rattle.elab_rules.specs.cpp_tree.Rows.{Setting, row_fits, is_access, kid, is_constructor, is_constructor_of, signature_words, is_copied_from, are_destructions}
use Rattle.elab_rules.specs.cpp_types.Trivial.{takes_itself}
use Rattle.elab_rules.specs.cpp_tree.WellFormed.{fits, kids_fit, enough, kids_in, heads_of, inside, is_kid, is_switch, labels_fit, may_stand, branches_fit, stands}
use Rattle.elab_rules.specs.Braces.{requalified, all_requalified}
use Rattle.elab_fits.specs.Standing.{BuildsOne}
use Rattle.elab_fits.specs.Objects.{typ_ready, is_ready}
use Rattle.elab_fits.proofs.Equal.{flag_same, flag_refl}
use Rattle.elab_fits.proofs.Nodes.{both, or_right, node_fits, head_kind, head_typ}
use Rattle.elab_fits.proofs.Pieces.{object_as, part_as}
use Rattle.elab_fits_braces.specs.Qualified.{is_made, are_made, QualifiedBuild}
use Rattle.elab_fits_braces.proofs.PlainRows.{passes_same}
use Rattle.elab_fits_braces.proofs.Qualifiers.{or_swap, shape_again, class_again, number_again, destructions_again}
use Rattle.elab_fits_braces.proofs.Depth.{ArePlain, is_plain, all_plain, ready_plain}
use Rattle.elab_fits_braces.proofs.PartRows.{changed, own_type, are_ready, pieces_ready, pieces_again, element_found}

-- What the test of a node says

record Parts (s : Setting) (p : Position) (role : Role) (kind : TKind) (t : Typ) (cat : Cat) (ks : Trees) : Type 0 where
  serves : serves role kind ≡ true
  row : row_fits s kind t cat (heads_of ks) ≡ true
  enough : enough (kids_in role kind t (heads_of ks)) (length (heads_of ks)) ≡ true
  kids : kids_fit s (inside kind p) (kids_in role kind t (heads_of ks)) 0 ks ≡ true

parts_of : (s : Setting) (p : Position) (role : Role) (kind : TKind) (t : Typ) (cat : Cat) (at : At) (kids : Trees)
    → fits s p role (node kind t cat at kids) ≡ true → Parts s p role kind t cat kids
parts_of s p role kind t cat at kids h =
    let a = and_parts (stands s p role kind t cat (heads_of kids) && enough (kids_in role kind t (heads_of kids)) (length (heads_of kids))
    && (not (is_switch kind) || labels_fit false kids)) (kids_fit s (inside kind p) (kids_in role kind t (heads_of kids)) 0 kids) h in
    let b = and_parts (stands s p role kind t cat (heads_of kids) && enough (kids_in role kind t (heads_of kids)) (length (heads_of kids)))
    (not (is_switch kind) || labels_fit false kids) a.0 in
    let d = and_parts (stands s p role kind t cat (heads_of kids)) (enough (kids_in role kind t (heads_of kids)) (length (heads_of kids))) b.0 in
    let e = and_parts (serves role kind && way_fits role kind t cat && may_stand s.function.kind p kind (length (heads_of kids))
    && branches_fit role kind t (heads_of kids)) (row_fits s kind t cat (heads_of kids)) d.0 in
    let f = and_parts (serves role kind && way_fits role kind t cat && may_stand s.function.kind p kind (length (heads_of kids)))
    (branches_fit role kind t (heads_of kids)) e.0 in
    let g = and_parts (serves role kind && way_fits role kind t cat) (may_stand s.function.kind p kind (length (heads_of kids))) f.0 in
    let i = and_parts (serves role kind) (way_fits role kind t cat) g.0 in
    record { serves = i.0; row = e.1; enough = d.1; kids = a.1 }

-- Roles of what builds an object or copies one, and of its parts

way_plain : (copying : Bool) (k : TKind) (t : Typ) (cat : Cat) → goes_both_ways k ≡ false → way_fits (object_as copying) k t cat ≡ true
way_plain true k t cat n = refl
way_plain false k t cat n = rw n refl

way_part : (copying : Bool) (k : TKind) (t : Typ) (cat : Cat) → way_fits (part_as copying) k t cat ≡ true
way_part true k t cat = refl
way_part false k t cat = refl

part_asked : (copying : Bool) → part_role (object_as copying) ≡ part_as copying
part_asked true = refl
part_asked false = refl

object_asked : (copying : Bool) → object_role (part_as copying) ≡ object_as copying
object_asked true = refl
object_asked false = refl

element_asked : (copying : Bool) → object_role (object_as copying) ≡ object_as copying
element_asked true = refl
element_asked false = refl

store_serves : (copying : Bool) (k : IntKind) (a b : Bool) → serves (object_as copying) (Store k a) ≡ true → serves (object_as copying) (Store k b) ≡ true
store_serves true k a b h = absurd cc
store_serves false k a b h = refl

copy_serves : (copying : Bool) (k : IntKind) (a b : Bool) → serves (object_as copying) (CopyScalar k a) ≡ true
    → serves (object_as copying) (CopyScalar k b) ≡ true
copy_serves true k a b h = refl
copy_serves false k a b h = absurd cc

-- the kinds that are made anew
abbrev is_anew : TKind → Bool
is_anew (Store k a) = true
is_anew (CopyScalar k a) = true
is_anew (Construct f) = true
is_anew (CopyConstruct f) = true
is_anew CopyFrom = true
is_anew Pieces = true
is_anew (Elements n stride) = true
is_anew kind = false

anew : (copying : Bool) (k : TKind) → serves (object_as copying) k ≡ true → (copying || not (goes_both_ways k)) ≡ true → is_anew k ≡ true
anew copying (Store k a) h m = refl
anew copying (CopyScalar k a) h m = refl
anew copying (Construct f) h m = refl
anew copying (CopyConstruct f) h m = refl
anew copying CopyFrom h m = refl
anew copying Pieces h m = refl
anew copying (Elements n stride) h m = refl
anew true k h m = absurd cc
anew false k h m = absurd cc

piece_serves : (copying : Bool) (k : TKind) → serves (part_as copying) k ≡ true → is_piece k ≡ true
piece_serves true k h = h
piece_serves false k h = h

piece_part : (copying : Bool) (n : ℕ) → serves (part_as copying) (Piece n) ≡ true
piece_part true n = refl
piece_part false n = refl

object_kid : (copying : Bool) (s : Setting) (p : Position) (e : Tree) → fits s p (object_as copying) e ≡ true → is_kid (kind_of e) ≡ true
object_kid true s p (node (Block b) t cat at kids) h = absurd cc
object_kid true s p (node kind t cat at kids) h = refl
object_kid false s p (node (Block b) t cat at kids) h = absurd cc
object_kid false s p (node kind t cat at kids) h = refl

-- Kids

record FirstFits (s : Setting) (p : Position) (role : Role) (asked : Kids) (i : ℕ) (e : Tree) (es : Trees) : Type 0 where
  kid : is_kid (kind_of e) ≡ true
  fits : fits s p role e ≡ true
  others : kids_fit s p asked (suc i) es ≡ true

part_split : (copying : Bool) (s : Setting) (p : Position) (i : ℕ) (e : Tree) (es : Trees)
    → kids_fit s p (and_any [] (part_as copying)) i (more e es) ≡ true → FirstFits s p (part_as copying) (and_any [] (part_as copying)) i e es
part_split true s p i e es h =
    let a = and_parts (is_kid (kind_of e) && fits s p (part_as true) e) (kids_fit s p (and_any [] (part_as true)) (suc i) es) h in
    let b = and_parts (is_kid (kind_of e)) (fits s p (part_as true) e) a.0 in
    record { kid = b.0; fits = b.1; others = a.1 }
part_split false s p i e es h =
    let a = and_parts (is_kid (kind_of e) && fits s p (part_as false) e) (kids_fit s p (and_any [] (part_as false)) (suc i) es) h in
    let b = and_parts (is_kid (kind_of e)) (fits s p (part_as false) e) a.0 in
    record { kid = b.0; fits = b.1; others = a.1 }

part_joined : (copying : Bool) (s : Setting) (p : Position) (i : ℕ) (e : Tree) (es : Trees)
    → FirstFits s p (part_as copying) (and_any [] (part_as copying)) i e es → kids_fit s p (and_any [] (part_as copying)) i (more e es) ≡ true
part_joined true s p i e es f = both (both f.kid f.fits) f.others
part_joined false s p i e es f = both (both f.kid f.fits) f.others

object_split : (copying : Bool) (s : Setting) (p : Position) (e : Tree) (es : Trees)
    → kids_fit s p (and_any (object_as copying ∷ []) Destruction) 0 (more e es) ≡ true
    → FirstFits s p (object_as copying) (and_any (object_as copying ∷ []) Destruction) 0 e es
object_split true s p e es h =
    let a = and_parts (is_kid (kind_of e) && fits s p CopyInit e) (kids_fit s p (and_any (CopyInit ∷ []) Destruction) 1 es) h in
    let b = and_parts (is_kid (kind_of e)) (fits s p CopyInit e) a.0 in
    record { kid = b.0; fits = b.1; others = a.1 }
object_split false s p e es h =
    let a = and_parts (is_kid (kind_of e) && fits s p Initialiser e) (kids_fit s p (and_any (Initialiser ∷ []) Destruction) 1 es) h in
    let b = and_parts (is_kid (kind_of e)) (fits s p Initialiser e) a.0 in
    record { kid = b.0; fits = b.1; others = a.1 }

object_joined : (copying : Bool) (s : Setting) (p : Position) (e : Tree) (es : Trees)
    → FirstFits s p (object_as copying) (and_any (object_as copying ∷ []) Destruction) 0 e es
    → kids_fit s p (and_any (object_as copying ∷ []) Destruction) 0 (more e es) ≡ true
object_joined true s p e es f = both (both f.kid f.fits) f.others
object_joined false s p e es f = both (both f.kid f.fits) f.others

either_right : (a b : Bool) → (a ≡ false → b ≡ true) → (a || b) ≡ true
either_right true b h = refl
either_right false b h = h refl

one_of : (a b : Bool) → (a || b) ≡ true → a ≡ false → b ≡ true
one_of true b h n = absurd cc
one_of false b h n = h

first_made : (copying : Bool) (a b : Bool) → (copying || (a && b)) ≡ true → ((copying || a) ≡ true) × ((copying || b) ≡ true)
first_made true a b h = (refl, refl)
first_made false a b h = and_parts a b h

module _ (s : Setting) (plain : ℕ → Bool) (closed : ArePlain s.classes plain) (q v : Bool) where
  -- Rows of scalars

  access : (k : IntKind) (marked : Bool) (f : Form) (c x : Bool) → is_access k marked (typ f c x) ≡ true → is_access k (marked || v) (typ f (q || c) (v || x)) ≡ true
  access k marked f c x h =
      let a = and_parts (is_kind k (kind_in f)) (flag_eq marked x) h in
      let e : flag_eq (marked || v) (v || x) ≡ true =
      ap (λ (b : Bool). flag_eq (b || v) (v || x)) (flag_same marked x a.1) ∙ ap (flag_eq (x || v)) (or_swap v x) ∙ flag_refl (x || v) in
      both a.0 e

  store_row : (k : IntKind) (marked : Bool) (f : Form) (c x : Bool) (cat : Cat) (hs : List Head)
      → ((h : Head) → initialises (typ f (q || c) (v || x)) h ≡ initialises (typ f c x) h)
      → row_fits s (Store k marked) (typ f c x) cat hs ≡ true → row_fits s (Store k (marked || v)) (typ f (q || c) (v || x)) cat hs ≡ true
  store_row k marked f c x cat hs g h =
      let a = and_parts (is_prvalue cat && is_access k marked (typ f c x)) (kid 0 (initialises (typ f c x)) hs) h in
      let b = and_parts (is_prvalue cat) (is_access k marked (typ f c x)) a.0 in
      both (both b.0 (access k marked f c x b.1))
      (passes_same (initialises (typ f (q || c) (v || x))) (initialises (typ f c x)) g (slice_get hs 0) ∙ a.1)

  no_scalar : (k : IntKind) (marked : Bool) (f : Form) (c x : Bool) (cat : Cat) (b : Bool) → ((is_prvalue cat && is_access k marked (typ f c x)) && b) ≡ true
      → is_kind k (kind_in f) ≡ true
  no_scalar k marked f c x cat b h = (and_parts (is_kind k (kind_in f)) (flag_eq marked x) (and_parts (is_prvalue cat) (is_access k marked (typ f c x))
      (and_parts (is_prvalue cat && is_access k marked (typ f c x)) b h).0).1).0

  stored_again : (k : IntKind) (marked : Bool) (u : Typ) (cat : Cat) (hs : List Head) → typ_ready plain false u ≡ true
      → row_fits s (Store k marked) u cat hs ≡ true → row_fits s (Store k (marked || v)) (qualified q v u) cat hs ≡ true
  stored_again k marked (typ (int j) c x) cat hs r h = store_row k marked (int j) c x cat hs (λ y. refl) h
  stored_again k marked (typ (enum n z) c x) cat hs r h = store_row k marked (enum n z) c x cat hs (λ y. refl) h
  stored_again k marked (typ null c x) cat hs r h = store_row k marked null c x cat hs (λ y. refl) h
  stored_again k marked (typ (ptr t) c x) cat hs r h = store_row k marked (ptr t) c x cat hs (λ y. refl) h
  stored_again k marked (typ (ref t) c x) cat hs r h = absurd cc
  stored_again k marked (typ void c x) cat hs r h = absurd cc
  stored_again k marked (typ (array t n) c x) cat hs r h =
      let a = no_scalar k marked (array t n) c x cat (kid 0 (initialises (typ (array t n) c x)) hs) h in absurd cc
  stored_again k marked (typ (func g) c x) cat hs r h = absurd cc
  stored_again k marked (typ (class n) c x) cat hs r h =
      let a = no_scalar k marked (class n) c x cat (kid 0 (initialises (typ (class n) c x)) hs) h in absurd cc
  stored_again k marked (typ (closure n) c x) cat hs r h =
      let a = no_scalar k marked (closure n) c x cat (kid 0 (initialises (typ (closure n) c x)) hs) h in absurd cc
  stored_again k marked (typ (tx_ex t) c x) cat hs r h =
      let a = no_scalar k marked (tx_ex t) c x cat (kid 0 (initialises (typ (tx_ex t) c x)) hs) h in absurd cc

  copied_row : (k : IntKind) (marked : Bool) (f : Form) (c x : Bool) (cat : Cat) (hs : List Head)
      → row_fits s (CopyScalar k marked) (typ f c x) cat hs ≡ true → row_fits s (CopyScalar k (marked || v)) (typ f (q || c) (v || x)) cat hs ≡ true
  copied_row k marked f c x cat hs h = let b = and_parts (is_prvalue cat) (is_access k marked (typ f c x)) h in both b.0 (access k marked f c x b.1)

  no_copied : (k : IntKind) (marked : Bool) (f : Form) (c x : Bool) (cat : Cat) → (is_prvalue cat && is_access k marked (typ f c x)) ≡ true
      → is_kind k (kind_in f) ≡ true
  no_copied k marked f c x cat h = (and_parts (is_kind k (kind_in f)) (flag_eq marked x) (and_parts (is_prvalue cat) (is_access k marked (typ f c x)) h).1).0

  copied_again : (k : IntKind) (marked : Bool) (u : Typ) (cat : Cat) (hs : List Head) → typ_ready plain false u ≡ true
      → row_fits s (CopyScalar k marked) u cat hs ≡ true → row_fits s (CopyScalar k (marked || v)) (qualified q v u) cat hs ≡ true
  copied_again k marked (typ (int j) c x) cat hs r h = copied_row k marked (int j) c x cat hs h
  copied_again k marked (typ (enum n z) c x) cat hs r h = copied_row k marked (enum n z) c x cat hs h
  copied_again k marked (typ null c x) cat hs r h = copied_row k marked null c x cat hs h
  copied_again k marked (typ (ptr t) c x) cat hs r h = copied_row k marked (ptr t) c x cat hs h
  copied_again k marked (typ (ref t) c x) cat hs r h = absurd cc
  copied_again k marked (typ void c x) cat hs r h = absurd cc
  copied_again k marked (typ (array t n) c x) cat hs r h = let a = no_copied k marked (array t n) c x cat h in absurd cc
  copied_again k marked (typ (func g) c x) cat hs r h = absurd cc
  copied_again k marked (typ (class n) c x) cat hs r h = let a = no_copied k marked (class n) c x cat h in absurd cc
  copied_again k marked (typ (closure n) c x) cat hs r h = let a = no_copied k marked (closure n) c x cat h in absurd cc
  copied_again k marked (typ (tx_ex t) c x) cat hs r h = let a = no_copied k marked (tx_ex t) c x cat h in absurd cc

  -- Rows of constructors, and of what is copied

  construct_row : (f : ℕ) (u : Typ) (cat : Cat) (hs : List Head) → row_fits s (Construct f) (qualified q v u) cat hs ≡ row_fits s (Construct f) u cat hs
  construct_row f u cat hs = ap (λ (x : Bool). is_prvalue cat && x) (passes_same
      (λ (g : Func). is_constructor_of (qualified q v u) g.kind g.class && are_words (signature_words None g.declared.signature) hs)
      (λ (g : Func). is_constructor_of u g.kind g.class && are_words (signature_words None g.declared.signature) hs)
      (λ (g : Func). ap (λ (x : Bool). (is_constructor g.kind && x) && are_words (signature_words None g.declared.signature) hs)
      (passes_same (λ (n : ℕ). is_class n (form_in (qualified q v u))) (λ (n : ℕ). is_class n (form_in u)) (λ n. number_again q v n u) g.class))
      (slice_get s.funcs f))

  copy_row : (f : ℕ) (u : Typ) (cat : Cat) (hs : List Head) → row_fits s (CopyConstruct f) (qualified q v u) cat hs ≡ row_fits s (CopyConstruct f) u cat hs
  copy_row f u cat hs = ap (λ (x : Bool). is_prvalue cat && x) (passes_same
      (λ (g : Func). is_constructor g.kind && passes (λ (n : ℕ). is_class n (form_in (qualified q v u)) && takes_itself n g.declared.signature) g.class)
      (λ (g : Func). is_constructor g.kind && passes (λ (n : ℕ). is_class n (form_in u) && takes_itself n g.declared.signature) g.class)
      (λ (g : Func). ap (λ (x : Bool). is_constructor g.kind && x) (passes_same
      (λ (n : ℕ). is_class n (form_in (qualified q v u)) && takes_itself n g.declared.signature) (λ (n : ℕ). is_class n (form_in u) && takes_itself n g.declared.signature)
      (λ n. ap (λ (x : Bool). x && takes_itself n g.declared.signature) (number_again q v n u)) g.class))
      (slice_get s.funcs f))

  source_again : (u : Typ) (h : Head) → is_copied_from (qualified q v u) h ≡ is_copied_from u h
  source_again u h = ap (λ (x : Bool). is_lvalue h.cat && (x || same_shape (qualified q v u) (without_exception h.typ))) (shape_again q v u h.typ)
      ∙ ap (λ (x : Bool). is_lvalue h.cat && (same_shape u h.typ || x)) (shape_again q v u (without_exception h.typ))

  -- the destructions behind what builds an element
  behind_again : (e : Tree) (hs : List Head) → are_destructions s (head_of (requalified q v e)).typ hs ≡ are_destructions s (head_of e).typ hs
  behind_again (node (Store k marked) t cat at kids) hs = destructions_again s q v t hs
  behind_again (node (CopyScalar k marked) t cat at kids) hs = destructions_again s q v t hs
  behind_again (node (Construct k) t cat at kids) hs = destructions_again s q v t hs
  behind_again (node (CopyConstruct k) t cat at kids) hs = destructions_again s q v t hs
  behind_again (node CopyFrom t cat at (more source kids)) hs = destructions_again s q v t hs
  behind_again (node Pieces t cat at kids) hs = destructions_again s q v t hs
  behind_again (node (Piece offset) t cat at (more e ds)) hs = destructions_again s q v t hs
  behind_again (node (Elements n stride) t cat at (more e ds)) hs = destructions_again s q v t hs
  behind_again (node kind t cat at kids) hs = refl

  -- Trees

  record Again (copying : Bool) (p : Position) (t : Typ) (e : Tree) : Type 0 where
    fits : fits s p (object_as copying) (requalified q v e) ≡ true
    builds : builds (qualified q v t) (head_of (requalified q v e)) ≡ true

  record PartAgain (copying : Bool) (p : Position) (e : Tree) : Type 0 where
    fits : fits s p (part_as copying) (requalified q v e) ≡ true
    head : head_of (requalified q v e) ≡ changed s.classes plain closed q v (head_of e)
    kid : is_kid (kind_of (requalified q v e)) ≡ true

  record AllAgain (copying : Bool) (p : Position) (i : ℕ) (ts : Trees) : Type 0 where
    fits : kids_fit s p (and_any [] (part_as copying)) i (all_requalified q v ts) ≡ true
    heads : heads_of (all_requalified q v ts) ≡ map (changed s.classes plain closed q v) (heads_of ts)

  mutual
    object_again : (copying : Bool) (p : Position) (t : Typ) (e : Tree) → typ_ready plain false t ≡ true → builds t (head_of e) ≡ true
        → (copying || is_made e) ≡ true → fits s p (object_as copying) e ≡ true → Again copying p t e
    object_again copying p t (node (Store k marked) u cat at kids) r b m h =
        let f = parts_of s p (object_as copying) (Store k marked) u cat at kids h in
        let o = own_type s.classes plain closed q v t (Store k marked) u cat refl r b in
        record {
          fits = node_fits s p (object_as copying) (Store k (marked || v)) (qualified q v u) cat at kids (only (Value ∷ []))
              (store_serves copying k marked (marked || v) f.serves) (way_plain copying (Store k (marked || v)) (qualified q v u) cat refl) refl refl
              (stored_again k marked u cat (heads_of kids) o.ready f.row) refl f.enough refl f.kids;
          builds = o.again (Store k (marked || v));
        }
    object_again copying p t (node (CopyScalar k marked) u cat at kids) r b m h =
        let f = parts_of s p (object_as copying) (CopyScalar k marked) u cat at kids h in
        let o = own_type s.classes plain closed q v t (CopyScalar k marked) u cat refl r b in
        record {
          fits = node_fits s p (object_as copying) (CopyScalar k (marked || v)) (qualified q v u) cat at kids (only [])
              (copy_serves copying k marked (marked || v) f.serves) (way_plain copying (CopyScalar k (marked || v)) (qualified q v u) cat refl) refl refl
              (copied_again k marked u cat (heads_of kids) o.ready f.row) refl f.enough refl f.kids;
          builds = o.again (CopyScalar k (marked || v));
        }
    object_again copying p t (node (Construct k) u cat at kids) r b m h =
        let f = parts_of s p (object_as copying) (Construct k) u cat at kids h in
        let o = own_type s.classes plain closed q v t (Construct k) u cat refl r b in
        record {
          fits = node_fits s p (object_as copying) (Construct k) (qualified q v u) cat at kids (and_any [] Word) f.serves
              (way_plain copying (Construct k) (qualified q v u) cat refl) refl refl (construct_row k u cat (heads_of kids) ∙ f.row) refl f.enough refl f.kids;
          builds = o.again (Construct k);
        }
    object_again copying p t (node (CopyConstruct k) u cat at kids) r b m h =
        let f = parts_of s p (object_as copying) (CopyConstruct k) u cat at kids h in
        let o = own_type s.classes plain closed q v t (CopyConstruct k) u cat refl r b in
        record {
          fits = node_fits s p (object_as copying) (CopyConstruct k) (qualified q v u) cat at kids (only []) f.serves
              (way_plain copying (CopyConstruct k) (qualified q v u) cat refl) refl refl (copy_row k u cat (heads_of kids) ∙ f.row) refl f.enough refl f.kids;
          builds = o.again (CopyConstruct k);
        }
    object_again copying p t (node CopyFrom u cat at none) r b m h =
        let f = parts_of s p (object_as copying) CopyFrom u cat at none h in
        let a = (and_parts (is_prvalue cat && false) false f.row).1 in
        absurd cc
    object_again copying p t (node CopyFrom u cat at (more source none)) r b m h =
        let f = parts_of s p (object_as copying) CopyFrom u cat at (more source none) h in
        let a = (and_parts (is_prvalue cat && is_copied_from u (head_of source)) false f.row).1 in
        absurd cc
    object_again copying p t (node CopyFrom u cat at (more source (more e none))) r b m h =
        let f = parts_of s p (object_as copying) CopyFrom u cat at (more source (more e none)) h in
        let o = own_type s.classes plain closed q v t CopyFrom u cat refl r b in
        let x = and_parts (is_prvalue cat && is_copied_from u (head_of source)) (builds u (head_of e)) f.row in
        let y = and_parts (is_prvalue cat) (is_copied_from u (head_of source)) x.0 in
        let a = and_parts (is_kid (kind_of source) && fits s p Value source) ((is_kid (kind_of e) && fits s p CopyInit e) && true) f.kids in
        let d = and_parts (is_kid (kind_of e) && fits s p CopyInit e) true a.1 in
        let g = and_parts (is_kid (kind_of e)) (fits s p CopyInit e) d.0 in
        let i = object_again true p u e o.ready x.1 refl g.1 in
        record {
          fits = node_fits s p (object_as copying) CopyFrom (qualified q v u) cat at (more source (more (requalified q v e) none))
              (only (Value ∷ CopyInit ∷ [])) f.serves (way_plain copying CopyFrom (qualified q v u) cat refl) refl refl
              (both (both y.0 (source_again u (head_of source) ∙ y.1)) i.builds) refl refl refl
              (both a.0 (both (both (object_kid true s p (requalified q v e) i.fits) i.fits) refl));
          builds = o.again CopyFrom;
        }
    object_again copying p t (node CopyFrom u cat at (more source (more e (more z zs)))) r b m h =
        let f = parts_of s p (object_as copying) CopyFrom u cat at (more source (more e (more z zs))) h in
        let a = and_parts (is_kid (kind_of source) && fits s p Value source) _ f.kids in
        let d = and_parts (is_kid (kind_of e) && fits s p CopyInit e) false a.1 in
        let g = d.1 in
        absurd cc
    object_again copying p t (node Pieces u cat at kids) r b m h =
        let f = parts_of s p (object_as copying) Pieces u cat at kids h in
        let o = own_type s.classes plain closed q v t Pieces u cat refl r b in
        let x = and_parts (is_prvalue cat) (are_pieces s.classes u (heads_of kids)) f.row in
        let k : kids_fit s p (and_any [] (part_as copying)) 0 kids ≡ true =
        ap (λ (y : Role). kids_fit s p (and_any [] y) 0 kids) (sym (part_asked copying)) ∙ f.kids in
        let y = all_again copying p 0 kids (pieces_ready s.classes plain closed q v u (heads_of kids) o.ready x.1) m k in
        record {
          fits = node_fits s p (object_as copying) Pieces (qualified q v u) cat at (all_requalified q v kids) (and_any [] (part_as copying)) f.serves
              (way_plain copying Pieces (qualified q v u) cat refl) refl refl
              (both x.0 (ap (are_pieces s.classes (qualified q v u)) y.heads ∙ pieces_again s.classes plain closed q v u (heads_of kids) x.1))
              (ap (and_any []) (part_asked copying)) (le-leb 0 (length (heads_of (all_requalified q v kids))) (omega arith)) refl y.fits;
          builds = o.again Pieces;
        }
    object_again copying p t (node (Elements n stride) u cat at none) r b m h =
        let f = parts_of s p (object_as copying) (Elements n stride) u cat at none h in
        let a = (and_parts (is_prvalue cat && nat_lt 0 n) false f.row).1 in
        absurd cc
    object_again copying p t (node (Elements n stride) u cat at (more e ds)) r b m h =
        let f = parts_of s p (object_as copying) (Elements n stride) u cat at (more e ds) h in
        let o = own_type s.classes plain closed q v t (Elements n stride) u cat refl r b in
        let x = and_parts (is_prvalue cat && nat_lt 0 n) (are_elements s.classes n stride 1 u (head_of e) && are_destructions s (head_of e).typ (heads_of ds)) f.row in
        let y = and_parts (are_elements s.classes n stride 1 u (head_of e)) (are_destructions s (head_of e).typ (heads_of ds)) x.1 in
        let z = element_found s.classes plain closed q v n stride 1 u (head_of e) o.ready y.0 in
        let k : kids_fit s p (and_any (object_as copying ∷ []) Destruction) 0 (more e ds) ≡ true =
        ap (λ (w : Role). kids_fit s p (and_any (w ∷ []) Destruction) 0 (more e ds)) (sym (element_asked copying)) ∙ f.kids in
        let l = object_split copying s p e ds k in
        let i = object_again copying p z.element e z.ready z.built m l.fits in
        record {
          fits = node_fits s p (object_as copying) (Elements n stride) (qualified q v u) cat at (more (requalified q v e) ds)
              (and_any (object_as copying ∷ []) Destruction) f.serves (way_plain copying (Elements n stride) (qualified q v u) cat refl) refl refl
              (both x.0 (both (z.again (head_of (requalified q v e)) i.builds) (behind_again e (heads_of ds) ∙ y.1)))
              (ap (λ (w : Role). and_any (w ∷ []) Destruction) (element_asked copying)) f.enough refl
              (object_joined copying s p (requalified q v e) ds
              (record { kid = object_kid copying s p (requalified q v e) i.fits; fits = i.fits; others = l.others }));
          builds = o.again (Elements n stride);
        }
    object_again copying p t (node (Piece offset) u cat at kids) r b m h =
        let f = parts_of s p (object_as copying) (Piece offset) u cat at kids h in
        let a = anew copying (Piece offset) f.serves (either_right copying true (λ n. refl)) in
        absurd cc
    object_again copying p t (node kind u cat at kids) r b m h =
        let f = parts_of s p (object_as copying) kind u cat at kids h in
        let a = anew copying kind f.serves m in
        absurd cc

    part_again : (copying : Bool) (p : Position) (e : Tree) → typ_ready plain false (head_of e).typ ≡ true → (copying || is_made e) ≡ true
        → fits s p (part_as copying) e ≡ true → PartAgain copying p e
    part_again copying p (node (Piece offset) u cat at none) r m h =
        let f = parts_of s p (part_as copying) (Piece offset) u cat at none h in
        let a = (and_parts (is_prvalue cat && false) (are_destructions s u []) f.row).0 in
        let d = (and_parts (is_prvalue cat) false a).1 in
        absurd cc
    part_again copying p (node (Piece offset) u cat at (more e ds)) r m h =
        let f = parts_of s p (part_as copying) (Piece offset) u cat at (more e ds) h in
        let x = and_parts (is_prvalue cat && builds u (head_of e)) (are_destructions s u (heads_of ds)) f.row in
        let y = and_parts (is_prvalue cat) (builds u (head_of e)) x.0 in
        let k : kids_fit s p (and_any (object_as copying ∷ []) Destruction) 0 (more e ds) ≡ true =
        ap (λ (w : Role). kids_fit s p (and_any (w ∷ []) Destruction) 0 (more e ds)) (sym (object_asked copying)) ∙ f.kids in
        let l = object_split copying s p e ds k in
        let i = object_again copying p u e r y.1 m l.fits in
        record {
          fits = node_fits s p (part_as copying) (Piece offset) (qualified q v u) cat at (more (requalified q v e) ds)
              (and_any (object_as copying ∷ []) Destruction) (piece_part copying offset) (way_part copying (Piece offset) (qualified q v u) cat) refl refl
              (both (both y.0 i.builds) (destructions_again s q v u (heads_of ds) ∙ x.1))
              (ap (λ (w : Role). and_any (w ∷ []) Destruction) (object_asked copying)) f.enough refl
              (object_joined copying s p (requalified q v e) ds
              (record { kid = object_kid copying s p (requalified q v e) i.fits; fits = i.fits; others = l.others }));
          head = refl;
          kid = refl;
        }
    part_again copying p (node kind u cat at kids) r m h =
        let f = parts_of s p (part_as copying) kind u cat at kids h in
        let a = piece_serves copying kind f.serves in
        absurd cc

    all_again : (copying : Bool) (p : Position) (i : ℕ) (ts : Trees) → are_ready s.classes plain closed q v (heads_of ts) ≡ true
        → (copying || are_made ts) ≡ true → kids_fit s p (and_any [] (part_as copying)) i ts ≡ true → AllAgain copying p i ts
    all_again copying p i none r m h = record { fits = refl; heads = refl }
    all_again copying p i (more e es) r m h =
        let a = and_parts (typ_ready plain false (head_of e).typ) (are_ready s.classes plain closed q v (heads_of es)) r in
        let d = first_made copying (is_made e) (are_made es) m in
        let l = part_split copying s p i e es h in
        let x = part_again copying p e a.0 d.0 l.fits in
        let y = all_again copying p (suc i) es a.1 d.1 l.others in
        let hx = x.head in
        let hy = y.heads in
        record {
          fits = part_joined copying s p i (requalified q v e) (all_requalified q v es) (record { kid = x.kid; fits = x.fits; others = y.fits });
          heads = rw (hx, hy) refl;
        }

abbrev inner : Position
inner = record { full = true; breaks = false; continues = false }

-- what keeps its own type is left as it is
left_alone : (q v : Bool) (e : Tree) → goes_both_ways (kind_of e) ≡ true → requalified q v e ≡ e
left_alone q v (node (Store k marked) t cat at kids) h = absurd cc
left_alone q v (node (CopyScalar k marked) t cat at kids) h = absurd cc
left_alone q v (node (Construct k) t cat at kids) h = absurd cc
left_alone q v (node (CopyConstruct k) t cat at kids) h = absurd cc
left_alone q v (node CopyFrom t cat at (more source kids)) h = absurd cc
left_alone q v (node Pieces t cat at kids) h = absurd cc
left_alone q v (node (Piece offset) t cat at (more e ds)) h = absurd cc
left_alone q v (node (Elements n stride) t cat at (more e ds)) h = absurd cc
left_alone q v (node kind t cat at kids) h = refl

module _ (s : Setting) (q v : Bool) (t : Typ) (e : Tree) (h : BuildsOne s t e) where
  kept : goes_both_ways (kind_of e) ≡ true → (is_class_typ t && same_shape t (typ_in e)) ≡ true → BuildsOne s (qualified q v t) e
  kept g i =
      let a = and_parts (is_class_typ t) (same_shape t (typ_in e)) i in
      let b = and_parts (is_prvalue (head_of e).cat) _ h.builds in
      let x : goes_both_ways (head_of e).kind ≡ true = ap goes_both_ways (head_kind e) ∙ g in
      let y : same_shape (qualified q v t) (head_of e).typ ≡ true = ap (same_shape (qualified q v t)) (head_typ e) ∙ shape_again q v t (typ_in e) ∙ a.1 in
      record { fits = h.fits; builds = both b.0 (or_right _ (both (both x (class_again q v t ∙ a.0)) y)) }

  made_anew : InOrder s.classes → is_some (size_in s.classes t) ≡ true → is_ready s.classes false t ≡ true → is_made e ≡ true
      → BuildsOne s (qualified q v t) (requalified q v e)
  made_anew o z r m =
      let c = all_plain s.classes o in
      let x = ready_plain s.classes o t z r in
      record {
        fits = λ p full. (object_again s (is_plain s.classes) c q v false p t e x h.builds m (h.fits p full)).fits;
        builds = (object_again s (is_plain s.classes) c q v false inner t e x h.builds m (h.fits inner refl)).builds;
      }

  by_kind : (b : Bool) → goes_both_ways (kind_of e) ≡ b → InOrder s.classes → is_some (size_in s.classes t) ≡ true → is_ready s.classes false t ≡ true
      → (if b then is_class_typ t && same_shape t (typ_in e) else is_made e) ≡ true → BuildsOne s (qualified q v t) (requalified q v e)
  by_kind true g o z r m = subst (λ (x : Tree). BuildsOne s (qualified q v t) x) (sym (left_alone q v e g)) (kept g m)
  by_kind false g o z r m = made_anew o z r m

pub qualified_build : QualifiedBuild
qualified_build s q v t e o z r m h = by_kind s q v t e h (goes_both_ways (kind_of e)) refl o z r m
