-- The parts of objects that braces initialise.
use Rattle.std.proofs.Common.{◌≡◌, refl, sym, ap, ◌∙◌, subst, ℕ, suc, ◌*◌, ◌<◌, ◌≤◌, Bool, true, false, not, ◌&&◌, nat_lt, List, [], ◌∷◌, length}
use Rattle.std.proofs.Common.{slice_get, Option, Some, None, is_some, is_none, option_map, arith, ltb-true, lt-ltb, eq-eqb}
use Rattle.std.proofs.lemmas.Bool.{and_parts}
use Rattle.std.proofs.lemmas.Option.{slice_get_within}
use Rattle.std.specs.Prelude.{if◌then◌else◌}
use Rattle.elab_rules.specs.tx_ints.declared.kinds.IntKind.TheVariants.{ULong}
use Rattle.elab_rules.specs.cpp_types.Typ.{Typ, typ, void, int, enum, null, ptr, ref, array, func, class, closure, tx_ex}
use Rattle.elab_rules.specs.cpp_types.Class.{Class, Member, completion_of}
use Rattle.elab_rules.specs.cpp_types.Equal.{typ_eq}
use Rattle.elab_rules.specs.cpp_types.declared.classes.At.{At}
use Rattle.elab_rules.specs.cpp_types.declared.ranks.Cat.TheVariants.{Prvalue}
use Rattle.elab_rules.specs.cpp_tree.declared.faults.IllRule.{IllRule}
use Rattle.elab_rules.specs.cpp_tree.declared.faults.IllRule.TheVariants.{Incomplete, OutOfProfile}
use Rattle.elab_rules.specs.cpp_tree.declared.kinds.TKind.TheVariants.{Pieces, Piece}
use Rattle.elab_rules.specs.cpp_tree.declared.roles.Position.{Position}
use Rattle.elab_rules.specs.cpp_tree.declared.roles.Role.TheVariants.{Initialiser, Part as PartRole, Destruction}
use Rattle.elab_rules.specs.cpp_tree.Trees.{Tree, node, Trees, more}
use Rattle.elab_rules.specs.cpp_tree.Typing.{Head, head_of, passes, form_in, qualified, is_word_of}
use Rattle.elab_rules.specs.cpp_tree.Parts.{count_of_parts, are_part_pieces, are_element_pieces, are_pieces, is_piece_of}
use Rattle.elab_rules.specs.cpp_tree.Roles.{and_any}
use Rattle.elab_rules.specs.cpp_tree.Rows.{Setting}
use Rattle.elab_rules.specs.cpp_tree.WellFormed.{fits, kids_fit, heads_of}
use Rattle.elab_rules.specs.elab_ctx.Ctx.{Ctx, Work}
use Rattle.elab_rules.specs.elab_ctx.Steps.{check}
use Rattle.elab_rules.specs.Objects.{Part, size_of, destroys}
use Rattle.elab_rules.specs.Names.{members_in, offset_at}
use Rattle.elab_rules.specs.Braces.{part_in, piece, braceable, is_aggregate_class, has_no_base, is_empty, is_virtual_member, is_written_constructor}
use Rattle.elab_rules.specs.Initialising.{places_from}
use Rattle.elab_fits.specs.Standing.{BuildsOne, On}
use Rattle.elab_fits.proofs.Equal.{typ_refl}
use Rattle.elab_fits.proofs.Nodes.{both, or_left, or_right, node_fits}
use Rattle.elab_fits.proofs.Objects.{laid_from, sized_class_is, size_is}
use Rattle.elab_fits.proofs.Sizes.{small_word}
use Rattle.elab_fits.proofs.Steps.{checked}
use Rattle.elab_fits.proofs.Wholes.{qualified_none}
use Rattle.elab_fits.proofs.Pieces.{any_many}
use Rattle.elab_fits_objects.proofs.Fits.{object_kids, at_least_one}
use Rattle.elab_fits_forms.specs.Types.{is_lambda}
use Rattle.elab_fits_forms.specs.Context.{Holds}
use Rattle.elab_fits_items.specs.Items.{MembersSingle}
use Rattle.elab_fits_items.proofs.Types.{IsItem, element_item, offset_small, destroyed, IsAggregate, IsMember, member_is, count_members}

-- what is said of the pieces from one on
abbrev pub Agree : List Class → Typ → ℕ → List Head → Type 0
Agree classes (typ (class n) q v) i hs = are_part_pieces classes q v n i hs ≡ true
Agree classes (typ (array e many) q v) i hs = are_element_pieces e (size_of classes e) many i hs ≡ true
Agree classes t i hs = ⊥

pub record PiecesFrom (s : Setting) (classes : List Class) (t : Typ) (i : ℕ) (ts : Trees) : Type 0 where
  pub fit : (p : Position) (f : ℕ) → p.full ≡ true → kids_fit s p (and_any [] PartRole) f ts ≡ true
  pub right : Agree classes t i (heads_of ts)

-- how many parts there are
abbrev pub IsIndex : List Class → Typ → ℕ → Type 0
IsIndex classes (typ (class n) q v) i = i ≤ count_of_parts classes n
IsIndex classes (typ (array e many) q v) i = i ≤ many
IsIndex classes t i = Unit {0}

abbrev pub piece_head : ℕ → Typ → Head
piece_head offset t = record { kind = Piece offset; typ = t; cat = Prvalue }

-- a part has its place in the object
pub record IsPlaced (c : Ctx) (t : Typ) (i : ℕ) (p : Part) : Type 0 where
  pub item : IsItem c p.typ
  pub word : is_word_of ULong p.offset ≡ true
  pub joins : (hs : List Head) → Agree c.classes t (suc i) hs → Agree c.classes t i (piece_head p.offset p.typ ∷ hs)
  pub next : IsIndex c.classes t (suc i)

checked_last : (P : Bool → Type 0) (at : At) (rule : IllRule) (b : Bool) → (b ≡ true → P true) → On P (check at rule b)
checked_last P at rule true h = h refl
checked_last P at rule false h = tt

none_is : (o : Option ℕ) → is_none o ≡ true → o ≡ None
none_is None h = refl
none_is (Some n) h = absurd cc

module _ (s : Setting) (c : Ctx) (w : Work) (h : Holds s c w) (single : MembersSingle c) where
  -- the types that braces initialise
  abbrev pub Taken : Typ → Type 0
  Taken (typ (array e n) false false) = IsItem c (typ (array e n) false false)
  Taken (typ (class n) q v) = IsAggregate s c w h n
  Taken t = ⊥

  class_taken : (n : ℕ) (q v : Bool) → IsItem c (typ (class n) q v) → is_some (completion_of c.classes n) ≡ true → is_aggregate_class c n ≡ true
      → Taken (typ (class n) q v)
  class_taken n q v i d g =
      let a = and_parts (has_no_base (slice_get c.classes n) && is_empty (places_from (is_virtual_member n) 0 c.funcs))
      (is_empty (places_from (is_written_constructor n) 0 c.funcs)) g in
      let b = and_parts (has_no_base (slice_get c.classes n)) (is_empty (places_from (is_virtual_member n) 0 c.funcs)) a.0 in
      by (slice_get c.classes n) refl b.0
    where
      named : (b : Bool) → not b ≡ true → b ≡ false
      named true e = absurd cc
      named false e = refl

      by : (o : Option Class) → slice_get c.classes n ≡ o → has_no_base o ≡ true → Taken (typ (class n) q v)
      by (Some k) e f = record {
        owner = k;
        found = e;
        base = none_is k.base f;
        complete = d;
        named = named (is_lambda c.classes n) i.target;
        laid = laid_from c.classes n q v i.sized;
      }
      by None e f = absurd cc

  pub taken_is : (t : Typ) (at : At) → IsItem c t → On (λ (b : Bool). Taken t) (braceable c at (form_in t))
  taken_is (typ (array e n) false false) at i = i
  taken_is (typ (array e n) true v) at i = let a = i.ready in absurd cc
  taken_is (typ (array e n) false true) at i = let a = i.ready in absurd cc
  taken_is (typ (class n) q v) at i = checked (λ (b : Bool). Taken (typ (class n) q v)) at Incomplete (is_some (completion_of c.classes n)) _
      (λ d. checked_last (λ (b : Bool). Taken (typ (class n) q v)) at OutOfProfile (is_aggregate_class c n) (λ g. class_taken n q v i d g))
  taken_is (typ (closure n) q v) at i = tt
  taken_is (typ (tx_ex t) q v) at i = tt
  taken_is (typ (int j) q v) at i = tt
  taken_is (typ (enum n x) q v) at i = tt
  taken_is (typ null q v) at i = tt
  taken_is (typ (ptr t) q v) at i = tt
  taken_is (typ void q v) at i = tt
  taken_is (typ (ref t) q v) at i = tt
  taken_is (typ (func g) q v) at i = tt

  -- Parts

  element_joins : (e : Typ) (n i : ℕ) (hs : List Head) → i < n → are_element_pieces e (size_of c.classes e) n (suc i) hs ≡ true
      → are_element_pieces e (size_of c.classes e) n i (piece_head (i * size_of c.classes e) (qualified false false e) ∷ hs) ≡ true
  element_joins e n i hs l r = both (lt-ltb i n l) (or_right _ (both (both (eq-eqb (i * size_of c.classes e) (i * size_of c.classes e) refl)
      (ap (typ_eq e) (qualified_none e) ∙ typ_refl e)) r))

  element_placed : (e : Typ) (n i : ℕ) (p : Part) → IsItem c (typ (array e n) false false) → part_in c (typ (array e n) false false) (array e n) i ≡ Some p
      → IsPlaced c (typ (array e n) false false) i p
  element_placed e n i p x g = by (nat_lt i n) refl g
    where
      by : (b : Bool) → nat_lt i n ≡ b → (if b then Some (let y : Part = record { offset = i * size_of c.classes e; typ = qualified false false e } in y) else None) ≡ Some p
          → IsPlaced c (typ (array e n) false false) i p
      by true k f =
          let l : i < n = ltb-true i n k in
          let z = element_item c e n false false x in
          let q : record { offset = i * size_of c.classes e; typ = qualified false false e } ≡ p = cc in
          subst (λ (y : Part). IsPlaced c (typ (array e n) false false) i y) q (record {
            item = subst (λ (u : Typ). IsItem c u) (sym (qualified_none e)) z.item;
            word = small_word (i * size_of c.classes e) (offset_small c e n i l x);
            joins = λ hs r. element_joins e n i hs l r;
            next = omega arith;
          })
      by false k f = absurd cc

  pub member_joins : (n i : ℕ) (q v : Bool) (m : Member) (hs : List Head) → IsMember s c w h n i q v m → are_part_pieces c.classes q v n (suc i) hs ≡ true
      → are_part_pieces c.classes q v n i (piece_head (offset_at c.classes n i) (qualified q v m.typ) ∷ hs) ≡ true
  member_joins n i q v m hs y r = both (ap (passes (is_piece_of q v (piece_head (offset_at c.classes n i) (qualified q v m.typ)))) y.place
      ∙ both (eq-eqb (offset_at c.classes n i) (offset_at c.classes n i) refl) (typ_refl (qualified q v m.typ))) r

  member_placed : (n i : ℕ) (q v : Bool) (p : Part) → IsAggregate s c w h n → part_in c (typ (class n) q v) (class n) i ≡ Some p
      → IsPlaced c (typ (class n) q v) i p
  member_placed n i q v p a g = by (slice_get (members_in (slice_get c.classes n)) i) refl g
    where
      by : (o : Option Member) → slice_get (members_in (slice_get c.classes n)) i ≡ o
          → option_map (λ (m : Member). let y : Part = record { offset = offset_at c.classes n i; typ = qualified q v m.typ } in y) o ≡ Some p
          → IsPlaced c (typ (class n) q v) i p
      by (Some m) k f =
          let e : slice_get a.owner.members i ≡ Some m = ap (λ (x : Option Class). slice_get (members_in x) i) (sym a.found) ∙ k in
          let y = member_is s c w h single n i q v m a e in
          let l : i < length a.owner.members = slice_get_within a.owner.members i m e in
          let d = count_members s c w h n a in
          let z : record { offset = offset_at c.classes n i; typ = qualified q v m.typ } ≡ p = cc in
          subst (λ (u : Part). IsPlaced c (typ (class n) q v) i u) z (record {
            item = y.item;
            word = (h.complete n a.complete).offsets i;
            joins = λ hs r. member_joins n i q v m hs y r;
            next = omega arith;
          })
      by None k f = absurd cc

  pub placed : (t : Typ) (i : ℕ) (p : Part) → Taken t → part_in c t (form_in t) i ≡ Some p → IsPlaced c t i p
  placed (typ (array e n) false false) i p x g = element_placed e n i p x g
  placed (typ (class n) q v) i p x g = member_placed n i q v p x g
  placed t i p x g = absurd x

  -- Pieces

  pub piece_fits : (p : Position) (offset : ℕ) (t : Typ) (at : At) (e : Tree) → p.full ≡ true → IsItem c t → BuildsOne s t e
      → fits s p PartRole (piece c offset t at e) ≡ true
  piece_fits p offset t at e full i b =
      let d = destroyed s c w h t at i in
      node_fits s p PartRole (Piece offset) t Prvalue at (more e (destroys c at t)) (and_any (Initialiser ∷ []) Destruction) refl refl refl refl
      (both (both refl b.builds) d.right) refl (at_least_one (heads_of (destroys c at t)) (head_of e) Initialiser Destruction) refl
      (object_kids s p e (destroys c at t) full (b.fits p full) d.fit)

  pub joined : (t : Typ) (i : ℕ) (p : Part) (at : At) (e : Tree) (ts : Trees) → IsPlaced c t i p → BuildsOne s p.typ e → PiecesFrom s c.classes t (suc i) ts
      → PiecesFrom s c.classes t i (more (piece c p.offset p.typ at e) ts)
  joined t i p at e ts x b r = record {
    fit = λ q f full. both (both refl (piece_fits q p.offset p.typ at e full x.item b)) (r.fit q (suc f) full);
    right = x.joins (heads_of ts) r.right;
  }

  -- The object of all pieces

  are_pieces_of : (t : Typ) (hs : List Head) → Taken t → Agree c.classes t 0 hs → are_pieces c.classes t hs ≡ true
  are_pieces_of (typ (array e n) false false) hs x r =
      ap (passes (λ (size : ℕ). are_element_pieces e size n 0 hs)) (size_is c.classes e (element_item c e n false false x).item.sized) ∙ r
  are_pieces_of (typ (class n) q v) hs x r = both (ap is_some (sized_class_is c.classes n x.laid)) r
  are_pieces_of t hs x r = absurd x

  pub object_made : (t : Typ) (at : At) (ts : Trees) → Taken t → PiecesFrom s c.classes t 0 ts → BuildsOne s t (node Pieces t Prvalue at ts)
  object_made t at ts x r = record {
    fits = λ p full. node_fits s p Initialiser Pieces t Prvalue at ts (and_any [] PartRole) refl refl refl refl
        (both refl (ap (λ (classes : List Class). are_pieces classes t (heads_of ts)) h.setting.classes ∙ are_pieces_of t (heads_of ts) x r.right))
        refl (any_many PartRole (length (heads_of ts))) refl (r.fit p 0 full);
    builds = or_left _ (or_left _ (typ_refl t));
  }
