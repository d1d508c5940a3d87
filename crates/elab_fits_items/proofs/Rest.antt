-- Parts behind the last item.
use Rattle.std.proofs.Common.{◌≡◌, refl, sym, ap, ◌∙◌, subst, ℕ, zero, suc, ◌+◌, ◌*◌, ◌-◌, ◌≤◌, Bool, true, false, List, [], ◌∷◌, length, drop}
use Rattle.std.proofs.Common.{slice_get, Option, Some, None, is_some, Result, Ok, arith, lt-ltb, eq-eqb}
use Rattle.std.specs.Prelude.{if◌then◌else◌}
use Rattle.elab_rules.specs.cpp_types.Typ.{Typ, typ, array, class, ptr}
use Rattle.elab_rules.specs.cpp_types.Class.{Class, Member, InOrder}
use Rattle.elab_rules.specs.cpp_types.Equal.{typ_eq}
use Rattle.elab_rules.specs.cpp_types.declared.classes.At.{At}
use Rattle.elab_rules.specs.cpp_types.declared.ranks.Cat.TheVariants.{Lvalue}
use Rattle.elab_rules.specs.cpp_tree.declared.faults.ElabFault.{ElabFault}
use Rattle.elab_rules.specs.cpp_tree.declared.roles.Role.TheVariants.{Value}
use Rattle.elab_rules.specs.cpp_tree.Notation.{plain}
use Rattle.elab_rules.specs.cpp_tree.Trees.{Tree, cat_of}
use Rattle.elab_rules.specs.cpp_tree.Typing.{form_in, qualified}
use Rattle.elab_rules.specs.cpp_tree.Parts.{size_in, count_of_parts}
use Rattle.elab_rules.specs.cpp_tree.Rows.{Setting}
use Rattle.elab_rules.specs.elab_ctx.Ctx.{Ctx, Work, Default}
use Rattle.elab_rules.specs.elab_ctx.Steps.{and_then, Made, MadeAll}
use Rattle.elab_rules.specs.Objects.{Part, size_of}
use Rattle.elab_rules.specs.Initialising.{from_nothing}
use Rattle.elab_rules.specs.Names.{members_in, offset_at}
use Rattle.elab_rules.specs.Braces.{this_of, with_piece, rest_piece, rest_members, rest_in, default_at, default_member, tree_place}
use Rattle.elab_fits.specs.Standing.{FitsAs, Reaches, On}
use Rattle.elab_fits.specs.Objects.{is_ready}
use Rattle.elab_fits.proofs.Equal.{typ_refl}
use Rattle.elab_fits.proofs.Nodes.{both, or_left}
use Rattle.elab_fits.proofs.Steps.{bind}
use Rattle.elab_fits.proofs.Wholes.{qualified_none}
use Rattle.elab_fits_objects.specs.Making.{Makes}
use Rattle.elab_fits_objects.proofs.Nothing.{nothing_builds}
use Rattle.elab_fits_forms.specs.Types.{is_lambda}
use Rattle.elab_fits_forms.specs.Context.{Holds}
use Rattle.elab_fits_expressions.specs.Growing.{Behind}
use Rattle.elab_fits_expressions.proofs.Behind.{found_before, same, after}
use Rattle.elab_fits_expressions.proofs.Holding.{reached}
use Rattle.elab_fits_braces.specs.Moving.{IsThis, DefaultFits, this_typ}
use Rattle.elab_fits_braces.specs.Defaults.{AllDefaultsFit}
use Rattle.elab_fits_braces.proofs.Found.{DefaultAt, default_found}
use Rattle.elab_fits_braces.proofs.Pliable.{defaults_qualified}
use Rattle.elab_fits_braces.proofs.This.{object_is_this}
use Rattle.elab_fits_items.specs.Items.{MembersSingle, PartBuilt}
use Rattle.elab_fits_items.proofs.Types.{IsItem, fewer_item, object_is, IsAggregate, member_is, count_members}
use Rattle.elab_fits_items.proofs.Pieces.{PiecesFrom, IsIndex, IsPlaced, Taken, member_joins, piece_fits, joined}

-- parts that are made stand behind what was made before
pub record AllBuilt (s : Setting) (c : Ctx) (w : Work) (t : Typ) (i : ℕ) (r : MadeAll) : Type 0 where
  pub behind : Behind w r.work
  pub pieces : Reaches s r.work → PiecesFrom s c.classes t i r.trees

-- Lists

drop_found : {A : Type 0} (i : ℕ) (xs : List A) (j : ℕ) (x : A) → slice_get (drop i xs) j ≡ Some x → slice_get xs (i + j) ≡ Some x
drop_found {A} zero xs j x h = let e : j ≡ 0 + j = omega arith in subst (λ (k : ℕ). slice_get xs k ≡ Some x) e h
drop_found {A} (suc i) [] j x h = absurd cc
drop_found {A} (suc i) (y ∷ xs) j x h = let e : suc (i + j) ≡ suc i + j = omega arith in
    subst (λ (k : ℕ). slice_get (y ∷ xs) k ≡ Some x) e (drop_found i xs j x h)

drop_many : {A : Type 0} (i : ℕ) (xs : List A) → i ≤ length xs → i + length (drop i xs) ≡ length xs
drop_many {A} zero xs l = omega arith
drop_many {A} (suc i) [] l = absurd (omega arith)
drop_many {A} (suc i) (y ∷ xs) l = let h = drop_many i xs (omega arith) in omega arith

module _ (s : Setting) (c : Ctx) (w0 : Work) (h : Holds s c w0) (single : MembersSingle c) (defaults : AllDefaultsFit s c.defaults) where
  -- from nothing
  nothing_made : (t : Typ) (at : At) (w : Work) → IsItem c t
      → On (PartBuilt s w t) (and_then (from_nothing c t at) (λ (e : Tree). Ok (record { tree = e; work = w })))
  nothing_made t at w i = bind (Makes s t) (PartBuilt s w t) (from_nothing c t at) _
      (nothing_builds s c (is_lambda c.classes) t at h.setting h.makers (object_is s c w0 h t i))
      (λ e m. record { behind = same w; builds = λ r. m.one })

  -- a piece in front of others
  pub piece_made : (t : Typ) (i : ℕ) (p : Part) (at : At) (w : Work) (m : Made) (rest : Result MadeAll ElabFault) → IsPlaced c t i p → PartBuilt s w p.typ m
      → On (AllBuilt s c m.work t (suc i)) rest → On (AllBuilt s c w t i) (with_piece c p.offset p.typ at m rest)
  piece_made t i p at w m rest x b g = bind (AllBuilt s c m.work t (suc i)) (AllBuilt s c w t i) rest _ g (λ r y. record {
    behind = after b.behind y.behind;
    pieces = λ z. joined s c w0 h single t i p at m.tree r.trees x (b.builds (reached s m.work r.work y.behind z)) (y.pieces z);
  })

  -- Members

  default_kept : (n i : ℕ) (m : Member) (d : Default) (a : IsAggregate s c w0 h n) → slice_get a.owner.members i ≡ Some m → DefaultAt n i c.defaults d
      → DefaultFits s m.typ d
  default_kept n i m d a e x =
      let y = defaults.each x.index d x.at in
      let f : slice_get (members_in (slice_get s.classes d.class)) d.member ≡ Some m =
      ap (λ (cs : List Class). slice_get (members_in (slice_get cs d.class)) d.member) h.setting.classes
      ∙ ap (λ (k : ℕ). slice_get (members_in (slice_get c.classes k)) d.member) x.class ∙ ap (λ (k : ℕ). slice_get (members_in (slice_get c.classes n)) k) x.member
      ∙ ap (λ (o : Option Class). slice_get (members_in o) i) a.found ∙ e in
      let z : Some y.member ≡ Some m = sym y.at ∙ f in
      let q : y.member ≡ m = cc in
      subst (λ (k : Member). DefaultFits s k.typ d) q (y.fits s.function)

  this_is : (n : ℕ) (q v : Bool) (object : Tree) (d : Default) → FitsAs s Value object → cat_of object ≡ Lvalue → d.class ≡ n
      → IsThis s (this_typ d) (this_of (typ (class n) q v) object)
  this_is n q v object d f l e = subst (λ (k : ℕ). IsThis s (plain (ptr (plain (class k)))) (this_of (typ (class n) q v) object)) (sym e)
      (object_is_this s (typ (class n) q v) object f l)

  default_made : (n i : ℕ) (q v : Bool) (m : Member) (d : Default) (object : Tree) (w : Work) (at : At) (a : IsAggregate s c w0 h n)
      → slice_get a.owner.members i ≡ Some m → DefaultAt n i c.defaults d → FitsAs s Value object → cat_of object ≡ Lvalue
      → On (PartBuilt s w (qualified q v m.typ)) (default_member c w q v (this_of (typ (class n) q v) object) (qualified q v m.typ) at (Some d))
  default_made n i q v m d object w at a e x f l =
      let y = member_is s c w0 h single n i q v m a e in
      let o : c.classes ≡ s.classes = sym h.setting.classes in
      record {
        behind = record { frame = λ j t g. found_before w.frame d.frame j t g; globals = λ j g k. k; objects = λ classes g. g };
        builds = λ r. defaults_qualified s q v w m.typ (this_of (typ (class n) q v) object) d
            (subst (λ (cs : List Class). InOrder cs) o h.setting.ordered)
            (subst (λ (cs : List Class). is_some (size_in cs m.typ) ≡ true) o y.sized)
            (subst (λ (cs : List Class). is_ready cs false m.typ ≡ true) o y.plain)
            (this_is n q v object d f l x.class) (default_kept n i m d a e x) r;
      }

  member_made : (n i : ℕ) (q v : Bool) (m : Member) (object : Tree) (w : Work) (at : At) (a : IsAggregate s c w0 h n) (o : Option Default)
      → slice_get a.owner.members i ≡ Some m → default_at n i c.defaults ≡ o → FitsAs s Value object → cat_of object ≡ Lvalue
      → On (PartBuilt s w (qualified q v m.typ)) (default_member c w q v (this_of (typ (class n) q v) object) (qualified q v m.typ) at o)
  member_made n i q v m object w at a (Some d) e g f l = default_made n i q v m d object w at a e (default_found n i c.defaults d g) f l
  member_made n i q v m object w at a None e g f l = nothing_made (qualified q v m.typ) at w (member_is s c w0 h single n i q v m a e).item

  -- those from one on
  record AreLast (n i : ℕ) (a : IsAggregate s c w0 h n) (ms : List Member) : Type 0 where
    found : (j : ℕ) (m : Member) → slice_get ms j ≡ Some m → slice_get a.owner.members (i + j) ≡ Some m
    many : i + length ms ≡ count_of_parts c.classes n

  member_placed : (n i : ℕ) (q v : Bool) (m : Member) (ms : List Member) (a : IsAggregate s c w0 h n) → AreLast n i a (m ∷ ms)
      → IsPlaced c (typ (class n) q v) i (record { offset = offset_at c.classes n i; typ = qualified q v m.typ })
  member_placed n i q v m ms a l =
      let z : i + 0 ≡ i = omega arith in
      let e : slice_get a.owner.members i ≡ Some m = subst (λ (k : ℕ). slice_get a.owner.members k ≡ Some m) z (l.found 0 m refl) in
      let y = member_is s c w0 h single n i q v m a e in
      let b = l.many in
      record {
        item = y.item;
        word = (h.complete n a.complete).offsets i;
        joins = λ hs r. member_joins s c w0 h single n i q v m hs y r;
        next = omega arith;
      }

  members_made : (n i : ℕ) (q v : Bool) (ms : List Member) (object : Tree) (w : Work) (at : At) (a : IsAggregate s c w0 h n) → AreLast n i a ms
      → FitsAs s Value object → cat_of object ≡ Lvalue
      → On (AllBuilt s c w (typ (class n) q v) i) (rest_members c w at object (typ (class n) q v) n i ms)
  members_made n i q v [] object w at a l f k = let b = l.many in record {
    behind = same w;
    pieces = λ r. record { fit = λ p g full. refl; right = eq-eqb i (count_of_parts c.classes n) (omega arith) };
  }
  members_made n i q v (m ∷ ms) object w at a l f k =
      let z : i + 0 ≡ i = omega arith in
      let e : slice_get a.owner.members i ≡ Some m = subst (λ (k : ℕ). slice_get a.owner.members k ≡ Some m) z (l.found 0 m refl) in
      let b = l.many in
      bind (PartBuilt s w (qualified q v m.typ)) (AllBuilt s c w (typ (class n) q v) i)
      (default_member c w q v (this_of (typ (class n) q v) object) (qualified q v m.typ) at (default_at n i c.defaults)) _
      (member_made n i q v m object w at a (default_at n i c.defaults) e refl f k)
      (λ x y. piece_made (typ (class n) q v) i (record { offset = offset_at c.classes n i; typ = qualified q v m.typ })
      (if is_some (default_at n i c.defaults) then tree_place x.tree else at) w x
      (rest_members c x.work at object (typ (class n) q v) n (suc i) ms) (member_placed n i q v m ms a l) y
      (members_made n (suc i) q v ms object x.work at a (record {
        found = λ j u g. let d : i + suc j ≡ suc i + j = omega arith in subst (λ (k : ℕ). slice_get a.owner.members k ≡ Some u) d (l.found (suc j) u g);
        many = omega arith;
      }) f k))

  -- Elements

  elements_by : (e : Typ) (n i m : ℕ) (w : Work) (at : At) → IsItem c (typ (array e n) false false) → i + m ≡ n
      → On (AllBuilt s c w (typ (array e n) false false) i) (rest_piece c w e i m at)
  elements_by e n i zero w at x g = record {
    behind = same w;
    pieces = λ r. record { fit = λ p f full. refl; right = eq-eqb i n (omega arith) };
  }
  elements_by e n i (suc m) w at x g =
      let z = fewer_item c e n m (omega arith) x in
      bind (Makes s (plain (array e (suc m)))) (AllBuilt s c w (typ (array e n) false false) i) (from_nothing c (plain (array e (suc m))) at) _
      (nothing_builds s c (is_lambda c.classes) (plain (array e (suc m))) at h.setting h.makers (object_is s c w0 h (plain (array e (suc m))) z))
      (λ t y. let d : n - i ≡ suc m = omega arith in record {
        behind = same w;
        pieces = λ r. record {
          fit = λ p f full. both (both refl (piece_fits s c w0 h single p (i * size_of c.classes e) (plain (array e (suc m))) at t full z y.one)) refl;
          right = both (lt-ltb i n (omega arith)) (or_left _ (both refl (both (eq-eqb (i * size_of c.classes e) (i * size_of c.classes e) refl)
              (ap (λ (k : ℕ). typ_eq (plain (array e k)) (plain (array e (suc m)))) d ∙ typ_refl (plain (array e (suc m)))))));
        };
      })

  pub rest_made : (t : Typ) (i : ℕ) (object : Tree) (w : Work) (at : At) → Taken s c w0 h single t → IsIndex c.classes t i → FitsAs s Value object
      → cat_of object ≡ Lvalue → On (AllBuilt s c w t i) (rest_in c w at object t (form_in t) i)
  rest_made (typ (array e n) false false) i object w at x l f k =
      subst (λ (u : Typ). On (AllBuilt s c w (typ (array e n) false false) i) (rest_piece c w u i (n - i) at)) (sym (qualified_none e))
      (elements_by e n i (n - i) w at x (omega arith))
  rest_made (typ (class n) q v) i object w at a l f k =
      let b = count_members s c w0 h n a in
      let d : members_in (slice_get c.classes n) ≡ a.owner.members = ap members_in a.found in
      let g : i ≤ length (members_in (slice_get c.classes n)) = let y = ap length d in omega arith in
      let many = drop_many i (members_in (slice_get c.classes n)) g in
      let y = ap length d in
      members_made n i q v (drop i (members_in (slice_get c.classes n))) object w at a (record {
        found = λ j m e. ap (λ (ms : List Member). slice_get ms (i + j)) (sym d) ∙ drop_found i (members_in (slice_get c.classes n)) j m e;
        many = omega arith;
      }) f k
  rest_made t i object w at x l f k = absurd x
