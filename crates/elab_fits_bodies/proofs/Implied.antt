-- The parts of an implicit copy.
use Rattle.std.proofs.Common.{◌≡◌, refl, sym, ap, ◌∙◌, subst, ℕ, suc, Bool, true, false, List, [], ◌∷◌, slice_get, Option, Some, None}
use Rattle.std.proofs.Common.{eqb-true}
use Rattle.std.specs.Prelude.{if◌then◌else◌}
use Rattle.elab_rules.specs.tx_ints.declared.kinds.BinOp.TheVariants.{Add}
use Rattle.elab_rules.specs.tx_ints.declared.kinds.IntKind.{IntKind}
use Rattle.elab_rules.specs.tx_ints.declared.kinds.IntKind.TheVariants.{ULong}
use Rattle.elab_rules.specs.cpp_types.Typ.{Typ, typ, class}
use Rattle.elab_rules.specs.cpp_types.Class.{Member}
use Rattle.elab_rules.specs.cpp_types.declared.classes.At.{At}
use Rattle.elab_rules.specs.cpp_types.declared.ranks.Cat.{Cat}
use Rattle.elab_rules.specs.cpp_types.declared.ranks.Cat.TheVariants.{Lvalue}
use Rattle.elab_rules.specs.cpp_tree.declared.kinds.TKind.TheVariants as forms
use Rattle.elab_rules.specs.cpp_tree.declared.roles.Role.TheVariants.{Value, BlockItem}
use Rattle.elab_rules.specs.cpp_tree.Trees.{Tree, one, two, typ_in, cat_of}
use Rattle.elab_rules.specs.cpp_tree.Notation.{plain}
use Rattle.elab_rules.specs.cpp_tree.Typing.{head_of, qualified, word_kind, is_kind, same_kind, gives, is_word_of}
use Rattle.elab_rules.specs.cpp_tree.Roles.{only}
use Rattle.elab_rules.specs.cpp_tree.Rows.{Setting}
use Rattle.elab_rules.specs.elab_ctx.Ctx.{Ctx}
use Rattle.elab_rules.specs.Calls.{pointer_offset, base_of_class}
use Rattle.elab_rules.specs.Initialising.{as_source, as_base, same_number, class_number, class_from}
use Rattle.elab_rules.specs.Names.{members_in, offset_at}
use Rattle.elab_rules.specs.Objects.{followed_by}
use Rattle.elab_rules.specs.Values.{number, part_at}
use Rattle.elab_rules.specs.Members.{own_part, own_base, pointer_stored, as_base_of}
use Rattle.elab_rules.specs.Statements.{State, Done, with_work, holds_temporary}
use Rattle.elab_rules.specs.Implicit.{own_operand, part_copied, part_of_source, members_copied, base_copied, parts_copied}
use Rattle.elab_fits.specs.Standing.{IsSetting, On}
use Rattle.elab_fits.proofs.Nodes.{both, or_left, head_cat, node_fits, one_value, two_values}
use Rattle.elab_fits.proofs.Steps.{bind}
use Rattle.elab_fits_objects.specs.Contexts.{HasMakers}
use Rattle.elab_fits_statements.proofs.Items.{all_followed}
use Rattle.elab_fits_bodies.specs.Parts.{IsObjectOf, HasParts}
use Rattle.elab_fits_bodies.specs.Built.{IsMember, PartsMade}
use Rattle.elab_fits_bodies.specs.Copied.{CopyMade, CopiesParts}
use Rattle.elab_fits_bodies.proofs.Plain.{IsPlain}
use Rattle.elab_fits_bodies.proofs.PlainCopies.{two_plain, source_plain}
use Rattle.elab_fits_bodies.proofs.Contexts.{object_same, makers_same, base_same, base_setting, cleared, cleared_same, cleared_setting, MembersFrom, first_member, rest_members, all_members}
use Rattle.elab_fits_bodies.proofs.Parts.{number_fits, part_stands, base_stands, part_serves}
use Rattle.elab_fits_bodies.proofs.Bodies.{pointer_kept}
use Rattle.elab_fits_bodies.proofs.Built.{destroyed}
use Rattle.elab_fits_bodies.proofs.Copied.{class_copied, copied}

-- The parts of the source

address_word : (e : Tree) → cat_of e ≡ Lvalue → word_kind (head_of e).typ (head_of e).cat ≡ Some ULong
address_word e h = ap (λ (c : Cat). word_kind (head_of e).typ c) (head_cat e ∙ h)

source_part : (s : Setting) (offset : ℕ) (t u : Typ) (at : At) (e : Tree) → IsObjectOf s u e → is_word_of ULong offset ≡ true
    → IsObjectOf s t (part_at offset t at e)
source_part s offset t u at e o w = record {
  fits = λ p. node_fits s p Value (forms.Binary Add ULong) t Lvalue at (two e (number ULong offset at)) (only (Value ∷ Value ∷ []))
      refl refl refl refl (both (both address refl) refl) refl refl refl (two_values s p e (number ULong offset at) (o.fits p) (number_fits s offset at w p));
  typed = refl;
  category = refl;
}
  where
    address : gives ULong (head_of e) ≡ true
    address = ap (λ (k : Option IntKind). is_kind ULong k) (address_word e o.category)

source_base : (s : Setting) (at : At) (n b : ℕ) (q : Bool) (e : Tree) → IsObjectOf s (typ (class n) q false) e → IsObjectOf s (typ (class b) q false) (as_source at b e)
source_base s at n b q e o = by (same_number b (class_number (typ_in e))) refl
  where
    same : (same_number b (class_number (typ_in e)) ≡ true) → n ≡ b
    same h = eqb-true n b (ap (λ (t : Typ). same_number b (class_number t)) (sym o.typed) ∙ h)

    based : IsObjectOf s (typ (class b) q false) (as_base at b (typ (class n) q false) e)
    based = record {
      fits = λ p. node_fits s p Value forms.Retype (typ (class b) q false) Lvalue at (one e) (only (Value ∷ [])) refl refl refl refl
          (or_left _ (ap (λ (k : Option IntKind). same_kind (Some ULong) k) (address_word e o.category))) refl refl refl (one_value s p e (o.fits p));
      typed = refl;
      category = refl;
    }

    by : (x : Bool) → same_number b (class_number (typ_in e)) ≡ x → IsObjectOf s (typ (class b) q false) (if x then e else as_base at b (typ_in e) e)
    by true h = subst (λ (m : ℕ). IsObjectOf s (typ (class m) q false) e) (same h) o
    by false h = subst (λ (t : Typ). IsObjectOf s (typ (class b) q false) (as_base at b t e)) (sym o.typed) based

-- What is asked of a context
record Ready (s : Setting) (c : Ctx) (lambda : ℕ → Bool) (n : ℕ) : Type 0 where
  setting : IsSetting s c
  makers : HasMakers c lambda
  parts : HasParts s c n
  copies : CopiesParts c lambda n

cleared_ready : (s : Setting) (c : Ctx) (lambda : ℕ → Bool) (n : ℕ) → Ready s c lambda n → Ready s (cleared c) lambda n
cleared_ready s c lambda n r = record {
  setting = cleared_setting s c r.setting;
  makers = makers_same c (cleared c) lambda (cleared_same c) r.makers;
  parts = record {
    this = r.parts.this;
    number = r.parts.number;
    pointer = r.parts.pointer;
    offsets = r.parts.offsets;
    base = r.parts.base;
    members = r.parts.members;
  };
  copies = record {
    base = λ b e. object_same c (cleared c) lambda (cleared_same c) (plain (class b)) (r.copies.base b e);
    members = λ i m e. let z = r.copies.members i m e in record {
      formed = z.formed;
      element = z.element;
      object = λ k. object_same c (cleared c) lambda (cleared_same c) m.typ (z.object k);
    };
  };
}

module _ (s : Setting) (lambda : ℕ → Bool) (at : At) (n : ℕ) (source : Tree) (q : Bool) (o : IsObjectOf s (typ (class n) q false) source)
    (plain_source : IsPlain source) where
  -- Members

  member_made : (st : State) (i : ℕ) (m : Member) → Ready s st.ctx lambda n → IsMember st.ctx n i m
      → On (CopyMade s st m.typ) (part_copied st at m.typ (part_of_source st.ctx n at source q i m.typ))
  member_made st i m r is = copied s st lambda at r.setting r.makers m.typ q (part_of_source st.ctx n at source q i m.typ) (r.copies.members i m is)
      (source_part s (offset_at st.ctx.classes n i) (qualified q false m.typ) (typ (class n) q false) at source o (r.parts.offsets i))
      (two_plain source (number ULong (offset_at st.ctx.classes n i) at) plain_source refl)

  members_made : (st : State) (i : ℕ) (ms : List Member) → Ready s st.ctx lambda n → MembersFrom st.ctx n i ms
      → On (PartsMade s st) (members_copied at n source q st i ms)
  members_made st i [] r f = record { before = λ h. h; serve = λ h. tt }
  members_made st i (m ∷ ms) r f = bind (CopyMade s st m.typ) (PartsMade s st) (part_copied st at m.typ (part_of_source st.ctx n at source q i m.typ)) _
      (member_made st i m r (first_member st.ctx n i m ms f))
      (λ x a. bind (PartsMade s (with_work st x.work)) (PartsMade s st) (members_copied at n source q (with_work st x.work) (suc i) ms) _
      (members_made (with_work st x.work) (suc i) ms (cleared_ready s st.ctx lambda n r) (rest_members st.ctx n i m ms f))
      (λ d b. record {
        before = λ h. a.before (b.before h);
        serve = λ h. (
          part_serves s st.ctx at at m.typ (own_part st.ctx.classes n at (offset_at st.ctx.classes n i) m.typ) x.tree
              (part_stands s st.ctx.classes n at (offset_at st.ctx.classes n i) m.typ r.parts.this (r.parts.offsets i)) (a.builds (b.before h))
              (destroyed s st.ctx lambda at m.typ r.setting r.makers (r.parts.members i m (first_member st.ctx n i m ms f))),
          b.serve h,
        );
      }))

  -- The base

  -- a part's items, and the context behind them
  record Step (st : State) (d : Done) : Type 0 where
    made : PartsMade s st d
    ready : Ready s d.state.ctx lambda n
    members : (i : ℕ) (m : Member) → IsMember st.ctx n i m → IsMember d.state.ctx n i m

  base_made : (st : State) (x : Option ℕ) → base_of_class (slice_get st.ctx.classes n) ≡ x → Ready s st.ctx lambda n → On (Step st) (base_copied st at n source x)
  base_made st None e r = record { made = record { before = λ h. h; serve = λ h. tt }; ready = r; members = λ i m h. h }
  base_made st (Some b) e r = bind (CopyMade s (record st { ctx = as_base_of st.ctx b }) (plain (class b))) (Step st)
      (class_from (as_base_of st.ctx b) st.work (plain (class b)) at (own_operand at (as_source at b source))) _
      (class_copied s (record st { ctx = as_base_of st.ctx b }) lambda at (base_setting s st.ctx b r.setting)
      (makers_same st.ctx (as_base_of st.ctx b) lambda (base_same st.ctx b) r.makers) (plain (class b)) (typ (class b) q false) (as_source at b source)
      refl (r.copies.base b e).sorted (object_same st.ctx (as_base_of st.ctx b) lambda (base_same st.ctx b) (plain (class b)) (r.copies.base b e))
      (source_base s at n b q source o) (source_plain at b source plain_source))
      (λ x a. record {
        made = record {
          before = a.before;
          serve = λ h. (
            part_serves s st.ctx at at (plain (class b)) (own_base n at b) x.tree (base_stands s n at b r.parts.this) (a.builds h)
                (destroyed s st.ctx lambda at (plain (class b)) r.setting r.makers (r.parts.base b e)),
            tt,
          );
        };
        ready = cleared_ready s st.ctx lambda n r;
        members = λ i m h. h;
      })

  parts_made : (st : State) → Ready s st.ctx lambda n → On (PartsMade s st) (parts_copied st at n source q)
  parts_made st r = bind (Step st) (PartsMade s st) (base_copied st at n source (base_of_class (slice_get st.ctx.classes n))) _
      (base_made st (base_of_class (slice_get st.ctx.classes n)) refl r)
      (λ b a. bind (PartsMade s b.state) (PartsMade s st) (members_copied at n source q b.state 0 (members_in (slice_get st.ctx.classes n))) _
      (members_made b.state 0 (members_in (slice_get st.ctx.classes n)) a.ready
      (all_members b.state.ctx n (members_in (slice_get st.ctx.classes n)) a.members))
      (λ d k. record {
        before = λ h. a.made.before (k.before h);
        serve = λ g. all_followed s false false BlockItem b.trees (followed_by (pointer_stored at n (pointer_offset st.ctx.classes n)) d.trees)
            (a.made.serve (k.before g))
            (all_followed s false false BlockItem (pointer_stored at n (pointer_offset st.ctx.classes n)) d.trees (pointer_kept s st.ctx at n r.parts) (k.serve g));
      }))

pub parts_copied_fit : (s : Setting) (st : State) (lambda : ℕ → Bool) (at : At) (n : ℕ) (source : Tree) (q : Bool) → IsSetting s st.ctx → HasMakers st.ctx lambda
    → HasParts s st.ctx n → CopiesParts st.ctx lambda n → IsObjectOf s (typ (class n) q false) source → holds_temporary source ≡ false
    → On (PartsMade s st) (parts_copied st at n source q)
parts_copied_fit s st lambda at n source q i m p k o h = parts_made s lambda at n source q o h st (record { setting = i; makers = m; parts = p; copies = k })
