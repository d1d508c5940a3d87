-- What initialises the parts of an object under construction.
use Rattle.std.proofs.Common.{◌≡◌, refl, ℕ, zero, suc, ◌+◌, Bool, true, false, List, [], ◌∷◌, ◌++◌, slice_get, Option, Some, None}
use Rattle.std.proofs.Common.{Result, Ok, Err}
use Rattle.elab_rules.specs.cpp_types.Typ.{Typ, class}
use Rattle.elab_rules.specs.cpp_types.Class.{Member}
use Rattle.elab_rules.specs.cpp_types.declared.classes.At.{At}
use Rattle.elab_rules.specs.cpp_tree.declared.faults.ElabFault.{ElabFault}
use Rattle.elab_rules.specs.cpp_tree.declared.roles.Role.TheVariants.{BlockItem}
use Rattle.elab_rules.specs.cpp_tree.Trees.{Tree, Trees, one}
use Rattle.elab_rules.specs.cpp_tree.Notation.{plain}
use Rattle.elab_rules.specs.cpp_tree.Rows.{Setting}
use Rattle.elab_rules.specs.elab_ctx.Ctx.{Ctx, Work, Default}
use Rattle.elab_rules.specs.elab_ctx.Steps.{Made}
use Rattle.elab_rules.specs.Braces.{default_at}
use Rattle.elab_rules.specs.Calls.{pointer_offset, base_of_class}
use Rattle.elab_rules.specs.Initialising.{from_nothing}
use Rattle.elab_rules.specs.Names.{members_in, offset_at}
use Rattle.elab_rules.specs.Objects.{destroys, followed_by}
use Rattle.elab_rules.specs.Statements.{State, Done, default_object}
use Rattle.elab_rules.specs.Members.{Given, given_for, own_part, own_base, part_init, pointer_stored, as_base_of, base_built, default_built, member_built}
use Rattle.elab_rules.specs.Members.{members_built, parts_built}
use Rattle.elab_fits.specs.Standing.{IsSetting, Reaches, On}
use Rattle.elab_fits.specs.Objects.{DestroysOne, IsElementType}
use Rattle.elab_fits.proofs.Destructions.{destructions_law}
use Rattle.elab_fits.proofs.Steps.{bind, skip}
use Rattle.elab_fits_objects.specs.Contexts.{HasMakers}
use Rattle.elab_fits_objects.specs.Making.{Makes}
use Rattle.elab_fits_objects.proofs.Nothing.{nothing_builds}
use Rattle.elab_fits_statements.specs.Anywhere.{BuildsAnywhere, AllServe}
use Rattle.elab_fits_statements.proofs.Anywhere.{anywhere}
use Rattle.elab_fits_statements.proofs.Items.{all_followed}
use Rattle.elab_fits_bodies.specs.Parts.{HasParts}
use Rattle.elab_fits_bodies.specs.Built.{NothingsBuild, IsMember, own_default, MakesParts, PartsMade}
use Rattle.elab_fits_bodies.proofs.Plain.{IsPlain, nothing_plain}
use Rattle.elab_fits_bodies.proofs.Contexts.{object_same, makers_same, base_same, base_setting, cleared, cleared_same, cleared_setting, MembersFrom, first_member, rest_members, all_members}
use Rattle.elab_fits_bodies.proofs.Parts.{part_stands, base_stands, part_serves}
use Rattle.elab_fits_bodies.proofs.Bodies.{pointer_kept}

-- Nothing

pub on_both : {A : Type 0} (P Q R : A → Type 0) (r : Result A ElabFault) → On P r → On Q r → ((a : A) → P a → Q a → R a) → On R r
on_both {A} P Q R (Ok a) h g f = f a h g
on_both {A} P Q R (Err e) h g f = tt

pub made_anywhere : (s : Setting) (t : Typ) (e : Tree) → Makes s t e → IsPlain e → BuildsAnywhere s t e
made_anywhere s t e m n = record { fits = anywhere s _ e m.one.fits n; builds = m.one.builds }

pub default_builds : NothingsBuild
default_builds s c lambda t at i m z = skip (BuildsAnywhere s t) _ _ (λ y. on_both (Makes s t) IsPlain (BuildsAnywhere s t) (from_nothing c t at)
    (nothing_builds s c lambda t at i m z) (nothing_plain c t at) (λ e h g. made_anywhere s t e h g))

-- Frames that grow

found_before : {A : Type 0} (xs ys : List A) (i : ℕ) (x : A) → slice_get xs i ≡ Some x → slice_get (xs ++ ys) i ≡ Some x
found_before {A} [] ys i x h = absurd cc
found_before {A} (z ∷ xs) ys zero x h = h
found_before {A} (z ∷ xs) ys (suc i) x h = found_before xs ys i x h

default_keeps : (s : Setting) (w : Work) (d : Default) → Reaches s (own_default w d).work → Reaches s w
default_keeps s w d h = record { frame = λ i t e. h.frame i t (found_before w.frame d.frame i t e); globals = h.globals }

-- Parts

-- what is asked of a context
record Ready (s : Setting) (c : Ctx) (lambda : ℕ → Bool) (n : ℕ) (gs : List Given) : Type 0 where
  setting : IsSetting s c
  makers : HasMakers c lambda
  parts : HasParts s c n
  makes : MakesParts s c lambda n gs

cleared_ready : (s : Setting) (c : Ctx) (lambda : ℕ → Bool) (n : ℕ) (gs : List Given) → Ready s c lambda n gs → Ready s (cleared c) lambda n gs
cleared_ready s c lambda n gs r = record {
  setting = cleared_setting s c r.setting;
  makers = makers_same c (cleared c) lambda (cleared_same c) r.makers;
  parts = record {
    this = r.parts.this;
    number = r.parts.number;
    pointer = r.parts.pointer;
    offsets = r.parts.offsets;
    base = r.parts.base;
    members = r.parts.members;
  };
  makes = record {
    base = λ b e. object_same c (cleared c) lambda (cleared_same c) (plain (class b)) (r.makes.base b e);
    base_given = r.makes.base_given;
    member = λ i m e. object_same c (cleared c) lambda (cleared_same c) m.typ (r.makes.member i m e);
    member_given = r.makes.member_given;
    member_default = r.makes.member_default;
  };
}

pub destroyed : (s : Setting) (c : Ctx) (lambda : ℕ → Bool) (at : At) (t : Typ) → IsSetting s c → HasMakers c lambda → IsElementType c.classes true t
    → DestroysOne s t (destroys c at t)
destroyed s c lambda at t i m e = destructions_law s c at t i m.specials e.sized e.ready e.single

module _ (s : Setting) (lambda : ℕ → Bool) (at : At) (n : ℕ) (gs : List Given) where
  -- Members

  member_serves : (c : Ctx) (p : At) (i : ℕ) (m : Member) (e : Tree) → Ready s c lambda n gs → IsMember c n i m → BuildsAnywhere s m.typ e
      → AllServe s false false BlockItem (one (part_init c at p m.typ (own_part c.classes n p (offset_at c.classes n i) m.typ) e))
  member_serves c p i m e r is b = (
    part_serves s c at p m.typ (own_part c.classes n p (offset_at c.classes n i) m.typ) e
        (part_stands s c.classes n p (offset_at c.classes n i) m.typ r.parts.this (r.parts.offsets i)) b
        (destroyed s c lambda at m.typ r.setting r.makers (r.parts.members i m is)),
    tt,
  )

  -- what builds a member that is not written
  record Whole (st : State) (t : Typ) (m : Made) : Type 0 where
    before : Reaches s m.work → Reaches s st.work
    builds : Reaches s m.work → BuildsAnywhere s t m.tree

  default_whole_built : (st : State) (i : ℕ) (m : Member) (o : Option Default) → default_at n i st.ctx.defaults ≡ o → Ready s st.ctx lambda n gs
      → IsMember st.ctx n i m → On (Whole st m.typ) (default_built st at m.typ o)
  default_whole_built st i m (Some d) e r is = record {
    before = default_keeps s st.work d;
    builds = r.makes.member_default i m d st.work is e;
  }
  default_whole_built st i m None e r is = bind (BuildsAnywhere s m.typ) (Whole st m.typ) (default_object st.ctx m.typ at) _
      (default_builds s st.ctx lambda m.typ at r.setting r.makers (r.makes.member i m is)) (λ x b. record { before = λ h. h; builds = λ h. b })

  -- a member's items, and the context behind them
  record Step (st : State) (d : Done) : Type 0 where
    made : PartsMade s st d
    ready : Ready s d.state.ctx lambda n gs
    members : (i : ℕ) (m : Member) → IsMember st.ctx n i m → IsMember d.state.ctx n i m

  member_made : (st : State) (i : ℕ) (m : Member) (o : Option Given) → given_for (Some i) gs ≡ o → Ready s st.ctx lambda n gs → IsMember st.ctx n i m
      → On (Step st) (member_built st at n i m.typ o)
  member_made st i m (Some g) e r is = record {
    made = record { before = λ h. h; serve = λ h. member_serves st.ctx g.at i m g.tree r is (r.makes.member_given i m g is e) };
    ready = r;
    members = λ j x h. h;
  }
  member_made st i m None e r is = bind (Whole st m.typ) (Step st) (default_built st at m.typ (default_at n i st.ctx.defaults)) _
      (default_whole_built st i m (default_at n i st.ctx.defaults) refl r is)
      (λ x w. record {
        made = record { before = w.before; serve = λ h. member_serves st.ctx at i m x.tree r is (w.builds h) };
        ready = cleared_ready s st.ctx lambda n gs r;
        members = λ j y h. h;
      })

  members_made : (st : State) (i : ℕ) (ms : List Member) → Ready s st.ctx lambda n gs → MembersFrom st.ctx n i ms
      → On (PartsMade s st) (members_built at n gs st i ms)
  members_made st i [] r f = record { before = λ h. h; serve = λ h. tt }
  members_made st i (m ∷ ms) r f = bind (Step st) (PartsMade s st) (member_built st at n i m.typ (given_for (Some i) gs)) _
      (member_made st i m (given_for (Some i) gs) refl r (first_member st.ctx n i m ms f))
      (λ x a. bind (PartsMade s x.state) (PartsMade s st) (members_built at n gs x.state (suc i) ms) _
      (members_made x.state (suc i) ms a.ready (λ j y e. a.members (suc i + j) y (rest_members st.ctx n i m ms f j y e)))
      (λ y b. record {
        before = λ h. a.made.before (b.before h);
        serve = λ h. all_followed s false false BlockItem x.trees y.trees (a.made.serve (b.before h)) (b.serve h);
      }))

  -- The base

  abbrev ItemsServe : Trees → Type 0
  ItemsServe ts = AllServe s false false BlockItem ts

  base_serves : (c : Ctx) (p : At) (b : ℕ) (e : Tree) → Ready s c lambda n gs → base_of_class (slice_get c.classes n) ≡ Some b
      → BuildsAnywhere s (plain (class b)) e → ItemsServe (one (part_init c at p (plain (class b)) (own_base n p b) e))
  base_serves c p b e r is x = (
    part_serves s c at p (plain (class b)) (own_base n p b) e (base_stands s n p b r.parts.this) x
        (destroyed s c lambda at (plain (class b)) r.setting r.makers (r.parts.base b is)),
    tt,
  )

  base_made : (st : State) (o : Option ℕ) (x : Option Given) → base_of_class (slice_get st.ctx.classes n) ≡ o → given_for None gs ≡ x
      → Ready s st.ctx lambda n gs → On ItemsServe (base_built st at n o x)
  base_made st None x e g r = tt
  base_made st (Some b) (Some z) e g r = base_serves st.ctx z.at b z.tree r e (r.makes.base_given b z e g)
  base_made st (Some b) None e g r = bind (BuildsAnywhere s (plain (class b))) ItemsServe (default_object (as_base_of st.ctx b) (plain (class b)) at) _
      (default_builds s (as_base_of st.ctx b) lambda (plain (class b)) at (base_setting s st.ctx b r.setting)
      (makers_same st.ctx (as_base_of st.ctx b) lambda (base_same st.ctx b) r.makers)
      (object_same st.ctx (as_base_of st.ctx b) lambda (base_same st.ctx b) (plain (class b)) (r.makes.base b e)))
      (λ y h. base_serves st.ctx at b y r e h)

  parts_made : (st : State) → Ready s st.ctx lambda n gs → On (PartsMade s st) (parts_built st at n gs)
  parts_made st r = bind ItemsServe (PartsMade s st) (base_built st at n (base_of_class (slice_get st.ctx.classes n)) (given_for None gs)) _
      (base_made st (base_of_class (slice_get st.ctx.classes n)) (given_for None gs) refl refl r)
      (λ b h. bind (PartsMade s st) (PartsMade s st) (members_built at n gs st 0 (members_in (slice_get st.ctx.classes n))) _
      (members_made st 0 (members_in (slice_get st.ctx.classes n)) r
      (all_members st.ctx n (members_in (slice_get st.ctx.classes n)) (λ j m e. e)))
      (λ d k. record {
        before = k.before;
        serve = λ g. all_followed s false false BlockItem b (followed_by (pointer_stored at n (pointer_offset st.ctx.classes n)) d.trees) h
            (all_followed s false false BlockItem (pointer_stored at n (pointer_offset st.ctx.classes n)) d.trees (pointer_kept s st.ctx at n r.parts) (k.serve g));
      }))

pub parts_build : (s : Setting) (st : State) (lambda : ℕ → Bool) (at : At) (n : ℕ) (gs : List Given) → IsSetting s st.ctx → HasMakers st.ctx lambda
    → HasParts s st.ctx n → MakesParts s st.ctx lambda n gs → On (PartsMade s st) (parts_built st at n gs)
parts_build s st lambda at n gs i m p k = parts_made s lambda at n gs st (record { setting = i; makers = m; parts = p; makes = k })
