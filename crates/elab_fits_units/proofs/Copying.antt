-- The parts of an object that an implicit copy copies.
use Rattle.std.proofs.Common.{◌≡◌, refl, sym, ap, ◌∙◌, subst, ℕ, suc, Bool, true, false, List, [], ◌∷◌, slice_get, Option, Some, None, Ok}
use Rattle.elab_rules.specs.cpp_types.Typ.{Typ, typ, ptr, class}
use Rattle.elab_rules.specs.cpp_types.Class.{Member}
use Rattle.elab_rules.specs.cpp_types.declared.classes.At.{At}
use Rattle.elab_rules.specs.cpp_lex.Tokens.{Lexeme}
use Rattle.elab_rules.specs.cpp_tree.declared.roles.Role.TheVariants.{BlockItem}
use Rattle.elab_rules.specs.cpp_tree.Notation.{plain}
use Rattle.elab_rules.specs.cpp_tree.Trees.{Tree}
use Rattle.elab_rules.specs.cpp_tree.Typing.{is_class_typ}
use Rattle.elab_rules.specs.cpp_tree.Units.{Func as UnitFunc}
use Rattle.elab_rules.specs.cpp_tree.Rows.{at_place}
use Rattle.elab_rules.specs.elab_ctx.Ctx.{Work}
use Rattle.elab_rules.specs.elab_ctx.Steps.{Operand}
use Rattle.elab_rules.specs.Calls.{base_of_class}
use Rattle.elab_rules.specs.Names.{members_in}
use Rattle.elab_rules.specs.Initialising.{class_from, as_source}
use Rattle.elab_rules.specs.Objects.{is_array}
use Rattle.elab_rules.specs.Statements.{State, Done, with_work, holds_temporary}
use Rattle.elab_rules.specs.Members.{as_base_of}
use Rattle.elab_rules.specs.Implicit.{own_operand, part_copied, part_of_source, members_copied, base_copied, parts_copied}
use Rattle.elab_fits.specs.Standing.{On, IsSetting}
use Rattle.elab_fits.proofs.Steps.{answered, skip}
use Rattle.elab_sound_types.specs.States.{IsSoundState, IsSoundAfter}
use Rattle.elab_fits_forms.specs.Types.{is_lambda}
use Rattle.elab_fits_forms.specs.Context.{Holds}
use Rattle.elab_fits_statements.specs.Anywhere.{AllServe}
use Rattle.elab_fits_statements.specs.Discipline.{StandsAs}
use Rattle.elab_fits_bodies.specs.Built.{PartsMade}
use Rattle.elab_fits_bodies.specs.Copied.{CopiesParts}
use Rattle.elab_fits_bodies.specs.Parts.{HasParts, IsObjectOf}
use Rattle.state_growth.proofs.Items.{work_kept}
use Rattle.state_growth.proofs.Settings.{reached_law}
use Rattle.state_growth.proofs.Steps.{Leaves, goes, stays, after, bind, either, follow, of_done, Ends}
use Rattle.state_growth.proofs.Works.{Mades, class_grows}
use Rattle.elab_growth.proofs.Growth.{same}
use Rattle.elab_fits_states.specs.States.{setting, IsSettled}
use Rattle.elab_fits_parts.specs.Parts.{IsHome, ArePartsOf}
use Rattle.elab_fits_units.specs.Below.{Below}
use Rattle.elab_fits_units.proofs.Constructors.{Same, Works, PartsStand, settled_with, settled_same, first_kept}
use Rattle.elab_fits_units.proofs.Results.{any_holds, holds}
use Rattle.elab_fits_units.proofs.Specials.{has_parts}

-- The work alone is another

members_work : (at : At) (n : ℕ) (source : Tree) (is_const : Bool) (st : State) (i : ℕ) (ms : List Member) → Same st
    → On (Works st) (members_copied at n source is_const st i ms)
members_work at n source is_const st i [] h = h
members_work at n source is_const st i (m ∷ ms) h =
    skip (Works st) (part_copied st at m.typ (part_of_source st.ctx n at source is_const i m.typ)) _
    (λ x. bind (Works (with_work st x.work)) (Works st) (members_copied at n source is_const (with_work st x.work) (suc i) ms) _
    (members_work at n source is_const (with_work st x.work) (suc i) ms refl) (λ d k. k))

base_work : (st : State) (at : At) (n : ℕ) (source : Tree) (o : Option ℕ) → Same st → On (Works st) (base_copied st at n source o)
base_work st at n source None h = h
base_work st at n source (Some b) h =
    skip (Works st) (class_from (as_base_of st.ctx b) st.work (plain (class b)) at (own_operand at (as_source at b source))) _ (λ m. refl)

copied_work : (st : State) (at : At) (n : ℕ) (source : Tree) (is_const : Bool) → Same st → On (Works st) (parts_copied st at n source is_const)
copied_work st at n source is_const h =
    bind (Works st) (Works st) (base_copied st at n source (base_of_class (slice_get st.ctx.classes n))) _
    (base_work st at n source (base_of_class (slice_get st.ctx.classes n)) h)
    (λ x e. bind (Works x.state) (Works st) (members_copied at n source is_const x.state 0 (members_in (slice_get st.ctx.classes n))) _
    (members_work at n source is_const x.state 0 (members_in (slice_get st.ctx.classes n)) (e ∙ sym (ap (λ (z : State). with_work z x.state.work) e)))
    (λ y k. k ∙ ap (λ (z : State). with_work z y.state.work) e))

-- What was made before is there still

part_grows : (st : State) (at : At) (t : Typ) (e : Tree) → On (Mades st.work) (part_copied st at t e)
part_grows st at t e = either (Mades st.work) (is_array t) _ _ (same st.work)
    (either (Mades st.work) (is_class_typ t) _ _ (class_grows st.ctx st.work t at (own_operand at e)) (same st.work))

members_kept : (at : At) (n : ℕ) (source : Tree) (is_const : Bool) (st : State) (i : ℕ) (ms : List Member)
    → On (Ends st) (members_copied at n source is_const st i ms)
members_kept at n source is_const st i [] = stays st
members_kept at n source is_const st i (m ∷ ms) =
    let e : Tree = part_of_source st.ctx n at source is_const i m.typ in
    bind (Mades st.work) (Ends st) (part_copied st at m.typ e) _ (part_grows st at m.typ e)
    (λ x g. bind (Ends (with_work st x.work)) (Ends st) (members_copied at n source is_const (with_work st x.work) (suc i) ms) _
    (members_kept at n source is_const (with_work st x.work) (suc i) ms) (λ d h. after st (with_work st x.work) d.state (work_kept st x.work g) h))

base_kept : (st : State) (at : At) (n : ℕ) (source : Tree) (o : Option ℕ) → On (Ends st) (base_copied st at n source o)
base_kept st at n source None = stays st
base_kept st at n source (Some b) = bind (Mades st.work) (Ends st) (class_from (as_base_of st.ctx b) st.work (plain (class b)) at o) _
    (class_grows (as_base_of st.ctx b) st.work (plain (class b)) at o) (λ m g. work_kept st m.work g)
  where
    o : Operand
    o = own_operand at (as_source at b source)

copied_kept : (st : State) (at : At) (n : ℕ) (source : Tree) (is_const : Bool) → On (Ends st) (parts_copied st at n source is_const)
copied_kept st at n source is_const = follow of_done of_done st (base_copied st at n source (base_of_class (slice_get st.ctx.classes n))) _
    (base_kept st at n source (base_of_class (slice_get st.ctx.classes n)))
    (λ b. bind (Ends b.state) (Ends b.state) (members_copied at n source is_const b.state 0 (members_in (slice_get st.ctx.classes n))) _
    (members_kept at n source is_const b.state 0 (members_in (slice_get st.ctx.classes n))) (λ d h. h))

-- The parts serve

module _ (s : List Lexeme) (b : Below s) (f : UnitFunc) (a : State) (at : At) (n : ℕ) (source : Tree) (q : Bool) (h : IsSettled f a)
    (home : IsHome a.ctx.classes n) (item : at_place a.work.frame 0 (plain (ptr (plain (class n)))) ≡ true)
    (stands : (z : State) → Leaves a z → IsObjectOf (setting f z) (typ (class n) q false) source) (t : holds_temporary source ≡ false) (d : Done)
    (e : parts_copied a at n source q ≡ Ok d) where
  abbrev v : Work
  v = d.state.work

  abbrev z : State
  z = with_work a v

  is : d.state ≡ z
  is = answered (Works a) (parts_copied a at n source q) d (copied_work a at n source q (settled_same a h.none)) e

  later : IsSoundAfter true a d.state
  later = answered (λ (x : Done). IsSoundAfter true a x.state) (parts_copied a at n source q) d (b.copied a at n source q h.good.sound) e

  leaves : Leaves a d.state
  leaves = answered (λ (x : Done). Leaves a x.state) (parts_copied a at n source q) d (copied_kept a at n source q) e

  ready : IsSettled f z
  ready = settled_with s b f a v h (subst IsSoundState is later.sound) (subst (Leaves a) is leaves)

  all : Holds (setting f a) a.ctx a.work
  all = holds s b f a h.good

  parts : ArePartsOf a.ctx n
  parts = b.parts a.ctx a.work n h.good.unit h.good.sound.context (λ k. any_holds s b k a h.good) home

  here : IsSetting (setting f z) a.ctx
  here = let i = (holds s b f z ready.good).setting in record { classes = i.classes; ordered = i.ordered; slots = i.slots; funcs = i.funcs }

  own_parts : HasParts (setting f z) a.ctx n
  own_parts = let x = has_parts s b f a n h.good home item in record {
    this = first_kept a.work.frame v.frame leaves.kept.frame (plain (ptr (plain (class n)))) item;
    number = x.number;
    pointer = x.pointer;
    offsets = x.offsets;
    base = x.base;
    members = x.members;
  }

  copies : CopiesParts a.ctx (is_lambda a.ctx.classes) n
  copies = record { base = λ x u. b.objects (setting f a) a.ctx a.work (plain (class x)) h.good.unit h.good.sound.context all (parts.based x u) (parts.base x u).sized; members = parts.members }

  pub copies_stand : PartsStand s b f a d
  copies_stand = let p = answered (PartsMade (setting f z) a) (parts_copied a at n source q) d
      (b.copies (setting f z) a (is_lambda a.ctx.classes) at n source q here all.makers own_parts copies (stands z (subst (Leaves a) is leaves)) t) e in record {
        settled = subst (IsSettled f) (sym is) ready;
        leads = record { goes = goes a d.state leaves; kept = later.grown.kept };
        stands = subst (StandsAs a) (sym is) (record { label = refl; breaks = refl; continues = refl; typ = refl; past = λ i. i });
        serve = subst (λ (x : State). AllServe (setting f x) false false BlockItem d.trees) (sym is) (p.serve (reached_law f z.ctx v));
      }
