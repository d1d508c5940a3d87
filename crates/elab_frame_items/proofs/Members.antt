-- Parts of objects, as constructors build and copy them, add whole items alone.
use Rattle.std.proofs.Common.{◌≡◌, refl, sym, ◌∙◌, subst, ℕ, suc, Bool, List, [], ◌∷◌, Option, Some, None}
use Rattle.std.specs.Prelude.{slice_get}
use Rattle.elab_rules.specs.cpp_types.Typ.{Typ, class}
use Rattle.elab_rules.specs.cpp_types.Class.{Class, Member}
use Rattle.elab_rules.specs.cpp_types.declared.classes.At.{At}
use Rattle.elab_rules.specs.cpp_tree.Notation.{plain}
use Rattle.elab_rules.specs.cpp_tree.Trees.{Tree}
use Rattle.elab_rules.specs.cpp_tree.Typing.{is_class_typ}
use Rattle.elab_rules.specs.elab_ctx.Ctx.{Ctx, Work, Default}
use Rattle.elab_rules.specs.Objects.{is_array}
use Rattle.elab_rules.specs.Initialising
use Rattle.elab_rules.specs.Names.{members_in}
use Rattle.elab_rules.specs.Calls.{base_of_class}
use Rattle.elab_rules.specs.Braces.{default_at}
use Rattle.elab_rules.specs.Statements
use Rattle.elab_rules.specs.Statements.{State, Done, Body, with_work}
use Rattle.elab_rules.specs.Members
use Rattle.elab_rules.specs.Members.{Given, given_for, as_base_of}
use Rattle.elab_rules.specs.Implicit
use Rattle.elab_rules.specs.Implicit.{own_operand}
use Rattle.elab_places.proofs.Steps.{On, bind, skip, either}
use Rattle.elab_frame_items.specs.Frames.{FramesWhole, IsWholeState}
use Rattle.elab_frame_items.specs.Items.{AreWhole, IsWhole, DefaultsWhole}
use Rattle.elab_frame_items.proofs.Objects.{Adds, same, after, Mades, class_from}
use Rattle.elab_frame_items.proofs.Braces.{Fine, default_fine, default_adds}

-- what is left of a state: its classes, the bodies that were made and the initialisers that are kept, and whole items more
pub record Leaves (a b : State) : Type 0 where
  pub adds : Adds a.ctx.classes a.work b.work
  pub classes : b.ctx.classes ≡ a.ctx.classes
  pub defaults : b.ctx.defaults ≡ a.ctx.defaults
  pub bodies : b.bodies ≡ a.bodies

abbrev pub Ends : State → Done → Type 0
Ends st d = Leaves st d.state

stays : (st : State) → Leaves st st
stays st = record { adds = same st.ctx.classes st.work; classes = refl; defaults = refl; bodies = refl }

worked : (st : State) (w : Work) → Adds st.ctx.classes st.work w → Leaves st (with_work st w)
worked st w h = record { adds = h; classes = refl; defaults = refl; bodies = refl }

follow : (a b d : State) → Leaves a b → Leaves b d → Leaves a d
follow a b d g h = record {
  adds = after a.ctx.classes a.work b.work d.work g.adds (subst (λ (cs : List Class). Adds cs b.work d.work) g.classes h.adds);
  classes = h.classes ∙ g.classes;
  defaults = h.defaults ∙ g.defaults;
  bodies = h.bodies ∙ g.bodies;
}

-- all items are whole still
pub leaves_whole : (a b : State) → Leaves a b → IsWholeState a → IsWholeState b
leaves_whole a b g h = record {
  items = subst (λ (cs : List Class). AreWhole cs b.work) (sym g.classes) (g.adds.whole h.items);
  defaults = subst (λ (cs : List Class). DefaultsWhole cs b.ctx.defaults) (sym g.classes)
      (subst (λ (ds : List Default). DefaultsWhole a.ctx.classes ds) (sym g.defaults) h.defaults);
  bodies = subst (λ (cs : List Class). FramesWhole cs b.bodies) (sym g.classes)
      (subst (λ (bs : List Body). FramesWhole a.ctx.classes bs) (sym g.bodies) h.bodies);
}

abbrev Kept : State → Type 0
Kept st = DefaultsWhole st.ctx.classes st.ctx.defaults

kept_still : (a b : State) → Leaves a b → Kept a → Kept b
kept_still a b g h = subst (λ (cs : List Class). DefaultsWhole cs b.ctx.defaults) (sym g.classes)
    (subst (λ (ds : List Default). DefaultsWhole a.ctx.classes ds) (sym g.defaults) h)

-- Members by their initialisers or from nothing

default_built : (st : State) (at : At) (t : Typ) (o : Option Default) → Fine st.ctx.classes o
    → On (Mades st.ctx.classes st.work) (Members.default_built st at t o)
default_built st at t (Some d) h = default_adds st.ctx.classes st.work d h
default_built st at t None h = skip (Mades st.ctx.classes st.work) (Statements.default_object st.ctx t at) _ (λ e. same st.ctx.classes st.work)

member_built : (st : State) (at : At) (n i : ℕ) (t : Typ) (g : Option Given) → Kept st → On (Ends st) (Members.member_built st at n i t g)
member_built st at n i t (Some g) h = stays st
member_built st at n i t None h = bind (Mades st.ctx.classes st.work) (Ends st) (Members.default_built st at t (default_at n i st.ctx.defaults)) _
    (default_built st at t (default_at n i st.ctx.defaults) (default_fine st.ctx.classes n i st.ctx.defaults h)) (λ m g. worked st m.work g)

members_built : (at : At) (n : ℕ) (gs : List Given) (st : State) (i : ℕ) (ms : List Member) → Kept st → On (Ends st) (Members.members_built at n gs st i ms)
members_built at n gs st i [] h = stays st
members_built at n gs st i (m ∷ ms) h = bind (Ends st) (Ends st) (Members.member_built st at n i m.typ (given_for (Some i) gs)) _
    (member_built st at n i m.typ (given_for (Some i) gs) h)
    (λ x g. bind (Ends x.state) (Ends st) (Members.members_built at n gs x.state (suc i) ms) _
    (members_built at n gs x.state (suc i) ms (kept_still st x.state g h)) (λ y l. follow st x.state y.state g l))

pub parts_built : (st : State) (at : At) (n : ℕ) (gs : List Given) → Kept st → On (Ends st) (Members.parts_built st at n gs)
parts_built st at n gs h = skip (Ends st) (Members.base_built st at n (base_of_class (slice_get st.ctx.classes n)) (given_for None gs)) _
    (λ b. bind (Ends st) (Ends st) (Members.members_built at n gs st 0 (members_in (slice_get st.ctx.classes n))) _
    (members_built at n gs st 0 (members_in (slice_get st.ctx.classes n)) h) (λ d i. i))

-- Copies, of lvalues

part_whole : (c : Ctx) (n : ℕ) (at : At) (source : Tree) (b : Bool) (i : ℕ) (t : Typ) → IsWhole c.classes (Implicit.part_of_source c n at source b i t)
part_whole c n at source b i t = record { object = λ z. absurd cc }

part_copied : (st : State) (at : At) (t : Typ) (e : Tree) → IsWhole st.ctx.classes e → On (Mades st.ctx.classes st.work) (Implicit.part_copied st at t e)
part_copied st at t e h = either (Mades st.ctx.classes st.work) (is_array t) _ _ (same st.ctx.classes st.work)
    (either (Mades st.ctx.classes st.work) (is_class_typ t) _ _ (class_from st.ctx st.work t at (own_operand at e) h) (same st.ctx.classes st.work))

members_copied : (at : At) (n : ℕ) (source : Tree) (b : Bool) (st : State) (i : ℕ) (ms : List Member)
    → On (Ends st) (Implicit.members_copied at n source b st i ms)
members_copied at n source b st i [] = stays st
members_copied at n source b st i (m ∷ ms) = bind (Mades st.ctx.classes st.work) (Ends st)
    (Implicit.part_copied st at m.typ (Implicit.part_of_source st.ctx n at source b i m.typ)) _
    (part_copied st at m.typ (Implicit.part_of_source st.ctx n at source b i m.typ) (part_whole st.ctx n at source b i m.typ))
    (λ x g. bind (Ends (with_work st x.work)) (Ends st) (Implicit.members_copied at n source b (with_work st x.work) (suc i) ms) _
    (members_copied at n source b (with_work st x.work) (suc i) ms)
    (λ d h. follow st (with_work st x.work) d.state (worked st x.work g) h))

base_copied : (st : State) (at : At) (n : ℕ) (source : Tree) (o : Option ℕ) → ((b : ℕ) → IsWhole st.ctx.classes (Initialising.as_source at b source))
    → On (Ends st) (Implicit.base_copied st at n source o)
base_copied st at n source None h = stays st
base_copied st at n source (Some b) h = bind (Mades st.ctx.classes st.work) (Ends st)
    (Initialising.class_from (as_base_of st.ctx b) st.work (plain (class b)) at (own_operand at (Initialising.as_source at b source))) _
    (class_from (as_base_of st.ctx b) st.work (plain (class b)) at (own_operand at (Initialising.as_source at b source)) (h b))
    (λ m g. worked st m.work g)

pub parts_copied : (st : State) (at : At) (n : ℕ) (source : Tree) (b : Bool) → ((k : ℕ) → IsWhole st.ctx.classes (Initialising.as_source at k source))
    → On (Ends st) (Implicit.parts_copied st at n source b)
parts_copied st at n source b h = bind (Ends st) (Ends st) (Implicit.base_copied st at n source (base_of_class (slice_get st.ctx.classes n))) _
    (base_copied st at n source (base_of_class (slice_get st.ctx.classes n)) h)
    (λ x g. bind (Ends x.state) (Ends st) (Implicit.members_copied at n source b x.state 0 (members_in (slice_get st.ctx.classes n))) _
    (members_copied at n source b x.state 0 (members_in (slice_get st.ctx.classes n))) (λ d i. follow st x.state d.state g i))
