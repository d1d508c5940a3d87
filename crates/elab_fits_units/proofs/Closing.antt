-- Behind a class up to its brace the unit has gone on, and its types are sound, where what its functions override is right.
use Rattle.std.proofs.Common.{◌≡◌, refl, sym, ap, ◌∙◌, subst, ℕ, true, false, List, [], ◌∷◌, None, Ok}
use Rattle.elab_rules.specs.cpp_types.Class.{Class, completion_of}
use Rattle.elab_rules.specs.cpp_types.declared.classes.At.{At}
use Rattle.elab_rules.specs.cpp_lex.Tokens.{Lexeme}
use Rattle.elab_rules.specs.cpp_ast.Trees as syntax
use Rattle.elab_rules.specs.elab_ctx.Ctx.{Ctx}
use Rattle.elab_rules.specs.Types.{is_nothing, type_named}
use Rattle.elab_rules.specs.Statements.{State}
use Rattle.elab_rules.specs.Classes.{Home, Members, begun, member_of, members_of, completed, closed_class}
use Rattle.elab_rules.specs.Members.{members_among}
use Rattle.elab_fits.proofs.Steps.{answered}
use Rattle.elab_contexts.specs.Overriders.{HasOverriders}
use Rattle.elab_contexts.specs.Texts.{is_no_name}
use Rattle.elab_contexts.proofs.Holding as holding
use Rattle.elab_sound_units.specs.Steps.{IsSoundBehind}
use Rattle.elab_sound_units.proofs.Steps as sound
use Rattle.state_growth.proofs.Changing as changing
use Rattle.state_growth.proofs.Classes as growth
use Rattle.state_growth.proofs.Members.{each_holds}
use Rattle.state_growth.proofs.Steps.{stays, state_grows, is_tidy, to_tidy}
use Rattle.elab_fits_states.specs.States.{AreTexts}
use Rattle.elab_fits_states.proofs.Spelled.{all_spelled}
use Rattle.elab_fits_parts.specs.Parts.{IsHome}
use Rattle.elab_fits_parts.specs.Implicit.{HasBrace}
use Rattle.elab_fits_parts.proofs.Walks.{classes_law}
use Rattle.elab_fits_units.specs.Good.{UnitGood}
use Rattle.elab_fits_units.specs.Laws.{Leads}
use Rattle.elab_fits_units.specs.Steps.{IsClosed}

no_name : (xs : List ℕ) → is_nothing xs ≡ false → is_no_name xs ≡ false
no_name [] h = absurd cc
no_name (x ∷ xs) h = refl

pub class_leads : (s : List Lexeme) (st : State) (at : At) (name : List ℕ) (kids : syntax.Trees) (home : Home) (r : Members) (c : Ctx) → UnitGood st
    → is_nothing name ≡ false → AreTexts s kids → IsClosed s st at name kids home r c → HasOverriders r.state.ctx.funcs
    → Leads st (record r.state { ctx = c }) × IsHome c.classes home.number
class_leads s st at name kids home r c g n t k o = (
  record {
    walk = braced.walk;
    unit = holding.classes_law s st at kids home k.start r c g.unit title start k.based k.number k.read k.closed;
    sound = behind.after.sound;
    kept = behind.after.grown.kept;
    overriders = λ h. record { classes = o.classes; by = holding.classes_override o.classes at home r c k.closed o.by };
    gone = record { grows = state_grows st (record r.state { ctx = c }) went.kept; numbers = went.kept.numbers; tidy = is_tidy (record r.state { ctx = c }) went.tidy };
  },
  braced.home,
)
  where
    title : is_no_name home.name ≡ false
    title = ap is_no_name k.named ∙ no_name name n

    start : begun st.ctx at home.name true ≡ Ok k.start
    start = ap (λ (x : List ℕ). begun st.ctx at x true) k.named ∙ k.begins

    behind : IsSoundBehind st r home.number c
    behind = sound.classes_law s st at name k.start home (members_among kids) r c g.sound n (sound.spelled_law s kids (all_spelled s kids t.spelled)) k.begins k.number k.named
        k.read k.closed

    braced : HasBrace st.ctx c home.number
    braced = classes_law s st at kids home k.start r c g.unit title start k.based k.number k.read k.closed g.implicits

    named : growth.IsBegun st true k.start
    named = answered (growth.IsBegun st true) (begun st.ctx at home.name true) k.start (growth.begun_name st at home.name true (type_named home.name st.ctx.types)) start

    members : growth.Read (record st { ctx = k.start.ctx }) r
    members = let w : State = record st { ctx = k.start.ctx } in
        answered (growth.Read w) (members_of s home (record { state = w; members = []; initialised = [] }) (members_among kids)) r
        (each_holds (growth.Read w) (member_of s home) (record { state = w; members = []; initialised = [] }) (members_among kids)
        (record { classes = refl; leaves = stays w }) (λ x t i. growth.member_read w s home x t i)) k.read

    came : changing.From st r.state
    came = changing.since st (record st { ctx = k.start.ctx }) r.state (changing.since st st (record st { ctx = k.start.ctx }) (changing.begin st (to_tidy st g.tidy)) named.leaves)
        members.leaves

    incomplete : completion_of r.state.ctx.classes home.number ≡ None
    incomplete = ap (λ (cs : List Class). completion_of cs home.number) members.classes
        ∙ subst (λ (i : ℕ). completion_of k.start.ctx.classes i ≡ None) (sym k.number) (named.incomplete refl)

    went : changing.From st (record r.state { ctx = c })
    went = answered (λ (d : Ctx). changing.From st (record r.state { ctx = d })) (closed_class at home.number (completed r.state.ctx home at r.members r.initialised)) c
        (growth.closed_from st r.state at home.number (completed r.state.ctx home at r.members r.initialised)
        (growth.completed_from st r.state home at r.members r.initialised came incomplete)) k.closed
