-- The laws of the steps of a unit.
use Rattle.std.proofs.Common.{◌≡◌, refl, sym, subst, ℕ, true, false, List, [], Some}
use Rattle.std.specs.List.{list_all}
use Rattle.elab_rules.specs.cpp_types.Class.{Class}
use Rattle.elab_rules.specs.cpp_tree.Typing.{form_in}
use Rattle.elab_rules.specs.elab_ctx.Ctx.{Ctx}
use Rattle.elab_rules.specs.Types.{is_nothing}
use Rattle.elab_rules.specs.Statements.{State}
use Rattle.elab_rules.specs.Classes.{begun, members_of, completed, closed_class}
use Rattle.elab_rules.specs.Members.{parts_built}
use Rattle.elab_rules.specs.Implicit.{parts_copied}
use Rattle.elab_rules.specs.Lambdas.{lambdas_of}
use Rattle.elab_sound_types.specs.Types.{is_class}
use Rattle.elab_sound_types.specs.Contexts.{is_sound_member}
use Rattle.elab_sound_types.proofs.Growth.{class_more}
use Rattle.elab_sound_types.proofs.States.{later, since}
use Rattle.elab_sound_types.proofs.Zeros.{on_ok}
use Rattle.elab_sound_units.specs.Headers.{IsSoundClass}
use Rattle.elab_sound_units.specs.Steps.{VariablesKeepSound, AliasesKeepSound, EnumsKeepSound, NamesKeepSound, FunctionsAreSound, DefinitionsKeepSound}
use Rattle.elab_sound_units.specs.Steps.{MethodsAreSound, OutsideMethodsAreSound, MembersAreSound, ClassesAreSound, MembersAreSpelled, EnteredIsSound}
use Rattle.elab_sound_units.specs.Steps.{ObjectsAreSound, ParametersKeepSound, GivenKeepsSound, PartsKeepSound, CopiesKeepSound, ConstructorsKeepSound}
use Rattle.elab_sound_units.specs.Steps.{DestructorsKeepSound, MethodsKeepSound, DefaultsKeepSound, LateMethodsKeepSound, OutsideBodiesKeepSound}
use Rattle.elab_sound_units.specs.Steps.{ImpliedKeepsSound}
use Rattle.elab_sound_units.proofs.Below.{After, DoneAfter, lambdas_keep, parameters_sound}
use Rattle.elab_sound_units.proofs.Headers.{method_read}
use Rattle.elab_sound_units.proofs.Bodies.{OnlyDone, entered_sound, object_sound, work_after, parts_work, given_after, constructor_after, destructor_after}
use Rattle.elab_sound_units.proofs.Bodies.{method_after, default_made_after, late_method_after}
use Rattle.elab_sound_units.proofs.Completing.{closed_after}
use Rattle.elab_sound_units.proofs.Classes.{IsBegun, begun_after, members_sound, members_spelled, same_state, declared_after}
use Rattle.elab_sound_units.proofs.Outside.{function_after, methods_outside, body_after}
use Rattle.elab_sound_units.proofs.Globals.{aliases_after}
use Rattle.elab_sound_units.proofs.Enums.{enum_after}
use Rattle.elab_sound_units.proofs.Implied.{copied_work, one_after}
use Rattle.elab_sound_units.proofs.Units.{declaration_after, with_after}

pub variables_law : VariablesKeepSound
variables_law s st x at ts h i = declaration_after s st x at ts h i

pub aliases_law : AliasesKeepSound
aliases_law s st at name ts h = aliases_after s st at name ts h

pub enums_law : EnumsKeepSound
enums_law s st at name ts h = enum_after s st at name ts h

pub names_law : NamesKeepSound
names_law st at name e h = declared_after st at name e h

pub functions_law : FunctionsAreSound
functions_law st h defines i g = function_after st h defines i g

pub definitions_law : DefinitionsKeepSound
definitions_law s st x at first d body g h i = with_after s st x at first d body (form_in d.typ) refl g h i

pub methods_law : MethodsAreSound
methods_law s st n class_name at kind kids h i = method_read s st n class_name at kind kids h i

pub outside_law : OutsideMethodsAreSound
outside_law s st at x kind ts h i = methods_outside s st h at x kind ts i

pub members_law : MembersAreSound
members_law classes s home r ts h i = members_sound classes s home r ts h i

pub classes_law : ClassesAreSound
classes_law s st at name b home members r c h e i start number named read closed =
    let j = on_ok (IsBegun st) (begun st.ctx at name true) b (begun_after st at name true e h) start in
    let y : State = record st { ctx = b.ctx } in
    let g = on_ok (IsSoundClass b.ctx.classes) (members_of s home (record { state = y; members = []; initialised = [] }) members) r
    (members_sound b.ctx.classes s home (record { state = y; members = []; initialised = [] }) members
    (record { state = j.after.sound; same = refl; members = refl }) i) read in
    let d : is_class r.state.ctx.classes home.number ≡ true = subst (λ (cs : List Class). is_class cs home.number ≡ true) (sym g.same)
    (subst (λ (n : ℕ). is_class b.ctx.classes n ≡ true) (sym number) j.class) in
    let a = on_ok (λ (x : Ctx). After r.state (record r.state { ctx = x }))
    (closed_class at home.number (completed r.state.ctx home at r.members r.initialised)) c
    (closed_after r.state home at r.members r.initialised g.state d (subst (λ (x : List ℕ). is_nothing x ≡ false) (sym named) e)
    (subst (λ (cs : List Class). list_all (is_sound_member cs) r.members ≡ true) (sym g.same) g.members)) closed in
    record {
      after = later true st y (record r.state { ctx = c }) j.after (later true y r.state (record r.state { ctx = c }) (same_state y r g) a);
      class = class_more r.state.ctx.classes c.classes a.grown.kept home.number d;
    }

pub spelled_law : MembersAreSpelled
spelled_law s ts h = members_spelled s ts h

pub entered_law : EnteredIsSound
entered_law st r this cls h g = entered_sound st r this cls h g

pub objects_law : ObjectsAreSound
objects_law st n h g = object_sound st n h g

pub parameters_law : ParametersKeepSound
parameters_law s st ps h g = parameters_sound s st ps h g

pub given_law : GivenKeepsSound
given_law s n g ts h i = given_after lambdas_of s (lambdas_keep s) n g ts h i

pub parts_law : PartsKeepSound
parts_law st at n gs h =
    since (OnlyDone st) (DoneAfter st) (parts_built st at n gs) (parts_work st at n gs) (λ d o. work_after st d.state o h)

pub copies_law : CopiesKeepSound
copies_law st at n source is_const h =
    since (OnlyDone st) (DoneAfter st) (parts_copied st at n source is_const) (copied_work st at n source is_const) (λ d o. work_after st d.state o h)

pub constructors_law : ConstructorsKeepSound
constructors_law s st h n place inits body a c i j m = constructor_after lambdas_of s (lambdas_keep s) st h n place inits body a c i j m

pub destructors_law : DestructorsKeepSound
destructors_law s st h n place body a c i = destructor_after lambdas_of s (lambdas_keep s) st h n place body a c i

pub bodies_law : MethodsKeepSound
bodies_law s st n place kind m body a c r i = method_after lambdas_of s (lambdas_keep s) st n place kind m body a c r i

pub defaults_law : DefaultsKeepSound
defaults_law s st n i t e h c j = default_made_after lambdas_of s (lambdas_keep s) st n i t e h c j

pub late_law : LateMethodsKeepSound
late_law s st n kind m body h c r i = late_method_after lambdas_of s (lambdas_keep s) st n kind m (Some body) h c r i

pub outside_bodies_law : OutsideBodiesKeepSound
outside_bodies_law s st n kind first m body h c r i = body_after lambdas_of s (lambdas_keep s) st n kind first m body h c r i

pub implied_law : ImpliedKeepsSound
implied_law st k h = one_after st k h
