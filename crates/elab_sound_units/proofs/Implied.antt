-- Bodies of implicit members keep the types of the context sound: in them the context is the same.
use Rattle.std.proofs.Common.{◌≡◌, refl, sym, ap, ◌∙◌, subst, ℕ, zero, suc, Bool, true, List, [], ◌∷◌, length, Option, Some, None}
use Rattle.std.specs.Prelude.{slice_get, ◌&&◌}
use Rattle.elab_rules.specs.cpp_types.Typ.{Typ, class, Typs, none as no_typs, more as and_typ}
use Rattle.elab_rules.specs.cpp_types.Class.{Class, Member}
use Rattle.elab_rules.specs.cpp_types.declared.classes.At.{At}
use Rattle.elab_rules.specs.cpp_tree.declared.program.FuncKind.{FuncKind}
use Rattle.elab_rules.specs.cpp_tree.declared.program.FuncKind.TheVariants.{Plain, Constructor, Destructor, ClosureCall}
use Rattle.elab_rules.specs.cpp_tree.Notation.{plain}
use Rattle.elab_rules.specs.cpp_tree.Trees.{Tree, none}
use Rattle.elab_rules.specs.cpp_tree.Typing.{is_class_typ}
use Rattle.elab_rules.specs.cpp_tree.Units.{SlotFunc}
use Rattle.elab_rules.specs.elab_ctx.Ctx.{Ctx, Work, Func, Traits}
use Rattle.elab_rules.specs.Objects.{is_array}
use Rattle.elab_rules.specs.Initialising.{as_source, class_from, func_at, signature_parameters}
use Rattle.elab_rules.specs.Names.{members_in}
use Rattle.elab_rules.specs.Calls.{base_of_class}
use Rattle.elab_rules.specs.Statements.{State, with_work}
use Rattle.elab_rules.specs.Functions.{leaving, within_frame, body_made}
use Rattle.elab_rules.specs.Members.{as_base_of, in_object, parts_built, constructor_tree, destructor_tree}
use Rattle.elab_rules.specs.Implicit.{own_operand, part_copied, part_of_source, members_copied, base_copied, parts_copied, with_source, source_object}
use Rattle.elab_rules.specs.Implicit.{source_const}
use Rattle.elab_rules.specs.Implicit.{constructor_implied, body_implied, implied_of, implied, implied_below, with_implied, is_referred}
use Rattle.elab_fits.specs.Standing.{On}
use Rattle.elab_fits.proofs.Steps.{bind, skip, either_way as either}
use Rattle.elab_sound_types.specs.Contexts.{HasSoundTypes}
use Rattle.elab_sound_types.specs.States.{IsSoundState}
use Rattle.elab_sound_types.proofs.States.{nothing}
use Rattle.elab_sound_types.proofs.Globals as globals
use Rattle.elab_sound_units.proofs.Below.{MadeBehind, GlobalsStay, After}
use Rattle.elab_sound_units.proofs.Contexts.{moved, stays}
use Rattle.elab_sound_units.proofs.Bodies.{behind, OnlyWork, OnlyDone, globals_same, no_work, made_work, work_joined, parts_work}

-- A copy, part by part

part_work : (st : State) (at : At) (t : Typ) (e : Tree) → On (MadeBehind st.work) (part_copied st at t e)
part_work st at t e = either (MadeBehind st.work) (is_array t) _ _ (globals_same st.work)
    (either (MadeBehind st.work) (is_class_typ t) _ _ (globals.class_from st.ctx st.work t at (own_operand at e)) (globals_same st.work))

members_work : (at : At) (n : ℕ) (source : Tree) (is_const : Bool) (st : State) (i : ℕ) (ms : List Member)
    → On (OnlyDone st) (members_copied at n source is_const st i ms)
members_work at n source is_const st i [] = no_work st
members_work at n source is_const st i (m ∷ ms) =
    let e : Tree = part_of_source st.ctx n at source is_const i m.typ in
    bind (MadeBehind st.work) (OnlyDone st) (part_copied st at m.typ e) _ (part_work st at m.typ e)
    (λ x g. bind (OnlyDone (with_work st x.work)) (OnlyDone st) (members_copied at n source is_const (with_work st x.work) (suc i) ms) _
    (members_work at n source is_const (with_work st x.work) (suc i) ms)
    (λ d h. work_joined st (with_work st x.work) d.state (made_work st x.work g) h))

base_work : (st : State) (at : At) (n : ℕ) (source : Tree) (o : Option ℕ) → On (OnlyDone st) (base_copied st at n source o)
base_work st at n source None = no_work st
base_work st at n source (Some b) =
    bind (MadeBehind st.work) (OnlyDone st) (class_from (as_base_of st.ctx b) st.work (plain (class b)) at (own_operand at (as_source at b source))) _
    (globals.class_from (as_base_of st.ctx b) st.work (plain (class b)) at (own_operand at (as_source at b source))) (λ m g. made_work st m.work g)

pub copied_work : (st : State) (at : At) (n : ℕ) (source : Tree) (is_const : Bool) → On (OnlyDone st) (parts_copied st at n source is_const)
copied_work st at n source is_const =
    bind (OnlyDone st) (OnlyDone st) (base_copied st at n source (base_of_class (slice_get st.ctx.classes n))) _
    (base_work st at n source (base_of_class (slice_get st.ctx.classes n)))
    (λ b h. bind (OnlyDone b.state) (OnlyDone st) (members_copied at n source is_const b.state 0 (members_in (slice_get st.ctx.classes n))) _
    (members_work at n source is_const b.state 0 (members_in (slice_get st.ctx.classes n))) (λ d g. work_joined st b.state d.state h g))

-- Bodies

-- a state in which the same classes and functions are known
record IsSame (st z : State) : Type 0 where
  classes : z.ctx.classes ≡ st.ctx.classes
  traits : z.ctx.traits ≡ st.ctx.traits
  funcs : z.ctx.funcs ≡ st.ctx.funcs
  globals : GlobalsStay st.work z.work

object_same : (st : State) (n : ℕ) (b z : State) → OnlyWork b z → b.ctx ≡ (in_object st n).ctx → GlobalsStay st.work b.work → IsSame st z
object_same st n b z o e g = record {
  classes = ap (λ (c : Ctx). c.classes) o.ctx ∙ ap (λ (c : Ctx). c.classes) e;
  traits = ap (λ (c : Ctx). c.traits) o.ctx ∙ ap (λ (c : Ctx). c.traits) e;
  funcs = ap (λ (c : Ctx). c.funcs) o.ctx ∙ ap (λ (c : Ctx). c.funcs) e;
  globals = record { kept = λ cs h. o.globals.kept cs (g.kept cs h) };
}

same_context : (c : Ctx) (w : Work) (slots : List (List SlotFunc)) (cs : List Class) (ts : List Traits) (fs : List Func) → HasSoundTypes c w → cs ≡ c.classes
    → ts ≡ c.traits → fs ≡ c.funcs → HasSoundTypes (record c { classes = cs; traits = ts; slots = slots; funcs = fs }) w
same_context c w slots cs ts fs h e f g =
    subst (λ (xs : List Class). HasSoundTypes (record c { classes = xs; traits = ts; slots = slots; funcs = fs }) w) (sym e)
    (subst (λ (xs : List Traits). HasSoundTypes (record c { classes = c.classes; traits = xs; slots = slots; funcs = fs }) w) (sym f)
    (subst (λ (xs : List Func). HasSoundTypes (record c { classes = c.classes; traits = c.traits; slots = slots; funcs = xs }) w) (sym g) (record {
      types = h.types;
      members = h.members;
      functions = h.functions;
      enumerators = h.enumerators;
      variables = h.variables;
      this = h.this;
      captures = h.captures;
      globals = h.globals;
      many = h.many;
      copied = h.copied;
    })))

-- so a body that is made there leaves what stands around it sound
same_after : (st z : State) (at : At) (k : ℕ) (tree : Tree) → IsSame st z → IsSoundState st → On (After st) (body_made st at k tree z)
same_after st z at k tree o h = skip (After st) (within_frame z.ctx at z.work.frame) _
    (λ y. let d : Ctx = (leaving st z).ctx in
    stays st d (leaving st z).work _ (moved d st.work (leaving st z).work
    (same_context st.ctx st.work z.ctx.slots z.ctx.classes z.ctx.traits z.ctx.funcs h.context o.classes o.traits o.funcs)
    (record { kept = λ cs i. o.globals.kept cs i })) o.classes refl refl h)

constructor_after : (st : State) (at : At) (k n : ℕ) (ps : Typs) → IsSoundState st → On (After st) (constructor_implied st at k n ps)
constructor_after st at k n (and_typ t ps) h =
    let b : State = in_object st n in
    let c : State = with_source b t in
    bind (OnlyDone c) (After st) (parts_copied c at n (source_object n t at) (source_const t)) _ (copied_work c at n (source_object n t at) (source_const t))
    (λ d g. same_after st d.state at k (constructor_tree at d.trees none) (object_same st n c d.state g refl (record { kept = λ cs i. i })) h)
constructor_after st at k n no_typs h =
    bind (OnlyDone (in_object st n)) (After st) (parts_built (in_object st n) at n []) _ (parts_work (in_object st n) at n [])
    (λ d g. same_after st d.state at k (constructor_tree at d.trees none) (object_same st n (in_object st n) d.state g refl (record { kept = λ cs i. i })) h)

body_after : (st : State) (at : At) (k n : ℕ) (kind : FuncKind) (ps : Typs) → IsSoundState st → On (After st) (body_implied st at k n kind ps)
body_after st at k n Destructor ps h = same_after st (in_object st n) at k (destructor_tree st.ctx at at n none)
    (object_same st n (in_object st n) (in_object st n) (no_work (in_object st n)) refl (record { kept = λ cs i. i })) h
body_after st at k n Plain ps h = constructor_after st at k n ps h
body_after st at k n Constructor ps h = constructor_after st at k n ps h
body_after st at k n ClosureCall ps h = constructor_after st at k n ps h

of_after : (st : State) (k : ℕ) (f : Func) (o : Option ℕ) → IsSoundState st → On (After st) (implied_of st k f o)
of_after st k f (Some n) h = body_after st f.declared.at k n f.kind (signature_parameters f.declared.signature) h
of_after st k f None h = nothing true st h

pub one_after : (st : State) (k : ℕ) → IsSoundState st → On (After st) (implied st k)
one_after st k h = either (After st) ((func_at st.ctx.funcs k).implicit && is_referred st k) _ _
    (of_after st k (func_at st.ctx.funcs k) (func_at st.ctx.funcs k).class h) (nothing true st h)

below_after : (st : State) (k : ℕ) → IsSoundState st → On (After st) (implied_below st k)
below_after st zero h = nothing true st h
below_after st (suc k) h = bind (After st) (After st) (implied st k) _ (one_after st k h)
    (λ x i. behind st x (implied_below x k) i (below_after x k i.sound))

pub implied_after : (st : State) → IsSoundState st → On (After st) (with_implied st)
implied_after st h = below_after st (length st.ctx.funcs) h
