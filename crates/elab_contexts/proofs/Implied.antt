-- Behind the bodies of implicit members stands what stood before them.
use Rattle.std.proofs.Common.{refl, ℕ, zero, suc, Bool, List, [], ◌∷◌, length, Option, Some, None}
use Rattle.std.specs.Prelude.{slice_get, ◌&&◌}
use Rattle.elab_rules.specs.cpp_types.Typ.{Typ, class, Typs, none as no_typs, more as and_typ}
use Rattle.elab_rules.specs.cpp_types.Class.{Member}
use Rattle.elab_rules.specs.cpp_types.declared.classes.At.{At}
use Rattle.elab_rules.specs.cpp_tree.declared.program.FuncKind.{FuncKind}
use Rattle.elab_rules.specs.cpp_tree.declared.program.FuncKind.TheVariants.{Destructor}
use Rattle.elab_rules.specs.cpp_tree.Notation.{plain}
use Rattle.elab_rules.specs.cpp_tree.Trees.{Tree, none}
use Rattle.elab_rules.specs.cpp_tree.Typing.{is_class_typ}
use Rattle.elab_rules.specs.elab_ctx.Ctx.{Func}
use Rattle.elab_rules.specs.elab_ctx.Steps.{Operand}
use Rattle.elab_rules.specs.Objects.{is_array}
use Rattle.elab_rules.specs.Initialising.{as_source, class_from, func_at, signature_parameters}
use Rattle.elab_rules.specs.Names.{members_in}
use Rattle.elab_rules.specs.Calls.{base_of_class}
use Rattle.elab_rules.specs.Statements.{State, with_work}
use Rattle.elab_rules.specs.Members.{as_base_of, in_object, parts_built, constructor_tree, destructor_tree}
use Rattle.elab_rules.specs.Implicit.{own_operand, part_copied, part_of_source, members_copied, base_copied, parts_copied, with_source, source_object, source_const}
use Rattle.elab_rules.specs.Implicit.{constructor_implied, body_implied, implied_of, implied, implied_below, with_implied, is_referred}
use Rattle.elab_fits.specs.Standing.{On}
use Rattle.elab_fits.proofs.Steps.{bind, either_way as either}
use Rattle.elab_contexts.proofs.Works.{same}
use Rattle.elab_contexts.proofs.Walking.{Leaves, stays, after, follow, of_state, of_done, Ends}
use Rattle.elab_contexts.proofs.Items.{work_kept, item_kept}
use Rattle.elab_contexts.proofs.Works.{Mades, class_grows}
use Rattle.elab_contexts.proofs.Bodies.{made_kept}
use Rattle.elab_contexts.proofs.Members.{parts_kept, object_left}

-- A copy, part by part

part_grows : (st : State) (at : At) (t : Typ) (e : Tree) → On (Mades st.work) (part_copied st at t e)
part_grows st at t e = either (Mades st.work) (is_array t) _ _ (same st.work)
    (either (Mades st.work) (is_class_typ t) _ _ (class_grows st.ctx st.work t at (own_operand at e)) (same st.work))

members_kept : (at : At) (n : ℕ) (source : Tree) (is_const : Bool) (st : State) (i : ℕ) (ms : List Member)
    → On (Ends st) (members_copied at n source is_const st i ms)
members_kept at n source is_const st i [] = stays st
members_kept at n source is_const st i (m ∷ ms) =
    let e : Tree = part_of_source st.ctx n at source is_const i m.typ in
    bind (Mades st.work) (Ends st) (part_copied st at m.typ e) _ (part_grows st at m.typ e)
    (λ x g. bind (Ends (with_work st x.work)) (Ends st) (members_copied at n source is_const (with_work st x.work) (suc i) ms) _
    (members_kept at n source is_const (with_work st x.work) (suc i) ms) (λ d h. after st (with_work st x.work) d.state (work_kept st x.work g) h))

base_kept : (st : State) (at : At) (n : ℕ) (source : Tree) (o : Option ℕ) → On (Ends st) (base_copied st at n source o)
base_kept st at n source None = stays st
base_kept st at n source (Some b) = bind (Mades st.work) (Ends st) (class_from (as_base_of st.ctx b) st.work (plain (class b)) at o) _
    (class_grows (as_base_of st.ctx b) st.work (plain (class b)) at o) (λ m g. work_kept st m.work g)
  where
    o : Operand
    o = own_operand at (as_source at b source)

copied_kept : (st : State) (at : At) (n : ℕ) (source : Tree) (is_const : Bool) → On (Ends st) (parts_copied st at n source is_const)
copied_kept st at n source is_const = follow of_done of_done st (base_copied st at n source (base_of_class (slice_get st.ctx.classes n))) _
    (base_kept st at n source (base_of_class (slice_get st.ctx.classes n)))
    (λ b. bind (Ends b.state) (Ends b.state) (members_copied at n source is_const b.state 0 (members_in (slice_get st.ctx.classes n))) _
    (members_kept at n source is_const b.state 0 (members_in (slice_get st.ctx.classes n))) (λ d h. h))

-- Bodies

constructor_kept : (st : State) (at : At) (k n : ℕ) (ps : Typs) → On (Leaves st) (constructor_implied st at k n ps)
constructor_kept st at k n (and_typ t ps) =
    let b : State = in_object st n in
    let c : State = with_source b t in
    bind (Ends c) (Leaves st) (parts_copied c at n (source_object n t at) (source_const t)) _ (copied_kept c at n (source_object n t at) (source_const t))
    (λ d h. made_kept st st d.state at k (constructor_tree at d.trees none) refl (object_left st n d.state (after b c d.state (item_kept b t) h)))
constructor_kept st at k n no_typs = bind (Ends (in_object st n)) (Leaves st) (parts_built (in_object st n) at n []) _ (parts_kept (in_object st n) at n [])
    (λ d h. made_kept st st d.state at k (constructor_tree at d.trees none) refl (object_left st n d.state h))

body_kept : (st : State) (at : At) (k n : ℕ) (kind : FuncKind) (ps : Typs) → On (Leaves st) (body_implied st at k n kind ps)
body_kept st at k n Destructor ps = made_kept st st (in_object st n) at k (destructor_tree st.ctx at at n none) refl
    (object_left st n (in_object st n) (stays (in_object st n)))
body_kept st at k n kind ps = constructor_kept st at k n ps

of_kept : (st : State) (k : ℕ) (f : Func) (o : Option ℕ) → On (Leaves st) (implied_of st k f o)
of_kept st k f (Some n) = body_kept st f.declared.at k n f.kind (signature_parameters f.declared.signature)
of_kept st k f None = stays st

pub implied_one : (st : State) (k : ℕ) → On (Leaves st) (implied st k)
implied_one st k = either (Leaves st) ((func_at st.ctx.funcs k).implicit && is_referred st k) _ _
    (of_kept st k (func_at st.ctx.funcs k) (func_at st.ctx.funcs k).class) (stays st)

below_kept : (st : State) (k : ℕ) → On (Leaves st) (implied_below st k)
below_kept st zero = stays st
below_kept st (suc k) = follow of_state of_state st (implied st k) _ (implied_one st k) (λ x. below_kept x k)

pub implied_kept : (st : State) → On (Leaves st) (with_implied st)
implied_kept st = below_kept st (length st.ctx.funcs)
