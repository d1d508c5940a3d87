-- The bodies of implicit members, as the code makes them, are those of the definitions.
use Rattle.std.proofs.Common.{◌≡◌, ℕ, zero, suc, Bool, true, false, List, [], ◌∷◌, length, refl, ap, ◌∙◌, Option, Some, None, Result, Ok}
use Rattle.std.specs.Prelude.{◌&&◌, slice_get, if◌then◌else◌}
use Rattle.elab_rules.specs.cpp_types.Typ.{Typ, class, Typs, none as no_typs, more as and_typ}
use Rattle.elab_rules.specs.cpp_types.Class.{Member}
use Rattle.elab_rules.specs.cpp_types.declared.classes.At.{At}
use Rattle.elab_rules.specs.cpp_tree.declared.program.FuncKind.{FuncKind}
use Rattle.elab_rules.specs.cpp_tree.declared.program.FuncKind.TheVariants.{Destructor}
use Rattle.elab_rules.specs.cpp_tree.declared.faults.ElabFault.{ElabFault}
use Rattle.elab_rules.specs.cpp_tree.Notation.{plain}
use Rattle.elab_rules.specs.cpp_tree.Trees.{Tree, none}
use Rattle.elab_rules.specs.cpp_tree.Typing.{is_class_typ}
use Rattle.elab_rules.specs.elab_ctx.Ctx.{Func}
use Rattle.elab_rules.specs.elab_ctx.Steps.{and_then, Operand}
use Rattle.elab_rules.specs.Objects.{is_array}
use Rattle.elab_rules.specs.Initialising.{func_at, signature_parameters, class_from, as_source}
use Rattle.elab_rules.specs.Names.{members_in}
use Rattle.elab_rules.specs.Calls.{base_of_class}
use Rattle.elab_rules.specs.Statements.{State, Done, with_work, the_tree}
use Rattle.elab_rules.specs.Functions.{body_made, within_frame}
use Rattle.elab_rules.specs.Members.{as_base_of, in_object, parts_built, constructor_tree, destructor_tree}
use Rattle.elab_rules.specs.Implicit as rules
use Rattle.elab_rules.specs.Implicit.{own_operand, part_copied, part_of_source, members_copied, base_copied, parts_copied, source_object, source_const}
use Rattle.elab_rules.specs.Implicit.{with_source, is_referred}
use Rattle.elab_entry.specs.Round.{round_function}
use Rattle.elab_entry.specs.Bodies as entry
use Rattle.elab_implicit.specs.Implied as code
use Rattle.elab_implicit.specs.Implied.{first_of}
use Rattle.elab_leaving.specs.Kept.{On}
use Rattle.elab_leaving.proofs.Keeping.{bind, skip, either, stays, after, follow, of_done, Ends, begins_refl, work_kept}
use Rattle.elab_leaving.proofs.Growing.{Mades, class_grows}
use Rattle.elab_leaving.proofs.Answers.{same_after, nest}
use Rattle.elab_leaving.proofs.Leaving.{made_function}
use Rattle.elab_leaving.proofs.Objects.{object_same, inside_object, parts_kept}
use Rattle.elab_leaving.proofs.Defaults.{Settled}

-- A copy, part by part

part_grows : (st : State) (at : At) (t : Typ) (e : Tree) → On (Mades st.work) (part_copied st at t e)
part_grows st at t e = either (Mades st.work) (is_array t) _ _ (begins_refl st.work.globals)
    (either (Mades st.work) (is_class_typ t) _ _ (class_grows st.ctx st.work t at (own_operand at e)) (begins_refl st.work.globals))

members_kept : (at : At) (n : ℕ) (source : Tree) (is_const : Bool) (st : State) (i : ℕ) (ms : List Member)
    → On (Ends st) (members_copied at n source is_const st i ms)
members_kept at n source is_const st i [] = stays st
members_kept at n source is_const st i (m ∷ ms) =
    let e : Tree = part_of_source st.ctx n at source is_const i m.typ in
    bind (Mades st.work) (Ends st) (part_copied st at m.typ e) _ (part_grows st at m.typ e)
    (λ x g. bind (Ends (with_work st x.work)) (Ends st) (members_copied at n source is_const (with_work st x.work) (suc i) ms) _
    (members_kept at n source is_const (with_work st x.work) (suc i) ms) (λ d h. after st (with_work st x.work) d.state (work_kept st x.work g) h))

base_kept : (st : State) (at : At) (n : ℕ) (source : Tree) (o : Option ℕ) → On (Ends st) (base_copied st at n source o)
base_kept st at n source None = stays st
base_kept st at n source (Some b) = bind (Mades st.work) (Ends st) (class_from (as_base_of st.ctx b) st.work (plain (class b)) at o) _
    (class_grows (as_base_of st.ctx b) st.work (plain (class b)) at o) (λ m g. work_kept st m.work g)
  where
    o : Operand
    o = own_operand at (as_source at b source)

copied_kept : (st : State) (at : At) (n : ℕ) (source : Tree) (is_const : Bool) → On (Ends st) (parts_copied st at n source is_const)
copied_kept st at n source is_const = follow of_done of_done st (base_copied st at n source (base_of_class (slice_get st.ctx.classes n))) _
    (base_kept st at n source (base_of_class (slice_get st.ctx.classes n)))
    (λ b. bind (Ends b.state) (Ends b.state) (members_copied at n source is_const b.state 0 (members_in (slice_get st.ctx.classes n))) _
    (members_kept at n source is_const b.state 0 (members_in (slice_get st.ctx.classes n))) (λ d h. h))

-- Bodies

abbrev kept : State → At → ℕ → Done → Result State ElabFault
kept st at k d = entry.body_made (round_function st) at k (the_tree at d.trees) d.state

behind_parts : (st : State) (at : At) (k n : ℕ) (r : Result Done ElabFault) → On (Ends (in_object st n)) r
    → and_then r (λ (d : Done). entry.body_made (round_function st) at k (constructor_tree at d.trees none) d.state)
    ≡ and_then r (λ (d : Done). body_made st at k (constructor_tree at d.trees none) d.state)
behind_parts st at k n r h = same_after (Ends (in_object st n)) r _ _ h
    (λ d i. made_function st d.state at k (constructor_tree at d.trees none) (inside_object st d.state n i))

constructor_same : (st : State) (at : At) (k n : ℕ) (ps : Typs) → Settled st
    → and_then (code.constructor_inside (code.in_object st n) at n (first_of ps)) (kept st at k) ≡ rules.constructor_implied st at k n ps
constructor_same st at k n (and_typ t ps) e =
    let b : State = in_object st n in
    let r : Result Done ElabFault = parts_copied (with_source b t) at n (source_object n t at) (source_const t) in
    ap (λ (z : State). and_then (code.constructor_inside z at n (Some t)) (kept st at k)) (object_same st n e) ∙ nest r _ (kept st at k)
    ∙ behind_parts st at k n r (copied_kept (with_source b t) at n (source_object n t at) (source_const t))
constructor_same st at k n no_typs e =
    let b : State = in_object st n in
    ap (λ (z : State). and_then (code.constructor_inside z at n None) (kept st at k)) (object_same st n e) ∙ nest (parts_built b at n []) _ (kept st at k)
    ∙ behind_parts st at k n (parts_built b at n []) (parts_kept b at n [])

destructor_same : (st : State) (at : At) (k n : ℕ) → Settled st
    → and_then (code.destructor_inside (code.in_object st n) at n) (kept st at k) ≡ body_made st at k (destructor_tree st.ctx at at n none) (in_object st n)
destructor_same st at k n e = ap (λ (z : State). and_then (code.destructor_inside z at n) (kept st at k)) (object_same st n e)
    ∙ made_function st (in_object st n) at k (destructor_tree (in_object st n).ctx at at n none) (inside_object st (in_object st n) n (stays (in_object st n)))

body_same : (st : State) (at : At) (k n : ℕ) (kind : FuncKind) (ps : Typs) → Settled st
    → code.body_implied st at k n kind (first_of ps) ≡ rules.body_implied st at k n kind ps
body_same st at k n Destructor ps e = destructor_same st at k n e
body_same st at k n kind ps e = constructor_same st at k n ps e

wanted_same : (st : State) (k : ℕ) (b : Bool) (o : Option ℕ) → Settled st
    → code.implied_for st k (if b then o else None) ≡ (if b then rules.implied_of st k (func_at st.ctx.funcs k) o else Ok st)
wanted_same st k true (Some n) e = let f : Func = func_at st.ctx.funcs k in body_same st f.declared.at k n f.kind (signature_parameters f.declared.signature) e
wanted_same st k true None e = refl
wanted_same st k false o e = refl

one_same : (st : State) (k : ℕ) → Settled st → code.implied st k ≡ rules.implied st k
one_same st k e = wanted_same st k ((func_at st.ctx.funcs k).implicit && is_referred st k) (func_at st.ctx.funcs k).class e

-- no lambdas are at hand behind one

made_settled : (st : State) (at : At) (k : ℕ) (t : Tree) (x : State) → Settled st → On Settled (body_made st at k t x)
made_settled st at k t x e = skip Settled (within_frame x.ctx at x.work.frame) _ (λ y. e)

constructor_settled : (st : State) (at : At) (k n : ℕ) (ps : Typs) → Settled st → On Settled (rules.constructor_implied st at k n ps)
constructor_settled st at k n (and_typ t ps) e = skip Settled (parts_copied (with_source (in_object st n) t) at n (source_object n t at) (source_const t)) _
    (λ d. made_settled st at k (constructor_tree at d.trees none) d.state e)
constructor_settled st at k n no_typs e = skip Settled (parts_built (in_object st n) at n []) _
    (λ d. made_settled st at k (constructor_tree at d.trees none) d.state e)

body_settled : (st : State) (at : At) (k n : ℕ) (kind : FuncKind) (ps : Typs) → Settled st → On Settled (rules.body_implied st at k n kind ps)
body_settled st at k n Destructor ps e = made_settled st at k (destructor_tree st.ctx at at n none) (in_object st n) e
body_settled st at k n kind ps e = constructor_settled st at k n ps e

of_settled : (st : State) (k : ℕ) (f : Func) (o : Option ℕ) → Settled st → On Settled (rules.implied_of st k f o)
of_settled st k f (Some n) e = body_settled st f.declared.at k n f.kind (signature_parameters f.declared.signature) e
of_settled st k f None e = e

one_settled : (st : State) (k : ℕ) → Settled st → On Settled (rules.implied st k)
one_settled st k e = either Settled ((func_at st.ctx.funcs k).implicit && is_referred st k) _ _
    (of_settled st k (func_at st.ctx.funcs k) (func_at st.ctx.funcs k).class e) e

-- from the last function back

below_same : (st : State) (k : ℕ) → Settled st → code.implied_below st k ≡ rules.implied_below st k
below_same st zero e = refl
below_same st (suc k) e = ap (λ z. and_then z (λ (x : State). code.implied_below x k)) (one_same st k e)
    ∙ same_after Settled (rules.implied st k) _ _ (one_settled st k e) (λ x i. below_same x k i)

pub implied_same : (st : State) → Settled st → code.with_implied st ≡ rules.with_implied st
implied_same st e = below_same st (length st.ctx.funcs) e
