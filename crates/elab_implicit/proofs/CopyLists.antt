-- Parts of an object from those of another, one after the other.
use Rattle.std.proofs.Common.{◌≡◌, ◌<◌, ◌≤◌, ◌+◌, ◌∙◌, ℕ, suc, Bool, true, List, [], ◌∷◌, ◌++◌, length, drop, get_or, slice_get, Vec, Global, Some, false}
use Rattle.std.proofs.Common.{if◌then◌else◌, Result, Ok, Err, IfOk, refl, sym, ap, subst, add-one}
use Rattle.std.specs.declared.alloc.AllocError.{AllocError}
use Rattle.cpp_types.specs.Typ.{Typ, typ, void, int, enum, null, ptr, ref, array, func, class, closure, tx_ex}
use Rattle.cpp_types.specs.Class.{Class, Member, classes_of}
use Rattle.cpp_types.specs.Conversion.{referred}
use Rattle.cpp_types.specs.declared.classes.At.{At}
use Rattle.elab_entry.specs.cpp_tree.declared.faults.ElabFault.{ElabFault}
use Rattle.elab_entry.specs.cpp_tree.declared.arena.TNodeId.{TNodeId}
use Rattle.elab_entry.specs.cpp_tree.declared.kinds.TKind.TheVariants as forms
use Rattle.cpp_types.specs.declared.ranks.Cat.TheVariants.{Prvalue}
use Rattle.elab_entry.specs.cpp_tree.Trees.{Tree, node, Trees, one, two}
use Rattle.elab_entry.specs.cpp_tree.Arena.{tree_at, trees_at, Adds, Grows}
use Rattle.elab_entry.specs.cpp_tree.Notation.{plain}
use Rattle.elab_entry.specs.cpp_tree.Typing.{is_class_typ, qualified}
use Rattle.elab_entry.specs.elab_ctx.Ctx.{Ctx, Work, Closure, ctx_of, work_of}
use Rattle.elab_entry.specs.elab_ctx.Steps.{and_then, Made, Operand}
use Rattle.elab_entry.specs.elab_ctx.Says.{Faults, MadeAt, Makes}
use Rattle.elab_entry.proofs.elab_ctx.Looks.{at_grown, grows_refl, grows_trans}
use Rattle.elab_entry.proofs.elab_ctx.Making.{faults_in, faults_same, last_adds}
use Rattle.elab_entry.proofs.elab_init.Listing.{followed_twice, drop_step, drop_past, within_one}
use Rattle.elab_entry.specs.elab_rules.Values.{part_at, stored, valued}
use Rattle.elab_entry.specs.elab_rules.Objects.{followed_by, is_array}
use Rattle.elab_entry.specs.elab_rules.Names.{held_by, members_in, offset_at}
use Rattle.elab_entry.specs.elab_rules.Calls.{pointer_offset, base_of_class}
use Rattle.elab_entry.specs.elab_rules.Statements.{State, Done, done, joined, with_work}
use Rattle.elab_entry.specs.elab_rules.Initialising.{class_from, as_source, closure_part}
use Rattle.elab_entry.specs.elab_rules.Members.{as_base_of, member_type, pointer_stored}
use Rattle.elab_entry.specs.elab_rules.Implicit.{source_object, own_operand, part_copied, part_of_source, members_copied, base_copied, parts_copied}
use Rattle.elab_entry.specs.elab_scopes.declared.state.State.{State as StateRec}
use Rattle.elab_entry.specs.elab_scopes.States.{state_of, made}
use Rattle.elab_entry.specs.elab_scopes.Says.{OneDone, AllDone, behind}
use Rattle.elab_entry.proofs.elab_scopes.Standing.{grown_trans, grown_by}
use Rattle.elab_entry.proofs.elab_scopes.Behind.{SoFar, so_far_more, so_far_done, so_far_fault, all_one, behind_fault}
use Rattle.elab_entry.specs.Says.{Listed, Lists}
use Rattle.elab_implicit.specs.Building.{base_init, member_init}
use Rattle.elab_implicit.specs.Copying.{array_copied, part_from, member_from, member_done, base_from, first_copied}
use Rattle.elab_implicit.proofs.MemberSteps.{type_of_member}
use Rattle.elab_implicit.proofs.PartLists.{nest_made, one_ready}

-- The object that is copied

pub source_is : (n : ℕ) (t : Typ) (at : At) → held_by (referred t) t at 1 ≡ source_object n t at
source_is n (typ void c v) at = refl
source_is n (typ (int k) c v) at = refl
source_is n (typ (enum e k) c v) at = refl
source_is n (typ null c v) at = refl
source_is n (typ (ptr t) c v) at = refl
source_is n (typ (ref (typ f d w)) c v) at = refl
source_is n (typ (array t k) c v) at = refl
source_is n (typ (func f) c v) at = refl
source_is n (typ (class m) c v) at = refl
source_is n (typ (closure m) c v) at = refl
source_is n (typ (tx_ex t) c v) at = refl

pub source_listed : (a b : List Tree) (n : ℕ) (t : Typ) (at : At) (r : Result TNodeId AllocError)
    → IfOk r (λ (id : TNodeId). Adds a b id (held_by (referred t) t at 1)) → IfOk r (λ (id : TNodeId). Adds a b id (source_object n t at))
source_listed a b n t at r m = subst (λ (z : Tree). IfOk r (λ (id : TNodeId). Adds a b id z)) (source_is n t at) m

-- A part

pub array_made : (a b d : List Tree) (source init : TNodeId) (c : Ctx) (at : At) (s t : Typ) (r : Result TNodeId AllocError) → source.0 < length a
    → Adds a b init (closure_part c at (record { offset = 0; typ = t })) → s ≡ t
    → IfOk r (λ (id : TNodeId). Adds b d id (node forms.CopyFrom s Prvalue at (two (tree_at b source) (tree_at b init))))
    → IfOk r (λ (id : TNodeId). Adds a d id (array_copied c at t (tree_at a source)))
array_made a b d source init c at s t r h m e n =
    let first : tree_at b source ≡ tree_at a source = at_grown a b source m.grows h in
    last_adds a b d r _ _ m.grows (ap (λ (z : Typ). node forms.CopyFrom z Prvalue at (two (tree_at b source) (tree_at b init))) e ∙ ap
    (λ (z : Tree). node forms.CopyFrom t Prvalue at (two z (tree_at b init))) first
    ∙ ap (λ (z : Tree). node forms.CopyFrom t Prvalue at (two (tree_at a source) z)) m.is) n

pub scalar_made : (a b d : List Tree) (value : TNodeId) (at : At) (t : Typ) (e : Tree) (r : Result TNodeId AllocError) → Adds a b value (valued at e)
    → IfOk r (λ (id : TNodeId). Adds b d id (stored at t (tree_at b value))) → IfOk r (λ (id : TNodeId). Adds a d id (stored at t (valued at e)))
scalar_made a b d value at t e r m n = last_adds a b d r _ _ m.grows (ap (stored at t) m.is) n

pub part_array : (a d : List Tree) (r : TNodeId) (c : Ctx) (w : Work) (at : At) (t : Typ) (e : Tree) → is_array t ≡ true → Adds a d r (array_copied c at t e)
    → MadeAt a d w r (part_from c w at t e)
part_array a d r c w at t e h m = record {
  grows = m.grows;
  within = m.within;
  is = ap (λ (z : Bool). if z then Ok (record { tree = array_copied c at t e; work = w }) else
      (if is_class_typ t then class_from c w t at (own_operand at e) else Ok (record { tree = stored at t (valued at e); work = w }))) h
      ∙ ap (λ (z : Tree). Ok (record { tree = z; work = w })) (sym m.is);
}

pub part_class : (a d : List Tree) (v : Work) (r : Result TNodeId ElabFault) (c : Ctx) (w : Work) (at : At) (t : Typ) (e : Tree) → is_array t ≡ false
    → is_class_typ t ≡ true → Makes a d v r (class_from c w t at (own_operand at e)) → Makes a d v r (part_from c w at t e)
part_class a d v r c w at t e h k m = subst (λ (z : Result Made ElabFault). Makes a d v r z)
    (sym (ap (λ (z : Bool). if z then Ok (record { tree = array_copied c at t e; work = w }) else
    (if is_class_typ t then class_from c w t at (own_operand at e) else Ok (record { tree = stored at t (valued at e); work = w }))) h
    ∙ ap (λ (z : Bool). if z then class_from c w t at (own_operand at e) else Ok (record { tree = stored at t (valued at e); work = w })) k)) m

pub part_scalar : (a d : List Tree) (r : TNodeId) (c : Ctx) (w : Work) (at : At) (t : Typ) (e : Tree) → is_array t ≡ false → is_class_typ t ≡ false
    → Adds a d r (stored at t (valued at e)) → MadeAt a d w r (part_from c w at t e)
part_scalar a d r c w at t e h k m = record {
  grows = m.grows;
  within = m.within;
  is = ap (λ (z : Bool). if z then Ok (record { tree = array_copied c at t e; work = w }) else
      (if is_class_typ t then class_from c w t at (own_operand at e) else Ok (record { tree = stored at t (valued at e); work = w }))) h
      ∙ ap (λ (z : Bool). if z then class_from c w t at (own_operand at e) else Ok (record { tree = stored at t (valued at e); work = w })) k
      ∙ ap (λ (z : Tree). Ok (record { tree = z; work = w })) (sym m.is);
}

pub source_part : (a b d : List Tree) (source : TNodeId) (s : Tree) (c : Ctx) (n i o : ℕ) (u t : Typ) (k is_const : Bool) (at : At)
    (r : Result TNodeId AllocError) → Adds a b source s → o ≡ offset_at c.classes n i → u ≡ qualified k false t → k ≡ is_const
    → IfOk r (λ (id : TNodeId). Adds b d id (part_at o u at (tree_at b source))) → IfOk r (λ (id : TNodeId). Adds a d id (part_of_source c n at s is_const i t))
source_part a b d source s c n i o u t k is_const at r m e f g h =
    last_adds a b d r _ _ m.grows (ap (λ (z : ℕ). part_at z u at (tree_at b source)) e ∙ ap
    (λ (z : Typ). part_at (offset_at c.classes n i) z at (tree_at b source)) (f ∙ ap (λ (z : Bool). qualified z false t) g)
    ∙ ap (part_at (offset_at c.classes n i) (qualified is_const false t) at) m.is) h

pub member_made : (a b d e : List Tree) (part init r : TNodeId) (c : Ctx) (w v : Work) (at : At) (n : ℕ) (source : Tree) (k : Bool) (i : ℕ) (t : Typ)
    → Adds a b part (part_of_source c n at source k i t) → MadeAt b d v init (part_from c w at t (tree_at b part))
    → Adds d e r (member_init c at at n i t (tree_at d init)) → MadeAt a e v r (member_from c w at n source k i t)
member_made a b d e part init r c w v at n source k i t m p q = record {
  grows = grows_trans (grows_trans m.grows p.grows) q.grows;
  within = q.within;
  is = ap (λ (z : Tree). and_then (part_from c w at t z) (λ (x : Made). Ok (record { tree = member_init c at at n i t x.tree; work = x.work }))) (sym m.is)
      ∙ ap (λ (z : Result Made ElabFault). and_then z (λ (x : Made). Ok (record { tree = member_init c at at n i t x.tree; work = x.work }))) p.is
      ∙ ap (λ (z : Tree). Ok (record { tree = z; work = v })) (sym q.is);
}

pub member_refused : (a b : List Tree) (part : TNodeId) (c : Ctx) (w : Work) (at : At) (n : ℕ) (source : Tree) (k : Bool) (i : ℕ) (t : Typ) (e : ElabFault)
    → Adds a b part (part_of_source c n at source k i t) → Faults e (part_from c w at t (tree_at b part)) → Faults e (member_from c w at n source k i t)
member_refused a b part c w at n source k i t e m p =
    faults_same e _ _ (ap (λ (z : Tree). and_then (part_from c w at t z) (λ (x : Made). Ok (record { tree = member_init c at at n i t x.tree; work = x.work })))
    (sym m.is)) (faults_in (λ (z : Result Made ElabFault). and_then z (λ (x : Made). Ok (record { tree = member_init c at at n i t x.tree; work = x.work }))) e
    (part_from c w at t (tree_at b part)) (λ d. refl) p)

-- The base

pub class_same : (a b : List Tree) (v : Work) (r : Result TNodeId ElabFault) (c d : Ctx) (w : Work) (t u : Typ) (at : At) (o : Operand) → d ≡ c → u ≡ t
    → Makes a b v r (class_from d w u at o) → Makes a b v r (class_from c w t at o)
class_same a b v r c d w t u at o e f m = subst (λ (z : Typ). Makes a b v r (class_from c w z at o)) f
    (subst (λ (z : Ctx). Makes a b v r (class_from z w u at o)) e m)

pub base_made : (a b d e : List Tree) (from init r : TNodeId) (c mid : Ctx) (w v : Work) (at : At) (n k : ℕ) (source : Tree) → Adds a b from source
    → MadeAt b d v init (class_from (as_base_of c k) w (plain (class k)) at (own_operand at (tree_at b from))) → mid ≡ c
    → Adds d e r (base_init mid at at n k (tree_at d init)) → MadeAt a e v r (base_from c w at n k source)
base_made a b d e from init r c mid w v at n k source m p f q = record {
  grows = grows_trans (grows_trans m.grows p.grows) q.grows;
  within = q.within;
  is = ap (λ (z : Tree). and_then (class_from (as_base_of c k) w (plain (class k)) at (own_operand at z))
      (λ (x : Made). Ok (record { tree = base_init c at at n k x.tree; work = x.work }))) (sym m.is)
      ∙ ap (λ (z : Result Made ElabFault). and_then z (λ (x : Made). Ok (record { tree = base_init c at at n k x.tree; work = x.work }))) p.is
      ∙ ap (λ (z : Ctx). Ok (record { tree = base_init z at at n k (tree_at d init); work = v })) (sym f)
      ∙ ap (λ (z : Tree). Ok (record { tree = z; work = v })) (sym q.is);
}

pub base_failed : (a b : List Tree) (from : TNodeId) (c : Ctx) (w : Work) (at : At) (n k : ℕ) (source : Tree) (e : ElabFault) → Adds a b from source
    → Faults e (class_from (as_base_of c k) w (plain (class k)) at (own_operand at (tree_at b from))) → Faults e (base_from c w at n k source)
base_failed a b from c w at n k source e m p = faults_same e _ _
    (ap (λ (z : Tree). and_then (class_from (as_base_of c k) w (plain (class k)) at (own_operand at z))
    (λ (x : Made). Ok (record { tree = base_init c at at n k x.tree; work = x.work }))) (sym m.is))
    (faults_in (λ (z : Result Made ElabFault). and_then z (λ (x : Made). Ok (record { tree = base_init c at at n k x.tree; work = x.work }))) e
    (class_from (as_base_of c k) w (plain (class k)) at (own_operand at (tree_at b from))) (λ d. refl) p)

-- no lambdas are known
pub cleared_is : (st : State) (d : Ctx) (w : Work) (cs : List Closure) → d ≡ st.ctx → cs ≡ []
    → record { ctx = record d { closures = cs }; work = w; bodies = st.bodies } ≡ with_work st w
cleared_is st d w cs e f = ap (λ (z : List Closure). record { ctx = record d { closures = z }; work = w; bodies = st.bodies }) f
    ∙ ap (λ (z : Ctx). record { ctx = record z { closures = [] }; work = w; bodies = st.bodies }) e

pub same_nodes : (old new : List Tree) → new ≡ old → Grows old new
same_nodes old new e = subst (λ (z : List Tree). Grows old z) (sym e) (grows_refl old)

-- behind the slot of the source
pub lists_same : (a b d : StateRec) (r : Result (Vec TNodeId Global) ElabFault) (x y : Result Done ElabFault) → Grows (made a) (made b)
    → (ctx_of b.env).labels ≡ (ctx_of a.env).labels → y ≡ x → Lists b d r x → Lists a d r y
lists_same a b d (Ok v) x y g l e m = record { grown = grown_trans a b d (grown_by a b g l) m.grown; within = m.within; is = e ∙ m.is }
lists_same a b d (Err f) x y g l e m = faults_same f x y e m

-- A member, and the state behind it

pub member_is_done : (st : State) (at : At) (n : ℕ) (source : Tree) (c : Bool) (i : ℕ) (t : Typ)
    → member_done st at n source c i t ≡ and_then (member_from st.ctx st.work at n source c i t) (λ (m : Made). done (one m.tree) (with_work st m.work))
member_is_done st at n source c i t = sym (nest_made (part_copied st at t (part_of_source st.ctx n at source c i t)) (member_init st.ctx at at n i t)
    (λ (m : Made). done (one m.tree) (with_work st m.work)))

pub member_listed : (a c : StateRec) (at : At) (n : ℕ) (source : Tree) (k : Bool) (i : ℕ) (t : Typ) (r : TNodeId) (w : Work)
    → MadeAt (made a) (made c) w r (member_from (ctx_of a.env) (work_of a.work) at n source k i t) → state_of c ≡ with_work (state_of a) w
    → OneDone a c r (member_done (state_of a) at n source k i t)
member_listed a c at n source k i t r w m s = subst (λ (z : Result Done ElabFault). OneDone a c r z) (sym (member_is_done (state_of a) at n source k i t))
    (one_ready a c r w (member_from (ctx_of a.env) (work_of a.work) at n source k i t) m s)

pub member_faults : (st : State) (at : At) (n : ℕ) (source : Tree) (k : Bool) (i : ℕ) (t : Typ) (e : ElabFault)
    → Faults e (member_from st.ctx st.work at n source k i t) → Faults e (member_done st at n source k i t)
member_faults st at n source k i t e m = faults_same e _ _ (member_is_done st at n source k i t)
    (faults_in (λ (z : Result Made ElabFault). and_then z (λ (x : Made). done (one x.tree) (with_work st x.work))) e
    (member_from st.ctx st.work at n source k i t) (λ d. refl) m)

-- Steps of the loop over members

nest_done : (x : Result Made ElabFault) (st : State) (f : Tree → Tree) (k : Done → Result Done ElabFault)
    → and_then (and_then x (λ (m : Made). done (one (f m.tree)) (with_work st m.work))) k
    ≡ and_then x (λ (m : Made). k (record { trees = one (f m.tree); state = with_work st m.work }))
nest_done (Ok m) st f k = refl
nest_done (Err e) st f k = refl

pub members_first : (at : At) (n : ℕ) (source : Tree) (c : Bool) (st : State) (i : ℕ) (ms : List Member) → i < length ms
    → members_copied at n source c st i (drop i ms) ≡ and_then (member_done st at n source c i (member_type (slice_get ms i)))
    (λ (x : Done). and_then (members_copied at n source c x.state (i + 1) (drop (i + 1) ms)) (λ (y : Done). Ok (joined x y)))
members_first at n source c st i ms h =
    let d : Member = record { name = []; typ = member_type (slice_get ms i) } in
    let m : Member = get_or ms i d in
    ap (members_copied at n source c st i) (drop_step ms i d h)
    ∙ sym (nest_done (part_copied st at m.typ (part_of_source st.ctx n at source c i m.typ)) st (member_init st.ctx at at n i m.typ)
    (λ (x : Done). and_then (members_copied at n source c x.state (suc i) (drop (i + 1) ms)) (λ (y : Done). Ok (joined x y))))
    ∙ ap (λ (z : Typ). and_then (member_done st at n source c i z)
    (λ (x : Done). and_then (members_copied at n source c x.state (suc i) (drop (i + 1) ms)) (λ (y : Done). Ok (joined x y)))) (type_of_member ms i d h)
    ∙ ap (λ (k : ℕ). and_then (member_done st at n source c i (member_type (slice_get ms i)))
    (λ (x : Done). and_then (members_copied at n source c x.state k (drop (i + 1) ms)) (λ (y : Done). Ok (joined x y)))) (sym (add-one i))

abbrev pub copied_at : StateRec → At → ℕ → Tree → Bool → ℕ → Result Done ElabFault
copied_at b at n source c i = member_done (state_of b) at n source c i (member_type (slice_get (members_in (slice_get (classes_of b.env.classes.items) n)) i))

copied_same : (a b : StateRec) (at : At) (n : ℕ) (source : Tree) (c : Bool) (i : ℕ) (ms : List Member)
    → classes_of b.env.classes.items ≡ classes_of a.env.classes.items → ms ≡ members_in (slice_get (classes_of a.env.classes.items) n)
    → member_done (state_of b) at n source c i (member_type (slice_get ms i)) ≡ copied_at b at n source c i
copied_same a b at n source c i ms k l = ap (λ (z : List Member). member_done (state_of b) at n source c i (member_type (slice_get z i))) l
    ∙ ap (λ (z : List Class). member_done (state_of b) at n source c i (member_type (slice_get (members_in (slice_get z n)) i))) (sym k)

pub member_more : (a b d : StateRec) (at : At) (n : ℕ) (source : Tree) (c : Bool) (i : ℕ) (ms : List Member) (before now next : List TNodeId) (r : TNodeId)
    (x : Result Done ElabFault) → SoFar a b before now (members_copied at n source c (state_of b) i (drop i ms)) x
    → classes_of b.env.classes.items ≡ classes_of a.env.classes.items → ms ≡ members_in (slice_get (classes_of a.env.classes.items) n) → i < length ms
    → OneDone b d r (copied_at b at n source c i) → next ≡ now ++ r ∷ []
    → SoFar a d before next (members_copied at n source c (state_of d) (i + 1) (drop (i + 1) ms)) x
member_more a b d at n source c i ms before now next r x m k l j o e =
    let y : Result Done ElabFault = member_done (state_of b) at n source c i (member_type (slice_get ms i)) in
    let one : OneDone b d r y = subst (λ (z : Result Done ElabFault). OneDone b d r z) (sym (copied_same a b at n source c i ms k l)) o in
    so_far_more a b d before now next _ x y (λ (s : State). members_copied at n source c s (i + 1) (drop (i + 1) ms)) m
    (members_first at n source c (state_of b) i ms j) (all_one b d now next r y m.within one e)

pub member_fails : (a b : StateRec) (at : At) (n : ℕ) (source : Tree) (c : Bool) (i : ℕ) (ms : List Member) (before now : List TNodeId)
    (x : Result Done ElabFault) (e : ElabFault) → SoFar a b before now (members_copied at n source c (state_of b) i (drop i ms)) x
    → classes_of b.env.classes.items ≡ classes_of a.env.classes.items → ms ≡ members_in (slice_get (classes_of a.env.classes.items) n) → i < length ms
    → Faults e (copied_at b at n source c i) → Faults e x
member_fails a b at n source c i ms before now x e m k l j o =
    let y : Result Done ElabFault = member_done (state_of b) at n source c i (member_type (slice_get ms i)) in
    so_far_fault a b before now _ x y _ e m (members_first at n source c (state_of b) i ms j)
    (faults_same e (copied_at b at n source c i) y (copied_same a b at n source c i ms k l) o)

pub members_done : (a b : StateRec) (at : At) (n : ℕ) (source : Tree) (c : Bool) (i : ℕ) (ms : List Member) (before now : List TNodeId)
    (x : Result Done ElabFault) → SoFar a b before now (members_copied at n source c (state_of b) i (drop i ms)) x → length ms ≤ i → AllDone a b before now x
members_done a b at n source c i ms before now x m h = so_far_done a b before now _ x m (ap (members_copied at n source c (state_of b) i) (drop_past ms i h))

-- The base, and the state behind it

base_is : (st : State) (at : At) (n b : ℕ) (source : Tree)
    → base_copied st at n source (Some b) ≡ and_then (base_from st.ctx st.work at n b (as_source at b source))
    (λ (m : Made). done (one m.tree) (with_work st m.work))
base_is st at n b source = sym (nest_made (class_from (as_base_of st.ctx b) st.work (plain (class b)) at (own_operand at (as_source at b source)))
    (base_init st.ctx at at n b)
    (λ (m : Made). done (one m.tree) (with_work st m.work)))

pub base_listed : (a c : StateRec) (at : At) (n b : ℕ) (source : Tree) (r : TNodeId) (w : Work) (ids : List TNodeId)
    → MadeAt (made a) (made c) w r (base_from (ctx_of a.env) (work_of a.work) at n b (as_source at b source)) → state_of c ≡ with_work (state_of a) w → ids ≡ r ∷ []
    → Listed a c ids (base_copied (state_of a) at n source (Some b))
base_listed a c at n b source r w ids m s e =
    let one : OneDone a c r (and_then (base_from (ctx_of a.env) (work_of a.work) at n b (as_source at b source))
    (λ (k : Made). done (one k.tree) (with_work (state_of a) k.work))) = one_ready a c r w (base_from (ctx_of a.env) (work_of a.work) at n b (as_source at b source)) m s in
    record {
      grown = one.grown;
      within = rw e (within_one (length (made c)) r one.within);
      is = base_is (state_of a) at n b source ∙ one.is ∙ ap (λ (z : List TNodeId). done (trees_at (made c) z) (state_of c)) (sym e);
    }

pub base_refused : (a : StateRec) (at : At) (n b : ℕ) (source : Tree) (e : ElabFault) → Faults e (base_from (ctx_of a.env) (work_of a.work) at n b (as_source at b source))
    → Faults e (base_copied (state_of a) at n source (Some b))
base_refused a at n b source e m = faults_same e _ _ (base_is (state_of a) at n b source)
    (faults_in (λ (z : Result Made ElabFault). and_then z (λ (k : Made). done (one k.tree) (with_work (state_of a) k.work))) e
    (base_from (ctx_of a.env) (work_of a.work) at n b (as_source at b source)) (λ d. refl) m)

-- The base, the class pointer, then the members

behind_both : (ts p : Trees) (y : Result Done ElabFault)
    → and_then y (λ (d : Done). Ok (record { trees = followed_by ts (followed_by p d.trees); state = d.state })) ≡ behind (followed_by ts p) y
behind_both ts p (Ok d) = ap (λ (z : Trees). done z d.state) (sym (followed_twice ts p d.trees))
behind_both ts p (Err e) = refl

then_copied : (x : Result Done ElabFault) (p : Trees) (f : State → Result Done ElabFault)
    → and_then x (λ (b : Done). and_then (f b.state) (λ (d : Done). Ok (record { trees = followed_by b.trees (followed_by p d.trees); state = d.state })))
    ≡ and_then (and_then x (λ (b : Done). done (followed_by b.trees p) b.state)) (λ (b : Done). behind b.trees (f b.state))
then_copied (Ok b) p f = behind_both b.trees p (f b.state)
then_copied (Err e) p f = refl

parts_steps : (st : State) (at : At) (n : ℕ) (source : Tree) (c : Bool)
    → parts_copied st at n source c ≡ and_then (first_copied st at n source)
    (λ (b : Done). behind b.trees (members_copied at n source c b.state 0 (members_in (slice_get st.ctx.classes n))))
parts_steps st at n source c = then_copied (base_copied st at n source (base_of_class (slice_get st.ctx.classes n)))
    (pointer_stored at n (pointer_offset st.ctx.classes n)) (λ (s : State). members_copied at n source c s 0 (members_in (slice_get st.ctx.classes n)))

abbrev pub all_copied : At → ℕ → Tree → Bool → StateRec → Result Done ElabFault
all_copied at n source c b = members_copied at n source c (state_of b) 0 (members_in (slice_get (classes_of b.env.classes.items) n))

after_first : (a b : StateRec) (at : At) (n : ℕ) (source : Tree) (c : Bool) (ids : List TNodeId) → Listed a b ids (first_copied (state_of a) at n source)
    → classes_of b.env.classes.items ≡ classes_of a.env.classes.items
    → parts_copied (state_of a) at n source c ≡ behind (trees_at (made b) ids) (all_copied at n source c b)
after_first a b at n source c ids m k =
    parts_steps (state_of a) at n source c
    ∙ ap (λ (z : Result Done ElabFault). and_then z (λ (d : Done). behind d.trees
    (members_copied at n source c d.state 0 (members_in (slice_get (classes_of a.env.classes.items) n))))) m.is
    ∙ ap (λ (z : List Class). behind (trees_at (made b) ids) (members_copied at n source c (state_of b) 0 (members_in (slice_get z n)))) (sym k)

pub parts_done : (a b d : StateRec) (at : At) (n : ℕ) (source : Tree) (c : Bool) (ids next : List TNodeId)
    → Listed a b ids (first_copied (state_of a) at n source) → classes_of b.env.classes.items ≡ classes_of a.env.classes.items
    → AllDone b d ids next (all_copied at n source c b) → Listed a d next (parts_copied (state_of a) at n source c)
parts_done a b d at n source c ids next m k all = record {
  grown = grown_trans a b d m.grown all.grown;
  within = all.within;
  is = after_first a b at n source c ids m k ∙ all.is;
}

pub parts_refused : (a : StateRec) (at : At) (n : ℕ) (source : Tree) (c : Bool) (e : ElabFault) → Faults e (first_copied (state_of a) at n source)
    → Faults e (parts_copied (state_of a) at n source c)
parts_refused a at n source c e m = faults_same e _ _ (parts_steps (state_of a) at n source c)
    (faults_in (λ (z : Result Done ElabFault). and_then z
    (λ (b : Done). behind b.trees (members_copied at n source c b.state 0 (members_in (slice_get (state_of a).ctx.classes n))))) e
    (first_copied (state_of a) at n source) (λ d. refl) m)

pub parts_fail : (a b : StateRec) (at : At) (n : ℕ) (source : Tree) (c : Bool) (ids : List TNodeId) (e : ElabFault)
    → Listed a b ids (first_copied (state_of a) at n source) → classes_of b.env.classes.items ≡ classes_of a.env.classes.items
    → Faults e (all_copied at n source c b) → Faults e (parts_copied (state_of a) at n source c)
parts_fail a b at n source c ids e m k all = faults_same e _ _ (after_first a b at n source c ids m k) (behind_fault (trees_at (made b) ids) e _ all)
