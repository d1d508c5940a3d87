-- Parts of an object, one after the other, with the state behind them.
use Rattle.std.proofs.Common.{◌≡◌, ◌<◌, ◌≤◌, ◌+◌, ◌∙◌, ℕ, suc, Bool, true, false, ◌==◌, ◌&&◌, if◌then◌else◌, List, [], ◌∷◌, ◌++◌, length, drop, slice_get, map}
use Rattle.std.proofs.Common.{Option, Some, None, option_map, Vec, Global, Result, Ok, Err, IfOk, refl, sym, ap, subst, add-one}
use Rattle.std.proofs.lemmas.Bool.{and_parts, eqb-true}
use Rattle.std.specs.declared.alloc.AllocError.{AllocError}
use Rattle.cpp_types.specs.Typ.{Typ, class}
use Rattle.cpp_types.specs.Class.{Class, Member, classes_of}
use Rattle.cpp_types.specs.declared.classes.At.{At}
use Rattle.elab_entry.specs.cpp_tree.declared.faults.ElabFault.{ElabFault}
use Rattle.elab_entry.specs.cpp_tree.declared.arena.TNodeId.{TNodeId}
use Rattle.elab_entry.specs.cpp_tree.Trees.{Tree, Trees, none, one}
use Rattle.elab_entry.specs.cpp_tree.Arena.{tree_at, trees_at, Adds, Grows}
use Rattle.elab_entry.specs.cpp_tree.Notation.{plain}
use Rattle.elab_entry.specs.elab_ctx.Ctx.{Ctx, Work, Default, ctx_of, work_of}
use Rattle.elab_entry.specs.elab_ctx.Steps.{and_then, Made}
use Rattle.elab_entry.specs.elab_ctx.Says.{Faults, Given as GivenTree, Gives, AddsAll, MadeAt}
use Rattle.elab_entry.proofs.elab_ctx.Looks.{grows_refl, grows_trans}
use Rattle.elab_entry.proofs.elab_ctx.Making.{faults_in, faults_same}
use Rattle.elab_entry.proofs.elab_init.Listing.{adds_more, followed_twice, drop_step, drop_past, trees_append, trees_grown, all_within_grown, within_both}
use Rattle.elab_entry.proofs.elab_init.Listing.{within_one}
use Rattle.elab_entry.specs.elab_rules.Objects.{followed_by}
use Rattle.elab_entry.specs.elab_rules.Names.{this_pointer, members_in}
use Rattle.elab_entry.specs.elab_rules.Calls.{pointer_offset, base_of_class}
use Rattle.elab_entry.specs.elab_rules.Braces.{default_at, default_whole}
use Rattle.elab_entry.specs.elab_rules.Statements.{State, Done, done, joined, with_work, default_object}
use Rattle.elab_entry.specs.elab_rules.Members.{Given, as_base_of, own_this, given_for, member_type, default_built, base_built, member_built, members_built}
use Rattle.elab_entry.specs.elab_rules.Members.{parts_built, pointer_stored}
use Rattle.elab_entry.specs.elab_scopes.declared.state.State.{State as StateRec}
use Rattle.elab_entry.specs.elab_scopes.States.{state_of, made}
use Rattle.elab_entry.specs.elab_scopes.Says.{OneDone, AllDone, DoesAll, behind}
use Rattle.elab_entry.proofs.elab_scopes.Standing.{grown_trans, grown_by}
use Rattle.elab_entry.proofs.elab_scopes.Behind.{SoFar, so_far_more, so_far_done, so_far_fault, all_one, behind_fault}
use Rattle.elab_entry.specs.Says.{Listed, Lists}
use Rattle.elab_implicit.specs.declared.given.Given.{Given as GivenRec}
use Rattle.elab_implicit.specs.Says.{AllGiven}
use Rattle.elab_implicit.specs.Written.{given_in, found_for, are_there}
use Rattle.elab_implicit.specs.Building.{base_init, base_default, base_trees, first_trees, default_tree, member_default, member_init}
use Rattle.elab_implicit.proofs.GivenParts.{given_is, given_grown, found_is}
use Rattle.elab_implicit.proofs.MemberSteps.{type_of_member}

-- Lists of what was made

pub one_given : (a b : List Tree) (r : TNodeId) (ids : List TNodeId) (x : Result Tree ElabFault) → GivenTree a b r x → ids ≡ r ∷ []
    → AllGiven a b ids (and_then x (λ (t : Tree). Ok (one t)))
one_given a b r ids x m e = record {
  grows = m.grows;
  within = rw e (within_one (length b) r m.within);
  is = ap (λ (z : Result Tree ElabFault). and_then z (λ (t : Tree). Ok (one t))) m.is ∙ ap (λ (z : List TNodeId). Ok (trees_at b z)) (sym e);
}

pub none_given : (a : List Tree) (ids : List TNodeId) → ids ≡ [] → AllGiven a a ids (Ok none)
none_given a ids e = record { grows = grows_refl a; within = rw e refl; is = rw e refl }

pub given_more : (a b c : List Tree) (ids others next : List TNodeId) (ts : Trees) (x : Result Trees ElabFault) → AllGiven a b ids x → AddsAll b c others ts
    → next ≡ ids ++ others → AllGiven a c next (and_then x (λ (us : Trees). Ok (followed_by us ts)))
given_more a b c ids others next ts x m n e =
    let all : AddsAll a c next (followed_by (trees_at b ids) ts) =
    adds_more a b c ids others next (trees_at b ids) ts (record { grows = m.grows; within = m.within; are = refl }) n e in
    record {
      grows = all.grows;
      within = all.within;
      is = ap (λ (z : Result Trees ElabFault). and_then z (λ (us : Trees). Ok (followed_by us ts))) m.is ∙ ap (λ (z : Trees). Ok z) (sym all.are);
    }

pub listed_more : (a b c : StateRec) (ids others next : List TNodeId) (ts : Trees) (x : Result Done ElabFault) → Listed a b ids x
    → AddsAll (made b) (made c) others ts → next ≡ ids ++ others → state_of c ≡ state_of b
    → Listed a c next (and_then x (λ (d : Done). done (followed_by d.trees ts) d.state))
listed_more a b c ids others next ts x m n e s =
    let before : trees_at (made c) ids ≡ trees_at (made b) ids = trees_grown (made b) (made c) ids n.grows m.within in
    let all : trees_at (made c) next ≡ followed_by (trees_at (made b) ids) ts = ap (trees_at (made c)) e ∙ trees_append (made c) ids others
    ∙ ap (λ (z : Trees). followed_by z (trees_at (made c) others)) before ∙ ap (followed_by (trees_at (made b) ids)) n.are in
    record {
      grown = grown_trans a b c m.grown (grown_by b c n.grows (ap (λ (z : State). z.ctx.labels) s));
      within = rw e (within_both (length (made c)) ids others (all_within_grown (made b) (made c) ids n.grows m.within) n.within);
      is = ap (λ (z : Result Done ElabFault). and_then z (λ (d : Done). done (followed_by d.trees ts) d.state)) m.is
          ∙ ap (λ (z : Trees). done z (state_of b)) (sym all) ∙ ap (done (trees_at (made c) next)) (sym s);
    }

pub more_same : (b c : List Tree) (others : List TNodeId) (at : At) (n : ℕ) (d e : List Class) → d ≡ e
    → AddsAll b c others (pointer_stored at n (pointer_offset d n)) → AddsAll b c others (pointer_stored at n (pointer_offset e n))
more_same b c others at n d e h m = subst (λ (z : List Class). AddsAll b c others (pointer_stored at n (pointer_offset z n))) h m

-- The base from nothing, or as it is written

pub nothing_same : (a b : List Tree) (r : Result TNodeId ElabFault) (c d : Ctx) (t u : Typ) (at : At) → d ≡ c → u ≡ t → Gives a b r (default_object d u at)
    → Gives a b r (default_object c t at)
nothing_same a b r c d t u at e f m = subst (λ (z : Typ). Gives a b r (default_object c z at)) f (subst (λ (z : Ctx). Gives a b r (default_object z u at)) e m)

pub default_given : (a b d : List Tree) (i r : TNodeId) (c e : Ctx) (at : At) (n k : ℕ) → GivenTree a b i (default_object (as_base_of c k) (plain (class k)) at)
    → e ≡ c → Adds b d r (base_init e at at n k (tree_at b i)) → GivenTree a d r (base_default c at n k)
default_given a b d i r c e at n k m f o = record {
  grows = grows_trans m.grows o.grows;
  within = o.within;
  is = ap (λ (z : Result Tree ElabFault). and_then z (λ (x : Tree). Ok (base_init c at at n k x))) m.is
      ∙ ap (λ (z : Ctx). Ok (base_init z at at n k (tree_at b i))) (sym f) ∙ ap (λ (z : Tree). Ok z) (sym o.is);
}

pub tree_given : (a d : List Tree) (r : TNodeId) (t : Tree) (x : Result Tree ElabFault) → Adds a d r t → x ≡ Ok t → GivenTree a d r x
tree_given a d r t x m e = record { grows = m.grows; within = m.within; is = e ∙ ap (λ (z : Tree). Ok z) (sym m.is) }

-- The state behind one part

pub one_ready : (a c : StateRec) (r : TNodeId) (w : Work) (x : Result Made ElabFault) → MadeAt (made a) (made c) w r x → state_of c ≡ with_work (state_of a) w
    → OneDone a c r (and_then x (λ (m : Made). done (one m.tree) (with_work (state_of a) m.work)))
one_ready a c r w x m s = record {
  grown = grown_by a c m.grows (ap (λ (z : State). z.ctx.labels) s);
  within = m.within;
  is = ap (λ (z : Result Made ElabFault). and_then z (λ (k : Made). done (one k.tree) (with_work (state_of a) k.work))) m.is
      ∙ ap (done (one (tree_at (made c) r))) (sym s);
}

pub nest_made : (x : Result Made ElabFault) (f : Tree → Tree) (k : Made → Result Done ElabFault)
    → and_then (and_then x (λ (m : Made). Ok (record { tree = f m.tree; work = m.work }))) k
    ≡ and_then x (λ (m : Made). k (record { tree = f m.tree; work = m.work }))
nest_made (Ok m) f k = refl
nest_made (Err e) f k = refl

-- Members by their own initialisers

class_head : (n : ℕ) (b : Bool) (x d : Default) (o : Option Default) → (b ≡ true → x.class ≡ n) → (o ≡ Some d → d.class ≡ n)
    → (if b then Some x else o) ≡ Some d → d.class ≡ n
class_head n true x d o f g h =
    let is : x ≡ d = cc in
    ap (λ (z : Default). z.class) (sym is) ∙ f refl
class_head n false x d o f g h = g h

class_found : (n i : ℕ) (ds : List Default) (d : Default) → default_at n i ds ≡ Some d → d.class ≡ n
class_found n i [] d h = absurd cc
class_found n i (x ∷ ds) d h = class_head n (x.class == n && x.member == i) x d (default_at n i ds)
    (λ e. eqb-true x.class n ((and_parts (x.class == n) (x.member == i) e).0)) (λ e. class_found n i ds d e) h

default_same : (st : State) (at : At) (n : ℕ) (t : Typ) (o : Option Default) → ((d : Default) → o ≡ Some d → d.class ≡ n)
    → default_built st at t o ≡ default_tree st.ctx st.work at n t o
default_same st at n t (Some d) f = ap (λ (z : ℕ). Ok (default_whole st.work (λ p. this_pointer p (own_this z)) d)) (f d refl)
default_same st at n t None f = refl

pub member_from_default : (st : State) (at : At) (n i : ℕ) (t : Typ)
    → member_built st at n i t None ≡ and_then (member_default st.ctx st.work at n i t) (λ (m : Made). done (one m.tree) (with_work st m.work))
member_from_default st at n i t =
    ap (λ (z : Result Made ElabFault). and_then z (λ (m : Made). done (one (member_init st.ctx at at n i t m.tree)) (with_work st m.work)))
    (default_same st at n t (default_at n i st.ctx.defaults) (class_found n i st.ctx.defaults))
    ∙ sym (nest_made (default_tree st.ctx st.work at n t (default_at n i st.ctx.defaults)) (member_init st.ctx at at n i t)
    (λ (m : Made). done (one m.tree) (with_work st m.work)))

pub default_is_done : (a c : StateRec) (at : At) (n i : ℕ) (t : Typ) (r : TNodeId) (w : Work)
    → MadeAt (made a) (made c) w r (member_default (ctx_of a.env) (work_of a.work) at n i t) → state_of c ≡ with_work (state_of a) w
    → OneDone a c r (member_built (state_of a) at n i t None)
default_is_done a c at n i t r w m s = subst (λ (z : Result Done ElabFault). OneDone a c r z) (sym (member_from_default (state_of a) at n i t))
    (one_ready a c r w (member_default (ctx_of a.env) (work_of a.work) at n i t) m s)

pub default_refused : (st : State) (at : At) (n i : ℕ) (t : Typ) (e : ElabFault) → Faults e (member_default st.ctx st.work at n i t)
    → Faults e (member_built st at n i t None)
default_refused st at n i t e m = faults_same e _ _ (member_from_default st at n i t)
    (faults_in (λ (z : Result Made ElabFault). and_then z (λ (k : Made). done (one k.tree) (with_work st k.work))) e (member_default st.ctx st.work at n i t)
    (λ d. refl) m)

pub given_is_done : (a c : StateRec) (r : Result TNodeId AllocError) (t : Tree) (x : Result Done ElabFault)
    → IfOk r (λ (id : TNodeId). Adds (made a) (made c) id t) → x ≡ done (one t) (state_of a) → state_of c ≡ state_of a
    → IfOk r (λ (id : TNodeId). OneDone a c id x)
given_is_done a c (Ok r) t x m e s = record {
  grown = grown_by a c m.grows (ap (λ (z : State). z.ctx.labels) s);
  within = m.within;
  is = e ∙ ap (λ (z : Tree). done (one z) (state_of a)) (sym m.is) ∙ ap (done (one (tree_at (made c) r))) (sym s);
}
given_is_done a c (Err y) t x m e s = tt

pub does_all_fail : (a c : StateRec) (before after : List TNodeId) (r : Result (Unit {0}) ElabFault) (e : ElabFault) (x : Result Done ElabFault) → r ≡ Err e
    → Faults e x → DoesAll a c before after r x
does_all_fail a c before after r e x h m = subst (λ (z : Result (Unit {0}) ElabFault). DoesAll a c before after z x) (sym h) m

pub lists_fail : (a c : StateRec) (r : Result (Vec TNodeId Global) ElabFault) (e : ElabFault) (x : Result Done ElabFault) → r ≡ Err e → Faults e x
    → Lists a c r x
lists_fail a c r e x h m = subst (λ (z : Result (Vec TNodeId Global) ElabFault). Lists a c z x) (sym h) m

-- Steps of the loop over members

pub members_first : (at : At) (n : ℕ) (gs : List Given) (st : State) (i : ℕ) (ms : List Member) → i < length ms
    → members_built at n gs st i (drop i ms) ≡ and_then (member_built st at n i (member_type (slice_get ms i)) (given_for (Some i) gs))
    (λ (x : Done). and_then (members_built at n gs x.state (i + 1) (drop (i + 1) ms)) (λ (y : Done). Ok (joined x y)))
members_first at n gs st i ms h =
    let d : Member = record { name = []; typ = member_type (slice_get ms i) } in
    ap (members_built at n gs st i) (drop_step ms i d h)
    ∙ ap (λ (z : Typ). and_then (member_built st at n i z (given_for (Some i) gs))
    (λ (x : Done). and_then (members_built at n gs x.state (suc i) (drop (i + 1) ms)) (λ (y : Done). Ok (joined x y)))) (type_of_member ms i d h)
    ∙ ap (λ (k : ℕ). and_then (member_built st at n i (member_type (slice_get ms i)) (given_for (Some i) gs))
    (λ (x : Done). and_then (members_built at n gs x.state k (drop (i + 1) ms)) (λ (y : Done). Ok (joined x y)))) (sym (add-one i))

-- a member of the class, where the record of the class stays
abbrev pub built_at : StateRec → At → ℕ → ℕ → Option Given → Result Done ElabFault
built_at b at n i g = member_built (state_of b) at n i (member_type (slice_get (members_in (slice_get (classes_of b.env.classes.items) n)) i)) g

built_same : (a b : StateRec) (at : At) (n i : ℕ) (given : List GivenRec) (found : Option GivenRec)
    → classes_of b.env.classes.items ≡ classes_of a.env.classes.items → Grows (made a) (made b) → are_there (length (made a)) given ≡ true
    → found ≡ found_for (Some i) given → member_built (state_of b) at n i
    (member_type (slice_get (members_in (slice_get (classes_of a.env.classes.items) n)) i)) (given_for (Some i) (map (given_in (made a)) given))
    ≡ built_at b at n i (option_map (given_in (made b)) found)
built_same a b at n i given found k g h f = ap (λ (z : List Class). member_built (state_of b) at n i (member_type (slice_get (members_in (slice_get z n)) i))
    (given_for (Some i) (map (given_in (made a)) given))) (sym k)
    ∙ ap (λ (z : Option Given). built_at b at n i z) (sym (found_is (made a) (made b) (Some i) given found g h f))

pub member_more : (a b c : StateRec) (at : At) (n i : ℕ) (ms : List Member) (given : List GivenRec) (found : Option GivenRec) (before now next : List TNodeId)
    (r : TNodeId) (x : Result Done ElabFault) → SoFar a b before now (members_built at n (map (given_in (made a)) given) (state_of b) i (drop i ms)) x
    → classes_of b.env.classes.items ≡ classes_of a.env.classes.items → ms ≡ members_in (slice_get (classes_of a.env.classes.items) n)
    → are_there (length (made a)) given ≡ true → i < length ms → found ≡ found_for (Some i) given
    → OneDone b c r (built_at b at n i (option_map (given_in (made b)) found)) → next ≡ now ++ r ∷ []
    → SoFar a c before next (members_built at n (map (given_in (made a)) given) (state_of c) (i + 1) (drop (i + 1) ms)) x
member_more a b c at n i ms given found before now next r x m k l h j f o e =
    let gs : List Given = map (given_in (made a)) given in
    let y : Result Done ElabFault = member_built (state_of b) at n i (member_type (slice_get ms i)) (given_for (Some i) gs) in
    let same : y ≡ built_at b at n i (option_map (given_in (made b)) found) =
    ap (λ (z : List Member). member_built (state_of b) at n i (member_type (slice_get z i)) (given_for (Some i) gs)) l
    ∙ built_same a b at n i given found k m.grown.trees h f in
    let one : OneDone b c r y = subst (λ (z : Result Done ElabFault). OneDone b c r z) (sym same) o in
    so_far_more a b c before now next _ x y (λ (s : State). members_built at n gs s (i + 1) (drop (i + 1) ms)) m (members_first at n gs (state_of b) i ms j)
    (all_one b c now next r y m.within one e)

pub member_fails : (a b : StateRec) (at : At) (n i : ℕ) (ms : List Member) (given : List GivenRec) (found : Option GivenRec) (before now : List TNodeId)
    (x : Result Done ElabFault) (e : ElabFault) → SoFar a b before now (members_built at n (map (given_in (made a)) given) (state_of b) i (drop i ms)) x
    → classes_of b.env.classes.items ≡ classes_of a.env.classes.items → ms ≡ members_in (slice_get (classes_of a.env.classes.items) n)
    → are_there (length (made a)) given ≡ true → i < length ms → found ≡ found_for (Some i) given
    → Faults e (built_at b at n i (option_map (given_in (made b)) found)) → Faults e x
member_fails a b at n i ms given found before now x e m k l h j f o =
    let gs : List Given = map (given_in (made a)) given in
    let y : Result Done ElabFault = member_built (state_of b) at n i (member_type (slice_get ms i)) (given_for (Some i) gs) in
    let same : y ≡ built_at b at n i (option_map (given_in (made b)) found) =
    ap (λ (z : List Member). member_built (state_of b) at n i (member_type (slice_get z i)) (given_for (Some i) gs)) l
    ∙ built_same a b at n i given found k m.grown.trees h f in
    so_far_fault a b before now _ x y _ e m (members_first at n gs (state_of b) i ms j)
    (faults_same e (built_at b at n i (option_map (given_in (made b)) found)) y same o)

pub members_done : (a b : StateRec) (at : At) (n i : ℕ) (ms : List Member) (gs : List Given) (before now : List TNodeId) (x : Result Done ElabFault)
    → SoFar a b before now (members_built at n gs (state_of b) i (drop i ms)) x → length ms ≤ i → AllDone a b before now x
members_done a b at n i ms gs before now x m h = so_far_done a b before now _ x m (ap (members_built at n gs (state_of b) i) (drop_past ms i h))

-- The base, the class pointer, then the members

nest_tree : (x : Result Tree ElabFault) (f : Tree → Tree)
    → and_then (and_then x (λ (e : Tree). Ok (f e))) (λ (t : Tree). Ok (one t)) ≡ and_then x (λ (e : Tree). Ok (one (f e)))
nest_tree (Ok e) f = refl
nest_tree (Err d) f = refl

base_is : (st : State) (at : At) (n : ℕ) (o : Option ℕ) (g : Option Given) → base_built st at n o g ≡ base_trees st.ctx at n o g
base_is st at n None g = refl
base_is st at n (Some b) (Some g) = refl
base_is st at n (Some b) None = sym (nest_tree (default_object (as_base_of st.ctx b) (plain (class b)) at) (base_init st.ctx at at n b))

then_members : (x : Result Trees ElabFault) (p : Trees) (y : Result Done ElabFault)
    → and_then x (λ (b : Trees). and_then y (λ (d : Done). Ok (record { trees = followed_by b (followed_by p d.trees); state = d.state })))
    ≡ and_then (and_then x (λ (b : Trees). Ok (followed_by b p))) (λ (ts : Trees). behind ts y)
then_members (Ok b) p (Ok d) = ap (λ (z : Trees). done z d.state) (sym (followed_twice b p d.trees))
then_members (Ok b) p (Err e) = refl
then_members (Err e) p y = refl

-- the members of a class behind what stands in a state
abbrev pub all_members : At → ℕ → List Given → State → Result Done ElabFault
all_members at n gs st = members_built at n gs st 0 (members_in (slice_get st.ctx.classes n))

parts_steps : (st : State) (at : At) (n : ℕ) (gs : List Given)
    → parts_built st at n gs ≡ and_then (first_trees st.ctx at n (given_for None gs)) (λ (ts : Trees). behind ts (all_members at n gs st))
parts_steps st at n gs = ap (λ (z : Result Trees ElabFault). and_then z
    (λ (b : Trees). and_then (all_members at n gs st)
    (λ (d : Done). Ok (record { trees = followed_by b (followed_by (pointer_stored at n (pointer_offset st.ctx.classes n)) d.trees); state = d.state }))))
    (base_is st at n (base_of_class (slice_get st.ctx.classes n)) (given_for None gs))
    ∙ then_members (base_trees st.ctx at n (base_of_class (slice_get st.ctx.classes n)) (given_for None gs))
    (pointer_stored at n (pointer_offset st.ctx.classes n)) (all_members at n gs st)

-- the first parts by what is found
abbrev pub first_found : StateRec → At → ℕ → Option GivenRec → Result Trees ElabFault
first_found a at n found = first_trees (ctx_of a.env) at n (option_map (given_in (made a)) found)

first_is : (a : StateRec) (at : At) (n : ℕ) (given : List GivenRec) (found : Option GivenRec) → found ≡ found_for None given
    → first_found a at n found ≡ first_trees (ctx_of a.env) at n (given_for None (map (given_in (made a)) given))
first_is a at n given found f = ap (first_trees (ctx_of a.env) at n) (ap (option_map (given_in (made a))) f ∙ sym (given_is (made a) None given))

members_same : (a b : StateRec) (at : At) (n : ℕ) (given : List GivenRec) → Grows (made a) (made b) → are_there (length (made a)) given ≡ true
    → state_of b ≡ state_of a → all_members at n (map (given_in (made a)) given) (state_of a) ≡ all_members at n (map (given_in (made b)) given) (state_of b)
members_same a b at n given g h s = ap (all_members at n (map (given_in (made a)) given)) (sym s)
    ∙ ap (λ (z : List Given). all_members at n z (state_of b)) (sym (given_grown (made a) (made b) given g h))

pub parts_done : (a b c : StateRec) (at : At) (n : ℕ) (given : List GivenRec) (found : Option GivenRec) (ids next : List TNodeId)
    → are_there (length (made a)) given ≡ true → found ≡ found_for None given → AllGiven (made a) (made b) ids (first_found a at n found)
    → state_of b ≡ state_of a → AllDone b c ids next (all_members at n (map (given_in (made b)) given) (state_of b))
    → Listed a c next (parts_built (state_of a) at n (map (given_in (made a)) given))
parts_done a b c at n given found ids next h f m s all = record {
  grown = grown_trans a b c (grown_by a b m.grows (ap (λ (z : State). z.ctx.labels) s)) all.grown;
  within = all.within;
  is = parts_steps (state_of a) at n (map (given_in (made a)) given)
      ∙ ap (λ (z : Result Trees ElabFault). and_then z (λ (ts : Trees). behind ts (all_members at n (map (given_in (made a)) given) (state_of a))))
      (sym (first_is a at n given found f) ∙ m.is)
      ∙ ap (behind (trees_at (made b) ids)) (members_same a b at n given m.grows h s)
      ∙ all.is;
}

pub parts_refused : (a : StateRec) (at : At) (n : ℕ) (given : List GivenRec) (found : Option GivenRec) (e : ElabFault) → found ≡ found_for None given
    → Faults e (first_found a at n found) → Faults e (parts_built (state_of a) at n (map (given_in (made a)) given))
parts_refused a at n given found e f m =
    let gs : List Given = map (given_in (made a)) given in
    faults_same e _ _ (parts_steps (state_of a) at n gs ∙ ap
    (λ (z : Result Trees ElabFault). and_then z (λ (ts : Trees). behind ts (all_members at n gs (state_of a)))) (sym (first_is a at n given found f)))
    (faults_in (λ (z : Result Trees ElabFault). and_then z (λ (ts : Trees). behind ts (all_members at n gs (state_of a)))) e (first_found a at n found)
    (λ d. refl) m)

pub parts_fail : (a b : StateRec) (at : At) (n : ℕ) (given : List GivenRec) (found : Option GivenRec) (ids : List TNodeId) (e : ElabFault)
    → are_there (length (made a)) given ≡ true → found ≡ found_for None given → AllGiven (made a) (made b) ids (first_found a at n found)
    → state_of b ≡ state_of a → Faults e (all_members at n (map (given_in (made b)) given) (state_of b))
    → Faults e (parts_built (state_of a) at n (map (given_in (made a)) given))
parts_fail a b at n given found ids e h f m s all =
    let gs : List Given = map (given_in (made a)) given in
    faults_same e _ _ (parts_steps (state_of a) at n gs
    ∙ ap (λ (z : Result Trees ElabFault). and_then z (λ (ts : Trees). behind ts (all_members at n gs (state_of a))))
    (sym (first_is a at n given found f) ∙ m.is)
    ∙ ap (behind (trees_at (made b) ids)) (members_same a b at n given m.grows h s)) (behind_fault (trees_at (made b) ids) e _ all)
