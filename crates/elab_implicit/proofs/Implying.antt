-- Bodies of implicit members, step by step.
use Rattle.std.proofs.Common.{◌≡◌, ◌<◌, ◌∙◌, ℕ, suc, Bool, true, false, ◌||◌, List, [], ◌∷◌, ◌++◌, length, get_or, slice_get, unwrap_or, Option, Some, None}
use Rattle.std.proofs.Common.{Result, Ok, Err, OnOk, refl, sym, ap, subst, arith}
use Rattle.std.specs.List.{list_any}
use Rattle.cpp_types.specs.Typ.{Typ}
use Rattle.cpp_types.specs.declared.classes.At.{At}
use Rattle.elab_entry.specs.cpp_tree.declared.program.FuncKind.{FuncKind}
use Rattle.elab_entry.specs.cpp_tree.declared.faults.ElabFault.{ElabFault}
use Rattle.elab_entry.specs.cpp_tree.declared.arena.TNodeId.{TNodeId}
use Rattle.elab_entry.specs.cpp_tree.Trees.{Tree, none, one}
use Rattle.elab_entry.specs.cpp_tree.Arena.{tree_at, trees_at, Grows, Adds}
use Rattle.elab_entry.specs.elab_ctx.Ctx.{Func, ctx_of}
use Rattle.elab_entry.specs.elab_ctx.Steps.{and_then}
use Rattle.elab_entry.specs.elab_ctx.Says.{Faults}
use Rattle.elab_entry.proofs.elab_ctx.Looks.{grows_refl}
use Rattle.elab_entry.proofs.elab_ctx.Making.{faults_in, faults_same}
use Rattle.elab_entry.specs.elab_rules.Initialising.{func_at, no_function, signature_parameters}
use Rattle.elab_entry.specs.elab_rules.Functions.{within_frame}
use Rattle.elab_entry.specs.elab_rules.Statements.{Body, State, Done, done, the_tree}
use Rattle.elab_entry.specs.elab_rules.Members.{constructor_tree}
use Rattle.elab_entry.specs.elab_rules.Implicit.{is_in_slot, is_referred, refers}
use Rattle.elab_entry.specs.elab_scopes.declared.state.State.{State as StateRec}
use Rattle.elab_entry.specs.elab_scopes.States.{state_of, made, Grown}
use Rattle.elab_entry.specs.elab_scopes.Says.{Changed, Changes, OneDone}
use Rattle.elab_entry.proofs.elab_scopes.Standing.{grown_by, grown_refl, grown_trans, changes_after}
use Rattle.elab_entry.specs.Round.{Round, round_function, left_by}
use Rattle.elab_entry.specs.Bodies.{body_kept, body_made}
use Rattle.elab_entry.specs.Says.{Listed}
use Rattle.elab_entry.proofs.OneByOne.{Steps, steps_next, steps_fault, steps_done}
use Rattle.elab_implicit.specs.Marks.{marked, table_of, all_slots_marked}
use Rattle.elab_implicit.specs.Implied.{IsTable, stands_in_slot, first_of, body_of_function, body_at, in_object, constructor_parts, constructor_inside}
use Rattle.elab_implicit.specs.Implied.{inside_implied, body_implied, wanted, implied_for, implied, implied_below}
use Rattle.elab_implicit.proofs.Keeping.{Standing, standing, inside_same}
use Rattle.elab_implicit.proofs.SlotMarks.{index_of_class, index_is, slots_stand, slots_length}
use Rattle.elab_implicit.proofs.TableMarks.{or_false, or_twice, table_length, table_says, marks_length, marks_say}

-- A constructor

pub constructor_one : (a b c : StateRec) (at : At) (n : ℕ) (p : Option Typ) (ids list : List TNodeId) (r : TNodeId)
    → Listed a b ids (constructor_parts (state_of a) at n p) → list ≡ []
    → Adds (made b) (made c) r (constructor_tree at (trees_at (made b) ids) (trees_at (made b) list)) → state_of c ≡ state_of b
    → OneDone a c r (constructor_inside (state_of a) at n p)
constructor_one a b c at n p ids list r m e k s =
    let tree : tree_at (made c) r ≡ constructor_tree at (trees_at (made b) ids) none = k.is
    ∙ ap (λ (z : List TNodeId). constructor_tree at (trees_at (made b) ids) (trees_at (made b) z)) e in
    record {
      grown = grown_trans a b c m.grown (grown_by b c k.grows (ap (λ (z : State). z.ctx.labels) s));
      within = k.within;
      is = ap (λ (z : Result Done ElabFault). and_then z (λ (d : Done). done (one (constructor_tree at d.trees none)) d.state)) m.is
          ∙ ap (λ (z : Tree). done (one z) (state_of b)) (sym tree) ∙ ap (done (one (tree_at (made c) r))) (sym s);
    }

-- A body

same_trees : (old new : List Tree) → new ≡ old → Grows old new
same_trees old new e = subst (λ (z : List Tree). Grows old z) (sym e) (grows_refl old)

-- what follows what stands in the body
abbrev pub kept : State → At → ℕ → Done → Result State ElabFault
kept st at k d = body_made (round_function st) at k (the_tree at d.trees) d.state

kept_is : (a c d : StateRec) (at : At) (k : ℕ) (around : Round) (t tree : Tree) (frame : List Typ) → around ≡ round_function (state_of a)
    → state_of d ≡ left_by around (state_of c) → tree ≡ t → frame ≡ (state_of c).work.frame
    → kept (state_of a) at k (record { trees = one t; state = state_of c }) ≡ body_kept (state_of d) at k tree frame
kept_is a c d at k around t tree frame r s q f =
    ap (λ (z : Round). body_kept (left_by z (state_of c)) at k t (state_of c).work.frame) (sym r)
    ∙ ap (λ (z : State). body_kept z at k t (state_of c).work.frame) (sym s)
    ∙ ap (λ (z : Tree). body_kept (state_of d) at k z (state_of c).work.frame) (sym q)
    ∙ ap (λ (z : List Typ). body_kept (state_of d) at k tree z) (sym f)

pub body_refused : (st in_it : State) (at : At) (k n : ℕ) (kind : FuncKind) (p : Option Typ) (e : ElabFault) → in_it ≡ in_object st n
    → Faults e (inside_implied in_it at n kind p) → Faults e (body_implied st at k n kind p)
body_refused st in_it at k n kind p e i m = faults_same e _ _ (ap (λ (z : State). and_then (inside_implied z at n kind p) (kept st at k)) (sym i))
    (faults_in (λ (z : Result Done ElabFault). and_then z (kept st at k)) e (inside_implied in_it at n kind p) (λ d. refl) m)

pub body_done : (a b c d e : StateRec) (at : At) (k n : ℕ) (kind : FuncKind) (p : Option Typ) (around : Round) (id : TNodeId) (tree : Tree) (frame : List Typ)
    (r : Result (Unit {0}) ElabFault) → state_of b ≡ in_object (state_of a) n → around ≡ round_function (state_of a)
    → OneDone b c id (inside_implied (state_of b) at n kind p) → state_of d ≡ left_by around (state_of c) → made d ≡ made a → tree ≡ tree_at (made c) id
    → frame ≡ (state_of c).work.frame → Changes d e r (body_kept (state_of d) at k tree frame) → Changes a e r (body_implied (state_of a) at k n kind p)
body_done a b c d e at k n kind p around id tree frame r i ro m l t q f o =
    let v : Done = record { trees = one (tree_at (made c) id); state = state_of c } in
    let step : Changes d e r (kept (state_of a) at k v) =
    subst (λ (z : Result State ElabFault). Changes d e r z) (sym (kept_is a c d at k around (tree_at (made c) id) tree frame ro l q f)) o in
    let g : Grown a d = grown_by a d (same_trees (made a) (made d) t) (ap (λ (z : State). z.ctx.labels) l ∙ ap (λ (z : Round). z.labels) ro) in
    subst (λ (z : Result State ElabFault). Changes a e r z) (ap (λ (z : State). and_then (inside_implied z at n kind p) (kept (state_of a) at k)) i)
    (changes_after a d e (inside_implied (state_of b) at n kind p) v (kept (state_of a) at k) r g m.is step)

-- The table

-- what the unit refers to, by what stands in a state
abbrev referred_in : Standing → ℕ → Bool
referred_in s k = list_any (λ (b : Body). refers k b.tree) s.bodies
    || is_in_slot (func_at s.funcs k).class (index_of_class k (func_at s.funcs k).class s.funcs) s.slots

abbrev with_body : Body → Standing → Standing
with_body b s = record s { bodies = s.bodies ++ b ∷ [] }

referred_is : (st : State) (k : ℕ) → is_referred st k ≡ referred_in (standing st) k
referred_is st k = sym (ap (λ (z : ℕ). list_any (λ (b : Body). refers k b.tree) st.bodies || is_in_slot (func_at st.ctx.funcs k).class z st.ctx.slots)
    (index_is st.ctx k (func_at st.ctx.funcs k).class))

or_swapped : (a b : Bool) → (a || b) ≡ (b || a)
or_swapped true true = refl
or_swapped true false = refl
or_swapped false true = refl
or_swapped false false = refl

or_later : (a b c : Bool) → ((a || b) || c) ≡ ((a || c) || b)
or_later true b c = refl
or_later false b c = or_swapped b c

any_append : (p : Body → Bool) (bs : List Body) (b : Body) → list_any p (bs ++ b ∷ []) ≡ (list_any p bs || p b)
any_append p [] b = or_false (p b)
any_append p (c ∷ bs) b = ap (λ (z : Bool). p c || z) (any_append p bs b) ∙ sym (or_twice (p c) (list_any p bs) (p b))

referred_more : (s : Standing) (b : Body) (k : ℕ) → referred_in (with_body b s) k ≡ (referred_in s k || refers k b.tree)
referred_more s b k =
    let in_slot : Bool = is_in_slot (func_at s.funcs k).class (index_of_class k (func_at s.funcs k).class s.funcs) s.slots in
    ap (λ (z : Bool). z || in_slot) (any_append (λ (x : Body). refers k x.tree) s.bodies b)
    ∙ or_later (list_any (λ (x : Body). refers k x.tree) s.bodies) (refers k b.tree) in_slot

-- what stands behind a body that is kept
kept_standing : (w : Result Bool ElabFault) (s t : State) → and_then w (λ (y : Bool). Ok s) ≡ Ok t → standing t ≡ standing s
kept_standing (Ok y) s t h =
    let same : s ≡ t = cc in
    ap standing (sym same)
kept_standing (Err e) s t h = absurd cc

pub table_kept : (a d e : StateRec) (ms next : List Bool) (at : At) (k : ℕ) (tree : Tree) (frame : List Typ) → IsTable ms a
    → standing (state_of d) ≡ standing (state_of a) → next ≡ marked tree ms → Changed d e (body_kept (state_of d) at k tree frame) → IsTable next e
table_kept a d e ms next at k tree frame m b n o =
    let body : Body = record { func = k; tree = tree; frame = frame } in
    let after : standing (state_of e) ≡ with_body body (standing (state_of a)) =
    kept_standing (within_frame (state_of d).ctx at frame) (record (state_of d) { bodies = (state_of d).bodies ++ body ∷ [] }) (state_of e) o.is
    ∙ ap (with_body body) b in
    let size : length next ≡ length ms = ap length n ∙ marks_length tree ms in
    record {
      says = λ j h.
          let there : j < length ms = omega (arith, h, size) in
          ap (λ (z : List Bool). get_or z j false) n
          ∙ marks_say tree ms j there
          ∙ ap (λ (z : Bool). z || refers j tree) (m.says j there ∙ referred_is (state_of a) j)
          ∙ sym (referred_more (standing (state_of a)) body j)
          ∙ ap (λ (z : Standing). referred_in z j) (sym after)
          ∙ sym (referred_is (state_of e) j);
    }

pub table_after : (a b c d e : StateRec) (ms next : List Bool) (at : At) (k n : ℕ) (kind : FuncKind) (p : Option Typ) (around : Round) (id : TNodeId)
    (tree : Tree) (frame : List Typ) (r : Result (Unit {0}) ElabFault) → IsTable ms a → state_of b ≡ in_object (state_of a) n
    → OneDone b c id (inside_implied (state_of b) at n kind p) → state_of d ≡ left_by around (state_of c) → next ≡ marked tree ms
    → Changes d e r (body_kept (state_of d) at k tree frame) → OnOk r (IsTable next e)
table_after a b c d e ms next at k n kind p around id tree frame (Ok u) m i o l f g =
    let same : standing (state_of d) ≡ standing (state_of a) = ap standing l ∙ inside_same (state_of b) (state_of c) at n kind p (tree_at (made c) id) o.is
    ∙ ap standing i in
    table_kept a d e ms next at k tree frame m same f g
table_after a b c d e ms next at k n kind p around id tree frame (Err x) m i o l f g = tt

pub size_after : (ms next : List Bool) (tree : Tree) (r : Result (Unit {0}) ElabFault) → next ≡ marked tree ms → OnOk r (length next ≡ length ms)
size_after ms next tree (Ok u) f = ap length f ∙ marks_length tree ms
size_after ms next tree (Err x) f = tt

-- the first table: bodies, then slots
pub table_first : (ms bs : List Bool) (st : StateRec) (count : ℕ) → bs ≡ table_of count (state_of st).bodies
    → ms ≡ all_slots_marked st.env.funcs bs (ctx_of st.env).slots → IsTable ms st
table_first ms bs st count e f =
    let size : length bs ≡ count = ap length e ∙ table_length count (state_of st).bodies in
    let same : length ms ≡ length bs = ap length f ∙ slots_length st.env.funcs (ctx_of st.env).slots bs in
    record {
      says = λ k h.
          let there : k < length bs = omega (arith, h, same) in
          let counted : k < count = omega (arith, h, same, size) in
          ap (λ (z : List Bool). get_or z k false) f
          ∙ slots_stand (ctx_of st.env) st.env.funcs bs k refl there
          ∙ ap (λ (z : Bool). z || stands_in_slot (ctx_of st.env) k)
          (ap (λ (z : List Bool). get_or z k false) e ∙ table_says count k (state_of st).bodies counted);
    }

pub table_size : (ms bs : List Bool) (st : StateRec) (count : ℕ) → bs ≡ table_of count (state_of st).bodies
    → ms ≡ all_slots_marked st.env.funcs bs (ctx_of st.env).slots → length ms ≡ count
table_size ms bs st count e f = ap length f ∙ slots_length st.env.funcs (ctx_of st.env).slots bs ∙ ap length e ∙ table_length count (state_of st).bodies

-- One function after the other

pub implied_first : (st : State) (k left : ℕ) → left ≡ suc k → implied_below st left ≡ and_then (implied st k) (λ (x : State). implied_below x k)
implied_first st k left e = ap (implied_below st) e

pub implied_next : (a b c : StateRec) (k left : ℕ) (x : Result State ElabFault) → Steps a b (implied_below (state_of b) left) x → left ≡ suc k
    → Changed b c (implied (state_of b) k) → Steps a c (implied_below (state_of c) k) x
implied_next a b c k left x m e n = steps_next a b c (implied_below (state_of b) left) x (implied (state_of b) k) (λ (s : State). implied_below s k) m
    (implied_first (state_of b) k left e) n

pub implied_fails : (a b : StateRec) (k left : ℕ) (x : Result State ElabFault) (e : ElabFault) → Steps a b (implied_below (state_of b) left) x → left ≡ suc k
    → Faults e (implied (state_of b) k) → Faults e x
implied_fails a b k left x e m h n = steps_fault a b (implied_below (state_of b) left) x (implied (state_of b) k) (λ (s : State). implied_below s k) e m
    (implied_first (state_of b) k left h) n

pub implied_done : (a b : StateRec) (left : ℕ) (x : Result State ElabFault) → Steps a b (implied_below (state_of b) left) x → left ≡ 0 → Changed a b x
implied_done a b left x m e = steps_done a b (implied_below (state_of b) left) x m (ap (implied_below (state_of b)) e)

pub changes_none : (a : StateRec) (k : ℕ) → wanted (state_of a) k ≡ None → Changed a a (implied (state_of a) k)
changes_none a k e = record { grown = grown_refl a; is = ap (implied_for (state_of a) k) e }

pub changes_fail : (a c : StateRec) (r : Result (Unit {0}) ElabFault) (f : ElabFault) (x : Result State ElabFault) → r ≡ Err f → Faults f x → Changes a c r x
changes_fail a c r f x e h = subst (λ (z : Result (Unit {0}) ElabFault). Changes a c z x) (sym e) h

pub changes_same : (a c : StateRec) (r : Result (Unit {0}) ElabFault) (x y : Result State ElabFault) → y ≡ x → Changes a c r x → Changes a c r y
changes_same a c r x y e h = subst (λ (z : Result State ElabFault). Changes a c r z) (sym e) h

pub body_at_same : (a c : StateRec) (r : Result (Unit {0}) ElabFault) (k n : ℕ) (f : Func) (p : Option Typ) → slice_get (ctx_of a.env).funcs k ≡ Some f
    → p ≡ first_of (signature_parameters f.declared.signature) → Changes a c r (body_implied (state_of a) f.declared.at k n f.kind p)
    → Changes a c r (body_at (state_of a) k n)
body_at_same a c r k n f p e g m = changes_same a c r (body_implied (state_of a) f.declared.at k n f.kind p) (body_at (state_of a) k n)
    (ap (λ (z : Option Func). body_of_function (state_of a) k n (unwrap_or z no_function)) e
    ∙ ap (body_implied (state_of a) f.declared.at k n f.kind) (sym g)) m

pub implied_some : (a c : StateRec) (r : Result (Unit {0}) ElabFault) (k n : ℕ) (o : Option ℕ) → o ≡ wanted (state_of a) k → o ≡ Some n
    → Changes a c r (body_at (state_of a) k n) → Changes a c r (implied (state_of a) k)
implied_some a c r k n o e f m = changes_same a c r (body_at (state_of a) k n) (implied (state_of a) k) (ap (implied_for (state_of a) k) (sym e ∙ f)) m
