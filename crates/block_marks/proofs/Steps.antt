-- A thread that is marked stays so.
use Rattle.std.specs.Prelude.{◌≡◌, ℕ, zero, suc, ℤ, Bool, true, false, cond, ◌&&◌, ◌||◌, ◌==◌, List, [], ◌∷◌, ◌++◌, Option, Some, None, Result, Ok, Err, refl}
use Rattle.std.proofs.lemmas.Bool.{false≢true, and_parts, and_from, or_right}
use Rattle.cpp_tree.specs.tx_ints.Words.{word_of}
use Rattle.cpp_tree.specs.tx_ints.declared.kinds.ArithTrap.{ArithTrap}
use Rattle.cpp_tree.specs.tx_events.declared.Event.TheVariants.{Silent}
use Rattle.cpp_tree.specs.tx_events.Thread.{Atomic as AtomicBlock, Sync}
use Rattle.cpp_tree.specs.cpp_types.Typ.{Typ}
use Rattle.cpp_tree.specs.declared.kinds.TKind.{TKind}
use Rattle.cpp_tree.specs.declared.kinds.TKind.TheVariants.{Handler, Destroy, Field}
use Rattle.cpp_tree.specs.Trees.{Tree, node, Trees, none, more, kind_of, typ_in, first}
use Rattle.cpp_tree.specs.Roles.{is_handler}
use Rattle.src_mean.specs.Linked.{Func, Program}
use Rattle.src_mean.specs.Exceptions.{Exception, is_object_typ, catches}
use Rattle.src_mean.specs.Frames.{Here, throws, returns, Waiting, Owner, of_block, of_call, of_pieces, pointer, Frame, Run, Then, Gives, Leaves, Loads, StoreTo}
use Rattle.src_mean.specs.Frames.{Right, Apply, Choose, AssignTo, UpdateAt, UpdateOld, UpdateBy, CopyTo, CopyBy, From, Words, Object, Slot, Pointer, Passes}
use Rattle.src_mean.specs.Frames.{Called, Full, Keeps, Scope, Waits, InitAt, Cleans, Due, Destroys, Parts, Each, Items, Test, Body, Step, Picks, Compares}
use Rattle.src_mean.specs.Frames.{Switches, Returning, Opens, Within, Closes, Throws, Fills, Filled, Tries, Trying, Takes, Taking, Handling, Loaded, Replied}
use Rattle.src_mean.specs.Frames.{Converts, Starts, Halted, Ended, State, at, puts_some, waiting}
use Rattle.src_mean.specs.Source.{finish, compare, from_label, is_case, is_default, destroy, handle, take_field, fill_field, kept, give, reply_word, applied}
use Rattle.src_mean.specs.Source.{write, converted, updated, case_word, run_items, begins, main_state, empty_stack, source, with_temporaries}
use Rattle.src_mean.specs.Laws.{StaysSafe}
use Rattle.block_marks.specs.Marks.{is_tame_kind, scope_for, all_free, is_at_most, all_within, are_placed, below, is_tame, are_tame, is_alone, are_within}
use Rattle.block_marks.specs.Marks.{are_caught, Round, round_of, is_outside, has, has_scope, is_met, runs, run_all, may_wait, all_wait, has_safe_body, may_call}
use Rattle.block_marks.specs.Marks.{hides, hides_all, is_good, are_good, are_left, is_marked, IsTameFunc, IsTame}
use Rattle.block_marks.proofs.Trees.{first_alone, alone_runs, within_all}
use Rattle.block_marks.proofs.Scopes.{puts_good, keeps_good}
use Rattle.block_marks.proofs.Calls.{Marked, Good, either, halts, enters, next_words, calls, calls_slot}
use Rattle.block_marks.proofs.Leaving.{leaves}
use Rattle.block_marks.proofs.Nodes.{named, nodes}

chosen_runs : (s : ℕ → Bool) (r : Round) (b : Bool) (t u : Tree) → is_alone s r.outside t ≡ true → is_alone s r.outside u ≡ true → runs s r (cond b t u) ≡ true
chosen_runs s r true t u g h = alone_runs s r t g
chosen_runs s r false t u g h = alone_runs s r u h

all_kept : (s : ℕ → Bool) (o b : Bool) (ws : List Waiting) → all_wait s o ws ≡ true → all_wait s o (kept b ws) ≡ true
all_kept s o true ws h = h
all_kept s o false ws h = refl

has_one : (o : Owner) (k : List Frame) → has o (round_of k) ≡ true → has_scope o k ≡ true
has_one of_block k h = h
has_one of_call k h = h
has_one of_pieces k h = h

waits : (p : Program) (safe : ℕ → ℕ → Bool) (h : Here) (v : ℕ) (o : Owner) (address : Tree) (ds : Trees) (k : List Frame) → has o (round_of k) ≡ true
    → may_wait (safe h.unit) (is_outside k) address ds ≡ true
    → Good p safe h k → Marked p safe (at Silent h (Gives v ∷ puts_some o address ds k))
waits p safe h v o address none k n w q = record { hidden = refl; good = q }
waits p safe h v o address (more d ds) k n w q = record {
  hidden = refl;
  good = puts_good p safe h.unit h.temporaries o
      (record { address = address; destroys = more d ds }) k (has_one o k n) w q;
}

keeps : (p : Program) (safe : ℕ → ℕ → Bool) (h : Here) (v : ℕ) (address : Tree) (ds : Trees) (k : List Frame)
    → may_wait (safe h.unit) (is_outside k) address ds ≡ true
    → Good p safe h k → Marked p safe (at Silent (with_temporaries h (waiting address ds h.temporaries)) (Gives v ∷ k))
keeps p safe h v address none k w q = record { hidden = refl; good = q }
keeps p safe h v address (more d ds) k w q = record {
  hidden = refl;
  good = keeps_good p safe h.unit h.temporaries
      (record { address = address; destroys = more d ds }) k w q;
}

finishes : (p : Program) (safe : ℕ → ℕ → Bool) (r : Result ℤ ArithTrap) (h : Here) (on : ℤ → State) (k : List Frame) → ((z : ℤ) → Marked p safe (on z))
    → Marked p safe (finish r h on k)
finishes p safe (Ok z) h on k g = g z
finishes p safe (Err trap) h on k g = halts p safe h _ k

destroys : (p : Program) (safe : ℕ → ℕ → Bool) (m : IsTame p safe) (h : Here) (a : ℕ) (t : Tree) (ts : Trees) (k : List Frame)
    → is_tame (safe h.unit) (is_outside k) t ≡ true
    → are_tame (safe h.unit) (is_outside k) ts ≡ true → Good p safe h k → Marked p safe (destroy p h a (kind_of t) ts k)
destroys p safe m h a (node (Destroy f o c s) t cat place kids) ts k i j q =
    let b = and_parts (safe h.unit f || is_outside k) (are_placed (Destroy f o c s) kids && are_tame (safe h.unit) (is_outside k) kids) i in
    record { hidden = refl; good = and_from _ _ (named p safe m h.unit f (is_outside k) b.0) (and_from _ _ j q) }
destroys p safe m h a (node kind t cat place kids) ts k i j q = record { hidden = refl; good = and_from _ _ j q }

handles : (p : Program) (safe : ℕ → ℕ → Bool) (h : Here) (e : Exception) (t : Tree) (k : List Frame) → is_tame (safe h.unit) (is_outside k) t ≡ true
    → is_handler (kind_of t) ≡ true → Good p safe h k
    → Marked p safe (handle h e t k)
handles p safe h e (node (Handler None) t cat place kids) k i j q =
    let a = and_parts (all_free kids) (are_tame (safe h.unit) (is_outside k) kids) i in
    record { hidden = refl; good = and_from _ _ (alone_runs (safe h.unit) (round_of k) (first kids) (first_alone (safe h.unit) (is_outside k) kids a.1 a.0)) q }
handles p safe h e (node (Handler (Some n)) t cat place kids) k i j q =
    let a = and_parts (all_free kids) (are_tame (safe h.unit) (is_outside k) kids) i in
    record { hidden = refl; good = and_from _ _ (alone_runs (safe h.unit) (round_of k) (first kids) (first_alone (safe h.unit) (is_outside k) kids a.1 a.0)) q }
handles p safe h e (node kind t cat place kids) k i j q = absurd (false≢true j)

takes : (p : Program) (safe : ℕ → ℕ → Bool) (h : Here) (e : Exception) (base : ℕ) (kind : TKind) (ts : Trees) (k : List Frame) → Good p safe h k
    → Marked p safe (take_field h e base kind ts k)
takes p safe h e base (Field o c) ts k q = record { hidden = refl; good = q }
takes p safe h e base kind ts k q = record { hidden = refl; good = q }

fills : (p : Program) (safe : ℕ → ℕ → Bool) (h : Here) (t : Typ) (from : ℕ) (kind : TKind) (ts : Trees) (bytes : List ℕ) (k : List Frame) → Good p safe h k
    → Marked p safe (fill_field h t from kind ts bytes k)
fills p safe h t from (Field o c) ts bytes k q = either p safe (is_object_typ t) _ _ (record { hidden = refl; good = q }) (record { hidden = refl; good = q })
fills p safe h t from kind ts bytes k q = record { hidden = refl; good = q }

-- what stands from a label on
labelled : (s : ℕ → Bool) (o : Bool) (test : TKind → Bool) (ts : Trees) → are_within s of_block o ts ≡ true
    → are_within s of_block o (from_label test ts) ≡ true
labelled s o test none h = refl
labelled s o test (more t ts) h =
    let a = and_parts (are_tame s o (more t ts)) (all_within of_block (more t ts)) h in
    let b = and_parts (is_tame s o t) (are_tame s o ts) a.0 in
    let c = and_parts (is_at_most of_block (scope_for (kind_of t))) (all_within of_block ts) a.1 in
    elim (test (kind_of t)) as (λ z. are_within s of_block o (cond z (more t ts) (from_label test ts))
    ≡ true) [ true ↦ h | false ↦ labelled s o test ts (and_from _ _ b.1 c.1) ]

runs_items : (p : Program) (safe : ℕ → ℕ → Bool) (h : Here) (ts : Trees) (k : List Frame) → are_within (safe h.unit) of_block (is_outside k) ts ≡ true
    → Good p safe h k → Marked p safe (run_items h ts k)
runs_items p safe h ts k w q =
    let a = and_parts (are_tame (safe h.unit) (is_outside k) ts) (all_within of_block ts) w in
    record { hidden = refl; good = and_from _ _ (within_all (safe h.unit) of_block (round_of (Scope of_block true [] ∷ k)) ts refl a.0 a.1) q }

compares : (p : Program) (safe : ℕ → ℕ → Bool) (h : Here) (w : ℕ) (ts items : Trees) (k : List Frame)
    → are_within (safe h.unit) of_block (is_outside k) ts ≡ true → are_within (safe h.unit) of_block (is_outside k) items ≡ true
    → Good p safe h k → Marked p safe (compare h w ts items k)
compares p safe h w none items k i j q = runs_items p safe h (from_label is_default items) k (labelled (safe h.unit) (is_outside k) is_default items j) q
compares p safe h w (more t ts) items k i j q =
    let a = and_parts (are_tame (safe h.unit) (is_outside k) (more t ts)) (all_within of_block (more t ts)) i in
    let b = and_parts (is_tame (safe h.unit) (is_outside k) t) (are_tame (safe h.unit) (is_outside k) ts) a.0 in
    let c = and_parts (is_at_most of_block (scope_for (kind_of t))) (all_within of_block ts) a.1 in
    record { hidden = refl; good = and_from _ _ (and_from _ _ (and_from _ _ b.1 c.1) j) q }

tests : (p : Program) (safe : ℕ → ℕ → Bool) (h : Here) (v : ℕ) (test body step : Tree) (k : List Frame)
    → is_good p (safe h.unit) (round_of k) (Test test body step) ≡ true → Good p safe h k → Marked p safe (give p h v (Test test body step ∷ k))
tests p safe h v test body step k i q =
    let b = and_parts (is_alone (safe h.unit) (is_outside k) test)
    (is_alone (safe h.unit) (is_outside k) body && is_alone (safe h.unit) (is_outside k) step) i in
    let c = and_parts (is_alone (safe h.unit) (is_outside k) body) (is_alone (safe h.unit) (is_outside k) step) b.1 in
    either p safe (v == 0) _ _ (record { hidden = refl; good = q })
    (record { hidden = refl; good = and_from _ _ (alone_runs (safe h.unit) (round_of k) body c.0) (and_from _ _ i q) })

steps : (p : Program) (safe : ℕ → ℕ → Bool) (h : Here) (v : ℕ) (test body step : Tree) (k : List Frame)
    → is_good p (safe h.unit) (round_of k) (Test test body step) ≡ true → Good p safe h k → Marked p safe (give p h v (Body test body step ∷ k))
steps p safe h v test body step k i q =
    let b = and_parts (is_alone (safe h.unit) (is_outside k) test)
    (is_alone (safe h.unit) (is_outside k) body && is_alone (safe h.unit) (is_outside k) step) i in
    let c = and_parts (is_alone (safe h.unit) (is_outside k) body) (is_alone (safe h.unit) (is_outside k) step) b.1 in
    record { hidden = refl; good = and_from _ _ (alone_runs (safe h.unit) (round_of k) step c.1) (and_from _ _ i q) }

again : (p : Program) (safe : ℕ → ℕ → Bool) (h : Here) (v : ℕ) (test body step : Tree) (k : List Frame)
    → is_good p (safe h.unit) (round_of k) (Test test body step) ≡ true → Good p safe h k → Marked p safe (give p h v (Step test body step ∷ k))
again p safe h v test body step k i q =
    let b = and_parts (is_alone (safe h.unit) (is_outside k) test)
    (is_alone (safe h.unit) (is_outside k) body && is_alone (safe h.unit) (is_outside k) step) i in
    record { hidden = refl; good = and_from _ _ (alone_runs (safe h.unit) (round_of k) test b.0) (and_from _ _ i q) }

-- Values

gives : (p : Program) (safe : ℕ → ℕ → Bool) (m : IsTame p safe) (h : Here) (v : ℕ) (k : List Frame) → Good p safe h k → Marked p safe (give p h v k)
gives p safe m h v [] q = record { hidden = refl; good = refl }
gives p safe m h v (Run way (node kind t cat place kids) ∷ k) q =
    let a = and_parts (runs (safe h.unit) (round_of k) (node kind t cat place kids)) (are_good p safe h.unit h.temporaries k) q in
    let b = and_parts (is_tame (safe h.unit) (is_outside k) (node kind t cat place kids)) (is_met (round_of k) (scope_for kind)) a.0 in
    let c = and_parts (is_tame_kind (safe h.unit) kind || is_outside k) (are_placed kind kids && are_tame (safe h.unit) (below kind (is_outside k)) kids) b.0 in
    let d = and_parts (are_placed kind kids) (are_tame (safe h.unit) (below kind (is_outside k)) kids) c.1 in
    nodes p safe m h way kind kids (λ w. give p h w k) k c.0 d.0 d.1 b.1 a.1 (λ w. gives p safe m h w k a.1)
gives p safe m h v (Then way t ∷ k) q = record { hidden = refl; good = q }
gives p safe m h v (Gives w ∷ k) q = gives p safe m h w k q
gives p safe m h v (Leaves x ∷ k) q = leaves p safe h x k q
gives p safe m h v (Loads kind volatile ∷ k) q = let a =
    and_parts (is_good p (safe h.unit) (round_of k) (Loads kind volatile)) (are_good p safe h.unit h.temporaries k) q in record { hidden = a.0; good = a.1 }
gives p safe m h v (Loaded kind ∷ k) q = gives p safe m h _ k q
gives p safe m h v (Replied ∷ k) q = gives p safe m h v k q
gives p safe m h v (StoreTo address kind volatile answer ∷ k) q = let a =
    and_parts (is_good p (safe h.unit) (round_of k) (StoreTo address kind volatile answer)) (are_good p safe h.unit h.temporaries k) q in
    record { hidden = a.0; good = a.1 }
gives p safe m h v (Converts kind ∷ k) q = gives p safe m h _ k q
gives p safe m h v (Right op kind t ∷ k) q = let a = and_parts (is_good p (safe h.unit) (round_of k) (Right op kind t))
    (are_good p safe h.unit h.temporaries k) q in record { hidden = refl; good = and_from _ _ (alone_runs (safe h.unit) (round_of k) t a.0) a.1 }
gives p safe m h v (Apply op kind left ∷ k) q = finishes p safe (applied op kind left v) h (λ z. give p h (word_of z) k) k
    (λ z. gives p safe m h (word_of z) k q)
gives p safe m h v (Choose way chosen other ∷ k) q =
    let a = and_parts (is_good p (safe h.unit) (round_of k) (Choose way chosen other)) (are_good p safe h.unit h.temporaries k) q in
    let b = and_parts (is_alone (safe h.unit) (is_outside k) chosen) (is_alone (safe h.unit) (is_outside k) other) a.0 in
    record { hidden = refl; good = and_from _ _ (chosen_runs (safe h.unit) (round_of k) (v == 0) other chosen b.1 b.0) a.1 }
gives p safe m h v (AssignTo kind volatile t ∷ k) q = let a =
    and_parts (is_good p (safe h.unit) (round_of k) (AssignTo kind volatile t)) (are_good p safe h.unit h.temporaries k) q in let b =
    and_parts (hides (is_outside k) volatile) (is_alone (safe h.unit) (is_outside k) t) a.0 in
    record { hidden = refl; good = and_from _ _ (alone_runs (safe h.unit) (round_of k) t b.1) (and_from _ _ b.0 a.1) }
gives p safe m h v (UpdateAt c t ∷ k) q = let a = and_parts (is_good p (safe h.unit) (round_of k) (UpdateAt c t)) (are_good p safe h.unit h.temporaries k) q in
    let b = and_parts (hides (is_outside k) c.volatile) (is_alone (safe h.unit) (is_outside k) t) a.0 in record { hidden = b.0; good = q }
gives p safe m h v (UpdateOld c address t ∷ k) q = let a =
    and_parts (is_good p (safe h.unit) (round_of k) (UpdateOld c address t)) (are_good p safe h.unit h.temporaries k) q in let b =
    and_parts (hides (is_outside k) c.volatile) (is_alone (safe h.unit) (is_outside k) t) a.0 in
    record { hidden = refl; good = and_from _ _ (alone_runs (safe h.unit) (round_of k) t b.1) (and_from _ _ b.0 a.1) }
gives p safe m h v (UpdateBy c address old ∷ k) q = let a =
    and_parts (is_good p (safe h.unit) (round_of k) (UpdateBy c address old)) (are_good p safe h.unit h.temporaries k) q in
    finishes p safe (applied c.op c.operation old v) h
    (λ z. write h address c.stored c.volatile (converted c.stored (word_of z)) (Gives (updated c address old) ∷ k)) k (λ z. record { hidden = a.0; good = a.1 })
gives p safe m h v (CopyTo source init ∷ k) q = let a =
    and_parts (is_good p (safe h.unit) (round_of k) (CopyTo source init)) (are_good p safe h.unit h.temporaries k) q in let b =
    and_parts (is_alone (safe h.unit) (is_outside k) source) (is_alone (safe h.unit) (is_outside k) init) a.0 in
    record { hidden = refl; good = and_from _ _ (alone_runs (safe h.unit) (round_of k) source b.0) (and_from _ _ b.1 a.1) }
gives p safe m h v (CopyBy target init ∷ k) q = let a =
    and_parts (is_good p (safe h.unit) (round_of k) (CopyBy target init)) (are_good p safe h.unit h.temporaries k) q in
    record { hidden = refl; good = and_from _ _ (alone_runs (safe h.unit) (round_of k) init a.0) a.1 }
gives p safe m h v (From target init ∷ k) q = let a =
    and_parts (is_good p (safe h.unit) (round_of k) (From target init)) (are_good p safe h.unit h.temporaries k) q in
    record { hidden = refl; good = and_from _ _ (alone_runs (safe h.unit) (round_of k) init a.0) a.1 }
gives p safe m h v (Words callee before others ∷ k) q = let a =
    and_parts (is_good p (safe h.unit) (round_of k) (Words callee before others)) (are_good p safe h.unit h.temporaries k) q in let b =
    and_parts (may_call p (is_outside k) callee) (run_all (safe h.unit) (round_of k) others) a.0 in
    next_words p safe m h callee (before ++ v ∷ []) others k b.0 b.1 a.1
gives p safe m h v (Object before class slot offset others ∷ k) q = record { hidden = refl; good = q }
gives p safe m h v (Slot before class slot others ∷ k) q = let a =
    and_parts (is_good p (safe h.unit) (round_of k) (Slot before class slot others)) (are_good p safe h.unit h.temporaries k) q in
    calls_slot p safe m h (p.slot v class slot) before others k a.0 a.1
gives p safe m h v (Pointer before sig others ∷ k) q = let a =
    and_parts (is_good p (safe h.unit) (round_of k) (Pointer before sig others)) (are_good p safe h.unit h.temporaries k) q in let b =
    and_parts (are_tame (safe h.unit) (is_outside k) others) (all_within of_call others) a.0 in
    calls p safe m h (pointer v sig) before others k refl b.0 b.1 a.1
gives p safe m h v (Passes [] places ∷ k) q = let a =
    and_parts (is_good p (safe h.unit) (round_of k) (Passes [] places)) (are_good p safe h.unit h.temporaries k) q in gives p safe m h 0 k a.1
gives p safe m h v (Passes (w ∷ ws) [] ∷ k) q = let a =
    and_parts (is_good p (safe h.unit) (round_of k) (Passes (w ∷ ws) [])) (are_good p safe h.unit h.temporaries k) q in gives p safe m h 0 k a.1
gives p safe m h v (Passes (w ∷ ws) (place ∷ places) ∷ k) q = let a =
    and_parts (is_good p (safe h.unit) (round_of k) (Passes (w ∷ ws) (place ∷ places))) (are_good p safe h.unit h.temporaries k) q in let b =
    and_parts (hides (is_outside k) place.volatile) (hides_all (is_outside k) places) a.0 in record { hidden = b.0; good = and_from _ _ b.1 a.1 }
gives p safe m h v (Called caller stops ∷ k) q = record { hidden = refl; good = q }
gives p safe m h v (Scope owner always ws ∷ k) q = let a =
    and_parts (is_good p (safe h.unit) (round_of k) (Scope owner always ws)) (are_good p safe h.unit h.temporaries k) q in
    record { hidden = refl; good = and_from _ _ (all_kept (safe h.unit) (is_outside k) always ws a.0) a.1 }
gives p safe m h v (Full outer ∷ k) q = record { hidden = refl; good = q }
gives p safe m h v (Keeps address ds ∷ k) q = let a =
    and_parts (is_good p (safe h.unit) (round_of k) (Keeps address ds)) (are_good p safe h.unit h.temporaries k) q in keeps p safe h v address ds k a.0 a.1
gives p safe m h v (Waits owner address ds ∷ k) q = let a =
    and_parts (is_good p (safe h.unit) (round_of k) (Waits owner address ds)) (are_good p safe h.unit h.temporaries k) q in let b =
    and_parts (has owner (round_of k)) (may_wait (safe h.unit) (is_outside k) address ds) a.0 in waits p safe h v owner address ds k b.0 b.1 a.1
gives p safe m h v (InitAt init ds ∷ k) q =
    let a = and_parts (is_good p (safe h.unit) (round_of k) (InitAt init ds)) (are_good p safe h.unit h.temporaries k) q in
    let b = and_parts (has of_block (round_of k)) (is_alone (safe h.unit) (is_outside k) init && are_tame (safe h.unit) (is_outside k) ds) a.0 in
    let c = and_parts (is_alone (safe h.unit) (is_outside k) init) (are_tame (safe h.unit) (is_outside k) ds) b.1 in
    record { hidden = refl; good = and_from _ _ (alone_runs (safe h.unit) (round_of k) init c.0) (and_from _ _ (and_from _ _ b.0 c.1) a.1) }
gives p safe m h v (Cleans [] ∷ k) q = gives p safe m h v k q
gives p safe m h v (Cleans (w ∷ ws) ∷ k) q =
    let a = and_parts (is_good p (safe h.unit) (round_of k) (Cleans (w ∷ ws))) (are_good p safe h.unit h.temporaries k) q in
    let b = and_parts (may_wait (safe h.unit) (is_outside k) w.address w.destroys) (all_wait (safe h.unit) (is_outside k) ws) a.0 in
    let c = and_parts (is_alone (safe h.unit) (is_outside k) w.address) (are_tame (safe h.unit) (is_outside k) w.destroys) b.0 in
    record { hidden = refl; good = and_from _ _ (alone_runs (safe h.unit) (round_of k) w.address c.0) (and_from _ _ c.1 (and_from _ _ b.1 a.1)) }
gives p safe m h v (Due none ∷ k) q = gives p safe m h v k q
gives p safe m h v (Due (more t ts) ∷ k) q = let a = and_parts (is_good p (safe h.unit) (round_of k) (Due (more t ts)))
    (are_good p safe h.unit h.temporaries k) q in let b = and_parts (is_tame (safe h.unit) (is_outside k) t) (are_tame (safe h.unit) (is_outside k) ts) a.0 in
    destroys p safe m h v t ts k b.0 b.1 a.1
gives p safe m h v (Destroys number address stride zero ∷ k) q = let a =
    and_parts (is_good p (safe h.unit) (round_of k) (Destroys number address stride zero)) (are_good p safe h.unit h.temporaries k) q in
    gives p safe m h v k a.1
gives p safe m h v (Destroys number address stride (suc n) ∷ k) q = let a =
    and_parts (is_good p (safe h.unit) (round_of k) (Destroys number address stride (suc n))) (are_good p safe h.unit h.temporaries k) q in
    enters p safe h _ (p.func number) (Destroys number address stride n ∷ k) (m.funcs number) a.0 q
gives p safe m h v (Parts none target source ∷ k) q = gives p safe m h v k q
gives p safe m h v (Parts (more t ts) target source ∷ k) q = let a =
    and_parts (is_good p (safe h.unit) (round_of k) (Parts (more t ts) target source)) (are_good p safe h.unit h.temporaries k) q in let b =
    and_parts (runs (safe h.unit) (round_of k) t) (run_all (safe h.unit) (round_of k) ts) a.0 in
    record { hidden = refl; good = and_from _ _ b.0 (and_from _ _ b.1 a.1) }
gives p safe m h v (Each init ds stride zero target source ∷ k) q = let a =
    and_parts (is_good p (safe h.unit) (round_of k) (Each init ds stride zero target source)) (are_good p safe h.unit h.temporaries k) q in
    gives p safe m h v k a.1
gives p safe m h v (Each init ds stride (suc n) target source ∷ k) q =
    let a = and_parts (is_good p (safe h.unit) (round_of k) (Each init ds stride (suc n) target source)) (are_good p safe h.unit h.temporaries k) q in
    let b = and_parts (has of_pieces (round_of k)) (is_alone (safe h.unit) (is_outside k) init && are_tame (safe h.unit) (is_outside k) ds) a.0 in
    let c = and_parts (is_alone (safe h.unit) (is_outside k) init) (are_tame (safe h.unit) (is_outside k) ds) b.1 in
    record { hidden = refl; good = and_from _ _ (alone_runs (safe h.unit) (round_of k) init c.0) (and_from _ _ (and_from _ _ b.0 c.1) q) }
gives p safe m h v (Items none ∷ k) q = gives p safe m h 0 k q
gives p safe m h v (Items (more t ts) ∷ k) q = let a =
    and_parts (is_good p (safe h.unit) (round_of k) (Items (more t ts))) (are_good p safe h.unit h.temporaries k) q in let b =
    and_parts (runs (safe h.unit) (round_of k) t) (run_all (safe h.unit) (round_of k) ts) a.0 in
    record { hidden = refl; good = and_from _ _ b.0 (and_from _ _ b.1 a.1) }
gives p safe m h v (Test test body step ∷ k) q = let a =
    and_parts (is_good p (safe h.unit) (round_of k) (Test test body step)) (are_good p safe h.unit h.temporaries k) q in
    tests p safe h v test body step k a.0 a.1
gives p safe m h v (Body test body step ∷ k) q = let a =
    and_parts (is_good p (safe h.unit) (round_of k) (Body test body step)) (are_good p safe h.unit h.temporaries k) q in
    steps p safe h v test body step k a.0 a.1
gives p safe m h v (Step test body step ∷ k) q = let a =
    and_parts (is_good p (safe h.unit) (round_of k) (Step test body step)) (are_good p safe h.unit h.temporaries k) q in
    again p safe h v test body step k a.0 a.1
gives p safe m h v (Picks items ∷ k) q = let a = and_parts (is_good p (safe h.unit) (round_of k) (Picks items)) (are_good p safe h.unit h.temporaries k) q in
    compares p safe h v (from_label is_case items) items k (labelled (safe h.unit) (is_outside k) is_case items a.0) a.0 a.1
gives p safe m h v (Compares w label ts items ∷ k) q =
    let a = and_parts (is_good p (safe h.unit) (round_of k) (Compares w label ts items)) (are_good p safe h.unit h.temporaries k) q in
    let b = and_parts (are_within (safe h.unit) of_block (is_outside k) ts) (are_within (safe h.unit) of_block (is_outside k) items) a.0 in
    either p safe (case_word label == w) _ _ (runs_items p safe h ts k b.0 a.1)
    (compares p safe h w (from_label is_case ts) items k (labelled (safe h.unit) (is_outside k) is_case ts b.0) b.1 a.1)
gives p safe m h v (Switches ∷ k) q = gives p safe m h 0 k q
gives p safe m h v (Returning ∷ k) q = leaves p safe h (returns v) k q
gives p safe m h v (Opens (AtomicBlock kind) body ∷ k) q = let a =
    and_parts (is_good p (safe h.unit) (round_of k) (Opens (AtomicBlock kind) body)) (are_good p safe h.unit h.temporaries k) q in
    record { hidden = refl; good = and_from _ _ (alone_runs (safe h.unit) (round_of (Within (AtomicBlock kind) ∷ k)) body a.0) a.1 }
gives p safe m h v (Opens Sync body ∷ k) q = let a = and_parts (is_good p (safe h.unit) (round_of k) (Opens Sync body))
    (are_good p safe h.unit h.temporaries k) q in record {
      hidden = refl;
      good = and_from _ _
          (alone_runs (safe h.unit) (round_of (Within Sync ∷ k)) body a.0) a.1;
    }
gives p safe m h v (Within Sync ∷ k) q = record { hidden = refl; good = q }
gives p safe m h v (Within (AtomicBlock kind) ∷ k) q = record { hidden = refl; good = q }
gives p safe m h v (Closes block ∷ k) q = gives p safe m h 0 k q
gives p safe m h v (Throws t fields ∷ k) q = record { hidden = refl; good = q }
gives p safe m h v (Fills t from none bytes ∷ k) q = leaves p safe h (throws (record { typ = t; bytes = bytes })) k q
gives p safe m h v (Fills t from (more field others) bytes ∷ k) q = fills p safe h t from (kind_of field) others bytes k q
gives p safe m h v (Filled t from offset kind others bytes ∷ k) q = record { hidden = refl; good = q }
gives p safe m h v (Tries handlers ∷ k) q = let a = and_parts (is_good p (safe h.unit) (round_of k) (Tries handlers))
    (are_good p safe h.unit h.temporaries k) q in gives p safe m h 0 k a.1
gives p safe m h v (Trying e handler others ∷ k) q =
    let a = and_parts (is_good p (safe h.unit) (round_of k) (Trying e handler others)) (are_good p safe h.unit h.temporaries k) q in
    let b = and_parts (is_tame (safe h.unit) (is_outside k) handler && is_handler (kind_of handler)) (are_caught (safe h.unit) (is_outside k) others) a.0 in
    let c = and_parts (is_tame (safe h.unit) (is_outside k) handler) (is_handler (kind_of handler)) b.0 in
    either p safe (catches p.classes (typ_in handler) e.typ) _ _ (handles p safe h e handler k c.0 c.1 a.1)
    (leaves p safe h (throws e) (Tries others ∷ k) (and_from _ _ b.1 a.1))
gives p safe m h v (Takes e base none ∷ k) q = gives p safe m h 0 k q
gives p safe m h v (Takes e base (more field others) ∷ k) q = takes p safe h e base (kind_of field) others k q
gives p safe m h v (Taking e base offset kind ∷ k) q = record { hidden = refl; good = q }
gives p safe m h v (Handling e ∷ k) q = gives p safe m h v k q
gives p safe m h v (Starts true ∷ k) q = halts p safe h _ k
gives p safe m h v (Starts false ∷ k) q = record { hidden = refl; good = q }
gives p safe m h v (Halted end ∷ k) q = absurd (false≢true q)
gives p safe m h v (Ended ∷ k) q = record { hidden = refl; good = q }

-- The laws

goes_on : (p : Program) (safe : ℕ → ℕ → Bool) (m : IsTame p safe) (h : Here) (w : ℕ) (k : List Frame) → are_left p safe h.unit h.temporaries k ≡ true
    → Marked p safe (give p h w k)
goes_on p safe m h w (Halted end ∷ k) i = record { hidden = refl; good = refl }
goes_on p safe m h w [] i = gives p safe m h w [] i
goes_on p safe m h w (f ∷ k) i = gives p safe m h w (f ∷ k) i

test_of : (p : Program) (safe : ℕ → ℕ → Bool) (s : State) → Marked p safe s → is_marked p safe s ≡ true
test_of p safe s g = and_from _ _ g.hidden g.good

pub main_marked : (p : Program) (safe : ℕ → ℕ → Bool) → IsTame p safe → is_marked p safe (main_state p) ≡ true
main_marked p safe m = test_of p safe (main_state p) (enters p safe (empty_stack 0) [] (p.func p.main) (Starts true ∷ []) (m.funcs p.main)
    (or_right (has_safe_body (p.func p.main)) true refl) refl)

pub thread_marked : (p : Program) (safe : ℕ → ℕ → Bool) → IsTame p safe → (number func : ℕ) (arg : ℤ) → is_marked p safe (begins p number func arg) ≡ true
thread_marked p safe m number func arg = test_of p safe (begins p number func arg)
    (enters p safe (empty_stack number) (word_of arg ∷ []) (p.func func) (Starts false ∷ []) (m.funcs func)
    (or_right (has_safe_body (p.func func)) true refl) refl)

pub stays_marked : (p : Program) (safe : ℕ → ℕ → Bool) → IsTame p safe → StaysSafe p (is_marked p safe)
stays_marked p safe m = record {
  goes_on = λ s reply i. test_of p safe ((source p).after s reply) (goes_on p safe m s.here (reply_word reply) s.frames (and_parts _ _ i).1);
  starts = λ s number func arg i e. thread_marked p safe m number func arg;
  safe = λ s i. (and_parts _ _ i).0;
}
