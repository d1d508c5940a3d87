-- Inside a block no unsafe function is entered.
use Rattle.std.specs.Prelude.{◌≡◌, ℕ, zero, suc, ℤ, ◌+◌, Bool, true, false, ◌&&◌, ◌||◌, cond, nat_lt, List, [], ◌∷◌, ◌++◌, Option, Some, None, Result, Ok, Err}
use Rattle.std.specs.Prelude.{refl}
use Rattle.std.proofs.Common.{sym, ◌∙◌}
use Rattle.std.proofs.lemmas.Bool.{false≢true, and_parts}
use Rattle.cpp_tree.specs.tx_ints.Words.{word_of}
use Rattle.cpp_tree.specs.tx_ints.declared.kinds.ArithTrap.{ArithTrap}
use Rattle.cpp_tree.specs.tx_events.declared.Reply.{Reply}
use Rattle.cpp_tree.specs.tx_events.declared.End.TheVariants.{Trapped}
use Rattle.cpp_tree.specs.tx_events.declared.Trap.TheVariants.{UnsafeCall}
use Rattle.cpp_tree.specs.tx_events.Thread.{no_atomic}
use Rattle.cpp_tree.specs.declared.kinds.Builtin.{Builtin}
use Rattle.cpp_tree.specs.declared.kinds.Builtin.TheVariants.{PutChar, GetChar, Spawn as SpawnThread, Join as JoinThread, Abort as AbortProgram}
use Rattle.cpp_tree.specs.declared.kinds.TKind.{TKind}
use Rattle.cpp_tree.specs.declared.kinds.TKind.TheVariants.{Literal, Local, Global, Function, ClassTable, Materialize, Call, Builtin as CallBuiltin, Construct}
use Rattle.cpp_tree.specs.declared.kinds.TKind.TheVariants.{CopyConstruct, Case, Default, Handler, Destroy, Field}
use Rattle.cpp_tree.specs.Trees.{node, Trees, none, more, kind_of}
use Rattle.src_mean.specs.Linked.{Func, Program}
use Rattle.src_mean.specs.Frames.{Here, Way, Callee, known, virtual, pointer, builtin, Frame, Run, Gives, Loaded, Replied, Converts, Apply, Words, Slot}
use Rattle.src_mean.specs.Frames.{Pointer, Passes, Scope, of_call, Cleans, Due, Destroys, Parts, Each, Items, Switches, Closes, Fills, Tries, Takes, Handling}
use Rattle.src_mean.specs.Frames.{Halted, State, blocks_of}
use Rattle.src_mean.specs.Source.{halt, enter, enter_found, enter_pointed, is_safe, built_in, invoke, next_word, call_slot, destroy, run_node, finish, applied}
use Rattle.src_mean.specs.Source.{give, reply_word, result_words, target_of, source_of, source}
use Rattle.block_marks.specs.Marks.{is_tame_kind, are_placed, below, is_tame, are_tame, is_met, scope_for, runs, run_all, round_of, is_outside, has_safe_body}
use Rattle.block_marks.specs.Marks.{may_call, is_good, are_good, are_left, is_marked, IsTame}
use Rattle.block_marks.proofs.Calls.{Good}
use Rattle.block_marks.proofs.Nodes.{named}
use Rattle.safe_blocks.specs.UnsafeFree.{safe_func, safe_part}

abbrev Inside : State → Type 0
Inside s = is_outside s.frames ≡ false

-- Calls

round_either : (b : Bool) (s t : State) (o : Bool) → is_outside s.frames ≡ o → is_outside t.frames ≡ o → is_outside (cond b s t).frames ≡ o
round_either true s t o g h = g
round_either false s t o g h = h

entered_round : (h : Here) (ws : List ℕ) (fo : Option Func) (k : List Frame) → is_outside (enter h ws fo k).frames ≡ is_outside k
entered_round h ws None k = refl
entered_round h ws (Some f) k = round_either (nat_lt h.limit (h.end + f.size)) _ _ (is_outside k) refl refl

none_or : (b o : Bool) → b ≡ false → (b || o) ≡ true → o ≡ true
none_or true o e h = absurd (false≢true (sym e))
none_or false o e h = h

enter_by : (h : Here) (ws : List ℕ) (f : Func) (k : List Frame) (b : Bool) → f.safe ≡ b → (f.safe || is_outside k) ≡ true → Inside (enter h ws (Some f) k)
    → enter h ws (cond b (Some f) None) k ≡ enter h ws (Some f) k
enter_by h ws f k true e i n = refl
enter_by h ws f k false e i n = absurd (false≢true (sym n ∙ entered_round h ws (Some f) k ∙ none_or f.safe (is_outside k) e i))

enters_same : (h : Here) (ws : List ℕ) (fo : Option Func) (k : List Frame) → (has_safe_body fo || is_outside k) ≡ true → Inside (enter h ws fo k)
    → enter h ws (safe_func fo) k ≡ enter h ws fo k
enters_same h ws None k i n = refl
enters_same h ws (Some f) k i n = enter_by h ws f k f.safe refl i n

found_round : (h : Here) (ws : List ℕ) (fo : Option Func) (k : List Frame) → is_outside (enter_found h ws fo k).frames ≡ is_outside k
found_round h ws fo k = round_either (no_atomic (blocks_of k) || is_safe fo) _ _ (is_outside k) (entered_round h ws fo k) refl

both_stop : (o b : Bool) (a e u : State) → o ≡ false → b ≡ false → cond (o || false) a u ≡ cond (o || b) e u
both_stop false false a e u h g = refl
both_stop false true a e u h g = absurd (false≢true (sym g))
both_stop true b a e u h g = absurd (false≢true (sym h))

found_by : (h : Here) (ws : List ℕ) (f : Func) (k : List Frame) (b : Bool) → f.safe ≡ b → Inside (enter_found h ws (Some f) k)
    → enter_found h ws (cond b (Some f) None) k ≡ enter_found h ws (Some f) k
found_by h ws f k true e n = refl
found_by h ws f k false e n = both_stop (no_atomic (blocks_of k)) f.safe (enter h ws None k) (enter h ws (Some f) k) (halt h (Trapped UnsafeCall) k)
    (sym (found_round h ws (Some f) k) ∙ n) e

found_same : (h : Here) (ws : List ℕ) (fo : Option Func) (k : List Frame) → Inside (enter_found h ws fo k)
    → enter_found h ws (safe_func fo) k ≡ enter_found h ws fo k
found_same h ws None k n = refl
found_same h ws (Some f) k n = found_by h ws f k f.safe refl n

pointed_same : (p : Program) (h : Here) (ws : List ℕ) (o : Option ℕ) (k : List Frame) → Inside (enter_pointed p h ws o k)
    → enter_pointed (safe_part p) h ws o k ≡ enter_pointed p h ws o k
pointed_same p h ws None k n = refl
pointed_same p h ws (Some x) k n = found_same h ws (p.func x) k n

built_same : (p : Program) (h : Here) (b : Builtin) (ws : List ℕ) (k : List Frame) → built_in (safe_part p) h b ws k ≡ built_in p h b ws k
built_same p h PutChar ws k = refl
built_same p h GetChar ws k = refl
built_same p h SpawnThread ws k = refl
built_same p h JoinThread ws k = refl
built_same p h AbortProgram ws k = refl

invokes_same : (p : Program) (h : Here) (c : Callee) (ws : List ℕ) (k : List Frame) → may_call p (is_outside k) c ≡ true → Inside (invoke p h c ws k)
    → invoke (safe_part p) h c ws k ≡ invoke p h c ws k
invokes_same p h (known x) ws k i n = enters_same h ws (p.func x) k i n
invokes_same p h (virtual x) ws k i n = found_same h ws (p.func x) k n
invokes_same p h (pointer a sig) ws k i n = pointed_same p h ws (p.pointed a sig) k n
invokes_same p h (builtin b) ws k i n = built_same p h b ws k

next_same : (p : Program) (h : Here) (c : Callee) (ws : List ℕ) (ts : Trees) (k : List Frame) → may_call p (is_outside k) c ≡ true
    → Inside (next_word p h c ws ts k) → next_word (safe_part p) h c ws ts k ≡ next_word p h c ws ts k
next_same p h c ws none k i n = invokes_same p h c ws k i n
next_same p h c ws (more x xs) k i n = refl

slot_same : (p : Program) (h : Here) (o : Option ℕ) (ws : List ℕ) (ts : Trees) (k : List Frame) → Inside (call_slot p h o ws ts k)
    → call_slot (safe_part p) h o ws ts k ≡ call_slot p h o ws ts k
slot_same p h None ws ts k n = refl
slot_same p h (Some x) ws ts k n = next_same p h (virtual x) ws ts (Scope of_call true [] ∷ k) refl n

destroy_same : (p : Program) (h : Here) (a : ℕ) (kind : TKind) (ts : Trees) (k : List Frame) → destroy (safe_part p) h a kind ts k ≡ destroy p h a kind ts k
destroy_same p h a (Destroy f o c s) ts k = refl
destroy_same p h a kind ts k = refl

-- Nodes

nodes_same : (p : Program) (safe : ℕ → ℕ → Bool) (m : IsTame p safe) (h : Here) (way : Way) (kind : TKind) (kids : Trees) (other done : ℕ → State)
    (k : List Frame) → (is_tame_kind (safe h.unit) kind || is_outside k) ≡ true
    → ((w : ℕ) → Inside (done w) → other w ≡ done w) → Inside (run_node p h way kind kids done k)
    → run_node (safe_part p) h way kind kids other k ≡ run_node p h way kind kids done k
nodes_same p safe m h way (Literal w) kids other done k i g n = g _ n
nodes_same p safe m h way (Local place) kids other done k i g n = g _ n
nodes_same p safe m h way (Global x) kids other done k i g n = g _ n
nodes_same p safe m h way (Function x) kids other done k i g n = g _ n
nodes_same p safe m h way (ClassTable x) kids other done k i g n = g _ n
nodes_same p safe m h way (Case w) kids other done k i g n = g _ n
nodes_same p safe m h way Default kids other done k i g n = g _ n
nodes_same p safe m h way (Handler place) kids other done k i g n = g _ n
nodes_same p safe m h way (Destroy f o c s) kids other done k i g n = g _ n
nodes_same p safe m h way (Field o c) kids other done k i g n = g _ n
nodes_same p safe m h way (Materialize place true) kids other done k i g n = refl
nodes_same p safe m h way (Materialize place false) kids other done k i g n = refl
nodes_same p safe m h way (Call f) kids other done k i g n =
    next_same p h (known (p.number h.unit f)) (result_words way) kids (Scope of_call true [] ∷ k) (named p safe m h.unit f (is_outside k) i) n
nodes_same p safe m h way (Construct f) kids other done k i g n =
    next_same p h (known (p.number h.unit f)) (target_of way ∷ []) kids (Scope of_call true [] ∷ k) (named p safe m h.unit f (is_outside k) i) n
nodes_same p safe m h way (CopyConstruct f) kids other done k i g n =
    enters_same h (target_of way ∷ source_of way ∷ []) (p.func (p.number h.unit f)) k (named p safe m h.unit f (is_outside k) i) n
nodes_same p safe m h way (CallBuiltin b) kids other done k i g n = next_same p h (builtin b) [] kids k i n
nodes_same p safe m h way kind kids other done k i g n = refl

-- Values

finish_same : (r : Result ℤ ArithTrap) (h : Here) (other on : ℤ → State) (k : List Frame) → ((z : ℤ) → Inside (on z) → other z ≡ on z)
    → Inside (finish r h on k) → finish r h other k ≡ finish r h on k
finish_same (Ok z) h other on k g n = g z n
finish_same (Err trap) h other on k g n = refl

gives_same : (p : Program) (safe : ℕ → ℕ → Bool) (m : IsTame p safe) (h : Here) (v : ℕ) (k : List Frame) → Good p safe h k → Inside (give p h v k)
    → give (safe_part p) h v k ≡ give p h v k
gives_same p safe m h v [] q n = refl
gives_same p safe m h v (Run way (node kind t cat place kids) ∷ k) q n =
    let a = and_parts (runs (safe h.unit) (round_of k) (node kind t cat place kids)) (are_good p safe h.unit h.temporaries k) q in
    let b = and_parts (is_tame (safe h.unit) (is_outside k) (node kind t cat place kids)) (is_met (round_of k) (scope_for kind)) a.0 in
    let c = and_parts (is_tame_kind (safe h.unit) kind || is_outside k) (are_placed kind kids && are_tame (safe h.unit) (below kind (is_outside k)) kids) b.0 in
    nodes_same p safe m h way kind kids (λ w. give (safe_part p) h w k) (λ w. give p h w k) k c.0 (λ w. gives_same p safe m h w k a.1) n
gives_same p safe m h v (Gives w ∷ k) q n = gives_same p safe m h w k q n
gives_same p safe m h v (Loaded kind ∷ k) q n = gives_same p safe m h _ k q n
gives_same p safe m h v (Replied ∷ k) q n = gives_same p safe m h v k q n
gives_same p safe m h v (Converts kind ∷ k) q n = gives_same p safe m h _ k q n
gives_same p safe m h v (Apply op kind left ∷ k) q n =
    finish_same (applied op kind left v) h (λ z. give (safe_part p) h (word_of z) k) (λ z. give p h (word_of z) k) k
    (λ z. gives_same p safe m h (word_of z) k q) n
gives_same p safe m h v (Words callee before others ∷ k) q n =
    let a = and_parts (is_good p (safe h.unit) (round_of k) (Words callee before others)) (are_good p safe h.unit h.temporaries k) q in
    let b = and_parts (may_call p (is_outside k) callee) (run_all (safe h.unit) (round_of k) others) a.0 in
    next_same p h callee (before ++ v ∷ []) others k b.0 n
gives_same p safe m h v (Slot before class slot others ∷ k) q n = slot_same p h (p.slot v class slot) before others k n
gives_same p safe m h v (Pointer before sig others ∷ k) q n = next_same p h (pointer v sig) before others (Scope of_call true [] ∷ k) refl n
gives_same p safe m h v (Passes [] places ∷ k) q n = gives_same p safe m h 0 k
    (and_parts (is_good p (safe h.unit) (round_of k) (Passes [] places)) (are_good p safe h.unit h.temporaries k) q).1 n
gives_same p safe m h v (Passes (w ∷ ws) [] ∷ k) q n = gives_same p safe m h 0 k q n
gives_same p safe m h v (Passes (w ∷ ws) (place ∷ places) ∷ k) q n = refl
gives_same p safe m h v (Cleans [] ∷ k) q n = gives_same p safe m h v k q n
gives_same p safe m h v (Cleans (w ∷ ws) ∷ k) q n = refl
gives_same p safe m h v (Due none ∷ k) q n = gives_same p safe m h v k q n
gives_same p safe m h v (Due (more t ts) ∷ k) q n = destroy_same p h v (kind_of t) ts k
gives_same p safe m h v (Destroys number address stride zero ∷ k) q n =
    gives_same p safe m h v k (and_parts (has_safe_body (p.func number) || is_outside k) (are_good p safe h.unit h.temporaries k) q).1 n
gives_same p safe m h v (Destroys number address stride (suc x) ∷ k) q n =
    enters_same h _ (p.func number) (Destroys number address stride x ∷ k)
    (and_parts (has_safe_body (p.func number) || is_outside k) (are_good p safe h.unit h.temporaries k) q).0 n
gives_same p safe m h v (Parts none target source ∷ k) q n = gives_same p safe m h v k q n
gives_same p safe m h v (Parts (more t ts) target source ∷ k) q n = refl
gives_same p safe m h v (Each init ds stride zero target source ∷ k) q n =
    gives_same p safe m h v k (and_parts (is_good p (safe h.unit) (round_of k) (Each init ds stride zero target source))
    (are_good p safe h.unit h.temporaries k) q).1 n
gives_same p safe m h v (Each init ds stride (suc x) target source ∷ k) q n = refl
gives_same p safe m h v (Items none ∷ k) q n = gives_same p safe m h 0 k q n
gives_same p safe m h v (Items (more t ts) ∷ k) q n = refl
gives_same p safe m h v (Switches ∷ k) q n = gives_same p safe m h 0 k q n
gives_same p safe m h v (Closes block ∷ k) q n = gives_same p safe m h 0 k q n
gives_same p safe m h v (Fills t from none bytes ∷ k) q n = refl
gives_same p safe m h v (Fills t from (more field others) bytes ∷ k) q n = refl
gives_same p safe m h v (Tries handlers ∷ k) q n = gives_same p safe m h 0 k
    (and_parts (is_good p (safe h.unit) (round_of k) (Tries handlers)) (are_good p safe h.unit h.temporaries k) q).1 n
gives_same p safe m h v (Takes e base none ∷ k) q n = gives_same p safe m h 0 k q n
gives_same p safe m h v (Takes e base (more field others) ∷ k) q n = refl
gives_same p safe m h v (Handling e ∷ k) q n = gives_same p safe m h v k q n
gives_same p safe m h v (Halted end ∷ k) q n = refl
gives_same p safe m h v (f ∷ k) q n = refl

left_same : (p : Program) (safe : ℕ → ℕ → Bool) (m : IsTame p safe) (h : Here) (v : ℕ) (k : List Frame) → are_left p safe h.unit h.temporaries k ≡ true
    → Inside (give p h v k) → give (safe_part p) h v k ≡ give p h v k
left_same p safe m h v (Halted end ∷ k) q n = refl
left_same p safe m h v [] q n = refl
left_same p safe m h v (f ∷ k) q n = gives_same p safe m h v (f ∷ k) q n

pub marked_same : (p : Program) (safe : ℕ → ℕ → Bool) (m : IsTame p safe) (s : State) (reply : Reply) → is_marked p safe s ≡ true
    → no_atomic ((source p).blocks ((source p).after s reply)) ≡ false → (source (safe_part p)).after s reply ≡ (source p).after s reply
marked_same p safe m s reply i n = left_same p safe m s.here (reply_word reply) s.frames (and_parts _ _ i).1 n
