-- The open blocks of a thread are those that its events open and close.
use Rattle.std.specs.Prelude.{◌≡◌, ℕ, zero, suc, ℤ, ◌<◌, ◌*◌, ◌^◌, ◌%◌, Bool, true, false, not, cond, nat_lt, ◌&&◌, ◌||◌, ◌==◌, ◌+◌, List, [], ◌∷◌, ◌++◌}
use Rattle.std.specs.Prelude.{Option, Some, None, Result, Ok, Err, refl}
use Rattle.std.proofs.Common.{sym, ap, subst, arith, lt-ltb, ◌∙◌}
use Rattle.std.proofs.lemmas.Bool.{false≢true}
use Rattle.std.proofs.lemmas.Nat.{pow_pos}
use Rattle.std.specs.List.{list_all}
use Rattle.cpp_tree.specs.tx_events.declared.End.TheVariants.{Terminate, Trapped}
use Rattle.cpp_tree.specs.tx_ints.declared.kinds.ArithTrap.TheVariants.{Overflow as Overflows, DivideByZero as DividesByZero, ShiftRange as ShiftsBeyond}
use Rattle.cpp_tree.specs.tx_events.declared.Reply.TheVariants.{Nothing}
use Rattle.cpp_tree.specs.tx_ints.declared.kinds.ArithTrap.{ArithTrap}
use Rattle.cpp_tree.specs.tx_ints.Words.{word_of}
use Rattle.cpp_tree.specs.tx_ints.declared.kinds.IntKind.TheVariants.{Bool as BoolKind, Char, SChar, UChar, Short, UShort, Int, UInt, Long, ULong, LLong}
use Rattle.cpp_tree.specs.tx_ints.declared.kinds.IntKind.TheVariants.{ULLong}
use Rattle.cpp_tree.specs.tx_ints.declared.kinds.IntKind.{IntKind}
use Rattle.cpp_tree.specs.cpp_layout.Layout.{kind_size}
use Rattle.cpp_tree.specs.tx_events.declared.BlockKind.TheVariants.{NoExcept, Commit, Cancel}
use Rattle.cpp_tree.specs.tx_events.declared.Event.{Event}
use Rattle.cpp_tree.specs.tx_events.declared.Event.TheVariants.{Silent, Load as Reads, Store as Writes, Out, Inp, Spawn as Spawns, Join as Joins, BeginAtomic}
use Rattle.cpp_tree.specs.tx_events.declared.Event.TheVariants.{EndAtomic, Raise, BeginSync, EndSync, Done, Stop}
use Rattle.cpp_tree.specs.tx_events.declared.Reply.{Reply}
use Rattle.cpp_tree.specs.tx_events.Thread.{Open, Atomic as AtomicBlock, Sync, Lawful, no_atomic, blocks_after, is_silent, is_size, is_empty, is_own_end}
use Rattle.cpp_tree.specs.tx_events.Thread.{may_come}
use Rattle.cpp_tree.specs.cpp_types.Typ.{Typ}
use Rattle.cpp_tree.specs.declared.kinds.Builtin.{Builtin}
use Rattle.cpp_tree.specs.declared.kinds.Builtin.TheVariants.{PutChar, GetChar, Spawn as SpawnThread, Join as JoinThread, Abort as AbortProgram}
use Rattle.cpp_tree.specs.declared.kinds.TKind.{TKind}
use Rattle.cpp_tree.specs.declared.kinds.TKind.TheVariants.{Literal, Local, Global, Function, ClassTable, Materialize, CopyScalar, Call, Builtin as CallBuiltin}
use Rattle.cpp_tree.specs.declared.kinds.TKind.TheVariants.{Rethrow, Construct, CopyConstruct, Loop, Case, Default, Break, Continue, Return, Handler, Atomic}
use Rattle.cpp_tree.specs.declared.kinds.TKind.TheVariants.{Destroy, Field}
use Rattle.cpp_tree.specs.Trees.{Tree, node, Trees, none, more, kind_of, typ_in}
use Rattle.src_mean.specs.Linked.{Func, Program}
use Rattle.src_mean.specs.Exceptions.{Exception, is_object_typ, catches, read_bytes}
use Rattle.src_mean.specs.Frames.{Here, Way, Exit, throws, returns, breaks, continues, Waiting, Owner, Callee, known, virtual, pointer, builtin, Frame, Run}
use Rattle.src_mean.specs.Frames.{Gives, Leaves, Loads, Loaded, Replied, StoreTo, UpdateAt, UpdateOld, Filled, Converts, Apply, UpdateBy, Words, Slot, Pointer}
use Rattle.src_mean.specs.Frames.{Passes, Called, Full, Scope, Waits, Cleans, Due, Destroys, Parts, Each, Items, Test, Body, Picks, Compares, Switches}
use Rattle.src_mean.specs.Frames.{Returning, Opens, Within, Closes, Fills, Tries, Trying, Takes, Taking, Handling, Starts, Halted, Ended, State, at, blocks_of}
use Rattle.src_mean.specs.Frames.{handled, puts, puts_some, same_owner}
use Rattle.src_mean.specs.Source.{trap_of, finish, enter, enter_found, enter_pointed, is_safe, spawn, built_in, invoke, next_word, call, call_slot, halt, leave}
use Rattle.src_mean.specs.Source.{leave_call, try_first, is_throw, rethrow, return_value, first_part, destroy, handle, take_field, fill_field, compare}
use Rattle.src_mean.specs.Source.{from_label, is_case, run_node, give, reply_word, result_words, target_of, source_of, case_word, applied, read, write}
use Rattle.src_mean.specs.Source.{converted, updated, plus, stored_bytes, begins, main_state, empty_stack, source}
use Rattle.src_mean.specs.Laws.{closes_block, LeftOnce, is_passed, is_last, quiet, opens, closes, is_plain, is_done, settled, IsSettled, follows, is_hidden}
use Rattle.src_mean.specs.Laws.{GoesOn, Begins, StaysSafe, IsSafeState}

-- a settled state with these blocks
pub record Good (bs : List Open) (s : State) : Type 0 where
  pub settled : settled s.event s.frames ≡ true
  pub same : blocks_of s.frames ≡ bs

left : (a b : Bool) → (a && b) ≡ true → a ≡ true
left true b h = refl
left false b h = absurd (false≢true h)

right : (a b : Bool) → (a && b) ≡ true → b ≡ true
right true b h = h
right false b h = absurd (false≢true h)

either : (b : Bool) (bs : List Open) (s t : State) → Good bs s → Good bs t → Good bs (cond b s t)
either true bs s t g h = g
either false bs s t g h = h

enters : (h : Here) (ws : List ℕ) (f : Option Func) (k : List Frame) → quiet k ≡ true → Good (blocks_of k) (enter h ws f k)
enters h ws None k q = record { settled = q; same = refl }
enters h ws (Some f) k q = either (nat_lt h.limit (h.end + f.size)) (blocks_of k) _ _ (record { settled = q; same = refl })
    (record { settled = q; same = refl })

enters_found : (h : Here) (ws : List ℕ) (f : Option Func) (k : List Frame) → quiet k ≡ true → Good (blocks_of k) (enter_found h ws f k)
enters_found h ws f k q = either (no_atomic (blocks_of k) || is_safe f) (blocks_of k) _ _ (enters h ws f k q) (record { settled = q; same = refl })

enters_pointed : (p : Program) (h : Here) (ws : List ℕ) (f : Option ℕ) (k : List Frame) → quiet k ≡ true → Good (blocks_of k) (enter_pointed p h ws f k)
enters_pointed p h ws None k q = record { settled = q; same = refl }
enters_pointed p h ws (Some n) k q = enters_found h ws (p.func n) k q

size_of_kind : (kind : IntKind) → is_size (kind_size kind) ≡ true
size_of_kind BoolKind = refl
size_of_kind Char = refl
size_of_kind SChar = refl
size_of_kind UChar = refl
size_of_kind Short = refl
size_of_kind UShort = refl
size_of_kind Int = refl
size_of_kind UInt = refl
size_of_kind Long = refl
size_of_kind ULong = refl
size_of_kind LLong = refl
size_of_kind ULLong = refl

both : (a b : Bool) → a ≡ true → b ≡ true → (a && b) ≡ true
both true b h g = g
both false b h g = absurd (false≢true h)

stored_fits : (kind : IntKind) (w : ℕ) → nat_lt (stored_bytes kind w) (2 ^ (8 * kind_size kind)) ≡ true
unfolding stored_bytes
stored_fits kind w =
    let positive : 0 < 2 ^ (8 * kind_size kind) = pow_pos (8 * kind_size kind) in
    lt-ltb (w % 2 ^ (8 * kind_size kind)) (2 ^ (8 * kind_size kind)) (omega (arith, positive))

reads : (h : Here) (address : ℕ) (kind : IntKind) (volatile : Bool) (k : List Frame) → quiet k ≡ true → Good (blocks_of k) (read h address kind volatile k)
reads h address kind volatile k q = record { settled = both (is_size (kind_size kind)) (quiet k) (size_of_kind kind) q; same = refl }

-- a store, behind which stands a frame that takes its reply
writes : (kind : IntKind) (w : ℕ) (k : List Frame) → quiet k ≡ true
    → ((is_size (kind_size kind) && nat_lt (stored_bytes kind w) (2 ^ (8 * kind_size kind))) && quiet k) ≡ true
writes kind w k q = both (is_size (kind_size kind) && nat_lt (stored_bytes kind w) (2 ^ (8 * kind_size kind))) (quiet k)
    (both (is_size (kind_size kind)) (nat_lt (stored_bytes kind w) (2 ^ (8 * kind_size kind))) (size_of_kind kind) (stored_fits kind w)) q

spawns : (h : Here) (f : Option ℕ) (arg : ℕ) (k : List Frame) → quiet k ≡ true → Good (blocks_of k) (spawn h f arg k)
spawns h None arg k q = record { settled = q; same = refl }
spawns h (Some n) arg k q = record { settled = q; same = refl }

builds_in : (p : Program) (h : Here) (b : Builtin) (ws : List ℕ) (k : List Frame) → quiet k ≡ true → Good (blocks_of k) (built_in p h b ws k)
builds_in p h PutChar ws k q = record { settled = q; same = refl }
builds_in p h GetChar ws k q = record { settled = q; same = refl }
builds_in p h SpawnThread ws k q = spawns h _ _ k q
builds_in p h JoinThread ws k q = record { settled = q; same = refl }
builds_in p h AbortProgram ws k q = record { settled = q; same = refl }

invokes : (p : Program) (h : Here) (c : Callee) (ws : List ℕ) (k : List Frame) → quiet k ≡ true → Good (blocks_of k) (invoke p h c ws k)
invokes p h (known n) ws k q = enters h ws (p.func n) k q
invokes p h (virtual n) ws k q = enters_found h ws (p.func n) k q
invokes p h (pointer a sig) ws k q = enters_pointed p h ws (p.pointed a sig) k q
invokes p h (builtin b) ws k q = builds_in p h b ws k q

next_words : (p : Program) (h : Here) (c : Callee) (ws : List ℕ) (ts : Trees) (k : List Frame) → quiet k ≡ true → Good (blocks_of k) (next_word p h c ws ts k)
next_words p h c ws none k q = invokes p h c ws k q
next_words p h c ws (more t ts) k q = record { settled = q; same = refl }

calls : (p : Program) (h : Here) (c : Callee) (ws : List ℕ) (ts : Trees) (k : List Frame) → quiet k ≡ true → Good (blocks_of k) (call p h c ws ts k)
calls p h c ws ts k q = next_words p h c ws ts (Scope _ true [] ∷ k) q

calls_slot : (p : Program) (h : Here) (f : Option ℕ) (ws : List ℕ) (ts : Trees) (k : List Frame) → quiet k ≡ true → Good (blocks_of k) (call_slot p h f ws ts k)
calls_slot p h None ws ts k q = record { settled = q; same = refl }
calls_slot p h (Some n) ws ts k q = calls p h (virtual n) ws ts k q

last_quiet : (k : List Frame) → is_last k ≡ true → quiet k ≡ true
last_quiet [] i = refl
last_quiet (f ∷ k) i = absurd (false≢true i)

leaves_call : (x : Exit) (h caller : Here) (stops : Bool) (k : List Frame) → quiet k ≡ true → Good (blocks_of k) (leave_call x h caller stops k)
leaves_call (throws e) h caller true k q = record { settled = q; same = refl }
leaves_call (throws e) h caller false k q = record { settled = q; same = refl }
leaves_call (returns w) h caller stops k q = record { settled = q; same = refl }
leaves_call breaks h caller stops k q = record { settled = q; same = refl }
leaves_call continues h caller stops k q = record { settled = q; same = refl }

tries_first : (h : Here) (e : Exception) (hs : Trees) (s : State) (k : List Frame) → quiet k ≡ true → Good (blocks_of k) s
    → Good (blocks_of k) (try_first h e hs s k)
tries_first h e none s k q g = g
tries_first h e (more t ts) s k q g = record { settled = q; same = refl }

leaves : (h : Here) (x : Exit) (k : List Frame) → quiet k ≡ true → Good (blocks_of k) (leave h x k)
leaves h x [] q = record { settled = refl; same = refl }
leaves h x (Opens block body ∷ k) q = absurd (false≢true q)
leaves h x (Closes block ∷ k) q = absurd (false≢true q)
leaves h x (Scope owner always ws ∷ k) q = either (always || is_throw x) (blocks_of k) _ _ (record { settled = q; same = refl }) (leaves h x k q)
leaves h x (Full outer ∷ k) q = record { settled = q; same = refl }
leaves h x (Within Sync ∷ k) q = record { settled = q; same = refl }
leaves h (throws e) (Within (AtomicBlock NoExcept) ∷ k) q = record { settled = q; same = refl }
leaves h (throws e) (Within (AtomicBlock Commit) ∷ k) q = record { settled = q; same = refl }
leaves h (throws e) (Within (AtomicBlock Cancel) ∷ k) q = record { settled = q; same = refl }
leaves h (returns w) (Within (AtomicBlock kind) ∷ k) q = record { settled = q; same = refl }
leaves h breaks (Within (AtomicBlock kind) ∷ k) q = record { settled = q; same = refl }
leaves h continues (Within (AtomicBlock kind) ∷ k) q = record { settled = q; same = refl }
leaves h x (Called caller stops ∷ k) q = leaves_call x h caller stops k q
leaves h (throws e) (Tries handlers ∷ k) q = tries_first h e handlers (leave h (throws e) k) k q (leaves h (throws e) k q)
leaves h breaks (Body test body step ∷ k) q = record { settled = q; same = refl }
leaves h continues (Body test body step ∷ k) q = record { settled = q; same = refl }
leaves h breaks (Switches ∷ k) q = record { settled = q; same = refl }
leaves h x (Starts main ∷ k) q = record { settled = q; same = refl }
leaves h x (Ended ∷ k) q = leaves h x k (last_quiet k q)
leaves h x (Halted end ∷ k) q = leaves h x k (right (is_own_end end) (quiet k) q)
leaves h x (f ∷ k) q = leaves h x k q

rethrows : (h : Here) (e : Option Exception) (k : List Frame) → quiet k ≡ true → Good (blocks_of k) (rethrow h e k)
rethrows h None k q = record { settled = q; same = refl }
rethrows h (Some e) k q = leaves h (throws e) k q

returns_value : (h : Here) (ts : Trees) (k : List Frame) → quiet k ≡ true → Good (blocks_of k) (return_value h ts k)
returns_value h none k q = leaves h (returns 0) k q
returns_value h (more t ts) k q = record { settled = q; same = refl }

first_parts : (h : Here) (b : Bool) (ts : Trees) (k : List Frame) → quiet k ≡ true → Good (blocks_of k) (first_part h b ts k)
first_parts h true ts k q = record { settled = q; same = refl }
first_parts h false ts k q = record { settled = q; same = refl }

nodes : (p : Program) (h : Here) (way : Way) (kind : TKind) (kids : Trees) (done : ℕ → State) (k : List Frame) → quiet k ≡ true
    → ((w : ℕ) → Good (blocks_of k) (done w)) → Good (blocks_of k) (run_node p h way kind kids done k)
nodes p h way (Literal w) kids done k q g = g _
nodes p h way (Local place) kids done k q g = g _
nodes p h way (Global n) kids done k q g = g _
nodes p h way (Function n) kids done k q g = g _
nodes p h way (ClassTable n) kids done k q g = g _
nodes p h way (Case w) kids done k q g = g _
nodes p h way Default kids done k q g = g _
nodes p h way (Handler place) kids done k q g = g _
nodes p h way (Destroy f o c s) kids done k q g = g _
nodes p h way (Field o c) kids done k q g = g _
nodes p h way (Materialize place true) kids done k q g = record { settled = q; same = refl }
nodes p h way (Materialize place false) kids done k q g = record { settled = q; same = refl }
nodes p h way (Call f) kids done k q g = calls p h (known (p.number h.unit f)) (result_words way) kids k q
nodes p h way (Construct f) kids done k q g = calls p h (known (p.number h.unit f)) (target_of way ∷ []) kids k q
nodes p h way (CallBuiltin b) kids done k q g = next_words p h (builtin b) [] kids k q
nodes p h way (CopyConstruct f) kids done k q g = enters h (target_of way ∷ source_of way ∷ []) (p.func (p.number h.unit f)) k q
nodes p h way Rethrow kids done k q g = rethrows h (handled k) k q
nodes p h way (Loop b) kids done k q g = first_parts h b kids k q
nodes p h way Break kids done k q g = leaves h breaks k q
nodes p h way Continue kids done k q g = leaves h continues k q
nodes p h way Return kids done k q g = returns_value h kids k q
nodes p h way (Atomic NoExcept) kids done k q g = record { settled = q; same = refl }
nodes p h way (Atomic Commit) kids done k q g = record { settled = q; same = refl }
nodes p h way (Atomic Cancel) kids done k q g = record { settled = q; same = refl }
nodes p h way (CopyScalar kind volatile) kids done k q g = reads h (source_of way) kind volatile (StoreTo (target_of way) kind volatile 0 ∷ k) q
nodes p h way kind kids done k q g = record { settled = q; same = refl }

-- Values

puts_last : (o : Owner) (w : Waiting) (k : List Frame) → is_last (puts o w k) ≡ is_last k
puts_last o w [] = refl
puts_last o w (Scope u always ws ∷ k) = elim (same_owner o u) as (λ b. is_last (cond b (Scope u always (w ∷ ws) ∷ k) (Scope u always ws ∷ puts o w k))
    ≡ false) [ true ↦ refl | false ↦ refl ]
puts_last o w (f ∷ k) = refl

puts_quiet : (o : Owner) (w : Waiting) (k : List Frame) → quiet (puts o w k) ≡ quiet k
puts_quiet o w [] = refl
puts_quiet o w (Scope u always ws ∷ k) = elim (same_owner o u) as (λ b. quiet (cond b (Scope u always (w ∷ ws) ∷ k) (Scope u always ws ∷ puts o w k))
    ≡ quiet k) [ true ↦ refl | false ↦ puts_quiet o w k ]
puts_quiet o w (Opens block body ∷ k) = refl
puts_quiet o w (Closes block ∷ k) = refl
puts_quiet o w (Starts main ∷ k) = puts_last o w k
puts_quiet o w (Ended ∷ k) = puts_last o w k
puts_quiet o w (Halted end ∷ k) = ap (λ b. is_own_end end && b) (puts_quiet o w k)
puts_quiet o w (f ∷ k) = puts_quiet o w k

puts_blocks : (o : Owner) (w : Waiting) (k : List Frame) → blocks_of (puts o w k) ≡ blocks_of k
puts_blocks o w [] = refl
puts_blocks o w (Scope u always ws ∷ k) = elim (same_owner o u) as (λ b. blocks_of (cond b (Scope u always (w ∷ ws) ∷ k) (Scope u always ws ∷ puts o w k))
    ≡ blocks_of k) [ true ↦ refl | false ↦ puts_blocks o w k ]
puts_blocks o w (Within block ∷ k) = ap (λ bs. block ∷ bs) (puts_blocks o w k)
puts_blocks o w (Closes block ∷ k) = ap (λ bs. block ∷ bs) (puts_blocks o w k)
puts_blocks o w (f ∷ k) = puts_blocks o w k

waits : (h : Here) (v : ℕ) (o : Owner) (address : Tree) (ds : Trees) (k : List Frame) → quiet k ≡ true
    → Good (blocks_of k) (at Silent h (Gives v ∷ puts_some o address ds k))
waits h v o address none k q = record { settled = q; same = refl }
waits h v o address (more d ds) k q = record { settled = puts_quiet o _ k ∙ q; same = puts_blocks o _ k }

own_trap : (trap : ArithTrap) → is_own_end (Trapped (trap_of trap)) ≡ true
own_trap Overflows = refl
own_trap DividesByZero = refl
own_trap ShiftsBeyond = refl

finishes : (r : Result ℤ ArithTrap) (h : Here) (on : ℤ → State) (k : List Frame) → quiet k ≡ true → ((z : ℤ) → Good (blocks_of k) (on z))
    → Good (blocks_of k) (finish r h on k)
finishes (Ok z) h on k q g = g z
finishes (Err trap) h on k q g = record {
  settled = both (is_own_end (Trapped (trap_of trap))) (is_own_end (Trapped (trap_of trap)) && quiet k) (own_trap trap)
      (both (is_own_end (Trapped (trap_of trap))) (quiet k) (own_trap trap) q);
  same = refl;
}

destroys : (p : Program) (h : Here) (a : ℕ) (kind : TKind) (ts : Trees) (k : List Frame) → quiet k ≡ true → Good (blocks_of k) (destroy p h a kind ts k)
destroys p h a (Destroy f o c s) ts k q = record { settled = q; same = refl }
destroys p h a kind ts k q = record { settled = q; same = refl }

handles : (h : Here) (e : Exception) (t : Tree) (k : List Frame) → quiet k ≡ true → Good (blocks_of k) (handle h e t k)
handles h e (node (Handler None) t cat place kids) k q = record { settled = q; same = refl }
handles h e (node (Handler (Some n)) t cat place kids) k q = record { settled = q; same = refl }
handles h e (node kind t cat place kids) k q = record { settled = q; same = refl }

takes : (h : Here) (e : Exception) (base : ℕ) (kind : TKind) (ts : Trees) (k : List Frame) → quiet k ≡ true → Good (blocks_of k) (take_field h e base kind ts k)
takes h e base (Field o c) ts k q = record { settled = q; same = refl }
takes h e base kind ts k q = record { settled = q; same = refl }

fills : (h : Here) (t : Typ) (from : ℕ) (kind : TKind) (ts : Trees) (bytes : List ℕ) (k : List Frame) → quiet k ≡ true
    → Good (blocks_of k) (fill_field h t from kind ts bytes k)
fills h t from (Field o c) ts bytes k q = either (is_object_typ t) (blocks_of k) _ _ (reads h (plus from o) c false (Filled t from o c ts bytes ∷ k) q)
    (record { settled = q; same = refl })
fills h t from kind ts bytes k q = record { settled = q; same = refl }

compares : (h : Here) (w : ℕ) (ts items : Trees) (k : List Frame) → quiet k ≡ true → Good (blocks_of k) (compare h w ts items k)
compares h w none items k q = record { settled = q; same = refl }
compares h w (more t ts) items k q = record { settled = q; same = refl }

gives : (p : Program) (h : Here) (v : ℕ) (k : List Frame) → quiet k ≡ true → Good (blocks_of k) (give p h v k)
gives p h v [] q = record { settled = refl; same = refl }
gives p h v (Opens block body ∷ k) q = absurd (false≢true q)
gives p h v (Closes block ∷ k) q = absurd (false≢true q)
gives p h v (Run way (node kind t cat place kids) ∷ k) q = nodes p h way kind kids (λ w. give p h w k) k q (λ w. gives p h w k q)
gives p h v (Gives w ∷ k) q = gives p h w k q
gives p h v (Leaves x ∷ k) q = leaves h x k q
gives p h v (Loads kind volatile ∷ k) q = reads h v kind volatile k q
gives p h v (Loaded kind ∷ k) q = gives p h _ k q
gives p h v (Replied ∷ k) q = gives p h v k q
gives p h v (StoreTo address kind volatile answer ∷ k) q = record { settled = writes kind v k q; same = refl }
gives p h v (UpdateAt c t ∷ k) q = reads h v c.stored c.volatile (UpdateOld c v t ∷ k) q
gives p h v (Converts kind ∷ k) q = gives p h _ k q
gives p h v (Apply op kind left ∷ k) q = finishes (applied op kind left v) h (λ z. give p h (word_of z) k) k q (λ z. gives p h (word_of z) k q)
gives p h v (UpdateBy c address old ∷ k) q = finishes (applied c.op c.operation old v) h
    (λ z. write h address c.stored c.volatile (converted c.stored (word_of z)) (Gives (updated c address old) ∷ k)) k q
    (λ z. record { settled = writes c.stored (converted c.stored (word_of z)) k q; same = refl })
gives p h v (Words callee before rest ∷ k) q = next_words p h callee (before ++ v ∷ []) rest k q
gives p h v (Slot before class slot words ∷ k) q = calls_slot p h (p.slot v class slot) before words k q
gives p h v (Pointer before sig words ∷ k) q = calls p h (pointer v sig) before words k q
gives p h v (Passes [] places ∷ k) q = gives p h 0 k q
gives p h v (Passes (w ∷ ws) [] ∷ k) q = gives p h 0 k q
gives p h v (Passes (w ∷ ws) (place ∷ places) ∷ k) q = record { settled = writes place.kind w k q; same = refl }
gives p h v (Waits owner address ds ∷ k) q = waits h v owner address ds k q
gives p h v (Cleans [] ∷ k) q = gives p h v k q
gives p h v (Cleans (w ∷ ws) ∷ k) q = record { settled = q; same = refl }
gives p h v (Due none ∷ k) q = gives p h v k q
gives p h v (Due (more t ts) ∷ k) q = destroys p h v (kind_of t) ts k q
gives p h v (Destroys n a s zero ∷ k) q = gives p h v k q
gives p h v (Destroys n a s (suc m) ∷ k) q = enters h _ (p.func n) (Destroys n a s m ∷ k) q
gives p h v (Parts none t s ∷ k) q = gives p h v k q
gives p h v (Parts (more x xs) t s ∷ k) q = record { settled = q; same = refl }
gives p h v (Each init ds stride zero t s ∷ k) q = gives p h v k q
gives p h v (Each init ds stride (suc n) t s ∷ k) q = record { settled = q; same = refl }
gives p h v (Items none ∷ k) q = gives p h 0 k q
gives p h v (Items (more t ts) ∷ k) q = record { settled = q; same = refl }
gives p h v (Test test body step ∷ k) q = either (v == 0) (blocks_of k) _ _ (record { settled = q; same = refl }) (record { settled = q; same = refl })
gives p h v (Picks items ∷ k) q = compares h v (from_label is_case items) items k q
gives p h v (Compares w label ts items ∷ k) q = either (case_word label == w) (blocks_of k) _ _ (record { settled = q; same = refl })
    (compares h w (from_label is_case ts) items k q)
gives p h v (Switches ∷ k) q = gives p h 0 k q
gives p h v (Returning ∷ k) q = leaves h (returns v) k q
gives p h v (Within Sync ∷ k) q = record { settled = q; same = refl }
gives p h v (Within (AtomicBlock kind) ∷ k) q = record { settled = q; same = refl }
gives p h v (Fills t from none bytes ∷ k) q = leaves h (throws (record { typ = t; bytes = bytes })) k q
gives p h v (Fills t from (more field rest) bytes ∷ k) q = fills h t from (kind_of field) rest bytes k q
gives p h v (Tries hs ∷ k) q = gives p h 0 k q
gives p h v (Trying e handler others ∷ k) q = either (catches p.classes (typ_in handler) e.typ) (blocks_of k) _ _ (handles h e handler k q)
    (leaves h (throws e) (Tries others ∷ k) q)
gives p h v (Takes e base none ∷ k) q = gives p h 0 k q
gives p h v (Takes e base (more field rest) ∷ k) q = takes h e base (kind_of field) rest k q
gives p h v (Taking e base offset kind ∷ k) q = record { settled = writes kind (read_bytes e.bytes offset (kind_size kind)) k q; same = refl }
gives p h v (Handling e ∷ k) q = gives p h v k q
gives p h v (Halted end ∷ k) q = record { settled = both (is_own_end end) (is_own_end end && quiet k) (left (is_own_end end) (quiet k) q) q; same = refl }
gives p h v (Starts true ∷ k) q = record { settled = last_quiet k q; same = refl }
gives p h v (Starts false ∷ k) q = record { settled = q; same = refl }
gives p h v (f ∷ k) q = record { settled = q; same = refl }

-- Events

plain_keeps : (e : Event) (bs : List Open) → is_plain e ≡ true → blocks_after e bs ≡ bs
plain_keeps Silent bs i = refl
plain_keeps (Reads a n v) bs i = refl
plain_keeps (Writes a n w v) bs i = refl
plain_keeps (Out b) bs i = refl
plain_keeps Inp bs i = refl
plain_keeps (Spawns f a) bs i = refl
plain_keeps (Joins n) bs i = refl
plain_keeps (Stop end) bs i = refl
plain_keeps e bs i = absurd (false≢true i)

silent_keeps : (e : Event) (bs : List Open) → is_silent e ≡ true → blocks_after e bs ≡ bs
silent_keeps Silent bs i = refl
silent_keeps e bs i = absurd (false≢true i)

done_keeps : (e : Event) (bs : List Open) → is_done e ≡ true → blocks_after e bs ≡ bs
done_keeps Done bs i = refl
done_keeps e bs i = absurd (false≢true i)

opening_adds : (e : Event) (block : Open) (bs : List Open) → opens e block ≡ true → blocks_after e bs ≡ block ∷ bs
opening_adds (BeginAtomic NoExcept) (AtomicBlock NoExcept) bs i = refl
opening_adds (BeginAtomic Commit) (AtomicBlock Commit) bs i = refl
opening_adds (BeginAtomic Cancel) (AtomicBlock Cancel) bs i = refl
opening_adds BeginSync Sync bs i = refl
opening_adds e block bs i = absurd (false≢true i)

closing_drops : (e : Event) (block : Open) (bs : List Open) → closes e block ≡ true → blocks_after e (block ∷ bs) ≡ bs
closing_drops EndAtomic (AtomicBlock kind) bs i = refl
closing_drops (Raise kind cancels) (AtomicBlock k) bs i = refl
closing_drops EndSync Sync bs i = refl
closing_drops e block bs i = absurd (false≢true i)

after_plain : (p : Program) (e : Event) (h : Here) (w : ℕ) (k : List Frame) → is_plain e ≡ true → quiet k ≡ true
    → Good (blocks_after e (blocks_of k)) (give p h w k)
after_plain p e h w k i q = record { settled = (gives p h w k q).settled; same = (gives p h w k q).same ∙ sym (plain_keeps e (blocks_of k) i) }

goes_on : (p : Program) (e : Event) (h : Here) (w : ℕ) (k : List Frame) → settled e k ≡ true → Good (blocks_after e (blocks_of k)) (give p h w k)
goes_on p e h w (Opens block body ∷ k) i = record {
  settled = right (opens e block) (quiet k) i;
  same = sym
      (opening_adds e block (blocks_of k) (left (opens e block) (quiet k) i));
}
goes_on p e h w (Closes block ∷ k) i = record {
  settled = (gives p h 0 k (right (closes e block) (quiet k) i)).settled;
  same =
      (gives p h 0 k (right (closes e block) (quiet k) i)).same ∙ sym (closing_drops e block (blocks_of k) (left (closes e block) (quiet k) i));
}
goes_on p e h w (Run way t ∷ k) i = record {
  settled = (gives p h w (Run way t ∷ k) (right (is_silent e) (quiet k) i)).settled;
  same =
      (gives p h w (Run way t ∷ k) (right (is_silent e) (quiet k) i)).same ∙ sym (silent_keeps e (blocks_of k) (left (is_silent e) (quiet k) i));
}
goes_on p e h w (Ended ∷ k) i = record { settled = right (is_done e) (is_last k) i; same = sym (done_keeps e (blocks_of k) (left (is_done e) (is_last k) i)) }
goes_on p e h w [] i = after_plain p e h w [] (left (is_plain e) true i) refl
goes_on p e h w (f ∷ k) i = after_plain p e h w (f ∷ k) (left (is_plain e) (quiet (f ∷ k)) i) (right (is_plain e) (quiet (f ∷ k)) i)

pub stays_settled : (p : Program) (s : State) (reply : Reply) → IsSettled s → GoesOn p s reply
stays_settled p s reply i = record {
  settled = (goes_on p s.event s.here (reply_word reply) s.frames i).settled;
  blocks =
      (goes_on p s.event s.here (reply_word reply) s.frames i).same;
}

-- The beginning

pub thread_begins : (p : Program) (number func : ℕ) (arg : ℤ) → Begins p (begins p number func arg)
thread_begins p number func arg =
    let good = enters (empty_stack number) (word_of arg ∷ []) (p.func func) (Starts false ∷ []) refl in
    record { settled = good.settled; free = good.same }

pub main_begins : (p : Program) → Begins p (main_state p)
main_begins p =
    let good = enters (empty_stack 0) [] (p.func p.main) (Starts true ∷ []) refl in
    record { settled = good.settled; free = good.same }

-- Which events come

plain_follows : (e : Event) (bs : List Open) → is_plain e ≡ true → follows e bs ≡ true
plain_follows Silent bs i = refl
plain_follows (Reads a n v) bs i = i
plain_follows (Writes a n w v) bs i = i
plain_follows (Out b) bs i = refl
plain_follows Inp bs i = refl
plain_follows (Spawns f a) bs i = refl
plain_follows (Joins n) bs i = refl
plain_follows (Stop end) bs i = i
plain_follows e bs i = absurd (false≢true i)

silent_follows : (e : Event) (bs : List Open) → is_silent e ≡ true → follows e bs ≡ true
silent_follows Silent bs i = refl
silent_follows e bs i = absurd (false≢true i)

opening_follows : (e : Event) (block : Open) (bs : List Open) → opens e block ≡ true → follows e bs ≡ true
opening_follows (BeginAtomic kind) block bs i = refl
opening_follows BeginSync block bs i = refl
opening_follows e block bs i = absurd (false≢true i)

closing_follows : (e : Event) (block : Open) (bs : List Open) → closes e block ≡ true → follows e (block ∷ bs) ≡ true
closing_follows EndAtomic (AtomicBlock kind) bs i = refl
closing_follows (Raise kind cancels) (AtomicBlock k) bs i = i
closing_follows EndSync Sync bs i = refl
closing_follows e block bs i = absurd (false≢true i)

last_blocks : (k : List Frame) → is_last k ≡ true → blocks_of k ≡ []
last_blocks [] i = refl
last_blocks (f ∷ k) i = absurd (false≢true i)

done_follows : (e : Event) (bs : List Open) → bs ≡ [] → is_done e ≡ true → follows e bs ≡ true
done_follows Done bs n i = ap is_empty n
done_follows e bs n i = absurd (false≢true i)

event_follows : (e : Event) (k : List Frame) → settled e k ≡ true → follows e (blocks_of k) ≡ true
event_follows e (Opens block body ∷ k) i = opening_follows e block (blocks_of k) (left (opens e block) (quiet k) i)
event_follows e (Closes block ∷ k) i = closing_follows e block (blocks_of k) (left (closes e block) (quiet k) i)
event_follows e (Run way t ∷ k) i = silent_follows e (blocks_of k) (left (is_silent e) (quiet k) i)
event_follows e (Ended ∷ k) i = done_follows e (blocks_of k) (last_blocks k (right (is_done e) (is_last k) i)) (left (is_done e) (is_last k) i)
event_follows e [] i = plain_follows e [] (left (is_plain e) true i)
event_follows e (f ∷ k) i = plain_follows e (blocks_of (f ∷ k)) (left (is_plain e) (quiet (f ∷ k)) i)

pub follows_blocks : (p : Program) (s : State) → IsSettled s → follows ((source p).next s) ((source p).blocks s) ≡ true
follows_blocks p s i = event_follows s.event s.frames i

pub node_entered : (s : State) (way : Way) (t : Tree) (k : List Frame) → IsSettled s → s.frames ≡ Run way t ∷ k → is_silent s.event ≡ true
node_entered s way t k i e = left (is_silent s.event) (quiet k) (subst (λ (fs : List Frame). settled s.event fs ≡ true) e i)

-- What safety adds makes a lawful thread

both_come : (e : Event) (bs : List Open) → follows e bs ≡ true → is_hidden e bs ≡ true → may_come e bs ≡ true
both_come (Reads a n v) bs f g = both (is_size n) (not v || no_atomic bs) f g
both_come (Writes a n w v) bs f g = both (is_size n && nat_lt w (2 ^ (8 * n))) (not v || no_atomic bs) f g
both_come Silent bs f g = refl
both_come (Out b) bs f g = g
both_come Inp bs f g = g
both_come (Spawns x a) bs f g = g
both_come (Joins n) bs f g = g
both_come (BeginAtomic kind) bs f g = refl
both_come EndAtomic bs f g = f
both_come (Raise kind cancels) bs f g = f
both_come BeginSync bs f g = refl
both_come EndSync bs f g = f
both_come Done bs f g = f
both_come (Stop end) bs f g = f

pub lawful_source : (p : Program) (test : State → Bool) → StaysSafe p test → Lawful State (IsSafeState test) (source p)
lawful_source p test safe = record {
  goes_on = λ s reply r a. record { settled = (stays_settled p s reply r.settled).settled; tested = safe.goes_on s reply r.tested };
  starts = λ s number func arg r e. record { settled = (thread_begins p number func arg).settled; tested = safe.starts s number func arg r.tested e };
  starts_free = λ s number func arg r e. (thread_begins p number func arg).free;
  comes = λ s r. both_come s.event (blocks_of s.frames) (follows_blocks p s r.settled) (safe.safe s r.tested);
  blocks = λ s reply r a. (stays_settled p s reply r.settled).blocks;
}

-- Leaving a block

closing_first : (e : Event) (k : List Frame) → settled e k ≡ true → closes_block e ≡ true → (block : Open) × (others : List Frame) × (k ≡ Closes block ∷ others)
closing_first e (Closes block ∷ k) i c = (block, k, refl)
closing_first EndAtomic (Opens block body ∷ k) i c = absurd (false≢true i)
closing_first (Raise kind cancels) (Opens block body ∷ k) i c = absurd (false≢true i)
closing_first EndSync (Opens block body ∷ k) i c = absurd (false≢true i)
closing_first EndAtomic (Run way t ∷ k) i c = absurd (false≢true i)
closing_first (Raise kind cancels) (Run way t ∷ k) i c = absurd (false≢true i)
closing_first EndSync (Run way t ∷ k) i c = absurd (false≢true i)
closing_first EndAtomic (Ended ∷ k) i c = absurd (false≢true i)
closing_first (Raise kind cancels) (Ended ∷ k) i c = absurd (false≢true i)
closing_first EndSync (Ended ∷ k) i c = absurd (false≢true i)
closing_first EndAtomic [] i c = absurd (false≢true i)
closing_first (Raise kind cancels) [] i c = absurd (false≢true i)
closing_first EndSync [] i c = absurd (false≢true i)
closing_first EndAtomic (f ∷ k) i c = absurd (false≢true i)
closing_first (Raise kind cancels) (f ∷ k) i c = absurd (false≢true i)
closing_first EndSync (f ∷ k) i c = absurd (false≢true i)
closing_first e k i c = absurd (false≢true c)

closed : (p : Program) (e : Event) (h : Here) (w : ℕ) (block : Open) (k : List Frame) → settled e (Closes block ∷ k) ≡ true
    → blocks_of (give p h w (Closes block ∷ k)).frames ≡ blocks_of k
closed p e h w block k i = (gives p h 0 k (right (closes e block) (quiet k) i)).same

pub leaves_once : (p : Program) (s : State) (reply : Reply) → IsSettled s → closes_block s.event ≡ true → LeftOnce p s reply
leaves_once p s reply i c =
    let f = closing_first s.event s.frames i c in
    record {
      block = f.0;
      others = f.1;
      first = f.2;
      before = ap blocks_of f.2;
      after = ap (λ (k : List Frame). blocks_of (give p s.here (reply_word reply) k).frames) f.2
          ∙ closed p s.event s.here (reply_word reply) f.0 f.1 (subst (λ (k : List Frame). settled s.event k ≡ true) f.2 i);
    }

-- An exception that comes to a function that stops it

stops_at : (h caller : Here) (e : Exception) (passed k : List Frame) → list_all is_passed passed ≡ true
    → leave h (throws e) (passed ++ Called caller true ∷ k) ≡ halt h Terminate k
stops_at h caller e [] k i = refl
stops_at h caller e (Scope owner always ws ∷ passed) k i = absurd (false≢true i)
stops_at h caller e (Full outer ∷ passed) k i = absurd (false≢true i)
stops_at h caller e (Within block ∷ passed) k i = absurd (false≢true i)
stops_at h caller e (Called other stops ∷ passed) k i = absurd (false≢true i)
stops_at h caller e (Tries handlers ∷ passed) k i = absurd (false≢true i)
stops_at h caller e (Starts main ∷ passed) k i = absurd (false≢true i)
stops_at h caller e (f ∷ passed) k i = stops_at h caller e passed k i

pub terminates_at : (p : Program) (h caller : Here) (e : Exception) (passed k : List Frame) → list_all is_passed passed ≡ true
    → ((source p).next ((source p).after (at Silent h (Leaves (throws e) ∷ (passed ++ Called caller true ∷ k))) Nothing)) ≡ Stop Terminate
terminates_at p h caller e passed k i = ap (λ (s : State). s.event) (stops_at h caller e passed k i)
