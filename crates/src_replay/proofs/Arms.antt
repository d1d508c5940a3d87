-- What an event of a thread does to the world, and what the code does.
use Rattle.std.proofs.Common.{ℕ, ℤ, pos, zero, suc, ◌≡◌, ◌<◌, ◌≤◌, ◌+◌, ◌^◌, ◌*◌, ◌&&◌, Bool, true, false, cond, Option, Some, None, is_some, option_map, List}
use Rattle.std.proofs.Common.{[], ◌∷◌, length, refl, ap, sym, ◌∙◌, subst, arith}
use Rattle.std.specs.Prelude.{nat_lt, if◌then◌else◌, slice_get}
use Rattle.std.proofs.Math.Path.{fun_ext}
use Rattle.std.proofs.lemmas.Bool.{false≢true, true≢false, ne_eqb}
use Rattle.std.proofs.lemmas.Option.{same_Some}
use Rattle.tx_events.specs.declared.TheConstants.{THREAD_LIMIT}
use Rattle.tx_events.specs.declared.End.{End}
use Rattle.tx_events.specs.declared.End.TheVariants.{Trapped}
use Rattle.tx_events.specs.declared.Trap.TheVariants.{BadAddress, BadJoin}
use Rattle.tx_events.specs.declared.Event.{Event}
use Rattle.tx_events.specs.declared.Event.TheVariants.{Silent, Load, Store, Out, Inp, Spawn, Join, BeginAtomic, EndAtomic, Raise, BeginSync, EndSync, Done}
use Rattle.tx_events.specs.declared.Event.TheVariants.{Stop}
use Rattle.tx_events.specs.declared.Reply.{Reply}
use Rattle.tx_events.specs.declared.Reply.TheVariants.{Nothing, Loaded, Byte, Id}
use Rattle.tx_events.specs.Memory.{MemoryLayout, update, can_access, load, store}
use Rattle.tx_events.specs.Thread.{Open, is_size}
use Rattle.tx_events.specs.World.{World as Worlds, Alive as Started, alive, goes, ends, EventStep, Joins, target, byte_of, input_after, first_world, only_first}
use Rattle.tx_memory.specs.View.{layout_of}
use Rattle.src_mean.specs.Frames.{State}
use Rattle.src_mean.specs.Laws.{IsSettled, follows}
use Rattle.src_mean.specs.Linked.{Program}
use Rattle.src_mean.specs.Source.{source}
use Rattle.src_mean.proofs.Blocks.{follows_blocks}
use Rattle.src_thread.specs.Thread.{shown}
use Rattle.src_replay.specs.declared.threads.Alive.{Alive}
use Rattle.src_replay.specs.declared.world.Entry.{Entry}
use Rattle.src_replay.specs.declared.world.Entry.TheVariants.{Taken}
use Rattle.src_replay.specs.declared.world.World.{World}
use Rattle.tx_events.specs.Alone.{Inner}
use Rattle.src_replay.specs.declared.nested.Nested.{Nested}
use Rattle.src_replay.specs.Entries.{has_ended, is_joinable}
use Rattle.src_replay.specs.Inner.{has_size}
use Rattle.src_replay.specs.Shown.{alive_in, threads_of, world_of, IsOf, Stand, Stands, IsSet, IsMore, Shows, WentOn, Took, InBlock}
use Rattle.src_replay.proofs.ThreadLists.{one_thread}
use Rattle.src_replay.proofs.Moves.{update_at, update_twice, update_between, moved, target_same}

-- one thread was changed
pub set_world : (z : Worlds State) (program : Program) (p : MemoryLayout) (t : ℕ) (x : Started State) (xs ys : List Alive) → IsSet program p t x xs ys
    → ◌≡◌ {A = Worlds State} (record z { threads = threads_of ys; started = length ys })
    (record z { threads = update (threads_of xs) t (Some x); started = length xs })
set_world z program p t x xs ys h = ap (λ f. record z { threads = f; started = length ys }) h.threads
    ∙ ap (λ n. record z { threads = update (threads_of xs) t (Some x); started = n }) h.count

-- the thread that stands there is between two events

at_some : (o : Option Alive) (s : State) → alive_in o ≡ alive s → (x : Alive) × (o ≡ Some x) × (shown x.thread ≡ s)
at_some None s e = let no : ◌≡◌ {A = Option (Started State)} None (alive s) = e in absurd cc
at_some (Some x) s e = (
  x,
  refl,
  ap (λ (z : Started State). z.state)
      (same_Some (record { state = shown x.thread; ended = x.ended }) (record { state = s; ended = false }) e),
)

pub settled_at : (program : Program) (p : MemoryLayout) (xs : List Alive) (t : ℕ) (s : State) → Stand program p xs → threads_of xs t ≡ alive s → IsSettled s
unfolding threads_of
settled_at program p xs t s stand e = let x = at_some (slice_get xs t) s e in subst IsSettled x.2 (stand.each t x.0 x.1).settled

sized : (e : Event) (bs : List Open) → follows e bs ≡ true → has_size e ≡ true
sized (Load addr size volatile) bs h = h
sized (Store addr size value volatile) bs h = h
sized Silent bs h = refl
sized (Out byte) bs h = refl
sized Inp bs h = refl
sized (Spawn func arg) bs h = refl
sized (Join id) bs h = refl
sized (BeginAtomic kind) bs h = refl
sized EndAtomic bs h = refl
sized (Raise kind cancels) bs h = refl
sized BeginSync bs h = refl
sized EndSync bs h = refl
sized Done bs h = refl
sized (Stop end) bs h = refl

pub sized_at : (program : Program) (p : MemoryLayout) (xs : List Alive) (t : ℕ) (s : State) → Stand program p xs → threads_of xs t ≡ alive s
    → has_size s.event ≡ true
sized_at program p xs t s stand e = sized s.event ((source program).blocks s) (follows_blocks program s (settled_at program p xs t s stand e))

module _ (t : ℕ) (w : Worlds State) (s : State) where
  -- the thread stands in its state
  pub stands_in : (x : Worlds State) → x ≡ goes t w s → x.threads t ≡ alive s
  stands_in x e = ap (λ (z : Worlds State). z.threads t) e ∙ update_at w.threads t (alive s)

  module _ (program : Program) where
    pub shows_going : (new : World) (v : Worlds State) → world_of new ≡ v → Shows new v
    shows_going new v e = record {
      end_is = ap (λ (z : Worlds State). z.end) e;
      out_is = ap (λ (z : Worlds State). z.out) e;
      started_is = ap (λ (z : Worlds State). z.started) e;
      all = λ h. e;
    }

    -- the world was changed beside its threads, and the thread went on
    pub took_moved : (event : Event) (reply : Reply) (change : Worlds State → Worlds State) (old mid new : World) (r : Entry) → world_of old ≡ goes t w s
        → world_of mid ≡ change (world_of old)
        → ((f : ℕ → Option (Started State)) → goes t (change (record w { threads = f })) ((source program).after s reply)
        ≡ record (change w) { threads = update f t (alive ((source program).after s reply)) })
        → EventStep (source program) (layout_of old.memory) t w s event
        (record (change w) { threads = update w.threads t (alive ((source program).after s reply)) })
        → layout_of mid.memory ≡ layout_of old.memory → mid.left ≡ old.left → WentOn program t s reply mid new r → Took program t w s event old new r
    took_moved event reply change old mid new r e m c does layout left g =
        let after = (source program).after s reply in
        record {
          taken = g.taken;
          world = record (change w) { threads = update w.threads t (alive after) };
          does = does;
          shows = shows_going new (record (change w) { threads = update w.threads t (alive after) })
              (moved t w s after (world_of old) (world_of new) change e (g.world ∙ ap (λ (z : Worlds State). goes t z after) m) c);
          stays = record { stands = g.stays.stands; layout = g.stays.layout ∙ layout };
          left = g.left ∙ left;
        }

    -- the program ended
    pub took_halted : (event : Event) (end : End) (old mid new : World) (r : Entry) → world_of old ≡ goes t w s → mid.out.items ≡ old.out.items
        → length mid.threads.alive.items ≡ length old.threads.alive.items → layout_of mid.memory ≡ layout_of old.memory → mid.left ≡ old.left → Stands program mid
        → EventStep (source program) (layout_of old.memory) t w s event (ends w end) → (r ≡ Taken) × (new ≡ record mid { end = Some end })
        → Took program t w s event old new r
    took_halted event end old mid new r e out count layout left stands does h = record {
      taken = h.0;
      world = ends w end;
      does = does;
      shows = record {
        end_is = ap (λ (z : World). z.end) h.1;
        out_is = ap (λ (z : World). z.out.items) h.1 ∙ (out ∙ ap (λ (z : Worlds State). z.out) e);
        started_is = ap (λ (z : World). length z.threads.alive.items) h.1 ∙ (count ∙ ap (λ (z : Worlds State). z.started) e);
        all = λ none. let no : Some end ≡ None = sym (ap (λ (z : World). z.end) h.1) ∙ none in absurd cc;
      };
      stays = record {
        stands = subst (λ (z : World). Stands program z) (sym h.1) stands;
        layout = ap (λ (z : World). layout_of z.memory) h.1 ∙ layout;
      };
      left = ap (λ (z : World). z.left) h.1 ∙ left;
    }

-- joins

pub joins_some : (t : ℕ) (w : Worlds State) (r : State) (o : Option (Started State)) → is_joinable o ≡ true → is_some (option_map has_ended o) ≡ true
    → Joins t w r o (goes t w r)
joins_some t w r None h i = absurd (false≢true i)
joins_some t w r (Some u) h i = (h, refl)

pub joins_none : (t : ℕ) (w : Worlds State) (r : State) (o : Option (Started State)) → is_some (option_map has_ended o) ≡ false
    → Joins t w r o (ends w (Trapped BadJoin))
joins_none t w r None h = refl
joins_none t w r (Some u) h = absurd (true≢false h)

-- a search among the threads at hand finds what one in the world does
pub target_in : (t : ℕ) (id : ℤ) (w : Worlds State) (s : State) (x : Worlds State) → x ≡ goes t w s → target t id x.threads ≡ target t id w.threads
target_in t id w s x e = ap (λ (z : Worlds State). target t id z.threads) e ∙ target_same t id w.threads (alive s)

-- memory

pub read_some : (b : Bool) (v x : ℕ) (r : Option ℕ) → r ≡ (if b then Some v else None) → r ≡ Some x → (b ≡ true) × (x ≡ v)
read_some true v x r e h = (refl, same_Some x v (sym h ∙ e))
read_some false v x r e h = let no : None ≡ Some x = sym e ∙ h in absurd cc

pub read_none : (b : Bool) (v : ℕ) (r : Option ℕ) → r ≡ (if b then Some v else None) → r ≡ None → b ≡ false
read_none true v r e h = let no : Some v ≡ None = sym e ∙ h in absurd cc
read_none false v r e h = refl

pub cond_true : {A : Type 0} (b : Bool) (x y : A) → b ≡ true → x ≡ cond b x y
cond_true b x y h = sym (ap (λ c. cond c x y) h)

pub cond_false : {A : Type 0} (b : Bool) (x y : A) → b ≡ false → y ≡ cond b x y
cond_false b x y h = sym (ap (λ c. cond c x y) h)

-- the start

pub first_shown : (memory m : ℕ → ℕ) (xs : List Alive) (x : Alive) (s : State) (out input : List ℕ) → memory ≡ m → xs ≡ x ∷ [] → alive_in (Some x) ≡ alive s
    → out ≡ []
    → ◌≡◌ {A = Worlds State} (record {
      memory = memory;
      threads = threads_of xs;
      started = length xs;
      lock = record { holder = None; depth = 0 };
      out = out;
      input = input;
      end = None;
    }) (first_world m input s)
first_shown memory m xs x s out input e f g h =
    ap (λ z. record {
      memory = z;
      threads = threads_of xs;
      started = length xs;
      lock = record { holder = None; depth = 0 };
      out = out;
      input = input;
      end =
          None;
    }) e
    ∙ (ap (λ (z : List Alive). record {
      memory = m;
      threads = threads_of z;
      started = length z;
      lock = record { holder = None; depth = 0 };
      out = out;
      input =
          input;
      end = None;
    }) f
    ∙ (ap (λ z. record { memory = m; threads = z; started = 1; lock = record { holder = None; depth = 0 }; out = out; input = input; end = None })
    (fun_ext (one_thread x s g))
    ∙ ap (λ z. record { memory = m; threads = only_first s; started = 1; lock = record { holder = None; depth = 0 }; out = z; input = input; end = None }) h))

alone_each : (program : Program) (x : Alive) → IsOf program x → (k : ℕ) (y : Alive) → slice_get (x ∷ []) k ≡ Some y → IsOf program y
alone_each program x of zero y e = subst (IsOf program) (same_Some x y e) of
alone_each program x of (suc k) y e = let no : None ≡ Some y = e in absurd cc

pub first_stands : (program : Program) (p : MemoryLayout) (xs : List Alive) (x : Alive) → xs ≡ x ∷ [] → IsOf program x → p.limit ≡ THREAD_LIMIT
    → Stand program p xs
first_stands program p xs x e of h =
    let n : length xs ≡ 1 = ap (λ (z : List Alive). length z) e in
    record {
      each = subst (λ (z : List Alive). (k : ℕ) (y : Alive) → slice_get z k ≡ Some y → IsOf program y) (sym e) (alone_each program x of);
      few = omega (arith, n, h);
      limit = h;
    }

pub few_threads : (program : Program) (w : World) → Stands program w → length w.threads.alive.items ≤ 256
few_threads program w stand = omega (arith, stand.few, stand.limit)

-- input

pub no_bytes_left : (xs : List ℕ) → length xs ≡ 0 → xs ≡ []
no_bytes_left [] h = refl
no_bytes_left (x ∷ xs) h = absurd (omega (arith, h))

-- the byte that stands in a reply
pub byte_replied : (program : Program) (t : ℕ) (w : Worlds State) (s : State) (x : Worlds State) (reply : Reply) → x ≡ goes t w s
    → reply ≡ Byte (byte_of x.input)
    → ◌≡◌ {A = Worlds State} (record w { input = input_after w.input; threads = update w.threads t (alive ((source program).after s reply)) })
    (record w { input = input_after w.input; threads = update w.threads t (alive ((source program).after s (Byte (byte_of w.input)))) })
byte_replied program t w s x reply e h = ap (λ z. record w { input = input_after w.input; threads = update w.threads t (alive ((source program).after s z)) })
    (h ∙ ap (λ (z : Worlds State). Byte (byte_of z.input)) e)

-- loads and stores

pub load_does : (program : Program) (p : MemoryLayout) (t : ℕ) (w : Worlds State) (s : State) (x : Worlds State) (addr size value : ℕ) (r : Option ℕ)
    → x ≡ goes t w s
    → r ≡ (if can_access p addr size then Some (load x.memory addr size) else None) → r ≡ Some value
    → goes t w ((source program).after s (Loaded value))
    ≡ cond (can_access p addr size) (goes t w ((source program).after s (Loaded (load w.memory addr size)))) (ends w (Trapped BadAddress))
load_does program p t w s x addr size value r e read some =
    let h = read_some (can_access p addr size) (load x.memory addr size) value r read some in
    ap (λ z. goes t w ((source program).after s (Loaded z))) (h.1 ∙ ap (λ (z : Worlds State). load z.memory addr size) e)
    ∙ cond_true (can_access p addr size) (goes t w ((source program).after s (Loaded (load w.memory addr size)))) (ends w (Trapped BadAddress)) h.0

-- a size that no event has
pub load_sized : (e : Event) (addr size : ℕ) (volatile : Bool) → has_size e ≡ true → e ≡ Load addr size volatile → is_size size ≡ true
load_sized e addr size volatile h f = sym (ap has_size f) ∙ h

pub store_sized : (e : Event) (addr size value : ℕ) (volatile : Bool) → has_size e ≡ true → e ≡ Store addr size value volatile
    → (is_size size && nat_lt value (2 ^ (8 * size))) ≡ true
store_sized e addr size value volatile h f = sym (ap has_size f) ∙ h

pub stored_if : (b : Bool) (m n k : ℕ → ℕ) → b ≡ true → n ≡ (if b then k else m) → n ≡ k
stored_if true m n k h e = e
stored_if false m n k h e = absurd (false≢true h)

-- a store that may be done
pub store_does : (program : Program) (p : MemoryLayout) (t : ℕ) (w : Worlds State) (s : State) (addr size value : ℕ) → can_access p addr size ≡ true
    → record w { memory = store w.memory addr size value; threads = update w.threads t (alive ((source program).after s Nothing)) }
    ≡ cond (can_access p addr size) (record w {
      memory = store w.memory addr size value;
      threads = update w.threads t
          (alive ((source program).after s Nothing));
    }) (ends w (Trapped BadAddress))
store_does program p t w s addr size value h =
    cond_true (can_access p addr size) (record w {
      memory = store w.memory addr size value;
      threads = update w.threads t
          (alive ((source program).after s Nothing));
    }) (ends w (Trapped BadAddress)) h

-- what is mapped did not change
pub stand_on : (program : Program) (p q : MemoryLayout) (xs : List Alive) → q ≡ p → Stand program p xs → Stand program q xs
stand_on program p q xs e stand = subst (λ (z : MemoryLayout). Stand program z xs) (sym e) stand

-- starting a thread

started_apart : (xs : List Alive) (t : ℕ) (s c : Started State) → t < length xs → threads_of xs t ≡ Some s
    → update (threads_of xs) (length xs) (Some c) t ≡ Some s
started_apart xs t s c h e = ap (λ b. cond b (Some c) (threads_of xs t)) (ne_eqb t (length xs) (λ q. omega (arith, h, q))) ∙ e

pub at_more : (program : Program) (xs ys : List Alive) (t : ℕ) (s c : State) → t < length xs → threads_of xs t ≡ alive s → IsMore program c xs ys
    → threads_of ys t ≡ alive s
at_more program xs ys t s c h e m = ap (λ f. f t) m.threads ∙ started_apart xs t (record { state = s; ended = false }) (record { state = c; ended = false }) h e

pub stand_more : (program : Program) (p : MemoryLayout) (xs ys : List Alive) (c : State) → length xs < 64 → Stand program p xs → IsMore program c xs ys
    → Stand program p ys
stand_more program p xs ys c h stand m = record { each = m.each; few = omega (arith, h, stand.limit, m.count); limit = stand.limit }

-- the world after a thread was started, and the thread that did it went on
pub spawned : (program : Program) (t func : ℕ) (arg : ℤ) (w : Worlds State) (s : State) (old mid new : World) (number : ℕ) (reply : Reply)
    → world_of old ≡ goes t w s → number ≡ length old.threads.alive.items → reply ≡ Id (pos number)
    → IsMore program ((source program).child s number func arg) old.threads.alive.items mid.threads.alive.items
    → world_of mid ≡ record (world_of old) { threads = threads_of mid.threads.alive.items; started = length mid.threads.alive.items }
    → world_of new ≡ goes t (world_of mid) ((source program).after s reply)
    → world_of new ≡ record w {
      started = w.started + 1;
      threads = update (update w.threads w.started (alive ((source program).child s w.started func arg))) t
          (alive ((source program).after s (Id (pos w.started))));
    }
spawned program t func arg w s old mid new number reply e n i m same g =
    let count : number ≡ w.started = n ∙ ap (λ (z : Worlds State). z.started) e in
    let child = (source program).child s number func arg in
    let after = (source program).after s reply in
    let first : world_of mid ≡ record (world_of old) {
      threads = update (world_of old).threads (world_of old).started (alive child);
      started =
          (world_of old).started + 1;
    } =
    same ∙ (ap (λ f. record (world_of old) { threads = f; started = length mid.threads.alive.items }) m.threads
    ∙ ap (λ k. record (world_of old) {
      threads = update (threads_of old.threads.alive.items) (length old.threads.alive.items) (alive child);
      started =
          k;
    }) m.count) in
    let second : world_of mid ≡ record w { threads = update (update w.threads t (alive s)) w.started (alive child); started = w.started + 1 } =
    first ∙ ap (λ (z : Worlds State). record z { threads = update z.threads z.started (alive child); started = z.started + 1 }) e in
    g ∙ (ap (λ (z : Worlds State). goes t z after) second
    ∙ (ap (λ f. record w { threads = f; started = w.started + 1 }) (update_between w.threads t w.started (alive s) (alive child) (alive after))
    ∙ (ap (λ k. record w {
      threads = update (update w.threads w.started (alive ((source program).child s k func arg))) t (alive after);
      started =
          w.started + 1;
    }) count
    ∙ ap (λ k. record w {
      threads = update (update w.threads w.started (alive ((source program).child s w.started func arg))) t
          (alive ((source program).after s k));
      started = w.started + 1;
    }) (i ∙ ap (λ k. Id (pos k)) count))))

-- the thread ended
pub finished : (program : Program) (p : MemoryLayout) (t : ℕ) (w : Worlds State) (s r : State) (old new : World) (mid : List Alive) → world_of old ≡ goes t w s
    → IsSet program p t (record { state = r; ended = false }) old.threads.alive.items mid
    → IsSet program p t (record { state = r; ended = true }) mid new.threads.alive.items
    → world_of new ≡ record (world_of old) { threads = threads_of new.threads.alive.items; started = length new.threads.alive.items }
    → world_of new ≡ record w { threads = update w.threads t (Some (record { state = r; ended = true })) }
finished program p t w s r old new mid e first second same =
    let over : Started State = record { state = r; ended = true } in
    same ∙ (ap (λ f. record (world_of old) { threads = f; started = length new.threads.alive.items })
    (second.threads ∙ ap (λ f. update f t (Some over)) first.threads)
    ∙ (ap (λ k. record (world_of old) { threads = update (update (threads_of old.threads.alive.items) t (alive r)) t (Some over); started = k })
    (second.count ∙ first.count)
    ∙ (ap (λ f. record (world_of old) { threads = f }) (update_twice (threads_of old.threads.alive.items) t (alive r) (Some over))
    ∙ (ap (λ (z : Worlds State). record z { threads = update z.threads t (Some over) }) e
    ∙ ap (λ f. record w { threads = f }) (update_twice w.threads t (alive s) (Some over))))))

-- the thread stands at its point of the block
pub stands_at : (t : ℕ) (w : Worlds State) (i : Inner State) (now : World) (nested : Nested) → InBlock t w i now nested
    → threads_of now.threads.alive.items t ≡ alive i.state
stands_at t w i now nested at = ap (λ (z : Worlds State). z.threads t) at.world ∙ update_at w.threads t (alive i.state)
