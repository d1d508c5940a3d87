-- Calls: inside a block a function that is entered has a safe body.
use Rattle.std.specs.Prelude.{◌≡◌, ℕ, ◌+◌, Bool, true, false, ◌||◌, cond, nat_lt, List, [], ◌∷◌, Option, Some, None, refl}
use Rattle.std.proofs.lemmas.Bool.{and_parts, and_from}
use Rattle.cpp_tree.specs.tx_events.declared.End.{End}
use Rattle.cpp_tree.specs.tx_events.declared.End.TheVariants.{Trapped}
use Rattle.cpp_tree.specs.tx_events.declared.Trap.TheVariants.{UnsafeCall}
use Rattle.cpp_tree.specs.tx_events.Thread.{no_atomic}
use Rattle.cpp_tree.specs.declared.kinds.Builtin.{Builtin}
use Rattle.cpp_tree.specs.declared.kinds.Builtin.TheVariants.{PutChar, GetChar, Spawn as SpawnThread, Join as JoinThread, Abort as AbortProgram}
use Rattle.cpp_tree.specs.Trees.{Trees, none, more}
use Rattle.src_mean.specs.Linked.{Func, Program}
use Rattle.src_mean.specs.Frames.{Here, of_call, Callee, known, virtual, pointer, builtin, Frame, Called, Scope, State, blocks_of}
use Rattle.src_mean.specs.Source.{halt, enter, enter_found, enter_pointed, is_safe, spawn, built_in, invoke, next_word, call, call_slot}
use Rattle.src_mean.specs.Laws.{is_hidden}
use Rattle.block_marks.specs.Marks.{is_abort, round_of, is_outside, are_good, are_left, run_all, are_tame, all_within, are_within, has_safe_body, may_call}
use Rattle.block_marks.specs.Marks.{runs, IsTameFunc, IsTame}
use Rattle.block_marks.proofs.Trees.{body_tame, words_hidden, free_runs, within_all}

pub record Marked (p : Program) (safe : ℕ → ℕ → Bool) (s : State) : Type 0 where
  pub hidden : is_hidden s.event (blocks_of s.frames) ≡ true
  pub good : are_left p safe s.here.unit s.here.temporaries s.frames ≡ true

abbrev pub Good : Program → (ℕ → ℕ → Bool) → Here → List Frame → Type 0
Good p safe h k = are_good p safe h.unit h.temporaries k ≡ true

pub either : (p : Program) (safe : ℕ → ℕ → Bool) (b : Bool) (s t : State) → Marked p safe s → Marked p safe t → Marked p safe (cond b s t)
either p safe true s t g h = g
either p safe false s t g h = h

pub halts : (p : Program) (safe : ℕ → ℕ → Bool) (h : Here) (end : End) (k : List Frame) → Marked p safe (halt h end k)
halts p safe h end k = record { hidden = refl; good = refl }

pub enters : (p : Program) (safe : ℕ → ℕ → Bool) (h : Here) (ws : List ℕ) (fo : Option Func) (k : List Frame) → ((f : Func) → fo ≡ Some f → IsTameFunc safe f)
    → (has_safe_body fo || is_outside k) ≡ true → Good p safe h k → Marked p safe (enter h ws fo k)
enters p safe h ws None k m i q = halts p safe h _ k
enters p safe h ws (Some f) k m i q =
    let tame = m f refl in
    either p safe (nat_lt h.limit (h.end + f.size)) _ _ (halts p safe h _ k) (record {
      hidden = refl;
      good = and_from _ _ (words_hidden f.safe (is_outside k) f.words i tame.words)
          (and_from _ _ (free_runs (safe f.unit) (round_of (Called h f.stops ∷ k)) f.body
          (body_tame (safe f.unit) f.safe (is_outside k) f.body i tame.body) tame.free) q);
    })

or_swap : (a b : Bool) → (a || b) ≡ true → (b || a) ≡ true
or_swap true true h = refl
or_swap true false h = refl
or_swap false true h = refl
or_swap false false h = h

safe_or_outside : (fo : Option Func) (o : Bool) → (o || is_safe fo) ≡ true → (has_safe_body fo || o) ≡ true
safe_or_outside None o i = refl
safe_or_outside (Some f) o i = or_swap o f.safe i

pub enters_found : (p : Program) (safe : ℕ → ℕ → Bool) (h : Here) (ws : List ℕ) (fo : Option Func) (k : List Frame)
    → ((f : Func) → fo ≡ Some f → IsTameFunc safe f)
    → Good p safe h k → Marked p safe (enter_found h ws fo k)
enters_found p safe h ws fo k m q =
    elim (no_atomic (blocks_of k) || is_safe fo) as (λ b. (no_atomic (blocks_of k) || is_safe fo) ≡ b
    → Marked p safe (cond b (enter h ws fo k) (halt h (Trapped UnsafeCall) k))) [
      | true ↦ λ e. enters p safe h ws fo k m (safe_or_outside fo (is_outside k) e) q
      | false ↦ λ e. halts p safe h _ k
    ] refl

pub enters_pointed : (p : Program) (safe : ℕ → ℕ → Bool) (m : IsTame p safe) (h : Here) (ws : List ℕ) (n : Option ℕ) (k : List Frame) → Good p safe h k
    → Marked p safe (enter_pointed p h ws n k)
enters_pointed p safe m h ws None k q = halts p safe h _ k
enters_pointed p safe m h ws (Some n) k q = enters_found p safe h ws (p.func n) k (m.funcs n) q

spawns : (p : Program) (safe : ℕ → ℕ → Bool) (h : Here) (f : Option ℕ) (arg : ℕ) (k : List Frame) → is_outside k ≡ true → Good p safe h k
    → Marked p safe (spawn h f arg k)
spawns p safe h None arg k i q = halts p safe h _ k
spawns p safe h (Some n) arg k i q = record { hidden = i; good = q }

builds_in : (p : Program) (safe : ℕ → ℕ → Bool) (h : Here) (b : Builtin) (ws : List ℕ) (k : List Frame) → (is_abort b || is_outside k) ≡ true → Good p safe h k
    → Marked p safe (built_in p h b ws k)
builds_in p safe h PutChar ws k i q = record { hidden = i; good = q }
builds_in p safe h GetChar ws k i q = record { hidden = i; good = q }
builds_in p safe h SpawnThread ws k i q = spawns p safe h _ _ k i q
builds_in p safe h JoinThread ws k i q = record { hidden = i; good = q }
builds_in p safe h AbortProgram ws k i q = halts p safe h _ k

invokes : (p : Program) (safe : ℕ → ℕ → Bool) (m : IsTame p safe) (h : Here) (c : Callee) (ws : List ℕ) (k : List Frame) → may_call p (is_outside k) c ≡ true
    → Good p safe h k → Marked p safe (invoke p h c ws k)
invokes p safe m h (known n) ws k i q = enters p safe h ws (p.func n) k (m.funcs n) i q
invokes p safe m h (virtual n) ws k i q = enters_found p safe h ws (p.func n) k (m.funcs n) q
invokes p safe m h (pointer a sig) ws k i q = enters_pointed p safe m h ws (p.pointed a sig) k q
invokes p safe m h (builtin b) ws k i q = builds_in p safe h b ws k i q

pub next_words : (p : Program) (safe : ℕ → ℕ → Bool) (m : IsTame p safe) (h : Here) (c : Callee) (ws : List ℕ) (ts : Trees) (k : List Frame)
    → may_call p (is_outside k) c ≡ true
    → run_all (safe h.unit) (round_of k) ts ≡ true → Good p safe h k → Marked p safe (next_word p h c ws ts k)
next_words p safe m h c ws none k i t q = invokes p safe m h c ws k i q
next_words p safe m h c ws (more x xs) k i t q =
    let a = and_parts (runs (safe h.unit) (round_of k) x) (run_all (safe h.unit) (round_of k) xs) t in
    record { hidden = refl; good = and_from _ _ a.0 (and_from _ _ (and_from _ _ i a.1) q) }

pub calls : (p : Program) (safe : ℕ → ℕ → Bool) (m : IsTame p safe) (h : Here) (c : Callee) (ws : List ℕ) (ts : Trees) (k : List Frame)
    → may_call p (is_outside k) c ≡ true
    → are_tame (safe h.unit) (is_outside k) ts ≡ true → all_within of_call ts ≡ true → Good p safe h k → Marked p safe (call p h c ws ts k)
calls p safe m h c ws ts k i t w q = next_words p safe m h c ws ts (Scope of_call true [] ∷ k) i
    (within_all (safe h.unit) of_call (round_of (Scope of_call true [] ∷ k)) ts refl t w) q

pub calls_slot : (p : Program) (safe : ℕ → ℕ → Bool) (m : IsTame p safe) (h : Here) (f : Option ℕ) (ws : List ℕ) (ts : Trees) (k : List Frame)
    → are_within (safe h.unit) of_call (is_outside k) ts ≡ true → Good p safe h k → Marked p safe (call_slot p h f ws ts k)
calls_slot p safe m h None ws ts k t q = halts p safe h _ k
calls_slot p safe m h (Some n) ws ts k t q =
    let a = and_parts (are_tame (safe h.unit) (is_outside k) ts) (all_within of_call ts) t in
    calls p safe m h (virtual n) ws ts k refl a.0 a.1 q
