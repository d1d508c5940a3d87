-- What goes outward comes to what is good.
use Rattle.std.specs.Prelude.{◌≡◌, ℕ, Bool, true, false, ◌&&◌, ◌||◌, List, [], ◌∷◌, Option, Some, None, refl}
use Rattle.std.proofs.lemmas.Bool.{false≢true, and_parts, and_from}
use Rattle.cpp_tree.specs.tx_events.Thread.{Atomic as AtomicBlock, Sync}
use Rattle.cpp_tree.specs.Trees.{Trees, none, more, kind_of}
use Rattle.cpp_tree.specs.Roles.{is_handler}
use Rattle.src_mean.specs.Linked.{Program}
use Rattle.src_mean.specs.Exceptions.{Exception}
use Rattle.src_mean.specs.Frames.{Here, Exit, throws, returns, breaks, continues, Frame, Called, Full, Scope, Body, Switches, Within, Tries, Starts, Halted}
use Rattle.src_mean.specs.Frames.{State}
use Rattle.src_mean.specs.Source.{leave, leave_call, try_first, is_throw, rethrow}
use Rattle.block_marks.specs.Marks.{round_of, is_outside, is_good, are_good, is_alone, is_tame, are_tame, all_handlers, are_caught}
use Rattle.block_marks.proofs.Trees.{alone_runs}
use Rattle.block_marks.proofs.Calls.{Marked, Good, either, halts}

leaves_call : (p : Program) (safe : ℕ → ℕ → Bool) (x : Exit) (h caller : Here) (stops : Bool) (k : List Frame) → Good p safe caller k
    → Marked p safe (leave_call x h caller stops k)
leaves_call p safe (throws e) h caller true k q = halts p safe h _ k
leaves_call p safe (throws e) h caller false k q = record { hidden = refl; good = q }
leaves_call p safe (returns w) h caller stops k q = record { hidden = refl; good = q }
leaves_call p safe breaks h caller stops k q = record { hidden = refl; good = q }
leaves_call p safe continues h caller stops k q = record { hidden = refl; good = q }

tries_first : (p : Program) (safe : ℕ → ℕ → Bool) (h : Here) (e : Exception) (hs : Trees) (s : State) (k : List Frame)
    → are_caught (safe h.unit) (is_outside k) hs ≡ true → Good p safe h k
    → Marked p safe s → Marked p safe (try_first h e hs s k)
tries_first p safe h e none s k c q g = g
tries_first p safe h e (more t ts) s k c q g =
    let a = and_parts (are_tame (safe h.unit) (is_outside k) (more t ts)) (all_handlers (more t ts)) c in
    let b = and_parts (is_tame (safe h.unit) (is_outside k) t) (are_tame (safe h.unit) (is_outside k) ts) a.0 in
    let d = and_parts (is_handler (kind_of t)) (all_handlers ts) a.1 in
    record { hidden = refl; good = and_from _ _ (and_from _ _ (and_from _ _ b.0 d.0) (and_from _ _ b.1 d.1)) q }

pub leaves : (p : Program) (safe : ℕ → ℕ → Bool) (h : Here) (x : Exit) (k : List Frame) → Good p safe h k → Marked p safe (leave h x k)
leaves p safe h x [] q = record { hidden = refl; good = refl }
leaves p safe h x (Scope owner always ws ∷ k) q = either p safe (always || is_throw x) _ _ (record { hidden = refl; good = q })
    (leaves p safe h x k (and_parts (is_good p (safe h.unit) (round_of k) (Scope owner always ws)) (are_good p safe h.unit h.temporaries k) q).1)
leaves p safe h x (Full outer ∷ k) q = record { hidden = refl; good = q }
leaves p safe h x (Within Sync ∷ k) q = record { hidden = refl; good = q }
leaves p safe h (throws e) (Within (AtomicBlock kind) ∷ k) q = record { hidden = refl; good = q }
leaves p safe h (returns w) (Within (AtomicBlock kind) ∷ k) q = record { hidden = refl; good = q }
leaves p safe h breaks (Within (AtomicBlock kind) ∷ k) q = record { hidden = refl; good = q }
leaves p safe h continues (Within (AtomicBlock kind) ∷ k) q = record { hidden = refl; good = q }
leaves p safe h x (Called caller stops ∷ k) q = leaves_call p safe x h caller stops k q
leaves p safe h (throws e) (Tries handlers ∷ k) q =
    let a = and_parts (are_caught (safe h.unit) (is_outside k) handlers) (are_good p safe h.unit h.temporaries k) q in
    tries_first p safe h e handlers (leave h (throws e) k) k a.0 a.1 (leaves p safe h (throws e) k a.1)
leaves p safe h breaks (Body test body step ∷ k) q = record {
  hidden = refl;
  good =
      (and_parts (is_good p (safe h.unit) (round_of k) (Body test body step)) (are_good p safe h.unit h.temporaries k) q).1;
}
leaves p safe h continues (Body test body step ∷ k) q =
    let a = and_parts (is_good p (safe h.unit) (round_of k) (Body test body step)) (are_good p safe h.unit h.temporaries k) q in
    let b = and_parts (is_alone (safe h.unit) (is_outside k) test)
    (is_alone (safe h.unit) (is_outside k) body && is_alone (safe h.unit) (is_outside k) step) a.0 in
    let c = and_parts (is_alone (safe h.unit) (is_outside k) body) (is_alone (safe h.unit) (is_outside k) step) b.1 in
    record { hidden = refl; good = and_from _ _ (alone_runs (safe h.unit) (round_of k) step c.1) q }
leaves p safe h breaks (Switches ∷ k) q = record { hidden = refl; good = q }
leaves p safe h x (Starts main ∷ k) q = halts p safe h _ _
leaves p safe h x (Halted end ∷ k) q = absurd (false≢true q)
leaves p safe h x (f ∷ k) q = leaves p safe h x k (and_parts (is_good p (safe h.unit) (round_of k) f) (are_good p safe h.unit h.temporaries k) q).1

pub rethrows : (p : Program) (safe : ℕ → ℕ → Bool) (h : Here) (e : Option Exception) (k : List Frame) → Good p safe h k → Marked p safe (rethrow h e k)
rethrows p safe h None k q = halts p safe h _ k
rethrows p safe h (Some e) k q = leaves p safe h (throws e) k q
