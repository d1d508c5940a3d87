-- The thread of the folded program leaves out silent steps of the thread of the program.
use Rattle.std.proofs.Common.{◌≡◌, ℕ, ℤ, zero, suc, ◌*◌, ◌==◌, Bool, true, false, refl, ap, List, [], ◌∷◌, ◌++◌, cond, Result, Ok, Err}
use Rattle.cpp_tree.specs.tx_ints.declared.kinds.ArithTrap.{ArithTrap}
use Rattle.cpp_tree.specs.tx_ints.Words.{word_of}
use Rattle.cpp_tree.specs.tx_events.declared.Event.TheVariants.{Silent}
use Rattle.cpp_tree.specs.tx_events.declared.Reply.{Reply}
use Rattle.cpp_tree.specs.tx_events.Same.{SameEvents, StepsWithin}
use Rattle.cpp_tree.specs.Trees.{Tree, node, none, more}
use Rattle.src_mean.specs.Linked.{Program}
use Rattle.src_mean.specs.Exceptions.{catches}
use Rattle.src_mean.specs.Frames.{Here, throws, returns, pointer, Frame, Run, Then, Gives, Leaves, Loads, Loaded, Replied, StoreTo, Converts, Right, Apply}
use Rattle.src_mean.specs.Frames.{Choose, AssignTo, UpdateAt, UpdateOld, UpdateBy, CopyTo, CopyBy, From, Words, Object, Slot, Pointer, Passes, Called, Full}
use Rattle.src_mean.specs.Frames.{Keeps, Scope, Waits, InitAt, Cleans, Due, Destroys, Parts, Each, Items, Test, Body, Step, Picks, Compares, Switches, Opens}
use Rattle.src_mean.specs.Frames.{Within, Closes, Throws, Fills, Filled, Tries, Trying, Takes, Taking, Handling, Returning, Starts, Halted, Ended, State, at}
use Rattle.src_mean.specs.Source.{source, give, converted, applied, plus, finish, run_items, compare, case_word, from_label, is_case, first_end}
use Rattle.src_mean.specs.Source.{with_temporaries, begins, main_state, empty_stack, reply_word}
use Rattle.fold_events.specs.Lagging.{Lags}
use Rattle.fold_events.specs.Keeping.{calls}
use Rattle.fold_events.proofs.Lagging.{same_events, no_more_steps}
use Rattle.fold_events.proofs.Steady.{steady}
use Rattle.fold_events.proofs.Shown.{here_shown, frames_shown, state_shown, program_shown, either_shown, puts_some_shown, waiting_kept, leave_shown}
use Rattle.fold_events.proofs.Calls.{enter_shown, next_word_shown, call_shown, call_slot_shown, destroy_shown, take_field_shown, fill_field_shown}
use Rattle.fold_events.proofs.Calls.{compare_shown, handle_shown}
use Rattle.fold_events.proofs.Nodes.{Follows, shown_at, run_kept}

module _ (v : ℕ → Bool) (p : Program) where
  abbrev q : Program
  q = program_shown v p

  steady_either : (b : Bool) (t u : Tree) → cond b (steady v t) (steady v u) ≡ steady v (cond b t u)
  steady_either true t u = refl
  steady_either false t u = refl

  finish_kept : (h : Here) (r : Result ℤ ArithTrap) (f g : ℤ → State) (k : List Frame) → ((z : ℤ) → Follows v p (f z) (g z))
      → Follows v p (finish r h f k) (finish r (here_shown v h) g (frames_shown v k))
  finish_kept h (Ok z) f g k e = e z
  finish_kept h (Err trap) f g k e = shown_at v p refl

  first_end_shown : (main : Bool) (h : Here) (w : ℕ) (k : List Frame)
      → first_end main (here_shown v h) w (frames_shown v k) ≡ state_shown v (first_end main h w k)
  first_end_shown true h w k = refl
  first_end_shown false h w k = refl

  pub give_kept : (h : Here) (w : ℕ) (k : List Frame) → Follows v p (give p h w k) (give q (here_shown v h) w (frames_shown v k))
  give_kept h w [] = shown_at v p refl
  give_kept h w (Run way t ∷ k) = run_kept v p h way k (λ z. give_kept h z k) t w w
  give_kept h w (Then way t ∷ k) = shown_at v p refl
  give_kept h w (Gives z ∷ k) = give_kept h z k
  give_kept h w (Leaves x ∷ k) = shown_at v p (leave_shown v h x k)
  give_kept h w (Loads kind marked ∷ k) = shown_at v p refl
  give_kept h w (Loaded kind ∷ k) = give_kept h (converted kind w) k
  give_kept h w (Replied ∷ k) = give_kept h w k
  give_kept h w (StoreTo address kind marked answer ∷ k) = shown_at v p refl
  give_kept h w (Converts kind ∷ k) = give_kept h (converted kind w) k
  give_kept h w (Right op kind t ∷ k) = shown_at v p refl
  give_kept h w (Apply op kind left ∷ k) = finish_kept h (applied op kind left w) _ _ k (λ z. give_kept h (word_of z) k)
  give_kept h w (Choose way chosen other ∷ k) = shown_at v p
      (ap (λ z. at Silent (here_shown v h) (Run way z ∷ frames_shown v k)) (steady_either (w == 0) other chosen))
  give_kept h w (AssignTo kind marked t ∷ k) = shown_at v p refl
  give_kept h w (UpdateAt c t ∷ k) = shown_at v p refl
  give_kept h w (UpdateOld c address t ∷ k) = shown_at v p refl
  give_kept h w (UpdateBy c address old ∷ k) = finish_kept h (applied c.op c.operation old w) _ _ k (λ z. shown_at v p refl)
  give_kept h w (CopyTo source init ∷ k) = shown_at v p refl
  give_kept h w (CopyBy target init ∷ k) = shown_at v p refl
  give_kept h w (From target init ∷ k) = shown_at v p refl
  give_kept h w (Words callee before others ∷ k) = shown_at v p (next_word_shown v p h callee (before ++ w ∷ []) others k)
  give_kept h w (Object before class slot offset words ∷ k) = shown_at v p refl
  give_kept h w (Slot before class slot words ∷ k) = shown_at v p (call_slot_shown v p h (p.slot w class slot) before words k)
  give_kept h w (Pointer before sig words ∷ k) = shown_at v p (call_shown v p h (pointer w sig) before words k)
  give_kept h w (Passes [] places ∷ k) = give_kept h 0 k
  give_kept h w (Passes (z ∷ zs) [] ∷ k) = give_kept h 0 k
  give_kept h w (Passes (z ∷ zs) (place ∷ places) ∷ k) = shown_at v p refl
  give_kept h w (Called caller stops ∷ k) = shown_at v p refl
  give_kept h w (Scope owner true ws ∷ k) = shown_at v p refl
  give_kept h w (Scope owner false ws ∷ k) = shown_at v p refl
  give_kept h w (Full outer ∷ k) = shown_at v p refl
  give_kept h w (Keeps address destroys ∷ k) = shown_at v p
      (ap (λ z. at Silent (with_temporaries (here_shown v h) z) (Gives w ∷ frames_shown v k)) (waiting_kept v address destroys h.temporaries))
  give_kept h w (Waits owner address destroys ∷ k) = shown_at v p
      (ap (λ z. at Silent (here_shown v h) (Gives w ∷ z)) (puts_some_shown v owner address destroys k))
  give_kept h w (InitAt init destroys ∷ k) = shown_at v p refl
  give_kept h w (Cleans [] ∷ k) = give_kept h w k
  give_kept h w (Cleans (z ∷ zs) ∷ k) = shown_at v p refl
  give_kept h w (Due none ∷ k) = give_kept h w k
  give_kept h w (Due (more t ts) ∷ k) = shown_at v p (destroy_shown v p h w t ts k)
  give_kept h w (Destroys number address stride zero ∷ k) = give_kept h w k
  give_kept h w (Destroys number address stride (suc n) ∷ k) =
      shown_at v p (enter_shown v p h (plus address (n * stride) ∷ []) (p.func number) (Destroys number address stride n ∷ k))
  give_kept h w (Parts none target source ∷ k) = give_kept h w k
  give_kept h w (Parts (more t ts) target source ∷ k) = shown_at v p refl
  give_kept h w (Each init destroys stride zero target source ∷ k) = give_kept h w k
  give_kept h w (Each init destroys stride (suc n) target source ∷ k) = shown_at v p refl
  give_kept h w (Items none ∷ k) = give_kept h 0 k
  give_kept h w (Items (more t ts) ∷ k) = shown_at v p refl
  give_kept h w (Test test body step ∷ k) = shown_at v p (either_shown v (w == 0) _ _ _ _ refl refl)
  give_kept h w (Body test body step ∷ k) = shown_at v p refl
  give_kept h w (Step test body step ∷ k) = shown_at v p refl
  give_kept h w (Picks items ∷ k) = shown_at v p (compare_shown v p h w items items k)
  give_kept h w (Compares z label ts items ∷ k) =
      shown_at v p (either_shown v (case_word label == z) _ _ (run_items h ts k) (compare h z (from_label is_case ts) items k) refl
      (compare_shown v p h z ts items k))
  give_kept h w (Switches ∷ k) = give_kept h 0 k
  give_kept h w (Returning ∷ k) = shown_at v p (leave_shown v h (returns w) k)
  give_kept h w (Opens block body ∷ k) = shown_at v p refl
  give_kept h w (Within block ∷ k) = shown_at v p refl
  give_kept h w (Closes block ∷ k) = give_kept h 0 k
  give_kept h w (Throws t fields ∷ k) = shown_at v p refl
  give_kept h w (Fills t from none bytes ∷ k) = shown_at v p (leave_shown v h (throws (record { typ = t; bytes = bytes })) k)
  give_kept h w (Fills t from (more field others) bytes ∷ k) = shown_at v p (fill_field_shown v p h t from field others bytes k)
  give_kept h w (Filled t from offset kind others bytes ∷ k) = shown_at v p refl
  give_kept h w (Tries handlers ∷ k) = give_kept h 0 k
  give_kept h w (Trying e (node kind t cat place kids) others ∷ k) =
      shown_at v p (either_shown v (catches p.classes t e.typ) _ _ _ _ (handle_shown v p h e (node kind t cat place kids) k)
      (leave_shown v h (throws e) (Tries others ∷ k)))
  give_kept h w (Takes e base none ∷ k) = give_kept h 0 k
  give_kept h w (Takes e base (more field others) ∷ k) = shown_at v p (take_field_shown v p h e base field others k)
  give_kept h w (Taking e base offset kind ∷ k) = shown_at v p refl
  give_kept h w (Handling e ∷ k) = give_kept h w k
  give_kept h w (Starts main ∷ k) = shown_at v p (first_end_shown main h w k)
  give_kept h w (Halted end ∷ k) = shown_at v p refl
  give_kept h w (Ended ∷ k) = shown_at v p refl

  pub after_kept : (s : State) (reply : Reply) → Lags (source p) (state_shown v) ((source p).after s reply) ((source q).after (state_shown v s) reply)
  after_kept s reply = give_kept s.here (reply_word reply) s.frames

  pub same_from : (s : State) (r : State) → r ≡ state_shown v s → SameEvents (source p) (source q) s r
  same_from s r e = same_events (source p) (state_shown v) (source q) (λ z. refl) after_kept s r (shown_at v p e)

  pub no_more_from : (s : State) (r : State) → r ≡ state_shown v s → StepsWithin (source p) (source q) 1 0 s r
  no_more_from s r e = no_more_steps (source p) (state_shown v) (source q) (λ z. refl) after_kept s r (shown_at v p e)

  -- First states

  pub begins_kept : (thread number : ℕ) (arg : ℤ) → begins q thread number arg ≡ state_shown v (begins p thread number arg)
  begins_kept thread number arg = enter_shown v p (empty_stack thread) (word_of arg ∷ []) (p.func number) (Starts false ∷ [])

  pub main_kept : main_state q ≡ state_shown v (main_state p)
  main_kept = enter_shown v p (empty_stack 0) [] (p.func p.main) (Starts true ∷ [])

  pub calls_kept : (thread number : ℕ) (words : List ℕ) (main : Bool) → calls q thread number words main ≡ state_shown v (calls p thread number words main)
  calls_kept thread number words main = enter_shown v p (empty_stack thread) words (p.func number) (Starts main ∷ [])
