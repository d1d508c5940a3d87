-- What leaves, and calls.
use Rattle.std.proofs.Common.{ℕ, ◌%◌, true, false, refl, ap, ap₂, ◌∙◌, List, [], ◌∷◌}
use Rattle.cpp_tree.specs.tx_ints.declared.kinds.IntKind.TheVariants.{Int}
use Rattle.cpp_tree.specs.tx_ints.Words.{value_of_word}
use Rattle.cpp_tree.specs.tx_events.declared.Event.TheVariants.{Out, Join as Joins}
use Rattle.cpp_tree.specs.declared.kinds.Builtin.{Builtin}
use Rattle.cpp_tree.specs.declared.kinds.Builtin.TheVariants.{PutChar, GetChar, Spawn as SpawnThread, Join as JoinThread, Abort as AbortProgram}
use Rattle.cpp_tree.specs.Trees.{Trees, none, more}
use Rattle.src_mean.specs.Frames.{of_call, State}
use Rattle.src_mean.specs.Source.{leave, spawn, thread_signature, closing}
use Rattle.symbolic_source.specs.Terms.{Term, number, low_byte}
use Rattle.symbolic_source.specs.Frames.{Waiting, Exit, throws, returns, breaks, continues, Callee, known, virtual, pointer, builtin, Frame, Gives, Leaves}
use Rattle.symbolic_source.specs.Frames.{Replied, Scope, Full, Within, Closes, Tries, Body, Switches, below, here_of}
use Rattle.symbolic_source.specs.Outcomes.{puts_out, takes_in, joins, leaves_block, spawns}
use Rattle.symbolic_source.specs.Steps.{left, built_in, invoked, next_word, called}
use Rattle.symbolic_instances.proofs.Forms.{Sides, seen, word, InTerm, InTerms, terms_in, InWaitings, waitings_in, here_same, InExit, exit_in}
use Rattle.symbolic_instances.proofs.Forms.{exit_same, InCallee, callee_in, InFrames, frames_in, frames_same}
use Rattle.symbolic_instances.proofs.Words.{num, low_in}
use Rattle.symbolic_instances.proofs.Likeness.{Like, Shown, ShownSeen, goes_like, calls_like}

module _ (z : Sides) where
  abbrev ws_of : (ws : List Waiting) → InWaitings z ws → List Waiting
  ws_of ws a = waitings_in z ws a

  abbrev k_of : (k : List Frame) → InFrames z k → List Frame
  k_of k c = frames_in z k c

  pub left_like : (ws : List Waiting) (a : InWaitings z ws) (exit : Exit) (b : InExit z exit) (k : List Frame) (c : InFrames z k)
      → Like z (left (ws_of ws a) (exit_in z exit b) (k_of k c)) (left ws exit k)
  left_like ws a exit b [] c = λ s h. h ∙ ap₂ (λ u v. leave u v z.callers) (here_same z ws a) (exit_same z exit b)
  left_like ws a exit b (Scope owner true scoped ∷ k) c = (a, (c.0, (b, c.1)), refl)
  left_like ws a (throws e) b (Scope owner false scoped ∷ k) c = (a, (c.0, (b, c.1)), refl)
  left_like ws a (returns w) b (Scope owner false scoped ∷ k) c = left_like ws a (returns w) b k c.1
  left_like ws a breaks b (Scope owner false scoped ∷ k) c = left_like ws a breaks b k c.1
  left_like ws a continues b (Scope owner false scoped ∷ k) c = left_like ws a continues b k c.1
  left_like ws a exit b (Full outer ∷ k) c = (c.0, (a, (b, c.1)), refl)
  left_like ws a exit b (Within block ∷ k) c = goes_like z (leaves_block block (exit_in z exit b)) (leaves_block block exit) ws a
      (Closes block ∷ Leaves exit ∷ k) (tt, (b, c.1)) (ap (λ i. closing block i) (exit_same z exit b))
  left_like ws a (throws e) b (Tries none ∷ k) c = left_like ws a (throws e) b k c.1
  left_like ws a (throws e) b (Tries (more handler others) ∷ k) c = (a, (b, c.1), refl)
  left_like ws a breaks b (Body test body step ∷ k) c = (a, (num z 0, c.1), refl)
  left_like ws a continues b (Body test body step ∷ k) c = (a, (tt, (tt, c.1)), refl)
  left_like ws a breaks b (Switches ∷ k) c = (a, (num z 0, c.1), refl)
  left_like ws a exit b (g ∷ k) c = left_like ws a exit b k c.1

  -- Calls

  spawns_like : (t v : Term) (d : InTerm z t) (e : InTerm z v) (ws : List Waiting) (a : InWaitings z ws) (k : List Frame) (c : InFrames z k)
      → (s : State) → Shown z (spawns d.term e.term (ws_of ws a) (k_of k c)) s → ShownSeen z (spawns t v ws k) s
  spawns_like t v d e ws a k c s h = h
      ∙ (ap₂ (λ i j. spawn i (z.program.pointed (word z d.term) thread_signature) (word z e.term) j) (here_same z ws a) (frames_same z k c)
      ∙ ap₂ (λ i j. spawn (here_of z.program z.func (seen z) ws) (z.program.pointed i thread_signature) j
      (below z.program z.func (seen z) k z.callers)) d.same e.same)

  built_in_like : (ws : List Waiting) (a : InWaitings z ws) (which : Builtin) (words : List Term) (d : InTerms z words) (k : List Frame) (c : InFrames z k)
      → Like z (built_in (ws_of ws a) which (terms_in z words d) (k_of k c)) (built_in ws which words k)
  built_in_like ws a PutChar [] d k c = goes_like z (puts_out (low_byte (number 0))) (puts_out (low_byte (number 0))) ws a
      (Gives (low_byte (number 0)) ∷ k) (low_in z (number 0) (num z 0), c) refl
  built_in_like ws a PutChar (w ∷ words) d k c = goes_like z (puts_out (low_byte d.0.term)) (puts_out (low_byte w)) ws a
      (Gives (low_byte w) ∷ k) (low_in z w d.0, c) (ap (λ (i : ℕ). Out (i % 256)) d.0.same)
  built_in_like ws a GetChar words d k c = goes_like z takes_in takes_in ws a (Replied ∷ k) (tt, c) refl
  built_in_like ws a SpawnThread [] d k c = spawns_like (number 0) (number 0) (num z 0) (num z 0) ws a k c
  built_in_like ws a SpawnThread (v ∷ []) d k c = spawns_like v (number 0) d.0 (num z 0) ws a k c
  built_in_like ws a SpawnThread (v ∷ w ∷ words) d k c = spawns_like v w d.0 d.1.0 ws a k c
  built_in_like ws a JoinThread [] d k c = goes_like z (joins (number 0)) (joins (number 0)) ws a (Gives (number 0) ∷ k) (num z 0, c) refl
  built_in_like ws a JoinThread (w ∷ words) d k c = goes_like z (joins d.0.term) (joins w) ws a (Gives (number 0) ∷ k) (num z 0, c)
      (ap (λ i. Joins (value_of_word Int i)) d.0.same)
  built_in_like ws a AbortProgram words d k c = λ s h. h

  invoked_like : (ws : List Waiting) (a : InWaitings z ws) (callee : Callee) (b : InCallee z callee) (words : List Term) (d : InTerms z words)
      (k : List Frame) (c : InFrames z k)
      → Like z (invoked (ws_of ws a) (callee_in z callee b) (terms_in z words d) (k_of k c)) (invoked ws callee words k)
  invoked_like ws a (known n) b words d k c = calls_like z (known n) b words d ws a k c
  invoked_like ws a (virtual class slot address) b words d k c = calls_like z (virtual class slot address) b words d ws a k c
  invoked_like ws a (pointer address sig) b words d k c = calls_like z (pointer address sig) b words d ws a k c
  invoked_like ws a (builtin which) b words d k c = built_in_like ws a which words d k c

  pub next_like : (ws : List Waiting) (a : InWaitings z ws) (callee : Callee) (b : InCallee z callee) (words : List Term) (d : InTerms z words)
      (others : Trees) (k : List Frame) (c : InFrames z k)
      → Like z (next_word (ws_of ws a) (callee_in z callee b) (terms_in z words d) others (k_of k c)) (next_word ws callee words others k)
  next_like ws a callee b words d none k c = invoked_like ws a callee b words d k c
  next_like ws a callee b words d (more t ts) k c = (a, (tt, ((b, d), c)), refl)

  pub called_like : (ws : List Waiting) (a : InWaitings z ws) (callee : Callee) (b : InCallee z callee) (words : List Term) (d : InTerms z words)
      (others : Trees) (k : List Frame) (c : InFrames z k)
      → Like z (called (ws_of ws a) (callee_in z callee b) (terms_in z words d) others (k_of k c)) (called ws callee words others k)
  called_like ws a callee b words d others k c = next_like ws a callee b words d others (Scope of_call true [] ∷ k) (tt, c)
