-- A value that is given.
use Rattle.std.proofs.Common.{ℕ, ◌++◌, Bool, true, false, cond, refl, ap, ap₂, sym, ◌∙◌, subst, List, [], ◌∷◌}
use Rattle.cpp_tree.specs.tx_ints.declared.kinds.IntKind.TheVariants.{ULong}
use Rattle.cpp_tree.specs.tx_ints.declared.kinds.BinOp.TheVariants.{Eq}
use Rattle.cpp_tree.specs.tx_events.declared.Event.TheVariants.{Load as Reads, Store as Writes}
use Rattle.cpp_tree.specs.cpp_layout.Layout.{kind_size}
use Rattle.cpp_tree.specs.Trees.{node, Trees, none, more, kind_of}
use Rattle.src_mean.specs.Frames.{Change, State}
use Rattle.src_mean.specs.Source.{stored_bytes, case_word, from_label, is_case, give}
use Rattle.symbolic_source.specs.Terms.{Term, number, local, made, converted_to, result, plus_number, one_less}
use Rattle.symbolic_source.specs.Frames.{Waiting, throws, returns, virtual, pointer, Frame, Run, Address, Then, Gives, Leaves, Loads, Loaded, Replied, StoreTo}
use Rattle.symbolic_source.specs.Frames.{Converts, Right, Apply, Choose, AssignTo, UpdateAt, UpdateOld, UpdateBy, CopyTo, CopyBy, From, Words, Object, Slot}
use Rattle.symbolic_source.specs.Frames.{Pointer, Passes, Full, Keeps, Scope, Waits, InitAt, Cleans, Due, Destroys, Parts, Each, Items, Test, Body, Step, Picks}
use Rattle.symbolic_source.specs.Frames.{Compares, Switches, Returning, Opens, Within, Closes, Throws, Fills, Filled, Tries, Trying, Takes, Taking, Handling}
use Rattle.symbolic_source.specs.Frames.{puts_some, Callee}
use Rattle.symbolic_source.specs.Outcomes.{goes, reads, writes, ends_block, either}
use Rattle.symbolic_source.specs.Steps.{caught, given, next_word, called, same_word, destroys_next, each_next, compared, run_items}
use Rattle.symbolic_instances.proofs.Forms.{Sides, seen_word, InTerm, exception_in, InTerms, terms_in, InWaitings, waitings_in, spot_in}
use Rattle.symbolic_instances.proofs.Forms.{InCallee, callee_in, here_same, InFrames, frames_in}
use Rattle.symbolic_instances.proofs.Words.{num, converted_in, converted_same, result_in, plus_same, less_in, untouched_in, put_in, terms_on}
use Rattle.symbolic_instances.proofs.Words.{terms_joined}
use Rattle.symbolic_instances.proofs.Likeness.{Like, Shown, ShownSeen, goes_like, if_word_like, either_like, results_like, finds_like, puts_some_like}
use Rattle.symbolic_instances.proofs.Likeness.{goes_if_like}
use Rattle.symbolic_instances.proofs.Leaving.{left_like, next_like, called_like}
use Rattle.symbolic_instances.proofs.Nodes.{tried_like, caught_kept, take_field_like, take_bytes_like, fill_field_like, destroyed_like, destroys_next_like}
use Rattle.symbolic_instances.proofs.Nodes.{each_next_like, spot_like, run_items_like, compared_like, ran_like}

module _ (z : Sides) where
  abbrev ws_of : (ws : List Waiting) → InWaitings z ws → List Waiting
  ws_of ws a = waitings_in z ws a

  abbrev k_of : (k : List Frame) → InFrames z k → List Frame
  k_of k c = frames_in z k c

  -- an update stores, and goes on with the old value or the address
  stores_like : (t : Bool) (u : Change) (address old v : Term) (b : InTerm z address) (e : InTerm z old) (d : InTerm z v) (ws : List Waiting)
      (a : InWaitings z ws) (k : List Frame) (c : InFrames z k)
      → (s : State) → Shown z (goes (writes b.term u.stored (converted_to u.stored (result u.op u.operation e.term d.term)) u.volatile) (ws_of ws a)
      (Gives (cond t e.term b.term) ∷ k_of k c)) s
      → ShownSeen z (goes (writes address u.stored (converted_to u.stored (result u.op u.operation old v)) u.volatile) ws (Gives (cond t old address) ∷ k)) s
  stores_like true u address old v b e d ws a k c =
      goes_like z (writes b.term u.stored (converted_to u.stored (result u.op u.operation e.term d.term)) u.volatile)
      (writes address u.stored (converted_to u.stored (result u.op u.operation old v)) u.volatile) ws a (Gives old ∷ k) (e, c)
      (ap₂ (λ i j. Writes i (kind_size u.stored) (stored_bytes u.stored j) u.volatile) b.same
      (converted_same z u.stored (result u.op u.operation old v) (result_in z u.op u.operation old v e d)))
  stores_like false u address old v b e d ws a k c =
      goes_like z (writes b.term u.stored (converted_to u.stored (result u.op u.operation e.term d.term)) u.volatile)
      (writes address u.stored (converted_to u.stored (result u.op u.operation old v)) u.volatile) ws a (Gives address ∷ k) (b, c)
      (ap₂ (λ i j. Writes i (kind_size u.stored) (stored_bytes u.stored j) u.volatile) b.same
      (converted_same z u.stored (result u.op u.operation old v) (result_in z u.op u.operation old v e d)))

  words_like : (ws : List Waiting) (a : InWaitings z ws) (v : Term) (d : InTerm z v) (callee : Callee) (b : InCallee z callee) (earlier : List Term)
      (e : InTerms z earlier) (others : Trees) (k : List Frame) (c : InFrames z k)
      → Like z (next_word (ws_of ws a) (callee_in z callee b) (terms_in z earlier e ++ d.term ∷ []) others (k_of k c))
      (next_word ws callee (earlier ++ v ∷ []) others k)
  words_like ws a v d callee b earlier e others k c =
      subst (λ i. Like z (next_word (ws_of ws a) (callee_in z callee b) i others (k_of k c)) (next_word ws callee (earlier ++ v ∷ []) others k))
      (terms_joined z earlier v e d) (next_like z ws a callee b (earlier ++ v ∷ []) (terms_on z earlier v e d) others k c)

  object_like : (ws : List Waiting) (a : InWaitings z ws) (v : Term) (d : InTerm z v) (earlier : List Term) (e : InTerms z earlier)
      (class slot offset : ℕ) (words : Trees) (k : List Frame) (c : InFrames z k)
      → (s : State) → Shown z (goes (reads (plus_number d.term offset) 8 false) (ws_of ws a)
      (Slot (terms_in z earlier e ++ d.term ∷ []) class slot words ∷ k_of k c)) s
      → ShownSeen z (goes (reads (plus_number v offset) 8 false) ws (Slot (earlier ++ v ∷ []) class slot words ∷ k)) s
  object_like ws a v d earlier e class slot offset words k c = λ s h.
      goes_like z (reads (plus_number d.term offset) 8 false) (reads (plus_number v offset) 8 false) ws a
      (Slot (earlier ++ v ∷ []) class slot words ∷ k) (terms_on z earlier v e d, c) (ap (λ i. Reads i 8 false) (plus_same z v d offset)) s
      (subst (λ i. Shown z (goes (reads (plus_number d.term offset) 8 false) (ws_of ws a) (Slot i class slot words ∷ k_of k c)) s)
      (sym (terms_joined z earlier v e d)) h)

  pub given_like : (ws : List Waiting) (a : InWaitings z ws) (v : Term) (d : InTerm z v) (k : List Frame) (c : InFrames z k)
      → Like z (given z.program z.func z.answers (ws_of ws a) d.term (k_of k c)) (given z.program z.func z.others ws v k)
  given_like ws a v d [] c = λ s h. h ∙ ap₂ (λ i j. give z.program i j z.callers) (here_same z ws a) d.same
  given_like ws a v d (Run way (node kind t cat stands kids) ∷ k) c = ran_like z ws a way c.0 kind kids
      (λ w. given z.program z.func z.answers (ws_of ws a) w (k_of k c.1)) (λ w. given z.program z.func z.others ws w k) k c.1
      (λ w e. given_like ws a w e k c.1)
  given_like ws a v d (Address w ∷ k) c = given_like ws a w c.0 k c.1
  given_like ws a v d (Then way t ∷ k) c = (a, c, refl)
  given_like ws a v d (Gives w ∷ k) c = given_like ws a w c.0 k c.1
  given_like ws a v d (Leaves exit ∷ k) c = left_like z ws a exit c.0 k c.1
  given_like ws a v d (Loads kind volatile ∷ k) c = goes_like z (reads d.term (kind_size kind) volatile) (reads v (kind_size kind) volatile) ws a
      (Loaded kind ∷ k) (tt, c.1) (ap (λ i. Reads i (kind_size kind) volatile) d.same)
  given_like ws a v d (Loaded kind ∷ k) c = given_like ws a (converted_to kind v) (converted_in z kind v d) k c.1
  given_like ws a v d (Replied ∷ k) c = given_like ws a v d k c.1
  given_like ws a v d (StoreTo address kind volatile answer ∷ k) c = goes_like z (writes c.0.0.term kind d.term volatile) (writes address kind v volatile)
      ws a (Gives answer ∷ k) (c.0.1, c.1) (ap₂ (λ i j. Writes i (kind_size kind) (stored_bytes kind j) volatile) c.0.0.same d.same)
  given_like ws a v d (Converts kind ∷ k) c = given_like ws a (converted_to kind v) (converted_in z kind v d) k c.1
  given_like ws a v d (Right op kind t ∷ k) c = (a, (tt, (d, c.1)), refl)
  given_like ws a v d (Apply op kind left ∷ k) c = results_like z op kind left v c.0 d
      (given z.program z.func z.answers (ws_of ws a) (result op kind c.0.term d.term) (k_of k c.1))
      (given z.program z.func z.others ws (result op kind left v) k) (given_like ws a (result op kind left v) (result_in z op kind left v c.0 d) k c.1)
  given_like ws a v d (Choose way chosen other ∷ k) c = either_like z v d _ _ _ _ (a, c, refl) (a, c, refl)
  given_like ws a v d (AssignTo kind volatile t ∷ k) c = (a, (tt, ((d, d), c.1)), refl)
  given_like ws a v d (UpdateAt u t ∷ k) c = goes_like z (reads d.term (kind_size u.stored) u.volatile) (reads v (kind_size u.stored) u.volatile) ws a
      (Loaded u.stored ∷ UpdateOld u v t ∷ k) (tt, (d, c.1)) (ap (λ i. Reads i (kind_size u.stored) u.volatile) d.same)
  given_like ws a v d (UpdateOld u address t ∷ k) c = (a, (tt, ((c.0, d), c.1)), refl)
  given_like ws a v d (UpdateBy u address old ∷ k) c = results_like z u.op u.operation old v c.0.1 d
      (goes (writes c.0.0.term u.stored (converted_to u.stored (result u.op u.operation c.0.1.term d.term)) u.volatile) (ws_of ws a)
      (Gives (cond u.old c.0.1.term c.0.0.term) ∷ k_of k c.1))
      (goes (writes address u.stored (converted_to u.stored (result u.op u.operation old v)) u.volatile) ws (Gives (cond u.old old address) ∷ k))
      (stores_like u.old u address old v c.0.0 c.0.1 d ws a k c.1)
  given_like ws a v d (CopyTo from init ∷ k) c = (a, (tt, (d, c.1)), refl)
  given_like ws a v d (CopyBy target init ∷ k) c = (a, ((c.0, d), (c.0, c.1)), refl)
  given_like ws a v d (From target init ∷ k) c = (a, ((c.0, d), c.1), refl)
  given_like ws a v d (Words callee earlier others ∷ k) c = words_like ws a v d callee c.0.0 earlier c.0.1 others k c.1
  given_like ws a v d (Object earlier class slot offset words ∷ k) c = object_like ws a v d earlier c.0 class slot offset words k c.1
  given_like ws a v d (Slot earlier class slot words ∷ k) c = finds_like z class slot v d
      (called (ws_of ws a) (virtual class slot d.term) (terms_in z earlier c.0) words (k_of k c.1)) (called ws (virtual class slot v) earlier words k)
      (called_like z ws a (virtual class slot v) d earlier c.0 words k c.1)
  given_like ws a v d (Pointer earlier sig words ∷ k) c = called_like z ws a (pointer v sig) d earlier c.0 words k c.1
  given_like ws a v d (Passes [] places ∷ k) c = given_like ws a (number 0) (num z 0) k c.1
  given_like ws a v d (Passes (w ∷ words) [] ∷ k) c = given_like ws a (number 0) (num z 0) k c.1
  given_like ws a v d (Passes (w ∷ words) (at ∷ places) ∷ k) c =
      goes_like z (writes (local at.offset) at.kind c.0.0.term at.volatile) (writes (local at.offset) at.kind w at.volatile) ws a
      (Passes words places ∷ k) (c.0.1, c.1)
      (ap (λ i. Writes (seen_word z (local at.offset)) (kind_size at.kind) (stored_bytes at.kind i) at.volatile) c.0.0.same)
  given_like ws a v d (Full outer ∷ k) c = (c.0, (a, (d, c.1)), refl)
  given_like ws a v d (Keeps address none ∷ k) c = (a, (d, c.1), refl)
  given_like ws a v d (Keeps address (more t ts) ∷ k) c = ((c.0, a), (d, c.1), refl)
  given_like ws a v d (Scope owner true scoped ∷ k) c = (a, (c.0, (d, c.1)), refl)
  given_like ws a v d (Scope owner false scoped ∷ k) c = (a, (tt, (d, c.1)), refl)
  given_like ws a v d (Waits owner address destroys ∷ k) c = goes_if_like z ws a v d
      (puts_some owner (spot_in z address c.0) destroys (k_of k c.1)) (puts_some owner address destroys k)
      (puts_some_like z owner address c.0 destroys k c.1)
  given_like ws a v d (InitAt init destroys ∷ k) c = (a, ((d, num z 0), (d, c.1)), refl)
  given_like ws a v d (Cleans [] ∷ k) c = given_like ws a v d k c.1
  given_like ws a v d (Cleans (w ∷ others) ∷ k) c = spot_like z ws a w.address c.0.0 w.destroys others c.0.1 k c.1
  given_like ws a v d (Due none ∷ k) c = given_like ws a v d k c.1
  given_like ws a v d (Due (more t ts) ∷ k) c = destroyed_like z ws a v d (kind_of t) ts k c.1
  given_like ws a v d (Destroys n address stride count ∷ k) c = either_like z count c.0.1
      (given z.program z.func z.answers (ws_of ws a) d.term (k_of k c.1))
      (destroys_next (ws_of ws a) n c.0.0.term stride (one_less c.0.1.term) (k_of k c.1))
      (given z.program z.func z.others ws v k) (destroys_next ws n address stride (one_less count) k)
      (given_like ws a v d k c.1) (destroys_next_like z ws a n address c.0.0 stride (one_less count) (less_in z count c.0.1) k c.1)
  given_like ws a v d (Parts none target from ∷ k) c = given_like ws a v d k c.1
  given_like ws a v d (Parts (more t ts) target from ∷ k) c = (a, (c.0, c), refl)
  given_like ws a v d (Each init destroys stride count target from ∷ k) c = either_like z count c.0.0
      (given z.program z.func z.answers (ws_of ws a) d.term (k_of k c.1))
      (each_next (ws_of ws a) init destroys stride (one_less c.0.0.term) c.0.1.term c.0.2.term (k_of k c.1))
      (given z.program z.func z.others ws v k) (each_next ws init destroys stride (one_less count) target from k)
      (given_like ws a v d k c.1)
      (each_next_like z ws a init destroys stride (one_less count) target from (less_in z count c.0.0) c.0.1 c.0.2 k c.1)
  given_like ws a v d (Items none ∷ k) c = given_like ws a (number 0) (num z 0) k c.1
  given_like ws a v d (Items (more t ts) ∷ k) c = (a, (tt, (tt, c.1)), refl)
  given_like ws a v d (Test test body step ∷ k) c = either_like z v d _ _ _ _ (a, (num z 0, c.1), refl) (a, (tt, (tt, c.1)), refl)
  given_like ws a v d (Body test body step ∷ k) c = (a, (tt, (tt, c.1)), refl)
  given_like ws a v d (Step test body step ∷ k) c = (a, (tt, (tt, c.1)), refl)
  given_like ws a v d (Picks items ∷ k) c = compared_like z ws a v d (from_label is_case items) items k c.1
  given_like ws a v d (Compares w label ts items ∷ k) c = if_word_like z (case_word label)
      (either (same_word c.0.term (case_word label)) (compared (ws_of ws a) c.0.term (from_label is_case ts) items (k_of k c.1))
      (run_items (ws_of ws a) ts (k_of k c.1)))
      (either (same_word w (case_word label)) (compared ws w (from_label is_case ts) items k) (run_items ws ts k))
      (either_like z (same_word w (case_word label)) (result_in z Eq ULong w (number (case_word label)) c.0 (num z (case_word label)))
      (compared (ws_of ws a) c.0.term (from_label is_case ts) items (k_of k c.1)) (run_items (ws_of ws a) ts (k_of k c.1))
      (compared ws w (from_label is_case ts) items k) (run_items ws ts k)
      (compared_like z ws a w c.0 (from_label is_case ts) items k c.1) (run_items_like z ws a ts k c.1))
  given_like ws a v d (Switches ∷ k) c = given_like ws a (number 0) (num z 0) k c.1
  given_like ws a v d (Returning ∷ k) c = left_like z ws a (returns v) d k c.1
  given_like ws a v d (Opens block body ∷ k) c = (a, (tt, (tt, c.1)), refl)
  given_like ws a v d (Within block ∷ k) c = goes_like z (ends_block block) (ends_block block) ws a (Closes block ∷ k) (tt, c.1) refl
  given_like ws a v d (Closes block ∷ k) c = given_like ws a (number 0) (num z 0) k c.1
  given_like ws a v d (Throws t fields ∷ k) c = (a, ((d, untouched_in z), c.1), refl)
  given_like ws a v d (Fills t from none puts ∷ k) c = left_like z ws a (throws (made t puts)) c.0.1 k c.1
  given_like ws a v d (Fills t from (more part others) puts ∷ k) c = fill_field_like z ws a t from c.0.0 (kind_of part) others puts c.0.1 k c.1
  given_like ws a v d (Filled t from offset kind others puts ∷ k) c = (a, ((c.0.0, put_in z offset (kind_size kind) v puts d c.0.1), c.1), refl)
  given_like ws a v d (Tries handlers ∷ k) c = given_like ws a (number 0) (num z 0) k c.1
  given_like ws a v d (Trying e handler others ∷ k) c = tried_like z ws a (caught z.program z.func z.answers (exception_in z e c.0) handler)
      (caught z.program z.func z.others e handler) (λ t h. caught_kept z e c.0 handler t h) e c.0 handler others k c.1
  given_like ws a v d (Takes e base none ∷ k) c = given_like ws a (number 0) (num z 0) k c.1
  given_like ws a v d (Takes e base (more part others) ∷ k) c = take_field_like z ws a e c.0.0 base c.0.1 (kind_of part) others k c.1
  given_like ws a v d (Taking e base offset kind ∷ k) c = take_bytes_like z ws a e c.0.0 base c.0.1 offset kind k c.1
  given_like ws a v d (Handling e ∷ k) c = given_like ws a v d k c.1
