-- Handlers, destructions and nodes.
use Rattle.std.proofs.Common.{ℕ, ◌≡◌, Bool, true, false, refl, ap, ap₂, sym, ◌∙◌, subst, List, [], ◌∷◌, Option, Some, None}
use Rattle.cpp_tree.specs.tx_ints.declared.kinds.IntKind.{IntKind}
use Rattle.cpp_tree.specs.tx_events.declared.Event.TheVariants.{Load as Reads, Store as Writes}
use Rattle.cpp_tree.specs.tx_events.Thread.{Atomic as AtomicBlock, Sync}
use Rattle.cpp_tree.specs.cpp_types.Typ.{Typ}
use Rattle.cpp_tree.specs.cpp_layout.Layout.{kind_size}
use Rattle.cpp_tree.specs.declared.kinds.TKind.{TKind}
use Rattle.cpp_tree.specs.declared.kinds.TKind.TheVariants.{Literal, Local, Global, Function, ClassTable, Load, Convert, Retype, Binary, Conditional, Comma}
use Rattle.cpp_tree.specs.declared.kinds.TKind.TheVariants.{Assign, Update, CopyAssign, Materialize, FullExpression, Call, VirtualCall, PointerCall}
use Rattle.cpp_tree.specs.declared.kinds.TKind.TheVariants.{Builtin as CallBuiltin, Throw, Rethrow, Store, CopyScalar, Construct, CopyConstruct, CopyFrom}
use Rattle.cpp_tree.specs.declared.kinds.TKind.TheVariants.{Pieces, Piece, Elements, Block, Init, Defer, Loop, Switch, Case, Default, Break, Continue, Return}
use Rattle.cpp_tree.specs.declared.kinds.TKind.TheVariants.{Try, Handler, Atomic, Synchronized, Destroy, Field}
use Rattle.cpp_tree.specs.Trees.{Tree, node, Trees, none, more, first}
use Rattle.src_mean.specs.Exceptions.{is_object_typ}
use Rattle.src_mean.specs.Frames.{State}
use Rattle.src_mean.specs.Frames as frames
use Rattle.src_mean.specs.Source.{rethrow, stored_bytes, invoke}
use Rattle.symbolic_source.specs.Terms.{Term, number, global, function, table, Exception, unknown, made, Puts, field, plus_number}
use Rattle.symbolic_source.specs.Frames.{Spot, at_word, at_tree, Waiting, Way, value, into, throws, returns, breaks, continues, known, builtin, Frame}
use Rattle.symbolic_source.specs.Frames.{Gives, Loaded, StoreTo, Cleans, Due, Destroys, Tries, Filled, spot_frame, below, handled, Opens}
use Rattle.symbolic_source.specs.Frames.{here_of}
use Rattle.symbolic_source.specs.Outcomes.{Outcome, goes, silent, reads, writes, begins_atomic, begins_sync, calls}
use Rattle.symbolic_source.specs.Steps.{left, destroys_next, each_next, element_at, run_items, compared, caught, handling, tried, take_field, take_bytes}
use Rattle.symbolic_source.specs.Steps.{fill_field, rethrown, destroyed, return_value, first_part, ran, place_of}
use Rattle.symbolic_instances.proofs.Forms.{Sides, seen, word, seen_word, InTerm, InPuts, InException, exception_in, InWaitings, waitings_in, here_same, InSpot}
use Rattle.symbolic_instances.proofs.Forms.{spot_in, InWay, way_in, InFrames, frames_in, frames_same}
use Rattle.symbolic_instances.proofs.Words.{leaf, num, place, plus_in, plus_same, element_same, field_same, put_in}
use Rattle.symbolic_instances.proofs.Likeness.{Like, Shown, ShownSeen, goes_like, calls_like, cond_like, if_word_like, InHandled, handled_in, handled_like}
use Rattle.symbolic_instances.proofs.Leaving.{left_like, next_like, called_like}

module _ (z : Sides) where
  abbrev ws_of : (ws : List Waiting) → InWaitings z ws → List Waiting
  ws_of ws a = waitings_in z ws a

  abbrev k_of : (k : List Frame) → InFrames z k → List Frame
  k_of k c = frames_in z k c

  -- Handlers

  handling_like : (ws : List Waiting) (a : InWaitings z ws) (e : Exception) (b : InException z e) (handler : Tree) (k : List Frame) (c : InFrames z k)
      → Like z (handling z.program z.func z.answers (ws_of ws a) (exception_in z e b) handler (k_of k c))
      (handling z.program z.func z.others ws e handler k)
  handling_like ws a e b (node (Handler (Some at)) t cat stands kids) k c = (a, ((b, place z _), (tt, (b, c))), refl)
  handling_like ws a e b (node kind t cat stands kids) k c = (a, (tt, (b, c)), refl)

  pub tried_like : (ws : List Waiting) (a : InWaitings z ws) (o q : Option Bool) → ((t : Bool) → q ≡ Some t → o ≡ Some t)
      → (e : Exception) (b : InException z e) (handler : Tree) (others : Trees) (k : List Frame) (c : InFrames z k)
      → Like z (tried z.program z.func z.answers (ws_of ws a) o (exception_in z e b) handler others (k_of k c))
      (tried z.program z.func z.others ws q e handler others k)
  tried_like ws a o None h e b handler others k c = λ s i. tt
  tried_like ws a o (Some true) h e b handler others k c =
      subst (λ i. Like z (tried z.program z.func z.answers (ws_of ws a) i (exception_in z e b) handler others (k_of k c))
      (handling z.program z.func z.others ws e handler k)) (sym (h true refl)) (handling_like ws a e b handler k c)
  tried_like ws a o (Some false) h e b handler others k c =
      subst (λ i. Like z (tried z.program z.func z.answers (ws_of ws a) i (exception_in z e b) handler others (k_of k c))
      (left ws (throws e) (Tries others ∷ k))) (sym (h false refl)) (left_like z ws a (throws e) b (Tries others ∷ k) (tt, c))

  pub caught_kept : (e : Exception) (b : InException z e) (handler : Tree) (t : Bool) → caught z.program z.func z.others e handler ≡ Some t
      → caught z.program z.func z.answers (exception_in z e b) handler ≡ Some t
  caught_kept (unknown n) b handler t h = z.kept n handler t h
  caught_kept (made type puts) b handler t h = h

  pub take_field_like : (ws : List Waiting) (a : InWaitings z ws) (e : Exception) (b : InException z e) (base : Term) (d : InTerm z base) (kind : TKind)
      (others : Trees) (k : List Frame) (c : InFrames z k)
      → Like z (take_field z.program z.func z.answers (ws_of ws a) (exception_in z e b) d.term kind others (k_of k c))
      (take_field z.program z.func z.others ws e base kind others k)
  take_field_like ws a e b base d (Field offset kind) others k c = (a, ((b, d), ((b, d), c)), refl)
  take_field_like ws a e b base d kind others k c = (a, ((b, d), c), refl)

  pub take_bytes_like : (ws : List Waiting) (a : InWaitings z ws) (e : Exception) (b : InException z e) (base : Term) (d : InTerm z base) (offset : ℕ)
      (kind : IntKind) (k : List Frame) (c : InFrames z k)
      → Like z (take_bytes z.program z.func z.answers (ws_of ws a) (exception_in z e b) d.term offset kind (k_of k c))
      (take_bytes z.program z.func z.others ws e base offset kind k)
  take_bytes_like ws a e b base d offset kind k c =
      goes_like z (writes (plus_number d.term offset) kind (field (exception_in z e b) offset (kind_size kind)) false)
      (writes (plus_number base offset) kind (field e offset (kind_size kind)) false) ws a (Gives (number 0) ∷ k) (num z 0, c)
      (ap₂ (λ u v. Writes u (kind_size kind) (stored_bytes kind v) false) (plus_same z base d offset) (field_same z e b offset (kind_size kind)))

  pub fill_field_like : (ws : List Waiting) (a : InWaitings z ws) (t : Typ) (from : Term) (d : InTerm z from) (kind : TKind) (others : Trees) (puts : Puts)
      (b : InPuts z puts) (k : List Frame) (c : InFrames z k)
      → Like z (fill_field z.program z.func z.answers (ws_of ws a) t d.term kind others b.bytes (k_of k c))
      (fill_field z.program z.func z.others ws t from kind others puts k)
  fill_field_like ws a t from d (Field offset kind) others puts b k c = cond_like z (is_object_typ t) _ _ _ _
      (goes_like z (reads (plus_number d.term offset) (kind_size kind) false) (reads (plus_number from offset) (kind_size kind) false) ws a
      (Loaded kind ∷ Filled t from offset kind others puts ∷ k) (tt, ((d, b), c)) (ap (λ i. Reads i (kind_size kind) false) (plus_same z from d offset)))
      (a, ((d, put_in z offset (kind_size kind) from puts d b), c), refl)
  fill_field_like ws a t from d kind others puts b k c = (a, ((d, b), c), refl)

  rethrown_of : (ws : List Waiting) (a : InWaitings z ws) (o : Option Exception) (b : InHandled z o) (k : List Frame) (c : InFrames z k)
      → Like z (rethrown z.program z.func z.answers (ws_of ws a) (handled_in z o b) (k_of k c)) (rethrown z.program z.func z.others ws o k)
  rethrown_of ws a None b k c = λ s h. h ∙ ap₂ (λ u v. rethrow u (frames.handled z.callers) v) (here_same z ws a) (frames_same z k c)
  rethrown_of ws a (Some e) b k c = left_like z ws a (throws e) b k c

  rethrown_like : (ws : List Waiting) (a : InWaitings z ws) (k : List Frame) (c : InFrames z k)
      → Like z (rethrown z.program z.func z.answers (ws_of ws a) (handled (k_of k c)) (k_of k c)) (rethrown z.program z.func z.others ws (handled k) k)
  rethrown_like ws a k c = subst (λ i. Like z (rethrown z.program z.func z.answers (ws_of ws a) i (k_of k c))
      (rethrown z.program z.func z.others ws (handled k) k)) (sym (handled_like z k c).1) (rethrown_of ws a (handled k) (handled_like z k c).0 k c)

  -- Destructions

  pub destroyed_like : (ws : List Waiting) (a : InWaitings z ws) (address : Term) (d : InTerm z address) (kind : TKind) (others : Trees) (k : List Frame)
      (c : InFrames z k)
      → Like z (destroyed z.program z.func z.answers (ws_of ws a) d.term kind others (k_of k c)) (destroyed z.program z.func z.others ws address kind others k)
  destroyed_like ws a address d (Destroy g offset count stride) others k c =
      if_word_like z count _ _ (a, ((plus_in z address d offset, num z count), (d, (tt, c))), refl)
  destroyed_like ws a address d kind others k c = (a, (d, (tt, c)), refl)

  pub destroys_next_like : (ws : List Waiting) (a : InWaitings z ws) (n : ℕ) (address : Term) (d : InTerm z address) (stride : ℕ) (count : Term)
      (e : InTerm z count) (k : List Frame) (c : InFrames z k)
      → Like z (destroys_next (ws_of ws a) n d.term stride e.term (k_of k c)) (destroys_next ws n address stride count k)
  destroys_next_like ws a n address d stride count e k c = calls_at (element_at address count stride) (element_at d.term e.term stride)
      (element_same z address count d e stride)
    where
      calls_at : (t u : Term) → word z u ≡ seen_word z t → (s : State)
          → Shown z (calls (known n) (u ∷ []) (ws_of ws a) (k_of (Destroys n address stride count ∷ k) ((d, e), c))) s
          → ShownSeen z (calls (known n) (t ∷ []) ws (Destroys n address stride count ∷ k)) s
      calls_at t u same s h = h
          ∙ (ap₂ (λ i j. invoke z.program i (frames.known n) (word z u ∷ []) j) (here_same z ws a)
          (frames_same z (Destroys n address stride count ∷ k) ((d, e), c))
          ∙ ap (λ i. invoke z.program (here_of z.program z.func (seen z) ws) (frames.known n) (i ∷ [])
          (below z.program z.func (seen z) (Destroys n address stride count ∷ k) z.callers)) same)

  pub each_next_like : (ws : List Waiting) (a : InWaitings z ws) (init : Tree) (destroys : Trees) (stride : ℕ) (count target source : Term)
      (e : InTerm z count) (d : InTerm z target) (b : InTerm z source) (k : List Frame) (c : InFrames z k)
      → Like z (each_next (ws_of ws a) init destroys stride e.term d.term b.term (k_of k c)) (each_next ws init destroys stride count target source k)
  each_next_like ws a init destroys stride count target source e d b k c =
      (a, ((d, b), (d, ((e, plus_in z target d stride, plus_in z source b stride), c))), refl)

  pub spot_like : (ws : List Waiting) (a : InWaitings z ws) (address : Spot) (b : InSpot z address) (destroys : Trees) (others : List Waiting)
      (d : InWaitings z others) (k : List Frame) (c : InFrames z k)
      → Like z (goes silent (ws_of ws a) (spot_frame (spot_in z address b) ∷ Due destroys ∷ Cleans (waitings_in z others d) ∷ k_of k c))
      (goes silent ws (spot_frame address ∷ Due destroys ∷ Cleans others ∷ k))
  spot_like ws a (at_word w) b destroys others d k c = (a, (b, (tt, (d, c))), refl)
  spot_like ws a (at_tree t) b destroys others d k c = (a, (tt, (tt, (d, c))), refl)

  -- Switches

  pub run_items_like : (ws : List Waiting) (a : InWaitings z ws) (items : Trees) (k : List Frame) (c : InFrames z k)
      → Like z (run_items (ws_of ws a) items (k_of k c)) (run_items ws items k)
  run_items_like ws a items k c = (a, (tt, (tt, (tt, c))), refl)

  pub compared_like : (ws : List Waiting) (a : InWaitings z ws) (w : Term) (d : InTerm z w) (labels items : Trees) (k : List Frame) (c : InFrames z k)
      → Like z (compared (ws_of ws a) d.term labels items (k_of k c)) (compared ws w labels items k)
  compared_like ws a w d none items k c = (a, (tt, (tt, (tt, c))), refl)
  compared_like ws a w d (more t ts) items k c = (a, (d, c), refl)

  -- Nodes

  return_like : (ws : List Waiting) (a : InWaitings z ws) (kids : Trees) (k : List Frame) (c : InFrames z k)
      → Like z (return_value z.program z.func z.answers (ws_of ws a) kids (k_of k c)) (return_value z.program z.func z.others ws kids k)
  return_like ws a none k c = left_like z ws a (returns (number 0)) (num z 0) k c
  return_like ws a (more t ts) k c = (a, (tt, (tt, c)), refl)

  first_part_like : (ws : List Waiting) (a : InWaitings z ws) (t : Bool) (kids : Trees) (k : List Frame) (c : InFrames z k)
      → Like z (first_part z.program z.func z.answers (ws_of ws a) t kids (k_of k c)) (first_part z.program z.func z.others ws t kids k)
  first_part_like ws a true kids k c = (a, (tt, (tt, c)), refl)
  first_part_like ws a false kids k c = (a, (tt, (tt, c)), refl)

  abbrev Done : (Term → Outcome) → (Term → Outcome) → Type 0
  Done done go = (w : Term) (d : InTerm z w) → Like z (done d.term) (go w)

  pub ran_like : (ws : List Waiting) (a : InWaitings z ws) (way : Way) (b : InWay z way) (kind : TKind) (kids : Trees) (done go : Term → Outcome)
      (k : List Frame) (c : InFrames z k) → Done done go
      → Like z (ran z.program z.func z.answers (ws_of ws a) (way_in z way b) kind kids done (k_of k c))
      (ran z.program z.func z.others ws way kind kids go k)
  ran_like ws a way b (Literal w) kids done go k c g = if_word_like z w (done (number w)) (go (number w)) (g (number w) (num z w))
  ran_like ws a way b (Local at) kids done go k c g = g (place_of z.program z.func z.others at) (place z _)
  ran_like ws a way b (Global n) kids done go k c g = g (global n) (leaf z (global n) refl)
  ran_like ws a way b (Function n) kids done go k c g = g (function n) (leaf z (function n) refl)
  ran_like ws a way b (ClassTable n) kids done go k c g = g (table n) (leaf z (table n) refl)
  ran_like ws a way b (Load kind volatile) kids done go k c g = (a, (tt, (tt, c)), refl)
  ran_like ws a way b (Convert kind) kids done go k c g = (a, (tt, (tt, c)), refl)
  ran_like ws a way b Retype kids done go k c g = (a, (tt, c), refl)
  ran_like ws a way b (Binary op kind) kids done go k c g = (a, (tt, (tt, c)), refl)
  ran_like ws a way b Conditional kids done go k c g = (a, (tt, (b, c)), refl)
  ran_like ws a way b Comma kids done go k c g = (a, (tt, (b, c)), refl)
  ran_like ws a way b (Assign kind volatile) kids done go k c g = (a, (tt, (tt, c)), refl)
  ran_like ws a way b (Update op stored operation volatile old) kids done go k c g = (a, (tt, (tt, c)), refl)
  ran_like ws a way b CopyAssign kids done go k c g = (a, (tt, (tt, c)), refl)
  ran_like ws a way b (Materialize at true) kids done go k c g = (a, ((place z _, num z 0), (place z _, (place z _, c))), refl)
  ran_like ws a way b (Materialize at false) kids done go k c g = (a, ((place z _, num z 0), (place z _, (place z _, c))), refl)
  ran_like ws a way b FullExpression kids done go k c g = (tt, (b, (a, c)), refl)
  ran_like ws a value b (Call n) kids done go k c g = called_like z ws a (known (z.program.number z.func.unit n)) tt [] tt kids k c
  ran_like ws a (into target source) b (Call n) kids done go k c g =
      called_like z ws a (known (z.program.number z.func.unit n)) tt (target ∷ []) (b.0, tt) kids k c
  ran_like ws a value b (VirtualCall n class slot offset) kids done go k c g = (a, (tt, (tt, c)), refl)
  ran_like ws a (into target source) b (VirtualCall n class slot offset) kids done go k c g = (a, (tt, ((b.0, tt), c)), refl)
  ran_like ws a value b PointerCall kids done go k c g = (a, (tt, (tt, c)), refl)
  ran_like ws a (into target source) b PointerCall kids done go k c g = (a, (tt, ((b.0, tt), c)), refl)
  ran_like ws a way b (CallBuiltin which) kids done go k c g = next_like z ws a (builtin which) tt [] tt kids k c
  ran_like ws a way b Throw kids done go k c g = (a, (tt, (tt, c)), refl)
  ran_like ws a way b Rethrow kids done go k c g = rethrown_like ws a k c
  ran_like ws a value b (Store kind volatile) kids done go k c g = (a, (tt, ((num z 0, num z 0), c)), refl)
  ran_like ws a (into target source) b (Store kind volatile) kids done go k c g = (a, (tt, ((b.0, num z 0), c)), refl)
  ran_like ws a value b (CopyScalar kind volatile) kids done go k c g =
      goes_like z (reads (number 0) (kind_size kind) volatile) (reads (number 0) (kind_size kind) volatile) ws a
      (Loaded kind ∷ StoreTo (number 0) kind volatile (number 0) ∷ k) (tt, ((num z 0, num z 0), c)) refl
  ran_like ws a (into target source) b (CopyScalar kind volatile) kids done go k c g =
      goes_like z (reads b.1.term (kind_size kind) volatile) (reads source (kind_size kind) volatile) ws a
      (Loaded kind ∷ StoreTo target kind volatile (number 0) ∷ k) (tt, ((b.0, num z 0), c)) (ap (λ i. Reads i (kind_size kind) volatile) b.1.same)
  ran_like ws a value b (Construct n) kids done go k c g =
      called_like z ws a (known (z.program.number z.func.unit n)) tt (number 0 ∷ []) (num z 0, tt) kids k c
  ran_like ws a (into target source) b (Construct n) kids done go k c g =
      called_like z ws a (known (z.program.number z.func.unit n)) tt (target ∷ []) (b.0, tt) kids k c
  ran_like ws a value b (CopyConstruct n) kids done go k c g =
      calls_like z (known (z.program.number z.func.unit n)) tt (number 0 ∷ number 0 ∷ []) (num z 0, (num z 0, tt)) ws a k c
  ran_like ws a (into target source) b (CopyConstruct n) kids done go k c g =
      calls_like z (known (z.program.number z.func.unit n)) tt (target ∷ source ∷ []) (b.0, (b.1, tt)) ws a k c
  ran_like ws a value b CopyFrom kids done go k c g = (a, (tt, (num z 0, c)), refl)
  ran_like ws a (into target source) b CopyFrom kids done go k c g = (a, (tt, (b.0, c)), refl)
  ran_like ws a value b Pieces kids done go k c g = (a, ((num z 0, num z 0), (tt, c)), refl)
  ran_like ws a (into target source) b Pieces kids done go k c g = (a, (b, (tt, c)), refl)
  ran_like ws a value b (Piece offset) kids done go k c g =
      (a, ((plus_in z (number 0) (num z 0) offset, plus_in z (number 0) (num z 0) offset), (plus_in z (number 0) (num z 0) offset, c)), refl)
  ran_like ws a (into target source) b (Piece offset) kids done go k c g =
      (a, ((plus_in z target b.0 offset, plus_in z source b.1 offset), (plus_in z target b.0 offset, c)), refl)
  ran_like ws a value b (Elements count stride) kids done go k c g =
      if_word_like z count _ _ (a, ((num z count, num z 0, num z 0), (tt, c)), refl)
  ran_like ws a (into target source) b (Elements count stride) kids done go k c g =
      if_word_like z count _ _ (a, ((num z count, b.0, b.1), (tt, c)), refl)
  ran_like ws a way b (Block subobjects) kids done go k c g = (a, (tt, (tt, c)), refl)
  ran_like ws a way b Init kids done go k c g = (a, (tt, (tt, c)), refl)
  ran_like ws a way b Defer kids done go k c g = (a, (tt, c), refl)
  ran_like ws a way b (Loop test_first) kids done go k c g = first_part_like ws a test_first kids k c
  ran_like ws a way b Switch kids done go k c g = (a, (tt, (tt, c)), refl)
  ran_like ws a way b (Case w) kids done go k c g = g (number 0) (num z 0)
  ran_like ws a way b Default kids done go k c g = g (number 0) (num z 0)
  ran_like ws a way b Break kids done go k c g = left_like z ws a breaks tt k c
  ran_like ws a way b Continue kids done go k c g = left_like z ws a continues tt k c
  ran_like ws a way b Return kids done go k c g = return_like ws a kids k c
  ran_like ws a way b Try kids done go k c g = (a, (tt, (tt, c)), refl)
  ran_like ws a way b (Handler at) kids done go k c g = g (number 0) (num z 0)
  ran_like ws a way b (Atomic kind) kids done go k c g = goes_like z (begins_atomic kind) (begins_atomic kind) ws a
      (Opens (AtomicBlock kind) (first kids) ∷ k) (tt, c) refl
  ran_like ws a way b Synchronized kids done go k c g = goes_like z begins_sync begins_sync ws a (Opens Sync (first kids) ∷ k) (tt, c) refl
  ran_like ws a way b (Destroy n offset count stride) kids done go k c g = g (number 0) (num z 0)
  ran_like ws a way b (Field offset kind) kids done go k c g = g (number 0) (num z 0)
