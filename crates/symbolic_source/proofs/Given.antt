-- A value that is given to symbolic frames, as it is given to those of the thread.
use Rattle.std.proofs.Common.{ℕ, zero, suc, ℤ, ◌≡◌, ◌-◌, ◌==◌, ◌++◌, Bool, true, false, cond, refl, ap, ap₂, sym, ◌∙◌, subst, List, [], ◌∷◌, Option, Some, None}
use Rattle.std.proofs.Common.{Ok, arith}
use Rattle.std.proofs.Math.Nat.{mod-eq_of_lt}
use Rattle.cpp_tree.specs.tx_ints.declared.kinds.IntKind.{IntKind}
use Rattle.cpp_tree.specs.tx_ints.declared.kinds.BinOp.{BinOp}
use Rattle.cpp_tree.specs.tx_ints.Words.{word_of}
use Rattle.cpp_tree.specs.tx_events.declared.End.TheVariants.{Trapped}
use Rattle.cpp_tree.specs.tx_events.declared.Event.TheVariants.{Silent, Load as Reads, Store as Writes}
use Rattle.cpp_tree.specs.tx_events.declared.Trap.TheVariants.{BadVirtual}
use Rattle.cpp_tree.specs.cpp_types.Typ.{Typ}
use Rattle.cpp_tree.specs.cpp_layout.Layout.{kind_size}
use Rattle.cpp_tree.specs.declared.kinds.TKind.{TKind}
use Rattle.cpp_tree.specs.declared.kinds.TKind.TheVariants.{Literal, Local, Global, Function, ClassTable, Load, Convert, Retype, Binary, Conditional, Comma}
use Rattle.cpp_tree.specs.declared.kinds.TKind.TheVariants.{Assign, Update, CopyAssign, Materialize, FullExpression, Call, VirtualCall, PointerCall}
use Rattle.cpp_tree.specs.declared.kinds.TKind.TheVariants.{Builtin as CallBuiltin, Throw, Rethrow, Store, CopyScalar, Construct, CopyConstruct, CopyFrom}
use Rattle.cpp_tree.specs.declared.kinds.TKind.TheVariants.{Pieces, Piece, Elements, Block, Init, Defer, Loop, Switch, Case, Default, Break, Continue, Return}
use Rattle.cpp_tree.specs.declared.kinds.TKind.TheVariants.{Try, Handler, Atomic, Synchronized, Destroy, Field}
use Rattle.cpp_tree.specs.Trees.{Tree, node, Trees, none, more, literal, kind_of, typ_in, first, rest as others_of}
use Rattle.src_mean.specs.Linked.{Func, Program}
use Rattle.src_mean.specs.Exceptions.{is_object_typ, catches, read_bytes}
use Rattle.src_mean.specs.Frames.{Owner, State, Change}
use Rattle.src_mean.specs.Frames as frames
use Rattle.src_mean.specs.Source.{plus, applied, case_word, from_label, is_case, is_default}
use Rattle.src_mean.specs.Source as source
use Rattle.symbolic_source.specs.Terms.{Term, Exception, unknown, made, Puts, exception_of, bytes_put, number, global, function, table, result, converted_to}
use Rattle.symbolic_source.specs.Terms.{Values, word_or_zero, number_found, eval, one_less}
use Rattle.symbolic_source.specs.Frames.{Spot, at_word, at_tree, Waiting, Way, value, into, throws, returns, breaks, continues, known, virtual, pointer}
use Rattle.symbolic_source.specs.Frames.{builtin, Frame, Run, Address, Then, Gives, Leaves, Loads, Loaded, Replied, StoreTo, Converts, Right, Apply, Choose}
use Rattle.symbolic_source.specs.Frames.{AssignTo, UpdateAt, UpdateOld, UpdateBy, CopyTo, CopyBy, From, Words, Object, Slot, Pointer, Passes, Full, Keeps}
use Rattle.symbolic_source.specs.Frames.{Scope, Waits, InitAt, Cleans, Due, Destroys, Parts, Each, Items, Test, Body, Step, Picks, Compares, Switches}
use Rattle.symbolic_source.specs.Frames.{Returning, Opens, Within, Closes, Throws, Fills, Filled, Tries, Trying, Takes, Taking, Handling, waitings_of, words_of}
use Rattle.symbolic_source.specs.Frames.{way_of, callee_of, frame_of, spot_of, spot_frame, puts_some, handled}
use Rattle.symbolic_source.specs.Outcomes.{Outcome, goes, writes, either, Stops}
use Rattle.symbolic_source.specs.Steps.{Answers, left, result_words, target_of, source_of, called, destroys_next, each_next, same_word, run_items, compared}
use Rattle.symbolic_source.specs.Steps.{caught, taken, handling, tried, take_field, take_bytes, fill_field, rethrown, destroyed, return_value, first_part, ran}
use Rattle.symbolic_source.specs.Steps.{updated, given}
use Rattle.symbolic_source.specs.Small.{IsSmall, AreWords, AreRight}
use Rattle.symbolic_source.proofs.TermLemmas.{term_below, plus_number_is, one_less_is, element_is, word_kept, stored_kept}
use Rattle.symbolic_source.proofs.Equals.{same_zero, same_not_zero}
use Rattle.symbolic_source.proofs.Shown.{Shown, on, here, cond_shown, either_shown, if_zero, if_not_zero, if_word_shown, finished, puts_some_shown}
use Rattle.symbolic_source.proofs.Shown.{waiting_shown, goes_if_shown, left_shown, words_join, result_words_are, target_is, source_is, next_shown, called_shown}

module _ (p : Program) (f : Func) (x : Values) (answers : Answers) (rest : List frames.Frame) (small : IsSmall p) (bounded : AreWords x)
    (right : AreRight p x answers) where
  abbrev Is : Outcome → State → Type 0
  Is o s = Shown p f x rest o s

  abbrev k_of : List Frame → List frames.Frame
  k_of k = on p f x rest k

  abbrev h_of : List Waiting → frames.Here
  h_of ws = here p f x rest ws

  abbrev word : Term → ℕ
  word t = eval p f x t

  -- Handlers

  taken_is : (ws : List Waiting) (e : Exception) (kind : TKind) (fields : Trees) (k : List Frame)
      → source.taken (h_of ws) (exception_of p f x e) kind fields (k_of k) ≡ k_of (taken p f answers e kind fields k)
  taken_is ws e (Handler (Some place)) fields k = refl
  taken_is ws e kind fields k = refl

  handling_shown : (ws : List Waiting) (e : Exception) (handler : Tree) (k : List Frame)
      → Is (handling p f answers ws e handler k) (source.handle (h_of ws) (exception_of p f x e) handler (k_of k))
  handling_shown ws e (node kind t cat place kids) k =
      ap (λ z. frames.at Silent (h_of ws) z) (taken_is ws e kind (others_of kids) (Then value (first kids) ∷ Handling e ∷ k))

  tried_shown : (ws : List Waiting) (o : Option Bool) (b : Bool) (e : Exception) (handler : Tree) (others : Trees) (k : List Frame)
      → ((a : Bool) → o ≡ Some a → b ≡ a)
      → Is (tried p f answers ws o e handler others k)
      (cond b (source.handle (h_of ws) (exception_of p f x e) handler (k_of k))
      (source.leave (h_of ws) (frames.throws (exception_of p f x e)) (frames.Tries others ∷ k_of k)))
  tried_shown ws None b e handler others k h = tt
  tried_shown ws (Some true) b e handler others k h =
      subst (λ z. Is (handling p f answers ws e handler k)
      (cond z (source.handle (h_of ws) (exception_of p f x e) handler (k_of k))
      (source.leave (h_of ws) (frames.throws (exception_of p f x e)) (frames.Tries others ∷ k_of k))))
      (sym (h true refl)) (handling_shown ws e handler k)
  tried_shown ws (Some false) b e handler others k h =
      subst (λ z. Is (left ws (throws e) (Tries others ∷ k))
      (cond z (source.handle (h_of ws) (exception_of p f x e) handler (k_of k))
      (source.leave (h_of ws) (frames.throws (exception_of p f x e)) (frames.Tries others ∷ k_of k))))
      (sym (h false refl)) (left_shown p f x rest ws (throws e) (Tries others ∷ k))

  caught_right : (e : Exception) (handler : Tree) (a : Bool) → caught p f answers e handler ≡ Some a
      → catches p.classes (typ_in handler) (exception_of p f x e).typ ≡ a
  caught_right (unknown n) handler a e = right n handler a e
  caught_right (made t puts) handler a e = cc

  take_field_shown : (ws : List Waiting) (e : Exception) (base : Term) (kind : TKind) (others : Trees) (k : List Frame)
      → Is (take_field p f answers ws e base kind others k) (source.take_field (h_of ws) (exception_of p f x e) (word base) kind others (k_of k))
  take_field_shown ws e base (Field offset kind) others k = refl
  take_field_shown ws e base kind others k = refl

  take_bytes_shown : (ws : List Waiting) (e : Exception) (base : Term) (offset : ℕ) (kind : IntKind) (k : List Frame)
      → Is (take_bytes p f answers ws e base offset kind k)
      (source.write (h_of ws) (plus (word base) offset) kind false (read_bytes (exception_of p f x e).bytes offset (kind_size kind))
      (frames.Gives 0 ∷ k_of k))
  take_bytes_shown ws e base offset kind k = ap₂ (λ a b. frames.at (Writes a (kind_size kind) b false) (h_of ws) (frames.Gives 0 ∷ k_of k))
      (sym (plus_number_is p f x bounded base offset)) (sym (stored_kept p f x kind (read_bytes (exception_of p f x e).bytes offset (kind_size kind))))

  fill_field_shown : (ws : List Waiting) (t : Typ) (from : Term) (kind : TKind) (others : Trees) (puts : Puts) (k : List Frame)
      → Is (fill_field p f answers ws t from kind others puts k) (source.fill_field (h_of ws) t (word from) kind others (bytes_put p f x puts) (k_of k))
  fill_field_shown ws t from (Field offset kind) others puts k =
      cond_shown p f x rest (is_object_typ t) _ _ _ _
      (ap (λ z. frames.at (Reads z (kind_size kind) false) (h_of ws)
      (frames.Loaded kind ∷ frames.Filled t (word from) offset kind others (bytes_put p f x puts) ∷ k_of k))
      (sym (plus_number_is p f x bounded from offset))) refl
  fill_field_shown ws t from kind others puts k = refl

  rethrown_shown : (ws : List Waiting) (k j : List Frame)
      → Is (rethrown p f answers ws (handled k) j) (source.rethrow (h_of ws) (frames.handled (k_of k)) (k_of j))
  rethrown_shown ws [] j = refl
  rethrown_shown ws (Handling e ∷ k) j = left_shown p f x rest ws (throws e) j
  rethrown_shown ws (g ∷ k) j = rethrown_shown ws k j

  -- Destructions

  destroyed_shown : (ws : List Waiting) (address : Term) (kind : TKind) (others : Trees) (k : List Frame)
      → Is (destroyed p f answers ws address kind others k) (source.destroy p (h_of ws) (word address) kind others (k_of k))
  destroyed_shown ws address (Destroy g offset count stride) others k = if_word_shown p f x rest count _ _ (λ e.
      ap₂ (λ a b. frames.at Silent (h_of ws) (frames.Destroys (p.number f.unit g) a stride b ∷ frames.Gives (word address) ∷ frames.Due others ∷ k_of k))
      (sym (plus_number_is p f x bounded address offset)) (sym (word_kept p f x count e)))
  destroyed_shown ws address kind others k = refl

  one_more : (c : ℕ) → (c ≡ 0 → ⊥) → c ≡ suc (c - 1)
  one_more zero h = absurd (h refl)
  one_more (suc n) h = omega arith

  counted : (count : Term) → (word count ≡ 0 → ⊥) → word count ≡ suc (word (one_less count))
  counted count h = one_more (word count) h ∙ ap suc (sym (one_less_is p f x count))

  next_destroyed : (ws : List Waiting) (v : ℕ) (n : ℕ) (address : Term) (stride : ℕ) (count : Term) (k : List Frame) → (word count ≡ 0 → ⊥)
      → Is (destroys_next ws n address stride (one_less count) k) (source.give p (h_of ws) v (frames.Destroys n (word address) stride (word count) ∷ k_of k))
  next_destroyed ws v n address stride count k h =
      ap (λ z. source.give p (h_of ws) v (frames.Destroys n (word address) stride z ∷ k_of k)) (counted count h)
      ∙ ap (λ z. source.enter (h_of ws) (z ∷ []) (p.func n) (frames.Destroys n (word address) stride (word (one_less count)) ∷ k_of k))
      (sym (element_is p f x bounded address (one_less count) stride))

  next_each : (ws : List Waiting) (v : ℕ) (init : Tree) (destroys : Trees) (stride : ℕ) (count target from : Term) (k : List Frame) → (word count ≡ 0 → ⊥)
      → Is (each_next ws init destroys stride (one_less count) target from k)
      (source.give p (h_of ws) v (frames.Each init destroys stride (word count) (word target) (word from) ∷ k_of k))
  next_each ws v init destroys stride count target from k h =
      ap (λ z. source.give p (h_of ws) v (frames.Each init destroys stride z (word target) (word from) ∷ k_of k)) (counted count h)
      ∙ ap₂ (λ a b. frames.at Silent (h_of ws) (frames.Run (frames.into (word target) (word from)) init ∷ frames.Waits frames.of_pieces
      (literal (word target)) destroys ∷ frames.Each init destroys stride (word (one_less count)) a b ∷ k_of k))
      (sym (plus_number_is p f x bounded target stride)) (sym (plus_number_is p f x bounded from stride))

  -- Switches

  compared_shown : (ws : List Waiting) (w : Term) (labels items : Trees) (k : List Frame)
      → Is (compared ws w labels items k) (source.compare (h_of ws) (word w) labels items (k_of k))
  compared_shown ws w none items k = refl
  compared_shown ws w (more t ts) items k = refl

  -- Nodes

  return_shown : (ws : List Waiting) (kids : Trees) (k : List Frame) → Is (return_value p f answers ws kids k) (source.return_value (h_of ws) kids (k_of k))
  return_shown ws none k = left_shown p f x rest ws (returns (number 0)) k
  return_shown ws (more t ts) k = refl

  first_part_shown : (ws : List Waiting) (b : Bool) (kids : Trees) (k : List Frame)
      → Is (first_part p f answers ws b kids k) (source.first_part (h_of ws) b kids (k_of k))
  first_part_shown ws true kids k = refl
  first_part_shown ws false kids k = refl

  ran_shown : (ws : List Waiting) (way : Way) (kind : TKind) (kids : Trees) (done : Term → Outcome) (go : ℕ → State) (k : List Frame)
      → ((w : Term) → Is (done w) (go (word w)))
      → Is (ran p f answers ws way kind kids done k) (source.run_node p (h_of ws) (way_of p f x way) kind kids go (k_of k))
  ran_shown ws way (Literal w) kids done go k g = if_word_shown p f x rest w _ _
      (λ e. subst (λ z. Is (done (number w)) (go z)) (word_kept p f x w e) (g (number w)))
  ran_shown ws way (Local place) kids done go k g = g _
  ran_shown ws way (Global n) kids done go k g = subst (λ z. Is (done (global n)) (go z)) (mod-eq_of_lt (small.globals f.unit n)) (g (global n))
  ran_shown ws way (Function n) kids done go k g = subst (λ z. Is (done (function n)) (go z)) (mod-eq_of_lt (small.functions f.unit n)) (g (function n))
  ran_shown ws way (ClassTable c) kids done go k g = subst (λ z. Is (done (table c)) (go z)) (mod-eq_of_lt (small.tables c)) (g (table c))
  ran_shown ws way (Load kind volatile) kids done go k g = refl
  ran_shown ws way (Convert kind) kids done go k g = refl
  ran_shown ws way Retype kids done go k g = refl
  ran_shown ws way (Binary op kind) kids done go k g = refl
  ran_shown ws way Conditional kids done go k g = refl
  ran_shown ws way Comma kids done go k g = refl
  ran_shown ws way (Assign kind volatile) kids done go k g = refl
  ran_shown ws way (Update op stored operation volatile old) kids done go k g = refl
  ran_shown ws way CopyAssign kids done go k g = refl
  ran_shown ws way (Materialize place true) kids done go k g = refl
  ran_shown ws way (Materialize place false) kids done go k g = refl
  ran_shown ws way FullExpression kids done go k g = refl
  ran_shown ws way (Call n) kids done go k g = subst (λ z. Is (called ws (known (p.number f.unit n)) (result_words way) kids k)
      (source.call p (h_of ws) (frames.known (p.number f.unit n)) z kids (k_of k))) (result_words_are p f x rest way)
      (called_shown p f x rest ws (known (p.number f.unit n)) (result_words way) kids k)
  ran_shown ws value (VirtualCall n class slot offset) kids done go k g = refl
  ran_shown ws (into target from) (VirtualCall n class slot offset) kids done go k g = refl
  ran_shown ws value PointerCall kids done go k g = refl
  ran_shown ws (into target from) PointerCall kids done go k g = refl
  ran_shown ws way (CallBuiltin which) kids done go k g = next_shown p f x rest ws (builtin which) [] kids k
  ran_shown ws way Throw kids done go k g = refl
  ran_shown ws way Rethrow kids done go k g = rethrown_shown ws k k
  ran_shown ws value (Store kind volatile) kids done go k g = refl
  ran_shown ws (into target from) (Store kind volatile) kids done go k g = refl
  ran_shown ws value (CopyScalar kind volatile) kids done go k g = refl
  ran_shown ws (into target from) (CopyScalar kind volatile) kids done go k g = refl
  ran_shown ws value (Construct n) kids done go k g = called_shown p f x rest ws (known (p.number f.unit n)) (number 0 ∷ []) kids k
  ran_shown ws (into target from) (Construct n) kids done go k g = called_shown p f x rest ws (known (p.number f.unit n)) (target ∷ []) kids k
  ran_shown ws value (CopyConstruct n) kids done go k g = refl
  ran_shown ws (into target from) (CopyConstruct n) kids done go k g = refl
  ran_shown ws value CopyFrom kids done go k g = refl
  ran_shown ws (into target from) CopyFrom kids done go k g = refl
  ran_shown ws value Pieces kids done go k g = refl
  ran_shown ws (into target from) Pieces kids done go k g = refl
  ran_shown ws way (Piece offset) kids done go k g =
      ap₂ (λ a b. frames.at Silent (h_of ws) (frames.Run (frames.into a b) (first kids) ∷ frames.Waits frames.of_pieces (literal a) (others_of kids) ∷ k_of k))
      (ap (λ z. plus z offset) (sym (target_is p f x rest way)) ∙ sym (plus_number_is p f x bounded (target_of way) offset))
      (ap (λ z. plus z offset) (sym (source_is p f x rest way)) ∙ sym (plus_number_is p f x bounded (source_of way) offset))
  ran_shown ws way (Elements count stride) kids done go k g = if_word_shown p f x rest count _ _ (λ e.
      ap (λ z. frames.at Silent (h_of ws) (frames.Each (first kids) (others_of kids) stride z (source.target_of (way_of p f x way))
      (source.source_of (way_of p f x way)) ∷ frames.Scope frames.of_pieces false [] ∷ k_of k)) (sym (word_kept p f x count e))
      ∙ ap₂ (λ a b. frames.at Silent (h_of ws) (frames.Each (first kids) (others_of kids) stride (word (number count)) a b
      ∷ frames.Scope frames.of_pieces false [] ∷ k_of k)) (sym (target_is p f x rest way)) (sym (source_is p f x rest way)))
  ran_shown ws way (Block subobjects) kids done go k g = refl
  ran_shown ws way Init kids done go k g = refl
  ran_shown ws way Defer kids done go k g = refl
  ran_shown ws way (Loop test_first) kids done go k g = first_part_shown ws test_first kids k
  ran_shown ws way Switch kids done go k g = refl
  ran_shown ws way (Case w) kids done go k g = g (number 0)
  ran_shown ws way Default kids done go k g = g (number 0)
  ran_shown ws way Break kids done go k g = left_shown p f x rest ws breaks k
  ran_shown ws way Continue kids done go k g = left_shown p f x rest ws continues k
  ran_shown ws way Return kids done go k g = return_shown ws kids k
  ran_shown ws way Try kids done go k g = refl
  ran_shown ws way (Handler place) kids done go k g = g (number 0)
  ran_shown ws way (Atomic kind) kids done go k g = refl
  ran_shown ws way Synchronized kids done go k g = refl
  ran_shown ws way (Destroy n offset count stride) kids done go k g = g (number 0)
  ran_shown ws way (Field offset kind) kids done go k g = g (number 0)

  -- Values

  updated_is : (b : Bool) (old address : Term) → word (cond b old address) ≡ cond b (word old) (word address)
  updated_is true old address = refl
  updated_is false old address = refl

  found_shown : (ws : List Waiting) (class slot : ℕ) (v : Term) (before : List Term) (words : Trees) (k : List Frame) (o : Option ℕ)
      → p.slot (word v) class slot ≡ o
      → ((n : ℕ) → o ≡ Some n → Is (called ws (virtual class slot v) before words k) (source.call_slot p (h_of ws) o (words_of p f x before) words (k_of k)))
      × (o ≡ None → Stops (Trapped BadVirtual) (source.call_slot p (h_of ws) o (words_of p f x before) words (k_of k)))
  found_shown ws class slot v before words k None e = (λ n i. absurd cc, λ i. record { here = h_of ws; others = k_of k; is = refl })
  found_shown ws class slot v before words k (Some m) e = (
    λ n i. subst (λ z. Is (called ws (virtual class slot v) before words k) (source.call p (h_of ws) (frames.virtual z) (words_of p f x before) words (k_of k)))
        (ap (λ (z : Option ℕ). number_found z) e) (called_shown p f x rest ws (virtual class slot v) before words k),
    λ i. absurd cc,
  )

  result_shown : (ws : List Waiting) (op : BinOp) (kind : IntKind) (a v : Term) (o : Outcome) (go : ℕ → State) (z : ℤ)
      → applied op kind (word a) (word v) ≡ Ok z → Is o (go (word (result op kind a v))) → Is o (go (word_of z))
  result_shown ws op kind a v o go z e h = subst (λ y. Is o (go y)) (ap word_or_zero e) h

  spot_is : (a : Spot) → frames.Run frames.value (spot_of p f x a) ≡ frame_of p f x (spot_frame a)
  spot_is (at_word w) = refl
  spot_is (at_tree t) = refl

  pub given_shown : (ws : List Waiting) (v : Term) (k : List Frame) → Is (given p f answers ws v k) (source.give p (h_of ws) (word v) (k_of k))
  given_shown ws v [] = refl
  given_shown ws v (Run way (node kind t cat place kids) ∷ k) =
      ran_shown ws way kind kids (λ w. given p f answers ws w k) (λ w. source.give p (h_of ws) w (k_of k)) k (λ w. given_shown ws w k)
  given_shown ws v (Address w ∷ k) = given_shown ws w k
  given_shown ws v (Then way t ∷ k) = refl
  given_shown ws v (Gives w ∷ k) = given_shown ws w k
  given_shown ws v (Leaves exit ∷ k) = left_shown p f x rest ws exit k
  given_shown ws v (Loads kind volatile ∷ k) = refl
  given_shown ws v (Loaded kind ∷ k) = given_shown ws _ k
  given_shown ws v (Replied ∷ k) = given_shown ws v k
  given_shown ws v (StoreTo address kind volatile answer ∷ k) = refl
  given_shown ws v (Converts kind ∷ k) = given_shown ws _ k
  given_shown ws v (Right op kind t ∷ k) = refl
  given_shown ws v (Apply op kind a ∷ k) = finished p f x rest (applied op kind (word a) (word v)) (h_of ws) (λ z. source.give p (h_of ws) (word_of z) (k_of k))
      (k_of k) (given p f answers ws (result op kind a v) k)
      (λ z e. result_shown ws op kind a v (given p f answers ws (result op kind a v) k) (λ y. source.give p (h_of ws) y (k_of k)) z e
      (given_shown ws (result op kind a v) k))
  given_shown ws v (Choose way chosen other ∷ k) = either_shown p f x rest v _ _ _
      (λ e. ap (λ z. frames.at Silent (h_of ws) (frames.Run (way_of p f x way) z ∷ k_of k)) (if_zero p f x rest (word v) other chosen e))
      (λ e. ap (λ z. frames.at Silent (h_of ws) (frames.Run (way_of p f x way) z ∷ k_of k)) (if_not_zero p f x rest (word v) other chosen e))
  given_shown ws v (AssignTo kind volatile t ∷ k) = refl
  given_shown ws v (UpdateAt c t ∷ k) = refl
  given_shown ws v (UpdateOld c address t ∷ k) = refl
  given_shown ws v (UpdateBy c address old ∷ k) = finished p f x rest (applied c.op c.operation (word old) (word v)) (h_of ws)
      (λ z. source.write (h_of ws) (word address) c.stored c.volatile (source.converted c.stored (word_of z))
      (frames.Gives (source.updated c (word address) (word old)) ∷ k_of k)) (k_of k)
      (goes (writes address c.stored (converted_to c.stored (result c.op c.operation old v)) c.volatile) ws (Gives (updated p f answers c address old) ∷ k))
      (λ z e. result_shown ws c.op c.operation old v (goes (writes address c.stored (converted_to c.stored (result c.op c.operation old v)) c.volatile) ws
      (Gives (updated p f answers c address old) ∷ k))
      (λ y. source.write (h_of ws) (word address) c.stored c.volatile (source.converted c.stored y)
      (frames.Gives (source.updated c (word address) (word old)) ∷ k_of k)) z e
      (ap (λ y. source.write (h_of ws) (word address) c.stored c.volatile (source.converted c.stored (word (result c.op c.operation old v)))
      (frames.Gives y ∷ k_of k)) (sym (updated_is c.old old address))))
  given_shown ws v (CopyTo from init ∷ k) = refl
  given_shown ws v (CopyBy target init ∷ k) = refl
  given_shown ws v (From target init ∷ k) = refl
  given_shown ws v (Words callee before others ∷ k) =
      subst (λ z. Is (given p f answers ws v (Words callee before others ∷ k)) (source.next_word p (h_of ws) (callee_of p f x callee) z others (k_of k)))
      (words_join p f x rest before v) (next_shown p f x rest ws callee (before ++ v ∷ []) others k)
  given_shown ws v (Object before class slot offset words ∷ k) =
      ap₂ (λ a b. frames.at (Reads a 8 false) (h_of ws) (frames.Slot b class slot words ∷ k_of k)) (sym (plus_number_is p f x bounded v offset))
      (sym (words_join p f x rest before v))
  given_shown ws v (Slot before class slot words ∷ k) = found_shown ws class slot v before words k (p.slot (word v) class slot) refl
  given_shown ws v (Pointer before sig words ∷ k) = called_shown p f x rest ws (pointer v sig) before words k
  given_shown ws v (Passes [] places ∷ k) = given_shown ws (number 0) k
  given_shown ws v (Passes (w ∷ words) [] ∷ k) = given_shown ws (number 0) k
  given_shown ws v (Passes (w ∷ words) (place ∷ places) ∷ k) = refl
  given_shown ws v (Full outer ∷ k) = refl
  given_shown ws v (Keeps address destroys ∷ k) = ap (λ z. frames.at Silent (source.with_temporaries (h_of ws) z) (frames.Gives (word v) ∷ k_of k))
      (waiting_shown p f x rest address destroys ws)
  given_shown ws v (Scope owner true scoped ∷ k) = refl
  given_shown ws v (Scope owner false scoped ∷ k) = refl
  given_shown ws v (Waits owner address destroys ∷ k) =
      goes_if_shown p f x rest ws (Gives v) (puts_some owner address destroys k) _ (λ i e. puts_some_shown p f x rest owner address destroys k i e)
  given_shown ws v (InitAt init destroys ∷ k) = refl
  given_shown ws v (Cleans [] ∷ k) = given_shown ws v k
  given_shown ws v (Cleans (w ∷ others) ∷ k) = ap (λ z. frames.at Silent (h_of ws)
      (z ∷ frames.Due w.destroys ∷ frames.Cleans (waitings_of p f x others) ∷ k_of k)) (spot_is w.address)
  given_shown ws v (Due none ∷ k) = given_shown ws v k
  given_shown ws v (Due (more t ts) ∷ k) = destroyed_shown ws v (kind_of t) ts k
  given_shown ws v (Destroys n address stride count ∷ k) = either_shown p f x rest count _ _ _
      (λ e. subst (λ z. Is (given p f answers ws v k) (source.give p (h_of ws) (word v) (frames.Destroys n (word address) stride z ∷ k_of k))) (sym e)
      (given_shown ws v k))
      (λ e. next_destroyed ws (word v) n address stride count k e)
  given_shown ws v (Parts none target from ∷ k) = given_shown ws v k
  given_shown ws v (Parts (more t ts) target from ∷ k) = refl
  given_shown ws v (Each init destroys stride count target from ∷ k) = either_shown p f x rest count _ _ _
      (λ e. subst (λ z. Is (given p f answers ws v k)
      (source.give p (h_of ws) (word v) (frames.Each init destroys stride z (word target) (word from) ∷ k_of k))) (sym e) (given_shown ws v k))
      (λ e. next_each ws (word v) init destroys stride count target from k e)
  given_shown ws v (Items none ∷ k) = given_shown ws (number 0) k
  given_shown ws v (Items (more t ts) ∷ k) = refl
  given_shown ws v (Test test body step ∷ k) = either_shown p f x rest v _ _ _ (λ e. if_zero p f x rest (word v) _ _ e)
      (λ e. if_not_zero p f x rest (word v) _ _ e)
  given_shown ws v (Body test body step ∷ k) = refl
  given_shown ws v (Step test body step ∷ k) = refl
  given_shown ws v (Picks items ∷ k) = compared_shown ws v (from_label is_case items) items k
  given_shown ws v (Compares w label ts items ∷ k) = if_word_shown p f x rest (case_word label)
      (either (same_word w (case_word label)) (compared ws w (from_label is_case ts) items k) (run_items ws ts k)) _
      (λ h. either_shown p f x rest (same_word w (case_word label)) (compared ws w (from_label is_case ts) items k) (run_items ws ts k) _
      (λ e. subst (λ z. Is (compared ws w (from_label is_case ts) items k)
      (cond z (source.run_items (h_of ws) ts (k_of k)) (source.compare (h_of ws) (word w) (from_label is_case ts) items (k_of k))))
      (sym (ap (λ z. z == word w) (sym (word_kept p f x (case_word label) h))
      ∙ same_zero (word w) (word (number (case_word label))) (term_below p f x bounded w) (term_below p f x bounded (number (case_word label))) e))
      (compared_shown ws w (from_label is_case ts) items k))
      (λ e. subst (λ z. Is (run_items ws ts k) (cond z (source.run_items (h_of ws) ts (k_of k))
      (source.compare (h_of ws) (word w) (from_label is_case ts) items (k_of k))))
      (sym (ap (λ z. z == word w) (sym (word_kept p f x (case_word label) h))
      ∙ same_not_zero (word w) (word (number (case_word label))) (term_below p f x bounded w)
      (term_below p f x bounded (number (case_word label))) e)) refl))
  given_shown ws v (Switches ∷ k) = given_shown ws (number 0) k
  given_shown ws v (Returning ∷ k) = left_shown p f x rest ws (returns v) k
  given_shown ws v (Opens block body ∷ k) = refl
  given_shown ws v (Within block ∷ k) = refl
  given_shown ws v (Closes block ∷ k) = given_shown ws (number 0) k
  given_shown ws v (Throws t fields ∷ k) = refl
  given_shown ws v (Fills t from none puts ∷ k) = left_shown p f x rest ws (throws (made t puts)) k
  given_shown ws v (Fills t from (more part others) puts ∷ k) = fill_field_shown ws t from (kind_of part) others puts k
  given_shown ws v (Filled t from offset kind others puts ∷ k) = refl
  given_shown ws v (Tries handlers ∷ k) = given_shown ws (number 0) k
  given_shown ws v (Trying e handler others ∷ k) = tried_shown ws (caught p f answers e handler) _ e handler others k (λ a i. caught_right e handler a i)
  given_shown ws v (Takes e base none ∷ k) = given_shown ws (number 0) k
  given_shown ws v (Takes e base (more part others) ∷ k) = take_field_shown ws e base (kind_of part) others k
  given_shown ws v (Taking e base offset kind ∷ k) = take_bytes_shown ws e base offset kind k
  given_shown ws v (Handling e ∷ k) = given_shown ws v k
