-- An instruction does what is foreseen.
use Rattle.std.proofs.Common.{ℕ, ℤ, pos, ◌≡◌, ◌+◌, ◌*◌, ◌%◌, ◌^◌, ◌<◌, ◌==◌, ◌&&◌, ◌||◌, ◌≤◌, inl, inr, nat_lt, Bool, true, false, not, cond, if◌then◌else◌}
use Rattle.std.proofs.Common.{refl, ap, ap₂, sym, ◌∙◌, subst, List, [], ◌∷◌, Option, Some, None, Ok, Err, arith}
use Rattle.std.specs.Prelude.{slice_get, ◌-◌, nat_eq, nat_le, length}
use Rattle.src_mean.specs.Exceptions.{bytes_of, with_bytes, read_bytes}
use Rattle.std.proofs.lemmas.Bool.{true≢false, and_parts, eqb-true, eq-eqb, leb-true}
use Rattle.tx_ints.specs.declared.kinds.IntKind.{IntKind}
use Rattle.tx_events.specs.declared.Trap.TheVariants.{BadCall, BadVirtual}
use Rattle.tx_ints.specs.declared.kinds.IntKind.TheVariants.{Bool as BoolKind, Int, Long, ULong}
use Rattle.tx_ints.specs.declared.kinds.BinOp.{BinOp}
use Rattle.tx_ints.specs.declared.kinds.BinOp.TheVariants.{Add, Sub, Mul, Eq}
use Rattle.tx_ints.specs.declared.kinds.ArithTrap.{ArithTrap}
use Rattle.tx_ints.specs.Integers.{apply_of, convert_of}
use Rattle.tx_ints.specs.Words.{word_of, value_of_word}
use Rattle.tx_events.specs.declared.BlockKind.{BlockKind}
use Rattle.tx_events.specs.declared.BlockKind.TheVariants.{NoExcept, Commit, Cancel}
use Rattle.tx_events.specs.declared.End.TheVariants.{Abort as Aborts, Terminate, Trapped}
use Rattle.tx_events.specs.declared.Event.TheVariants.{Load as LoadOf, Store as StoreOf, Out as OutOf, Inp as InpOf, Spawn as SpawnOf, Join as JoinOf}
use Rattle.tx_events.specs.declared.Event.TheVariants.{BeginAtomic, EndAtomic, BeginSync as BeginSyncOf, EndSync as EndSyncOf, Stop}
use Rattle.tx_events.specs.declared.Reply.{Reply}
use Rattle.tx_events.specs.declared.Reply.TheVariants.{Nothing, Loaded, Byte, Id}
use Rattle.tx_events.specs.Thread.{Open, Atomic, Sync, Answers, same_kind, rest_of}
use Rattle.tx_code.specs.declared.instr.Instr.{Instr}
use Rattle.tx_code.specs.declared.instr.Instr.TheVariants.{Push, Dup, Pop, Swap, FrameAddr, GlobalAddr, FuncAddr, ClassAddr, Load, Store, TLoad, TStore, VLoad}
use Rattle.tx_code.specs.declared.instr.Instr.TheVariants.{VStore, Bin, Conv, Jump, JumpZero, Begin, End, BeginSync, EndSync, Out, Inp, Spawn, Join, Abort}
use Rattle.tx_code.specs.declared.instr.Instr.TheVariants.{Slot, NewException, PutException, Throw, Rethrow, GetException, EndHandler, Resume, Over}
use Rattle.tx_code.specs.Meaning.{Frame, Home, Runs, Building, no_bytes, put_bytes, get_bytes, Act, Does, Ends, Lost, act, one, two, if_some, result_act}
use Rattle.tx_code.specs.Meaning.{size_of, bits_of, right_kind, traps}
use Rattle.tx_code.specs.Meaning as code
use Rattle.tx_code.specs.Renaming.{Numbering, renamed}
use Rattle.cpp_tree.specs.cpp_types.Typ.{Typ}
use Rattle.cpp_tree.specs.cpp_layout.Layout.{kind_size, function_address}
use Rattle.src_mean.specs.Linked.{Func, Program}
use Rattle.src_mean.specs.Frames.{State}
use Rattle.src_mean.specs.Frames as frames
use Rattle.src_mean.specs.Source.{applied, right_value, stored_bytes, thread_signature}
use Rattle.src_mean.specs.Source as source
use Rattle.symbolic_source.specs.Terms.{at_offset, Term, number, variable, local, global, function, table, sum, product, low_byte, converted_to, result}
use Rattle.symbolic_source.specs.Terms.{Exception, unknown, made, Puts, untouched, put, Values, word_or_zero, number_found, eval, exception_of, bytes_put}
use Rattle.symbolic_source.specs.Terms.{plus_number, one_less}
use Rattle.symbolic_source.specs.Frames.{Waiting, Exit, throws, returns, breaks, continues, words_of, below, here_of}
use Rattle.symbolic_source.specs.Frames as symbolic
use Rattle.symbolic_source.specs.Outcomes.{Doing, reads, writes, puts_out, takes_in, joins, begins_atomic, begins_sync, ends_block, leaves_block, Outcome, goes}
use Rattle.symbolic_source.specs.Outcomes.{chooses, results, finds, spawns, rethrows, halts, Shows, event_of}
use Rattle.symbolic_source.specs.Small.{IsSmall, AreWords}
use Rattle.symbolic_source.specs.Replacing.{in_terms}
use Rattle.symbolic_source.proofs.TermLemmas.{term_below, plus_number_is, one_less_is, word_kept}
use Rattle.std.proofs.Math.Nat.{mod-eq_of_lt, add-mod-mod}
use Rattle.symbolic_code.specs.Same.{same_term, same_number, same_operator}
use Rattle.symbolic_code.specs.Facts.{Fact, AllHold, is_not_zero}
use Rattle.symbolic_code.proofs.Facts.{known_not_zero}
use Rattle.symbolic_code.specs.Places.{with_operands, Place, Hold, making, flying, all_coded, hold_of, frame_at, replied, later, place_later, opened_later}
use Rattle.symbolic_code.specs.Following.{times, quietly, Table, Next, refused, unless_trap, loudly, one_of, two_of, if_found, pushes, same_flag, is_bool, kept}
use Rattle.symbolic_code.specs.Following.{stored_term, loads, stores, outputs, inputs, joining, begins, begins_locked, ends_atomic, ends_locked, aborts}
use Rattle.symbolic_code.specs.Following.{minus_number, or_less_one, addresses, operates, jumps_zero, puts_in, throws_made, resumes, rethrows_caught, was_put}
use Rattle.symbolic_code.specs.Following.{put_in, read_as, taken_word, gets_caught, handler_ends, bare_address, slots_follow, spawning, followed, Follows}
use Rattle.symbolic_code.specs.Following.{AreNames}
use Rattle.symbolic_code.proofs.SameTerms.{term_same, number_same, operator_same}
use Rattle.symbolic_code.proofs.Bytes.{put_same, get_same, no_bytes_same, bytes_low, with_length, put_read, read_apart}
use Rattle.symbolic_code.proofs.Arithmetic.{size_same, bits_same, stored_converted, bool_same, short_number, low_number, right_same, trap_same, sum_same}
use Rattle.symbolic_code.proofs.Arithmetic.{product_same, difference_same, one_from, value_plain, equal_same, conversion_same}
use Rattle.symbolic_code.proofs.Later.{words_later, frame_later}

flag_same : (a b : Bool) → same_flag a b ≡ true → a ≡ b
flag_same true b h = sym h
flag_same false true h = absurd (true≢false (sym h))
flag_same false false h = refl

not_true : (b : Bool) → not b ≡ true → b ≡ false
not_true true h = absurd (true≢false (sym h))
not_true false h = refl

kind_same : (j k : BlockKind) → same_kind j k ≡ true → j ≡ k
kind_same NoExcept NoExcept h = refl
kind_same NoExcept Commit h = absurd (true≢false (sym h))
kind_same NoExcept Cancel h = absurd (true≢false (sym h))
kind_same Commit Commit h = refl
kind_same Commit NoExcept h = absurd (true≢false (sym h))
kind_same Commit Cancel h = absurd (true≢false (sym h))
kind_same Cancel Cancel h = refl
kind_same Cancel Commit h = absurd (true≢false (sym h))
kind_same Cancel NoExcept h = absurd (true≢false (sym h))

module _ (p : Program) (f : Func) (numbers : Typ → ℕ) (x : Values) (home : Home) (rest : List frames.Frame) (below_frames : List Frame) (small : IsSmall p)
    (bounded : AreWords x) (based : home.base ≡ x.base) where
  abbrev Is : Next → Act → State → Type 0
  Is n a s = Follows p f numbers x home rest below_frames n a s

  abbrev Foreseen : Outcome → State → Type 0
  Foreseen o s = Shows p f x rest o s

  abbrev word : Term → ℕ
  word t = eval p f x t

  abbrev words : List Term → List ℕ
  words ws = words_of p f x ws

  abbrev frame : ℕ → Place → Frame
  frame i q = frame_at p f numbers x home i q

  -- at this index, with these words
  abbrev stands : ℕ → Place → List ℕ → Act
  stands i q vs = code.goes (Runs (code.at (frame 0 q) i vs) below_frames)

  -- Operands

  one_follows : (ws : List Term) (go : Term → List Term → Next) (step : ℕ → List ℕ → Act) (s : State)
      → ((w : Term) (vs : List Term) → Is (go w vs) (step (word w) (words vs)) s) → Is (one_of ws go) (one (words ws) step) s
  one_follows [] go step s h = tt
  one_follows (w ∷ ws) go step s h = h w ws

  two_follow : (ws : List Term) (go : Term → Term → List Term → Next) (step : ℕ → ℕ → List ℕ → Act) (s : State)
      → ((a b : Term) (vs : List Term) → Is (go a b vs) (step (word a) (word b) (words vs)) s) → Is (two_of ws go) (two (words ws) step) s
  two_follow [] go step s h = tt
  two_follow (b ∷ []) go step s h = tt
  two_follow (b ∷ a ∷ ws) go step s h = h a b ws

  found_follows : {A : Type 0} (o : Option A) (go : A → Next) (missing : Act) (step : A → Act) (s : State) → ((a : A) → Is (go a) (step a) s)
      → Is (if_found o go) (if_some o missing step) s
  found_follows None go missing step s h = tt
  found_follows (Some a) go missing step s h = h a

  named_follows : (o : Option ℕ) (go : ℕ → Next) (a : Act) (s : State) → ((n : ℕ) → o ≡ Some n → Is (go n) a s) → Is (if_found o go) a s
  named_follows None go a s h = tt
  named_follows (Some n) go a s h = h n refl

  test_follows : (b : Bool) (n : Next) (a : Act) (s : State) → (b ≡ true → Is n a s) → Is (cond b n refused) a s
  test_follows true n a s h = h refl
  test_follows false n a s h = tt

  pushed : (i : ℕ) (q : Place) (o : Outcome) (s : State) (w : Term) (ws : List Term) (v : ℕ) → v ≡ word w → Foreseen o s
      → Is (pushes i q o w ws) (stands (i + 1) q (v ∷ words ws)) s
  pushed i q o s w ws v e h = (ap (λ (z : ℕ). stands (i + 1) q (z ∷ words ws)) e, h)

  -- Events

  -- the event of both, and the place after each reply
  loud : (doing : Doing) (ws : List Waiting) (k : List symbolic.Frame) (index : ℕ) (q : Place) (s : State) (a : Act) (on : Reply → code.State)
      → a ≡ Does (event_of p f x doing) on
      → ((reply : Reply) → Answers (event_of p f x doing) reply → on reply ≡ Runs (frame_at p f numbers (replied x reply) home index q) below_frames)
      → Foreseen (goes doing ws k) s → Is (loudly doing ws k index q) a s
  loud doing ws k index q s a on e g h = (record { on = on; does = e; then_at = g }, h)

  loaded_at : (i : ℕ) (q : Place) (k : IntKind) (a : ℕ) (size : ℕ) (volatile : Bool) (ws : List Term) (reply : Reply) → Answers (LoadOf a size volatile) reply
      → Runs (code.on_with (frame i q) (word_of (convert_of k (pos (code.loaded reply))) ∷ words ws)) below_frames
      ≡ Runs (frame_at p f numbers (replied x reply) home (i + 1) (place_later q (converted_to k (variable 0) ∷ in_terms later ws))) below_frames
  loaded_at i q k a size volatile ws (Loaded w) fits =
      frame_later p f numbers x (Loaded w) home below_frames (i + 1) q q.opens (word_of (convert_of k (pos w)) ∷ words ws)
      (converted_to k (variable 0) ∷ in_terms later ws)
      (ap (λ (z : List ℕ). word_of (convert_of k (pos w)) ∷ z) (sym (words_later p f numbers x (Loaded w) ws)))
  loaded_at i q k a size volatile ws Nothing fits = absurd fits
  loaded_at i q k a size volatile ws (Byte v) fits = absurd fits
  loaded_at i q k a size volatile ws (Id v) fits = absurd fits

  loads_follow : (i : ℕ) (q : Place) (k : IntKind) (volatile : Bool) (a : Term) (ws : List Term) (o : Outcome) (s : State) → Foreseen o s
      → Is (loads i q k volatile a ws o) (Does (LoadOf (word a) (size_of k) volatile)
      (λ r. Runs (code.on_with (frame i q) (word_of (convert_of k (pos (code.loaded r))) ∷ words ws)) below_frames)) s
  loads_follow i q k volatile a ws (goes (reads b size v) temporaries j) s h =
      test_follows (same_term a b && (size == size_of k) && same_flag volatile v) _ _ s (λ e.
      let c = and_parts (same_term a b && (size == size_of k)) (same_flag volatile v) e in
      let d = and_parts (same_term a b) (size == size_of k) c.0 in
      let on : Reply → code.State = λ r. Runs (code.on_with (frame i q) (word_of (convert_of k (pos (code.loaded r))) ∷ words ws)) below_frames in
      loud (reads b size v) temporaries j (i + 1) (place_later q (converted_to k (variable 0) ∷ in_terms later ws)) s
      (Does (LoadOf (word a) (size_of k) volatile) on) on
      (ap₂ (λ (u : Term) (w : ℕ). Does (LoadOf (word u) w volatile) on) (term_same a b d.0) (sym (eqb-true size (size_of k) d.1))
      ∙ ap (λ (z : Bool). Does (LoadOf (word b) size z) on) (flag_same volatile v c.1))
      (λ reply fits. loaded_at i q k (word b) size v ws reply fits) h)
  loads_follow i q k volatile a ws o s h = tt

  -- what is stored

  stored_is : (k : IntKind) (t : Term) → bits_of k (value_of_word k (word t)) ≡ stored_bytes k (word (stored_term k t))
  stored_is BoolKind t = bool_same (word t)
  stored_is k t = bits_same k (word t) refl

  kept_by : (b : Bool) (n : ℕ) (k : IntKind) (t : Term) → (b ≡ true → not (is_bool k) && (kind_size k == n) ≡ true)
      → word (cond b t (converted_to k t)) % 2 ^ (8 * n) ≡ word (converted_to k t) % 2 ^ (8 * n)
  unfolding stored_bytes
  kept_by true n k t h =
      let c = and_parts (not (is_bool k)) (kind_size k == n) (h refl) in
      subst (λ m. word t % 2 ^ (8 * m) ≡ word (converted_to k t) % 2 ^ (8 * m)) (eqb-true (kind_size k) n c.1)
      (sym (stored_converted k (word t) (not_true (is_bool k) c.0)))
  kept_by false n k t h = refl

  kept_is : (n : ℕ) (t : Term) → word (kept n t) % 2 ^ (8 * n) ≡ word t % 2 ^ (8 * n)
  kept_is n (converted_to k t) = kept_by (not (is_bool k) && (kind_size k == n)) n k t (λ e. e)
  kept_is n t = refl

  same_stored : (k j : IntKind) (t u : Term) → kind_size k ≡ kind_size j → kept (kind_size k) (stored_term k t) ≡ kept (kind_size k) u
      → bits_of k (value_of_word k (word t)) ≡ stored_bytes j (word u)
  unfolding stored_bytes
  same_stored k j t u e same = stored_is k t ∙ (sym (kept_is (kind_size k) (stored_term k t)) ∙
      (ap (λ z. word z % 2 ^ (8 * kind_size k)) same ∙ (kept_is (kind_size k) u ∙ ap (λ n. word u % 2 ^ (8 * n)) e)))

  stores_follow : (i : ℕ) (q : Place) (k : IntKind) (volatile : Bool) (a w : Term) (ws : List Term) (o : Outcome) (s : State) → Foreseen o s
      → Is (stores i q k volatile a w ws o) (code.asks (StoreOf (word a) (size_of k) (bits_of k (value_of_word k (word w))) volatile)
      (Runs (code.on_with (frame i q) (words ws)) below_frames)) s
  stores_follow i q k volatile a w ws (goes (writes b j u v) temporaries m) s h =
      test_follows (same_term a b && (kind_size k == kind_size j) &&
      (same_term (kept (kind_size k) (stored_term k w)) (kept (kind_size k) u) && same_flag volatile v)) _ _ s (λ e.
      let c = and_parts (same_term a b && (kind_size k == kind_size j))
      (same_term (kept (kind_size k) (stored_term k w)) (kept (kind_size k) u) && same_flag volatile v) e in
      let d = and_parts (same_term a b) (kind_size k == kind_size j) c.0 in
      let l = and_parts (same_term (kept (kind_size k) (stored_term k w)) (kept (kind_size k) u)) (same_flag volatile v) c.1 in
      let size : kind_size k ≡ kind_size j = eqb-true (kind_size k) (kind_size j) d.1 in
      loud (writes b j u v) temporaries m (i + 1) (place_later q (in_terms later ws)) s _ (λ r. Runs (code.on_with (frame i q) (words ws)) below_frames)
      (ap₂ (λ (y : ℕ) (z : ℕ). Does (StoreOf (word a) y z volatile) (λ r. Runs (code.on_with (frame i q) (words ws)) below_frames)) (size_same k ∙ size)
      (same_stored k j w u size (term_same (kept (kind_size k) (stored_term k w)) (kept (kind_size k) u) l.0))
      ∙ ap₂ (λ (y : Term) (z : Bool). Does (StoreOf (word y) (kind_size j) (stored_bytes j (word u)) z)
      (λ r. Runs (code.on_with (frame i q) (words ws)) below_frames)) (term_same a b d.0) (flag_same volatile v l.1))
      (λ reply fits. frame_later p f numbers x reply home below_frames (i + 1) q q.opens (words ws) (in_terms later ws)
      (sym (words_later p f numbers x reply ws))) h)
  stores_follow i q k volatile a w ws o s h = tt

  outputs_follow : (i : ℕ) (q : Place) (a : Term) (ws : List Term) (o : Outcome) (s : State) → Foreseen o s
      → Is (outputs i q a ws o) (code.asks (OutOf (word a % 256)) (Runs (code.on_with (frame i q) (word a % 256 ∷ words ws)) below_frames)) s
  outputs_follow i q a ws (goes (puts_out b) temporaries m) s h = test_follows (same_term (low_byte a) b) _ _ s (λ e.
      let same = ap (λ z. word z) (term_same (low_byte a) b e) in
      loud (puts_out b) temporaries m (i + 1) (place_later q (in_terms later (b ∷ ws))) s _
      (λ r. Runs (code.on_with (frame i q) (word a % 256 ∷ words ws)) below_frames)
      (ap (λ z. Does (OutOf z) (λ r. Runs (code.on_with (frame i q) (word a % 256 ∷ words ws)) below_frames)) same)
      (λ reply fits. frame_later p f numbers x reply home below_frames (i + 1) q q.opens (word a % 256 ∷ words ws) (in_terms later (b ∷ ws))
      (ap (λ (z : ℕ). z ∷ words ws) same ∙ sym (words_later p f numbers x reply (b ∷ ws)))) h)
  outputs_follow i q a ws o s h = tt

  input_at : (i : ℕ) (q : Place) (reply : Reply) → Answers InpOf reply
      → Runs (code.on_with (frame i q) (word_of (code.answered reply) ∷ words q.operands)) below_frames
      ≡ Runs (frame_at p f numbers (replied x reply) home (i + 1) (place_later q (variable 0 ∷ in_terms later q.operands))) below_frames
  input_at i q (Byte v) fits = frame_later p f numbers x (Byte v) home below_frames (i + 1) q q.opens (word_of v ∷ words q.operands)
      (variable 0 ∷ in_terms later q.operands) (ap (λ (z : List ℕ). word_of v ∷ z) (sym (words_later p f numbers x (Byte v) q.operands)))
  input_at i q Nothing fits = absurd fits
  input_at i q (Loaded w) fits = absurd fits
  input_at i q (Id v) fits = absurd fits

  inputs_follow : (i : ℕ) (q : Place) (o : Outcome) (s : State) → Foreseen o s
      → Is (inputs i q o) (Does InpOf (λ r. Runs (code.on_with (frame i q) (word_of (code.answered r) ∷ words q.operands)) below_frames)) s
  inputs_follow i q (goes takes_in temporaries m) s h =
      loud takes_in temporaries m (i + 1) (place_later q (variable 0 ∷ in_terms later q.operands)) s _ _ refl (λ reply fits. input_at i q reply fits) h
  inputs_follow i q o s h = tt

  joining_follows : (i : ℕ) (q : Place) (a : Term) (ws : List Term) (o : Outcome) (s : State) → Foreseen o s
      → Is (joining i q a ws o) (code.asks (JoinOf (value_of_word Int (word a))) (Runs (code.on_with (frame i q) (words ws)) below_frames)) s
  joining_follows i q a ws (goes (joins b) temporaries m) s h = test_follows (same_term a b) _ _ s (λ e.
      loud (joins b) temporaries m (i + 1) (place_later q (in_terms later ws)) s _ (λ r. Runs (code.on_with (frame i q) (words ws)) below_frames)
      (ap (λ z. Does (JoinOf (value_of_word Int (word z))) (λ r. Runs (code.on_with (frame i q) (words ws)) below_frames)) (term_same a b e))
      (λ reply fits. frame_later p f numbers x reply home below_frames (i + 1) q q.opens (words ws) (in_terms later ws)
      (sym (words_later p f numbers x reply ws))) h)
  joining_follows i q a ws o s h = tt

  -- Blocks

  -- with these blocks open after it
  block_step : (doing : Doing) (temporaries : List Waiting) (m : List symbolic.Frame) (i : ℕ) (q : Place) (opens : List Open) (s : State)
      → Foreseen (goes doing temporaries m) s
      → Is (loudly doing temporaries m (i + 1) (opened_later q opens))
      (code.asks (event_of p f x doing) (Runs (code.on_in (frame i q)
      (record { opens = opens; caught = (frame i q).nest.caught; held = (frame i q).nest.held })) below_frames)) s
  block_step doing temporaries m i q opens s h = loud doing temporaries m (i + 1) (opened_later q opens) s _
      (λ r. Runs (code.on_in (frame i q) (record { opens = opens; caught = (frame i q).nest.caught; held = (frame i q).nest.held })) below_frames) refl
      (λ reply fits. frame_later p f numbers x reply home below_frames (i + 1) q opens (words q.operands) (in_terms later q.operands)
      (sym (words_later p f numbers x reply q.operands))) h

  begins_follow : (i : ℕ) (q : Place) (kind : BlockKind) (o : Outcome) (s : State) → Foreseen o s
      → Is (begins i q kind o) (code.asks (BeginAtomic kind) (Runs (code.on_in (frame i q) (code.opening (frame i q).nest (Atomic kind))) below_frames)) s
  begins_follow i q kind (goes (begins_atomic k) temporaries m) s h = test_follows (same_kind kind k) _ _ s (λ e.
      subst (λ z. Is (loudly (begins_atomic k) temporaries m (i + 1) (opened_later q (Atomic k ∷ q.opens)))
      (code.asks (BeginAtomic z) (Runs (code.on_in (frame i q) (code.opening (frame i q).nest (Atomic z))) below_frames)) s)
      (sym (kind_same kind k e)) (block_step (begins_atomic k) temporaries m i q (Atomic k ∷ q.opens) s h))
  begins_follow i q kind o s h = tt

  begins_locked_follows : (i : ℕ) (q : Place) (o : Outcome) (s : State) → Foreseen o s
      → Is (begins_locked i q o) (code.asks BeginSyncOf (Runs (code.on_in (frame i q) (code.opening (frame i q).nest Sync)) below_frames)) s
  begins_locked_follows i q (goes begins_sync temporaries m) s h = block_step begins_sync temporaries m i q (Sync ∷ q.opens) s h
  begins_locked_follows i q o s h = tt

  ends_atomic_follows : (i : ℕ) (q : Place) (o : Outcome) (s : State) → Foreseen o s
      → Is (ends_atomic i q o) (code.asks EndAtomic (Runs (code.on_in (frame i q) (code.closing (frame i q).nest)) below_frames)) s
  ends_atomic_follows i q (goes (ends_block (Atomic k)) temporaries m) s h = block_step (ends_block (Atomic k)) temporaries m i q (rest_of q.opens) s h
  ends_atomic_follows i q (goes (leaves_block (Atomic k) (returns w)) temporaries m) s h =
      block_step (leaves_block (Atomic k) (returns w)) temporaries m i q (rest_of q.opens) s h
  ends_atomic_follows i q (goes (leaves_block (Atomic k) breaks) temporaries m) s h =
      block_step (leaves_block (Atomic k) breaks) temporaries m i q (rest_of q.opens) s h
  ends_atomic_follows i q (goes (leaves_block (Atomic k) continues) temporaries m) s h =
      block_step (leaves_block (Atomic k) continues) temporaries m i q (rest_of q.opens) s h
  ends_atomic_follows i q o s h = tt

  ends_locked_follows : (i : ℕ) (q : Place) (o : Outcome) (s : State) → Foreseen o s
      → Is (ends_locked i q o) (code.asks EndSyncOf (Runs (code.on_in (frame i q) (code.closing (frame i q).nest)) below_frames)) s
  ends_locked_follows i q (goes (ends_block Sync) temporaries m) s h = block_step (ends_block Sync) temporaries m i q (rest_of q.opens) s h
  ends_locked_follows i q (goes (leaves_block Sync exit) temporaries m) s h = block_step (leaves_block Sync exit) temporaries m i q (rest_of q.opens) s h
  ends_locked_follows i q o s h = tt

  aborts_follow : (o : Outcome) (s : State) → Foreseen o s → Is (aborts o) (Ends (Stop Aborts)) s
  aborts_follow (halts Aborts) s h = (refl, h)
  aborts_follow o s h = tt

  -- Operators and jumps

  -- an operator that has a value
  valued : (op : BinOp) (k : IntKind) (a b : Term) (step : ℤ → Act) (z : ℤ)
      → apply_of op k (value_of_word k (word a)) (value_of_word (right_kind op k) (word b)) ≡ Ok z
      → result_act (apply_of op k (value_of_word k (word a)) (value_of_word (right_kind op k) (word b))) step ≡ step z
  valued op k a b step z e = ap (λ r. result_act r step) e

  as_applied : (op : BinOp) (k : IntKind) (a b : Term)
      → apply_of op k (value_of_word k (word a)) (value_of_word (right_kind op k) (word b)) ≡ applied op k (word a) (word b)
  as_applied op k a b = ap (λ z. apply_of op k (value_of_word k (word a)) z) (right_same op k (word b) (term_below p f x bounded b))

  -- the step of an operator
  abbrev operating : ℕ → Place → BinOp → IntKind → Term → Term → List Term → Act
  operating i q op k a b ws = result_act (apply_of op k (value_of_word k (word a)) (value_of_word (right_kind op k) (word b)))
      (λ v. code.goes (Runs (code.on_with (frame i q) (word_of v ∷ words ws)) below_frames))

  address_same : (i : ℕ) (q : Place) (o : Outcome) (s : State) (op : BinOp) (k : IntKind) (a b : Term) (ws : List Term) (w : Term) (z : ℤ)
      → apply_of op k (value_of_word k (word a)) (value_of_word (right_kind op k) (word b)) ≡ Ok z → word_of z ≡ word w
      → Foreseen o s → Is (pushes i q o w ws) (operating i q op k a b ws) s
  address_same i q o s op k a b ws w z e g h = (
    valued op k a b _ z e ∙ ap
        (λ (y : ℕ). code.goes (Runs (code.on_with (frame i q) (y ∷ words ws)) below_frames)) g,
    h,
  )

  number_sum : (a : Term) (n : ℕ) → source.plus (word a) (word (number n)) ≡ word (plus_number a n)
  unfolding source.plus
  number_sum a n = add-mod-mod (word a) n (2 ^ 64) ∙ sym (plus_number_is p f x bounded a n)

  if_less : (t : Bool) (w : Term) (go : Term → Next) (a : Act) (s : State) → (t ≡ true → Is (go w) a s) → Is (if_found (cond t (Some w) None) go) a s
  if_less true w go a s h = h refl
  if_less false w go a s h = tt

  if_term : (t : Bool) (w : Option Term) (go : Term → Next) (a : Act) (s : State) → (t ≡ true → Is (if_found w go) a s) → Is (if_found (cond t w None) go) a s
  if_term true w go a s h = h refl
  if_term false w go a s h = tt

  less_by : (t : Bool) (v m n : ℕ) (w : Term) (to : ℕ → Term) → nat_le n m ≡ t → (n ≤ m → (v + (2 ^ 64 - n)) % 2 ^ 64 ≡ word (to (m - n)))
      → cond t (Some (to (m - n))) None ≡ Some w → (v + (2 ^ 64 - n)) % 2 ^ 64 ≡ word w
  less_by true v m n w to is h e =
      let same : to (m - n) ≡ w = cc in
      h (leb-true n m is) ∙ ap (λ z. word z) same
  less_by false v m n w to is h e = absurd cc

  offset_word : (t : Bool) (a : Term) (n : ℕ) → (n == 0) ≡ t → (word a + n) % 2 ^ 64 ≡ word (cond t a (sum a (number n)))
  unfolding source.plus
  offset_word true a n e = ap (λ z. (word a + z) % 2 ^ 64) (eqb-true n 0 e)
      ∙ (ap (λ z. z % 2 ^ 64) (nothing (word a)) ∙ mod-eq_of_lt (term_below p f x bounded a))
    where
      nothing : (n : ℕ) → n + 0 ≡ n
      nothing n = omega arith
  offset_word false a n e = sym (add-mod-mod (word a) n (2 ^ 64))

  minus_is : (a : Term) (n : ℕ) (w : Term) → n < 2 ^ 64 → minus_number a n ≡ Some w → (word a + (2 ^ 64 - n)) % 2 ^ 64 ≡ word w
  unfolding source.plus
  minus_is (number m) n w g e = less_by (nat_le n m) (m % 2 ^ 64) m n w (λ z. number z) refl (λ h. lower m n h g) e
    where
      lower : (m n : ℕ) → n ≤ m → n < 2 ^ 64 → (m % 2 ^ 64 + (2 ^ 64 - n)) % 2 ^ 64 ≡ (m - n) % 2 ^ 64
      lower m n h g = omega (arith, h, g)
  minus_is (local m) n w g e = less_by (nat_le n m) ((x.base + m) % 2 ^ 64) m n w (λ z. local z) refl (λ h. lower x.base m n h g) e
    where
      lower : (b m n : ℕ) → n ≤ m → n < 2 ^ 64 → ((b + m) % 2 ^ 64 + (2 ^ 64 - n)) % 2 ^ 64 ≡ (b + (m - n)) % 2 ^ 64
      lower b m n h g = omega (arith, h, g)
  minus_is (sum a (number m)) n w g e = less_by (nat_le n m) ((word a + m % 2 ^ 64) % 2 ^ 64) m n w (λ z. at_offset a z) refl
      (λ h. lower (word a) m n h g ∙ offset_word ((m - n) == 0) a (m - n) refl) e
    where
      lower : (b m n : ℕ) → n ≤ m → n < 2 ^ 64 → ((b + m % 2 ^ 64) % 2 ^ 64 + (2 ^ 64 - n)) % 2 ^ 64 ≡ (b + (m - n)) % 2 ^ 64
      lower b m n h g = omega (arith, h, g)
  minus_is a n w g e = absurd cc

  less_follows : (ks : List Fact) (i : ℕ) (q : Place) (o : Outcome) (s : State) (a : Term) (n : ℕ) (ws : List Term) → word (number n) ≡ n → (z : Option Term)
      → minus_number a n ≡ z → AllHold p f x ks → Foreseen o s
      → Is (if_found (or_less_one ks a n z) (λ w. pushes i q o w ws)) (operating i q Sub ULong a (number n) ws) s
  less_follows ks i q o s a n ws kept_so (Some w) is known h =
      let r = difference_same (word a) (word (number n)) (term_below p f x bounded a) (term_below p f x bounded (number n)) in
      address_same i q o s Sub ULong a (number n) ws w r.0 r.1
      (r.2 ∙ (ap (λ z. (word a + (2 ^ 64 - z)) % 2 ^ 64) kept_so ∙ minus_is a n w
      (subst (λ z. z < 2 ^ 64) kept_so (term_below p f x bounded (number n))) is)) h
  less_follows ks i q o s a n ws kept_so None is known h = if_less ((n == 1) && is_not_zero ks a) (one_less a) (λ w. pushes i q o w ws) _ s (λ e.
      let c = and_parts (n == 1) (is_not_zero ks a) e in
      let r = difference_same (word a) (word (number n)) (term_below p f x bounded a) (term_below p f x bounded (number n)) in
      address_same i q o s Sub ULong a (number n) ws (one_less a) r.0 r.1 (r.2 ∙ (ap (λ z. (word a + (2 ^ 64 - z)) % 2 ^ 64) (kept_so ∙ eqb-true n 1 c.0)
      ∙ (one_from (word a) (term_below p f x bounded a) (known_not_zero p f x ks a c.1 known) ∙ sym (one_less_is p f x a)))) h)

  times_is : (t : Bool) (m : ℕ) (b : Term) → (m == 0) ≡ t → (word (number m) * word b) % 2 ^ 64 ≡ word (times t m b)
  times_is true m b e = ap (λ z. (z % 2 ^ 64 * word b) % 2 ^ 64) (eqb-true m 0 e) ∙ nothing (word b)
    where
      nothing : (n : ℕ) → (0 * n) % 2 ^ 64 ≡ 0
      nothing n = omega arith
  times_is false m b e = refl

  addresses_follow : (ks : List Fact) (i : ℕ) (q : Place) (o : Outcome) (s : State) (op : BinOp) (k : IntKind) (a b : Term) (ws : List Term) → AllHold p f x ks
      → Foreseen o s
      → Is (if_found (addresses ks op k a b) (λ w. pushes i q o w ws)) (operating i q op k a b ws) s
  addresses_follow ks i q o s Add ULong a (number n) ws known h =
      let r = sum_same (word a) (word (number n)) (term_below p f x bounded a) (term_below p f x bounded (number n)) in
      address_same i q o s Add ULong a (number n) ws (plus_number a n) r.0 r.1 (r.2 ∙ number_sum a n) h
  addresses_follow ks i q o s Add ULong a b ws known h =
      let r = sum_same (word a) (word b) (term_below p f x bounded a) (term_below p f x bounded b) in
      address_same i q o s Add ULong a b ws (sum a b) r.0 r.1 r.2 h
  addresses_follow ks i q o s Sub ULong a (number n) ws known h =
      if_term (nat_lt n (2 ^ 64)) (or_less_one ks a n (minus_number a n)) (λ w. pushes i q o w ws) _ s (λ e.
      less_follows ks i q o s a n ws (word_kept p f x n e) (minus_number a n) refl known h)
  addresses_follow ks i q o s Mul ULong (number m) b ws known h =
      let r = product_same (word (number m)) (word b) (term_below p f x bounded (number m)) (term_below p f x bounded b) in
      address_same i q o s Mul ULong (number m) b ws (times (m == 0) m b) r.0 r.1 (r.2 ∙ times_is (m == 0) m b refl) h
  addresses_follow ks i q o s Mul ULong a b ws known h =
      let r = product_same (word a) (word b) (term_below p f x bounded a) (term_below p f x bounded b) in
      address_same i q o s Mul ULong a b ws (product a b) r.0 r.1 r.2 h
  addresses_follow ks i q o s Eq ULong a b ws known h =
      let r = equal_same (word a) (word b) in
      address_same i q o s Eq ULong a b ws (result Eq ULong a b) r.0 r.1 (ap word_or_zero (sym (sym (as_applied Eq ULong a b) ∙ r.1))) h
  addresses_follow ks i q o s op k a b ws known h = tt

  trapping : (i : ℕ) (q : Place) (op : BinOp) (k : IntKind) (a b : Term) (ws : List Term) (trap : ArithTrap) → applied op k (word a) (word b) ≡ Err trap
      → operating i q op k a b ws ≡ Ends (Stop (Trapped (source.trap_of trap)))
  trapping i q op k a b ws trap e = ap (λ r. result_act r (λ v. code.goes (Runs (code.on_with (frame i q) (word_of v ∷ words ws)) below_frames)))
      (as_applied op k a b ∙ e) ∙ ap (λ z. Ends (Stop (Trapped z))) (trap_same trap)

  result_follows : (i : ℕ) (q : Place) (op : BinOp) (k : IntKind) (a b : Term) (ws : List Term) (o : Outcome) (s : State) → Foreseen (results op k a b o) s
      → Is (unless_trap op k a b (pushes i q o (result op k a b) ws)) (operating i q op k a b ws) s
  result_follows i q op k a b ws o s h = (
    λ v e. address_same i q o s op k a b ws (result op k a b) v (as_applied op k a b ∙ e) (ap word_or_zero (sym e)) (h.0 v e),
    λ trap e. (trapping i q op k a b ws trap e, h.1 trap e),
  )

  same_results : (op oq : BinOp) (k j : IntKind) (a b c d : Term) (o : Outcome) (s : State) → op ≡ oq → k ≡ j → a ≡ c → b ≡ d → Foreseen (results oq j c d o) s
      → Foreseen (results op k a b o) s
  same_results op oq k j a b c d o s e g i l h =
      subst (λ z. Foreseen (results z k a b o) s) (sym e)
      (subst (λ z. Foreseen (results oq z a b o) s) (sym g)
      (subst (λ z. Foreseen (results oq j z b o) s) (sym i) (subst (λ z. Foreseen (results oq j c z o) s) (sym l) h)))

  either_operates : (t : Bool) (n m : Next) (a : Act) (s : State) → (t ≡ true → Is n a s) → Is m a s → Is (cond t n m) a s
  either_operates true n m a s h g = h refl
  either_operates false n m a s h g = g

  operates_follow : (ks : List Fact) (i : ℕ) (q : Place) (op : BinOp) (k : IntKind) (a b : Term) (ws : List Term) (o : Outcome) (s : State) → AllHold p f x ks
      → Foreseen o s → Is (operates ks i q op k a b ws o) (operating i q op k a b ws) s
  operates_follow ks i q op k a b ws (results oq j c d o) s known h =
      either_operates (same_operator op oq && same_number k j && (same_term a c && same_term b d)) _ _ _ s (λ e.
      let g = and_parts (same_operator op oq && same_number k j) (same_term a c && same_term b d) e in
      let l = and_parts (same_operator op oq) (same_number k j) g.0 in
      let m = and_parts (same_term a c) (same_term b d) g.1 in
      result_follows i q op k a b ws o s (same_results op oq k j a b c d o s (operator_same op oq l.0) (number_same k j l.1) (term_same a c m.0)
      (term_same b d m.1) h))
      (addresses_follow ks i q (results oq j c d o) s op k a b ws known h)
  operates_follow ks i q op k a b ws o s known h = addresses_follow ks i q o s op k a b ws known h

  abbrev jumping : ℕ → ℕ → Place → Term → List Term → Act
  jumping i n q a ws = code.goes (Runs (code.at (frame i q) (if nat_eq (word a) 0 then n else i + 1) (words ws)) below_frames)

  jump_zero : (i n : ℕ) (q : Place) (a : Term) (ws : List Term) → word a ≡ 0 → jumping i n q a ws ≡ stands n q (words ws)
  jump_zero i n q a ws e = ap (λ (z : ℕ). code.goes (Runs (code.at (frame i q) (if nat_eq z 0 then n else i + 1) (words ws)) below_frames)) e

  jump_other : (i n : ℕ) (q : Place) (a : Term) (ws : List Term) → (word a ≡ 0 → ⊥) → jumping i n q a ws ≡ stands (i + 1) q (words ws)
  jump_other i n q a ws e = by_test (nat_eq (word a) 0) refl
    where
      by_test : (b : Bool) → nat_eq (word a) 0 ≡ b → code.goes (Runs (code.at (frame i q) (if nat_eq (word a) 0 then n else i + 1) (words ws)) below_frames)
          ≡ stands (i + 1) q (words ws)
      by_test true h = absurd (e (eqb-true (word a) 0 h))
      by_test false h = ap (λ (z : Bool). code.goes (Runs (code.at (frame i q) (if z then n else i + 1) (words ws)) below_frames)) h

  by_number : (t : Bool) (i n : ℕ) (q : Place) (m : ℕ) (ws : List Term) (o : Outcome) (s : State) → (m % 2 ^ 64 == 0) ≡ t → Foreseen o s
      → Is (cond t (quietly n (with_operands q ws) o) (quietly (i + 1) (with_operands q ws) o)) (jumping i n q (number m) ws) s
  by_number true i n q m ws o s e h = (jump_zero i n q (number m) ws (eqb-true (m % 2 ^ 64) 0 e), h)
  by_number false i n q m ws o s e h = (jump_other i n q (number m) ws (λ g. true≢false (sym (eq-eqb (m % 2 ^ 64) 0 g) ∙ e)), h)

  jumps_follow : (i n : ℕ) (q : Place) (a : Term) (ws : List Term) (o : Outcome) (s : State) → Foreseen o s
      → Is (jumps_zero i n q a ws o) (jumping i n q a ws) s
  jumps_follow i n q a ws (chooses w first other) s h = test_follows (same_term a w) _ _ s (λ e.
      let same = ap (λ z. word z) (term_same a w e) in
      (λ g. (jump_zero i n q a ws g, h.0 (sym same ∙ g)), λ g. (jump_other i n q a ws g, h.1 (λ l. g (same ∙ l)))))
  jumps_follow i n q (number m) ws o s h = by_number (m % 2 ^ 64 == 0) i n q m ws o s refl h
  jumps_follow i n q a ws o s h = (λ g. (jump_zero i n q a ws g, h), λ g. (jump_other i n q a ws g, h))

  conversion_follows : (i n : ℕ) (q : Place) (o : Outcome) (s : State) → Foreseen o s
      → Is (if_found (slice_get code.kinds n) (λ k. one_of q.operands (λ a ws. pushes i q o (converted_to k a) ws)))
      (code.conv_act 9 n (frame i q) below_frames) s
  conversion_follows i n q o s h = found_follows (slice_get code.kinds n) _ _ _ s
      (λ k. one_follows q.operands _ _ s (λ a vs. pushed i q o s (converted_to k a) vs _ (conversion_same k (word a) (term_below p f x bounded a)) h))

  -- Exceptions

  word_as_number : (n : ℕ) → n < 2 ^ 64 → word_of (pos n) ≡ n
  unfolding word_of
  word_as_number n h = mod-eq_of_lt h

  typed_follows : {A : Type 0} (o : Option A) (go : A → Next) (a : Act) (s : State) → ((n : A) → o ≡ Some n → Is (go n) a s) → Is (if_found o go) a s
  typed_follows None go a s h = tt
  typed_follows (Some n) go a s h = h n refl

  -- at this index, with this exception
  abbrev holds : ℕ → Place → code.Held → List ℕ → Act
  holds i q held vs = code.goes (Runs (code.nested (frame i q) (code.holding (frame i q).nest held) (i + 1) vs) below_frames)

  put_is : (k : IntKind) (n w : ℕ) (puts : Puts) → is_bool k ≡ false
      → put_bytes (bytes_put p f x puts) n (size_of k) (bits_of k (value_of_word k w)) ≡ with_bytes n (bytes_of (size_of k) w) (bytes_put p f x puts)
  unfolding stored_bytes
  put_is k n w puts h = put_same (bytes_put p f x puts) n (size_of k) (bits_of k (value_of_word k w))
      ∙ ap (λ z. with_bytes n z (bytes_put p f x puts))
      (ap (λ z. bytes_of (size_of k) z) (bits_same k w h ∙ ap (λ z. w % 2 ^ (8 * z)) (sym (size_same k))) ∙ bytes_low (size_of k) w)

  puts_follow : (i n : ℕ) (k : IntKind) (q : Place) (o : Outcome) (s : State) (h : Hold) → Foreseen o s
      → Is (puts_in i n k q o h) (code.built (hold_of p f numbers x h)
      (λ e. one (words q.operands) (λ v ws. holds i q (Building (code.with_number e n k (value_of_word k v))) ws))) s
  puts_follow i n k q o s (making t puts) g = test_follows (not (is_bool k)) _ _ s (λ e. one_follows q.operands _ _ s (λ w vs.
      (ap (λ (z : List ℕ). holds i q (Building (record { ty = numbers t; bytes = z })) (words vs)) (put_is k n (word w) puts (not_true (is_bool k) e)), g)))
  puts_follow i n k q o s h g = tt

  throws_follow : (i : ℕ) (q : Place) (o : Outcome) (s : State) (h : Hold) → Foreseen o s
      → Is (throws_made i q o h) (code.built (hold_of p f numbers x h) (λ e. code.unwinding e (frame i q) below_frames)) s
  throws_follow i q o s (making t puts) g = (refl, g)
  throws_follow i q o s h g = tt

  resumes_follow : (i : ℕ) (q : Place) (o : Outcome) (s : State) (h : Hold) → Foreseen o s
      → Is (resumes i q o h) (code.flown (hold_of p f numbers x h) (λ e. code.unwinding e (frame i q) below_frames)) s
  resumes_follow i q o s (flying e) g = (refl, g)
  resumes_follow i q o s h g = tt

  rethrows_below : (i : ℕ) (q : Place) (o : Outcome) (s : State) → Foreseen o s
      → Is (rethrows_caught i q o []) (if_some (code.current below_frames) (Ends (Stop Terminate)) (λ e. code.unwinding e (frame i q) below_frames)) s
  rethrows_below i q (rethrows temporaries m) s g = (refl, g)
  rethrows_below i q o s g = tt

  rethrows_follow : (i : ℕ) (q : Place) (o : Outcome) (s : State) (es : List Exception) → Foreseen o s
      → Is (rethrows_caught i q o es) (if_some (code.first_or (all_coded p f numbers x es) (code.current below_frames)) (Ends (Stop Terminate))
      (λ e. code.unwinding e (frame i q) below_frames)) s
  rethrows_follow i q o s [] g = rethrows_below i q o s g
  rethrows_follow i q o s (e ∷ es) g = (refl, g)

  got_is : (k : IntKind) (n : ℕ) (bs : List ℕ) → is_bool k ≡ false
      → word_of (convert_of k (pos (get_bytes bs n (size_of k)))) ≡ source.converted k (read_bytes bs n (size_of k) % 2 ^ 64)
  got_is k n bs h = ap (λ z. word_of (convert_of k (pos z))) (get_same bs n (size_of k)) ∙ ap (λ z. word_of z) (short_number k (read_bytes bs n (size_of k)) h)

  puts_length : (puts : Puts) → length (bytes_put p f x puts) ≡ 64
  puts_length untouched = refl
  puts_length (put offset size w puts) = with_length offset (bytes_of size (word w)) (bytes_put p f x puts) ∙ puts_length puts

  abbrev found_is : (n size : ℕ) → Puts → Option Term → Type 0
  found_is n size puts o = (w : Term) → o ≡ Some w → read_bytes (bytes_put p f x puts) n size ≡ word w % 2 ^ (8 * size)

  beside : (t u : Bool) (n size m k : ℕ) (v : Term) (puts : Puts) → nat_le (m + k) n ≡ t → nat_le (n + size) m ≡ u → found_is n size puts (was_put n size puts)
      → found_is n size (put m k v puts) (cond (t || u) (was_put n size puts) None)
  beside true u n size m k v puts is other go w e = read_apart m k (word v) (bytes_put p f x puts) n size (inl (leb-true (m + k) n is)) ∙ go w e
  beside false true n size m k v puts is other go w e = read_apart m k (word v) (bytes_put p f x puts) n size (inr (leb-true (n + size) m other)) ∙ go w e
  beside false false n size m k v puts is other go w e = absurd cc

  at_put : (t : Bool) (n size m k : ℕ) (v : Term) (puts : Puts) → n + size ≤ 64 → ((m == n) && (k == size)) ≡ t → found_is n size puts (was_put n size puts)
      → found_is n size (put m k v puts) (cond t (Some v) (cond (nat_le (m + k) n || nat_le (n + size) m) (was_put n size puts) None))
  at_put true n size m k v puts h is go w e =
      let c = and_parts (m == n) (k == size) is in
      let same : v ≡ w = cc in
      ap₂ (λ (y z : ℕ). read_bytes (with_bytes y (bytes_of z (word v)) (bytes_put p f x puts)) n size) (eqb-true m n c.0) (eqb-true k size c.1)
      ∙ (put_read n size (word v) (bytes_put p f x puts) (subst (λ z. n + size ≤ z) (sym (puts_length puts)) h) ∙ ap (λ z. word z % 2 ^ (8 * size)) same)
  at_put false n size m k v puts h is go w e = beside (nat_le (m + k) n) (nat_le (n + size) m) n size m k v puts refl refl go w e

  was_put_is : (n size : ℕ) (puts : Puts) → n + size ≤ 64 → found_is n size puts (was_put n size puts)
  was_put_is n size untouched h w e = absurd cc
  was_put_is n size (put m k v puts) h w e = at_put ((m == n) && (k == size)) n size m k v puts h refl (was_put_is n size puts h) w e

  -- the word that was put is taken
  taken_is : (k : IntKind) (n : ℕ) (bs : List ℕ) (w : Term) → is_bool k ≡ false → read_bytes bs n (size_of k) ≡ word w % 2 ^ (8 * size_of k)
      → word_of (convert_of k (pos (get_bytes bs n (size_of k)))) ≡ source.converted k (word w)
  taken_is k n bs w h e = ap (λ z. word_of (convert_of k (pos z))) (get_same bs n (size_of k) ∙ e) ∙ ap (λ z. word_of z) (sym (low_number k (word w) h))

  read_as_is : (k : IntKind) (w : Term) → source.converted k (word w) ≡ word (read_as k w)
  read_as_is ULong w = ap (λ z. word_of z) (value_plain (word w) (term_below p f x bounded w)) ∙ word_as_number (word w) (term_below p f x bounded w)
  read_as_is k w = refl

  taken_word_is : (k : IntKind) (n : ℕ) (e : Exception) (o : Option Term) → is_bool k ≡ false
      → ((w : Term) → o ≡ Some w → read_bytes (exception_of p f x e).bytes n (size_of k) ≡ word w % 2 ^ (8 * size_of k))
      → word_of (convert_of k (pos (get_bytes (exception_of p f x e).bytes n (size_of k)))) ≡ word (taken_word k n e o)
  taken_word_is k n e None h g = got_is k n (exception_of p f x e).bytes h
  taken_word_is k n e (Some w) h g = taken_is k n (exception_of p f x e).bytes w h (g w refl) ∙ read_as_is k w

  within : (t : Bool) (n size : ℕ) (puts : Puts) → nat_le (n + size) 64 ≡ t → found_is n size puts (cond t (was_put n size puts) None)
  within true n size puts h w e = was_put_is n size puts (leb-true (n + size) 64 h) w e
  within false n size puts h w e = absurd cc

  put_in_is : (n size : ℕ) (e : Exception) (w : Term) → put_in n size e ≡ Some w → read_bytes (exception_of p f x e).bytes n size ≡ word w % 2 ^ (8 * size)
  put_in_is n size (unknown m) w h = absurd cc
  put_in_is n size (made t puts) w h = within (nat_le (n + size) 64) n size puts refl w h

  gets_follow : (i n : ℕ) (k : IntKind) (q : Place) (o : Outcome) (s : State) (es : List Exception) → Foreseen o s
      → Is (gets_caught i n k q o es) (if_some (code.first_or (all_coded p f numbers x es) (code.current below_frames)) Lost
      (λ e. stands (i + 1) q (word_of (code.number_in e n k) ∷ words q.operands))) s
  gets_follow i n k q o s [] g = tt
  gets_follow i n k q o s (e ∷ es) g = test_follows (not (is_bool k)) _ _ s
      (λ l. pushed i q o s (taken_word k n e (put_in n (size_of k) e)) q.operands _
      (taken_word_is k n e (put_in n (size_of k) e) (not_true (is_bool k) l) (λ w j. put_in_is n (size_of k) e w j)) g)

  handler_follows : (i : ℕ) (q : Place) (o : Outcome) (s : State) (es : List Exception) → Foreseen o s
      → Is (handler_ends i q o es) (code.in_handler (all_coded p f numbers x es)
      (code.goes (Runs (code.nested (frame i q) (record {
        opens = q.opens;
        caught = code.rest_caught (all_coded p f numbers x es);
        held =
            hold_of p f numbers x q.hold;
      }) (i + 1) (words q.operands)) below_frames))) s
  handler_follows i q o s [] g = tt
  handler_follows i q o s (e ∷ es) g = (refl, g)

  -- Functions that are found, and threads

  bare_is : (a : Term) → word (bare_address a) ≡ word a
  bare_is (converted_to ULong w) = sym (ap (λ z. word_of z) (value_plain (word w) (term_below p f x bounded w)) ∙ word_as_number (word w)
      (term_below p f x bounded w))
  bare_is a = refl

  abbrev slot_step : code.Names → (class : ℕ) → ℕ → Place → (address slot : ℕ) → List ℕ → Act
  slot_step names class i q address slot vs = if_some (names.slot_of class address slot) (traps BadVirtual) (λ n. stands (i + 1) q (names.func_address n ∷ vs))

  slot_follows : (names : code.Names) (own i class slot : ℕ) (q : Place) (a : Term) (ws : List Term) (o : Outcome) (s : State)
      → ((address n : ℕ) → names.slot_of own address n ≡ p.slot address class n) → ((n : ℕ) → names.func_address n ≡ function_address n)
      → Foreseen o s → Is (slots_follow i class slot q a ws o) (slot_step names own i q (word a) slot (words ws)) s
  slot_follows names own i class slot q a ws (finds c d v o) s same address h =
      test_follows ((class == c) && (slot == d) && same_term (bare_address a) v) _ _ s (λ e.
      let g = and_parts ((class == c) && (slot == d)) (same_term (bare_address a) v) e in
      let l = and_parts (class == c) (slot == d) g.0 in
      let at_address : word a ≡ word v = sym (bare_is a) ∙ ap (λ z. word z) (term_same (bare_address a) v g.1) in
      let key : names.slot_of own (word a) slot ≡ p.slot (word v) c d = same (word a) slot
      ∙ (ap₂ (λ (m n : ℕ). p.slot m n slot) at_address (eqb-true class c l.0) ∙ ap (λ z. p.slot (word v) c z) (eqb-true slot d l.1)) in (
        λ n m. (
          ap (λ z. if_some z (traps BadVirtual) (λ k. stands (i + 1) q (names.func_address k ∷ words ws))) (key ∙ m)
              ∙ ap (λ z. stands (i + 1) q (z ∷ words ws))
              (address n ∙ (sym (mod-eq_of_lt (small.slots (word v) c d n m)) ∙ ap (λ (z : Option ℕ). function_address (number_found z) % 2 ^ 64) (sym m))),
          h.0 n m,
        ),
        λ m. (ap (λ z. if_some z (traps BadVirtual) (λ k. stands (i + 1) q (names.func_address k ∷ words ws))) (key ∙ m), h.1 m),
      ))
  slot_follows names own i class slot q a ws o s same address h = tt

  started_at : (i : ℕ) (q : Place) (ws : List Term) (n : ℕ) (arg : ℤ) (reply : Reply) → Answers (SpawnOf n arg) reply
      → Runs (code.on_with (frame i q) (word_of (code.answered reply) ∷ words ws)) below_frames
      ≡ Runs (frame_at p f numbers (replied x reply) home (i + 1) (place_later q (variable 0 ∷ in_terms later ws))) below_frames
  started_at i q ws n arg (Id v) fits = frame_later p f numbers x (Id v) home below_frames (i + 1) q q.opens (word_of v ∷ words ws)
      (variable 0 ∷ in_terms later ws) (ap (λ (z : List ℕ). word_of v ∷ z) (sym (words_later p f numbers x (Id v) ws)))
  started_at i q ws n arg Nothing fits = absurd fits
  started_at i q ws n arg (Loaded w) fits = absurd fits
  started_at i q ws n arg (Byte v) fits = absurd fits

  abbrev spawn_step : code.Names → ℕ → Place → (address argument : ℕ) → List ℕ → Act
  spawn_step names i q address argument vs = if_some (names.spawned address) (traps BadCall)
      (λ n. Does (SpawnOf n (value_of_word Long argument)) (λ r. Runs (code.on_with (frame i q) (word_of (code.answered r) ∷ vs)) below_frames))

  spawning_follows : (names : code.Names) (i : ℕ) (q : Place) (a v : Term) (ws : List Term) (o : Outcome) (s : State)
      → ((n : ℕ) → names.spawned n ≡ p.pointed n thread_signature)
      → Foreseen o s → Is (spawning i q a v ws o) (spawn_step names i q (word a) (word v) (words ws)) s
  spawning_follows names i q a v ws (spawns b u temporaries m) s same h = test_follows (same_term a b && same_term v u) _ _ s (λ e.
      let g = and_parts (same_term a b) (same_term v u) e in
      let key : names.spawned (word a) ≡ p.pointed (word b) thread_signature = same (word a)
      ∙ ap (λ z. p.pointed (word z) thread_signature) (term_same a b g.0) in (
        λ n l. (
          record {
            on = λ r. Runs (code.on_with (frame i q) (word_of (code.answered r) ∷ words ws)) below_frames;
            does = ap (λ z. if_some z (traps BadCall)
                (λ k. Does (SpawnOf k (value_of_word Long (word v)))
                (λ r. Runs (code.on_with (frame i q) (word_of (code.answered r) ∷ words ws)) below_frames))) (key ∙ l)
                ∙ ap (λ z. Does (SpawnOf n (value_of_word Long (word z)))
                (λ r. Runs (code.on_with (frame i q) (word_of (code.answered r) ∷ words ws)) below_frames)) (term_same v u g.1);
            then_at = λ reply fits. started_at i q ws n (value_of_word Long (word u)) reply fits;
          },
          h ∙ ap (λ z. source.spawn (here_of p f x temporaries) z (word u) (below p f x m rest)) l,
        ),
        λ l. (
          ap (λ z. if_some z (traps BadCall) (λ k. Does (SpawnOf k (value_of_word Long (word v)))
              (λ r. Runs (code.on_with (frame i q) (word_of (code.answered r) ∷ words ws)) below_frames))) (key ∙ l),
          record {
            here = here_of p f x temporaries;
            others = below p f x m rest;
            is = h
                ∙ ap (λ z. source.spawn (here_of p f x temporaries) z (word u) (below p f x m rest)) l;
          },
        ),
      ))
  spawning_follows names i q a v ws o s same h = tt

  base_same : (n : ℕ) → code.offset_by home.base n ≡ word (local n)
  unfolding source.plus
  base_same n = ap (λ z. code.offset_by z n) based

  -- Instructions

  module _ (names : code.Names) (numbering : Numbering) (t : Table) (right : AreNames p f numbers names numbering t) where
    abbrev steps : Instr → ℕ → Place → Act
    steps a i q = act names (renamed numbering a) (frame i q) below_frames

    pub followed_follows : (ks : List Fact) (i : ℕ) (a : Instr) (q : Place) (o : Outcome) (s : State) → AllHold p f x ks → Foreseen o s
        → Is (followed t ks i a q o) (steps a i q) s
    followed_follows ks i (Push n) q o s known h = test_follows (nat_lt n (2 ^ 64)) _ _ s
        (λ e. pushed i q o s (number n) q.operands n (sym (word_kept p f x n e)) h)
    followed_follows ks i Dup q o s known h = one_follows q.operands _ _ s (λ w vs. pushed i q o s w (w ∷ vs) (word w) refl h)
    followed_follows ks i Pop q o s known h = one_follows q.operands _ _ s (λ w vs. (refl, h))
    followed_follows ks i Swap q o s known h = two_follow q.operands _ _ s (λ a b vs. pushed i q o s a (b ∷ vs) (word a) refl h)
    followed_follows ks i Over q o s known h = two_follow q.operands _ _ s (λ a b vs. pushed i q o s a (b ∷ a ∷ vs) (word a) refl h)
    followed_follows ks i (FrameAddr n) q o s known h = pushed i q o s (local n) q.operands (code.offset_by home.base n) (base_same n) h
    followed_follows ks i (GlobalAddr n) q o s known h =
        named_follows (t.global_of n) _ _ s (λ m e. pushed i q o s (global m) q.operands _
        (right.globals n m e ∙ sym (mod-eq_of_lt (small.globals f.unit m))) h)
    followed_follows ks i (FuncAddr n) q o s known h =
        named_follows (t.function_of n) _ _ s (λ m e. pushed i q o s (function m) q.operands _
        (right.functions n m e ∙ sym (mod-eq_of_lt (small.functions f.unit m))) h)
    followed_follows ks i (ClassAddr n) q o s known h =
        named_follows (t.class_of n) _ _ s (λ m e. pushed i q o s (table m) q.operands _ (right.classes n m e ∙ sym (mod-eq_of_lt (small.tables m))) h)
    followed_follows ks i (Load n) q o s known h = found_follows (slice_get code.kinds n) _ _ _ s
        (λ k. one_follows q.operands _ _ s (λ a vs. loads_follow i q k false a vs o s h))
    followed_follows ks i (TLoad n) q o s known h = found_follows (slice_get code.kinds n) _ _ _ s
        (λ k. one_follows q.operands _ _ s (λ a vs. loads_follow i q k false a vs o s h))
    followed_follows ks i (VLoad n) q o s known h = found_follows (slice_get code.kinds n) _ _ _ s
        (λ k. one_follows q.operands _ _ s (λ a vs. loads_follow i q k true a vs o s h))
    followed_follows ks i (Store n) q o s known h = found_follows (slice_get code.kinds n) _ _ _ s
        (λ k. two_follow q.operands _ _ s (λ a w vs. stores_follow i q k false a w vs o s h))
    followed_follows ks i (TStore n) q o s known h = found_follows (slice_get code.kinds n) _ _ _ s
        (λ k. two_follow q.operands _ _ s (λ a w vs. stores_follow i q k false a w vs o s h))
    followed_follows ks i (VStore n) q o s known h = found_follows (slice_get code.kinds n) _ _ _ s
        (λ k. two_follow q.operands _ _ s (λ a w vs. stores_follow i q k true a w vs o s h))
    followed_follows ks i (Bin op n) q o s known h = found_follows (slice_get code.operators op) _ _ _ s
        (λ b. found_follows (slice_get code.kinds n) _ _ _ s (λ k. two_follow q.operands _ _ s (λ a c vs. operates_follow ks i q b k a c vs o s known h)))
    followed_follows ks i (Conv m n) q o s known h = test_follows (m == 9) _ _ s
        (λ e. subst (λ z. Is (if_found (slice_get code.kinds n) (λ k. one_of q.operands (λ a ws. pushes i q o (converted_to k a) ws)))
        (code.conv_act z n (frame i q) below_frames) s) (sym (eqb-true m 9 e)) (conversion_follows i n q o s h))
    followed_follows ks i (Jump n) q o s known h = (refl, h)
    followed_follows ks i (JumpZero n) q o s known h = one_follows q.operands _ _ s (λ a vs. jumps_follow i n q a vs o s h)
    followed_follows ks i (Begin n) q o s known h = found_follows (slice_get code.block_kinds n) _ _ _ s (λ kind. begins_follow i q kind o s h)
    followed_follows ks i End q o s known h = ends_atomic_follows i q o s h
    followed_follows ks i BeginSync q o s known h = begins_locked_follows i q o s h
    followed_follows ks i EndSync q o s known h = ends_locked_follows i q o s h
    followed_follows ks i Out q o s known h = one_follows q.operands _ _ s (λ a vs. outputs_follow i q a vs o s h)
    followed_follows ks i Inp q o s known h = inputs_follow i q o s h
    followed_follows ks i Join q o s known h = one_follows q.operands _ _ s (λ a vs. joining_follows i q a vs o s h)
    followed_follows ks i Abort q o s known h = aborts_follow o s h
    followed_follows ks i (NewException ty) q o s known h = typed_follows (t.type_of ty) _ _ s (λ typ e.
        (ap₂ (λ (n : ℕ) (z : List ℕ). holds i q (Building (record { ty = n; bytes = z })) (words q.operands)) (right.types ty typ e) no_bytes_same, h))
    followed_follows ks i (PutException n m) q o s known h = found_follows (slice_get code.kinds m) _ _ _ s (λ k. puts_follow i n k q o s q.hold h)
    followed_follows ks i Throw q o s known h = throws_follow i q o s q.hold h
    followed_follows ks i Rethrow q o s known h = rethrows_follow i q o s q.caught h
    followed_follows ks i (GetException n m) q o s known h = found_follows (slice_get code.kinds m) _ _ _ s (λ k. gets_follow i n k q o s q.caught h)
    followed_follows ks i EndHandler q o s known h = handler_follows i q o s q.caught h
    followed_follows ks i Resume q o s known h = resumes_follow i q o s q.hold h
    followed_follows ks i (Slot c slot) q o s known h = typed_follows (t.class_of c) _ _ s (λ class e. one_follows q.operands _ _ s (λ a vs.
        slot_follows names (numbering.class c) i class slot q a vs o s (λ address n. right.slots c class e address n) right.addresses h))
    followed_follows ks i Spawn q o s known h = two_follow q.operands _ _ s (λ a v vs. spawning_follows names i q a v vs o s right.spawned h)
    followed_follows ks i a q o s known h = tt
