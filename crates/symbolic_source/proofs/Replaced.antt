-- What stands for a form with terms in the place of its variables.
use Rattle.std.proofs.Common.{ℕ, ◌≡◌, ◌+◌, ◌%◌, ◌*◌, ◌-◌, ◌^◌, refl, ap, ap₂, sym, ◌∙◌, List, [], ◌∷◌, ◌==◌, Bool, true, false, cond, arith}
use Rattle.cpp_tree.specs.tx_ints.declared.kinds.IntKind.TheVariants.{Int, Long}
use Rattle.cpp_tree.specs.tx_ints.Words.{value_of_word}
use Rattle.cpp_tree.specs.tx_events.declared.Event.TheVariants.{Load as Reads, Store as Writes, Out, Spawn as Spawns, Join as Joins}
use Rattle.cpp_tree.specs.cpp_layout.Layout.{kind_size, function_address}
use Rattle.cpp_tree.specs.Trees.{literal}
use Rattle.src_mean.specs.Linked.{Func, Program}
use Rattle.src_mean.specs.Exceptions.{read_bytes, bytes_of, with_bytes}
use Rattle.src_mean.specs.Exceptions as exceptions
use Rattle.src_mean.specs.Frames.{State}
use Rattle.src_mean.specs.Frames as frames
use Rattle.src_mean.specs.Source.{plus, converted, applied, stored_bytes, closing, give, leave, invoke, spawn, rethrow, thread_signature}
use Rattle.symbolic_source.specs.Terms.{Term, number, variable, local, global, function, table, slot_function, sum, product, before, low_byte, converted_to}
use Rattle.symbolic_source.specs.Terms.{result, field, Exception, unknown, made, Puts, untouched, put, Values, word_or_zero, number_found, eval, exception_of}
use Rattle.symbolic_source.specs.Terms.{bytes_put}
use Rattle.symbolic_source.specs.Frames.{Spot, at_word, at_tree, Waiting, Way, value, into, Exit, throws, returns, breaks, continues, Callee, known, virtual}
use Rattle.symbolic_source.specs.Frames.{pointer, builtin, Frame, Run, Address, Then, Gives, Leaves, StoreTo, Apply, Choose, UpdateOld, UpdateBy, CopyBy, From}
use Rattle.symbolic_source.specs.Frames.{Words, Object, Slot, Pointer, Passes, Full, Keeps, Scope, Waits, Cleans, Destroys, Parts, Each, Compares, Fills}
use Rattle.symbolic_source.specs.Frames.{Filled, Trying, Takes, Taking, Handling, spot_of, waitings_of, words_of, way_of, exit_of, callee_of, frame_of, below}
use Rattle.symbolic_source.specs.Frames.{here_of}
use Rattle.symbolic_source.specs.Outcomes.{Doing, reads, writes, puts_out, joins, spawns_thread, leaves_block, Outcome, stuck, goes, hands, goes_out, chooses}
use Rattle.symbolic_source.specs.Outcomes.{results, finds, calls, spawns, rethrows, halts, Shows, event_of}
use Rattle.std.proofs.lemmas.Bool.{eqb-true}
use Rattle.symbolic_source.proofs.TermLemmas.{one_less_is}
use Rattle.symbolic_source.specs.Replacing.{joined, summed, multiplied, Replacing, seen_by, in_term, in_exception, in_puts, in_terms, in_spot, in_waitings}
use Rattle.symbolic_source.specs.Replacing.{in_way, in_exit, in_callee, in_frame, in_frames, in_doing, in_outcome}

module _ (p : Program) (f : Func) (x : Values) where
  joined_is : (a : Term) (n : ℕ) → eval p f x (joined a n) ≡ plus (eval p f x a) (n % 2 ^ 64)
  unfolding plus
  joined_is (number m) n = both m n
    where
      both : (m n : ℕ) → (m + n) % 2 ^ 64 ≡ (m % 2 ^ 64 + n % 2 ^ 64) % 2 ^ 64
      both m n = omega arith
  joined_is (local offset) n = both x.base offset n
    where
      both : (b m n : ℕ) → (b + (m + n)) % 2 ^ 64 ≡ ((b + m) % 2 ^ 64 + n % 2 ^ 64) % 2 ^ 64
      both b m n = omega arith
  joined_is (sum a (number m)) n = both (eval p f x a) m n
    where
      both : (b m n : ℕ) → (b + (m + n) % 2 ^ 64) % 2 ^ 64 ≡ ((b + m % 2 ^ 64) % 2 ^ 64 + n % 2 ^ 64) % 2 ^ 64
      both b m n = omega arith
  joined_is a n = refl

  summed_is : (a b : Term) → eval p f x (summed a b) ≡ plus (eval p f x a) (eval p f x b)
  summed_is a (number n) = joined_is a n
  summed_is a b = refl

  times_zero : (t : Bool) (m : ℕ) (b : Term) → (m == 0) ≡ t → eval p f x (cond t (number 0) (product (number m) b)) ≡ (m % 2 ^ 64 * eval p f x b) % 2 ^ 64
  times_zero true m b e = sym (ap (λ z. (z % 2 ^ 64 * eval p f x b) % 2 ^ 64) (eqb-true m 0 e) ∙ nothing (eval p f x b))
    where
      nothing : (n : ℕ) → (0 * n) % 2 ^ 64 ≡ 0
      nothing n = omega arith
  times_zero false m b e = refl

  multiplied_is : (a b : Term) → eval p f x (multiplied a b) ≡ (eval p f x a * eval p f x b) % 2 ^ 64
  multiplied_is (number m) b = times_zero (m == 0) m b refl
  multiplied_is a b = refl

module _ (p : Program) (f : Func) (r : Replacing) (x : Values) where
  abbrev y : Values
  y = seen_by p f r x

  mutual
    pub term_replaced : (t : Term) → eval p f x (in_term r t) ≡ eval p f y t
    term_replaced (variable n) = refl
    term_replaced (slot_function class slot a) = ap (λ z. function_address (number_found (p.slot z class slot)) % 2 ^ 64) (term_replaced a)
    term_replaced (sum a b) = summed_is p f x (in_term r a) (in_term r b) ∙ ap₂ plus (term_replaced a) (term_replaced b)
    term_replaced (product a b) = multiplied_is p f x (in_term r a) (in_term r b) ∙ ap₂ (λ u v. (u * v) % 2 ^ 64) (term_replaced a) (term_replaced b)
    term_replaced (before a) = one_less_is p f x (in_term r a) ∙ ap (λ z. z - 1) (term_replaced a)
    term_replaced (low_byte a) = ap (λ z. z % 256) (term_replaced a)
    term_replaced (converted_to kind a) = ap (λ z. converted kind z) (term_replaced a)
    term_replaced (result op kind a b) = ap₂ (λ u v. word_or_zero (applied op kind u v)) (term_replaced a) (term_replaced b)
    term_replaced (field e offset size) = ap (λ (z : exceptions.Exception). read_bytes z.bytes offset size % 2 ^ 64) (exception_replaced e)
    term_replaced (number n) = refl
    term_replaced (local offset) = refl
    term_replaced (global n) = refl
    term_replaced (function n) = refl
    term_replaced (table c) = refl

    pub exception_replaced : (e : Exception) → exception_of p f x (in_exception r e) ≡ exception_of p f y e
    exception_replaced (unknown n) = refl
    exception_replaced (made t puts) = ap (λ (z : List ℕ). record { typ = t; bytes = z }) (puts_replaced puts)

    pub puts_replaced : (b : Puts) → bytes_put p f x (in_puts r b) ≡ bytes_put p f y b
    puts_replaced untouched = refl
    puts_replaced (put offset size w puts) = ap₂ (λ u v. with_bytes offset (bytes_of size u) v) (term_replaced w) (puts_replaced puts)

  pub terms_replaced : (ws : List Term) → words_of p f x (in_terms r ws) ≡ words_of p f y ws
  terms_replaced [] = refl
  terms_replaced (w ∷ ws) = ap₂ (λ u v. u ∷ v) (term_replaced w) (terms_replaced ws)

  spot_replaced : (a : Spot) → spot_of p f x (in_spot r a) ≡ spot_of p f y a
  spot_replaced (at_word w) = ap literal (term_replaced w)
  spot_replaced (at_tree t) = refl

  waitings_replaced : (ws : List Waiting) → waitings_of p f x (in_waitings r ws) ≡ waitings_of p f y ws
  waitings_replaced [] = refl
  waitings_replaced (w ∷ ws) = ap₂ (λ (u : _) (v : List frames.Waiting). record { address = u; destroys = w.destroys } ∷ v) (spot_replaced w.address)
      (waitings_replaced ws)

  way_replaced : (way : Way) → way_of p f x (in_way r way) ≡ way_of p f y way
  way_replaced value = refl
  way_replaced (into target from) = ap₂ frames.into (term_replaced target) (term_replaced from)

  exit_replaced : (exit : Exit) → exit_of p f x (in_exit r exit) ≡ exit_of p f y exit
  exit_replaced (throws e) = ap frames.throws (exception_replaced e)
  exit_replaced (returns w) = ap frames.returns (term_replaced w)
  exit_replaced breaks = refl
  exit_replaced continues = refl

  callee_replaced : (callee : Callee) → callee_of p f x (in_callee r callee) ≡ callee_of p f y callee
  callee_replaced (known n) = refl
  callee_replaced (virtual class slot address) = ap (λ z. frames.virtual (number_found (p.slot z class slot))) (term_replaced address)
  callee_replaced (pointer address sig) = ap (λ z. frames.pointer z sig) (term_replaced address)
  callee_replaced (builtin which) = refl

  frame_replaced : (g : Frame) → frame_of p f x (in_frame r g) ≡ frame_of p f y g
  frame_replaced (Run way t) = ap (λ z. frames.Run z t) (way_replaced way)
  frame_replaced (Address w) = ap (λ z. frames.Run frames.value (literal z)) (term_replaced w)
  frame_replaced (Then way t) = ap (λ z. frames.Then z t) (way_replaced way)
  frame_replaced (Gives w) = ap frames.Gives (term_replaced w)
  frame_replaced (Leaves exit) = ap frames.Leaves (exit_replaced exit)
  frame_replaced (StoreTo address kind volatile answer) = ap₂ (λ u v. frames.StoreTo u kind volatile v) (term_replaced address) (term_replaced answer)
  frame_replaced (Apply op kind left) = ap (λ z. frames.Apply op kind z) (term_replaced left)
  frame_replaced (Choose way chosen other) = ap (λ z. frames.Choose z chosen other) (way_replaced way)
  frame_replaced (UpdateOld change address t) = ap (λ z. frames.UpdateOld change z t) (term_replaced address)
  frame_replaced (UpdateBy change address old) = ap₂ (λ u v. frames.UpdateBy change u v) (term_replaced address) (term_replaced old)
  frame_replaced (CopyBy target init) = ap (λ z. frames.CopyBy z init) (term_replaced target)
  frame_replaced (From target init) = ap (λ z. frames.From z init) (term_replaced target)
  frame_replaced (Words callee earlier others) = ap₂ (λ u v. frames.Words u v others) (callee_replaced callee) (terms_replaced earlier)
  frame_replaced (Object earlier class slot offset words) = ap (λ z. frames.Object z class slot offset words) (terms_replaced earlier)
  frame_replaced (Slot earlier class slot words) = ap (λ z. frames.Slot z class slot words) (terms_replaced earlier)
  frame_replaced (Pointer earlier sig words) = ap (λ z. frames.Pointer z sig words) (terms_replaced earlier)
  frame_replaced (Passes words places) = ap (λ z. frames.Passes z places) (terms_replaced words)
  frame_replaced (Full outer) = ap frames.Full (waitings_replaced outer)
  frame_replaced (Keeps address destroys) = ap (λ z. frames.Keeps z destroys) (spot_replaced address)
  frame_replaced (Scope owner always ws) = ap (λ z. frames.Scope owner always z) (waitings_replaced ws)
  frame_replaced (Waits owner address destroys) = ap (λ z. frames.Waits owner z destroys) (spot_replaced address)
  frame_replaced (Cleans ws) = ap frames.Cleans (waitings_replaced ws)
  frame_replaced (Destroys n address stride left) = ap₂ (λ u v. frames.Destroys n u stride v) (term_replaced address) (term_replaced left)
  frame_replaced (Parts parts target from) = ap₂ (λ u v. frames.Parts parts u v) (term_replaced target) (term_replaced from)
  frame_replaced (Each init destroys stride left target from) =
      ap (λ z. frames.Each init destroys stride z (eval p f x (in_term r target)) (eval p f x (in_term r from))) (term_replaced left)
      ∙ ap₂ (λ u v. frames.Each init destroys stride (eval p f y left) u v) (term_replaced target) (term_replaced from)
  frame_replaced (Compares w label behind items) = ap (λ z. frames.Compares z label behind items) (term_replaced w)
  frame_replaced (Fills t from fields puts) = ap₂ (λ u v. frames.Fills t u fields v) (term_replaced from) (puts_replaced puts)
  frame_replaced (Filled t from offset kind fields puts) = ap₂ (λ u v. frames.Filled t u offset kind fields v) (term_replaced from) (puts_replaced puts)
  frame_replaced (Trying e handler others) = ap (λ z. frames.Trying z handler others) (exception_replaced e)
  frame_replaced (Takes e base fields) = ap₂ (λ u v. frames.Takes u v fields) (exception_replaced e) (term_replaced base)
  frame_replaced (Taking e base offset kind) = ap₂ (λ u v. frames.Taking u v offset kind) (exception_replaced e) (term_replaced base)
  frame_replaced (Handling e) = ap frames.Handling (exception_replaced e)
  frame_replaced g = refl

  doing_replaced : (doing : Doing) → event_of p f x (in_doing r doing) ≡ event_of p f y doing
  doing_replaced (reads address size volatile) = ap (λ z. Reads z size volatile) (term_replaced address)
  doing_replaced (writes address kind w volatile) = ap₂ (λ u v. Writes u (kind_size kind) (stored_bytes kind v) volatile) (term_replaced address)
      (term_replaced w)
  doing_replaced (puts_out byte) = ap Out (term_replaced byte)
  doing_replaced (joins id) = ap (λ z. Joins (value_of_word Int z)) (term_replaced id)
  doing_replaced (spawns_thread func argument) = ap (λ z. Spawns func (value_of_word Long z)) (term_replaced argument)
  doing_replaced (leaves_block block exit) = ap (λ z. closing block z) (exit_replaced exit)
  doing_replaced doing = refl

  module _ (rest : List frames.Frame) where
    pub frames_replaced : (k : List Frame) → below p f x (in_frames r k) rest ≡ below p f y k rest
    frames_replaced [] = refl
    frames_replaced (g ∷ k) = ap₂ (λ u v. u ∷ v) (frame_replaced g) (frames_replaced k)

    pub here_replaced : (ws : List Waiting) → here_of p f x (in_waitings r ws) ≡ here_of p f y ws
    here_replaced ws = ap (λ (z : List frames.Waiting).
        record { frame = x.base; end = x.base + f.size; limit = x.limit; unit = f.unit; places = f.places; temporaries = z }) (waitings_replaced ws)

    at_both : (ws : List Waiting) (k : List Frame) (go : frames.Here → List frames.Frame → State)
        → go (here_of p f x (in_waitings r ws)) (below p f x (in_frames r k) rest) ≡ go (here_of p f y ws) (below p f y k rest)
    at_both ws k go = ap₂ go (here_replaced ws) (frames_replaced k)

    pub outcome_replaced : (o : Outcome) (s : State) → Shows p f x rest (in_outcome r o) s → Shows p f y rest o s
    outcome_replaced stuck s h = tt
    outcome_replaced (goes doing ws k) s h = h ∙ (at_both ws k (λ a b. frames.at (event_of p f x (in_doing r doing)) a b) ∙ ap
        (λ z. frames.at z (here_of p f y ws) (below p f y k rest)) (doing_replaced doing))
    outcome_replaced (hands w ws) s h = h ∙ ap₂ (λ a b. give p a b rest) (here_replaced ws) (term_replaced w)
    outcome_replaced (goes_out exit ws) s h = h ∙ ap₂ (λ a b. leave a b rest) (here_replaced ws) (exit_replaced exit)
    outcome_replaced (chooses w zero other) s h = (
      λ e. outcome_replaced zero s (h.0 (term_replaced w ∙ e)),
      λ e. outcome_replaced other s
          (h.1 (λ i. e (sym (term_replaced w) ∙ i))),
    )
    outcome_replaced (results op kind a b o) s h = (
      λ v e. outcome_replaced o s (h.0 v (ap₂ (λ u w. applied op kind u w) (term_replaced a) (term_replaced b) ∙ e)),
      λ trap e. h.1 trap (ap₂ (λ u w. applied op kind u w) (term_replaced a) (term_replaced b) ∙ e),
    )
    outcome_replaced (finds class slot address o) s h = (
      λ n e. outcome_replaced o s (h.0 n (ap (λ z. p.slot z class slot) (term_replaced address) ∙ e)),
      λ e. h.1 (ap (λ z. p.slot z class slot) (term_replaced address) ∙ e),
    )
    outcome_replaced (calls callee words ws k) s h = h
        ∙ (at_both ws k (λ a b. invoke p a (callee_of p f x (in_callee r callee)) (words_of p f x (in_terms r words)) b)
        ∙ ap₂ (λ a b. invoke p (here_of p f y ws) a b (below p f y k rest)) (callee_replaced callee) (terms_replaced words))
    outcome_replaced (spawns address argument ws k) s h = h
        ∙ (at_both ws k (λ a b. spawn a (p.pointed (eval p f x (in_term r address)) thread_signature) (eval p f x (in_term r argument)) b)
        ∙ ap₂ (λ u v. spawn (here_of p f y ws) (p.pointed u thread_signature) v (below p f y k rest)) (term_replaced address) (term_replaced argument))
    outcome_replaced (rethrows ws k) s h = h ∙ at_both ws k (λ a b. rethrow a (frames.handled rest) b)
    outcome_replaced (halts end) s h = h

    -- and the other way round
    pub outcome_placed : (o : Outcome) (s : State) → Shows p f y rest o s → Shows p f x rest (in_outcome r o) s
    outcome_placed stuck s h = tt
    outcome_placed (goes doing ws k) s h = h ∙ sym (at_both ws k (λ a b. frames.at (event_of p f x (in_doing r doing)) a b) ∙ ap
        (λ z. frames.at z (here_of p f y ws) (below p f y k rest)) (doing_replaced doing))
    outcome_placed (hands w ws) s h = h ∙ sym (ap₂ (λ a b. give p a b rest) (here_replaced ws) (term_replaced w))
    outcome_placed (goes_out exit ws) s h = h ∙ sym (ap₂ (λ a b. leave a b rest) (here_replaced ws) (exit_replaced exit))
    outcome_placed (chooses w zero other) s h = (
      λ e. outcome_placed zero s (h.0 (sym (term_replaced w) ∙ e)),
      λ e. outcome_placed other s
          (h.1 (λ i. e (term_replaced w ∙ i))),
    )
    outcome_placed (results op kind a b o) s h = (
      λ v e. outcome_placed o s (h.0 v (sym (ap₂ (λ u w. applied op kind u w) (term_replaced a) (term_replaced b)) ∙ e)),
      λ trap e. h.1 trap (sym (ap₂ (λ u w. applied op kind u w) (term_replaced a) (term_replaced b)) ∙ e),
    )
    outcome_placed (finds class slot address o) s h = (
      λ n e. outcome_placed o s (h.0 n (sym (ap (λ z. p.slot z class slot) (term_replaced address)) ∙ e)),
      λ e. h.1 (sym (ap (λ z. p.slot z class slot) (term_replaced address)) ∙ e),
    )
    outcome_placed (calls callee words ws k) s h = h ∙ sym
        (at_both ws k (λ a b. invoke p a (callee_of p f x (in_callee r callee)) (words_of p f x (in_terms r words)) b)
        ∙ ap₂ (λ a b. invoke p (here_of p f y ws) a b (below p f y k rest)) (callee_replaced callee) (terms_replaced words))
    outcome_placed (spawns address argument ws k) s h = h
        ∙ sym (at_both ws k (λ a b. spawn a (p.pointed (eval p f x (in_term r address)) thread_signature) (eval p f x (in_term r argument)) b)
        ∙ ap₂ (λ u v. spawn (here_of p f y ws) (p.pointed u thread_signature) v (below p f y k rest)) (term_replaced address) (term_replaced argument))
    outcome_placed (rethrows ws k) s h = h ∙ sym (at_both ws k (λ a b. rethrow a (frames.handled rest) b))
    outcome_placed (halts end) s h = h
