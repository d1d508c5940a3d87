-- Symbolic decisions, waiting objects, ways out and calls, as those of the thread.
use Rattle.std.proofs.Common.{ℕ, ℤ, ◌≡◌, ◌%◌, ◌^◌, ◌==◌, ◌||◌, ◌++◌, nat_lt, Bool, true, false, cond, refl, ap, ap₂, sym, ◌∙◌, List, [], ◌∷◌, Option, Some}
use Rattle.std.proofs.Common.{None, Result, Ok, Err}
use Rattle.std.proofs.lemmas.Bool.{true≢false, eqb-true}
use Rattle.cpp_tree.specs.tx_ints.declared.kinds.ArithTrap.{ArithTrap}
use Rattle.cpp_tree.specs.tx_ints.declared.kinds.IntKind.TheVariants.{Int}
use Rattle.cpp_tree.specs.tx_ints.Words.{value_of_word}
use Rattle.cpp_tree.specs.tx_events.declared.End.TheVariants.{Trapped}
use Rattle.cpp_tree.specs.tx_events.declared.Event.TheVariants.{Silent, Out, Join as Joins}
use Rattle.cpp_tree.specs.declared.kinds.Builtin.{Builtin}
use Rattle.cpp_tree.specs.declared.kinds.Builtin.TheVariants.{PutChar, GetChar, Spawn as SpawnThread, Join as JoinThread, Abort as AbortProgram}
use Rattle.cpp_tree.specs.Trees.{Trees, none, more}
use Rattle.src_mean.specs.Linked.{Func, Program}
use Rattle.src_mean.specs.Frames.{Owner, same_owner, State}
use Rattle.src_mean.specs.Frames as frames
use Rattle.src_mean.specs.Source as source
use Rattle.symbolic_source.specs.Terms.{Term, number, Exception, Values, eval, exception_of}
use Rattle.symbolic_source.specs.Frames.{Spot, Waiting, Way, value, into, Exit, throws, returns, breaks, continues, Callee, known, virtual, pointer, builtin}
use Rattle.symbolic_source.specs.Frames.{Frame, Scope, Full, Within, Tries, Body, Switches, spot_of, waiting_of, waitings_of, words_of, way_of, exit_of}
use Rattle.symbolic_source.specs.Frames.{callee_of, frame_of, below, here_of, put_into, behind, puts, puts_some, waiting}
use Rattle.symbolic_source.specs.Outcomes.{Outcome, stuck, either, Shows, Stops}
use Rattle.symbolic_source.specs.Steps.{if_word, goes_if, try_first, left, result_words, first_word, second_word, target_of, source_of, built_in, invoked}
use Rattle.symbolic_source.specs.Steps.{next_word, called}

module _ (p : Program) (f : Func) (x : Values) (rest : List frames.Frame) where
  abbrev pub Shown : Outcome → State → Type 0
  Shown o s = Shows p f x rest o s

  abbrev pub on : List Frame → List frames.Frame
  on k = below p f x k rest

  abbrev pub here : List Waiting → frames.Here
  here ws = here_of p f x ws

  -- Decisions

  pub cond_shown : (b : Bool) (o q : Outcome) (s r : State) → Shown o s → Shown q r → Shown (cond b o q) (cond b s r)
  cond_shown true o q s r h g = h
  cond_shown false o q s r h g = g

  decided : (n : ℕ) (o q : Outcome) (s : State) (b : Bool) → (n == 0) ≡ b → (n ≡ 0 → Shown o s) → ((n ≡ 0 → ⊥) → Shown q s) → Shown (cond b o q) s
  decided n o q s true e h g = h (eqb-true n 0 e)
  decided n o q s false e h g = g (λ i. true≢false (sym (ap (λ z. z == 0) i) ∙ e))

  pub either_shown : (w : Term) (o q : Outcome) (s : State) → (eval p f x w ≡ 0 → Shown o s) → ((eval p f x w ≡ 0 → ⊥) → Shown q s) → Shown (either w o q) s
  either_shown (number n) o q s h g = decided (n % 2 ^ 64) o q s (n % 2 ^ 64 == 0) refl h g
  either_shown w o q s h g = (h, g)

  pub if_zero : (w : ℕ) {A : Type 0} (a b : A) → w ≡ 0 → cond (w == 0) a b ≡ a
  if_zero w a b e = ap (λ z. cond (z == 0) a b) e

  not_zero : (w : ℕ) (c : Bool) → (w == 0) ≡ c → (w ≡ 0 → ⊥) → (w == 0) ≡ false
  not_zero w true e h = absurd (h (eqb-true w 0 e))
  not_zero w false e h = e

  pub if_not_zero : (w : ℕ) {A : Type 0} (a b : A) → (w ≡ 0 → ⊥) → cond (w == 0) a b ≡ b
  if_not_zero w a b h = ap (λ z. cond z a b) (not_zero w (w == 0) refl h)

  word_shown : (n : ℕ) (o : Outcome) (s : State) (b : Bool) → nat_lt n (2 ^ 64) ≡ b → (nat_lt n (2 ^ 64) ≡ true → Shown o s) → Shown (cond b o stuck) s
  word_shown n o s true e h = h e
  word_shown n o s false e h = tt

  pub if_word_shown : (n : ℕ) (o : Outcome) (s : State) → (nat_lt n (2 ^ 64) ≡ true → Shown o s) → Shown (if_word n o) s
  if_word_shown n o s h = word_shown n o s (nat_lt n (2 ^ 64)) refl h

  pub finished : (r : Result ℤ ArithTrap) (h : frames.Here) (go : ℤ → State) (k : List frames.Frame) (o : Outcome) → ((v : ℤ) → r ≡ Ok v → Shown o (go v))
      → ((v : ℤ) → r ≡ Ok v → Shown o (source.finish r h go k))
      × ((trap : ArithTrap) → r ≡ Err trap → Stops (Trapped (source.trap_of trap)) (source.finish r h go k))
  finished (Ok v) h go k o g = (λ z e. g v refl, λ trap e. absurd cc)
  finished (Err t) h go k o g = (
    λ z e. absurd cc,
    λ trap e.
        let same : t ≡ trap = cc in
        record { here = h; others = k; is = ap (λ z. source.halt h (Trapped (source.trap_of z)) k) same },
  )

  -- What waits

  behind_is : (g : Frame) (o : Option (List Frame)) (j : List Frame) → behind g o ≡ Some j → (i : List Frame) × (o ≡ Some i) × (j ≡ g ∷ i)
  behind_is g None j e = absurd cc
  behind_is g (Some i) j e =
      let same : g ∷ i ≡ j = cc in
      (i, refl, sym same)

  put_shown : (b : Bool) (w : Waiting) (owner : Owner) (always : Bool) (ws : List Waiting) (k : List Frame) (o : Option (List Frame)) (j : List Frame)
      (s : List frames.Frame)
      → ((i : List Frame) → o ≡ Some i → s ≡ on i) → put_into b w owner always ws k o ≡ Some j
      → cond b (frames.Scope owner always (waiting_of p f x w ∷ waitings_of p f x ws) ∷ on k) (frames.Scope owner always (waitings_of p f x ws) ∷ s) ≡ on j
  put_shown true w owner always ws k o j s h e =
      let same : Scope owner always (w ∷ ws) ∷ k ≡ j = cc in
      ap (λ z. on z) same
  put_shown false w owner always ws k None j s h e = absurd cc
  put_shown false w owner always ws k (Some i) j s h e =
      let same : Scope owner always ws ∷ i ≡ j = cc in
      ap (λ z. frames.Scope owner always (waitings_of p f x ws) ∷ z) (h i refl) ∙ ap (λ z. on z) same

  puts_shown : (owner : Owner) (w : Waiting) (k j : List Frame) → puts owner w k ≡ Some j → frames.puts owner (waiting_of p f x w) (on k) ≡ on j
  puts_shown owner w [] j e = absurd cc
  puts_shown owner w (Scope o always ws ∷ k) j e = put_shown (same_owner owner o) w o always ws k (puts owner w k) j _ (λ i h. puts_shown owner w k i h) e
  puts_shown owner w (g ∷ k) j e =
      let b = behind_is g (puts owner w k) j e in
      ap (λ z. frame_of p f x g ∷ z) (puts_shown owner w k b.0 b.1) ∙ ap (λ z. on z) (sym b.2)

  pub puts_some_shown : (owner : Owner) (address : Spot) (destroys : Trees) (k j : List Frame) → puts_some owner address destroys k ≡ Some j
      → frames.puts_some owner (spot_of p f x address) destroys (on k) ≡ on j
  puts_some_shown owner address none k j e =
      let same : k ≡ j = cc in
      ap (λ z. on z) same
  puts_some_shown owner address (more d ds) k j e = puts_shown owner (record { address = address; destroys = more d ds }) k j e

  pub waiting_shown : (address : Spot) (destroys : Trees) (ws : List Waiting)
      → frames.waiting (spot_of p f x address) destroys (waitings_of p f x ws) ≡ waitings_of p f x (waiting address destroys ws)
  waiting_shown address none ws = refl
  waiting_shown address (more d ds) ws = refl

  pub goes_if_shown : (ws : List Waiting) (g : Frame) (o : Option (List Frame)) (s : List frames.Frame) → ((i : List Frame) → o ≡ Some i → s ≡ on i)
      → Shown (goes_if ws (behind g o)) (frames.at Silent (here ws) (frame_of p f x g ∷ s))
  goes_if_shown ws g None s h = tt
  goes_if_shown ws g (Some i) s h = ap (λ z. frames.at Silent (here ws) (frame_of p f x g ∷ z)) (h i refl)

  -- Leaving

  try_shown : (ws : List Waiting) (e : Exception) (handlers : Trees) (o : Outcome) (s : State) (k : List Frame) → Shown o s
      → Shown (try_first ws e handlers o k) (source.try_first (here ws) (exception_of p f x e) handlers s (on k))
  try_shown ws e none o s k h = h
  try_shown ws e (more handler others) o s k h = refl

  pub left_shown : (ws : List Waiting) (exit : Exit) (k : List Frame) → Shown (left ws exit k) (source.leave (here ws) (exit_of p f x exit) (on k))
  left_shown ws exit [] = refl
  left_shown ws (throws e) (Scope owner always scoped ∷ k) = cond_shown (always || true) _ _ _ _ refl (left_shown ws (throws e) k)
  left_shown ws (returns w) (Scope owner always scoped ∷ k) = cond_shown (always || false) _ _ _ _ refl (left_shown ws (returns w) k)
  left_shown ws breaks (Scope owner always scoped ∷ k) = cond_shown (always || false) _ _ _ _ refl (left_shown ws breaks k)
  left_shown ws continues (Scope owner always scoped ∷ k) = cond_shown (always || false) _ _ _ _ refl (left_shown ws continues k)
  left_shown ws exit (Full outer ∷ k) = refl
  left_shown ws exit (Within block ∷ k) = refl
  left_shown ws (throws e) (Tries handlers ∷ k) = try_shown ws e handlers _ _ k (left_shown ws (throws e) k)
  left_shown ws breaks (Body test body step ∷ k) = refl
  left_shown ws continues (Body test body step ∷ k) = refl
  left_shown ws breaks (Switches ∷ k) = refl
  left_shown ws exit (g ∷ k) = left_shown ws exit k

  -- Calls

  pub words_join : (before : List Term) (v : Term) → words_of p f x (before ++ v ∷ []) ≡ words_of p f x before ++ eval p f x v ∷ []
  words_join [] v = refl
  words_join (w ∷ ws) v = ap (λ z. eval p f x w ∷ z) (words_join ws v)

  first_is : (words : List Term) → source.first_word (words_of p f x words) ≡ eval p f x (first_word words)
  first_is [] = refl
  first_is (w ∷ ws) = refl

  second_is : (words : List Term) → source.second_word (words_of p f x words) ≡ eval p f x (second_word words)
  second_is [] = refl
  second_is (w ∷ ws) = first_is ws

  pub result_words_are : (way : Way) → words_of p f x (result_words way) ≡ source.result_words (way_of p f x way)
  result_words_are value = refl
  result_words_are (into target from) = refl

  pub target_is : (way : Way) → eval p f x (target_of way) ≡ source.target_of (way_of p f x way)
  target_is value = refl
  target_is (into target from) = refl

  pub source_is : (way : Way) → eval p f x (source_of way) ≡ source.source_of (way_of p f x way)
  source_is value = refl
  source_is (into target from) = refl

  built_in_shown : (ws : List Waiting) (which : Builtin) (words : List Term) (k : List Frame)
      → Shown (built_in ws which words k) (source.built_in p (here ws) which (words_of p f x words) (on k))
  built_in_shown ws PutChar words k = ap (λ z. frames.at (Out (z % 256)) (here ws) (frames.Gives (z % 256) ∷ on k)) (first_is words)
  built_in_shown ws GetChar words k = refl
  built_in_shown ws SpawnThread words k = ap₂ (λ a b. source.spawn (here ws) (p.pointed a source.thread_signature) b (on k)) (first_is words) (second_is words)
  built_in_shown ws JoinThread words k = ap (λ z. frames.at (Joins (value_of_word Int z)) (here ws) (frames.Gives 0 ∷ on k)) (first_is words)
  built_in_shown ws AbortProgram words k = record { here = here ws; others = on k; is = refl }

  invoked_shown : (ws : List Waiting) (callee : Callee) (words : List Term) (k : List Frame)
      → Shown (invoked ws callee words k) (source.invoke p (here ws) (callee_of p f x callee) (words_of p f x words) (on k))
  invoked_shown ws (known n) words k = refl
  invoked_shown ws (virtual class slot address) words k = refl
  invoked_shown ws (pointer address sig) words k = refl
  invoked_shown ws (builtin which) words k = built_in_shown ws which words k

  pub next_shown : (ws : List Waiting) (callee : Callee) (words : List Term) (others : Trees) (k : List Frame)
      → Shown (next_word ws callee words others k) (source.next_word p (here ws) (callee_of p f x callee) (words_of p f x words) others (on k))
  next_shown ws callee words none k = invoked_shown ws callee words k
  next_shown ws callee words (more t ts) k = refl

  pub called_shown : (ws : List Waiting) (callee : Callee) (words : List Term) (others : Trees) (k : List Frame)
      → Shown (called ws callee words others k) (source.call p (here ws) (callee_of p f x callee) (words_of p f x words) others (on k))
  called_shown ws callee words others k = next_shown ws callee words others (Scope frames.of_call true [] ∷ k)
