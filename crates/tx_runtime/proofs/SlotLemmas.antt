-- What a thread shows after a change of its log, and what a sound one is.
use Rattle.std.proofs.Common.{ℕ, zero, suc, ◌≡◌, ◌==◌, ◌<◌, ◌≤◌, cond, reverse, Bool, true, false, Option, Some, None, List, [], ◌∷◌, length, take, drop}
use Rattle.std.proofs.Common.{take-append-drop, map, ◌++◌, not, arith, refl, ap, sym, ◌∙◌, inl, inr}
use Rattle.std.specs.Prelude.{◌&&◌, ◌||◌, All, IfNone, is_some, sum_by}
use Rattle.std.specs.List.Sorted.{IsPermutation}
use Rattle.std.proofs.lemmas.List.Sums.{sum_by-cons}
use Rattle.std.proofs.lemmas.List.Sorted.{sum_by-IsPermutation}
use Rattle.std.proofs.lemmas.Bool.{and_parts, cases_Bool, eqb-true, ne_eqb, false≢true}
use Rattle.std.proofs.Math.Path.{fun_ext}
use Rattle.tx_events.specs.Memory.{MemoryLayout, can_access, update}
use Rattle.own_table.specs.declared.table.Holders.{Holders}
use Rattle.undo_log.specs.declared.notes.Note.{Note}
use Rattle.undo_log.specs.declared.undo.Log.{Log}
use Rattle.undo_log.specs.Notes.{first_note, can_put_back, word_back, others}
use Rattle.undo_log.specs.Notes
use Rattle.undo_log.proofs.NoteLists.{moved_to, noted_access}
use Rattle.undo_log.proofs.PutBack.{first_is, first_none}
use Rattle.undo_log.specs.View.{notes_of, marks_of, newest_start, newest_notes}
use Rattle.tx_serial.specs.Machine.{Save, Local, NoTx, OpenTx, GivingUp, no_save, kept_or, is_noted, oldest}
use Rattle.std.proofs.lemmas.Option.{same_Some}
use Rattle.tx_runtime.specs.declared.thread.Transaction.{Transaction}
use Rattle.tx_runtime.specs.declared.thread.WaitCount.{WaitCount}
use Rattle.tx_runtime.specs.declared.thread.Stage.{Stage}
use Rattle.tx_runtime.specs.declared.thread.Stage.TheVariants.{Open, Undoing, Releasing}
use Rattle.tx_runtime.specs.declared.thread.ThreadSlot.{ThreadSlot}
use Rattle.tx_runtime.specs.Saves.{saves_by, saves_of, newest, is_nil, marks_fit, begins_at, IsFresh}
use Rattle.tx_runtime.specs.Threads.{local_of, tx_of, tx_by, is_sound, has_saves}
use Rattle.tx_runtime.proofs.LogSavepoints.{newest_is, oldest_is}

-- the same thread with another log
pub relog : {A K S : Type 0} (state : A → S) (saved : K → S) (holders : Holders) (t : ℕ) (s : ThreadSlot A K) (log : Log) (ss : List Save) → saves_of log ≡ ss
    → local_of state saved holders t (record s { log = log }) ≡ record (local_of state saved holders t s) { tx = tx_of saved s.tx ss }
relog state saved holders t s log ss e = ap (λ v. record (local_of state saved holders t s) { tx = tx_of saved s.tx v }) e

pub log_same : (old new : Log) → notes_of new ≡ notes_of old → marks_of new ≡ marks_of old → saves_of new ≡ saves_of old
unfolding saves_of
log_same old new n m = cc

pub fresh_saves : (log : Log) → IsFresh log → saves_of log ≡ no_save ∷ []
unfolding saves_of
fresh_saves log f =
    ap (λ ms. saves_by (notes_of log) (reverse ms)) f.marks ∙ ap (λ ns. saves_by ns (0 ∷ [])) f.notes

-- a sound thread

pub record SoundLog {A K : Type 0} (p : MemoryLayout) (s : ThreadSlot A K) : Type 0 where
  pub words : can_put_back p (notes_of s.log) ≡ true
  pub begins : begins_at (notes_of s.log) (marks_of s.log) ≡ true
  pub rest : (marks_fit (has_saves s.tx) (marks_of s.log)) ≡ true

pub sound_parts : {A K : Type 0} (p : MemoryLayout) (s : ThreadSlot A K) → is_sound p s ≡ true → SoundLog p s
sound_parts p s h =
    let both = and_parts (can_put_back p (notes_of s.log) && begins_at (notes_of s.log) (marks_of s.log)) (marks_fit (has_saves s.tx) (marks_of s.log)) h in
    let first = and_parts (can_put_back p (notes_of s.log)) (begins_at (notes_of s.log) (marks_of s.log)) both.0 in
    record { words = first.0; begins = first.1; rest = both.1 }

pub back_drop : (p : MemoryLayout) (notes : List Note) (n : ℕ) → can_put_back p notes ≡ true → can_put_back p (drop n notes) ≡ true
back_drop p notes zero h = h
back_drop p [] (suc n) h = refl
back_drop p (x ∷ xs) (suc n) h = back_drop p xs n (and_parts (can_access p x.word 8) (can_put_back p xs) h).1

-- a word put back, as an update
pub back_is : (o : Option ℕ) (w : ℕ) (m : ℕ → ℕ) → word_back o w m ≡ update m w (kept_or o (m w))
back_is None w m = fun_ext (λ x. elim (cases_Bool (x == w)) [
  | inl e ↦ ap m (eqb-true x w e) ∙ sym (ap (λ b. cond b (m w) (m x)) e)
  | inr e ↦ sym (ap (λ b. cond b (m w) (m x)) e)
])
back_is (Some v) w m = refl

back_take : (p : MemoryLayout) (notes : List Note) (n : ℕ) → can_put_back p notes ≡ true → can_put_back p (take n notes) ≡ true
back_take p notes zero h = refl
back_take p [] (suc n) h = refl
back_take p (x ∷ xs) (suc n) h =
    let both = and_parts (can_access p x.word 8) (can_put_back p xs) h in
    ap (λ b. b && can_put_back p (take n xs)) both.0 ∙ back_take p xs n both.1

back_others : (p : MemoryLayout) (notes : List Note) (w : ℕ) → can_put_back p notes ≡ true → can_put_back p (others w notes) ≡ true
back_others p [] w h = refl
back_others p (x ∷ xs) w h =
    let both = and_parts (can_access p x.word 8) (can_put_back p xs) h in
    elim (not (x.word == w)) as (λ b. can_put_back p (cond b (x ∷ others w xs) (others w xs)) ≡ true) [
      | true ↦ ap (λ b. b && can_put_back p (others w xs)) both.0 ∙ back_others p xs w both.1
      | false ↦ back_others p xs w both.1
    ]

back_append : (p : MemoryLayout) (a b : List Note) → can_put_back p a ≡ true → can_put_back p b ≡ true → can_put_back p (a ++ b) ≡ true
back_append p [] b h k = k
back_append p (x ∷ xs) b h k =
    let both = and_parts (can_access p x.word 8) (can_put_back p xs) h in
    ap (λ c. c && can_put_back p (xs ++ b)) both.0 ∙ back_append p xs b both.1 k

begins_some : (a b : List Note) (marks : List ℕ) → 0 < length marks → begins_at a marks ≡ begins_at b marks
begins_some a b [] h = absurd (omega (arith, h))
begins_some a b (m ∷ ms) h = refl

sound_from : {A K : Type 0} (p : MemoryLayout) (s : ThreadSlot A K) → SoundLog p s → is_sound p s ≡ true
sound_from p s h = ap (λ b. b && begins_at (notes_of s.log) (marks_of s.log) && (marks_fit (has_saves s.tx) (marks_of s.log))) h.words
    ∙ (ap (λ b. b && (marks_fit (has_saves s.tx) (marks_of s.log))) h.begins ∙ h.rest)

-- after the newest savepoint forgot a word
pub sound_forgot : {A K : Type 0} (p : MemoryLayout) (s : ThreadSlot A K) (log : Log) (w : ℕ) → 0 < length (marks_of s.log) → is_sound p s ≡ true
    → notes_of log ≡ take (newest_start (marks_of s.log)) (notes_of s.log) ++ others w (newest_notes s.log) → marks_of log ≡ marks_of s.log
    → is_sound p (record s { log = log }) ≡ true
sound_forgot p s log w some h n m =
    let old = sound_parts p s h in
    let start = newest_start (marks_of s.log) in
    sound_from p (record s { log = log }) (record {
      words = ap (can_put_back p) n ∙ back_append p (take start (notes_of s.log)) (others w (newest_notes s.log)) (back_take p (notes_of s.log) start old.words)
          (back_others p (newest_notes s.log) w (back_drop p (notes_of s.log) start old.words));
      begins = ap (begins_at (notes_of log)) m ∙ (begins_some (notes_of log) (notes_of s.log) (marks_of s.log) some ∙ old.begins);
      rest = ap (marks_fit (has_saves s.tx)) m ∙ old.rest;
    })

begins_moved : (w : ℕ) (notes : List Note) (marks : List ℕ) → begins_at notes marks ≡ true → begins_at (others w notes) (map (moved_to w notes) marks) ≡ true
begins_moved w [] [] h = refl
begins_moved w (n ∷ ns) [] h = absurd (false≢true h)
begins_moved w notes (m ∷ ms) h = ap (λ k. moved_to w notes k == 0) (eqb-true m 0 h)

nil_moved : (f : ℕ → ℕ) (marks : List ℕ) → is_nil (map f marks) ≡ is_nil marks
nil_moved f [] = refl
nil_moved f (m ∷ ms) = refl

fit_moved : (b : Bool) (f : ℕ → ℕ) (marks : List ℕ) → marks_fit b (map f marks) ≡ marks_fit b marks
fit_moved true f marks = ap not (nil_moved f marks)
fit_moved false f marks = nil_moved f marks

-- after all savepoints forgot a word
pub sound_forgot_all : {A K : Type 0} (p : MemoryLayout) (s : ThreadSlot A K) (log : Log) (w : ℕ) → is_sound p s ≡ true
    → notes_of log ≡ others w (notes_of s.log) → marks_of log ≡ map (moved_to w (notes_of s.log)) (marks_of s.log) → is_sound p (record s { log = log }) ≡ true
sound_forgot_all p s log w h n m =
    let old = sound_parts p s h in
    sound_from p (record s { log = log }) (record {
      words = ap (can_put_back p) n ∙ back_others p (notes_of s.log) w old.words;
      begins = ap (λ ns. begins_at ns (marks_of log)) n
          ∙ (ap (begins_at (others w (notes_of s.log))) m ∙ begins_moved w (notes_of s.log) (marks_of s.log) old.begins);
      rest = ap (marks_fit (has_saves s.tx)) m ∙ (fit_moved (has_saves s.tx) (moved_to w (notes_of s.log)) (marks_of s.log) ∙ old.rest);
    })

pub newest_back : {A K : Type 0} (p : MemoryLayout) (s : ThreadSlot A K) → is_sound p s ≡ true → can_put_back p (newest_notes s.log) ≡ true
newest_back p s h = back_drop p (notes_of s.log) (newest_start (marks_of s.log)) (sound_parts p s h).words

-- what the newest savepoint notes

none_of : (ns : List Note) (x : ℕ) → length ns ≡ 0 → first_note ns x ≡ None
none_of [] x h = refl
none_of (n ∷ ns) x h = absurd (omega (arith, h))

pub newest_none : (log : Log) → 0 < length (marks_of log) → length (newest_notes log) ≡ 0 → (x : ℕ) → newest (saves_of log) x ≡ None
newest_none log h e x = ap (λ s. s x) (newest_is log h) ∙ none_of (newest_notes log) x e

pub newest_noted : (log : Log) (w : ℕ) → 0 < length (marks_of log) → Notes.is_noted (newest_notes log) w ≡ true → is_noted (newest (saves_of log)) w ≡ true
newest_noted log w h e =
    let is : (v : ℕ) × (first_note (newest_notes log) w ≡ Some v) = first_is (newest_notes log) w e in
    ap (λ s. is_some (s w)) (newest_is log h) ∙ ap is_some is.1

not_noted : (ns : List Note) (w v : ℕ) → All (λ n. w ≤ n.word) ns → v < w → Notes.is_noted ns v ≡ false
not_noted [] w v a l = refl
not_noted (n ∷ ns) w v a l =
    let other : (n.word == v) ≡ false = ne_eqb n.word v (λ e. let least : w ≤ n.word = a 0 n (omega arith) in absurd (omega (arith, e, l, least))) in
    ap (λ b. b || Notes.is_noted ns v) other ∙ not_noted ns w v (λ k d h. a (suc k) d (omega (arith, h))) l

pub newest_least : (log : Log) (w : ℕ) → 0 < length (marks_of log) → All (λ n. w ≤ n.word) (newest_notes log) → (v : ℕ) → v < w
    → is_noted (newest (saves_of log)) v ≡ false
newest_least log w h a v l = ap (λ s. is_some (s v)) (newest_is log h) ∙ ap is_some (first_none (newest_notes log) v (not_noted (newest_notes log) w v a l))

pub newest_access : {A K : Type 0} (p : MemoryLayout) (s : ThreadSlot A K) (w : ℕ) → is_sound p s ≡ true → Notes.is_noted (newest_notes s.log) w ≡ true
    → can_access p w 8 ≡ true
newest_access p s w h e = noted_access p (newest_notes s.log) w e (newest_back p s h)

pub newest_words : (log : Log) (w : ℕ) (old new : ℕ → ℕ) → 0 < length (marks_of log) → new ≡ word_back (first_note (newest_notes log) w) w old
    → new ≡ update old w (kept_or (newest (saves_of log) w) (old w))
newest_words log w old new h e = e ∙ (back_is (first_note (newest_notes log) w) w old ∙ ap (λ s. update old w (kept_or (s w) (old w))) (sym (newest_is log h)))

pub oldest_words : {A K : Type 0} (p : MemoryLayout) (s : ThreadSlot A K) (w : ℕ) (old new : ℕ → ℕ) → is_sound p s ≡ true
    → new ≡ word_back (first_note (notes_of s.log) w) w old → new ≡ update old w (kept_or (oldest (saves_of s.log) w) (old w))
oldest_words p s w old new h e = e ∙ (back_is (first_note (notes_of s.log) w) w old ∙ ap (λ o. update old w (kept_or o (old w)))
    (sym (oldest_is s.log w (sound_parts p s h).begins)))

-- a thread that stands again after its outermost BeginAtomic
pub again_local : {A K S : Type 0} (state : A → S) (saved : K → S) (holders : Holders) (t : ℕ) (s : ThreadSlot A K) (x y : Transaction K) (copy : K) (actor : A)
    (waits : WaitCount) (log : Log)
    → s.tx ≡ Some x → s.tx ≡ Some y → state actor ≡ saved copy → saves_of log ≡ no_save ∷ []
    → local_of state saved holders t (record { actor = actor; ended = s.ended; waits = waits; tx = Some (record y { stage = Open }); log = log })
    ≡ record (local_of state saved holders t s) { state = saved copy; tx = OpenTx x.birth (saved x.kept) (no_save ∷ []) }
again_local state saved holders t s x y copy actor waits log e f i j =
    let l = local_of state saved holders t s in
    let same : x ≡ y = same_Some x y (sym e ∙ f) in
    ap (λ z. record l { state = z; tx = OpenTx y.birth (saved y.kept) (saves_of log) }) i
    ∙ (ap (λ z. record l { state = saved copy; tx = OpenTx y.birth (saved y.kept) z }) j
    ∙ ap (λ z. record l { state = saved copy; tx = OpenTx z.birth (saved z.kept) (no_save ∷ []) }) (sym same))

-- the same thread with another actor in the same state, and another log that shows the same
pub ready_local : {A K S : Type 0} (state : A → S) (saved : K → S) (holders : Holders) (t : ℕ) (s : ThreadSlot A K) (actor : A) (log : Log)
    → state actor ≡ state s.actor → notes_of log ≡ notes_of s.log → marks_of log ≡ marks_of s.log
    → local_of state saved holders t (record s { actor = actor; log = log }) ≡ local_of state saved holders t s
ready_local state saved holders t s actor log e n m =
    ap (λ z. record (local_of state saved holders t s) { state = z; tx = tx_of saved s.tx (saves_of log) }) e
    ∙ ap (λ z. record (local_of state saved holders t s) { tx = tx_of saved s.tx z }) (log_same s.log log n m)

-- the log of a thread without a transaction is empty

nil_is : {X : Type 0} (xs : List X) → is_nil xs ≡ true → xs ≡ []
nil_is [] h = refl
nil_is (x ∷ xs) h = absurd (false≢true h)

no_tx_by : {S : Type 0} (g : Stage) (b : ℕ) (k : S) (ss : List Save) → tx_by g b k ss ≡ NoTx → ⊥
no_tx_by Open b k ss e = cc
no_tx_by Undoing b k ss e = cc
no_tx_by Releasing b k ss e = cc

no_tx : {K S : Type 0} (saved : K → S) (o : Option (Transaction K)) (ss : List Save) → tx_of saved o ss ≡ NoTx → has_saves o ≡ false
no_tx saved None ss e = refl
no_tx saved (Some x) ss e = absurd (no_tx_by x.stage x.birth (saved x.kept) ss e)

rest_nil : (b : Bool) (xs : List ℕ) → b ≡ false → marks_fit b xs ≡ true → xs ≡ []
rest_nil b xs e h = nil_is xs (sym (ap (λ z. marks_fit z xs) e) ∙ h)

some_marks : (xs : List ℕ) → not (is_nil xs) ≡ true → 0 < length xs
some_marks [] h = absurd (false≢true h)
some_marks (x ∷ xs) h = omega arith

-- a transaction that can be put back has a mark
pub live_marks : {A K : Type 0} (p : MemoryLayout) (s : ThreadSlot A K) → is_sound p s ≡ true → has_saves s.tx ≡ true → 0 < length (marks_of s.log)
live_marks p s h live = some_marks (marks_of s.log) (sym (ap (λ z. marks_fit z (marks_of s.log)) live) ∙ (sound_parts p s h).rest)

-- after a mark was set

begins_marked : (ns : List Note) (ms : List ℕ) → begins_at ns ms ≡ true → begins_at ns (ms ++ length ns ∷ []) ≡ true
begins_marked [] [] h = refl
begins_marked (n ∷ ns) [] h = absurd (false≢true h)
begins_marked ns (m ∷ ms) h = h

some_after : (ms : List ℕ) (m : ℕ) → not (is_nil (ms ++ m ∷ [])) ≡ true
some_after [] m = refl
some_after (x ∷ ms) m = refl

pub sound_marked : {A K : Type 0} (p : MemoryLayout) (s : ThreadSlot A K) (log : Log) → has_saves s.tx ≡ true → is_sound p s ≡ true
    → notes_of log ≡ notes_of s.log → marks_of log ≡ marks_of s.log ++ length (notes_of s.log) ∷ [] → is_sound p (record s { log = log }) ≡ true
sound_marked p s log live h n m =
    let old = sound_parts p s h in
    sound_from p (record s { log = log }) (record {
      words = ap (can_put_back p) n ∙ old.words;
      begins = ap (λ ns. begins_at ns (marks_of log)) n ∙ (ap (begins_at (notes_of s.log)) m ∙ begins_marked (notes_of s.log) (marks_of s.log) old.begins);
      rest = ap (λ b. marks_fit b (marks_of log)) live ∙ (ap (λ ms. not (is_nil ms)) m ∙ some_after (marks_of s.log) (length (notes_of s.log)));
    })

-- after the newest of several marks was dropped

begins_taken : (ns : List Note) (ms : List ℕ) (k : ℕ) → 0 < k → begins_at ns ms ≡ true → begins_at ns (take k ms) ≡ true
begins_taken ns ms zero l h = absurd (omega (arith, l))
begins_taken ns [] (suc k) l h = h
begins_taken ns (m ∷ ms) (suc k) l h = h

fit_taken : (b : Bool) (ms : List ℕ) (k : ℕ) → 0 < k → marks_fit b ms ≡ true → marks_fit b (take k ms) ≡ true
fit_taken b ms zero l h = absurd (omega (arith, l))
fit_taken true [] (suc k) l h = h
fit_taken true (m ∷ ms) (suc k) l h = refl
fit_taken false [] (suc k) l h = refl
fit_taken false (m ∷ ms) (suc k) l h = absurd (false≢true h)

pub sound_dropped : {A K : Type 0} (p : MemoryLayout) (s : ThreadSlot A K) (log : Log) (k : ℕ) → 0 < k → is_sound p s ≡ true
    → notes_of log ≡ notes_of s.log → marks_of log ≡ take k (marks_of s.log) → is_sound p (record s { log = log }) ≡ true
sound_dropped p s log k l h n m =
    let old = sound_parts p s h in
    sound_from p (record s { log = log }) (record {
      words = ap (can_put_back p) n ∙ old.words;
      begins = ap (λ ns. begins_at ns (marks_of log)) n ∙ (ap (begins_at (notes_of s.log)) m ∙ begins_taken (notes_of s.log) (marks_of s.log) k l old.begins);
      rest = ap (marks_fit (has_saves s.tx)) m ∙ fit_taken (has_saves s.tx) (marks_of s.log) k l old.rest;
    })

-- after the notes of the newest mark were put in order

back_moved : (p : MemoryLayout) (xs ys : List Note) → IsPermutation xs ys → can_put_back p xs ≡ true → can_put_back p ys ≡ true
back_moved p xs ys h all = from_sum ys (sum_by-IsPermutation fails xs ys h ∙ to_sum xs all)
  where
    fails : Note → ℕ
    fails n = cond (can_access p n.word 8) 0 1

    to_sum : (ns : List Note) → can_put_back p ns ≡ true → sum_by fails ns ≡ 0
    to_sum [] k = refl
    to_sum (n ∷ ns) k =
        let both = and_parts (can_access p n.word 8) (can_put_back p ns) k in
        let here : fails n ≡ 0 = ap (λ b. cond b 0 1) both.0 in
        sum_by-cons fails n ns ∙ omega (arith, here, to_sum ns both.1)

    from_sum : (ns : List Note) → sum_by fails ns ≡ 0 → can_put_back p ns ≡ true
    from_sum [] k = refl
    from_sum (n ∷ ns) k = elim (cases_Bool (can_access p n.word 8)) [
      | inl e ↦
          let here : fails n ≡ 0 = ap (λ b. cond b 0 1) e in
          ap (λ b. b && can_put_back p ns) e ∙ from_sum ns (omega (arith, sum_by-cons fails n ns, here, k))
      | inr e ↦ let here : fails n ≡ 1 = ap (λ b. cond b 0 1) e in absurd (omega (arith, sum_by-cons fails n ns, here, k))
    ]

pub sound_ordered : {A K : Type 0} (p : MemoryLayout) (s : ThreadSlot A K) (log : Log) → 0 < length (marks_of s.log) → is_sound p s ≡ true
    → take (newest_start (marks_of s.log)) (notes_of log) ≡ take (newest_start (marks_of s.log)) (notes_of s.log)
    → IsPermutation (newest_notes s.log) (drop (newest_start (marks_of s.log)) (notes_of log)) → marks_of log ≡ marks_of s.log
    → is_sound p (record s { log = log }) ≡ true
sound_ordered p s log some h older newer m =
    let old = sound_parts p s h in
    let start = newest_start (marks_of s.log) in
    let all : can_put_back p (notes_of log) ≡ true =
    ap (can_put_back p) (sym (take-append-drop start (notes_of log))) ∙ back_append p (take start (notes_of log)) (drop start (notes_of log))
    (ap (can_put_back p) older ∙ back_take p (notes_of s.log) start old.words)
    (back_moved p (newest_notes s.log) (drop start (notes_of log)) newer (back_drop p (notes_of s.log) start old.words)) in
    sound_from p (record s { log = log }) (record {
      words = all;
      begins = ap (begins_at (notes_of log)) m ∙ (begins_some (notes_of log) (notes_of s.log) (marks_of s.log) some ∙ old.begins);
      rest = ap (marks_fit (has_saves s.tx)) m ∙ old.rest;
    })

pub idle_log : {A K S : Type 0} (saved : K → S) (p : MemoryLayout) (s : ThreadSlot A K) → is_sound p s ≡ true → tx_of saved s.tx (saves_of s.log) ≡ NoTx
    → (notes_of s.log ≡ []) × (marks_of s.log ≡ [])
idle_log saved p s h e =
    let parts = sound_parts p s h in
    let marks = rest_nil (has_saves s.tx) (marks_of s.log) (no_tx saved s.tx (saves_of s.log) e) parts.rest in
    (nil_is (notes_of s.log) (sym (ap (begins_at (notes_of s.log)) marks) ∙ parts.begins), marks)

pub none_then : {X P Q : Type 0} (r : Option X) → IfNone r P → (P → Q) → IfNone r Q
none_then None p f = f p
none_then (Some x) p f = p

-- a transaction that gives up, once its newest notes stand in order
pub given_local : {A K S : Type 0} (state : A → S) (saved : K → S) (holders : Holders) (t : ℕ) (s r : ThreadSlot A K) (x y : Transaction K) (waits : WaitCount)
    → s.tx ≡ Some x → r.tx ≡ Some y → r.tx ≡ s.tx → local_of state saved holders t r ≡ local_of state saved holders t s → saves_of r.log ≡ saves_of s.log
    → local_of state saved holders t (record r { waits = waits; tx = Some (record y { stage = Undoing }) })
    ≡ record (local_of state saved holders t s) { tx = GivingUp x.birth (saved x.kept) (saves_of s.log) }
given_local {A} {K} {S} state saved holders t s r x y waits e f same l saves =
    let one : y ≡ x = same_Some y x (sym f ∙ (same ∙ e)) in
    ap (λ (v : Local S). record v { tx = GivingUp y.birth (saved y.kept) (saves_of r.log) }) l
    ∙ (ap (λ z. record (local_of state saved holders t s) { tx = GivingUp z.birth (saved z.kept) (saves_of r.log) }) one
    ∙ ap (λ ss. record (local_of state saved holders t s) { tx = GivingUp x.birth (saved x.kept) ss }) saves)
