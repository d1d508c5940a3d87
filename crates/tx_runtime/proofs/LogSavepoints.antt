-- The savepoints of a log after each of its calls.
use Rattle.std.proofs.Common.{ℕ, zero, suc, ◌≡◌, ◌<◌, ◌≤◌, ◌+◌, ◌-◌, true, cond, List, [], ◌∷◌, ◌++◌, length, take, drop, map, reverse, get_or, refl, ap, sym}
use Rattle.std.proofs.Common.{◌∙◌, subst, arith}
use Rattle.std.specs.Prelude.{slice_index}
use Rattle.std.proofs.lemmas.List.{reverse-append}
use Rattle.std.proofs.lemmas.Bool.{eqb-true, false≢true}
use Rattle.undo_log.specs.declared.notes.Note.{Note}
use Rattle.undo_log.specs.declared.undo.Log.{Log}
use Rattle.undo_log.specs.Notes.{first_note, is_noted, others}
use Rattle.undo_log.specs.View.{notes_of, marks_of, newest_start, newest_notes}
use Rattle.undo_log.proofs.NoteLists.{moved_to}
use Rattle.tx_serial.specs.Machine.{no_save, oldest, forget_all, note}
use Rattle.tx_runtime.specs.Saves.{saves_by, saves_of, newest, handed, newest_without, begins_at}
use Rattle.std.proofs.Math.Path.{fun_ext}
use Rattle.tx_runtime.proofs.SavepointLists.{saves_marked, saves_noted, saves_dropped, saves_forgot, saves_forgot_all, oldest_first, Descends, EndsAtZero}

-- marks, the newest first

abbrev AtMostEach : ℕ → List ℕ → Type 0
AtMostEach m [] = Unit {0}
AtMostEach m (x ∷ xs) = (m ≤ x) × AtMostEach m xs

each_append : (m : ℕ) (xs ys : List ℕ) → AtMostEach m xs → AtMostEach m ys → AtMostEach m (xs ++ ys)
each_append m [] ys a b = b
each_append m (x ∷ xs) ys a b = (a.0, each_append m xs ys a.1 b)

each_turned : (m : ℕ) (xs : List ℕ) → AtMostEach m xs → AtMostEach m (reverse xs)
each_turned m [] a = tt
each_turned m (x ∷ xs) a = subst (AtMostEach m) (sym (reverse-append (x ∷ []) xs)) (each_append m (reverse xs) (x ∷ []) (each_turned m xs a.1) (a.0, tt))

each_index : (m : ℕ) (xs : List ℕ) → ((i : ℕ) → i < length xs → m ≤ get_or xs i 0) → AtMostEach m xs
each_index m [] h = tt
each_index m (x ∷ xs) h = (h 0 (omega arith), each_index m xs (λ i l. h (suc i) (omega (arith, l))))

descends_end : (n m : ℕ) (xs : List ℕ) → Descends n xs → AtMostEach m xs → m ≤ n → Descends n (xs ++ m ∷ [])
descends_end n m [] d a h = (h, tt)
descends_end n m (x ∷ xs) d a h = (d.0, descends_end x m xs d.1 a.1 a.0)

descends_turned : (n : ℕ) (xs : List ℕ) → ((i : ℕ) → i < length xs → get_or xs i 0 ≤ n) → ((i j : ℕ) → i ≤ j → j < length xs → get_or xs i 0 ≤ get_or xs j 0)
    → Descends n (reverse xs)
descends_turned n [] w up = tt
descends_turned n (x ∷ xs) w up = subst (Descends n) (sym (reverse-append (x ∷ []) xs))
    (descends_end n x (reverse xs)
    (descends_turned n xs (λ i l. w (suc i) (omega (arith, l))) (λ i j l h. up (suc i) (suc j) (omega (arith, l)) (omega (arith, h))))
    (each_turned x xs (each_index x xs (λ i l. up 0 (suc i) (omega arith) (omega (arith, l)))))
    (w 0 (omega arith)))

-- the marks of a log descend from the number of its notes
pub log_descends : (log : Log) → Descends (length (notes_of log)) (reverse (marks_of log))
log_descends log = descends_turned (length (notes_of log)) (marks_of log) log.within log.ascending

split_last : (xs : List ℕ) (n : ℕ) → length xs ≡ suc n → xs ≡ take n xs ++ slice_index xs n ∷ []
split_last [] n e = absurd (omega (arith, e))
split_last (x ∷ []) zero e = refl
split_last (x ∷ y ∷ ys) zero e = absurd (omega (arith, e))
split_last (x ∷ xs) (suc n) e = ap (λ r. x ∷ r) (split_last xs n (omega (arith, e)))

pub turned_last : (xs : List ℕ) (n : ℕ) → length xs ≡ suc n → reverse xs ≡ slice_index xs n ∷ reverse (take n xs)
turned_last xs n e = ap reverse (split_last xs n e) ∙ reverse-append (take n xs) (slice_index xs n ∷ [])

-- the newest mark first
abbrev before_newest : List ℕ → List ℕ
before_newest marks = take (length marks - 1) marks

newest_first : (marks : List ℕ) → 0 < length marks → reverse marks ≡ newest_start marks ∷ reverse (before_newest marks)
newest_first marks h = turned_last marks (length marks - 1) (omega (arith, h))

newest_within : (log : Log) → 0 < length (marks_of log) → newest_start (marks_of log) ≤ length (notes_of log)
newest_within log h = log.within (length (marks_of log) - 1) (omega (arith, h))

saves_newest : (log : Log) → 0 < length (marks_of log)
    → saves_of log ≡ first_note (newest_notes log) ∷ saves_by (take (newest_start (marks_of log)) (notes_of log)) (reverse (before_newest (marks_of log)))
unfolding saves_of
saves_newest log h = ap (saves_by (notes_of log)) (newest_first (marks_of log) h)

pub newest_is : (log : Log) → 0 < length (marks_of log) → newest (saves_of log) ≡ first_note (newest_notes log)
newest_is log h = ap newest (saves_newest log h)

-- the calls

pub log_marked : (old new : Log) → notes_of new ≡ notes_of old → marks_of new ≡ marks_of old ++ length (notes_of old) ∷ []
    → saves_of new ≡ no_save ∷ saves_of old
unfolding saves_of
log_marked old new n m =
    ap (λ ns. saves_by ns (reverse (marks_of new))) n
    ∙ (ap (λ ms. saves_by (notes_of old) (reverse ms)) m
    ∙ (ap (saves_by (notes_of old)) (reverse-append (marks_of old) (length (notes_of old) ∷ []))
    ∙ saves_marked (notes_of old) (reverse (marks_of old))))

pub log_noted : (old new : Log) (word v : ℕ) → 0 < length (marks_of old)
    → notes_of new ≡ cond (is_noted (newest_notes old) word) (notes_of old) (notes_of old ++ record { word = word; old = v } ∷ []) → marks_of new ≡ marks_of old
    → saves_of new ≡ note (saves_of old) word v
unfolding saves_of
log_noted old new word v h n m =
    let start = newest_start (marks_of old) in
    let rest = reverse (before_newest (marks_of old)) in
    ap (λ ns. saves_by ns (reverse (marks_of new))) n
    ∙ (ap (λ ms. saves_by (cond (is_noted (newest_notes old) word) (notes_of old) (notes_of old ++ record { word = word; old = v } ∷ [])) (reverse ms)) m
    ∙ (ap (saves_by (cond (is_noted (newest_notes old) word) (notes_of old) (notes_of old ++ record { word = word; old = v } ∷ [])))
    (newest_first (marks_of old) h)
    ∙ (saves_noted (notes_of old) start rest word v (newest_within old h)
    ∙ ap (λ ms. note (saves_by (notes_of old) ms) word v) (sym (newest_first (marks_of old) h)))))

pub log_forgot : (old new : Log) (word : ℕ) → 0 < length (marks_of old)
    → notes_of new ≡ take (newest_start (marks_of old)) (notes_of old) ++ others word (newest_notes old) → marks_of new ≡ marks_of old
    → saves_of new ≡ newest_without word (saves_of old)
unfolding saves_of
log_forgot old new word h n m =
    let start = newest_start (marks_of old) in
    let rest = reverse (before_newest (marks_of old)) in
    let kept = take start (notes_of old) ++ others word (newest_notes old) in
    ap (λ ns. saves_by ns (reverse (marks_of new))) n
    ∙ (ap (λ ms. saves_by kept (reverse ms)) m
    ∙ (ap (saves_by kept) (newest_first (marks_of old) h)
    ∙ (saves_forgot (notes_of old) start rest word (newest_within old h)
    ∙ ap (λ ms. newest_without word (saves_by (notes_of old) ms)) (sym (newest_first (marks_of old) h)))))

-- the notes of the newest mark may stand in another order
pub log_ordered : (old new : Log) → 0 < length (marks_of old)
    → take (newest_start (marks_of old)) (notes_of new) ≡ take (newest_start (marks_of old)) (notes_of old)
    → ((w : ℕ) → first_note (drop (newest_start (marks_of old)) (notes_of new)) w ≡ first_note (newest_notes old) w) → marks_of new ≡ marks_of old
    → saves_of new ≡ saves_of old
unfolding saves_of
log_ordered old new h older first m =
    let start = newest_start (marks_of old) in
    let rest = reverse (before_newest (marks_of old)) in
    ap (λ ms. saves_by (notes_of new) (reverse ms)) m
    ∙ (ap (saves_by (notes_of new)) (newest_first (marks_of old) h)
    ∙ (ap (λ f. f ∷ saves_by (take start (notes_of new)) rest) (fun_ext first)
    ∙ (ap (λ ns. first_note (newest_notes old) ∷ saves_by ns rest) older
    ∙ sym (ap (saves_by (notes_of old)) (newest_first (marks_of old) h)))))

handed_two : (notes : List Note) (m o : ℕ) (ms : List ℕ) → Descends (length notes) (m ∷ o ∷ ms) → saves_by notes (o ∷ ms) ≡ handed (saves_by notes (m ∷ o ∷ ms))
handed_two notes m o ms d = saves_dropped notes m o ms d.0 d.1.0

handed_more : (notes : List Note) (m : ℕ) (ms : List ℕ) → 0 < length ms → Descends (length notes) (m ∷ ms)
    → saves_by notes ms ≡ handed (saves_by notes (m ∷ ms))
handed_more notes m [] h d = absurd (omega (arith, h))
handed_more notes m (o ∷ ms) h d = handed_two notes m o ms d

length_turned : (xs : List ℕ) → length (reverse xs) ≡ length xs
length_turned [] = refl
length_turned (x ∷ xs) = ap length (reverse-append (x ∷ []) xs) ∙ length_end (reverse xs) x ∙ ap suc (length_turned xs)
  where
    length_end : (ys : List ℕ) (y : ℕ) → length (ys ++ y ∷ []) ≡ suc (length ys)
    length_end [] y = refl
    length_end (z ∷ zs) y = ap suc (length_end zs y)

length_before : (xs : List ℕ) (n : ℕ) → length xs ≡ suc n → length (take n xs) ≡ n
length_before xs zero e = refl
length_before [] (suc n) e = absurd (omega (arith, e))
length_before (x ∷ xs) (suc n) e = ap suc (length_before xs n (omega (arith, e)))

pub log_dropped : (old new : Log) (mark : ℕ) → mark + 1 ≡ length (marks_of old) → 0 < mark
    → notes_of new ≡ notes_of old → marks_of new ≡ take mark (marks_of old) → saves_of new ≡ handed (saves_of old)
unfolding saves_of
log_dropped old new mark e some n m =
    let last : length (marks_of old) ≡ suc mark = omega (arith, e) in
    let front = turned_last (marks_of old) mark last in
    let more : length (reverse (take mark (marks_of old))) ≡ mark = length_turned (take mark (marks_of old)) ∙ length_before (marks_of old) mark last in
    ap (λ ns. saves_by ns (reverse (marks_of new))) n
    ∙ (ap (λ ms. saves_by (notes_of old) (reverse ms)) m
    ∙ (handed_more (notes_of old) (slice_index (marks_of old) mark) (reverse (take mark (marks_of old))) (omega (arith, more, some))
    (subst (Descends (length (notes_of old))) front (log_descends old))
    ∙ ap (λ ms. handed (saves_by (notes_of old) ms)) (sym front)))

map_append : (f : ℕ → ℕ) (xs ys : List ℕ) → map f (xs ++ ys) ≡ map f xs ++ map f ys
map_append f [] ys = refl
map_append f (x ∷ xs) ys = ap (λ r. f x ∷ r) (map_append f xs ys)

map_turned : (f : ℕ → ℕ) (xs : List ℕ) → reverse (map f xs) ≡ map f (reverse xs)
map_turned f [] = refl
map_turned f (x ∷ xs) =
    reverse-append (f x ∷ []) (map f xs)
    ∙ (ap (λ r. r ++ f x ∷ []) (map_turned f xs)
    ∙ (sym (map_append f (reverse xs) (x ∷ [])) ∙ ap (map f) (sym (reverse-append (x ∷ []) xs))))

pub log_forgot_all : (old new : Log) (word : ℕ) → notes_of new ≡ others word (notes_of old) → marks_of new ≡ map (moved_to word (notes_of old)) (marks_of old)
    → saves_of new ≡ forget_all (saves_of old) word
unfolding saves_of
log_forgot_all old new word n m =
    ap (λ ns. saves_by ns (reverse (marks_of new))) n
    ∙ (ap (λ ms. saves_by (others word (notes_of old)) (reverse ms)) m
    ∙ (ap (saves_by (others word (notes_of old))) (map_turned (moved_to word (notes_of old)) (marks_of old))
    ∙ saves_forgot_all (notes_of old) (reverse (marks_of old)) word (log_descends old)))

pub no_saves : (log : Log) → marks_of log ≡ [] → saves_of log ≡ []
unfolding saves_of
no_saves log m = ap (λ ms. saves_by (notes_of log) (reverse ms)) m

-- how many savepoints there are

length_saves : (notes : List Note) (ms : List ℕ) → length (saves_by notes ms) ≡ length ms
length_saves notes [] = refl
length_saves notes (m ∷ ms) = ap suc (length_saves (take m notes) ms)

pub saves_count : (log : Log) → length (saves_of log) ≡ length (marks_of log)
unfolding saves_of
saves_count log = length_saves (notes_of log) (reverse (marks_of log)) ∙ length_turned (marks_of log)

-- the oldest note of a word

ends_end : (m : ℕ) (xs : List ℕ) (z : ℕ) → z ≡ 0 → EndsAtZero m (xs ++ z ∷ [])
ends_end m [] z e = e
ends_end m (x ∷ xs) z e = ends_end x xs z e

oldest_list : (notes : List Note) (ms : List ℕ) (z x : ℕ) → z ≡ 0 → Descends (length notes) (ms ++ z ∷ [])
    → oldest (saves_by notes (ms ++ z ∷ [])) x ≡ first_note notes x
oldest_list notes [] z x e d = oldest_first notes z [] x d e
oldest_list notes (m ∷ ms) z x e d = oldest_first notes m (ms ++ z ∷ []) x d (ends_end m ms z e)

oldest_by : (notes : List Note) (marks : List ℕ) (x : ℕ) → begins_at notes marks ≡ true → Descends (length notes) (reverse marks)
    → oldest (saves_by notes (reverse marks)) x ≡ first_note notes x
oldest_by [] [] x b d = refl
oldest_by (n ∷ ns) [] x b d = absurd (false≢true b)
oldest_by notes (m ∷ ms) x b d =
    let turned = reverse-append (m ∷ []) ms in
    ap (λ r. oldest (saves_by notes r) x) turned ∙ oldest_list notes (reverse ms) m x (eqb-true m 0 b) (subst (Descends (length notes)) turned d)

pub oldest_is : (log : Log) (x : ℕ) → begins_at (notes_of log) (marks_of log) ≡ true → oldest (saves_of log) x ≡ first_note (notes_of log) x
unfolding saves_of
oldest_is log x b = oldest_by (notes_of log) (marks_of log) x b (log_descends log)

no_length : (xs : List ℕ) → length xs ≤ 0 → xs ≡ []
no_length [] h = refl
no_length (x ∷ xs) h = absurd (omega (arith, h))

-- without a mark nothing is noted
pub unmarked : (log : Log) (word v : ℕ) → length (marks_of log) ≤ 0 → saves_of log ≡ note (saves_of log) word v
unmarked log word v h = let e = no_saves log (no_length (marks_of log) h) in e ∙ sym (ap (λ z. note z word v) e)
