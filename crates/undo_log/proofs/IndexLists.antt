-- Entries of an index, and words that a list begins with.
use Rattle.std.proofs.Common.{ℕ, ◌≡◌, ◌==◌, ◌<◌, ◌≤◌, suc, zero, cond, Option, Some, None, List, [], ◌∷◌, ◌++◌, length, take, drop, get_or, refl, ap, sym}
use Rattle.std.proofs.Common.{subst, take-append-drop, ◌∙◌, ◌⊎◌, inl, inr, ◌||◌, arith}
use Rattle.std.proofs.lemmas.List.{map-append, take-append-le}
use Rattle.std.proofs.Math.Seq.{take-append_seam}
use Rattle.std.proofs.lemmas.Option.{slice_get_within, get_or_from_slice_get, none-some}
use Rattle.std.proofs.lemmas.Bool.{eqb-true, eq-eqb, cases_Bool}
use Rattle.std.specs.List.{slice_get, list_any}
use Rattle.std.specs.Prelude.{Result, Ok, Err, OnOk, OnErr, IsOk, is_ok}
use Rattle.undo_log.specs.declared.index.Entry.{Entry}
use Rattle.undo_log.specs.declared.notes.Note.{Note}
use Rattle.undo_log.specs.Index.{last_position, words_in, IsLinked, BeginsWith}
use Rattle.undo_log.specs.Notes.{is_noted, noted_words}
use Rattle.undo_log.proofs.LastPositions.{last_push}

words_push : (es : List Entry) (e : Entry) → words_in (es ++ e ∷ []) ≡ words_in es ++ e.word ∷ []
words_push es e = map-append (λ (k : Entry). k.word) es (e ∷ [])

pub words_long : (es : List Entry) → length (words_in es) ≡ length es
words_long [] = refl
words_long (e ∷ es) = ap suc (words_long es)

got_front : (es : List Entry) (e : Entry) (i : ℕ) → i < length es → slice_get (es ++ e ∷ []) i ≡ slice_get es i
got_front [] e i h = absurd (omega (arith, h))
got_front (x ∷ xs) e zero h = refl
got_front (x ∷ xs) e (suc i) h = got_front xs e i (omega (arith, h))

got_last : (es : List Entry) (e : Entry) → slice_get (es ++ e ∷ []) (length es) ≡ Some e
got_last [] e = refl
got_last (x ∷ xs) e = got_last xs e

got_push : (es : List Entry) (e : Entry) (i : ℕ) (x : Entry) → slice_get (es ++ e ∷ []) i ≡ Some x → (slice_get es i ≡ Some x) ⊎ ((i ≡ length es) × (x ≡ e))
got_push [] e zero x h = inr (refl, sym (get_or_from_slice_get (e ∷ []) 0 x e h))
got_push [] e (suc i) x h = inl h
got_push (y ∷ ys) e zero x h = inl h
got_push (y ∷ ys) e (suc i) x h = elim (got_push ys e i x h) [
  | inl l ↦ inl l
  | inr r ↦ inr (ap suc r.0, r.1)
]

words_before : (es : List Entry) (e : Entry) (i : ℕ) → i ≤ length es → take i (words_in (es ++ e ∷ [])) ≡ take i (words_in es)
words_before es e i h = ap (take i) (words_push es e) ∙ take-append-le i (words_in es) (e.word ∷ []) (omega (arith, h, words_long es))

words_all : (es : List Entry) (e : Entry) → take (length es) (words_in (es ++ e ∷ [])) ≡ words_in es
words_all es e = ap (take (length es)) (words_push es e)
    ∙ (ap (λ n. take n (words_in es ++ e.word ∷ [])) (sym (words_long es)) ∙ take-append_seam (words_in es) (e.word ∷ []))

pub linked_push : (es : List Entry) (e : Entry) → IsLinked es → e.before ≡ last_position (words_in es) e.word → IsLinked (es ++ e ∷ [])
linked_push es e linked at position x h = elim (got_push es e position x h) [
  | inl l ↦ linked position x l ∙ ap (λ ws. last_position ws x.word) (sym (words_before es e position (omega (arith, slice_get_within es position x l))))
  | inr r ↦
      ap (λ (k : Entry). k.before) r.1 ∙ (at ∙ (ap (λ ws. last_position ws e.word) (sym (ap (λ n. take n (words_in (es ++ e ∷ []))) r.0 ∙ words_all es e))
      ∙ ap (λ (k : Entry). last_position (take position (words_in (es ++ e ∷ []))) k.word) (sym r.1)))
]

pub linked_pop : (es : List Entry) (e : Entry) → IsLinked (es ++ e ∷ []) → IsLinked es
linked_pop es e linked position x h =
    let inside : position < length es = slice_get_within es position x h in
    linked position x (got_front es e position inside ∙ h) ∙ ap (λ ws. last_position ws x.word) (words_before es e position (omega (arith, inside)))

pub linked_last : (es : List Entry) (e : Entry) → IsLinked (es ++ e ∷ []) → e.before ≡ last_position (words_in es) e.word
linked_last es e linked = linked (length es) e (got_last es e) ∙ ap (λ ws. last_position ws e.word) (words_all es e)

pub position_push : (es : List Entry) (e : Entry) (word : ℕ)
    → last_position (words_in (es ++ e ∷ [])) word ≡ cond (e.word == word) (Some (length es)) (last_position (words_in es) word)
position_push es e word = ap (λ ws. last_position ws word) (words_push es e)
    ∙ (last_push (words_in es) e.word word ∙ ap (λ n. cond (e.word == word) (Some n) (last_position (words_in es) word)) (words_long es))

pub position_last : (es : List Entry) (e : Entry) → last_position (words_in (es ++ e ∷ [])) e.word ≡ Some (length es)
position_last es e = position_push es e e.word ∙ ap (λ b. cond b (Some (length es)) (last_position (words_in es) e.word)) (eq-eqb e.word e.word refl)

-- the positions once the last entry is gone
pub position_pop : (es : List Entry) (e : Entry) (word : ℕ) → IsLinked (es ++ e ∷ [])
    → cond (e.word == word) e.before (last_position (words_in (es ++ e ∷ [])) word) ≡ last_position (words_in es) word
position_pop es e word linked = ap (cond (e.word == word) e.before) (position_push es e word) ∙ elim (cases_Bool (e.word == word)) [
  | inl same ↦ ap (λ b. cond b e.before (cond b (Some (length es)) (last_position (words_in es) word))) same
      ∙ (linked_last es e linked ∙ ap (last_position (words_in es)) (eqb-true e.word word same))
  | inr other ↦ ap (λ b. cond b e.before (cond b (Some (length es)) (last_position (words_in es) word))) other
]

pub position_pushed : (es now : List Entry) (e : Entry) (word position : ℕ) (had got : Option ℕ) → now ≡ es ++ e ∷ [] → position ≡ length es
    → had ≡ last_position (words_in es) word → got ≡ cond (e.word == word) (Some position) had → got ≡ last_position (words_in now) word
position_pushed es now e word position had got items at h g =
    g ∙ (ap (λ n. cond (e.word == word) (Some n) had) at ∙ (ap (cond (e.word == word) (Some (length es))) h
    ∙ (sym (position_push es e word) ∙ ap (λ r. last_position (words_in r) word) (sym items))))

pub position_popped : (es before : List Entry) (e : Entry) (word : ℕ) (put had got : Option ℕ) → before ≡ es ++ e ∷ [] → IsLinked before → e.before ≡ put
    → had ≡ last_position (words_in before) word → got ≡ cond (e.word == word) put had → got ≡ last_position (words_in es) word
position_popped es before e word put had got items linked is h g =
    g ∙ (ap (λ o. cond (e.word == word) o had) (sym is) ∙ (ap (cond (e.word == word) e.before) (h ∙ ap (λ r. last_position (words_in r) word) items)
    ∙ position_pop es e word (subst IsLinked items linked)))

take_all : (xs : List ℕ) → take (length xs) xs ≡ xs
take_all [] = refl
take_all (x ∷ xs) = ap (λ r. x ∷ r) (take_all xs)

same_head : (w a : ℕ) (ws bs : List ℕ) → w ∷ ws ≡ a ∷ bs → w ≡ a
same_head w a ws bs h = ap (λ l. get_or l 0 w) h

both : (w a : ℕ) (ws bs : List ℕ) → w ≡ a → ws ≡ bs → w ∷ ws ≡ a ∷ bs
both w a ws bs h t = ap (λ k. k ∷ ws) h ∙ ap (λ l. a ∷ l) t

pub begins_take : (all ws : List ℕ) (count : ℕ) → BeginsWith all ws → BeginsWith (take count all) (take count ws)
begins_take all ws zero h = refl
begins_take all [] (suc n) h = refl
begins_take [] (w ∷ ws) (suc n) h = absurd (omega (arith, ap length h))
begins_take (a ∷ bs) (w ∷ ws) (suc n) h =
    both w a (take n ws) (take (length (take n ws)) (take n bs)) (same_head w a ws (take (length ws) bs) h) (begins_take bs ws n (ap (drop 1) h))

pub begins_more : (all ws rest : List ℕ) → BeginsWith all ws → BeginsWith (all ++ rest) ws
begins_more all [] rest h = refl
begins_more [] (w ∷ ws) rest h = absurd (omega (arith, ap length h))
begins_more (a ∷ bs) (w ∷ ws) rest h =
    both w a ws (take (length ws) (bs ++ rest)) (same_head w a ws (take (length ws) bs) h) (begins_more bs ws rest (ap (drop 1) h))

-- the next word of the list
pub begins_next : (all ws : List ℕ) (x d : ℕ) → BeginsWith all ws → length ws < length all → x ≡ get_or all (length ws) d → BeginsWith all (ws ++ x ∷ [])
begins_next [] ws x d h l at = absurd (omega (arith, l))
begins_next (a ∷ bs) [] x d h l at = ap (λ k. k ∷ []) at
begins_next (a ∷ bs) (w ∷ ws) x d h l at =
    both w a (ws ++ x ∷ []) (take (length (ws ++ x ∷ [])) bs) (same_head w a ws (take (length ws) bs) h)
    (begins_next bs ws x d (ap (drop 1) h) (omega (arith, l)) at)

begins_all : (all ws : List ℕ) → BeginsWith all ws → length ws ≡ length all → ws ≡ all
begins_all all ws h l = h ∙ (ap (λ n. take n all) l ∙ take_all all)

noted_long : (notes : List Note) → length (noted_words notes) ≡ length notes
noted_long [] = refl
noted_long (n ∷ ns) = ap suc (noted_long ns)

noted_all : (notes : List Note) (ws : List ℕ) → BeginsWith (noted_words notes) ws → length ws ≡ length notes → ws ≡ noted_words notes
noted_all notes ws h l = begins_all (noted_words notes) ws h (l ∙ sym (noted_long notes))

-- a note and its word come to the end together
pub begins_push : (notes : List Note) (ws : List ℕ) (n : Note) → BeginsWith (noted_words notes) ws → length ws ≡ length notes
    → BeginsWith (noted_words (notes ++ n ∷ [])) (ws ++ n.word ∷ [])
begins_push notes ws n h l =
    let same : ws ++ n.word ∷ [] ≡ noted_words (notes ++ n ∷ []) = ap (λ r. r ++ n.word ∷ []) (noted_all notes ws h l)
    ∙ sym (map-append (λ (k : Note). k.word) notes (n ∷ [])) in
    same ∙ sym (ap (λ r. take (length r) (noted_words (notes ++ n ∷ []))) same ∙ take_all (noted_words (notes ++ n ∷ [])))

any_noted : (notes : List Note) (start word : ℕ) → list_any (λ w. w == word) (drop start (noted_words notes)) ≡ is_noted (drop start notes) word
any_noted [] zero word = refl
any_noted [] (suc s) word = refl
any_noted (n ∷ ns) zero word = ap (λ b. (n.word == word) || b) (any_noted ns zero word)
any_noted (n ∷ ns) (suc s) word = any_noted ns s word

-- what the index tells of the notes
pub noted_since : (notes : List Note) (ws : List ℕ) (start word : ℕ) → BeginsWith (noted_words notes) ws → length ws ≡ length notes
    → list_any (λ w. w == word) (drop start ws) ≡ is_noted (drop start notes) word
noted_since notes ws start word h l = ap (λ r. list_any (λ w. w == word) (drop start r)) (noted_all notes ws h l) ∙ any_noted notes start word

noted_take : (notes : List Note) (count : ℕ) → noted_words (take count notes) ≡ take count (noted_words notes)
noted_take notes zero = refl
noted_take [] (suc n) = refl
noted_take (x ∷ xs) (suc n) = ap (λ r. x.word ∷ r) (noted_take xs n)

-- both are cut
pub begins_cut : (notes : List Note) (ws : List ℕ) (count : ℕ) → BeginsWith (noted_words notes) ws → BeginsWith (noted_words (take count notes)) (take count ws)
begins_cut notes ws count h = begins_take (noted_words notes) ws count h ∙ ap (take (length (take count ws))) (sym (noted_take notes count))

-- both are cut, and other notes come behind
pub begins_then : (notes more : List Note) (ws : List ℕ) (count : ℕ) → BeginsWith (noted_words notes) ws
    → BeginsWith (noted_words (take count notes ++ more)) (take count ws)
begins_then notes more ws count h =
    begins_more (noted_words (take count notes)) (take count ws) (noted_words more) (begins_cut notes ws count h)
    ∙ ap (take (length (take count ws))) (sym (map-append (λ (k : Note). k.word) (take count notes) more))

-- the index is cut to notes that are as they were
pub begins_kept : (old new : List Note) (ws : List ℕ) (count : ℕ) → take count new ≡ take count old → BeginsWith (noted_words old) ws
    → BeginsWith (noted_words new) (take count ws)
begins_kept old new ws count same h =
    let front : BeginsWith (noted_words (take count new)) (take count ws) =
    subst (λ z. BeginsWith (noted_words z) (take count ws)) (sym same) (begins_cut old ws count h) in
    let all : noted_words (take count new) ++ noted_words (drop count new) ≡ noted_words new =
    sym (map-append (λ (k : Note). k.word) (take count new) (drop count new)) ∙ ap noted_words (take-append-drop count new) in
    subst (λ z. BeginsWith z (take count ws)) all (begins_more (noted_words (take count new)) (take count ws) (noted_words (drop count new)) front)

-- the same of equal lists
pub begins_same : {all now ws kept : List ℕ} → now ≡ all → kept ≡ ws → BeginsWith all ws → BeginsWith now kept
begins_same {all} {now} {ws} {kept} e k h = k ∙ (h ∙ (ap (λ r. take (length r) all) (sym k) ∙ ap (take (length kept)) (sym e)))

-- a result that can't be an error
pub ok_of : {A B P : Type 0} (r : Result A B) (value : Option ℕ) (position : ℕ) → OnOk r P → OnErr r (value ≡ None) → value ≡ Some position → P
ok_of (Ok a) value position ok err e = ok
ok_of (Err b) value position ok err e = absurd (none-some position (sym err ∙ e))

pub pushed : {A B X : Type 0} (r : Result A B) (more before now : List X) → IsOk r → now ≡ cond (is_ok r) more before → now ≡ more
pushed r more before now ok e = e ∙ ap (λ b. cond b more before) ok
