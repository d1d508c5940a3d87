-- Putting notes back.
use Rattle.std.proofs.Common.{◌≡◌, ◌≤◌, ◌-◌, ◌==◌, ℕ, zero, suc, Bool, true, false, cond, List, [], ◌∷◌, ◌++◌, map, length, drop, take, refl, sym, ap, ◌∙◌}
use Rattle.std.proofs.Common.{subst, arith, eqb-true}
use Rattle.std.specs.Prelude.{reverse, nat_le}
use Rattle.std.specs.Cmp.Derive.{both_true}
use Rattle.std.proofs.Math.Path.{fun_ext}
use Rattle.std.proofs.lemmas.Bool.{and_parts, leb-true, le-leb}
use Rattle.std.proofs.lemmas.List.{reverse-append, take-append-drop, length-take-le}
use Rattle.std.proofs.lemmas.List.Folds.{list_all-append}
use Rattle.tx_events.specs.Memory.{MemoryLayout, update, store, word_of, can_access}
use Rattle.src_replay.specs.declared.nested.Note.{Note}
use Rattle.src_replay.specs.declared.nested.Nested.{Nested}
use Rattle.src_replay.specs.Undone.{undo, undone, copies, are_words, are_falling, AreNotes, IsNested, Ended, Cancelled}

-- notes in two parts, the newer put back first
undo_append : (xs ys : List Note) (m : ℕ → ℕ) → undo (xs ++ ys) m ≡ undo xs (undo ys m)
undo_append [] ys m = refl
undo_append (n ∷ ns) ys m = ap (λ (z : ℕ → ℕ). update z n.word n.old) (undo_append ns ys m)

same_by : (b : Bool) (m : ℕ → ℕ) (v w x : ℕ) → (b ≡ true → x ≡ w) → cond b (m w) (cond b v (m x)) ≡ m x
same_by true m v w x h = ap m (sym (h refl))
same_by false m v w x h = refl

-- a word that was stored to, put back
put_same : (m : ℕ → ℕ) (w v : ℕ) → update (update m w v) w (m w) ≡ m
put_same m w v = fun_ext (λ (x : ℕ). same_by (x == w) m v w x (eqb-true x w))

drop_front : {X : Type 0} (k : ℕ) (xs ys : List X) → k ≤ length xs → drop k (xs ++ ys) ≡ drop k xs ++ ys
drop_front zero xs ys h = refl
drop_front (suc k) [] ys h = absurd (omega (arith, h))
drop_front (suc k) (x ∷ xs) ys h = drop_front k xs ys (omega (arith, h))

drop_parts : {X : Type 0} (k mark : ℕ) (xs : List X) → k ≤ mark → drop k (take mark xs) ++ drop mark xs ≡ drop k xs
drop_parts zero mark xs h = take-append-drop mark xs
drop_parts (suc k) zero xs h = absurd (omega (arith, h))
drop_parts (suc k) (suc mark) [] h = refl
drop_parts (suc k) (suc mark) (x ∷ xs) h = drop_parts k mark xs (omega (arith, h))

drop_whole : {X : Type 0} (xs : List X) → drop (length xs) xs ≡ []
drop_whole [] = refl
drop_whole (x ∷ xs) = drop_whole xs

-- a note of what a store wrote over makes it of no account
noted : (notes : List Note) (m : ℕ → ℕ) (addr size value k : ℕ) → k ≤ length notes
    → undone (notes ++ record { word = word_of addr; old = m (word_of addr) } ∷ []) k (store m addr size value) ≡ undone notes k m
noted notes m addr size value k h =
    let n : Note = record { word = word_of addr; old = m (word_of addr) } in
    ap (λ (z : List Note). undo z (store m addr size value)) (drop_front k notes (n ∷ []) h) ∙ undo_append (drop k notes) (n ∷ []) (store m addr size value)
    ∙ ap (undo (drop k notes)) (put_same m (word_of addr) _)

noted_each : (notes : List Note) (m : ℕ → ℕ) (addr size value most : ℕ) (ks : List ℕ) → most ≤ length notes → are_falling most ks ≡ true
    → map (λ (k : ℕ). undone (notes ++ record { word = word_of addr; old = m (word_of addr) } ∷ []) k (store m addr size value)) ks
    ≡ map (λ (k : ℕ). undone notes k m) ks
noted_each notes m addr size value most [] h f = refl
noted_each notes m addr size value most (k ∷ ks) h f =
    let p = and_parts (nat_le k most) (are_falling k ks) f in
    let l : k ≤ most = leb-true k most p.0 in
    ap (λ (z : ℕ → ℕ). z ∷ map (λ (k : ℕ). undone (notes ++ record { word = word_of addr; old = m (word_of addr) } ∷ []) k (store m addr size value)) ks)
    (noted notes m addr size value k (omega (arith, l, h)))
    ∙ ap (λ (z : List (ℕ → ℕ)). undone notes k m ∷ z) (noted_each notes m addr size value k ks (omega (arith, l, h)) p.1)

-- what was put back to a mark, put back further
back_twice : (notes : List Note) (m : ℕ → ℕ) (mark k : ℕ) → k ≤ mark → undone (take mark notes) k (undone notes mark m) ≡ undone notes k m
back_twice notes m mark k h = sym (undo_append (drop k (take mark notes)) (drop mark notes) m) ∙ ap (λ (z : List Note). undo z m) (drop_parts k mark notes h)

back_each : (notes : List Note) (m : ℕ → ℕ) (mark most : ℕ) (ks : List ℕ) → most ≤ mark → are_falling most ks ≡ true
    → map (λ (k : ℕ). undone (take mark notes) k (undone notes mark m)) ks ≡ map (λ (k : ℕ). undone notes k m) ks
back_each notes m mark most [] h f = refl
back_each notes m mark most (k ∷ ks) h f =
    let p = and_parts (nat_le k most) (are_falling k ks) f in
    let l : k ≤ most = leb-true k most p.0 in
    ap (λ (z : ℕ → ℕ). z ∷ map (λ (k : ℕ). undone (take mark notes) k (undone notes mark m)) ks) (back_twice notes m mark k (omega (arith, l, h)))
    ∙ ap (λ (z : List (ℕ → ℕ)). undone notes k m ∷ z) (back_each notes m mark k ks (omega (arith, l, h)) p.1)

falls_more : (most more : ℕ) (ks : List ℕ) → most ≤ more → are_falling most ks ≡ true → are_falling more ks ≡ true
falls_more most more [] h f = refl
falls_more most more (k ∷ ks) h f =
    let p = and_parts (nat_le k most) (are_falling k ks) f in
    let l : k ≤ most = leb-true k most p.0 in
    both_true (le-leb k more (omega (arith, l, h))) p.1

length_more : (notes : List Note) (n : Note) → length notes ≤ length (notes ++ n ∷ [])
length_more [] n = omega arith
length_more (x ∷ xs) n = let h = length_more xs n in omega (arith, h)

pub words_front : (p : MemoryLayout) (k : ℕ) (notes : List Note) → are_words p notes ≡ true → are_words p (take k notes) ≡ true
words_front p zero notes h = refl
words_front p (suc k) [] h = refl
words_front p (suc k) (n ∷ ns) h = let q = and_parts (can_access p n.word 8) (are_words p ns) h in both_true q.0 (words_front p k ns q.1)

take_short : (j k : ℕ) (xs : List Note) → j ≤ k → take j (take k xs) ≡ take j xs
take_short zero k xs h = refl
take_short (suc j) zero xs h = absurd (omega (arith, h))
take_short (suc j) (suc k) [] h = refl
take_short (suc j) (suc k) (x ∷ xs) h = ap (λ (z : List Note). x ∷ z) (take_short j k xs (omega (arith, h)))

-- one note more is put back
pub put_one : (all notes new : List Note) (start m after : ℕ → ℕ) (k j : ℕ) → k ≡ suc j → k ≤ length all → notes ≡ take k all → m ≡ undone all k start
    → new ≡ take (length notes - 1) notes → after ≡ undone notes (length notes - 1) m
    → (new ≡ take j all) × (after ≡ undone all j start)
put_one all notes new start m after k j s h e f g w =
    let n : length notes ≡ k = ap length e ∙ length-take-le k all h in
    let l : length notes - 1 ≡ j = omega (arith, n, s) in
    let below : j ≤ k = omega (arith, s) in (
      g ∙ ap (λ (z : ℕ). take z notes) l ∙ ap (λ (z : List Note). take j z) e ∙ take_short j k all below,
      w ∙ ap (λ (z : ℕ). undone notes z m) l ∙ ap (λ (z : List Note). undone z j m) e ∙ ap (undone (take k all) j) f ∙ back_twice all start k j below,
    )

reversed : (ks : List ℕ) (k : ℕ) → reverse (ks ++ k ∷ []) ≡ k ∷ reverse ks
reversed ks k = reverse-append ks (k ∷ [])

module _ (p : MemoryLayout) where
  -- one note more, of a mapped word
  pub more_notes : (notes new : List Note) (marks after : List ℕ) (word old : ℕ) → can_access p word 8 ≡ true
      → new ≡ notes ++ record { word = word; old = old } ∷ [] → after ≡ marks → AreNotes p notes marks → AreNotes p new after
  more_notes notes new marks after word old h e f a =
      let n : Note = record { word = word; old = old } in
      record {
        words = ap (are_words p) e ∙ list_all-append (λ (n : Note). can_access p n.word 8) notes (n ∷ []) ∙ both_true a.words (both_true h refl);
        marks = ap (λ (z : List ℕ). are_falling (length new) (reverse z)) f
            ∙ falls_more (length notes) (length new) (reverse marks) (subst (λ (z : List Note). length notes ≤ length z) (sym e) (length_more notes n)) a.marks;
      }

  -- nothing was noted, and no block began or was left
  pub same_nested : (old new : Nested) → new.notes.items ≡ old.notes.items → new.marks.items ≡ old.marks.items → IsNested p old → IsNested p new
  same_nested old new e f a = subst (λ (z : List Note). AreNotes p z new.marks.items) (sym e) (subst (λ (z : List ℕ). AreNotes p old.notes.items z) (sym f) a)

  -- a block begins
  pub begun : (notes new : List Note) (marks after : List ℕ) → new ≡ notes → after ≡ marks ++ length notes ∷ [] → AreNotes p notes marks → AreNotes p new after
  begun notes new marks after e f a = record {
    words = ap (are_words p) e ∙ a.words;
    marks = ap (λ (z : List ℕ). are_falling (length new) (reverse z)) f ∙ ap (are_falling (length new)) (reversed marks (length notes))
        ∙ ap (λ (z : List Note). are_falling (length z) (length notes ∷ reverse marks)) e
        ∙ both_true (le-leb (length notes) (length notes) (omega arith)) a.marks;
  }

  pub first_block : (n : Nested) (before : List ℕ) → n.notes.items ≡ [] → before ≡ [] → n.marks.items ≡ before ++ 0 ∷ [] → IsNested p n
  first_block n before e g f = begun [] n.notes.items [] n.marks.items e (f ∙ ap (λ (z : List ℕ). z ++ 0 ∷ []) g) (record { words = refl; marks = refl })

  falling_parts : (most k : ℕ) (ks : List ℕ) → are_falling most (k ∷ ks) ≡ true → (k ≤ most) × (are_falling k ks ≡ true)
  falling_parts most k ks f = let q = and_parts (nat_le k most) (are_falling k ks) f in (leb-true k most q.0, q.1)

  pub marks_in : (notes : List Note) (marks ks : List ℕ) (k : ℕ) → marks ≡ ks ++ k ∷ [] → AreNotes p notes marks → (k ≤ length notes)
      × (are_falling k (reverse ks) ≡ true)
  marks_in notes marks ks k e a = falling_parts (length notes) k (reverse ks) (sym (ap (are_falling (length notes)) (ap reverse e ∙ reversed ks k)) ∙ a.marks)

  -- a block is left
  pub ended_nested : (old new : Nested) → Ended old new → IsNested p old → IsNested p new
  ended_nested old new d a =
      let q = marks_in old.notes.items old.marks.items new.marks.items d.mark d.marks a in
      record {
        words = ap (are_words p) d.notes ∙ a.words;
        marks = ap (λ (z : List Note). are_falling (length z) (reverse new.marks.items)) d.notes
            ∙ falls_more d.mark (length old.notes.items) (reverse new.marks.items) q.0 q.1;
      }

  pub cancelled_nested : (old new : Nested) (before after : ℕ → ℕ) → Cancelled old new before after → IsNested p old → IsNested p new
  cancelled_nested old new before after d a =
      let q = marks_in old.notes.items old.marks.items new.marks.items d.mark d.marks a in
      record {
        words = ap (are_words p) d.notes ∙ words_front p d.mark old.notes.items a.words;
        marks = ap (λ (z : List Note). are_falling (length z) (reverse new.marks.items)) d.notes
            ∙ ap (λ (z : ℕ). are_falling z (reverse new.marks.items)) (length-take-le d.mark old.notes.items q.0) ∙ q.1;
      }

  -- the copies after that
  pub ended_copies : (old new : Nested) (m : ℕ → ℕ) (d : Ended old new) → copies old m ≡ undone old.notes.items d.mark m ∷ copies new m
  ended_copies old new m d =
      ap (map (λ (k : ℕ). undone old.notes.items k m)) (ap reverse d.marks ∙ reversed new.marks.items d.mark)
      ∙ sym (ap (λ (z : List Note). undone old.notes.items d.mark m ∷ map (λ (k : ℕ). undone z k m) (reverse new.marks.items)) d.notes)

  pub cancelled_copies : (old new : Nested) (before after : ℕ → ℕ) (d : Cancelled old new before after) → IsNested p old
      → copies old before ≡ after ∷ copies new after
  cancelled_copies old new before after d a =
      let q = marks_in old.notes.items old.marks.items new.marks.items d.mark d.marks a in
      let each : copies new after ≡ map (λ (k : ℕ). undone old.notes.items k before) (reverse new.marks.items) =
      ap (λ (z : List Note). map (λ (k : ℕ). undone z k after) (reverse new.marks.items)) d.notes
      ∙ ap (λ (z : ℕ → ℕ). map (λ (k : ℕ). undone (take d.mark old.notes.items) k z) (reverse new.marks.items)) d.words
      ∙ back_each old.notes.items before d.mark d.mark (reverse new.marks.items) (omega arith) q.1 in
      ap (map (λ (k : ℕ). undone old.notes.items k before)) (ap reverse d.marks ∙ reversed new.marks.items d.mark)
      ∙ ap (λ (z : ℕ → ℕ). z ∷ map (λ (k : ℕ). undone old.notes.items k before) (reverse new.marks.items)) (sym d.words)
      ∙ ap (λ (z : List (ℕ → ℕ)). after ∷ z) (sym each)

  pub begun_copies : (old new : Nested) (m : ℕ → ℕ) → new.notes.items ≡ old.notes.items → new.marks.items ≡ old.marks.items ++ length old.notes.items ∷ []
      → copies new m ≡ m ∷ copies old m
  begun_copies old new m e f =
      ap (λ (z : List Note). map (λ (k : ℕ). undone z k m) (reverse new.marks.items)) e
      ∙ ap (map (λ (k : ℕ). undone old.notes.items k m)) (ap reverse f ∙ reversed old.marks.items (length old.notes.items))
      ∙ ap (λ (z : List Note). undo z m ∷ copies old m) (drop_whole old.notes.items)

  pub stored_copies : (old new : Nested) (m after : ℕ → ℕ) (addr size value : ℕ)
      → new.notes.items ≡ old.notes.items ++ record { word = word_of addr; old = m (word_of addr) } ∷ [] → new.marks.items ≡ old.marks.items
      → after ≡ store m addr size value → IsNested p old → copies new after ≡ copies old m
  stored_copies old new m after addr size value e f g a =
      ap (λ (z : List Note). map (λ (k : ℕ). undone z k after) (reverse new.marks.items)) e
      ∙ ap (λ (z : List ℕ). map (λ (k : ℕ). undone (old.notes.items ++ record { word = word_of addr; old = m (word_of addr) } ∷ []) k after) (reverse z)) f
      ∙ ap (λ (z : ℕ → ℕ). map (λ (k : ℕ). undone (old.notes.items ++ record { word = word_of addr; old = m (word_of addr) } ∷ []) k z)
      (reverse old.marks.items)) g
      ∙ noted_each old.notes.items m addr size value (length old.notes.items) (reverse old.marks.items) (omega arith) a.marks
