-- Savepoints by lists of notes and of marks.
use Rattle.std.proofs.Common.{ℕ, ◌≡◌, ◌==◌, ◌≤◌, true, false, not, cond, Option, Some, None, List, [], ◌∷◌, ◌++◌, length, take, drop, map, refl, ap, sym, ◌∙◌}
use Rattle.std.proofs.Common.{subst, inl, inr, arith}
use Rattle.std.proofs.Math.Path.{fun_ext}
use Rattle.std.proofs.Math.Seq.{take-length, drop-length}
use Rattle.std.proofs.lemmas.List.{take-append-drop, take-append-le, drop-append-le, take_at, drop_at, length-take-le}
use Rattle.std.proofs.lemmas.Bool.{eqb-true, eqb-false, eq-eqb, ne_eqb, cases_Bool}
use Rattle.tx_events.specs.Memory.{update}
use Rattle.undo_log.specs.declared.notes.Note.{Note}
use Rattle.undo_log.specs.Notes.{first_note, is_noted, others}
use Rattle.undo_log.proofs.NoteLists.{moved_to}
use Rattle.undo_log.proofs.PutBack.{first_by, first-cons, first_is, first_none, first_others}
use Rattle.tx_serial.specs.Machine.{no_save, kept_or, or_else, oldest, forget, forget_all, hand, note}
use Rattle.tx_runtime.specs.Saves.{saves_by}

or_none : (o : Option ℕ) → or_else o None ≡ o
or_none None = refl
or_none (Some v) = refl

pub first_append : (a b : List Note) (x : ℕ) → first_note (a ++ b) x ≡ or_else (first_note a x) (first_note b x)
first_append [] b x = refl
first_append (n ∷ ns) b x =
    first-cons n (ns ++ b) x
    ∙ (elim (n.word == x) as (λ c. first_by c n (first_note (ns ++ b) x) ≡ or_else (first_by c n (first_note ns x)) (first_note b x)) [
      | true ↦ refl
      | false ↦ first_append ns b x
    ]
    ∙ ap (λ o. or_else o (first_note b x)) (sym (first-cons n ns x)))

eqb_turned : (a b : ℕ) → (a == b) ≡ (b == a)
eqb_turned a b = elim (cases_Bool (a == b)) [
  | inl e ↦ e ∙ sym (eq-eqb b a (sym (eqb-true a b e)))
  | inr e ↦ e ∙ sym (ne_eqb b a (λ q. eqb-false a b e (sym q)))
]

-- a mark at the end

pub saves_marked : (notes : List Note) (r : List ℕ) → saves_by notes (length notes ∷ r) ≡ no_save ∷ saves_by notes r
saves_marked notes r = ap (λ ns. first_note ns ∷ saves_by (take (length notes) notes) r) (drop-length notes)
    ∙ ap (λ ns. no_save ∷ saves_by ns r) (take-length notes)

-- a note at the end

one_note : (word old x : ℕ) → first_note (record { word = word; old = old } ∷ []) x ≡ cond (x == word) (Some old) None
one_note word old x = first-cons (record { word = word; old = old }) [] x ∙ ap (λ b. cond b (Some old) None) (eqb_turned word x)

noted_new : (ns : List Note) (word old : ℕ) → is_noted ns word ≡ false
    → first_note (ns ++ record { word = word; old = old } ∷ []) ≡ update (first_note ns) word (Some (kept_or (first_note ns word) old))
noted_new ns word old e = fun_ext (λ x.
    first_append ns (record { word = word; old = old } ∷ []) x
    ∙ (ap (or_else (first_note ns x)) (one_note word old x)
    ∙ elim (x == word) as (λ b. (x == word) ≡ b → or_else (first_note ns x) (cond b (Some old) None) ≡ cond b (Some (kept_or (first_note ns word) old))
    (first_note ns x)) [
      | true ↦ λ q. ap (λ o. or_else o (Some old)) (ap (first_note ns) (eqb-true x word q) ∙ first_none ns word e)
          ∙ ap (λ o. Some (kept_or o old)) (sym (first_none ns word e))
      | false ↦ λ q. or_none (first_note ns x)
    ] refl))

noted_old : (ns : List Note) (word old : ℕ) → is_noted ns word ≡ true → first_note ns ≡ update (first_note ns) word (Some (kept_or (first_note ns word) old))
noted_old ns word old e =
    let is : (v : ℕ) × (first_note ns word ≡ Some v) = first_is ns word e in
    fun_ext (λ x. elim (x == word) as (λ b. (x == word) ≡ b → first_note ns x ≡ cond b (Some (kept_or (first_note ns word) old)) (first_note ns x)) [
      | true ↦ λ q. ap (first_note ns) (eqb-true x word q) ∙ (is.1 ∙ ap (λ o. Some (kept_or o old)) (sym is.1))
      | false ↦ λ q. refl
    ] refl)

pub saves_noted : (notes : List Note) (m : ℕ) (ms : List ℕ) (word old : ℕ) → m ≤ length notes
    → saves_by (cond (is_noted (drop m notes) word) notes (notes ++ record { word = word; old = old } ∷ [])) (m ∷ ms) ≡ note (saves_by notes (m ∷ ms)) word old
saves_noted notes m ms word old h = elim (cases_Bool (is_noted (drop m notes) word)) [
  | inl e ↦
      ap (λ b. saves_by (cond b notes (notes ++ record { word = word; old = old } ∷ [])) (m ∷ ms)) e
      ∙ ap (λ s. s ∷ saves_by (take m notes) ms) (noted_old (drop m notes) word old e)
  | inr e ↦
      ap (λ b. saves_by (cond b notes (notes ++ record { word = word; old = old } ∷ [])) (m ∷ ms)) e
      ∙ (ap (λ ns. first_note ns ∷ saves_by (take m (notes ++ record { word = word; old = old } ∷ [])) ms)
      (drop-append-le m notes (record { word = word; old = old } ∷ []) h)
      ∙ (ap (λ ns. first_note (drop m notes ++ record { word = word; old = old } ∷ []) ∷ saves_by ns ms)
      (take-append-le m notes (record { word = word; old = old } ∷ []) h)
      ∙ ap (λ s. s ∷ saves_by (take m notes) ms) (noted_new (drop m notes) word old e)))
]

-- the newest mark dropped

pub saves_dropped : (notes : List Note) (m o : ℕ) (ms : List ℕ) → m ≤ length notes → o ≤ m
    → saves_by notes (o ∷ ms) ≡ hand (first_note (drop m notes)) (first_note (drop o (take m notes))) ∷ saves_by (take o (take m notes)) ms
saves_dropped notes m o ms h k =
    let a = take m notes in
    let b = drop m notes in
    let long : o ≤ length a = omega (arith, k, length-take-le m notes h) in
    let whole = take-append-drop m notes in
    ap (λ ns. saves_by ns (o ∷ ms)) (sym whole)
    ∙ (ap (λ ns. first_note ns ∷ saves_by (take o (a ++ b)) ms) (drop-append-le o a b long)
    ∙ (ap (λ ns. first_note (drop o a ++ b) ∷ saves_by ns ms) (take-append-le o a b long)
    ∙ ap (λ s. s ∷ saves_by (take o a) ms) (fun_ext (first_append (drop o a) b))))

-- a word forgotten

first_forgot : (ns : List Note) (word : ℕ) → first_note (others word ns) ≡ forget (first_note ns) word
first_forgot ns word = fun_ext (λ x. first_others ns word x ∙ ap (λ b. cond b None (first_note ns x)) (eqb_turned word x))

pub saves_forgot : (notes : List Note) (m : ℕ) (ms : List ℕ) (word : ℕ) → m ≤ length notes
    → saves_by (take m notes ++ others word (drop m notes)) (m ∷ ms) ≡ forget (first_note (drop m notes)) word ∷ saves_by (take m notes) ms
saves_forgot notes m ms word h =
    let long = length-take-le m notes h in
    ap (λ ns. first_note ns ∷ saves_by (take m (take m notes ++ others word (drop m notes))) ms) (drop_at (take m notes) (others word (drop m notes)) m long)
    ∙ (ap (λ ns. first_note (others word (drop m notes)) ∷ saves_by ns ms) (take_at (take m notes) (others word (drop m notes)) m long)
    ∙ ap (λ s. s ∷ saves_by (take m notes) ms) (first_forgot (drop m notes) word))

others_append : (word : ℕ) (a b : List Note) → others word (a ++ b) ≡ others word a ++ others word b
others_append word [] b = refl
others_append word (n ∷ ns) b = elim (not (n.word == word)) as (λ c. cond c (n ∷ others word (ns ++ b)) (others word (ns ++ b)) ≡ cond c (n ∷ others word ns)
    (others word ns) ++ others word b) [
      | true ↦ ap (λ r. n ∷ r) (others_append word ns b)
      | false ↦ others_append word ns b
    ]

-- each mark is at most the one before it in the list, the first at most n
abbrev pub Descends : ℕ → List ℕ → Type 0
Descends n [] = Unit {0}
Descends n (m ∷ ms) = (m ≤ n) × Descends m ms

take_short : (notes : List Note) (m o : ℕ) → m ≤ length notes → o ≤ m → take o notes ≡ take o (take m notes)
take_short notes m o h k = ap (take o) (sym (take-append-drop m notes))
    ∙ take-append-le o (take m notes) (drop m notes) (omega (arith, k, length-take-le m notes h))

moved_map : (word : ℕ) (notes : List Note) (m : ℕ) (ms : List ℕ) (n : ℕ) → m ≤ length notes → n ≤ m → Descends n ms
    → map (moved_to word notes) ms ≡ map (moved_to word (take m notes)) ms
moved_map word notes m [] n h k d = refl
moved_map word notes m (o ∷ ms) n h k d =
    ap (λ q. length (others word q) ∷ map (moved_to word notes) ms) (take_short notes m o h (omega (arith, k, d.0)))
    ∙ ap (λ r. moved_to word (take m notes) o ∷ r) (moved_map word notes m ms o h (omega (arith, k, d.0)) d.1)

pub saves_forgot_all : (notes : List Note) (r : List ℕ) (word : ℕ) → Descends (length notes) r
    → saves_by (others word notes) (map (moved_to word notes) r) ≡ forget_all (saves_by notes r) word
saves_forgot_all notes [] word d = refl
saves_forgot_all notes (m ∷ ms) word d =
    let a = take m notes in
    let b = drop m notes in
    let split : others word notes ≡ others word a ++ others word b = ap (others word) (sym (take-append-drop m notes)) ∙ others_append word a b in
    let position = length (others word a) in
    ap (λ ns. first_note (drop position ns) ∷ saves_by (take position (others word notes)) (map (moved_to word notes) ms)) split
    ∙ (ap (λ ns. first_note ns ∷ saves_by (take position (others word notes)) (map (moved_to word notes) ms))
    (drop_at (others word a) (others word b) position refl)
    ∙ (ap (λ s. s ∷ saves_by (take position (others word notes)) (map (moved_to word notes) ms)) (first_forgot b word)
    ∙ (ap (λ ns. forget (first_note b) word ∷ saves_by (take position ns) (map (moved_to word notes) ms)) split
    ∙ (ap (λ ns. forget (first_note b) word ∷ saves_by ns (map (moved_to word notes) ms)) (take_at (others word a) (others word b) position refl)
    ∙ (ap (λ q. forget (first_note b) word ∷ saves_by (others word a) q) (moved_map word notes m ms m d.0 (omega arith) d.1)
    ∙ ap (λ q. forget (first_note b) word ∷ q) (saves_forgot_all a ms word (subst (λ n. Descends n ms) (sym (length-take-le m notes d.0)) d.1)))))))

-- the last of the marks is 0
abbrev pub EndsAtZero : ℕ → List ℕ → Type 0
EndsAtZero m [] = m ≡ 0
EndsAtZero m (o ∷ ms) = EndsAtZero o ms

pub oldest_first : (notes : List Note) (m : ℕ) (ms : List ℕ) (x : ℕ) → Descends (length notes) (m ∷ ms) → EndsAtZero m ms
    → oldest (saves_by notes (m ∷ ms)) x ≡ first_note notes x
oldest_first notes m [] x d z = ap (λ n. first_note (drop n notes) x) z
oldest_first notes m (o ∷ ms) x d z =
    ap (λ q. or_else q (first_note (drop m notes) x))
    (oldest_first (take m notes) o ms x (subst (λ n. Descends n (o ∷ ms)) (sym (length-take-le m notes d.0)) d.1) z)
    ∙ (sym (first_append (take m notes) (drop m notes) x) ∙ ap (λ ns. first_note ns x) (take-append-drop m notes))
