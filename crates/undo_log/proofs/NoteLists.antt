-- Lists of notes and of marks.
use Rattle.std.proofs.Common.{ℕ, ◌≡◌, ◌==◌, ◌<◌, ◌≤◌, ◌+◌, ◌-◌, suc, zero, true, false, not, cond, Some, None, unwrap_or, option_map, List, [], ◌∷◌, ◌++◌}
use Rattle.std.proofs.Common.{length, take, drop, map, get_or, refl, ap, sym, ◌∙◌, inl, inr, append_assoc, append-nil, add-one, drop-cons, length-drop, arith}
use Rattle.std.proofs.Math.ListN.{set, length-set}
use Rattle.std.proofs.Math.Path.{fun_ext}
use Rattle.std.specs.List.{find}
use Rattle.std.proofs.lemmas.Bool.{eqb-true, eq-eqb, ne_eqb, cases_eq, and_parts, or_cases, false≢true}
use Rattle.std.proofs.lemmas.List.Recursion.{and_at}
use Rattle.std.proofs.lemmas.List.{get_or-set_other}
use Rattle.std.proofs.lemmas.List.Edits.{map_over_more}
use Rattle.tx_events.specs.Memory.{MemoryLayout, can_access, update}
use Rattle.undo_log.specs.declared.notes.Note.{Note}
use Rattle.undo_log.specs.Notes.{is_noted, put_back, others, can_put_back}

eqb_sym : (a b : ℕ) → (a == b) ≡ (b == a)
eqb_sym a b = elim (cases_eq a b) [
  | inl e ↦ eq-eqb a b e ∙ sym (eq-eqb b a (sym e))
  | inr d ↦ ne_eqb a b d ∙ sym (ne_eqb b a (λ e. d (sym e)))
]

pub put_push : (xs : List Note) (n : Note) (m : ℕ → ℕ) (x : ℕ) → put_back (xs ++ n ∷ []) m x ≡ put_back xs (update m n.word n.old) x
put_push [] n m x =
    elim (n.word == x) as (λ b. unwrap_or (option_map (λ (k : Note). k.old) (cond b (Some n) None)) (m x) ≡ cond b n.old (m x)) [ true ↦ refl | false ↦ refl ]
    ∙ ap (λ b. cond b n.old (m x)) (eqb_sym n.word x)
put_push (y ∷ ys) n m x = elim (y.word == x) as (λ b. unwrap_or
    (option_map (λ (k : Note). k.old) (cond b (Some y) (find (λ (k : Note). k.word == x) (ys ++ n ∷ [])))) (m x)
    ≡ unwrap_or (option_map (λ (k : Note). k.old) (cond b (Some y) (find (λ (k : Note). k.word == x) ys))) (update m n.word n.old x)) [
      | true ↦ refl
      | false ↦ put_push ys n m x
    ]

-- the newest note is put back first
pub put_back-push : (xs : List Note) (n : Note) (m : ℕ → ℕ) → put_back (xs ++ n ∷ []) m ≡ put_back xs (update m n.word n.old)
put_back-push xs n m = fun_ext (put_push xs n m)

take_set_suc : (xs : List Note) (n : ℕ) (x : Note) → n < length xs → take (suc n) (set xs n x) ≡ take n xs ++ x ∷ []
take_set_suc [] n x h = absurd (omega (arith, h))
take_set_suc (y ∷ ys) zero x h = refl
take_set_suc (y ∷ ys) (suc n) x h = ap (λ r. y ∷ r) (take_set_suc ys n x (omega (arith, h)))

drop_past : (xs : List Note) (n : ℕ) → length xs ≤ n → drop n xs ≡ []
drop_past [] zero h = refl
drop_past [] (suc n) h = refl
drop_past (x ∷ xs) zero h = absurd (omega (arith, h))
drop_past (x ∷ xs) (suc n) h = drop_past xs n (omega (arith, h))

take_set : (xs : List Note) (n : ℕ) (x : Note) → n < length xs → take (n + 1) (set xs n x) ≡ take n xs ++ x ∷ []
take_set xs n x h = ap (λ k. take k (set xs n x)) (add-one n) ∙ take_set_suc xs n x h

-- ys began as xs; from start to position the word's notes were left out, and the others moved down
pub record Removes (word start : ℕ) (xs ys : List Note) (kept position : ℕ) : Type 0 where
  pub behind : kept ≤ position
  pub within : position ≤ length xs
  pub long : length ys ≡ length xs
  pub front : take kept ys ++ others word (drop position xs) ≡ take start xs ++ others word (drop start xs)
  pub rest : (k : ℕ) (d : Note) → position ≤ k → get_or ys k d ≡ get_or xs k d

others-cons_same : (word : ℕ) (x : Note) (xs : List Note) → (x.word == word) ≡ true → others word (x ∷ xs) ≡ others word xs
others-cons_same word x xs e = ap (λ b. cond (not b) (x ∷ others word xs) (others word xs)) e

others-cons_other : (word : ℕ) (x : Note) (xs : List Note) → (x.word == word) ≡ false → others word (x ∷ xs) ≡ x ∷ others word xs
others-cons_other word x xs e = ap (λ b. cond (not b) (x ∷ others word xs) (others word xs)) e

split_at : (xs : List Note) (position : ℕ) (x : Note) → position < length xs → x ≡ get_or xs position x → drop position xs ≡ x ∷ drop (position + 1) xs
split_at xs position x l e = drop-cons xs position x l ∙ (ap (λ y. y ∷ drop (suc position) xs) (sym e) ∙ ap (λ n. x ∷ drop n xs) (sym (add-one position)))

pub removes_skip : {word start : ℕ} {xs ys : List Note} {kept position : ℕ} (x : Note) → Removes word start xs ys kept position → position < length xs
    → x ≡ get_or ys position x → (x.word ≡ word) → Removes word start xs ys kept (position + 1)
removes_skip {word} {start} {xs} {ys} {kept} {position} x h l at e = record {
  behind = omega (arith, h.behind);
  within = omega (arith, l);
  long = h.long;
  front = ap (λ r. take kept ys ++ r) (sym (ap (others word) (split_at xs position x l (at ∙ h.rest position x (omega arith))) ∙ others-cons_same word x
      (drop (position + 1) xs) (eq-eqb x.word word e))) ∙ h.front;
  rest = λ k d m. h.rest k d (omega (arith, m));
}

pub removes_keep : {word start : ℕ} {xs ys : List Note} {kept position : ℕ} (x : Note) → Removes word start xs ys kept position → position < length xs
    → x ≡ get_or ys position x → (x.word ≡ word → ⊥) → Removes word start xs (set ys kept x) (kept + 1) (position + 1)
removes_keep {word} {start} {xs} {ys} {kept} {position} x h l at e =
    let below : kept < length ys = omega (arith, h.behind, l, h.long) in
    record {
      behind = omega (arith, h.behind);
      within = omega (arith, l);
      long = length-set ys kept x ∙ h.long;
      front = ap (λ r. r ++ others word (drop (position + 1) xs)) (take_set ys kept x below)
          ∙ (append_assoc (take kept ys) (x ∷ []) (others word (drop (position + 1) xs))
          ∙ (ap (λ r. take kept ys ++ r) (sym (ap (others word) (split_at xs position x l (at ∙ h.rest position x (omega arith))) ∙ others-cons_other word x
          (drop (position + 1) xs) (ne_eqb x.word word e))) ∙ h.front));
      rest = λ k d m. get_or-set_other ys kept k x d (λ q. absurd (omega (arith, q, m, h.behind))) ∙ h.rest k d (omega (arith, m));
    }

pub removes_all : {word start : ℕ} {xs ys : List Note} {kept position : ℕ} → Removes word start xs ys kept position → length xs ≤ position
    → take kept ys ≡ take start xs ++ others word (drop start xs)
removes_all {word} {start} {xs} {ys} {kept} {position} h l = sym (append-nil (take kept ys))
    ∙ (ap (λ r. take kept ys ++ others word r) (sym (drop_past xs position l)) ∙ h.front)

-- ys began as xs; the first i are mapped
pub record Maps (f : ℕ → ℕ) (xs ys : List ℕ) (i : ℕ) : Type 0 where
  pub long : length ys ≡ length xs
  pub front : ys ≡ map f (take i xs) ++ drop i xs
  pub rest : (k d : ℕ) → i ≤ k → get_or ys k d ≡ get_or xs k d

pub maps_more : {f : ℕ → ℕ} {xs ys : List ℕ} {i : ℕ} (x : ℕ) → Maps f xs ys i → i < length xs → x ≡ get_or ys i x → Maps f xs (set ys i (f x)) (i + 1)
maps_more {f} {xs} {ys} {i} x h l at = record {
  long = length-set ys i (f x) ∙ h.long;
  front = map_over_more f xs ys i x l h.front at;
  rest = λ k d m. get_or-set_other ys i k (f x) d (λ q. absurd (omega (arith, q, m))) ∙ h.rest k d (omega (arith, m));
}

take_more_notes : (xs : List Note) (i : ℕ) (d : Note) → i < length xs → take (suc i) xs ≡ take i xs ++ get_or xs i d ∷ []
take_more_notes [] i d h = absurd (omega (arith, h))
take_more_notes (x ∷ xs) zero d h = refl
take_more_notes (x ∷ xs) (suc i) d h = ap (λ r. x ∷ r) (take_more_notes xs i d (omega (arith, h)))

-- a step of putting back, from the newest note on
pub put_back_step : (notes : List Note) (left : ℕ) (d n : Note) (before after : ℕ → ℕ) → 0 < left → left ≤ length notes → n ≡ get_or notes (left - 1) d
    → after ≡ update before n.word n.old → put_back (take (left - 1) notes) after ≡ put_back (take left notes) before
put_back_step notes zero d n before after p h at e = absurd (omega (arith, p))
put_back_step notes (suc i) d n before after p h at e =
    let same : suc i - 1 ≡ i = omega arith in
    let here : n ≡ get_or notes i d = at ∙ ap (λ k. get_or notes k d) same in
    ap (λ k. put_back (take k notes) after) same ∙ (ap (put_back (take i notes)) e ∙ (sym (put_back-push (take i notes) n before)
    ∙ ap (λ r. put_back r before) (ap (λ k. take i notes ++ k ∷ []) here ∙ sym (take_more_notes notes i d h))))

pub noted_access : (p : MemoryLayout) (notes : List Note) (w : ℕ) → is_noted notes w ≡ true → can_put_back p notes ≡ true → can_access p w 8 ≡ true
noted_access p [] w h k = absurd (false≢true h)
noted_access p (n ∷ ns) w h k =
    let all = and_parts (can_access p n.word 8) (can_put_back p ns) k in
    elim (or_cases (n.word == w) (is_noted ns w) h) [
      | inl e ↦ ap (λ a. can_access p a 8) (sym (eqb-true n.word w e)) ∙ all.0
      | inr r ↦ noted_access p ns w r all.1
    ]

pub access_at : (p : MemoryLayout) (notes : List Note) (i : ℕ) (d : Note) → i < length notes → can_put_back p notes ≡ true
    → can_access p (get_or notes i d).word 8 ≡ true
access_at p notes i d l all = and_at (can_put_back p) (λ (n : Note). can_access p n.word 8) refl (λ x ys. refl) notes i d l all

one_more : (word : ℕ) (n : Note) (xs : List Note) → length (others word xs) ≤ length (others word (n ∷ xs))
one_more word n xs = elim (not (n.word == word)) as (λ b. length (others word xs) ≤ length
    (cond b (n ∷ others word xs) (others word xs))) [ true ↦ omega arith | false ↦ omega arith ]

longer : (word : ℕ) (n : Note) (xs ys : List Note) → length (others word xs) ≤ length (others word ys)
    → length (others word (n ∷ xs)) ≤ length (others word (n ∷ ys))
longer word n xs ys h = elim (not (n.word == word)) as (λ b. length (cond b (n ∷ others word xs) (others word xs)) ≤ length
    (cond b (n ∷ others word ys) (others word ys))) [ true ↦ omega (arith, h) | false ↦ h ]

-- more notes have no fewer of other words
pub others_below : (word : ℕ) (notes : List Note) (a b : ℕ) → a ≤ b → length (others word (take a notes)) ≤ length (others word (take b notes))
others_below word notes zero b h = omega arith
others_below word [] (suc a) b h = omega arith
others_below word (n ∷ ns) (suc a) zero h = absurd (omega (arith, h))
others_below word (n ∷ ns) (suc a) (suc b) h = longer word n (take a ns) (take b ns) (others_below word ns a b (omega (arith, h)))

pub others_within : (word : ℕ) (notes : List Note) (a : ℕ) → length (others word (take a notes)) ≤ length (others word notes)
others_within word notes zero = omega arith
others_within word [] (suc a) = omega arith
others_within word (n ∷ ns) (suc a) = longer word n (take a ns) ns (others_within word ns a)

pub index-map : (f : ℕ → ℕ) (xs : List ℕ) (i : ℕ) → i < length xs → get_or (map f xs) i 0 ≡ f (get_or xs i 0)
index-map f [] i h = absurd (omega (arith, h))
index-map f (x ∷ xs) zero h = refl
index-map f (x ∷ xs) (suc i) h = index-map f xs i (omega (arith, h))

abbrev pub moved_to : ℕ → List Note → ℕ → ℕ
moved_to word notes mark = length (others word (take mark notes))

length_map : (f : ℕ → ℕ) (xs : List ℕ) → length (map f xs) ≡ length xs
length_map f [] = refl
length_map f (x ∷ xs) = omega (arith, length_map f xs)

pub marks_within : (word : ℕ) (notes : List Note) (marks : List ℕ) (i : ℕ) → i < length (map (moved_to word notes) marks)
    → get_or (map (moved_to word notes) marks) i 0 ≤ length (others word notes)
marks_within word notes marks i h =
    omega (
      arith,
      index-map (moved_to word notes) marks i (omega (arith, h, length_map (moved_to word notes) marks)),
      others_within word notes
          (get_or marks i 0),
    )

pub marks_ascending : (word : ℕ) (notes : List Note) (marks : List ℕ) → ((i j : ℕ) → i ≤ j → j < length marks → get_or marks i 0 ≤ get_or marks j 0) → (i j : ℕ)
    → i ≤ j → j < length (map (moved_to word notes) marks) → get_or (map (moved_to word notes) marks) i 0 ≤ get_or (map (moved_to word notes) marks) j 0
marks_ascending word notes marks up i j l h =
    let last : j < length marks = omega (arith, h, length_map (moved_to word notes) marks) in
    omega (
      arith,
      index-map (moved_to word notes) marks i (omega (arith, l, last)),
      index-map (moved_to word notes) marks j last,
      others_below word notes
          (get_or marks i 0) (get_or marks j 0) (up i j l last),
    )

take_past : (xs : List Note) (n : ℕ) → length xs ≤ n → take n xs ≡ xs
take_past [] zero h = refl
take_past [] (suc n) h = refl
take_past (x ∷ xs) zero h = absurd (omega (arith, h))
take_past (x ∷ xs) (suc n) h = ap (λ r. x ∷ r) (take_past xs n (omega (arith, h)))

-- the range from a position to the end
pub from_position : (xs : List Note) (n : ℕ) → take (length xs - n) (drop n xs) ≡ drop n xs
from_position xs n = take_past (drop n xs) (length xs - n) (omega (arith, length-drop n xs))

mark_at : (marks : List ℕ) (n i : ℕ) → i < length (take n marks) → get_or (take n marks) i 0 ≡ get_or marks i 0
mark_at marks zero i h = absurd (omega (arith, h))
mark_at [] (suc n) i h = absurd (omega (arith, h))
mark_at (m ∷ ms) (suc n) zero h = refl
mark_at (m ∷ ms) (suc n) (suc i) h = mark_at ms n i (omega (arith, h))

fewer : (marks : List ℕ) (n : ℕ) → length (take n marks) ≤ length marks
fewer marks zero = omega arith
fewer [] (suc n) = omega arith
fewer (m ∷ ms) (suc n) = omega (arith, fewer ms n)

-- the oldest marks ascend as all do
pub ascending_cut : (marks : List ℕ) (n : ℕ) → ((i j : ℕ) → i ≤ j → j < length marks → get_or marks i 0 ≤ get_or marks j 0) → (i j : ℕ) → i ≤ j
    → j < length (take n marks) → get_or (take n marks) i 0 ≤ get_or (take n marks) j 0
ascending_cut marks n up i j l h =
    omega (arith, mark_at marks n i (omega (arith, l, h)), mark_at marks n j h, up i j l (omega (arith, h, fewer marks n)))
