-- What putting back comes to.
use Rattle.std.proofs.Common.{ℕ, ◌≡◌, ◌==◌, ◌||◌, Bool, true, false, not, cond, Option, Some, None, unwrap_or, option_map, List, [], ◌∷◌, ◌++◌, refl, ap, sym}
use Rattle.std.proofs.Common.{◌∙◌, inl, inr}
use Rattle.std.proofs.Math.Path.{fun_ext}
use Rattle.std.specs.List.{find}
use Rattle.std.proofs.lemmas.Bool.{eqb-true, eqb-false, eq-eqb, ne_eqb, cases_Bool, cases_eq, or_parts, false≢true, true≢false}
use Rattle.tx_events.specs.Memory.{update}
use Rattle.undo_log.specs.declared.notes.Note.{Note}
use Rattle.undo_log.specs.Notes.{first_note, is_noted, put_back, word_back, others, noted_too, HoldsOf}
use Rattle.undo_log.proofs.NoteLists.{put_push}

abbrev pub first_by : Bool → Note → Option ℕ → Option ℕ
first_by b n rest = cond b (Some n.old) rest

pub first-cons : (n : Note) (ns : List Note) (x : ℕ) → first_note (n ∷ ns) x ≡ first_by (n.word == x) n (first_note ns x)
first-cons n ns x = elim (n.word == x) as (λ b. option_map (λ (k : Note). k.old) (cond b (Some n) (find (λ (k : Note). k.word == x) ns)) ≡ cond b (Some n.old)
    (first_note ns x)) [ true ↦ refl | false ↦ refl ]

-- a word is noted exactly where it has a first note
pub first_is : (notes : List Note) (x : ℕ) → is_noted notes x ≡ true → (v : ℕ) × (first_note notes x ≡ Some v)
first_is [] x h = absurd (false≢true h)
first_is (n ∷ ns) x h = elim (cases_Bool (n.word == x)) [
  | inl e ↦ (n.old, first-cons n ns x ∙ ap (λ b. first_by b n (first_note ns x)) e)
  | inr e ↦
      let rest : (v : ℕ) × (first_note ns x ≡ Some v) = first_is ns x (sym (ap (λ b. b || is_noted ns x) e) ∙ h) in
      (rest.0, first-cons n ns x ∙ (ap (λ b. first_by b n (first_note ns x)) e ∙ rest.1))
]

pub first_none : (notes : List Note) (x : ℕ) → is_noted notes x ≡ false → first_note notes x ≡ None
first_none [] x h = refl
first_none (n ∷ ns) x h =
    let both = or_parts (n.word == x) (is_noted ns x) h in
    first-cons n ns x ∙ (ap (λ b. first_by b n (first_note ns x)) both.0 ∙ first_none ns x both.1)

pub noted_law : (notes : List Note) (then now : ℕ → ℕ) (word : ℕ) → HoldsOf notes then → is_noted notes word ≡ true → put_back notes now word ≡ then word
noted_law notes then now word holds h =
    let first = first_is notes word h in
    ap (λ o. unwrap_or o (now word)) first.1 ∙ holds word first.0 first.1

pub untouched_law : (notes : List Note) (now : ℕ → ℕ) (word : ℕ) → is_noted notes word ≡ false → put_back notes now word ≡ now word
untouched_law notes now word h = ap (λ o. unwrap_or o (now word)) (first_none notes word h)

store_at : (notes : List Note) (memory : ℕ → ℕ) (word value x : ℕ)
    → put_back (noted_too notes word (memory word)) (update memory word value) x ≡ put_back notes memory x
store_at notes memory word value x = elim (cases_Bool (is_noted notes word)) [
  | inl e ↦
      ap (λ b. put_back (cond b notes (notes ++ record { word = word; old = memory word } ∷ [])) (update memory word value) x) e
      ∙ elim (cases_Bool (is_noted notes x)) [
        | inl k ↦ let first = first_is notes x k in ap (λ o. unwrap_or o (update memory word value x)) first.1 ∙ sym (ap (λ o. unwrap_or o (memory x)) first.1)
        | inr k ↦
            let none = first_none notes x k in
            ap (λ o. unwrap_or o (update memory word value x)) none
            ∙ (ap (λ b. cond b value (memory x)) (ne_eqb x word (λ q. true≢false (sym e ∙ (ap (is_noted notes) (sym q) ∙ k))))
            ∙ sym (ap (λ o. unwrap_or o (memory x)) none))
      ]
  | inr e ↦
      ap (λ b. put_back (cond b notes (notes ++ record { word = word; old = memory word } ∷ [])) (update memory word value) x) e
      ∙ (put_push notes (record { word = word; old = memory word }) (update memory word value) x
      ∙ ap (λ m. unwrap_or (first_note notes x) m) (elim (cases_Bool (x == word)) [
        | inl q ↦ ap (λ b. cond b (memory word) (cond (x == word) value (memory x))) q ∙ ap memory (sym (eqb-true x word q))
        | inr q ↦ ap (λ b. cond b (memory word) (cond b value (memory x))) q
      ]))
]

pub store_law : (notes : List Note) (memory : ℕ → ℕ) (word value : ℕ)
    → put_back (noted_too notes word (memory word)) (update memory word value) ≡ put_back notes memory
store_law notes memory word value = fun_ext (store_at notes memory word value)

parts_at : (older newer : List Note) (memory : ℕ → ℕ) (x : ℕ) → put_back (older ++ newer) memory x ≡ put_back older (put_back newer memory) x
parts_at [] newer memory x = refl
parts_at (n ∷ ns) newer memory x =
    ap (λ o. unwrap_or o (memory x)) (first-cons n (ns ++ newer) x)
    ∙ (elim (n.word == x) as (λ b. unwrap_or (first_by b n (first_note (ns ++ newer) x)) (memory x) ≡ unwrap_or (first_by b n (first_note ns x))
    (put_back newer memory x)) [
      | true ↦ refl
      | false ↦ parts_at ns newer memory x
    ]
    ∙ sym (ap (λ o. unwrap_or o (put_back newer memory x)) (first-cons n ns x)))

pub parts_law : (older newer : List Note) (memory : ℕ → ℕ) → put_back (older ++ newer) memory ≡ put_back older (put_back newer memory)
parts_law older newer memory = fun_ext (parts_at older newer memory)

-- the notes of all other words note the word no more, and the others as before
pub first_others : (notes : List Note) (word x : ℕ) → first_note (others word notes) x ≡ cond (word == x) None (first_note notes x)
first_others [] word x = elim (word == x) as (λ b. ◌≡◌ {A = Option ℕ} None (cond b None None)) [ true ↦ refl | false ↦ refl ]
first_others (n ∷ ns) word x = elim (cases_Bool (n.word == word)) [
  | inl e ↦
      ap (λ b. first_note (cond (not b) (n ∷ others word ns) (others word ns)) x) e
      ∙ (first_others ns word x ∙ elim (cases_Bool (word == x)) [
        | inl q ↦ ap (λ b. cond b None (first_note ns x)) q ∙ sym (ap (λ b. cond b None (first_note (n ∷ ns) x)) q)
        | inr q ↦ ap (λ b. cond b None (first_note ns x)) q
            ∙ sym (ap (λ b. cond b None (first_note (n ∷ ns) x)) q ∙
            (first-cons n ns x ∙ ap (λ b. first_by b n (first_note ns x)) (ap (λ a. a == x) (eqb-true n.word word e) ∙ q)))
      ])
  | inr e ↦
      ap (λ b. first_note (cond (not b) (n ∷ others word ns) (others word ns)) x) e
      ∙ (first-cons n (others word ns) x ∙ (ap (first_by (n.word == x) n) (first_others ns word x) ∙ elim (cases_Bool (word == x)) [
        | inl q ↦
            let other : (n.word == x) ≡ false = ne_eqb n.word x (λ z. eqb-false n.word word e (z ∙ sym (eqb-true word x q))) in
            ap (λ b. first_by b n (cond (word == x) None (first_note ns x))) other
            ∙ (ap (λ b. cond b None (first_note ns x)) q ∙ sym (ap (λ b. cond b None (first_note (n ∷ ns) x)) q))
        | inr q ↦ ap (λ b. first_by (n.word == x) n (cond b None (first_note ns x))) q
            ∙ (sym (first-cons n ns x) ∙ sym (ap (λ b. cond b None (first_note (n ∷ ns) x)) q))
      ]))
]

back_at : (o : Option ℕ) (word x : ℕ) (memory : ℕ → ℕ) → (x == word) ≡ true → word_back o word memory x ≡ unwrap_or o (memory x)
back_at None word x memory e = refl
back_at (Some v) word x memory e = ap (λ b. cond b v (memory x)) e

back_other : (o : Option ℕ) (word x : ℕ) (memory : ℕ → ℕ) → (x == word) ≡ false → word_back o word memory x ≡ memory x
back_other None word x memory e = refl
back_other (Some v) word x memory e = ap (λ b. cond b v (memory x)) e

by_word_at : (notes : List Note) (memory : ℕ → ℕ) (word x : ℕ)
    → put_back (others word notes) (word_back (first_note notes word) word memory) x ≡ put_back notes memory x
by_word_at notes memory word x = ap (λ o. unwrap_or o (word_back (first_note notes word) word memory x)) (first_others notes word x) ∙ elim (cases_eq word x) [
  | inl e ↦
      ap (λ b. unwrap_or (cond b None (first_note notes x)) (word_back (first_note notes word) word memory x)) (eq-eqb word x e)
      ∙ (back_at (first_note notes word) word x memory (eq-eqb x word (sym e)) ∙ ap (λ w. unwrap_or (first_note notes w) (memory x)) e)
  | inr d ↦
      ap (λ b. unwrap_or (cond b None (first_note notes x)) (word_back (first_note notes word) word memory x)) (ne_eqb word x d)
      ∙ ap (unwrap_or (first_note notes x)) (back_other (first_note notes word) word x memory (ne_eqb x word (λ e. d (sym e))))
]

pub by_word_law : (notes : List Note) (memory : ℕ → ℕ) (word : ℕ)
    → put_back (others word notes) (word_back (first_note notes word) word memory) ≡ put_back notes memory
by_word_law notes memory word = fun_ext (by_word_at notes memory word)
