-- Memories by words, after a write of one word.
use Rattle.std.proofs.Common.{ℕ, ◌≡◌, ◌==◌, ◌<◌, ◌+◌, ◌*◌, ◌/◌, ◌%◌, ◌^◌, replicate, zero, suc, true, false, cond, Option, Some, None, List, length, get_or}
use Rattle.std.proofs.Common.{refl, ap, sym, ◌∙◌, inl, inr, arith}
use Rattle.std.specs.Prelude.{slice_index}
use Rattle.std.proofs.Math.ListN.{set}
use Rattle.std.proofs.Math.Path.{fun_ext}
use Rattle.std.proofs.lemmas.Bool.{eqb-true, eqb-false, eq-eqb, cases_Bool}
use Rattle.std.proofs.lemmas.List.{get_or-set_same, get_or-set_other, get_or_read}
use Rattle.tx_events.specs.Memory.{MemoryLayout, word_of, update, load, store, read_at, merge, no_bytes}
use Rattle.tx_memory.specs.Words.{slot_of, word_in, memory_in, word_count}
use Rattle.tx_memory.proofs.WordSlots.{slot_within, one_word, slot_of_word, word_of_whole}

-- the number of the word that holds a byte
pub word_there : (p : MemoryLayout) (words : List ℕ) (a slot : ℕ) → slot_of p a ≡ Some slot → memory_in p words (word_of a) ≡ slice_index words slot
word_there p words a slot e =
    ap (λ b. cond b (word_in words (slot_of p (word_of a))) 0) (eq-eqb (word_of a % 8) 0 (word_of_whole a))
    ∙ ap (word_in words) (slot_of_word p a ∙ e)

other_slot : (words : List ℕ) (slot v : ℕ) (o : Option ℕ) → (o ≡ Some slot → ⊥) → word_in (set words slot v) o ≡ word_in words o
other_slot words slot v None d = refl
other_slot words slot v (Some i) d = get_or-set_other words slot i v 0 (λ e. d (ap Some e))

word_set : (p : MemoryLayout) (words : List ℕ) (a slot v : ℕ) → p.globals % 8 ≡ 0 → length words ≡ word_count p → slot_of p a ≡ Some slot → (x : ℕ)
    → memory_in p (set words slot v) x ≡ update (memory_in p words) (word_of a) v x
word_set p words a slot v w l e x = elim (cases_Bool (x == word_of a)) [
  | inl q ↦
      let within : slot < length words = omega (arith, l, slot_within p a slot w e) in
      ap (memory_in p (set words slot v)) (eqb-true x (word_of a) q)
      ∙ (word_there p (set words slot v) a slot e ∙ (get_or-set_same words slot v 0 within ∙ sym (ap (λ b. cond b v (memory_in p words x)) q)))
  | inr q ↦
      elim (cases_Bool (x % 8 == 0)) [
        | inl k ↦
            let whole : x % 8 ≡ 0 = eqb-true (x % 8) 0 k in
            ap (λ b. cond b (word_in (set words slot v) (slot_of p x)) 0) k
            ∙ (other_slot words slot v (slot_of p x) (λ f. eqb-false x (word_of a) q
            (one_word p x (word_of a) slot w whole (word_of_whole a) f (slot_of_word p a ∙ e)))
            ∙ sym (ap (λ b. cond b (word_in words (slot_of p x)) 0) k))
        | inr k ↦ ap (λ b. cond b (word_in (set words slot v) (slot_of p x)) 0) k ∙ sym (ap (λ b. cond b (word_in words (slot_of p x)) 0) k)
      ]
      ∙ sym (ap (λ b. cond b v (memory_in p words x)) q)
]

pub memory_set : (p : MemoryLayout) (words : List ℕ) (a slot v : ℕ) → p.globals % 8 ≡ 0 → length words ≡ word_count p → slot_of p a ≡ Some slot
    → memory_in p (set words slot v) ≡ update (memory_in p words) (word_of a) v
memory_set p words a slot v w l e = fun_ext (word_set p words a slot v w l e)

-- what a load and a store do, from the word that was read
pub loaded : (p : MemoryLayout) (words : List ℕ) (a size slot w s n r : ℕ) → slot_of p a ≡ Some slot → slot < length words → w ≡ get_or words slot w
    → s ≡ 8 * (a % 8) → n ≡ 8 * size → r ≡ w / 2 ^ s % 2 ^ n → r ≡ load (memory_in p words) a size
unfolding read_at
loaded p words a size slot w s n r e within here shift count is =
    let number : w ≡ memory_in p words (word_of a) = get_or_read words slot w within here 0 ∙ sym (word_there p words a slot e) in
    is ∙ (ap (λ z. w / 2 ^ z % 2 ^ n) shift ∙ (ap (λ z. w / 2 ^ (8 * (a % 8)) % 2 ^ z) count ∙ ap (read_at a size) number))

pub stored : (p : MemoryLayout) (words : List ℕ) (a size value slot w s n v : ℕ) → p.globals % 8 ≡ 0 → length words ≡ word_count p → slot_of p a ≡ Some slot
    → slot < length words → w ≡ get_or words slot w → s ≡ 8 * (a % 8) → n ≡ 8 * size → v ≡ w / 2 ^ (s + n) * 2 ^ (s + n) + value * 2 ^ s + w % 2 ^ s
    → memory_in p (set words slot v) ≡ store (memory_in p words) a size value
unfolding merge
stored p words a size value slot w s n v whole l e within here shift count is =
    let number : w ≡ memory_in p words (word_of a) = get_or_read words slot w within here 0 ∙ sym (word_there p words a slot e) in
    let merged : v ≡ merge a size value (memory_in p words (word_of a)) = is
    ∙ (ap (λ z. w / 2 ^ (z + n) * 2 ^ (z + n) + value * 2 ^ z + w % 2 ^ z) shift
    ∙ (ap (λ z. w / 2 ^ (8 * (a % 8) + z) * 2 ^ (8 * (a % 8) + z) + value * 2 ^ (8 * (a % 8)) + w % 2 ^ (8 * (a % 8))) count
    ∙ ap (merge a size value) number)) in
    memory_set p words a slot v whole l e ∙ ap (update (memory_in p words) (word_of a)) merged

zero_word : (n i : ℕ) → slice_index (replicate n 0) i ≡ 0
zero_word zero i = refl
zero_word (suc n) zero = refl
zero_word (suc n) (suc i) = zero_word n i

zero_words : (n : ℕ) (o : Option ℕ) → word_in (replicate n 0) o ≡ 0
zero_words n None = refl
zero_words n (Some i) = zero_word n i

-- zero words are no bytes
pub zero_memory : (p : MemoryLayout) (n : ℕ) → memory_in p (replicate n 0) ≡ no_bytes
zero_memory p n = fun_ext (λ x. elim (x % 8 == 0) as (λ b. cond b (word_in (replicate n 0) (slot_of p x)) 0 ≡ 0) [
  | true ↦ zero_words n
      (slot_of p x)
  | false ↦ refl
])

-- a word is named by its own address
pub own_address : (a : ℕ) → a % 8 ≡ 0 → word_of a ≡ a
unfolding word_of
own_address a h = omega (arith, h)

pub own_word : (p : MemoryLayout) (words : List ℕ) (a slot w : ℕ) → a % 8 ≡ 0 → slot_of p a ≡ Some slot → slot < length words → w ≡ get_or words slot w
    → w ≡ memory_in p words a
own_word p words a slot w h e within here = get_or_read words slot w within here 0
    ∙ (sym (word_there p words a slot e) ∙ ap (memory_in p words) (own_address a h))
