-- The two halves of a table: stripes of records, and the words that each thread holds.
use Rattle.std.specs.Prelude.{ℕ, ◌≡◌, ◌==◌, ◌<◌, ◌≤◌, ◌+◌, true, if◌then◌else◌, Option, Some, None, is_some, List, [], length, slice_get, vec_len, vec_capacity}
use Rattle.std.specs.BinaryHeap.{heap_items, heap_len, heap_capacity}
use Rattle.std.specs.List.{list_all}
use Rattle.std.specs.declared.cmp.Reverse.{Reverse}
use Rattle.own_table.specs.Records.{record_of, mode_in, stripe_of}
use Rattle.own_table.specs.Words.{times_in}
use Rattle.tx_events.specs.declared.TheConstants.{THREAD_LIMIT}
use Rattle.own_table.specs.declared.TheConstants.{STRIPES}
use Rattle.own_table.specs.declared.hold.HoldRec.{HoldRec}
use Rattle.own_table.specs.declared.hold.Mode.{Mode}
use Rattle.own_table.specs.declared.stripe.Stripe.{Stripe}
use Rattle.own_table.specs.declared.held.HeldWords.{HeldWords}

abbrev pub records_in : Option Stripe → List HoldRec
records_in None = []
records_in (Some s) = s.records.items

-- the records of stripe s
abbrev pub records_at : List Stripe → ℕ → List HoldRec
records_at stripes s = records_in (slice_get stripes s)

-- how thread t holds the word, by the records
abbrev pub hold_at : List Stripe → ℕ → ℕ → Option Mode
hold_at stripes t word = mode_in (record_of (records_at stripes (stripe_of word)) word) t

abbrev pub words_in : Option HeldWords → List (Reverse ℕ)
words_in None = []
words_in (Some h) = heap_items h.words

-- the words that thread t holds
abbrev pub words_at : List HeldWords → ℕ → List (Reverse ℕ)
words_at held t = words_in (slice_get held t)

-- each record is in the stripe of its word
abbrev pub IsPlaced : List Stripe → Type 0
IsPlaced stripes = (s : ℕ) → list_all (λ r. stripe_of r.word == s) (records_at stripes s) ≡ true

-- each thread's heap can take so many words more
abbrev pub HasSpare : List HeldWords → ℕ → Type 0
HasSpare held count = (t : ℕ) (h : HeldWords) → slice_get held t ≡ Some h → heap_len h.words + count ≤ heap_capacity h.words

-- there are `STRIPES` stripes, each record is in the stripe of its word, each thread's heap has once each word that the
-- records say it holds, and it can take so many words more
pub record IsTable (stripes : List Stripe) (held : List HeldWords) (count : ℕ) : Type 0 where
  pub stripes_len : length stripes ≡ STRIPES
  pub threads : length held ≤ THREAD_LIMIT
  pub placed : IsPlaced stripes
  pub kept : (t w : ℕ) → t < length held → times_in (words_at held t) w ≡ (if is_some (hold_at stripes t w) then 1 else 0)
  pub spare : HasSpare held count

abbrev pub HasStripeCapacity : Option Stripe → Type 0
HasStripeCapacity None = Unit {0}
HasStripeCapacity (Some s) = vec_len s.records < vec_capacity s.records
