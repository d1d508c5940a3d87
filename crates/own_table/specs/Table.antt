-- What a caller sees of a table of holders: a relation of thread, word and mode.
use Rattle.std.specs.Prelude.{ℕ, ◌<◌, Option, slice_get, vec_len}
use Rattle.own_table.specs.Records.{stripe_of}
use Rattle.own_table.specs.Stripes.{hold_at, HasStripeCapacity}
use Rattle.own_table.specs.declared.hold.Mode.{Mode}
use Rattle.own_table.specs.declared.table.Holders.{Holders}

-- how thread t holds the word
abbrev pub hold_of : Holders → ℕ → ℕ → Option Mode
hold_of holders t word = hold_at holders.stripes.items t word

-- thread numbers are below this
abbrev pub thread_limit : Holders → ℕ
thread_limit holders = vec_len holders.held

-- there is room for the next taking of the word
pub record HasCapacity (holders : Holders) (word : ℕ) : Type 0 where
  pub stripe : HasStripeCapacity (slice_get holders.stripes.items (stripe_of word))
  pub words : 0 < holders.spare
