-- What a record of a word says of each thread.
use Rattle.std.specs.Prelude.{ℕ, ◌==◌, ◌/◌, ◌%◌, ◌&&◌, Bool, true, false, not, nat_lt, if◌then◌else◌, Option, Some, None, List}
use Rattle.std.specs.List.{find, count_by}
use Rattle.own_table.specs.Bits.{has_bit}
use Rattle.own_table.specs.declared.TheConstants.{STRIPES}
use Rattle.own_table.specs.declared.hold.HoldRec.{HoldRec}
use Rattle.own_table.specs.declared.hold.Mode.{Mode}
use Rattle.own_table.specs.declared.hold.Mode.TheVariants.{Read, Write}
use Rattle.tx_events.specs.declared.TheConstants.{THREAD_LIMIT}

abbrev pub is_write : Mode → Bool
is_write Read = false
is_write Write = true

-- whether this hold of another thread blocks a load, or a store: one for writing blocks both, one for reading a store
abbrev pub blocks : Option Mode → Bool → Bool
blocks None store = false
blocks (Some Read) store = store
blocks (Some Write) store = true

-- the hold after a taking in this mode: holding for writing is holding for reading too
abbrev pub raised : Option Mode → Mode → Option Mode
raised None mode = Some mode
raised (Some Read) mode = Some mode
raised (Some Write) mode = Some Write

abbrev pub is_writer : Option ℕ → ℕ → Bool
is_writer None t = false
is_writer (Some u) t = t == u

-- how thread t holds the word of this record
abbrev pub mode_of : HoldRec → ℕ → Option Mode
mode_of r t = if is_writer r.writer t then Some Write else (if has_bit r.readers t then Some Read else None)

abbrev pub is_free : HoldRec → Bool
is_free r = r.readers == 0

abbrev pub is_reader : ℕ → Option ℕ → Bool
is_reader readers None = true
is_reader readers (Some u) = nat_lt u THREAD_LIMIT && has_bit readers u

-- the writer, if there is one, is a thread and among the readers
abbrev pub writer_reads : HoldRec → Bool
writer_reads r = is_reader r.readers r.writer

-- a record that belongs into a table
abbrev pub is_sound : HoldRec → Bool
is_sound r = not (is_free r) && writer_reads r

-- the first record of the word
abbrev pub record_of : List HoldRec → ℕ → Option HoldRec
record_of records word = find (λ r. r.word == word) records

-- how many records of the word there are
abbrev pub records_of : List HoldRec → ℕ → ℕ
records_of records word = count_by (λ r. r.word == word) records

abbrev pub mode_in : Option HoldRec → ℕ → Option Mode
mode_in None t = None
mode_in (Some r) t = mode_of r t

-- the stripe of a word
abbrev pub stripe_of : ℕ → ℕ
stripe_of word = word / 8 % STRIPES
