-- Memory: what is mapped, words, and bytes.
use Rattle.std.specs.Prelude.{ℕ, zero, suc, ◌==◌, ◌^◌, ◌*◌, ◌+◌, ◌-◌, ◌/◌, ◌%◌, Bool, cond, nat_lt, nat_le, ◌&&◌, ◌||◌, List, [], ◌∷◌}
use Rattle.tx_events.specs.declared.GlobalCell.{GlobalCell}
use Rattle.tx_events.specs.declared.TheConstants.{GLOBALS_START, STACKS_START, STACK_STRIDE, STACK_SIZE}

-- f, but v at k
abbrev pub update : {A : Type 0} → (ℕ → A) → ℕ → A → ℕ → A
update f k v x = cond (x == k) v (f x)

-- what never changes in a run: the size of the globals in bytes, and how many threads may be started, the first one counted
pub record MemoryLayout : Type 0 where
  pub globals : ℕ
  pub limit : ℕ

-- where the globals begin
abbrev pub globals_start : ℕ
globals_start = GLOBALS_START

-- the end of the last global, rounded up to a multiple of 8
abbrev pub globals_end : MemoryLayout → ℕ
globals_end p = globals_start + (p.globals + 7) / 8 * 8

-- where the stack of thread 0 begins, from the start of one stack to the next, and the size of one, in bytes
abbrev pub stacks_start : ℕ
stacks_start = STACKS_START

abbrev pub stack_stride : ℕ
stack_stride = STACK_STRIDE

abbrev pub stack_size : ℕ
stack_size = STACK_SIZE

abbrev pub in_globals : MemoryLayout → ℕ → Bool
in_globals p addr = nat_le globals_start addr && nat_lt addr (globals_end p)

-- in the stack of a thread number below the limit
abbrev pub in_stacks : MemoryLayout → ℕ → Bool
in_stacks p addr = nat_le stacks_start addr && nat_lt ((addr - stacks_start) / stack_stride) p.limit && nat_lt ((addr - stacks_start) % stack_stride) stack_size

unfoldable pub is_mapped : MemoryLayout → ℕ → Bool
is_mapped p addr = in_globals p addr || in_stacks p addr

unfoldable pub is_aligned : ℕ → ℕ → Bool
is_aligned addr size = addr % size == 0

-- an access that does not trap: mapped and aligned
unfoldable pub can_access : MemoryLayout → ℕ → ℕ → Bool
can_access p addr size = is_aligned addr size && is_mapped p addr

-- above each word that is mapped
unfoldable pub word_bound : MemoryLayout → ℕ
word_bound p = globals_end p + stacks_start + stack_stride * p.limit

-- A word is an aligned group of 8 bytes, named by its lowest address. A memory gives each word a number below 2^64, whose least significant byte is the lowest.
unfoldable pub word_of : ℕ → ℕ
word_of addr = addr - addr % 8

-- the bytes of an access in its word
unfoldable pub read_at : ℕ → ℕ → ℕ → ℕ
read_at addr size word = word / 2 ^ (8 * (addr % 8)) % 2 ^ (8 * size)

-- the word after a store
unfoldable pub merge : ℕ → ℕ → ℕ → ℕ → ℕ
merge addr size value word = word / 2 ^ (8 * (addr % 8) + 8 * size) * 2 ^ (8 * (addr % 8) + 8 * size) + value * 2 ^ (8 * (addr % 8)) + word % 2 ^
    (8 * (addr % 8))

-- what a load of this size reads
abbrev pub load : (ℕ → ℕ) → ℕ → ℕ → ℕ
load memory addr size = read_at addr size (memory (word_of addr))

-- the memory after a store of this size and value
abbrev pub store : (ℕ → ℕ) → ℕ → ℕ → ℕ → ℕ → ℕ
store memory addr size value = update memory (word_of addr) (merge addr size value (memory (word_of addr)))

-- the byte at an address
unfoldable pub byte_at : (ℕ → ℕ) → ℕ → ℕ
byte_at memory addr = memory (word_of addr) / 2 ^ (8 * (addr % 8)) % 2 ^ 8

-- these bytes from an address on as a number, the least significant first
abbrev pub number_at : (ℕ → ℕ) → ℕ → ℕ → ℕ
number_at memory addr zero = 0
number_at memory addr (suc n) = number_at memory addr n + byte_at memory (addr + n) * 2 ^ (8 * n)

-- all bytes zero
abbrev pub no_bytes : ℕ → ℕ
no_bytes word = 0

-- the memory with the first bytes of the globals
abbrev pub with_cells : (ℕ → ℕ) → List GlobalCell → ℕ → ℕ
with_cells memory [] = memory
with_cells memory (c ∷ cs) = with_cells (store memory (globals_start + c.offset) c.size c.value) cs
