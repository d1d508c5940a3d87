-- Where the words of a memory lie in one list: those of the globals first, then those of each stack.
use Rattle.std.specs.Prelude.{ℕ, ◌+◌, ◌-◌, ◌*◌, ◌/◌, ◌%◌, ◌==◌, if◌then◌else◌, Option, Some, None, List, slice_index}
use Rattle.tx_events.specs.Memory.{MemoryLayout, in_globals, in_stacks, globals_start, stacks_start, stack_stride}

-- the words of one stack
abbrev pub stack_words : ℕ
stack_words = 8192

-- where the word that holds this byte lies
abbrev pub slot_of : MemoryLayout → ℕ → Option ℕ
slot_of p addr = if in_globals p addr then Some ((addr - globals_start) / 8) else
    (if in_stacks p addr then Some (p.globals / 8 + (addr - stacks_start) / stack_stride * stack_words + (addr - stacks_start) % stack_stride / 8) else None)

abbrev pub word_in : List ℕ → Option ℕ → ℕ
word_in words None = 0
word_in words (Some slot) = slice_index words slot

-- how many words there are
abbrev pub word_count : MemoryLayout → ℕ
word_count p = p.globals / 8 + p.limit * stack_words

-- the memory that such a list is: a number for each word, and 0 for what is no word of it
abbrev pub memory_in : MemoryLayout → List ℕ → ℕ → ℕ
memory_in p words addr = if addr % 8 == 0 then word_in words (slot_of p addr) else 0
