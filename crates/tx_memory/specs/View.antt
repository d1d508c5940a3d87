-- What a caller sees of a memory: what is mapped, and a number for each word.
use Rattle.std.specs.Prelude.{ℕ}
use Rattle.tx_events.specs.Memory.{MemoryLayout}
use Rattle.tx_memory.specs.Words.{memory_in}
use Rattle.tx_memory.specs.declared.memory.Memory.{Memory}

-- the size of the globals and the number of stacks, which say what is mapped
abbrev pub layout_of : Memory → MemoryLayout
layout_of memory = record { globals = memory.globals; limit = memory.threads }

-- the number of each word
unfoldable pub words_of : Memory → ℕ → ℕ
words_of memory = memory_in (layout_of memory) memory.words.items
