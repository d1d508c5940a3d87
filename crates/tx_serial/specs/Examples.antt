-- Worked runs of threads that are lists of events, computed turn by turn.
use Rattle.std.specs.Prelude.{ℕ, pos, true, false, List, [], ◌∷◌}
use Rattle.choosers.specs.Answers.{Older, answer}
use Rattle.tx_events.specs.declared.BlockKind.TheVariants.{NoExcept, Cancel}
use Rattle.tx_events.specs.declared.Event.{Event}
use Rattle.tx_events.specs.declared.Event.TheVariants.{Silent, Store, Spawn, BeginAtomic, EndAtomic, Raise, Done}
use Rattle.tx_events.specs.declared.TurnKind.{TurnKind}
use Rattle.tx_events.specs.Thread.{Thread}
use Rattle.tx_events.specs.Memory.{MemoryLayout}
use Rattle.tx_serial.specs.Machine.{Machine}
use Rattle.tx_serial.specs.Turn.{turn, first_machine}

abbrev pub first : List Event → Event
first [] = Silent
first (e ∷ es) = e

abbrev pub others : List Event → List Event
others [] = []
others (e ∷ es) = es

-- A thread whose state is the list of the events to come. Past its list its event is Silent; each thread that it starts
-- has the events `child`. (Its open blocks are not kept: no example needs them.)
abbrev pub script : List Event → Thread (List Event)
script child = record { next = first; after = λ s r. others s; child = λ s n f x. child; blocks = λ s. [] }

-- globals of two words, at 65536 and 65544
abbrev pub two_words : MemoryLayout
two_words = record { globals = 16; limit = 64 }

-- what turns come to: their kinds, the order, how many births were drawn, and the two words
pub record Played : Type 0 where
  pub kinds : List TurnKind
  pub order : List ℕ
  pub births : ℕ
  pub first_word : ℕ
  pub second_word : ℕ

-- turns of these threads, one after another, under the policy `older`
abbrev pub plays : List Event → List ℕ → Machine (List Event) → Played
plays child [] m = record { kinds = []; order = m.order; births = m.births; first_word = m.memory 65536; second_word = m.memory 65544 }
plays child (t ∷ ts) m =
    let r = turn (script child) two_words (answer Older) t m in
    let rest = plays child ts r.machine in
    record rest { kinds = r.kind ∷ rest.kinds }

-- thread 0 has the events `main`
abbrev pub play : List Event → List Event → List ℕ → Played
play main child ts = plays child ts (first_machine (λ x. 0) [] main)

-- two blocks that store to two words in crossed order

abbrev pub elder_events : List Event
elder_events = Spawn 0 (pos 0) ∷ BeginAtomic NoExcept ∷ Store 65536 8 1 false ∷ Store 65544 8 2 false ∷ EndAtomic ∷ []

abbrev pub younger_events : List Event
younger_events = BeginAtomic NoExcept ∷ Store 65544 8 3 false ∷ Store 65536 8 4 false ∷ EndAtomic ∷ Done ∷ []

abbrev pub crossed : Played
crossed = play elder_events younger_events (0 ∷ 0 ∷ 1 ∷ 0 ∷ 1 ∷ 0 ∷ 1 ∷ 1 ∷ 0 ∷ 0 ∷ 0 ∷ 0 ∷ 1 ∷ 1 ∷ 1 ∷ [])

-- a block that cancels, word by word
abbrev pub cancelled : Played
cancelled = play (BeginAtomic Cancel ∷ Store 65536 8 1 false ∷ Store 65544 8 2 false ∷ Raise Cancel true ∷ []) [] (0 ∷ 0 ∷ 0 ∷ 0 ∷ 0 ∷ 0 ∷ 0 ∷ 0 ∷ [])

-- an inner block that cancels, in a block that stored to the same word before
abbrev pub inner_cancelled : Played
inner_cancelled = play (BeginAtomic Cancel ∷ Store 65536 8 1 false ∷ BeginAtomic Cancel ∷ Store 65536 8 2 false ∷ Raise Cancel true ∷ EndAtomic ∷ []) []
    (0 ∷ 0 ∷ 0 ∷ 0 ∷ 0 ∷ 0 ∷ 0 ∷ 0 ∷ [])

-- an inner block that commits, in a block that cancels
abbrev pub outer_cancelled : Played
outer_cancelled = play (BeginAtomic Cancel ∷ BeginAtomic NoExcept ∷ Store 65536 8 1 false ∷ EndAtomic ∷ Raise Cancel true ∷ []) []
    (0 ∷ 0 ∷ 0 ∷ 0 ∷ 0 ∷ 0 ∷ 0 ∷ [])
