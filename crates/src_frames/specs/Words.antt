-- Values as words, and a call that has room.
use Rattle.std.specs.Prelude.{ℕ, ℤ, List, ◌∷◌, Result, Ok, Err}
use Rattle.cpp_tree.specs.tx_ints.declared.kinds.ArithTrap.{ArithTrap}
use Rattle.cpp_tree.specs.tx_ints.Words.{word_of}
use Rattle.cpp_tree.specs.tx_events.declared.Event.TheVariants.{Silent}
use Rattle.src_mean.specs.Linked.{Func}
use Rattle.src_mean.specs.Frames.{Here, Frame, State, at, value, Passes, Then, Called}
use Rattle.src_mean.specs.Source.{inside}

-- the value of an operator, as a word
abbrev pub as_word : Result ℤ ArithTrap → Result ℕ ArithTrap
as_word (Ok v) = Ok (word_of v)
as_word (Err trap) = Err trap

-- a new frame for a function, where the stack has the room
abbrev pub enters_with : Here → List ℕ → Func → List Frame → State
enters_with h words f k = at Silent (inside h f) (Passes words f.words ∷ Then value f.body ∷ Called h f.stops ∷ k)
