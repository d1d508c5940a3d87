-- What holds of the bases of a class in a list of classes in order.
use Rattle.std.specs.Prelude.{◌≡◌, ◌+◌, ℕ, List, ◌∷◌, Some, slice_get}
use Rattle.cpp_types.specs.Class.{Class, InOrder, CompleteBelow, base_of, completion_of}
use Rattle.cpp_types.specs.Conversion.{bases, first_and}

-- the bases of a class are its base and the bases of that one, however long the chain is
abbrev pub BasesUnroll : Type 0
BasesUnroll = (classes : List Class) (n : ℕ) → InOrder classes → bases classes n ≡ first_and (base_of classes n) (bases classes)

-- in the list of a class and its bases each is followed by its own base, and the last one has none
abbrev pub BasesAreWhole : Type 0
BasesAreWhole = (classes : List Class) (n i m : ℕ) → InOrder classes → slice_get (n ∷ bases classes n) i ≡ Some m
    → base_of classes m ≡ slice_get (n ∷ bases classes n) (i + 1)

-- a base is complete, and was so before the class
abbrev pub BaseIsEarlier : Type 0
BaseIsEarlier = (classes : List Class) (n b k : ℕ) → InOrder classes → base_of classes n ≡ Some b → completion_of classes n ≡ Some k → CompleteBelow classes k b
