-- What a function that reads a field returns.
use Rattle.std.specs.Prelude.{◌≡◌, ℕ, Result, Ok, Err}
use Rattle.object_file.specs.declared.fault.ReadError.{ReadError}
use Rattle.object_file.specs.declared.fault.ReadError.TheVariants.{Memory, Wrong}

-- What a function returned, seen by view, is what a decoder gives, unless memory ran out.
abbrev pub Fails : {Y : Type 0} → ReadError → Result Y ℕ → Type 0
Fails Memory read = Unit {0}
Fails (Wrong left) read = read ≡ Err left

abbrev pub Gives : {X Y : Type 0} → (X → Y) → Result X ReadError → Result Y ℕ → Type 0
Gives view (Ok x) read = read ≡ Ok (view x)
Gives view (Err e) read = Fails e read
