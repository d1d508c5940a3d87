-- What the code reads of a function type's spelling.
use Rattle.std.specs.Prelude.{Bool, true, false, ◌≡◌, ◌<◌, ⊤, ◌||◌, ℕ, zero, suc, ◌+◌, ◌-◌, List, length, take, drop, Option, Some, None, nat_eq, if◌then◌else◌}
use Rattle.tx_code.specs.Signatures.{Ending, ending, is_name_byte}
use Rattle.tx_code.specs.Signatures as spelling
use Rattle.code_walk.specs.declared.words.Tail.{Tail}
use Rattle.code_walk.specs.declared.words.Tail.TheVariants.{Bare, Open, Group}

-- what stands in the group that begins at a place and ends where the spelling does
abbrev pub inside_from : List ℕ → (place : ℕ) → List ℕ
inside_from name place = take (length name - 1 - place) (drop place name)

abbrev pub is_open : Ending → Bool
is_open spelling.Bare = false
is_open (spelling.Open depth inside) = true
is_open (spelling.Whole before inside) = false

-- what stands at a spelling's end
abbrev pub Ends : List ℕ → Tail → Type 0
Ends name Bare = ending name ≡ spelling.Bare
Ends name Open = is_open (ending name) ≡ true
Ends name (Group place) = ending name ≡ spelling.Whole (take place name) (inside_from name (place + 1))

-- the place lies in it
abbrev pub LiesIn : List ℕ → Tail → Type 0
LiesIn name Bare = ⊤
LiesIn name Open = ⊤
LiesIn name (Group place) = place + 1 < length name

abbrev pub is_closure_byte : ℕ → Bool
is_closure_byte byte = is_name_byte byte || nat_eq byte 58

abbrev pub less_one : ℕ → Option ℕ
less_one zero = None
less_one (suc n) = Some n

-- how many groups are open with one more byte in front; none where the group begins
abbrev pub depth_with : (byte depth : ℕ) → Option ℕ
depth_with byte depth = if nat_eq byte 40 then less_one depth else Some (if nat_eq byte 41 then depth + 1 else depth)

-- how many groups are open behind a byte, and whether it is a comma outside of them
abbrev pub depth_behind : (byte depth : ℕ) → ℕ
depth_behind byte depth = if nat_eq byte 40 then depth + 1 else (if nat_eq byte 41 then depth - 1 else depth)

abbrev pub comma_at : (byte depth : ℕ) → ℕ
comma_at byte depth = if nat_eq byte 44 then (if nat_eq depth 0 then 1 else 0) else 0
