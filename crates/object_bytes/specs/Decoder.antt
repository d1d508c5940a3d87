-- Reading from left to right. A decoder answers a value and the bytes behind it, or how many bytes are left from the first
-- byte of the first wrong field on: none where the bytes end too early.
use Rattle.std.specs.Prelude.{Bool, true, false, ℕ, zero, suc, List, [], ◌∷◌, length, take, drop, Option, Some, None, Result, Ok, Err, nat_lt, if◌then◌else◌}
use Rattle.std.specs.Int.{Width, w32, w64, byte_len, from_le_bytes}

abbrev pub Decoder : Type 0 → Type 0
Decoder A = List ℕ → Result (A × List ℕ) ℕ

-- nothing is read
unfoldable pub done : {A : Type 0} → A → Decoder A
done x bytes = Ok (x, bytes)

-- nothing can be read
unfoldable pub fail : {A : Type 0} → Decoder A
fail bytes = Err (length bytes)

abbrev pub go_on : {A B : Type 0} → Result (A × List ℕ) ℕ → (A → Decoder B) → Result (B × List ℕ) ℕ
go_on (Ok x) next = next x.0 x.1
go_on (Err left) next = Err left

-- one after the other
unfoldable pub bind : {A B : Type 0} → Decoder A → (A → Decoder B) → Decoder B
bind first next bytes = go_on (first bytes) next

infixl 10 ◌>>=◌
abbrev pub ◌>>=◌ : {A B : Type 0} → Decoder A → (A → Decoder B) → Decoder B
first >>= next = bind first next

abbrev pub tested : {A : Type 0} → Result (A × List ℕ) ℕ → (A → Bool) → (left : ℕ) → Result (A × List ℕ) ℕ
tested (Ok x) test left = if test x.0 then Ok x else Err left
tested (Err left) test _ = Err left

-- a field that is wrong unless the test holds
unfoldable pub such_that : {A : Type 0} → Decoder A → (A → Bool) → Decoder A
such_that field test bytes = tested (field bytes) test (length bytes)

unfoldable pub u8 : Decoder ℕ
u8 [] = Err 0
u8 (b ∷ bytes) = Ok (b, bytes)

abbrev pub number : Width → Decoder ℕ
number w bytes = if nat_lt (length bytes) (byte_len w) then Err 0 else Ok (from_le_bytes w (take (byte_len w) bytes), drop (byte_len w) bytes)

unfoldable pub u32 : Decoder ℕ
u32 bytes = number w32 bytes

unfoldable pub u64 : Decoder ℕ
u64 bytes = number w64 bytes

-- so many bytes
unfoldable pub raw : ℕ → Decoder (List ℕ)
raw n bytes = if nat_lt (length bytes) n then Err 0 else Ok (take n bytes, drop n bytes)

unfoldable pub when : {A : Type 0} → Bool → Decoder A → Decoder (Option A)
when true field = field >>= λ x. done (Some x)
when false field = done None

-- so many items, each read with the key of the one before it
unfoldable pub items : {A K : Type 0} → (A → K) → (Option K → Decoder A) → Option K → ℕ → Decoder (List A)
items key item before zero = done []
items key item before (suc n) = item before >>= λ x. items key item (Some (key x)) n >>= λ xs. done (x ∷ xs)

-- a count, and so many items
unfoldable pub list : {A K : Type 0} → (A → K) → (Option K → Decoder A) → Decoder (List A)
list key item = u32 >>= λ n. items key item None n

-- a list whose items do not depend on one another
abbrev pub each : {A : Type 0} → Decoder A → Decoder (List A)
each item = list (λ x. x) (λ _. item)
