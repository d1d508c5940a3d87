-- What stands at the front of a text.
use Rattle.std.specs.Prelude.{◌≡◌, Bool, true, ℕ, ◌+◌, ◌-◌, ◌*◌, List, [], ◌∷◌, ◌++◌, take, drop, Option, Some, None, ◌&&◌, nat_le, nat_eq, if◌then◌else◌}
use Rattle.std.specs.Char.{is_ascii_lowercase}
use Rattle.std.specs.List.{list_all, prefix_len}
use Rattle.decimal_text.specs.Number.{BeginsWith}
use Rattle.object_bytes.specs.Spelling.{is_u8}
use Rattle.assembly_text.specs.declared.line.Record.{Record}
use Rattle.assembly_text.specs.Words.{numbers_text}
use Rattle.assembly_text.specs.Lines.{Line, Name, Of, is_plain, quoted_text, words_of, line_text, record_is_wide}
use Rattle.assembly_text.specs.Options.{and_then}

-- ---- words

abbrev pub front_word : List ℕ → List ℕ
front_word text = take (prefix_len is_ascii_lowercase text) text

abbrev pub behind_word : List ℕ → List ℕ
behind_word text = drop (prefix_len is_ascii_lowercase text) text

-- ---- numbers

-- a space, and a number of 64 bits that no digit follows
pub record Field (text : List ℕ) (n : ℕ) (rest : List ℕ) : Type 0 where
  pub number : List ℕ
  pub space : text ≡ 32 ∷ number
  pub begins : BeginsWith number 18446744073709551615 n rest

abbrev pub NoField : List ℕ → Type 0
NoField text = (n : ℕ) (rest : List ℕ) → Field text n rest → ⊥

pub data Fields : List ℕ → List ℕ → List ℕ → Type 0 where
  none : {text : List ℕ} → Fields [] text text
  more : {n : ℕ} {ns text rest behind : List ℕ} → Field text n rest → Fields ns rest behind → Fields (n ∷ ns) text behind

-- ---- records

-- behind its word, the numbers of the record and the end of the line
pub record RecordBehind (word text : List ℕ) (r : Record) (rest : List ℕ) : Type 0 where
  pub wide : record_is_wide r ≡ true
  pub word_is : (words_of r).word ≡ word
  pub written : text ≡ numbers_text (words_of r).numbers ++ rest

abbrev pub NoRecord : (word text : List ℕ) → Type 0
NoRecord word text = (r : Record) (rest : List ℕ) → RecordBehind word text r rest → ⊥

-- ---- names

abbrev pub digit : ℕ → Option ℕ
digit c = if nat_le 48 c && nat_le c 57 then Some (c - 48) else if nat_le 97 c && nat_le c 102 then Some (c - 87) else None

abbrev pub unless_plain : ℕ → List ℕ → Option (ℕ × List ℕ)
unless_plain b rest = if is_plain b then None else Some (b, rest)

-- behind a backslash
abbrev pub escaped : List ℕ → Option (ℕ × List ℕ)
escaped (x ∷ h ∷ l ∷ rest) = if nat_eq x 120 then and_then (digit h) (λ a. and_then (digit l) (λ b. unless_plain (16 * a + b) rest)) else None
escaped text = None

-- the byte of a name that the text begins with
abbrev pub byte_of : List ℕ → Option (ℕ × List ℕ)
byte_of [] = None
byte_of (b ∷ rest) = if is_plain b then Some (b, rest) else if nat_eq b 92 then escaped rest else None

pub data Bytes : List ℕ → List ℕ → List ℕ → Type 0 where
  no_byte : {text : List ℕ} → Bytes [] text text
  one_byte : {b : ℕ} {bs text rest behind : List ℕ} → byte_of text ≡ Some (b, rest) → Bytes bs rest behind → Bytes (b ∷ bs) text behind

pub record NameBehind (text name rest : List ℕ) : Type 0 where
  pub wide : list_all is_u8 name ≡ true
  pub written : text ≡ quoted_text name ++ rest

abbrev pub NoName : List ℕ → Type 0
NoName text = (name rest : List ℕ) → NameBehind text name rest → ⊥

-- ---- lines

-- its numbers are those that the fields of the line can hold
abbrev pub line_is_wide : Line → Bool
line_is_wide (Name name) = list_all is_u8 name
line_is_wide (Of r) = record_is_wide r

-- the line stands at the front of the text
pub record LineHere (text : List ℕ) (l : Line) (rest : List ℕ) : Type 0 where
  pub wide : line_is_wide l ≡ true
  pub written : text ≡ line_text l ++ rest

abbrev pub NoLineHere : List ℕ → Type 0
NoLineHere text = (l : Line) (rest : List ℕ) → LineHere text l rest → ⊥
