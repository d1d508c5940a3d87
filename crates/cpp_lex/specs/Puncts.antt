-- Operators and punctuators: C++14 [lex.operators], and the digraphs that are refused.
use Rattle.std.specs.Prelude.{◌≡◌, ℕ, ◌+◌, Bool, true, false, List, [], ◌∷◌, codes, nat_eq, ◌&&◌, ◌||◌, slice_index}
use Rattle.std.specs.List.{list_any}

-- the puncts of one byte, of two and of three
unfoldable pub single_puncts : List ℕ
single_puncts = codes "{}[]();:?.,+-*/%^&|~!=<>"

unfoldable pub double_puncts : List (List ℕ)
double_puncts =
    codes "+=" ∷ codes "-=" ∷ codes "*=" ∷ codes "/=" ∷ codes "%=" ∷ codes "^=" ∷ codes "&=" ∷ codes "|="
    ∷ codes "<<" ∷ codes ">>" ∷ codes "==" ∷ codes "!=" ∷ codes "<=" ∷ codes ">=" ∷ codes "&&" ∷ codes "||"
    ∷ codes "++" ∷ codes "--" ∷ codes "->" ∷ codes "::" ∷ codes ".*" ∷ []

unfoldable pub triple_puncts : List (List ℕ)
triple_puncts = codes "<<=" ∷ codes ">>=" ∷ codes "..." ∷ codes "->*" ∷ []

-- the digraphs, none of which is taken
unfoldable pub digraphs : List (List ℕ)
digraphs = codes "<:" ∷ codes ":>" ∷ codes "<%" ∷ codes "%>" ∷ codes "%:" ∷ []

-- the spelling is these bytes
abbrev pub is_pair : ℕ → ℕ → List ℕ → Bool
is_pair b c spelling = nat_eq (slice_index spelling 0) b && nat_eq (slice_index spelling 1) c

abbrev pub is_triple : ℕ → ℕ → ℕ → List ℕ → Bool
is_triple b c d spelling = is_pair b c spelling && nat_eq (slice_index spelling 2) d

unfoldable pub is_single_punct : ℕ → Bool
is_single_punct b = list_any (λ spelling. nat_eq spelling b) single_puncts

unfoldable pub is_double_punct : ℕ → ℕ → Bool
is_double_punct b c = list_any (is_pair b c) double_puncts

unfoldable pub is_triple_punct : ℕ → ℕ → ℕ → Bool
is_triple_punct b c d = list_any (is_triple b c d) triple_puncts

unfoldable pub is_digraph : ℕ → ℕ → Bool
is_digraph b c = list_any (is_pair b c) digraphs

-- / and a byte that makes it the beginning of a comment
abbrev pub opens_comment : ℕ → ℕ → Bool
opens_comment b c = nat_eq b 47 && (nat_eq c 47 || nat_eq c 42)

-- one of the puncts, where no comment begins
pub data IsPunct (text : List ℕ) (from : ℕ) : ℕ → Type 0 where
  single : opens_comment (slice_index text from) (slice_index text (from + 1)) ≡ false → is_single_punct (slice_index text from) ≡ true
      → IsPunct text from (from + 1)
  double : is_double_punct (slice_index text from) (slice_index text (from + 1)) ≡ true → IsPunct text from (from + 2)
  triple : is_triple_punct (slice_index text from) (slice_index text (from + 1)) (slice_index text (from + 2)) ≡ true → IsPunct text from (from + 3)
