-- The report of races.
use Rattle.std.specs.Prelude.{ℕ, List, [], ◌∷◌, ◌++◌, map, codes, decimal}
use Rattle.serde_json.specs.Data.{Data, number, unsigned}

-- the words as JSON numbers
abbrev pub numbers_of : List ℕ → List Data
numbers_of words = map (λ w. number (unsigned w)) words

-- numbers behind another, each behind a comma
abbrev pub numbers_behind : List ℕ → List ℕ
numbers_behind [] = []
numbers_behind (w ∷ ws) = 44 ∷ (decimal w ++ numbers_behind ws)

-- numbers with commas between them
abbrev pub numbers_text : List ℕ → List ℕ
numbers_text [] = []
numbers_text (w ∷ ws) = decimal w ++ numbers_behind ws

-- `{"races":[A,B]}` and a newline
abbrev pub report_text : List ℕ → List ℕ
report_text words = codes "{\"races\":[" ++ (numbers_text words ++ codes "]}\n")
