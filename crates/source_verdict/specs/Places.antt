-- Lines and columns of a text.
use Rattle.std.specs.Prelude.{ℕ, suc, ◌==◌, List, [], ◌∷◌, ◌++◌, take, if◌then◌else◌, codes}
use Rattle.std.specs.Fmt.{decimal}

-- how many lines end among the bytes
abbrev pub ends_in : List ℕ → ℕ
ends_in [] = 0
ends_in (b ∷ bs) = if b == 10 then suc (ends_in bs) else ends_in bs

-- how many bytes stand behind the last end of a line, where so many stand before these
abbrev pub since_end : ℕ → List ℕ → ℕ
since_end n [] = n
since_end n (b ∷ bs) = if b == 10 then since_end 0 bs else since_end (suc n) bs

-- both from 1
abbrev pub line_of : List ℕ → ℕ → ℕ
line_of text offset = suc (ends_in (take offset text))

abbrev pub column_of : List ℕ → ℕ → ℕ
column_of text offset = suc (since_end 0 (take offset text))

abbrev pub place_line : (name text : List ℕ) → (offset : ℕ) → (what : List ℕ) → List ℕ
place_line name text offset what = name ++ (codes ":" ++
    (decimal (line_of text offset) ++ (codes ":" ++ (decimal (column_of text offset) ++ (codes ": " ++ what)))))
