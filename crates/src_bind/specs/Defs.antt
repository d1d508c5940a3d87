-- What definitions in the code show, and where they stand.
use Rattle.std.specs.Prelude.{ℕ, suc, false, cond, List, [], ◌∷◌, map}
use Rattle.src_mean.specs.Links.{Def, name_lt}
use Rattle.src_bind.specs.declared.defs.Found.{Found}

abbrev pub def_of : Found → Def
def_of d = record { unit = d.unit; place = d.place; symbol = d.symbol.now; internal = d.internal }

abbrev pub defs_of : List Found → List Def
defs_of ds = map def_of ds

-- how many definitions stand before a new one
abbrev pub place_of : Def → List Def → ℕ
place_of d [] = 0
place_of d (e ∷ es) = cond (name_lt d.symbol e.symbol) 0 (suc (place_of d es))

-- a definition with this symbol that other units see
abbrev pub named : List ℕ → Def
named symbol = record { unit = 0; place = 0; symbol = symbol; internal = false }
