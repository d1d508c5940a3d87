-- An array of characters that a string initialises (C++14 8.5.2).
use Rattle.std.specs.Prelude.{◌≡◌, ℕ, true, List, is_some}
use Rattle.elab_rules.specs.cpp_types.Typ.{Typ}
use Rattle.elab_rules.specs.cpp_types.declared.classes.At.{At}
use Rattle.elab_rules.specs.cpp_tree.Parts.{size_in}
use Rattle.elab_rules.specs.cpp_tree.Rows.{Setting}
use Rattle.elab_rules.specs.elab_ctx.Ctx.{Ctx}
use Rattle.elab_rules.specs.Braces.{is_char_array, string_object}
use Rattle.elab_fits.specs.Standing.{BuildsOne, IsSetting, On}

-- where the array has a size, the bytes build it, and zeros what is behind them
abbrev pub StringsBuild : Type 0
StringsBuild = (s : Setting) (c : Ctx) (t : Typ) (at : At) (bytes : List ℕ) → IsSetting s c → is_some (size_in c.classes t) ≡ true
    → is_char_array t ≡ true → On (BuildsOne s t) (string_object c t at bytes)
