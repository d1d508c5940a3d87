-- What numbers stand for in an image.
use Rattle.std.specs.Prelude.{Bool, ℕ, Option, map, slice_get}
use Rattle.std.specs.Option.{option_map}
use Rattle.tx_code.specs.declared.instr.Instr.{Instr}
use Rattle.tx_code.specs.declared.body.Row.{Row}
use Rattle.tx_code.specs.declared.image.Image.{Image}
use Rattle.tx_code.specs.Objects.{BodyView}
use Rattle.tx_code.specs.Renaming.{itself, renamed, renamed_row}
use Rattle.tx_code.specs.Meaning.{code_of, rows_of, find}
use Rattle.tx_code.specs.Program.{names_of}
use Rattle.tx_code.specs.Views.{image_view}

abbrev pub body_of : Image → ℕ → Bool → Option BodyView
body_of image func safe = (names_of (image_view image)).body func safe

abbrev pub instr_of : Image → ℕ → Bool → ℕ → Option Instr
instr_of image func safe index = option_map (renamed itself) (slice_get (code_of (body_of image func safe)) index)

abbrev pub row_of : Image → ℕ → Bool → (index ty : ℕ) → Option Row
row_of image func safe index ty = find (map (renamed_row itself) (rows_of (body_of image func safe))) index ty
