-- An image and a bound program begin with the same globals.
use Rattle.std.specs.Prelude.{◌≡◌, ◌+◌, ◌*◌, ◌/◌}
use Rattle.tx_code.specs.Images.{ImageView}
use Rattle.src_mean.specs.Links.{first_cells, globals_size}
use Rattle.src_bind.specs.Tables.{Given, typed, linked_of}

-- as many bytes of globals, up to the next multiple of 8, and the same cells in the same order
pub record SameCells (g : Given) (i : ImageView) : Type 0 where
  pub size : i.size ≡ (globals_size (typed g) + 7) / 8 * 8
  pub cells : i.globals ≡ first_cells (typed g) (linked_of g)
