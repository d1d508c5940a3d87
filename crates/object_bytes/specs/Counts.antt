-- Lists whose lengths are numbers of 32 bits, as those of an object are.
use Rattle.std.specs.Prelude.{Bool, true, ◌≡◌, ◌&&◌, Option}
use Rattle.std.specs.Option.{option_map_or}
use Rattle.tx_code.specs.Objects.{BodyView, ClassView, GlobalView, FuncView}
use Rattle.tx_code.specs.WellFormed.{is_count}

pub record HasCounts (b : BodyView) : Type 0 where
  pub code : is_count b.code ≡ true
  pub rows : is_count b.rows ≡ true
  pub lines : is_count b.lines ≡ true

abbrev pub body_has_counts : BodyView → Bool
body_has_counts b = is_count b.code && is_count b.rows && is_count b.lines

abbrev pub some_has_counts : Option BodyView → Bool
some_has_counts b = option_map_or body_has_counts b true

abbrev pub class_has_counts : ClassView → Bool
class_has_counts c = is_count c.members && is_count c.slots

abbrev pub global_has_counts : GlobalView → Bool
global_has_counts g = is_count g.cells

abbrev pub func_has_counts : FuncView → Bool
func_has_counts f = some_has_counts f.plain && some_has_counts f.safe
