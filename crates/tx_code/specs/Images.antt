-- An image as plain lists and numbers, and what each image keeps.
use Rattle.std.specs.Prelude.{Bool, true, false, ◌≡◌, ◌<◌, ℕ, zero, suc, ◌+◌, ◌*◌, ◌^◌, List, [], ◌∷◌, map, length, Option, Some, None, ◌&&◌, ◌||◌, nat_lt}
use Rattle.std.specs.Prelude.{nat_le, slice_get}
use Rattle.std.specs.List.{list_all}
use Rattle.std.specs.Option.{option_map, option_map_or}
use Rattle.std.specs.Str.{bytes_eq}
use Rattle.tx_events.specs.declared.GlobalCell.{GlobalCell}
use Rattle.tx_events.specs.declared.TheConstants.{GLOBALS_LIMIT}
use Rattle.tx_code.specs.declared.linked.ImageFunc.{ImageFunc}
use Rattle.tx_code.specs.declared.linked.ImageClass.{ImageClass}
use Rattle.tx_code.specs.Objects.{BodyView, bytes_of, body_view}
use Rattle.tx_code.specs.WellFormed.{is_cell_size, is_multiple}

pub record ImageFuncView : Type 0 where
  pub symbol : List ℕ
  pub ty : List ℕ
  pub frame : ℕ
  pub no_except : Bool
  pub plain : BodyView
  pub safe : Option BodyView
  pub source : Option (List ℕ)

pub record ImageClassView : Type 0 where
  pub name : List ℕ
  pub base : Option ℕ
  pub slots : List (Option ℕ)

pub record ImageView : Type 0 where
  pub types : List (List ℕ)
  pub funcs : List ImageFuncView
  pub classes : List ImageClassView
  pub globals : List GlobalCell
  pub size : ℕ
  pub main : ℕ

abbrev pub image_func_view : ImageFunc → ImageFuncView
image_func_view f = record {
  symbol = f.symbol.items;
  ty = f.ty.items;
  frame = f.frame;
  no_except = f.no_except;
  plain = body_view f.plain;
  safe =
      option_map body_view f.safe;
  source = option_map bytes_of f.source;
}

abbrev pub image_class_view : ImageClass → ImageClassView
image_class_view c = record { name = c.name.items; base = c.base; slots = c.slots.items }

-- ---- what an image keeps

abbrev pub is_cell : (size : ℕ) → GlobalCell → Bool
is_cell size c = is_cell_size c.size && is_multiple c.offset c.size && nat_le (c.offset + c.size) size && nat_lt c.value (2 ^ (8 * c.size))

abbrev pub apart : GlobalCell → GlobalCell → Bool
apart a b = nat_le (a.offset + a.size) b.offset || nat_le (b.offset + b.size) a.offset

abbrev pub all_apart : List GlobalCell → Bool
all_apart [] = true
all_apart (c ∷ cs) = list_all (apart c) cs && all_apart cs

abbrev pub cells_fit : (size : ℕ) → List GlobalCell → Bool
cells_fit size cells = list_all (is_cell size) cells && all_apart cells

abbrev pub size_fits : ℕ → Bool
size_fits size = is_multiple size 8 && nat_le size GLOBALS_LIMIT

-- `int()`
abbrev pub main_type : List ℕ
main_type = 105 ∷ 110 ∷ 116 ∷ 40 ∷ 41 ∷ []

abbrev pub is_main : List ImageFuncView → ℕ → Bool
is_main funcs main = option_map_or (λ (f : ImageFuncView). bytes_eq f.ty main_type) (slice_get funcs main) false

abbrev pub slot_fits : (funcs : ℕ) → Option ℕ → Bool
slot_fits funcs slot = option_map_or (λ f. nat_lt f funcs) slot true

abbrev pub slots_fit : (funcs : ℕ) → List ImageClassView → Bool
slots_fit funcs classes = list_all (λ (c : ImageClassView). list_all (slot_fits funcs) c.slots) classes

-- a class's chain of bases ends in at most so many steps
abbrev pub base_ends : List (Option ℕ) → (most : ℕ) → (base : Option ℕ) → Bool
base_ends bases most None = true
base_ends bases zero (Some c) = false
base_ends bases (suc most) (Some c) = option_map_or (base_ends bases most) (slice_get bases c) false

abbrev pub base_in : ImageClassView → Option ℕ
base_in c = c.base

abbrev pub bases_end : List ImageClassView → Bool
bases_end classes = list_all (base_ends (map base_in classes) (length classes)) (map base_in classes)

-- what the type `Image` keeps
pub record IsImage (i : ImageView) : Type 0 where
  pub cells : cells_fit i.size i.globals ≡ true
  pub whole : size_fits i.size ≡ true
  pub few : length i.funcs < 4294967295
  pub starts : is_main i.funcs i.main ≡ true
  pub slots : slots_fit (length i.funcs) i.classes ≡ true
  pub bases : bases_end i.classes ≡ true
