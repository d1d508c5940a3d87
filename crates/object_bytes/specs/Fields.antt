-- The fields of bodies and entries in their order, each with its condition given the fields before it. A condition stands
-- at the last of the fields that it speaks of.
use Rattle.std.specs.Prelude.{Bool, true, ℕ, ◌+◌, ◌*◌, ◌^◌, List, [], length, Option, Some, None, not, ◌&&◌, ◌||◌, nat_lt, nat_le, nat_eq, if◌then◌else◌}
use Rattle.std.specs.Option.{option_map_or}
use Rattle.std.specs.Borrow.{Bor}
use Rattle.tx_code.specs.declared.body.Row.{Row}
use Rattle.tx_code.specs.declared.body.LineRow.{LineRow}
use Rattle.tx_code.specs.declared.object.ObjMember.{ObjMember}
use Rattle.tx_code.specs.declared.object.ObjCell.{ObjCell}
use Rattle.tx_code.specs.declared.object.TheConstants.{LONGEST_NAME}
use Rattle.tx_code.specs.Objects.{BodyView, ClassView, GlobalView, FuncView}
use Rattle.tx_code.specs.WellFormed.{bytes_lt, is_name, is_name_or_none, is_cell_size, is_multiple, bit, same, flags_fit}
use Rattle.object_bytes.specs.Decoder.{Decoder, done, ◌>>=◌, such_that, u8, u32, u64, raw, when, items, list, each}
use Rattle.object_bytes.specs.Instructions.{name, instr}

-- above what stands before it
abbrev pub above : {A : Type 0} → (A → A → Bool) → Option A → A → Bool
above below before x = option_map_or (λ a. below a x) before true

abbrev pub name_or_none : (n : ℕ) → Decoder ℕ
name_or_none n = such_that u32 (is_name_or_none n)

abbrev pub next_name : (n : ℕ) → (before : Option ℕ) → Decoder ℕ
next_name n before = such_that (name n) (above nat_lt before)

-- ---- names

-- what is lent
abbrev pub lent : Option (Bor (List ℕ)) → Option (List ℕ)
lent None = None
lent (Some name) = Some name.now

abbrev pub is_name_length : ℕ → Bool
is_name_length n = nat_lt 0 n && nat_le n LONGEST_NAME

unfoldable pub text : Decoder (List ℕ)
text = such_that u32 is_name_length >>= raw

unfoldable pub name_item : (before : Option (List ℕ)) → Decoder (List ℕ)
name_item before = such_that text (above bytes_lt before)

-- ---- bodies

unfoldable pub row : (n : ℕ) → Decoder Row
row n = do
  from ← u32
  to ← u32
  target ← u32
  what ← u8
  ty ← such_that u32 (λ ty. not (nat_eq what 1) || is_name n ty)
  depth ← u32
  done (record { from = from; to = to; target = target; what = what; ty = ty; depth = depth })

abbrev pub from_above : (before : Option LineRow) → ℕ → Bool
from_above before from = option_map_or (λ b. nat_lt b.from from) before true

abbrev pub line_differs : (before : Option LineRow) → ℕ → Bool
line_differs before line = option_map_or (λ b. not (nat_eq b.line line)) before true

unfoldable pub line_row : (instrs : ℕ) → (before : Option LineRow) → Decoder LineRow
line_row instrs before = do
  from ← such_that u32 (λ from. nat_lt from instrs && from_above before from)
  line ← such_that u32 (line_differs before)
  done (record { from = from; line = line })

unfoldable pub line_rows : (version instrs : ℕ) → Decoder (List LineRow)
line_rows version instrs = if nat_eq version 2 then list (λ l. l) (line_row instrs) else done []

unfoldable pub body : (version n : ℕ) → Decoder BodyView
body version n = do
  code ← each (instr n)
  rows ← each (row n)
  lines ← line_rows version (length code)
  done (record { code = code; rows = rows; lines = lines })

-- ---- classes

unfoldable pub member : (n : ℕ) → Decoder ObjMember
member n = do
  member_name ← name n
  offset ← u32
  ty ← name n
  done (record { name = member_name; offset = offset; ty = ty })

unfoldable pub class : (n : ℕ) → (before : Option ℕ) → Decoder ClassView
class n before = do
  class_name ← next_name n before
  size ← u32
  align ← u32
  base ← name_or_none n
  pointer ← u32
  definition ← name n
  members ← each (member n)
  slots ← each (name_or_none n)
  done (record { name = class_name; size = size; align = align; base = base; pointer = pointer; text = definition; members = members; slots = slots })

-- ---- globals

-- a cell begins where the one before it has ended
abbrev pub is_clear : (before : Option ObjCell) → ℕ → Bool
is_clear before offset = option_map_or (λ b. nat_le (b.offset + b.size) offset) before true

-- in a global of that size
unfoldable pub cell : (n size : ℕ) → (before : Option ObjCell) → Decoder ObjCell
cell n size before = do
  offset ← such_that u32 (is_clear before)
  cell_size ← such_that u8 (λ s. is_cell_size s && is_multiple offset s && nat_le (offset + s) size)
  what ← such_that u8 (λ w. nat_lt w 3 && (nat_eq w 0 || nat_eq cell_size 8))
  value ← such_that u64 (λ v. nat_lt v (2 ^ (8 * cell_size)))
  symbol ← such_that (name_or_none n) (λ s. same (nat_eq what 0) (nat_eq s 0))
  done (record { offset = offset; size = cell_size; what = what; value = value; symbol = symbol })

-- an undefined global has size 0 and no cells
unfoldable pub global : (n : ℕ) → (before : Option ℕ) → Decoder GlobalView
global n before = do
  symbol ← next_name n before
  ty ← name n
  linkage ← such_that u8 (λ l. nat_lt l 2)
  defined ← such_that u8 (λ d. nat_lt d 2)
  size ← such_that u32 (λ s. same (nat_eq defined 0) (nat_eq s 0))
  count ← such_that u32 (λ c. not (nat_eq defined 0) || nat_eq c 0)
  cells ← items (λ c. c) (cell n size) None count
  done (record { symbol = symbol; ty = ty; linkage = linkage; defined = defined; size = size; cells = cells })

-- ---- functions

unfoldable pub func : (version n : ℕ) → (before : Option ℕ) → Decoder FuncView
func version n before = do
  symbol ← next_name n before
  ty ← name n
  linkage ← such_that u8 (λ l. nat_lt l 3)
  flags ← such_that u8 flags_fit
  definition ← such_that (name_or_none n) (λ t. same (nat_eq linkage 2 && bit 0 flags) (nat_lt 0 t))
  frame ← such_that u32 (λ f. bit 0 flags || nat_eq f 0)
  plain ← when (bit 0 flags) (body version n)
  safe ← when (bit 1 flags) (body version n)
  done (record { symbol = symbol; ty = ty; linkage = linkage; flags = flags; text = definition; frame = frame; plain = plain; safe = safe })
