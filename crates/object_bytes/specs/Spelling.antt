-- The one spelling of each object: the bytes of its fields in their order. Numbers are little-endian, and a list is its
-- length, of four bytes, and its items.
use Rattle.std.specs.Prelude.{Bool, true, ◌≡◌, ◌&&◌, ◌^◌, nat_lt, ℕ, ◌+◌, List, [], ◌∷◌, ◌++◌, length, Option, Some, None, nat_eq, if◌then◌else◌}
use Rattle.std.specs.List.{flat_map, list_all}
use Rattle.std.specs.Option.{option_map_or}
use Rattle.std.specs.Str.{bytes_eq}
use Rattle.std.specs.Int.{w32, w64, to_le_bytes}
use Rattle.tx_code.specs.declared.instr.Instr.{Instr}
use Rattle.tx_code.specs.declared.instr.Instr.TheVariants.{Push, Dup, Pop, Swap, FrameAddr, GlobalAddr, FuncAddr, ClassAddr, Load, Store, TLoad, TStore, VLoad}
use Rattle.tx_code.specs.declared.instr.Instr.TheVariants.{VStore, Bin, Neg, Conv, Jump, JumpZero, Call, TCall, CallIndirect, TCallIndirect, Slot, Ret, Begin}
use Rattle.tx_code.specs.declared.instr.Instr.TheVariants.{End, BeginSync, EndSync, Out, Inp, Spawn, Join, Abort, NewException, PutException, Throw, Rethrow}
use Rattle.tx_code.specs.declared.instr.Instr.TheVariants.{GetException, EndHandler, Resume, Over}
use Rattle.tx_code.specs.declared.body.Row.{Row}
use Rattle.tx_code.specs.declared.body.LineRow.{LineRow}
use Rattle.tx_code.specs.declared.object.ObjMember.{ObjMember}
use Rattle.tx_code.specs.declared.object.ObjCell.{ObjCell}
use Rattle.tx_code.specs.Objects.{BodyView, ClassView, GlobalView, FuncView, ObjectView}
use Rattle.tx_code.specs.WellFormed.{IsObject}

unfoldable pub u32_bytes : ℕ → List ℕ
u32_bytes n = to_le_bytes w32 n

unfoldable pub u64_bytes : ℕ → List ℕ
u64_bytes n = to_le_bytes w64 n

abbrev pub u8_bytes : ℕ → List ℕ
u8_bytes n = n ∷ []

-- one field after the other
abbrev pub fields : List (List ℕ) → List ℕ
fields [] = []
fields (f ∷ []) = f
fields (f ∷ g ∷ fs) = f ++ fields (g ∷ fs)

abbrev pub list_bytes : {A : Type 0} → (A → List ℕ) → List A → List ℕ
list_bytes item xs = u32_bytes (length xs) ++ flat_map item xs

abbrev pub name_bytes : List ℕ → List ℕ
name_bytes name = u32_bytes (length name) ++ name

-- ---- bodies

-- the op byte, and the operands
unfoldable pub instr_bytes : Instr → List ℕ
instr_bytes (Push v) = 0 ∷ u64_bytes v
instr_bytes Dup = 1 ∷ []
instr_bytes Pop = 2 ∷ []
instr_bytes Swap = 3 ∷ []
instr_bytes (FrameAddr n) = 4 ∷ u32_bytes n
instr_bytes (GlobalAddr s) = 5 ∷ u32_bytes s
instr_bytes (FuncAddr s) = 6 ∷ u32_bytes s
instr_bytes (ClassAddr s) = 7 ∷ u32_bytes s
instr_bytes (Load k) = 8 ∷ k ∷ []
instr_bytes (Store k) = 9 ∷ k ∷ []
instr_bytes (TLoad k) = 10 ∷ k ∷ []
instr_bytes (TStore k) = 11 ∷ k ∷ []
instr_bytes (VLoad k) = 12 ∷ k ∷ []
instr_bytes (VStore k) = 13 ∷ k ∷ []
instr_bytes (Bin op k) = 14 ∷ op ∷ k ∷ []
instr_bytes (Neg k) = 15 ∷ k ∷ []
instr_bytes (Conv k to) = 16 ∷ k ∷ to ∷ []
instr_bytes (Jump n) = 17 ∷ u32_bytes n
instr_bytes (JumpZero n) = 18 ∷ u32_bytes n
instr_bytes (Call s n) = 19 ∷ u32_bytes s ++ n ∷ []
instr_bytes (TCall s n) = 20 ∷ u32_bytes s ++ n ∷ []
instr_bytes (CallIndirect ty n) = 21 ∷ u32_bytes ty ++ n ∷ []
instr_bytes (TCallIndirect ty n) = 22 ∷ u32_bytes ty ++ n ∷ []
instr_bytes (Slot c n) = 23 ∷ u32_bytes c ++ u32_bytes n
instr_bytes (Ret n) = 24 ∷ n ∷ []
instr_bytes (Begin k) = 25 ∷ k ∷ []
instr_bytes End = 26 ∷ []
instr_bytes BeginSync = 27 ∷ []
instr_bytes EndSync = 28 ∷ []
instr_bytes Out = 29 ∷ []
instr_bytes Inp = 30 ∷ []
instr_bytes Spawn = 31 ∷ []
instr_bytes Join = 32 ∷ []
instr_bytes Abort = 33 ∷ []
instr_bytes (NewException ty) = 34 ∷ u32_bytes ty
instr_bytes (PutException n k) = 35 ∷ n ∷ k ∷ []
instr_bytes Throw = 36 ∷ []
instr_bytes Rethrow = 37 ∷ []
instr_bytes (GetException n k) = 38 ∷ n ∷ k ∷ []
instr_bytes EndHandler = 39 ∷ []
instr_bytes Resume = 40 ∷ []
instr_bytes Over = 41 ∷ []

abbrev pub row_bytes : Row → List ℕ
row_bytes r = fields (u32_bytes r.from ∷ u32_bytes r.to ∷ u32_bytes r.target ∷ u8_bytes r.what ∷ u32_bytes r.ty ∷ u32_bytes r.depth ∷ [])

abbrev pub line_bytes : LineRow → List ℕ
line_bytes l = fields (u32_bytes l.from ∷ u32_bytes l.line ∷ [])

-- a body of an object of version 1 has no line rows
abbrev pub lines_bytes : (version : ℕ) → List LineRow → List ℕ
lines_bytes version lines = if nat_eq version 2 then list_bytes line_bytes lines else []

abbrev pub body_bytes : (version : ℕ) → BodyView → List ℕ
body_bytes version b = fields (list_bytes instr_bytes b.code ∷ list_bytes row_bytes b.rows ∷ lines_bytes version b.lines ∷ [])

-- ---- entries

abbrev pub member_bytes : ObjMember → List ℕ
member_bytes m = fields (u32_bytes m.name ∷ u32_bytes m.offset ∷ u32_bytes m.ty ∷ [])

abbrev pub class_bytes : ClassView → List ℕ
class_bytes c = fields (u32_bytes c.name ∷ u32_bytes c.size ∷ u32_bytes c.align ∷ u32_bytes c.base ∷ u32_bytes c.pointer ∷ u32_bytes c.text
    ∷ list_bytes member_bytes c.members ∷ list_bytes u32_bytes c.slots ∷ [])

abbrev pub cell_bytes : ObjCell → List ℕ
cell_bytes c = fields (u32_bytes c.offset ∷ u8_bytes c.size ∷ u8_bytes c.what ∷ u64_bytes c.value ∷ u32_bytes c.symbol ∷ [])

abbrev pub global_bytes : GlobalView → List ℕ
global_bytes g = fields (u32_bytes g.symbol ∷ u32_bytes g.ty ∷ u8_bytes g.linkage ∷ u8_bytes g.defined ∷ u32_bytes g.size ∷ list_bytes cell_bytes g.cells ∷ [])

-- there is a body exactly where the flags say so
abbrev pub some_bytes : (version : ℕ) → Option BodyView → List ℕ
some_bytes version b = option_map_or (body_bytes version) b []

abbrev pub func_bytes : (version : ℕ) → FuncView → List ℕ
func_bytes version f = fields (u32_bytes f.symbol ∷ u32_bytes f.ty ∷ u8_bytes f.linkage ∷ u8_bytes f.flags ∷ u32_bytes f.text ∷ u32_bytes f.frame
    ∷ some_bytes version f.plain ∷ some_bytes version f.safe ∷ [])

-- ---- objects

-- `TXOB`
abbrev pub magic : List ℕ
magic = 84 ∷ 88 ∷ 79 ∷ 66 ∷ []

-- the number of a name, counted from i on
abbrev pub number_of : (i : ℕ) → List (List ℕ) → List ℕ → ℕ
number_of i [] name = i
number_of i (other ∷ names) name = if bytes_eq name other then i else number_of (i + 1) names name

-- the number of the source's name plus 1, or 0
abbrev pub source_number : List (List ℕ) → Option (List ℕ) → ℕ
source_number names None = 0
source_number names (Some name) = number_of 1 names name

abbrev pub source_bytes : (version : ℕ) → List (List ℕ) → Option (List ℕ) → List ℕ
source_bytes version names source = if nat_eq version 2 then u32_bytes (source_number names source) else []

unfoldable pub object_bytes : ObjectView → List ℕ
object_bytes o = fields (magic ∷ u32_bytes o.version ∷ list_bytes name_bytes o.names ∷ source_bytes o.version o.names o.source
    ∷ list_bytes class_bytes o.classes ∷ list_bytes global_bytes o.globals ∷ list_bytes (func_bytes o.version) o.funcs ∷ [])

-- ---- how large the numbers are

abbrev pub is_u8 : ℕ → Bool
is_u8 n = nat_lt n (2 ^ 8)

abbrev pub is_u32 : ℕ → Bool
is_u32 n = nat_lt n (2 ^ 32)

abbrev pub is_u64 : ℕ → Bool
is_u64 n = nat_lt n (2 ^ 64)

unfoldable pub instr_is_wide : Instr → Bool
instr_is_wide (Push v) = is_u64 v
instr_is_wide (FrameAddr n) = is_u32 n
instr_is_wide (GlobalAddr s) = is_u32 s
instr_is_wide (FuncAddr s) = is_u32 s
instr_is_wide (ClassAddr s) = is_u32 s
instr_is_wide (Load k) = is_u8 k
instr_is_wide (Store k) = is_u8 k
instr_is_wide (TLoad k) = is_u8 k
instr_is_wide (TStore k) = is_u8 k
instr_is_wide (VLoad k) = is_u8 k
instr_is_wide (VStore k) = is_u8 k
instr_is_wide (Bin op k) = is_u8 op && is_u8 k
instr_is_wide (Neg k) = is_u8 k
instr_is_wide (Conv k to) = is_u8 k && is_u8 to
instr_is_wide (Jump n) = is_u32 n
instr_is_wide (JumpZero n) = is_u32 n
instr_is_wide (Call s n) = is_u32 s && is_u8 n
instr_is_wide (TCall s n) = is_u32 s && is_u8 n
instr_is_wide (CallIndirect ty n) = is_u32 ty && is_u8 n
instr_is_wide (TCallIndirect ty n) = is_u32 ty && is_u8 n
instr_is_wide (Slot c n) = is_u32 c && is_u32 n
instr_is_wide (Ret n) = is_u8 n
instr_is_wide (Begin k) = is_u8 k
instr_is_wide (NewException ty) = is_u32 ty
instr_is_wide (PutException n k) = is_u8 n && is_u8 k
instr_is_wide (GetException n k) = is_u8 n && is_u8 k
instr_is_wide i = true

abbrev pub row_is_wide : Row → Bool
row_is_wide r = is_u32 r.from && is_u32 r.to && is_u32 r.target && is_u8 r.what && is_u32 r.ty && is_u32 r.depth

abbrev pub line_is_wide : LineRow → Bool
line_is_wide l = is_u32 l.from && is_u32 l.line

abbrev pub body_is_wide : BodyView → Bool
body_is_wide b = list_all instr_is_wide b.code && list_all row_is_wide b.rows && list_all line_is_wide b.lines

abbrev pub member_is_wide : ObjMember → Bool
member_is_wide m = is_u32 m.name && is_u32 m.offset && is_u32 m.ty

abbrev pub class_is_wide : ClassView → Bool
class_is_wide c = is_u32 c.name && is_u32 c.size && is_u32 c.align && is_u32 c.base && is_u32 c.pointer && is_u32 c.text && list_all member_is_wide c.members
    && list_all is_u32 c.slots

abbrev pub cell_is_wide : ObjCell → Bool
cell_is_wide c = is_u32 c.offset && is_u8 c.size && is_u8 c.what && is_u64 c.value && is_u32 c.symbol

abbrev pub global_is_wide : GlobalView → Bool
global_is_wide g = is_u32 g.symbol && is_u32 g.ty && is_u8 g.linkage && is_u8 g.defined && is_u32 g.size && list_all cell_is_wide g.cells

abbrev pub some_is_wide : Option BodyView → Bool
some_is_wide b = option_map_or body_is_wide b true

abbrev pub func_is_wide : FuncView → Bool
func_is_wide f = is_u32 f.symbol && is_u32 f.ty && is_u8 f.linkage && is_u8 f.flags && is_u32 f.text && is_u32 f.frame && some_is_wide f.plain
    && some_is_wide f.safe

-- each number is one of the bits that the Rust types give it, and each byte of a name is a byte
unfoldable pub is_wide : ObjectView → Bool
is_wide o = is_u32 o.version && list_all (list_all is_u8) o.names && list_all class_is_wide o.classes && list_all global_is_wide o.globals
    && list_all func_is_wide o.funcs

-- ---- spelling

-- The bytes spell the object.
pub record Spells (o : ObjectView) (bytes : List ℕ) : Type 0 where
  pub object : IsObject o
  pub wide : is_wide o ≡ true
  pub bytes_are : bytes ≡ object_bytes o
