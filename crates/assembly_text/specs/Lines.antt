-- The text of an object: its lines, one for each record, each ended by byte 10.
use Rattle.std.specs.Prelude.{◌≡◌, Bool, true, false, ℕ, ◌+◌, ◌/◌, ◌%◌, List, [], ◌∷◌, ◌++◌, map, codes, Option, not, ◌&&◌, nat_lt, nat_le, nat_eq}
use Rattle.std.specs.Prelude.{if◌then◌else◌}
use Rattle.std.specs.List.{flat_map}
use Rattle.std.specs.Option.{option_map_or}
use Rattle.tx_code.specs.declared.instr.Instr.{Instr}
use Rattle.tx_code.specs.declared.instr.Instr.TheVariants.{Push, Dup, Pop, Swap, FrameAddr, GlobalAddr, FuncAddr, ClassAddr, Load, Store, TLoad, TStore, VLoad}
use Rattle.tx_code.specs.declared.instr.Instr.TheVariants.{VStore, Bin, Neg, Conv, Jump, JumpZero, Call, TCall, CallIndirect, TCallIndirect, Slot, Ret, Begin}
use Rattle.tx_code.specs.declared.instr.Instr.TheVariants.{End, BeginSync, EndSync, Out, Inp, Spawn, Join, Abort, NewException, PutException, Throw, Rethrow}
use Rattle.tx_code.specs.declared.instr.Instr.TheVariants.{GetException, EndHandler, Resume, Over}
use Rattle.tx_code.specs.declared.body.Row.{Row}
use Rattle.tx_code.specs.declared.body.LineRow.{LineRow}
use Rattle.tx_code.specs.Objects.{BodyView, ClassView, GlobalView, FuncView, ObjectView}
use Rattle.object_bytes.specs.Spelling.{is_u8, is_u32, instr_is_wide, row_is_wide, line_is_wide, member_is_wide, cell_is_wide, source_number}
use Rattle.assembly_text.specs.declared.line.ClassHead.{ClassHead}
use Rattle.assembly_text.specs.declared.line.GlobalHead.{GlobalHead}
use Rattle.assembly_text.specs.declared.line.FuncHead.{FuncHead}
use Rattle.assembly_text.specs.declared.line.Record.{Record}
use Rattle.assembly_text.specs.declared.line.Record.TheVariants as record_of
use Rattle.assembly_text.specs.Words.{Words, words_text}

-- ---- names

-- from 32 to 126, and neither `"` nor `\`
abbrev pub is_plain : ℕ → Bool
is_plain b = nat_le 32 b && nat_le b 126 && not (nat_eq b 34) && not (nat_eq b 92)

-- a hexadecimal digit, in lower case
abbrev pub hex : ℕ → ℕ
hex d = if nat_lt d 10 then 48 + d else 87 + d

-- as it is, or as `\x` and two digits
abbrev pub byte_text : ℕ → List ℕ
byte_text b = if is_plain b then b ∷ [] else 92 ∷ 120 ∷ hex (b / 16) ∷ hex (b % 16) ∷ []

-- behind the word: the name in quotes, and the end of the line
abbrev pub quoted_text : List ℕ → List ℕ
quoted_text name = 32 ∷ 34 ∷ (flat_map byte_text name ++ 34 ∷ 10 ∷ [])

abbrev pub name_text : List ℕ → List ℕ
name_text name = codes "name" ++ quoted_text name

-- ---- records

-- the mnemonic and the operands
abbrev pub code_words : Instr → Words
code_words (Push a) = record { word = codes "push"; numbers = a ∷ [] }
code_words Dup = record { word = codes "dup"; numbers = [] }
code_words Pop = record { word = codes "drop"; numbers = [] }
code_words Swap = record { word = codes "swap"; numbers = [] }
code_words (FrameAddr a) = record { word = codes "frame"; numbers = a ∷ [] }
code_words (GlobalAddr a) = record { word = codes "global"; numbers = a ∷ [] }
code_words (FuncAddr a) = record { word = codes "func"; numbers = a ∷ [] }
code_words (ClassAddr a) = record { word = codes "class"; numbers = a ∷ [] }
code_words (Load a) = record { word = codes "load"; numbers = a ∷ [] }
code_words (Store a) = record { word = codes "store"; numbers = a ∷ [] }
code_words (TLoad a) = record { word = codes "tload"; numbers = a ∷ [] }
code_words (TStore a) = record { word = codes "tstore"; numbers = a ∷ [] }
code_words (VLoad a) = record { word = codes "vload"; numbers = a ∷ [] }
code_words (VStore a) = record { word = codes "vstore"; numbers = a ∷ [] }
code_words (Bin a b) = record { word = codes "bin"; numbers = a ∷ b ∷ [] }
code_words (Neg a) = record { word = codes "neg"; numbers = a ∷ [] }
code_words (Conv a b) = record { word = codes "conv"; numbers = a ∷ b ∷ [] }
code_words (Jump a) = record { word = codes "jump"; numbers = a ∷ [] }
code_words (JumpZero a) = record { word = codes "jzero"; numbers = a ∷ [] }
code_words (Call a b) = record { word = codes "call"; numbers = a ∷ b ∷ [] }
code_words (TCall a b) = record { word = codes "tcall"; numbers = a ∷ b ∷ [] }
code_words (CallIndirect a b) = record { word = codes "calli"; numbers = a ∷ b ∷ [] }
code_words (TCallIndirect a b) = record { word = codes "tcalli"; numbers = a ∷ b ∷ [] }
code_words (Slot a b) = record { word = codes "slot"; numbers = a ∷ b ∷ [] }
code_words (Ret a) = record { word = codes "ret"; numbers = a ∷ [] }
code_words (Begin a) = record { word = codes "begin"; numbers = a ∷ [] }
code_words End = record { word = codes "end"; numbers = [] }
code_words BeginSync = record { word = codes "bsync"; numbers = [] }
code_words EndSync = record { word = codes "esync"; numbers = [] }
code_words Out = record { word = codes "out"; numbers = [] }
code_words Inp = record { word = codes "inp"; numbers = [] }
code_words Spawn = record { word = codes "spawn"; numbers = [] }
code_words Join = record { word = codes "join"; numbers = [] }
code_words Abort = record { word = codes "abort"; numbers = [] }
code_words (NewException a) = record { word = codes "xnew"; numbers = a ∷ [] }
code_words (PutException a b) = record { word = codes "xput"; numbers = a ∷ b ∷ [] }
code_words Throw = record { word = codes "throw"; numbers = [] }
code_words Rethrow = record { word = codes "rethrow"; numbers = [] }
code_words (GetException a b) = record { word = codes "xget"; numbers = a ∷ b ∷ [] }
code_words EndHandler = record { word = codes "xdone"; numbers = [] }
code_words Resume = record { word = codes "resume"; numbers = [] }
code_words Over = record { word = codes "over"; numbers = [] }

abbrev pub class_words : ClassHead → Words
class_words c = record { word = codes "class"; numbers = c.name ∷ c.size ∷ c.align ∷ c.base ∷ c.pointer ∷ c.text ∷ [] }

abbrev pub global_words : GlobalHead → Words
global_words g = record { word = codes "global"; numbers = g.symbol ∷ g.ty ∷ g.linkage ∷ g.defined ∷ g.size ∷ [] }

abbrev pub func_words : FuncHead → Words
func_words f = record { word = codes "func"; numbers = f.symbol ∷ f.ty ∷ f.linkage ∷ f.flags ∷ f.text ∷ f.frame ∷ [] }

abbrev pub row_words : Row → Words
row_words r = record { word = codes "row"; numbers = r.from ∷ r.to ∷ r.target ∷ r.what ∷ r.ty ∷ r.depth ∷ [] }

abbrev pub words_of : Record → Words
words_of (record_of.Txob version) = record { word = codes "txob"; numbers = version ∷ [] }
words_of (record_of.Source number) = record { word = codes "source"; numbers = number ∷ [] }
words_of (record_of.Class c) = class_words c
words_of (record_of.Member m) = record { word = codes "member"; numbers = m.name ∷ m.offset ∷ m.ty ∷ [] }
words_of (record_of.Slot number) = record { word = codes "slot"; numbers = number ∷ [] }
words_of (record_of.Global g) = global_words g
words_of (record_of.Cell c) = record { word = codes "cell"; numbers = c.offset ∷ c.size ∷ c.what ∷ c.value ∷ c.symbol ∷ [] }
words_of (record_of.Func f) = func_words f
words_of record_of.Plain = record { word = codes "plain"; numbers = [] }
words_of record_of.Safe = record { word = codes "safe"; numbers = [] }
words_of (record_of.Code i) = code_words i
words_of (record_of.Row r) = row_words r
words_of (record_of.Line l) = record { word = codes "line"; numbers = l.from ∷ l.line ∷ [] }
words_of record_of.End = record { word = codes "end"; numbers = [] }

-- ---- lines

pub data Line : Type 0 where
  Name : List ℕ → Line
  Of : Record → Line

abbrev pub line_text : Line → List ℕ
line_text (Name name) = name_text name
line_text (Of r) = words_text (words_of r)

-- `end` leaves a block, or ends the text
abbrev pub code_line : Instr → Line
code_line End = Of record_of.End
code_line i = Of (record_of.Code i)

abbrev pub row_line : Row → Line
row_line r = Of (record_of.Row r)

abbrev pub number_line : LineRow → Line
number_line l = Of (record_of.Line l)

abbrev pub body_lines : BodyView → List Line
body_lines b = map code_line b.code ++ (map row_line b.rows ++ map number_line b.lines)

abbrev pub some_lines : (head : Record) → Option BodyView → List Line
some_lines head b = option_map_or (λ x. Of head ∷ body_lines x) b []

abbrev pub class_lines : ClassView → List Line
class_lines c =
    Of (record_of.Class (record { name = c.name; size = c.size; align = c.align; base = c.base; pointer = c.pointer; text = c.text }))
    ∷ (map (λ m. Of (record_of.Member m)) c.members ++ map (λ s. Of (record_of.Slot s)) c.slots)

abbrev pub global_lines : GlobalView → List Line
global_lines g =
    Of (record_of.Global (record { symbol = g.symbol; ty = g.ty; linkage = g.linkage; defined = g.defined; size = g.size }))
    ∷ map (λ c. Of (record_of.Cell c)) g.cells

abbrev pub func_lines : FuncView → List Line
func_lines f =
    Of (record_of.Func (record { symbol = f.symbol; ty = f.ty; linkage = f.linkage; flags = f.flags; text = f.text; frame = f.frame }))
    ∷ (some_lines record_of.Plain f.plain ++ some_lines record_of.Safe f.safe)

-- an object of version 1 has no source
abbrev pub source_lines : (version : ℕ) → List (List ℕ) → Option (List ℕ) → List Line
source_lines version names source = if nat_eq version 2 then Of (record_of.Source (source_number names source)) ∷ [] else []

-- all lines but the last
abbrev pub lines_of : ObjectView → List Line
lines_of o =
    Of (record_of.Txob o.version)
    ∷ (map Name o.names
    ++ (source_lines o.version o.names o.source
    ++ (flat_map class_lines o.classes
    ++ (flat_map global_lines o.globals
    ++ flat_map func_lines o.funcs))))

abbrev pub end_text : List ℕ
end_text = line_text (Of record_of.End)

unfoldable pub text_of : ObjectView → List ℕ
text_of o = flat_map line_text (lines_of o) ++ end_text

-- The text writes the object.
pub record Writes (o : ObjectView) (text : List ℕ) : Type 0 where
  pub text_is : text ≡ text_of o

-- ---- how large the numbers of a line are

-- the instruction `end` is no line of its own: the record is
abbrev pub not_end : Instr → Bool
not_end End = false
not_end i = true

abbrev pub record_is_wide : Record → Bool
record_is_wide (record_of.Txob version) = is_u32 version
record_is_wide (record_of.Source number) = is_u32 number
record_is_wide (record_of.Class c) = is_u32 c.name && is_u32 c.size && is_u32 c.align && is_u32 c.base && is_u32 c.pointer && is_u32 c.text
record_is_wide (record_of.Member m) = member_is_wide m
record_is_wide (record_of.Slot number) = is_u32 number
record_is_wide (record_of.Global g) = is_u32 g.symbol && is_u32 g.ty && is_u8 g.linkage && is_u8 g.defined && is_u32 g.size
record_is_wide (record_of.Cell c) = cell_is_wide c
record_is_wide (record_of.Func f) = is_u32 f.symbol && is_u32 f.ty && is_u8 f.linkage && is_u8 f.flags && is_u32 f.text && is_u32 f.frame
record_is_wide (record_of.Code i) = instr_is_wide i && not_end i
record_is_wide (record_of.Row r) = row_is_wide r
record_is_wide (record_of.Line l) = line_is_wide l
record_is_wide r = true
