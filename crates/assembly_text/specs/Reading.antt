-- Which record a word and numbers make.
use Rattle.std.specs.Prelude.{ℕ, List, [], ◌∷◌, Option, Some, None}
use Rattle.tx_code.specs.declared.instr.Instr.TheVariants as instrs
use Rattle.object_bytes.specs.declared.op.Op.{Op}
use Rattle.object_bytes.specs.declared.op.Op.TheVariants.{Push, Dup, Pop, Swap, FrameAddr, GlobalAddr, FuncAddr, ClassAddr, Load, Store, TLoad, TStore, VLoad}
use Rattle.object_bytes.specs.declared.op.Op.TheVariants.{VStore, Bin, Neg, Conv, Jump, JumpZero, Call, TCall, CallIndirect, TCallIndirect, Slot, Ret, Begin}
use Rattle.object_bytes.specs.declared.op.Op.TheVariants.{End, BeginSync, EndSync, Out, Inp, Spawn, Join, Abort, NewException, PutException, Throw, Rethrow}
use Rattle.object_bytes.specs.declared.op.Op.TheVariants.{GetException, EndHandler, Resume, Over}
use Rattle.object_bytes.specs.Spelling.{is_u8, is_u32, is_u64}
use Rattle.assembly_text.specs.declared.key.Key.{Key}
use Rattle.assembly_text.specs.declared.key.Key.TheVariants as key
use Rattle.assembly_text.specs.declared.line.Record.{Record}
use Rattle.assembly_text.specs.declared.line.Record.TheVariants as record_of
use Rattle.assembly_text.specs.Words.{key_of}
use Rattle.assembly_text.specs.Options.{given, and_then}

infixl 10 ◌>>=◌
abbrev pub ◌>>=◌ : {A B : Type 0} → Option A → (A → Option B) → Option B
first >>= next = and_then first next

abbrev pub or_else : Option Record → Option Record → Option Record
or_else (Some r) other = Some r
or_else None other = other

-- ---- numbers of a width

abbrev pub long : ℕ → Option ℕ
long n = given (is_u64 n) n

abbrev pub word : ℕ → Option ℕ
word n = given (is_u32 n) n

abbrev pub byte : ℕ → Option ℕ
byte n = given (is_u8 n) n

abbrev pub alone : List ℕ → Record → Option Record
alone [] r = Some r
alone (a ∷ ns) r = None

abbrev pub one_long : List ℕ → Option ℕ
one_long (a ∷ []) = long a
one_long ns = None

abbrev pub one_word : List ℕ → Option ℕ
one_word (a ∷ []) = word a
one_word ns = None

abbrev pub one_byte : List ℕ → Option ℕ
one_byte (a ∷ []) = byte a
one_byte ns = None

abbrev pub two_bytes : List ℕ → Option (ℕ × ℕ)
two_bytes (a ∷ b ∷ []) = byte a >>= λ x. byte b >>= λ y. Some (x, y)
two_bytes ns = None

abbrev pub word_and_byte : List ℕ → Option (ℕ × ℕ)
word_and_byte (a ∷ b ∷ []) = word a >>= λ x. byte b >>= λ y. Some (x, y)
word_and_byte ns = None

abbrev pub two_words : List ℕ → Option (ℕ × ℕ)
two_words (a ∷ b ∷ []) = word a >>= λ x. word b >>= λ y. Some (x, y)
two_words ns = None

-- ---- records of several numbers

abbrev pub class_head : List ℕ → Option Record
class_head (a ∷ b ∷ c ∷ d ∷ e ∷ f ∷ []) = do
  x0 ← word a
  x1 ← word b
  x2 ← word c
  x3 ← word d
  x4 ← word e
  x5 ← word f
  Some (record_of.Class (record { name = x0; size = x1; align = x2; base = x3; pointer = x4; text = x5 }))
class_head ns = None

abbrev pub global_head : List ℕ → Option Record
global_head (a ∷ b ∷ c ∷ d ∷ e ∷ []) = do
  x0 ← word a
  x1 ← word b
  x2 ← byte c
  x3 ← byte d
  x4 ← word e
  Some (record_of.Global (record { symbol = x0; ty = x1; linkage = x2; defined = x3; size = x4 }))
global_head ns = None

abbrev pub func_head : List ℕ → Option Record
func_head (a ∷ b ∷ c ∷ d ∷ e ∷ f ∷ []) = do
  x0 ← word a
  x1 ← word b
  x2 ← byte c
  x3 ← byte d
  x4 ← word e
  x5 ← word f
  Some (record_of.Func (record { symbol = x0; ty = x1; linkage = x2; flags = x3; text = x4; frame = x5 }))
func_head ns = None

abbrev pub member_of : List ℕ → Option Record
member_of (a ∷ b ∷ c ∷ []) = do
  x0 ← word a
  x1 ← word b
  x2 ← word c
  Some (record_of.Member (record { name = x0; offset = x1; ty = x2 }))
member_of ns = None

abbrev pub cell_of : List ℕ → Option Record
cell_of (a ∷ b ∷ c ∷ d ∷ e ∷ []) = do
  x0 ← word a
  x1 ← byte b
  x2 ← byte c
  x3 ← long d
  x4 ← word e
  Some (record_of.Cell (record { offset = x0; size = x1; what = x2; value = x3; symbol = x4 }))
cell_of ns = None

abbrev pub row_of : List ℕ → Option Record
row_of (a ∷ b ∷ c ∷ d ∷ e ∷ f ∷ []) = do
  x0 ← word a
  x1 ← word b
  x2 ← word c
  x3 ← byte d
  x4 ← word e
  x5 ← word f
  Some (record_of.Row (record { from = x0; to = x1; target = x2; what = x3; ty = x4; depth = x5 }))
row_of ns = None

abbrev pub line_of : List ℕ → Option Record
line_of (a ∷ b ∷ []) = do
  x0 ← word a
  x1 ← word b
  Some (record_of.Line (record { from = x0; line = x1 }))
line_of ns = None

-- ---- by the word

unfoldable pub made_by_op : Op → List ℕ → Option Record
made_by_op Push ns = one_long ns >>= λ a. Some (record_of.Code (instrs.Push a))
made_by_op Dup ns = alone ns (record_of.Code instrs.Dup)
made_by_op Pop ns = alone ns (record_of.Code instrs.Pop)
made_by_op Swap ns = alone ns (record_of.Code instrs.Swap)
made_by_op FrameAddr ns = one_word ns >>= λ a. Some (record_of.Code (instrs.FrameAddr a))
made_by_op GlobalAddr ns = or_else (one_word ns >>= λ a. Some (record_of.Code (instrs.GlobalAddr a))) (global_head ns)
made_by_op FuncAddr ns = or_else (one_word ns >>= λ a. Some (record_of.Code (instrs.FuncAddr a))) (func_head ns)
made_by_op ClassAddr ns = or_else (one_word ns >>= λ a. Some (record_of.Code (instrs.ClassAddr a))) (class_head ns)
made_by_op Load ns = one_byte ns >>= λ a. Some (record_of.Code (instrs.Load a))
made_by_op Store ns = one_byte ns >>= λ a. Some (record_of.Code (instrs.Store a))
made_by_op TLoad ns = one_byte ns >>= λ a. Some (record_of.Code (instrs.TLoad a))
made_by_op TStore ns = one_byte ns >>= λ a. Some (record_of.Code (instrs.TStore a))
made_by_op VLoad ns = one_byte ns >>= λ a. Some (record_of.Code (instrs.VLoad a))
made_by_op VStore ns = one_byte ns >>= λ a. Some (record_of.Code (instrs.VStore a))
made_by_op Bin ns = two_bytes ns >>= λ p. Some (record_of.Code (instrs.Bin p.0 p.1))
made_by_op Neg ns = one_byte ns >>= λ a. Some (record_of.Code (instrs.Neg a))
made_by_op Conv ns = two_bytes ns >>= λ p. Some (record_of.Code (instrs.Conv p.0 p.1))
made_by_op Jump ns = one_word ns >>= λ a. Some (record_of.Code (instrs.Jump a))
made_by_op JumpZero ns = one_word ns >>= λ a. Some (record_of.Code (instrs.JumpZero a))
made_by_op Call ns = word_and_byte ns >>= λ p. Some (record_of.Code (instrs.Call p.0 p.1))
made_by_op TCall ns = word_and_byte ns >>= λ p. Some (record_of.Code (instrs.TCall p.0 p.1))
made_by_op CallIndirect ns = word_and_byte ns >>= λ p. Some (record_of.Code (instrs.CallIndirect p.0 p.1))
made_by_op TCallIndirect ns = word_and_byte ns >>= λ p. Some (record_of.Code (instrs.TCallIndirect p.0 p.1))
made_by_op Slot ns = or_else (one_word ns >>= λ a. Some (record_of.Slot a)) (two_words ns >>= λ p. Some (record_of.Code (instrs.Slot p.0 p.1)))
made_by_op Ret ns = one_byte ns >>= λ a. Some (record_of.Code (instrs.Ret a))
made_by_op Begin ns = one_byte ns >>= λ a. Some (record_of.Code (instrs.Begin a))
made_by_op End ns = alone ns record_of.End
made_by_op BeginSync ns = alone ns (record_of.Code instrs.BeginSync)
made_by_op EndSync ns = alone ns (record_of.Code instrs.EndSync)
made_by_op Out ns = alone ns (record_of.Code instrs.Out)
made_by_op Inp ns = alone ns (record_of.Code instrs.Inp)
made_by_op Spawn ns = alone ns (record_of.Code instrs.Spawn)
made_by_op Join ns = alone ns (record_of.Code instrs.Join)
made_by_op Abort ns = alone ns (record_of.Code instrs.Abort)
made_by_op NewException ns = one_word ns >>= λ a. Some (record_of.Code (instrs.NewException a))
made_by_op PutException ns = two_bytes ns >>= λ p. Some (record_of.Code (instrs.PutException p.0 p.1))
made_by_op Throw ns = alone ns (record_of.Code instrs.Throw)
made_by_op Rethrow ns = alone ns (record_of.Code instrs.Rethrow)
made_by_op GetException ns = two_bytes ns >>= λ p. Some (record_of.Code (instrs.GetException p.0 p.1))
made_by_op EndHandler ns = alone ns (record_of.Code instrs.EndHandler)
made_by_op Resume ns = alone ns (record_of.Code instrs.Resume)
made_by_op Over ns = alone ns (record_of.Code instrs.Over)

unfoldable pub made : Key → List ℕ → Option Record
made key.Txob ns = one_word ns >>= λ a. Some (record_of.Txob a)
made key.Source ns = one_word ns >>= λ a. Some (record_of.Source a)
made key.Member ns = member_of ns
made key.Cell ns = cell_of ns
made key.Plain ns = alone ns record_of.Plain
made key.Safe ns = alone ns record_of.Safe
made key.Row ns = row_of ns
made key.Line ns = line_of ns
made (key.Op op) ns = made_by_op op ns

unfoldable pub record_by : (word numbers : List ℕ) → Option Record
record_by word ns = key_of word >>= λ key. made key ns
