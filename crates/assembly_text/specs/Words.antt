-- Lines of a word and numbers.
use Rattle.std.specs.Prelude.{ℕ, List, [], ◌∷◌, ◌++◌, codes, Option, Some, None, if◌then◌else◌}
use Rattle.std.specs.List.{flat_map}
use Rattle.std.specs.Str.{bytes_eq}
use Rattle.std.specs.Fmt.{decimal}
use Rattle.object_bytes.specs.declared.op.Op.TheVariants as op
use Rattle.assembly_text.specs.declared.key.Key.{Key}
use Rattle.assembly_text.specs.declared.key.Key.TheVariants as key

pub record Words : Type 0 where
  pub word : List ℕ
  pub numbers : List ℕ

-- a space, and the number in decimal
abbrev pub number_text : ℕ → List ℕ
number_text n = 32 ∷ decimal n

-- the numbers, and the end of the line
abbrev pub numbers_text : List ℕ → List ℕ
numbers_text ns = flat_map number_text ns ++ 10 ∷ []

abbrev pub words_text : Words → List ℕ
words_text w = w.word ++ numbers_text w.numbers

-- ---- words

pub record Keyed : Type 0 where
  pub word : List ℕ
  pub key : Key

-- the words of lines, and the mnemonics of instructions, some of which also begin lines of entries
unfoldable pub keys : List Keyed
keys =
    record { word = codes "txob"; key = key.Txob }
    ∷ record { word = codes "source"; key = key.Source }
    ∷ record { word = codes "member"; key = key.Member }
    ∷ record { word = codes "cell"; key = key.Cell }
    ∷ record { word = codes "plain"; key = key.Plain }
    ∷ record { word = codes "safe"; key = key.Safe }
    ∷ record { word = codes "row"; key = key.Row }
    ∷ record { word = codes "line"; key = key.Line }
    ∷ record { word = codes "push"; key = key.Op op.Push }
    ∷ record { word = codes "dup"; key = key.Op op.Dup }
    ∷ record { word = codes "drop"; key = key.Op op.Pop }
    ∷ record { word = codes "swap"; key = key.Op op.Swap }
    ∷ record { word = codes "frame"; key = key.Op op.FrameAddr }
    ∷ record { word = codes "global"; key = key.Op op.GlobalAddr }
    ∷ record { word = codes "func"; key = key.Op op.FuncAddr }
    ∷ record { word = codes "class"; key = key.Op op.ClassAddr }
    ∷ record { word = codes "load"; key = key.Op op.Load }
    ∷ record { word = codes "store"; key = key.Op op.Store }
    ∷ record { word = codes "tload"; key = key.Op op.TLoad }
    ∷ record { word = codes "tstore"; key = key.Op op.TStore }
    ∷ record { word = codes "vload"; key = key.Op op.VLoad }
    ∷ record { word = codes "vstore"; key = key.Op op.VStore }
    ∷ record { word = codes "bin"; key = key.Op op.Bin }
    ∷ record { word = codes "neg"; key = key.Op op.Neg }
    ∷ record { word = codes "conv"; key = key.Op op.Conv }
    ∷ record { word = codes "jump"; key = key.Op op.Jump }
    ∷ record { word = codes "jzero"; key = key.Op op.JumpZero }
    ∷ record { word = codes "call"; key = key.Op op.Call }
    ∷ record { word = codes "tcall"; key = key.Op op.TCall }
    ∷ record { word = codes "calli"; key = key.Op op.CallIndirect }
    ∷ record { word = codes "tcalli"; key = key.Op op.TCallIndirect }
    ∷ record { word = codes "slot"; key = key.Op op.Slot }
    ∷ record { word = codes "ret"; key = key.Op op.Ret }
    ∷ record { word = codes "begin"; key = key.Op op.Begin }
    ∷ record { word = codes "end"; key = key.Op op.End }
    ∷ record { word = codes "bsync"; key = key.Op op.BeginSync }
    ∷ record { word = codes "esync"; key = key.Op op.EndSync }
    ∷ record { word = codes "out"; key = key.Op op.Out }
    ∷ record { word = codes "inp"; key = key.Op op.Inp }
    ∷ record { word = codes "spawn"; key = key.Op op.Spawn }
    ∷ record { word = codes "join"; key = key.Op op.Join }
    ∷ record { word = codes "abort"; key = key.Op op.Abort }
    ∷ record { word = codes "xnew"; key = key.Op op.NewException }
    ∷ record { word = codes "xput"; key = key.Op op.PutException }
    ∷ record { word = codes "throw"; key = key.Op op.Throw }
    ∷ record { word = codes "rethrow"; key = key.Op op.Rethrow }
    ∷ record { word = codes "xget"; key = key.Op op.GetException }
    ∷ record { word = codes "xdone"; key = key.Op op.EndHandler }
    ∷ record { word = codes "resume"; key = key.Op op.Resume }
    ∷ record { word = codes "over"; key = key.Op op.Over }
    ∷ []

abbrev pub key_by : List Keyed → List ℕ → Option Key
key_by [] word = None
key_by (row ∷ rows) word = if bytes_eq row.word word then Some row.key else key_by rows word

unfoldable pub key_of : List ℕ → Option Key
key_of word = key_by keys word
