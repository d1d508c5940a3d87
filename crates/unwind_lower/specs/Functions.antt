-- Functions.
use Rattle.std.specs.Prelude.{◌≡◌, Bool, ℕ, ◌+◌, List, [], ◌∷◌, take, map}
use Rattle.cpp_tree.specs.cpp_types.Typ.{Typ, typ, typ_of}
use Rattle.cpp_tree.specs.cpp_types.declared.classes.At.{At}
use Rattle.cpp_tree.specs.declared.arena.TNodeId.{TNodeId}
use Rattle.tx_code.specs.declared.body.Row.{Row}
use Rattle.tx_code.specs.declared.instr.Instr.TheVariants.{Swap, FrameAddr}
use Rattle.low_code.specs.declared.scopes.Scope.{Scope}
use Rattle.low_code.specs.declared.writer.LowInstr.{LowInstr}
use Rattle.low_code.specs.Numbers.{store}
use Rattle.low_code.specs.Types.{stored_kind}
use Rattle.low_code.specs.Rows.{rows_in}
use Rattle.low_code.specs.Writer as low
use Rattle.unwind_lower.specs.declared.items.Way.TheVariants.{Dropped}
use Rattle.unwind_lower.specs.declared.items.Item.TheVariants.{Run, BodyEnds, Pads}
use Rattle.unwind_lower.specs.States.{State, later, put}
use Rattle.unwind_lower.specs.Settings.{Setting, node_in, place_in}
use Rattle.unwind_lower.specs.Steps.{Writes}

-- ---- the words of a call

abbrev pub is_volatile : Typ → Bool
is_volatile (typ form c v) = v

-- the word on top is stored at an offset of the frame
unfoldable pub store_word : ℕ → Typ → At → State → State
store_word offset t at s = put (store (stored_kind t) (is_volatile t)) at (put Swap at (put (FrameAddr offset) at s))

-- words are stored at the places of items of the frame of these types, from a place on
unfoldable pub store_each : Setting → ℕ → List Typ → At → State → State
store_each g place [] at s = s
store_each g place (t ∷ ts) at s = store_each g (place + 1) ts at (store_word (place_in g place) t at s)

-- the types of the words of a call
abbrev pub word_typs : Setting → List Typ
word_typs g = take g.func.words (map typ_of g.func.frame.items)

unfoldable pub store_words : Setting → At → State → State
store_words g at s = store_each g 0 (word_typs g) at s

-- ---- the whole

-- nothing is written yet
abbrev pub begun : Setting → List (List ℕ) → At → State
begun g names at = record { names = names; body = low.begun g.func.words at; work = [] }

-- the words are stored, and the body is to be written
unfoldable pub started : Setting → TNodeId → At → State → State
started g root at s = later (Run root Dropped) (later (BodyEnds at) (store_words g at s))

-- the body is written, and then the ways out for exceptions
pub record WrittenTo (g : Setting) (root : TNodeId) (at : At) (from to : State) : Type 0 where
  pub body : State
  pub body_written : Writes g (started g root at from) body
  pub pads_written : Writes g (later (Pads 0) body) to

-- what is written of a function with this body, where the table has names before and after
pub record Lowered (g : Setting) (root : TNodeId) (before : List (List ℕ)) (code : List LowInstr) (scopes : List Scope) (rows : List Row)
    (after : List (List ℕ)) : Type 0 where
  pub whole : State
  pub all_written : WrittenTo g root (node_in g root).at (begun g before (node_in g root).at) whole
  pub code_is : code ≡ whole.body.code
  pub scopes_is : scopes ≡ whole.body.scopes
  pub rows_is : rows ≡ rows_in whole.body
  pub names_is : after ≡ whole.names
