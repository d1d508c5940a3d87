-- The words of a call.
use Rattle.std.proofs.Common.{List, [], ℕ, ◌+◌, ◌∷◌, Bool}
use Rattle.cpp_tree.specs.cpp_types.Typ.{Typ}
use Rattle.cpp_tree.specs.cpp_types.declared.classes.At.{At}
use Rattle.tx_code.specs.declared.instr.Instr.TheVariants.{FrameAddr, Swap}
use Rattle.low_code.specs.Numbers.{store}
use Rattle.low_code.specs.Types.{stored_kind}
use Rattle.unwind_lower.specs.Functions as functions
use Rattle.unwind_lower.specs.Functions.{is_volatile, word_typs}
use Rattle.unwind_lower.specs.Settings.{Setting, place_in}
use Rattle.unwind_lower.specs.States.{State}
use Rattle.lowered_apart.specs.Still.{Nodes}
use Rattle.lowered_apart.specs.Waiting.{Waiting}
use Rattle.lowered_apart.proofs.Basic.{put}

module _ {z : Nodes} where
  pub store_word : (offset : ℕ) (t : Typ) (at : At) {free : Bool} {s : State} → Waiting z free s → Waiting z free (functions.store_word offset t at s)
  unfolding functions.store_word
  store_word offset t at m = put (store (stored_kind t) (is_volatile t)) at (put Swap at (put (FrameAddr offset) at m))

  pub store_each : (g : Setting) (place : ℕ) (ts : List Typ) (at : At) {free : Bool} {s : State} → Waiting z free s
      → Waiting z free (functions.store_each g place ts at s)
  unfolding functions.store_each
  store_each g place [] at m = m
  store_each g place (t ∷ ts) at m = store_each g (place + 1) ts at (store_word (place_in g place) t at m)

  pub store_words : (g : Setting) (at : At) {free : Bool} {s : State} → Waiting z free s → Waiting z free (functions.store_words g at s)
  unfolding functions.store_words
  store_words g at m = store_each g 0 (word_typs g) at m
