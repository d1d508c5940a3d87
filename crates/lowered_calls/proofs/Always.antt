-- What fits whatever the terms are, where the notes of what is left behind it are there.
use Rattle.std.proofs.Common.{ℕ, ◌≡◌, ◌+◌, ◌≤◌, true, false, List, [], ◌∷◌, Some, None}
use Rattle.cpp_tree.specs.tx_ints.declared.kinds.IntKind.{IntKind}
use Rattle.cpp_tree.specs.cpp_types.Typ.{Typ, Signature}
use Rattle.cpp_tree.specs.cpp_types.declared.classes.At.{At}
use Rattle.cpp_tree.specs.cpp_types.declared.ranks.Cat.{Cat}
use Rattle.cpp_tree.specs.Trees.{node, kind_of}
use Rattle.cpp_tree.specs.declared.arena.TNodeId.{TNodeId}
use Rattle.cpp_tree.specs.declared.kinds.Builtin.TheVariants.{PutChar, GetChar, Spawn as SpawnThread, Join as JoinThread, Abort as AbortProgram}
use Rattle.cpp_tree.specs.declared.kinds.TKind.TheVariants.{Builtin as BuiltinCall, Field}
use Rattle.tx_code.specs.declared.instr.Instr.{Instr}
use Rattle.tx_code.specs.declared.instr.Instr.TheVariants.{Swap, Out, Inp, Spawn, Join, Abort, Ret, NewException, PutException}
use Rattle.low_code.specs.declared.scopes.ScopeKind.{ScopeKind}
use Rattle.low_code.specs.Numbers.{bytes_number}
use Rattle.src_mean.specs.Exceptions.{is_object_typ}
use Rattle.src_mean.specs.Linked.{Program}
use Rattle.body_check.specs.Notes.{Bounds}
use Rattle.body_check.specs.Calls.{Book}
use Rattle.body_check.specs.Linked.{Held}
use Rattle.unwind_lower.specs.declared.items.Leaving.TheVariants.{Return}
use Rattle.unwind_lower.specs.declared.items.Way.{Way}
use Rattle.unwind_lower.specs.declared.items.Item.{Item}
use Rattle.unwind_lower.specs.declared.items.Item.TheVariants.{Invoke, Leave, Thrown}
use Rattle.unwind_lower.specs.Settings.{Setting, node_in}
use Rattle.unwind_lower.specs.Kids.{kids_from}
use Rattle.lowered_frames.specs.Modes.{Mode, top, gone, IsBare, tree_in, trees_in}
use Rattle.lowered_frames.specs.Calls.{built_in, words, bare_built_in, pointer_and_result, pointer_below}
use Rattle.lowered_frames.specs.Statements.{returns_word, returns_nothing}
use Rattle.lowered_frames.specs.Throws.{throwing as throws_it, fills, filled, fills_scalar, scalar_filled, thrown_in}
use Rattle.lowered_frames.specs.Left.{Left, body_ends, before, leave, calling, throwing}
use Rattle.lowered_notes.specs.Canonical.{IsForeseen}
use Rattle.lowered_steps.specs.Ahead.{Ahead, Moves}
use Rattle.lowered_steps.proofs.Moving.{at_once, half_is_short, half_and_one_is_short}
use Rattle.lowered_steps.proofs.Words.{first_told}
use Rattle.lowered_calls.specs.Passing.{passed}
use Rattle.lowered_calls.proofs.Builtins.{output_fits, input_fits, abort_fits, join_fits, spawn_fits, swap_fits}
use Rattle.lowered_calls.proofs.Returns.{return_fits, return_nothing_fits, end_fits}
use Rattle.lowered_calls.proofs.Thrown.{new_fits, put_fits, new_scalar_fits, scalar_put_fits}

module _ (p : Program) (b : Bounds) (book : Book) (h : Held) (g : Setting) (chain : List ScopeKind) (rank index after : ℕ) where
  -- the source goes on from what is left
  abbrev Goes : {m : Mode} {items : List Item} → Left g m items → Type 0
  Goes d = IsForeseen p h.func g d chain

  abbrev Always : {m : Mode} {items : List Item} → Left g m items → Instr → Type 0
  Always d instr = Moves p b book h g d chain 0 rank index instr

  abbrev Next : {m : Mode} {items : List Item} → Left g m items → Type 0
  Next d = Ahead p b book h g d chain (index + 1) after

  -- ---- built-in functions

  module _ {items : List Item} (d : Left g top items) (id : TNodeId) (way : Way) (a : Next d) where
    abbrev output : Left g top (Invoke id way ∷ items)
    output = before (calling (words (built_in PutChar) 0 [] id way)) d

    pub output_moves : Goes output → Always output Out
    output_moves going = at_once p b book h g output chain rank index Out going
        (λ v es ts known f told all_told lead short. output_fits p b book h g d id way chain v es ts known lead rank index after told f a)

    abbrev spawned : Left g top (Invoke id way ∷ items)
    spawned = before (calling (words (built_in SpawnThread) 1 [] id way)) d

    pub spawn_moves : Goes spawned → Always spawned Spawn
    spawn_moves going = at_once p b book h g spawned chain rank index Spawn going
        (λ v es ts known f told all_told lead short. spawn_fits p b book h g d id way chain v es ts known lead rank index after told (first_told ts all_told)
        f a)

    abbrev input : Left g gone (Invoke id way ∷ items)
    input = before (calling (bare_built_in id way)) d

    pub input_moves : (t : Typ) (cat : Cat) (place : At) → tree_in g id ≡ node (BuiltinCall GetChar) t cat place (trees_in g []) → Goes input → Always input Inp
    input_moves t cat place is going = at_once p b book h g input chain rank index Inp going
        (λ v es ts known f told all_told lead short. input_fits p b book h g d id way chain v es ts known lead rank index after t cat place is f a)

  module _ {m : Mode} {items : List Item} (d : Left g m items) (id : TNodeId) (way : Way) where
    abbrev joined : Left g top (Invoke id way ∷ items)
    joined = before (calling (words (built_in JoinThread) 0 [] id way)) d

    pub join_moves : IsBare m → Next d → Goes joined → Always joined Join
    join_moves e a going = at_once p b book h g joined chain rank index Join going
        (λ v es ts known f told all_told lead short. join_fits p b book h g d e id way chain v es ts known lead rank index after told f a)

    abbrev aborted : Left g gone (Invoke id way ∷ items)
    aborted = before (calling (bare_built_in id way)) d

    pub abort_moves : (t : Typ) (cat : Cat) (place : At) → tree_in g id ≡ node (BuiltinCall AbortProgram) t cat place (trees_in g []) → Goes aborted
        → Always aborted Abort
    abort_moves t cat place is going = at_once p b book h g aborted chain rank index Abort going
        (λ v es ts known f told all_told lead short. abort_fits p b book h g d id way chain v es ts known lead rank index t cat place is)

  -- ---- pointers

  module _ {m : Mode} {items : List Item} (d : Left g m items) (sig : Signature) (ids : List TNodeId) (id : TNodeId) (place at : At) where
    pub swap_moves : Goes (before (calling (pointer_and_result sig ids id place at)) d) → Next (before (calling (pointer_below sig ids id at)) d)
        → after + 1 ≤ rank
        → Always (before (calling (pointer_and_result sig ids id place at)) d) Swap
    swap_moves going a falls = at_once p b book h g (before (calling (pointer_and_result sig ids id place at)) d) chain rank index Swap going
        (λ v es ts known f told all_told lead short. swap_fits p b book h g d sig ids id place at chain v es ts known lead rank index after f a
        (half_is_short b lead short) falls)

  -- ---- returns

  module _ {m n : Mode} {items outer : List Item} (d : Left g m items) (o : Left g n outer) (origin junk : ℕ) (at : At) (out : passed g o ≡ true) where
    abbrev with_word : Left g gone (Leave Return origin at ∷ items)
    with_word = leave returns_word None origin junk at d o

    pub return_moves : book.gives h.number ≡ true → Goes with_word → Always with_word (Ret 1)
    return_moves gives going = at_once p b book h g with_word chain rank index (Ret 1) going
        (λ v es ts known f told all_told lead short. return_fits p b book h g d o origin junk at chain v es ts known lead rank index out gives)

    abbrev with_nothing : Left g gone (Leave Return origin at ∷ items)
    with_nothing = leave returns_nothing None origin junk at d o

    pub return_nothing_moves : book.gives h.number ≡ false → Goes with_nothing → Always with_nothing (Ret 0)
    return_nothing_moves gives going = at_once p b book h g with_nothing chain rank index (Ret 0) going
        (λ v es ts known f told all_told lead short. return_nothing_fits p b book h g d o origin junk at chain v es ts known lead rank index out gives)

  pub end_moves : (at : At) → book.gives h.number ≡ false → Goes (body_ends at) → Always (body_ends at) (Ret 0)
  end_moves at gives going = at_once p b book h g (body_ends at) chain rank index (Ret 0) going
      (λ v es ts known f told all_told lead short. end_fits p b book h g at chain v es ts known lead rank index gives f)

  -- ---- what is thrown

  module _ {m : Mode} {items : List Item} (d : Left g m items) (id : TNodeId) where
    abbrev thrown : Left g top (Thrown id ∷ items)
    thrown = before (throwing (throws_it id)) d

    module _ (object : is_object_typ (thrown_in g id) ≡ true) where
      pub new_moves : (ty : ℕ) → h.table.type_of ty ≡ Some (thrown_in g id) → Goes thrown
          → Next (before (throwing (fills id [] (kids_from (node_in g id) 1) object)) d)
          → Always thrown (NewException ty)
      new_moves ty named going a = at_once p b book h g thrown chain rank index (NewException ty) going
          (λ v es ts known f told all_told lead short. new_fits p b book h g d id chain es known lead rank index after object v ts ty named f a
          (half_and_one_is_short b lead short))

      module _ (field : TNodeId) (done ids : List TNodeId) (offset : ℕ) (kind : IntKind) (is : (node_in g field).kind ≡ Field offset kind) where
        abbrev filling : Left g top (Thrown id ∷ items)
        filling = before (throwing (filled id field done ids offset kind object is)) d

        pub put_moves : Goes filling → Next (before (throwing (fills id (field ∷ done) ids object)) d)
            → Always filling (PutException offset (bytes_number kind))
        put_moves going a = at_once p b book h g filling chain rank index (PutException offset (bytes_number kind)) going
            (λ v es ts known f told all_told lead short. put_fits p b book h g d id chain es known lead rank index after object field done ids offset kind is
            v ts f a
            (half_and_one_is_short b lead short))

    module _ (scalar : is_object_typ (thrown_in g id) ≡ false) where
      abbrev scalar_begun : Left g gone (Thrown id ∷ items)
      scalar_begun = before (throwing (fills_scalar id scalar)) d

      pub new_scalar_moves : (ty : ℕ) → h.table.type_of ty ≡ Some (thrown_in g id) → Goes thrown → Next scalar_begun → Always thrown (NewException ty)
      new_scalar_moves ty named going a = at_once p b book h g thrown chain rank index (NewException ty) going
          (λ v es ts known f told all_told lead short. new_scalar_fits p b book h g d id chain es known lead rank index after scalar v ts ty named f a
          (half_and_one_is_short b lead short))

      pub scalar_put_moves : (field : TNodeId) (ids : List TNodeId) (offset : ℕ) (kind : IntKind) → (node_in g field).kind ≡ Field offset kind
          → kids_from (node_in g id) 1 ≡ field ∷ ids → kind_of (tree_in g field) ≡ Field offset kind → Goes scalar_begun
          → Next (before (throwing (scalar_filled id field ids scalar)) d) → Always scalar_begun (PutException offset (bytes_number kind))
      scalar_put_moves field ids offset kind is kids shows going a = at_once p b book h g scalar_begun chain rank index
          (PutException offset (bytes_number kind)) going
          (λ v es ts known f told all_told lead short. scalar_put_fits p b book h g d id chain es known lead rank index after scalar field ids offset kind is
          v ts
          kids shows f a (half_and_one_is_short b lead short))
