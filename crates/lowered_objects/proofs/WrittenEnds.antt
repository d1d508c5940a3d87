-- What the ends of scopes and the destructions write.
use Rattle.std.proofs.Common.{ℕ, suc, ◌≡◌, refl, ap, sym, ◌∙◌, Bool, true, false, List, [], ◌∷◌}
use Rattle.cpp_tree.specs.cpp_types.declared.classes.At.{At}
use Rattle.cpp_tree.specs.declared.arena.TNodeId.{TNodeId}
use Rattle.cpp_tree.specs.declared.kinds.TKind.{TKind}
use Rattle.cpp_tree.specs.declared.kinds.TKind.TheVariants.{Elements, Pieces, Destroy as DestroyRow}
use Rattle.tx_code.specs.declared.instr.Instr.TheVariants.{Push, Pop, FrameAddr}
use Rattle.low_code.specs.declared.scopes.Owner.{Owner}
use Rattle.low_code.specs.declared.scopes.Owner.TheVariants.{Parts as OfParts}
use Rattle.low_code.specs.declared.scopes.Address.{Address}
use Rattle.low_code.specs.declared.scopes.Address.TheVariants.{Frame as InFrame, Word, Node as OfNode}
use Rattle.low_code.specs.declared.scopes.ScopeKind.{ScopeKind}
use Rattle.low_code.specs.declared.scopes.ScopeKind.TheVariants.{Waits, Mark}
use Rattle.unwind_lower.specs.declared.items.Way.{Way}
use Rattle.unwind_lower.specs.declared.items.Way.TheVariants.{Value, Into, Copying}
use Rattle.unwind_lower.specs.declared.items.Item.TheVariants.{Run, Close, CloseParts, Destroy, ElementMade}
use Rattle.unwind_lower.specs.Settings.{Setting, node_in}
use Rattle.unwind_lower.specs.States.{State, later, put, entered, left, scope_at, scope_of, here}
use Rattle.unwind_lower.specs.Kids.{run_kids, kids_from}
use Rattle.unwind_lower.specs.Objects.{put_address, destroy, destroy_each, destroy_row, destroy_some}
use Rattle.unwind_lower.specs.Parts.{pieces, close_part, close_mark_of_parts, close_parts, drop_source, elements, make_element, start_elements, start_element}
use Rattle.unwind_lower.specs.Parts.{element_made, go_round, leave_element}
use Rattle.unwind_lower.specs.Leaving.{close, close_scope, close_waiting, destroy_waiting, drop_word}
use Rattle.unwind_lower.specs.Calls.{call_known}
use Rattle.unwind_lower.specs.Steps.{written, run, run_kind, drop_value}
use Rattle.lowered_objects.specs.Passing.{put_all, offset_instrs, keep_instrs}
use Rattle.lowered_objects.proofs.Lists.{drop_next}
use Rattle.lowered_objects.proofs.Written.{offset_put, keep_put}

-- ---- the end of an owner's objects

module _ (g : Setting) (owner : Owner) (at : At) (s : State) where
  abbrev made_at : At
  made_at = (scope_at (scope_of s) s).at

  pub mark_closed : (marked : Owner) → (scope_at (scope_of s) s).kind ≡ Mark marked → written g (Close owner at) s ≡ left s
  unfolding written close close_scope
  mark_closed marked is = ap (λ (z : ScopeKind). close_scope z made_at owner at s) is

  module _ (waiting : Owner) (id : TNodeId) (first : ℕ) where
    -- one that is destroyed
    pub frame_closed : (offset : ℕ) → (scope_at (scope_of s) s).kind ≡ Waits waiting true (InFrame offset) id first
        → written g (Close owner at) s ≡ put (FrameAddr offset) made_at (later (Destroy id first) (later (Close owner at) (left s)))
    unfolding written close close_scope close_waiting destroy_waiting put_address
    frame_closed offset is = ap (λ (z : ScopeKind). close_scope z made_at owner at s) is

    pub node_closed : (other : TNodeId) → (scope_at (scope_of s) s).kind ≡ Waits waiting true (OfNode other) id first
        → written g (Close owner at) s ≡ later (Run other Value) (later (Destroy id first) (later (Close owner at) (left s)))
    unfolding written close close_scope close_waiting destroy_waiting put_address
    node_closed other is = ap (λ (z : ScopeKind). close_scope z made_at owner at s) is

    -- one that only waited for an exception
    pub word_closed : (offset : ℕ) → (scope_at (scope_of s) s).kind ≡ Waits waiting false (Word offset) id first
        → written g (Close owner at) s ≡ put Pop at (later (Close owner at) (left s))
    unfolding written close close_scope close_waiting drop_word
    word_closed offset is = ap (λ (z : ScopeKind). close_scope z made_at owner at s) is

-- ---- parts

module _ (g : Setting) (way : Way) (at : At) (s : State) where
  pub part_closed : (waiting : Owner) (always : Bool) (address : Address) (id : TNodeId) (first : ℕ)
      → (scope_at (scope_of s) s).kind ≡ Waits waiting always address id first → written g (CloseParts way at) s ≡ later (CloseParts way at) (left s)
  unfolding written close_parts close_part
  part_closed waiting always address id first is = ap (λ (z : ScopeKind). close_part z way at s) is

  pub parts_closed : (scope_at (scope_of s) s).kind ≡ Mark OfParts → written g (CloseParts way at) s ≡ drop_source way at (put Pop at (left s))
  unfolding written close_parts close_part close_mark_of_parts
  parts_closed is = ap (λ (z : ScopeKind). close_part z way at s) is

module _ (g : Setting) (id : TNodeId) (s : State) where
  pub pieces_written : (node_in g id).kind ≡ Pieces
      → written g (Run id Into) s ≡ run_kids (node_in g id) 0 Into (later (CloseParts Into (node_in g id).at) (entered (Mark OfParts) (node_in g id).at s))
  unfolding written run run_kind drop_value pieces
  pieces_written kind = ap (λ (z : TKind). run_kind g z id (node_in g id) Into s) kind

  pub copied_pieces_written : (node_in g id).kind ≡ Pieces
      → written g (Run id Copying) s ≡ run_kids (node_in g id) 0 Copying (later (CloseParts Copying (node_in g id).at) (entered (Mark OfParts) (node_in g id).at s))
  unfolding written run run_kind drop_value pieces
  copied_pieces_written kind = ap (λ (z : TKind). run_kind g z id (node_in g id) Copying s) kind

  -- an array: how many are left, and then the address of an element, which is made
  pub elements_written : (size stride : ℕ) → (node_in g id).kind ≡ Elements size stride
      → written g (Run id Into) s ≡ make_element id (node_in g id) Into (here (put (Push size) (node_in g id).at s)) (put (Push size) (node_in g id).at s)
  unfolding written run run_kind drop_value elements start_elements start_element
  elements_written size stride kind = ap (λ (z : TKind). run_kind g z id (node_in g id) Into s) kind

  pub element_written : (size stride top scope : ℕ) (way : Way) → (node_in g id).kind ≡ Elements size stride
      → written g (ElementMade id way top scope) s ≡ go_round stride way top (node_in g id).at (leave_element (node_in g id) scope s)
  unfolding written element_made
  element_written size stride top scope way kind = ap (λ (z : TKind). element_made z (node_in g id) way top scope s) kind

-- ---- destructions

module _ (g : Setting) (id : TNodeId) (first : ℕ) (s : State) where
  -- a row, and then those behind it
  pub row_written : (row : TNodeId) (ids : List TNodeId) → kids_from (node_in g id) first ≡ row ∷ ids
      → written g (Destroy id first) s
      ≡ written g (Destroy id (suc first)) (destroy_row g (node_in g row).kind (node_in g row).at (put_all (keep_instrs ids) (node_in g row).at s))
  unfolding written destroy destroy_each
  row_written row ids rows = ap (λ (z : List TNodeId). destroy_each g z s) rows
      ∙ ap (λ (z : State). destroy_each g ids (destroy_row g (node_in g row).kind (node_in g row).at z)) (keep_put ids (node_in g row).at s)
      ∙ ap (λ (z : List TNodeId). destroy_each g z (destroy_row g (node_in g row).kind (node_in g row).at (put_all (keep_instrs ids) (node_in g row).at s)))
      (sym (drop_next first (node_in g id).kids row ids rows))

  pub no_row_written : kids_from (node_in g id) first ≡ [] → written g (Destroy id first) s ≡ s
  unfolding written destroy destroy_each
  no_row_written rows = ap (λ (z : List TNodeId). destroy_each g z s) rows

module _ (g : Setting) (kind : TKind) (at : At) (s : State) where
  -- the address comes on top, and then so many objects are destroyed
  pub objects_written : (func offset size stride : ℕ) → kind ≡ DestroyRow func offset size stride
      → destroy_row g kind at s ≡ destroy_some g func size stride at (put_all (offset_instrs offset) at s)
  unfolding destroy_row
  objects_written func offset size stride is = ap (λ (z : TKind). destroy_row g z at s) is
      ∙ ap (λ (z : State). destroy_some g func size stride at z) (offset_put offset at s)

  pub object_written : (func stride : ℕ) → destroy_some g func 1 stride at s ≡ call_known g func 1 at s
  unfolding destroy_some
  object_written func stride = refl
