-- The scopes match still where an object comes to wait in its scope.
use Rattle.std.proofs.Common.{ℕ, refl, Bool, true, List, ◌∷◌}
use Rattle.cpp_tree.specs.declared.arena.TNodeId.{TNodeId}
use Rattle.low_code.specs.declared.scopes.Address.{Address}
use Rattle.low_code.specs.declared.scopes.Owner.TheVariants.{Block as OfBlock, Call as OfCall}
use Rattle.low_code.specs.declared.scopes.ScopeKind.{ScopeKind}
use Rattle.low_code.specs.declared.scopes.ScopeKind.TheVariants.{Waits}
use Rattle.unwind_lower.specs.declared.items.Item.{Item}
use Rattle.unwind_lower.specs.Settings.{Setting}
use Rattle.lowered_frames.specs.Modes.{Mode}
use Rattle.lowered_frames.specs.Calls.{words}
use Rattle.lowered_frames.specs.Closings.{close_block, close_call}
use Rattle.lowered_frames.specs.Statements.{rest_of_block, rest_of_switch}
use Rattle.lowered_frames.specs.Left.{calling, closing, statement, Left, before}
use Rattle.lowered_frames.specs.Entered.{AwaitsCall}
use Rattle.lowered_frames.specs.Matches.{Always, Matches}

module _ (g : Setting) where
  pub block_matches : (always : Bool) (address : Address) (id : TNodeId) (first : ℕ) {m : Mode} {items : List Item} (d : Left g m items) (chain : List ScopeKind)
      → Always g always d → Matches g d chain → Matches g d (Waits OfBlock always address id first ∷ chain)
  block_matches always address id first (before (closing (close_block other at)) d) chain e w = ((refl, e, w.0), w.1)
  block_matches always address id first (before (statement (rest_of_block ids b)) d) chain e w = (tt, block_matches always address id first d chain e w.1)
  block_matches always address id first (before (statement (rest_of_switch labels ids b)) d) chain e w = (tt, block_matches always address id first d chain e w.1)
  block_matches always address id first d chain e w = absurd e

  pub call_matches : (address : Address) (id : TNodeId) (first : ℕ) {m : Mode} {items : List Item} (d : Left g m items) (chain : List ScopeKind)
      → AwaitsCall g d → Matches g d chain → Matches g d (Waits OfCall true address id first ∷ chain)
  call_matches address id first (before (closing (close_call at)) d) chain e w = ((refl, refl, w.0), w.1)
  call_matches address id first (before (calling (words c n ids other way)) d) chain e w = (tt, call_matches address id first d chain e w.1)
  call_matches address id first d chain e w = absurd e
