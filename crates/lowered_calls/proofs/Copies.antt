-- A copy constructor is called with the addresses of the object and of what is copied, and without a scope.
use Rattle.std.proofs.Common.{ℕ, ◌≡◌, ◌+◌, ◌≤◌, refl, ap, false, List, [], ◌∷◌, Some}
use Rattle.cpp_tree.specs.cpp_types.Typ.{Typ}
use Rattle.cpp_tree.specs.cpp_types.declared.classes.At.{At}
use Rattle.cpp_tree.specs.cpp_types.declared.ranks.Cat.{Cat}
use Rattle.cpp_tree.specs.declared.arena.TNodeId.{TNodeId}
use Rattle.cpp_tree.specs.declared.kinds.TKind.TheVariants.{CopyConstruct}
use Rattle.cpp_tree.specs.Trees.{Tree, Trees, node}
use Rattle.tx_code.specs.declared.instr.Instr.TheVariants.{Call}
use Rattle.low_code.specs.declared.scopes.ScopeKind.{ScopeKind}
use Rattle.src_mean.specs.Linked.{Program}
use Rattle.symbolic_source.specs.Terms.{Term, Exception}
use Rattle.symbolic_source.specs.Frames.{known as known_func, Run}
use Rattle.symbolic_source.specs.Outcomes.{calls}
use Rattle.symbolic_source.specs.Steps.{first_word, second_word, given}
use Rattle.symbolic_code.specs.Facts.{Fact}
use Rattle.body_check.specs.Notes.{Bounds, no_answers}
use Rattle.body_check.specs.Calls.{Book, ThrownWith}
use Rattle.body_check.specs.Linked.{Held}
use Rattle.unwind_lower.specs.declared.items.Way.TheVariants.{Copying}
use Rattle.unwind_lower.specs.declared.items.Item.{Item}
use Rattle.unwind_lower.specs.declared.items.Item.TheVariants.{Run as RunIt}
use Rattle.unwind_lower.specs.Settings.{Setting, node_in}
use Rattle.lowered_frames.specs.Lists.{behind}
use Rattle.lowered_frames.specs.Modes.{Mode, gone, After, way_with, tree_in}
use Rattle.lowered_frames.specs.Expressions.{run}
use Rattle.lowered_frames.specs.Left.{Left, before, expression, frames, temporaries, below, AreEntered}
use Rattle.lowered_notes.specs.Canonical.{Comes, numbers_of}
use Rattle.lowered_steps.specs.Ahead.{standing, comes_of, Fitting, Ahead, Filled}
use Rattle.lowered_calls.specs.Back.{HandsBack}
use Rattle.lowered_calls.proofs.Rest.{filled_behind}
use Rattle.lowered_calls.proofs.Backs.{left_behind}

module _ (p : Program) (b : Bounds) (book : Book) (h : Held) (g : Setting) {m : Mode} {items : List Item} (d : Left g m items) (func : ℕ) (id : TNodeId)
    (a : After (node_in g id) Copying m) (chain : List ScopeKind) (v : Term) (es : List Exception) (ts : List Term) (known : List Fact)
    (lead rank index name after : ℕ) (t : Typ) (cat : Cat) (place : At) (kids : Trees) where
  abbrev callee : ℕ
  callee = p.number h.func.unit func

  abbrev copies_left : Left g gone (RunIt id Copying ∷ items)
  copies_left = before (expression (run id Copying a)) d

  copy_comes : tree_in g id ≡ node (CopyConstruct func) t cat place kids → comes_of p b book h g copies_left chain v es ts
      ≡ calls (known_func callee) (first_word ts ∷ second_word ts ∷ []) (temporaries g d chain (behind 2 ts))
      (frames g (numbers_of p h.func g) d chain es (behind 2 ts))
  copy_comes is = ap (λ (z : Tree). given p h.func no_answers (temporaries g d chain (behind 2 ts)) v
      (Run (way_with Copying ts) z ∷ frames g (numbers_of p h.func g) d chain es (behind 2 ts))) is

  pub copy_fits : tree_in g id ≡ node (CopyConstruct func) t cat place kids → h.table.function_of name ≡ Some func → book.takes callee ≡ 2
      → HandsBack (book.gives callee) m → (w : Term) → Comes m w → AreEntered g d → Filled p b book h g copies_left chain v es ts known
      → Ahead p b book h g d chain (index + 1) after → 1 ≤ b.half
      → (book.stops callee ≡ false → ThrownWith p b book h known index (standing p b book h g copies_left chain v es ts) (below g d chain (behind 2 ts))
      (temporaries g d chain (behind 2 ts)) (frames g (numbers_of p h.func g) d chain es (behind 2 ts)))
      → Fitting p b book h g copies_left chain v es ts known lead rank index (Call name 2)
  copy_fits is named takes e w comes entered f ahead wide out = record {
    callee = func;
    named = named;
    words = first_word ts ∷ second_word ts ∷ [];
    under = below g d chain (behind 2 ts);
    temporaries = temporaries g d chain (behind 2 ts);
    others = frames g (numbers_of p h.func g) d chain es (behind 2 ts);
    outcome_is = copy_comes is;
    operands_are = refl;
    taken = takes;
    behind = left_behind p b book h g d chain w es (behind 2 ts) (below g copies_left chain ts) known (book.gives callee) (book.stops callee) index after e
        entered
        (filled_behind p b book h g (expression (run id Copying a)) d chain v w es ts known comes f) ahead wide out;
  }
