-- Calls without words that fit where the note behind them is there: that of the scope of their arguments, which is closed.
use Rattle.std.proofs.Common.{ℕ, ◌≡◌, ◌+◌, ◌≤◌, Bool, true, false, List, [], ◌∷◌, Some}
use Rattle.cpp_tree.specs.cpp_types.Typ.{Typ, Signature}
use Rattle.cpp_tree.specs.cpp_types.declared.classes.At.{At}
use Rattle.cpp_tree.specs.cpp_types.declared.ranks.Cat.{Cat}
use Rattle.cpp_tree.specs.Trees.{node}
use Rattle.cpp_tree.specs.declared.arena.TNodeId.{TNodeId}
use Rattle.cpp_tree.specs.declared.kinds.TKind.TheVariants.{Call as CallOf, Construct}
use Rattle.tx_code.specs.declared.instr.Instr.TheVariants.{Call, CallIndirect}
use Rattle.low_code.specs.declared.scopes.Owner.TheVariants.{Call as OfCall}
use Rattle.low_code.specs.declared.scopes.ScopeKind.{ScopeKind}
use Rattle.low_code.specs.declared.scopes.ScopeKind.TheVariants.{Mark}
use Rattle.src_mean.specs.Linked.{Program}
use Rattle.symbolic_source.specs.Terms.{Term, Exception, number}
use Rattle.symbolic_source.specs.Frames.{known as known_func}
use Rattle.symbolic_source.specs.Outcomes.{calls}
use Rattle.symbolic_source.specs.Steps.{first_word}
use Rattle.symbolic_code.specs.Facts.{Fact}
use Rattle.body_check.specs.Notes.{Bounds}
use Rattle.body_check.specs.Calls.{Book}
use Rattle.body_check.specs.Linked.{Held}
use Rattle.unwind_lower.specs.declared.items.Way.{Way}
use Rattle.unwind_lower.specs.declared.items.Way.TheVariants.{Value, Into}
use Rattle.unwind_lower.specs.declared.items.Item.{Item}
use Rattle.unwind_lower.specs.declared.items.Item.TheVariants.{Invoke, Close}
use Rattle.unwind_lower.specs.Settings.{Setting}
use Rattle.lowered_frames.specs.Lists.{behind, others}
use Rattle.lowered_frames.specs.Modes.{Mode, top, second, gone, tree_in, trees_in}
use Rattle.lowered_frames.specs.Calls.{bare, pointer_on_top, pointer_below}
use Rattle.lowered_frames.specs.Left.{Left, before, calling, frames, temporaries, below, AreEntered}
use Rattle.lowered_notes.specs.Canonical.{numbers_of}
use Rattle.lowered_steps.specs.Ahead.{comes_of, Fitting, Ahead, Filled}
use Rattle.lowered_calls.specs.Back.{HandsBack}
use Rattle.lowered_calls.proofs.Rest.{filled_behind}
use Rattle.lowered_calls.proofs.Whole.{hands_come}
use Rattle.lowered_calls.proofs.Bare.{closes, filled_closes, Leaving, Throwing, leaves, bare_fits, bare_result_fits, result_comes, constructed_comes, pointer_on_top_fits, pointer_below_fits}

module _ (p : Program) (b : Bounds) (book : Book) (h : Held) (g : Setting) {m : Mode} {items : List Item} (d : Left g m items) (id : TNodeId) (at : At)
    (outer : List ScopeKind) (rank index after name : ℕ) (entered : AreEntered g d)
    (a : Ahead p b book h g (closes p b book h g d at outer) (Mark OfCall ∷ outer) (index + 1) after) (wide : 1 ≤ b.half)
    (v : Term) (es : List Exception) (ts : List Term) (known : List Fact) (lead : ℕ) where
  -- what a call leaves behind it, the terms behind which are these
  left_closed : (us ws : List Term) (gives stops : Bool) → HandsBack gives m → Filled p b book h g d outer (number 0) es us known
      → (stops ≡ false → Throwing p b book h g d at outer es us ws known gives stops index after (number 0))
      → Leaving p b book h g d at outer es us ws known gives stops index after (number 0)
  left_closed us ws gives stops e f out = leaves p b book h g d at outer es us ws known gives stops index after (number 0) e entered
      (filled_closes p b book h g d at outer (number 0) (number 0) es us known (hands_come gives m e) f) a wide out

  module _ (func : ℕ) (t : Typ) (cat : Cat) (place : At) (named : h.table.function_of name ≡ Some func)
      (e : HandsBack (book.gives (p.number h.func.unit func)) m) where
    abbrev callee : ℕ
    callee = p.number h.func.unit func

    abbrev here : (way : Way) → Left g gone (Invoke id way ∷ Close OfCall at ∷ items)
    here way = before (calling (bare id way at)) d

    pub bare_call_fits : tree_in g id ≡ node (CallOf func) t cat place (trees_in g []) → book.takes callee ≡ 0
        → (book.stops callee ≡ false → Throwing p b book h g d at outer es ts (below g (here Value) (Mark OfCall ∷ outer) ts) known (book.gives callee)
        (book.stops callee)
        index after (number 0))
        → Filled p b book h g (here Value) (Mark OfCall ∷ outer) v es ts known
        → Fitting p b book h g (here Value) (Mark OfCall ∷ outer) v es ts known lead rank index (Call name 0)
    bare_call_fits is takes out f = bare_fits p b book h g d func id at outer v es ts known lead rank index name after t cat place is named takes
        (left_closed ts (below g (here Value) (Mark OfCall ∷ outer) ts) (book.gives callee) (book.stops callee) e
        (filled_behind p b book h g (calling (bare id Value at)) d (Mark OfCall ∷ outer) v (number 0) es ts known (hands_come (book.gives callee) m e) f) out)

    result_fits : comes_of p b book h g (here Into) (Mark OfCall ∷ outer) v es ts ≡ calls (known_func callee) (first_word ts ∷ [])
        (temporaries g d outer (behind 2 ts)) (frames g (numbers_of p h.func g) (closes p b book h g d at outer) (Mark OfCall ∷ outer) es (behind 2 ts))
        → book.takes callee ≡ 1
        → (book.stops callee ≡ false → Throwing p b book h g d at outer es (behind 2 ts) (below g (here Into) (Mark OfCall ∷ outer) ts) known
        (book.gives callee)
        (book.stops callee) index after (number 0))
        → Filled p b book h g (here Into) (Mark OfCall ∷ outer) v es ts known
        → Fitting p b book h g (here Into) (Mark OfCall ∷ outer) v es ts known lead rank index (Call name 1)
    result_fits comes takes out f = bare_result_fits p b book h g d func id at outer v es ts known lead rank index name after t cat place comes named takes
        (left_closed (behind 2 ts) (below g (here Into) (Mark OfCall ∷ outer) ts) (book.gives callee) (book.stops callee) e
        (filled_behind p b book h g (calling (bare id Into at)) d (Mark OfCall ∷ outer) v (number 0) es ts known (hands_come (book.gives callee) m e) f) out)

    pub class_call_fits : tree_in g id ≡ node (CallOf func) t cat place (trees_in g []) → book.takes callee ≡ 1
        → (book.stops callee ≡ false → Throwing p b book h g d at outer es (behind 2 ts) (below g (here Into) (Mark OfCall ∷ outer) ts) known
        (book.gives callee)
        (book.stops callee) index after (number 0))
        → Filled p b book h g (here Into) (Mark OfCall ∷ outer) v es ts known
        → Fitting p b book h g (here Into) (Mark OfCall ∷ outer) v es ts known lead rank index (Call name 1)
    class_call_fits is takes out f = result_fits (result_comes p b book h g d func id at outer v es ts known lead rank index name after t cat place is) takes
        out f

    pub construct_fits : tree_in g id ≡ node (Construct func) t cat place (trees_in g []) → book.takes callee ≡ 1
        → (book.stops callee ≡ false → Throwing p b book h g d at outer es (behind 2 ts) (below g (here Into) (Mark OfCall ∷ outer) ts) known
        (book.gives callee)
        (book.stops callee) index after (number 0))
        → Filled p b book h g (here Into) (Mark OfCall ∷ outer) v es ts known
        → Fitting p b book h g (here Into) (Mark OfCall ∷ outer) v es ts known lead rank index (Call name 1)
    construct_fits is takes out f = result_fits (constructed_comes p b book h g d func id at outer v es ts known lead rank index name after t cat place is)
        takes out f

  module _ (sig : Signature) (gives : Bool) (is : h.table.is_signature name sig ≡ true) (e : HandsBack gives m) where
    abbrev on_top : Left g top (Invoke id Value ∷ Close OfCall at ∷ items)
    on_top = before (calling (pointer_on_top sig [] id Value at)) d

    abbrev pointed : Left g second (Invoke id Into ∷ Close OfCall at ∷ items)
    pointed = before (calling (pointer_below sig [] id at)) d

    pub top_call_fits : book.takes_as sig 0 gives ≡ true
        → Throwing p b book h g d at outer es ts (v ∷ below g on_top (Mark OfCall ∷ outer) ts) known gives false index after (number 0)
        → Filled p b book h g on_top (Mark OfCall ∷ outer) v es ts known
        → Fitting p b book h g on_top (Mark OfCall ∷ outer) v es ts known lead rank index (CallIndirect name 0)
    top_call_fits takes out f = pointer_on_top_fits p b book h g d sig id at outer v es ts known lead rank index name after gives is takes
        (left_closed ts (v ∷ below g on_top (Mark OfCall ∷ outer) ts) gives false e
        (filled_behind p b book h g (calling (pointer_on_top sig [] id Value at)) d (Mark OfCall ∷ outer) v (number 0) es ts known (hands_come gives m e) f)
        (λ may. out))

    pub below_call_fits : book.takes_as sig 1 gives ≡ true
        → Throwing p b book h g d at outer es (others ts) (first_word ts ∷ v ∷ below g d outer (others ts)) known gives false index after (number 0)
        → Filled p b book h g pointed (Mark OfCall ∷ outer) v es ts known
        → Fitting p b book h g pointed (Mark OfCall ∷ outer) v es ts known lead rank index (CallIndirect name 1)
    below_call_fits takes out f = pointer_below_fits p b book h g d sig id at outer v es ts known lead rank index name after gives is takes
        (left_closed (others ts) (first_word ts ∷ v ∷ below g d outer (others ts)) gives false e
        (filled_behind p b book h g (calling (pointer_below sig [] id at)) d (Mark OfCall ∷ outer) v (number 0) es ts known (hands_come gives m e) f)
        (λ may. out))
