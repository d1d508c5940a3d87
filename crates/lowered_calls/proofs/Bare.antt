-- Calls without words: the scope of their arguments is entered in the source with the call.
use Rattle.std.proofs.Common.{ℕ, ◌≡◌, ◌+◌, ◌≤◌, refl, ap, Bool, true, false, List, [], ◌∷◌, Some}
use Rattle.cpp_tree.specs.cpp_types.Typ.{Typ, Signature}
use Rattle.cpp_tree.specs.cpp_types.declared.classes.At.{At}
use Rattle.cpp_tree.specs.cpp_types.declared.ranks.Cat.{Cat}
use Rattle.cpp_tree.specs.declared.arena.TNodeId.{TNodeId}
use Rattle.cpp_tree.specs.declared.kinds.TKind.TheVariants.{Call as CallOf, Construct}
use Rattle.cpp_tree.specs.Trees.{Tree, node}
use Rattle.tx_code.specs.declared.instr.Instr.TheVariants.{Call, TCall, CallIndirect, TCallIndirect}
use Rattle.low_code.specs.declared.scopes.Owner.TheVariants.{Call as OfCall}
use Rattle.low_code.specs.declared.scopes.ScopeKind.{ScopeKind}
use Rattle.low_code.specs.declared.scopes.ScopeKind.TheVariants.{Mark}
use Rattle.src_mean.specs.Linked.{Program}
use Rattle.src_mean.specs.Source.{is_safe}
use Rattle.symbolic_source.specs.Terms.{Term, Exception}
use Rattle.symbolic_source.specs.Frames.{known as known_func, pointer, Run}
use Rattle.symbolic_source.specs.Outcomes.{calls}
use Rattle.symbolic_source.specs.Steps.{first_word, given}
use Rattle.symbolic_code.specs.Facts.{Fact}
use Rattle.body_check.specs.Notes.{Bounds, no_answers}
use Rattle.body_check.specs.Calls.{covers, Calling, Book, Found, Behind, ThrownWith}
use Rattle.body_check.specs.Linked.{Held}
use Rattle.unwind_lower.specs.declared.items.Way.{Way}
use Rattle.unwind_lower.specs.declared.items.Way.TheVariants.{Value, Into}
use Rattle.unwind_lower.specs.declared.items.Item.{Item}
use Rattle.unwind_lower.specs.declared.items.Item.TheVariants.{Invoke, Close}
use Rattle.unwind_lower.specs.Settings.{Setting}
use Rattle.lowered_frames.specs.Lists.{behind, others}
use Rattle.lowered_frames.specs.Modes.{Mode, top, second, gone, way_with, tree_in, trees_in}
use Rattle.lowered_frames.specs.Calls.{bare, pointer_on_top, pointer_below}
use Rattle.lowered_frames.specs.Closings.{close_call}
use Rattle.lowered_frames.specs.Left.{Left, before, calling, closing, frames, temporaries, below, AreEntered}
use Rattle.lowered_notes.specs.Canonical.{Comes, numbers_of}
use Rattle.lowered_steps.specs.Ahead.{standing, comes_of, Fitting, Ahead, Filled}
use Rattle.lowered_calls.specs.Back.{HandsBack}
use Rattle.lowered_calls.proofs.Backs.{left_behind}

module _ (p : Program) (b : Bounds) (book : Book) (h : Held) (g : Setting) {m : Mode} {items : List Item} (d : Left g m items) (at : At)
    (outer : List ScopeKind) where
  -- behind the call its scope is closed
  abbrev pub closes : Left g m (Close OfCall at ∷ items)
  closes = before (closing (close_call at)) d

  abbrev pub chain : List ScopeKind
  chain = Mark OfCall ∷ outer

  pub filled_closes : (v w : Term) (es : List Exception) (ts : List Term) (known : List Fact) → Comes m w → Filled p b book h g d outer v es ts known
      → Filled p b book h g closes chain w es ts known
  filled_closes v w es ts known comes f = record { all = f.all; so = f.so; types = f.types; knows = f.knows; comes = comes }

  module _ (es : List Exception) (ts ws : List Term) (known : List Fact) (gives stops : Bool) (index after : ℕ) (w : Term) where
    -- what the call leaves behind it
    abbrev pub Leaving : Type 0
    Leaving = Behind p b book gives stops h known index (record (standing p b book h g closes chain w es ts) { operands = ws }) (below g d outer ts)
        (temporaries g d outer ts) (frames g (numbers_of p h.func g) closes chain es ts)

    abbrev pub Throwing : Type 0
    Throwing = ThrownWith p b book h known index (record (standing p b book h g closes chain w es ts) { operands = ws }) (below g d outer ts)
        (temporaries g d outer ts) (frames g (numbers_of p h.func g) closes chain es ts)

    pub leaves : HandsBack gives m → AreEntered g d → Filled p b book h g closes chain w es ts known → Ahead p b book h g closes chain (index + 1) after
        → 1 ≤ b.half
        → (stops ≡ false → Throwing) → Leaving
    leaves e entered f a wide out = left_behind p b book h g closes chain w es ts ws known gives stops index after e (refl, entered) f a wide out

-- ---- by name

module _ (p : Program) (b : Bounds) (book : Book) (h : Held) (g : Setting) {m : Mode} {items : List Item} (d : Left g m items) (func : ℕ) (id : TNodeId)
    (at : At) (outer : List ScopeKind) (v : Term) (es : List Exception) (ts : List Term) (known : List Fact) (lead rank index name after : ℕ)
    (t : Typ) (cat : Cat) (place : At) where
  abbrev callee : ℕ
  callee = p.number h.func.unit func

  abbrev here : (way : Way) → Left g gone (Invoke id way ∷ Close OfCall at ∷ items)
  here way = before (calling (bare id way at)) d

  -- without a class result
  value_comes : tree_in g id ≡ node (CallOf func) t cat place (trees_in g [])
      → comes_of p b book h g (here Value) (Mark OfCall ∷ outer) v es ts
      ≡ calls (known_func callee) [] (temporaries g d outer ts) (frames g (numbers_of p h.func g) (closes p b book h g d at outer) (Mark OfCall ∷ outer) es ts)
  unfolding trees_in
  value_comes is = ap (λ (z : Tree). given p h.func no_answers (temporaries g d outer ts) v
      (Run (way_with Value ts) z ∷ frames g (numbers_of p h.func g) d outer es ts)) is

  pub bare_calls : tree_in g id ≡ node (CallOf func) t cat place (trees_in g []) → h.table.function_of name ≡ Some func → book.takes callee ≡ 0
      → Leaving p b book h g d at outer es ts (below g (here Value) (Mark OfCall ∷ outer) ts) known (book.gives callee) (book.stops callee) index after v
      → Calling p b book h known index (standing p b book h g (here Value) (Mark OfCall ∷ outer) v es ts)
      (comes_of p b book h g (here Value) (Mark OfCall ∷ outer) v es ts) name 0
  bare_calls is named takes l = record {
    callee = func;
    named = named;
    words = [];
    under = below g d outer ts;
    temporaries = temporaries g d outer ts;
    others = frames g (numbers_of p h.func g) (closes p b book h g d at outer) (Mark OfCall ∷ outer) es ts;
    outcome_is = value_comes is;
    operands_are = refl;
    taken = takes;
    behind = l;
  }

  pub bare_fits : tree_in g id ≡ node (CallOf func) t cat place (trees_in g []) → h.table.function_of name ≡ Some func → book.takes callee ≡ 0
      → Leaving p b book h g d at outer es ts (below g (here Value) (Mark OfCall ∷ outer) ts) known (book.gives callee) (book.stops callee) index after v
      → Fitting p b book h g (here Value) (Mark OfCall ∷ outer) v es ts known lead rank index (Call name 0)
  bare_fits is named takes l = bare_calls is named takes l

  pub safe_bare_fits : covers h.safe (standing p b book h g (here Value) (Mark OfCall ∷ outer) v es ts).opens ≡ true → is_safe (p.func callee) ≡ true
      → tree_in g id ≡ node (CallOf func) t cat place (trees_in g []) → h.table.function_of name ≡ Some func → book.takes callee ≡ 0
      → Leaving p b book h g d at outer es ts (below g (here Value) (Mark OfCall ∷ outer) ts) known (book.gives callee) (book.stops callee) index after v
      → Fitting p b book h g (here Value) (Mark OfCall ∷ outer) v es ts known lead rank index (TCall name 0)
  unfolding bare_calls
  safe_bare_fits covered safe is named takes l = (covered, bare_calls is named takes l, safe)

  -- with the address of a class result
  pub result_comes : tree_in g id ≡ node (CallOf func) t cat place (trees_in g [])
      → comes_of p b book h g (here Into) (Mark OfCall ∷ outer) v es ts ≡ calls (known_func callee) (first_word ts ∷ []) (temporaries g d outer (behind 2 ts))
      (frames g (numbers_of p h.func g) (closes p b book h g d at outer) (Mark OfCall ∷ outer) es (behind 2 ts))
  unfolding trees_in
  result_comes is = ap (λ (z : Tree). given p h.func no_answers (temporaries g d outer (behind 2 ts)) v
      (Run (way_with Into ts) z ∷ frames g (numbers_of p h.func g) d outer es (behind 2 ts))) is

  pub constructed_comes : tree_in g id ≡ node (Construct func) t cat place (trees_in g [])
      → comes_of p b book h g (here Into) (Mark OfCall ∷ outer) v es ts ≡ calls (known_func callee) (first_word ts ∷ []) (temporaries g d outer (behind 2 ts))
      (frames g (numbers_of p h.func g) (closes p b book h g d at outer) (Mark OfCall ∷ outer) es (behind 2 ts))
  unfolding trees_in
  constructed_comes is = ap (λ (z : Tree). given p h.func no_answers (temporaries g d outer (behind 2 ts)) v
      (Run (way_with Into ts) z ∷ frames g (numbers_of p h.func g) d outer es (behind 2 ts))) is

  pub result_calls : comes_of p b book h g (here Into) (Mark OfCall ∷ outer) v es ts ≡ calls (known_func callee) (first_word ts ∷ [])
      (temporaries g d outer (behind 2 ts)) (frames g (numbers_of p h.func g) (closes p b book h g d at outer) (Mark OfCall ∷ outer) es (behind 2 ts))
      → h.table.function_of name ≡ Some func → book.takes callee ≡ 1
      → Leaving p b book h g d at outer es (behind 2 ts) (below g (here Into) (Mark OfCall ∷ outer) ts) known (book.gives callee) (book.stops callee) index
      after v
      → Calling p b book h known index (standing p b book h g (here Into) (Mark OfCall ∷ outer) v es ts)
      (comes_of p b book h g (here Into) (Mark OfCall ∷ outer) v es ts) name 1
  result_calls comes named takes l = record {
    callee = func;
    named = named;
    words = first_word ts ∷ [];
    under = below g d outer (behind 2 ts);
    temporaries = temporaries g d outer (behind 2 ts);
    others = frames g (numbers_of p h.func g) (closes p b book h g d at outer) (Mark OfCall ∷ outer) es (behind 2 ts);
    outcome_is = comes;
    operands_are = refl;
    taken = takes;
    behind = l;
  }

  pub bare_result_fits : comes_of p b book h g (here Into) (Mark OfCall ∷ outer) v es ts ≡ calls (known_func callee) (first_word ts ∷ [])
      (temporaries g d outer (behind 2 ts)) (frames g (numbers_of p h.func g) (closes p b book h g d at outer) (Mark OfCall ∷ outer) es (behind 2 ts))
      → h.table.function_of name ≡ Some func → book.takes callee ≡ 1
      → Leaving p b book h g d at outer es (behind 2 ts) (below g (here Into) (Mark OfCall ∷ outer) ts) known (book.gives callee) (book.stops callee) index
      after v
      → Fitting p b book h g (here Into) (Mark OfCall ∷ outer) v es ts known lead rank index (Call name 1)
  bare_result_fits comes named takes l = result_calls comes named takes l

  pub safe_result_fits : covers h.safe (standing p b book h g (here Into) (Mark OfCall ∷ outer) v es ts).opens ≡ true → is_safe (p.func callee) ≡ true
      → comes_of p b book h g (here Into) (Mark OfCall ∷ outer) v es ts ≡ calls (known_func callee) (first_word ts ∷ [])
      (temporaries g d outer (behind 2 ts)) (frames g (numbers_of p h.func g) (closes p b book h g d at outer) (Mark OfCall ∷ outer) es (behind 2 ts))
      → h.table.function_of name ≡ Some func → book.takes callee ≡ 1
      → Leaving p b book h g d at outer es (behind 2 ts) (below g (here Into) (Mark OfCall ∷ outer) ts) known (book.gives callee) (book.stops callee) index
      after v
      → Fitting p b book h g (here Into) (Mark OfCall ∷ outer) v es ts known lead rank index (TCall name 1)
  unfolding result_calls
  safe_result_fits covered safe comes named takes l = (covered, result_calls comes named takes l, safe)

-- ---- through a pointer

module _ (p : Program) (b : Bounds) (book : Book) (h : Held) (g : Setting) {m : Mode} {items : List Item} (d : Left g m items) (sig : Signature) (id : TNodeId)
    (at : At) (outer : List ScopeKind) (v : Term) (es : List Exception) (ts : List Term) (known : List Fact) (lead rank index name after : ℕ)
    (gives : Bool) where
  abbrev on_top : Left g top (Invoke id Value ∷ Close OfCall at ∷ items)
  on_top = before (calling (pointer_on_top sig [] id Value at)) d

  abbrev pointed : Left g second (Invoke id Into ∷ Close OfCall at ∷ items)
  pointed = before (calling (pointer_below sig [] id at)) d

  top_comes : comes_of p b book h g on_top (Mark OfCall ∷ outer) v es ts ≡ calls (pointer v sig) [] (temporaries g d outer ts)
      (frames g (numbers_of p h.func g) (closes p b book h g d at outer) (Mark OfCall ∷ outer) es ts)
  unfolding trees_in
  top_comes = refl

  pub pointer_on_top_fits : h.table.is_signature name sig ≡ true → book.takes_as sig 0 gives ≡ true
      → Leaving p b book h g d at outer es ts (v ∷ below g on_top (Mark OfCall ∷ outer) ts) known gives false index after v
      → Fitting p b book h g on_top (Mark OfCall ∷ outer) v es ts known lead rank index (CallIndirect name 0)
  pointer_on_top_fits is takes l = record {
    address = v;
    callee = pointer v sig;
    gives = gives;
    found = Found.by_pointer v sig is takes;
    words = [];
    under = below g d outer ts;
    temporaries = temporaries g d outer ts;
    others = frames g (numbers_of p h.func g) (closes p b book h g d at outer) (Mark OfCall ∷ outer) es ts;
    outcome_is = top_comes;
    operands_are = refl;
    behind = l;
  }

  pub safe_pointer_on_top_fits : covers h.safe (standing p b book h g on_top (Mark OfCall ∷ outer) v es ts).opens ≡ true
      → h.table.is_signature name sig ≡ true → book.takes_as sig 0 gives ≡ true
      → Leaving p b book h g d at outer es ts (v ∷ below g on_top (Mark OfCall ∷ outer) ts) known gives false index after v
      → Fitting p b book h g on_top (Mark OfCall ∷ outer) v es ts known lead rank index (TCallIndirect name 0)
  safe_pointer_on_top_fits covered is takes l = (covered, pointer_on_top_fits is takes l)

  below_comes : comes_of p b book h g pointed (Mark OfCall ∷ outer) v es ts ≡ calls (pointer v sig) (first_word ts ∷ []) (temporaries g d outer (others ts))
      (frames g (numbers_of p h.func g) (closes p b book h g d at outer) (Mark OfCall ∷ outer) es (others ts))
  unfolding trees_in
  below_comes = refl

  pub pointer_below_fits : h.table.is_signature name sig ≡ true → book.takes_as sig 1 gives ≡ true
      → Leaving p b book h g d at outer es (others ts) (first_word ts ∷ v ∷ below g d outer (others ts)) known gives false index after v
      → Fitting p b book h g pointed (Mark OfCall ∷ outer) v es ts known lead rank index (CallIndirect name 1)
  pointer_below_fits is takes l = record {
    address = v;
    callee = pointer v sig;
    gives = gives;
    found = Found.by_pointer v sig is takes;
    words = first_word ts ∷ [];
    under = below g d outer (others ts);
    temporaries = temporaries g d outer (others ts);
    others = frames g (numbers_of p h.func g) (closes p b book h g d at outer) (Mark OfCall ∷ outer) es (others ts);
    outcome_is = below_comes;
    operands_are = refl;
    behind = l;
  }

  pub safe_pointer_below_fits : covers h.safe (standing p b book h g pointed (Mark OfCall ∷ outer) v es ts).opens ≡ true
      → h.table.is_signature name sig ≡ true → book.takes_as sig 1 gives ≡ true
      → Leaving p b book h g d at outer es (others ts) (first_word ts ∷ v ∷ below g d outer (others ts)) known gives false index after v
      → Fitting p b book h g pointed (Mark OfCall ∷ outer) v es ts known lead rank index (TCallIndirect name 1)
  safe_pointer_below_fits covered is takes l = (covered, pointer_below_fits is takes l)
