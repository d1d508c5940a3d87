-- A call whose words all lie on the stack: of a function by its name, and of one that an address finds.
use Rattle.std.proofs.Common.{ℕ, suc, ◌≡◌, ◌+◌, ◌≤◌, refl, ap, ◌∙◌, Bool, true, false, List, [], ◌∷◌, ◌++◌, Some, append_assoc}
use Rattle.cpp_tree.specs.cpp_types.Typ.{Signature}
use Rattle.cpp_tree.specs.declared.arena.TNodeId.{TNodeId}
use Rattle.tx_code.specs.declared.instr.Instr.TheVariants.{Call, TCall, CallIndirect, TCallIndirect}
use Rattle.low_code.specs.declared.scopes.ScopeKind.{ScopeKind}
use Rattle.src_mean.specs.Linked.{Program}
use Rattle.src_mean.specs.Source.{is_safe}
use Rattle.symbolic_source.specs.Terms.{Term, Exception, slot_function}
use Rattle.symbolic_source.specs.Frames.{virtual, pointer}
use Rattle.symbolic_source.specs.Steps.{first_word, invoked}
use Rattle.symbolic_code.specs.Facts.{Fact, has_function, Among}
use Rattle.body_check.specs.Notes.{Bounds}
use Rattle.body_check.specs.Calls.{Book, Calling, CallingFound, Found, Behind, ThrownWith, taken_off, covers}
use Rattle.body_check.specs.Linked.{Held}
use Rattle.unwind_lower.specs.declared.items.Way.{Way}
use Rattle.unwind_lower.specs.declared.items.Item.{Item}
use Rattle.unwind_lower.specs.declared.items.Item.TheVariants.{Invoke}
use Rattle.unwind_lower.specs.Settings.{Setting}
use Rattle.lowered_frames.specs.Lists.{behind, firsts, turned, more_by}
use Rattle.lowered_frames.specs.Modes.{Mode, top, trees_in}
use Rattle.lowered_frames.specs.Calls.{Called, by_name, by_slot, by_pointer, called_with, called_count, words}
use Rattle.lowered_frames.specs.Left.{Left, before, calling, frames, temporaries, below, AreEntered}
use Rattle.lowered_notes.specs.Canonical.{Comes, numbers_of}
use Rattle.lowered_notes.proofs.Terms.{words_taken}
use Rattle.lowered_steps.specs.Ahead.{standing, comes_of, Fitting, Ahead, Filled}
use Rattle.lowered_calls.specs.Back.{HandsBack}
use Rattle.lowered_calls.proofs.Rest.{filled_behind}
use Rattle.lowered_calls.proofs.Backs.{left_behind}

-- the words are taken off, the last of which lies on top
all_taken : (n : ℕ) (v : Term) (ts under rest : List Term)
    → taken_off (suc n) (v ∷ ((firsts n ts ++ under) ++ rest)) [] ≡ Some (turned n ts ++ v ∷ [], under ++ rest)
all_taken n v ts under rest = ap (λ (z : List Term). taken_off n z (v ∷ [])) (append_assoc (firsts n ts) under rest) ∙ words_taken n ts (under ++ rest) (v ∷ [])

module _ (p : Program) (b : Bounds) (book : Book) (h : Held) (g : Setting) {m : Mode} {items : List Item} (d : Left g m items) (c : Called) (n : ℕ)
    (id : TNodeId) (way : Way) where
  abbrev pub called_left : Left g top (Invoke id way ∷ items)
  called_left = before (calling (words c n [] id way)) d

  -- the terms behind those of the call
  abbrev pub terms_behind : List Term → List Term
  terms_behind ts = behind (more_by n (called_count c)) ts

  module _ (chain : List ScopeKind) (v : Term) (es : List Exception) (ts : List Term) where
    pub call_comes : comes_of p b book h g called_left chain v es ts ≡ invoked (temporaries g d chain (terms_behind ts))
        (called_with (numbers_of p h.func g) c (behind n ts)) (turned n ts ++ v ∷ []) (frames g (numbers_of p h.func g) d chain es (terms_behind ts))
    unfolding trees_in
    call_comes = refl

    -- what a function leaves behind it that hands back a word or none
    abbrev pub Leaving : (gives stops : Bool) → (known : List Fact) → (index : ℕ) → Type 0
    Leaving gives stops known index = Behind p b book gives stops h known index (standing p b book h g called_left chain v es ts)
        (below g d chain (terms_behind ts))
        (temporaries g d chain (terms_behind ts)) (frames g (numbers_of p h.func g) d chain es (terms_behind ts))

    -- an exception that comes out of it
    abbrev pub Throwing : (known : List Fact) → (index : ℕ) → Type 0
    Throwing known index = ThrownWith p b book h known index (standing p b book h g called_left chain v es ts) (below g d chain (terms_behind ts))
        (temporaries g d chain (terms_behind ts)) (frames g (numbers_of p h.func g) d chain es (terms_behind ts))

    module _ (known : List Fact) (index after : ℕ) where
      pub leaves : (gives stops : Bool) (w : Term) → HandsBack gives m → Comes m w → AreEntered g d → Filled p b book h g called_left chain v es ts known
          → Ahead p b book h g d chain (index + 1) after → 1 ≤ b.half → (stops ≡ false → Throwing known index) → Leaving gives stops known index
      leaves gives stops w e comes entered f a wide out = left_behind p b book h g d chain w es (terms_behind ts) (v ∷ below g called_left chain ts) known
          gives stops index after
          e entered (filled_behind p b book h g (calling (words c n [] id way)) d chain v w es ts known comes f) a wide out

-- ---- by name

module _ (p : Program) (b : Bounds) (book : Book) (h : Held) (g : Setting) {m : Mode} {items : List Item} (d : Left g m items) (func n : ℕ)
    (id : TNodeId) (way : Way) (chain : List ScopeKind) (v : Term) (es : List Exception) (ts : List Term) (known : List Fact) (lead rank index name : ℕ) where
  abbrev callee : ℕ
  callee = p.number h.func.unit func

  abbrev here : Left g top (Invoke id way ∷ items)
  here = called_left p b book h g d (by_name func) n id way

  abbrev NameLeaves : Type 0
  NameLeaves = Leaving p b book h g d (by_name func) n id way chain v es ts (book.gives callee) (book.stops callee) known index

  pub name_calls : h.table.function_of name ≡ Some func → book.takes callee ≡ suc n → NameLeaves
      → Calling p b book h known index (standing p b book h g here chain v es ts) (comes_of p b book h g here chain v es ts) name (suc n)
  name_calls named takes l = record {
    callee = func;
    named = named;
    words = turned n ts ++ v ∷ [];
    under = below g d chain (terms_behind p b book h g d (by_name func) n id way ts);
    temporaries = temporaries g d chain (terms_behind p b book h g d (by_name func) n id way ts);
    others = frames g (numbers_of p h.func g) d chain es (terms_behind p b book h g d (by_name func) n id way ts);
    outcome_is = call_comes p b book h g d (by_name func) n id way chain v es ts;
    operands_are = all_taken n v ts [] (below g d chain (terms_behind p b book h g d (by_name func) n id way ts));
    taken = takes;
    behind = l;
  }

  pub call_fits : h.table.function_of name ≡ Some func → book.takes callee ≡ suc n → NameLeaves
      → Fitting p b book h g here chain v es ts known lead rank index (Call name (suc n))
  call_fits named takes l = name_calls named takes l

  pub safe_call_fits : covers h.safe (standing p b book h g here chain v es ts).opens ≡ true → is_safe (p.func callee) ≡ true
      → h.table.function_of name ≡ Some func → book.takes callee ≡ suc n → NameLeaves
      → Fitting p b book h g here chain v es ts known lead rank index (TCall name (suc n))
  unfolding name_calls
  safe_call_fits covered safe named takes l = (covered, name_calls named takes l, safe)

-- ---- by an address

module _ (p : Program) (b : Bounds) (book : Book) (h : Held) (g : Setting) {m : Mode} {items : List Item} (d : Left g m items) (n : ℕ)
    (id : TNodeId) (way : Way) (chain : List ScopeKind) (v : Term) (es : List Exception) (ts : List Term) (known : List Fact) (lead rank index name : ℕ)
    (gives : Bool) where
  -- through a pointer
  module _ (sig : Signature) where
    abbrev by_address : Left g top (Invoke id way ∷ items)
    by_address = called_left p b book h g d (by_pointer sig) n id way

    abbrev PointerLeaves : Type 0
    PointerLeaves = Leaving p b book h g d (by_pointer sig) n id way chain v es ts gives false known index

    pub pointer_calls : h.table.is_signature name sig ≡ true → book.takes_as sig (suc n) gives ≡ true → PointerLeaves
        → CallingFound p b book h known index (standing p b book h g by_address chain v es ts) (comes_of p b book h g by_address chain v es ts) name (suc n)
    pointer_calls is takes l = record {
      address = first_word (behind n ts);
      callee = pointer (first_word (behind n ts)) sig;
      gives = gives;
      found = Found.by_pointer (first_word (behind n ts)) sig is takes;
      words = turned n ts ++ v ∷ [];
      under = below g d chain (terms_behind p b book h g d (by_pointer sig) n id way ts);
      temporaries = temporaries g d chain (terms_behind p b book h g d (by_pointer sig) n id way ts);
      others = frames g (numbers_of p h.func g) d chain es (terms_behind p b book h g d (by_pointer sig) n id way ts);
      outcome_is = call_comes p b book h g d (by_pointer sig) n id way chain v es ts;
      operands_are = all_taken n v ts (first_word (behind n ts) ∷ []) (below g d chain (terms_behind p b book h g d (by_pointer sig) n id way ts));
      behind = l;
    }

    pub pointer_call_fits : h.table.is_signature name sig ≡ true → book.takes_as sig (suc n) gives ≡ true → PointerLeaves
        → Fitting p b book h g by_address chain v es ts known lead rank index (CallIndirect name (suc n))
    pointer_call_fits is takes l = pointer_calls is takes l

    pub safe_pointer_call_fits : covers h.safe (standing p b book h g by_address chain v es ts).opens ≡ true → h.table.is_signature name sig ≡ true
        → book.takes_as sig (suc n) gives ≡ true → PointerLeaves
        → Fitting p b book h g by_address chain v es ts known lead rank index (TCallIndirect name (suc n))
    safe_pointer_call_fits covered is takes l = (covered, pointer_calls is takes l)

  -- of the function in a slot, of which it is known that it is there
  module _ (class slot : ℕ) where
    abbrev by_class : Left g top (Invoke id way ∷ items)
    by_class = called_left p b book h g d (by_slot class slot) n id way

    abbrev SlotLeaves : Type 0
    SlotLeaves = Leaving p b book h g d (by_slot class slot) n id way chain v es ts gives false known index

    pub slot_calls : h.table.is_slot name class slot ≡ true → book.slot_takes class slot (suc n) gives ≡ true
        → Among (has_function class slot (first_word (behind n ts))) known → SlotLeaves
        → CallingFound p b book h known index (standing p b book h g by_class chain v es ts) (comes_of p b book h g by_class chain v es ts) name (suc n)
    slot_calls is takes among l = record {
      address = slot_function class slot (first_word (behind n ts));
      callee = virtual class slot (first_word (behind n ts));
      gives = gives;
      found = Found.by_slot class slot (first_word (behind n ts)) is takes among;
      words = turned n ts ++ v ∷ [];
      under = below g d chain (terms_behind p b book h g d (by_slot class slot) n id way ts);
      temporaries = temporaries g d chain (terms_behind p b book h g d (by_slot class slot) n id way ts);
      others = frames g (numbers_of p h.func g) d chain es (terms_behind p b book h g d (by_slot class slot) n id way ts);
      outcome_is = call_comes p b book h g d (by_slot class slot) n id way chain v es ts;
      operands_are = all_taken n v ts (slot_function class slot (first_word (behind n ts)) ∷ [])
          (below g d chain (terms_behind p b book h g d (by_slot class slot) n id way ts));
      behind = l;
    }

    pub slot_call_fits : h.table.is_slot name class slot ≡ true → book.slot_takes class slot (suc n) gives ≡ true
        → Among (has_function class slot (first_word (behind n ts))) known → SlotLeaves
        → Fitting p b book h g by_class chain v es ts known lead rank index (CallIndirect name (suc n))
    slot_call_fits is takes among l = slot_calls is takes among l

    pub safe_slot_call_fits : covers h.safe (standing p b book h g by_class chain v es ts).opens ≡ true → h.table.is_slot name class slot ≡ true
        → book.slot_takes class slot (suc n) gives ≡ true → Among (has_function class slot (first_word (behind n ts))) known → SlotLeaves
        → Fitting p b book h g by_class chain v es ts known lead rank index (TCallIndirect name (suc n))
    safe_slot_call_fits covered is takes among l = (covered, slot_calls is takes among l)
