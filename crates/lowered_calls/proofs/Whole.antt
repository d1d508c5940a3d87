-- Calls that fit where the note behind them is there.
use Rattle.std.proofs.Common.{inl, refl, ℕ, suc, ◌≡◌, ◌+◌, ◌≤◌, Bool, true, false, List, Some}
use Rattle.cpp_tree.specs.cpp_types.Typ.{Signature}
use Rattle.cpp_tree.specs.declared.arena.TNodeId.{TNodeId}
use Rattle.tx_code.specs.declared.instr.Instr.TheVariants.{Call, CallIndirect}
use Rattle.low_code.specs.declared.scopes.ScopeKind.{ScopeKind}
use Rattle.src_mean.specs.Linked.{Program}
use Rattle.symbolic_source.specs.Terms.{Term, Exception, number}
use Rattle.symbolic_source.specs.Steps.{first_word}
use Rattle.symbolic_code.specs.Facts.{Fact, has_function, Among}
use Rattle.body_check.specs.Notes.{Bounds}
use Rattle.body_check.specs.Calls.{Book}
use Rattle.body_check.specs.Linked.{Held}
use Rattle.unwind_lower.specs.declared.items.Way.{Way}
use Rattle.unwind_lower.specs.declared.items.Item.{Item}
use Rattle.unwind_lower.specs.Settings.{Setting}
use Rattle.lowered_frames.specs.Lists.{behind}
use Rattle.lowered_frames.specs.Modes.{Mode, top, doubled, tripled, second, gone, nought}
use Rattle.lowered_frames.specs.Calls.{by_name, by_slot, by_pointer}
use Rattle.lowered_frames.specs.Left.{Left, AreEntered}
use Rattle.lowered_notes.specs.Canonical.{Comes, IsForeseen, facts}
use Rattle.lowered_steps.specs.Ahead.{Fitting, Ahead, Filled, Moves}
use Rattle.lowered_steps.proofs.Moving.{at_once}
use Rattle.lowered_calls.specs.Back.{HandsBack}
use Rattle.lowered_calls.proofs.Rest.{bare_comes}
use Rattle.lowered_calls.proofs.Words.{called_left, Throwing, leaves, call_fits, pointer_call_fits, slot_call_fits}

-- the value that a call gives can come behind it
pub hands_come : (gives : Bool) (m : Mode) → HandsBack gives m → Comes m (number 0)
hands_come true top e = tt
hands_come true doubled e = absurd e
hands_come true tripled e = absurd e
hands_come true second e = absurd e
hands_come true gone e = absurd e
hands_come true nought e = absurd e
hands_come false m e = bare_comes m e

module _ (p : Program) (b : Bounds) (book : Book) (h : Held) (g : Setting) {m : Mode} {items : List Item} (d : Left g m items) (n : ℕ) (id : TNodeId)
    (way : Way)
    (chain : List ScopeKind) (rank index after name : ℕ) (entered : AreEntered g d) (a : Ahead p b book h g d chain (index + 1) after) (wide : 1 ≤ b.half) where
  module _ (v : Term) (es : List Exception) (ts : List Term) (known : List Fact) (lead : ℕ) where
    pub named_call_fits : (func : ℕ) → h.table.function_of name ≡ Some func → book.takes (p.number h.func.unit func) ≡ suc n
        → HandsBack (book.gives (p.number h.func.unit func)) m
        → (book.stops (p.number h.func.unit func) ≡ false → Throwing p b book h g d (by_name func) n id way chain v es ts known index)
        → Filled p b book h g (called_left p b book h g d (by_name func) n id way) chain v es ts known
        → Fitting p b book h g (called_left p b book h g d (by_name func) n id way) chain v es ts known lead rank index (Call name (suc n))
    named_call_fits func named takes e out f = call_fits p b book h g d func n id way chain v es ts known lead rank index name named takes
        (leaves p b book h g d (by_name func) n id way chain v es ts known index after (book.gives (p.number h.func.unit func))
        (book.stops (p.number h.func.unit func))
        (number 0) e (hands_come (book.gives (p.number h.func.unit func)) m e) entered f a wide out)

    pub pointed_call_fits : (sig : Signature) (gives : Bool) → h.table.is_signature name sig ≡ true → book.takes_as sig (suc n) gives ≡ true → HandsBack gives m
        → Throwing p b book h g d (by_pointer sig) n id way chain v es ts known index
        → Filled p b book h g (called_left p b book h g d (by_pointer sig) n id way) chain v es ts known
        → Fitting p b book h g (called_left p b book h g d (by_pointer sig) n id way) chain v es ts known lead rank index (CallIndirect name (suc n))
    pointed_call_fits sig gives is takes e out f = pointer_call_fits p b book h g d n id way chain v es ts known lead rank index name gives sig is takes
        (leaves p b book h g d (by_pointer sig) n id way chain v es ts known index after gives false (number 0) e (hands_come gives m e) entered f a wide
        (λ may. out))

    pub slotted_call_fits : (class slot : ℕ) (gives : Bool) → h.table.is_slot name class slot ≡ true → book.slot_takes class slot (suc n) gives ≡ true
        → Among (has_function class slot (first_word (behind n ts))) known → HandsBack gives m
        → Throwing p b book h g d (by_slot class slot) n id way chain v es ts known index
        → Filled p b book h g (called_left p b book h g d (by_slot class slot) n id way) chain v es ts known
        → Fitting p b book h g (called_left p b book h g d (by_slot class slot) n id way) chain v es ts known lead rank index (CallIndirect name (suc n))
    slotted_call_fits class slot gives is takes among e out f = slot_call_fits p b book h g d n id way chain v es ts known lead rank index name gives class
        slot is takes
        among (leaves p b book h g d (by_slot class slot) n id way chain v es ts known index after gives false (number 0) e (hands_come gives m e) entered f a
        wide
        (λ may. out))

  -- at the note itself it is known that the slot has a function
  pub slot_among : (class slot : ℕ) (ts : List Term)
      → Among (has_function class slot (first_word (behind n ts))) (facts g (called_left p b book h g d (by_slot class slot) n id way) chain ts)
  slot_among class slot ts = inl refl

  -- whatever the terms are
  pub named_call_moves : (func : ℕ) → IsForeseen p h.func g (called_left p b book h g d (by_name func) n id way) chain → h.table.function_of name ≡ Some func
      → book.takes (p.number h.func.unit func) ≡ suc n → HandsBack (book.gives (p.number h.func.unit func)) m
      → ((v : Term) (es : List Exception) (ts : List Term) (known : List Fact)
      → Filled p b book h g (called_left p b book h g d (by_name func) n id way) chain v es ts known → book.stops (p.number h.func.unit func) ≡ false
      → Throwing p b book h g d (by_name func) n id way chain v es ts known index)
      → Moves p b book h g (called_left p b book h g d (by_name func) n id way) chain 0 rank index (Call name (suc n))
  named_call_moves func going named takes e out = at_once p b book h g (called_left p b book h g d (by_name func) n id way) chain rank index
      (Call name (suc n)) going
      (λ v es ts known f told all_told lead short. named_call_fits v es ts known lead func named takes e (out v es ts known f) f)

  pub pointed_call_moves : (sig : Signature) (gives : Bool) → IsForeseen p h.func g (called_left p b book h g d (by_pointer sig) n id way) chain
      → h.table.is_signature name sig ≡ true → book.takes_as sig (suc n) gives ≡ true → HandsBack gives m
      → ((v : Term) (es : List Exception) (ts : List Term) (known : List Fact)
      → Filled p b book h g (called_left p b book h g d (by_pointer sig) n id way) chain v es ts known
      → Throwing p b book h g d (by_pointer sig) n id way chain v es ts known index)
      → Moves p b book h g (called_left p b book h g d (by_pointer sig) n id way) chain 0 rank index (CallIndirect name (suc n))
  pointed_call_moves sig gives going is takes e out = at_once p b book h g (called_left p b book h g d (by_pointer sig) n id way) chain rank index
      (CallIndirect name (suc n)) going (λ v es ts known f told all_told lead short. pointed_call_fits v es ts known lead sig gives is takes e
      (out v es ts known f) f)
