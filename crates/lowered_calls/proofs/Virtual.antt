-- Virtual calls: the object's class is read, and the function in its slot found and put below the object.
use Rattle.std.proofs.Common.{ℕ, pos, ◌≡◌, ◌+◌, ◌<◌, ◌≤◌, ◌^◌, inr, refl, ap, sym, ◌∙◌, subst, Bool, true, false, cond, List, [], ◌∷◌, ◌++◌, Option, Some, ◌==◌, ◌&&◌}
use Rattle.std.proofs.Math.Nat.{mod-eq_of_lt}
use Rattle.cpp_tree.specs.tx_ints.declared.kinds.IntKind.TheVariants.{ULong}
use Rattle.tx_ints.specs.Words.{word_of}
use Rattle.cpp_tree.specs.cpp_types.Typ.{Typ}
use Rattle.cpp_tree.specs.cpp_types.declared.classes.At.{At}
use Rattle.cpp_tree.specs.declared.arena.TNodeId.{TNodeId}
use Rattle.cpp_tree.specs.declared.kinds.TKind.TheVariants.{VirtualCall}
use Rattle.tx_code.specs.declared.instr.Instr.TheVariants.{Load, Swap, Slot as SlotOf}
use Rattle.tx_code.specs.Meaning.{Home}
use Rattle.low_code.specs.declared.scopes.Owner.TheVariants.{Call as OfCall}
use Rattle.low_code.specs.declared.scopes.ScopeKind.{ScopeKind}
use Rattle.low_code.specs.declared.scopes.ScopeKind.TheVariants.{Mark}
use Rattle.low_code.specs.Numbers.{kind_number}
use Rattle.src_mean.specs.Linked.{Func, Program}
use Rattle.src_mean.specs.Source.{converted}
use Rattle.symbolic_source.specs.Terms.{Term, number, variable, converted_to, slot_function, plus_number, Values, Exception}
use Rattle.symbolic_source.specs.Frames.{Slot, virtual, words_of}
use Rattle.symbolic_source.specs.Outcomes.{Outcome, reads}
use Rattle.symbolic_source.specs.Steps.{given, called, first_word}
use Rattle.symbolic_source.specs.Small.{AreWords}
use Rattle.symbolic_source.specs.Replacing.{in_terms, in_frames, in_waitings}
use Rattle.symbolic_code.specs.Facts.{Fact, has_function, in_facts}
use Rattle.symbolic_code.specs.Same.{same_term}
use Rattle.symbolic_code.specs.Places.{Place, later, with_operands, place_later, frame_at}
use Rattle.symbolic_code.specs.Following.{followed, Next, refused, loudly, finding, if_found, one_of, pushes, slots_follow, bare_address}
use Rattle.symbolic_code.proofs.Arithmetic.{value_plain}
use Rattle.body_check.specs.Notes.{Note, Bounds, Lands, LandsOn, Fits, no_answers}
use Rattle.body_check.specs.Calls.{Book}
use Rattle.body_check.specs.Linked.{Held}
use Rattle.unwind_lower.specs.declared.items.Way.{Way}
use Rattle.unwind_lower.specs.declared.items.Way.TheVariants.{Value, Into}
use Rattle.unwind_lower.specs.declared.items.Item.{Item}
use Rattle.unwind_lower.specs.declared.items.Item.TheVariants.{Slot as SlotIt}
use Rattle.unwind_lower.specs.Settings.{Setting, node_in}
use Rattle.lowered_frames.specs.Lists.{behind, others}
use Rattle.lowered_frames.specs.Modes.{Mode, top, result_with, result_count, trees_in}
use Rattle.lowered_frames.specs.Chains.{scopes_behind}
use Rattle.lowered_frames.specs.Calls.{by_slot, call_items, words, object, found}
use Rattle.lowered_frames.specs.Closings.{close_call}
use Rattle.lowered_frames.specs.Left.{Left, before, calling, closing, frames, temporaries, below, count}
use Rattle.lowered_frames.proofs.Replaced.{below_in}
use Rattle.lowered_notes.specs.Canonical.{numbers_of}
use Rattle.lowered_notes.specs.Straight.{Straight, done, moves, swapped}
use Rattle.lowered_notes.proofs.KindNumbers.{both, same_itself}
use Rattle.lowered_notes.proofs.Terms.{others_so}
use Rattle.lowered_steps.specs.Ahead.{standing, comes_of, Fitting, Ahead, Filled}
use Rattle.lowered_steps.proofs.Landings.{quiet_landing, loud_landing, place_after}
use Rattle.lowered_calls.proofs.Readings.{two_so}

-- ---- a word that is read as an address

word_as_number : (n : ℕ) → n < 2 ^ 64 → word_of (pos n) ≡ n
unfolding word_of
word_as_number n small = mod-eq_of_lt small

converted_address : (w : ℕ) → w < 2 ^ 64 → converted ULong w ≡ w
converted_address w small = ap (λ z. word_of z) (value_plain w small) ∙ word_as_number w small

-- where frames are the same, so is what they come to
module _ (p : Program) (f : Func) (b : Bounds) (notes : List Note) (thrown : Typ → Bool) (known : List Fact) (index : ℕ) (q r : Place) (o : Outcome) where
  abbrev lands_alike : ((x : Values) → AreWords x → (numbers : Typ → ℕ) (home : Home)
      → frame_at p f numbers x home index q ≡ frame_at p f numbers x home index r)
      → Lands p f b notes thrown known no_answers index r o → Lands p f b notes thrown known no_answers index q o
  lands_alike same l = record {
    at = l.at;
    note = l.note;
    is = l.is;
    there = l.there;
    lag = l.lag;
    terms = l.terms;
    types = l.types;
    same_place = λ x bounded holds numbers home. same x bounded numbers home ∙ l.same_place x bounded holds numbers home;
    same_facts = l.same_facts;
    same_outcome = l.same_outcome;
    foreseen = l.foreseen;
    low = l.low;
  }

address_alike : (p : Program) (f : Func) (q : Place) (ws : List Term) (index : ℕ) (x : Values) → AreWords x → (numbers : Typ → ℕ) (home : Home)
    → frame_at p f numbers x home index (with_operands q (converted_to ULong (variable 0) ∷ ws)) ≡ frame_at p f numbers x home index
    (with_operands q (variable 0 ∷ ws))
address_alike p f q ws index x bounded numbers home = ap (λ (z : ℕ). record (frame_at p f numbers x home index q) { words = z ∷ words_of p f x ws })
    (converted_address (x.word 0) (bounded 0))

module _ (p : Program) (b : Bounds) (book : Book) (h : Held) (g : Setting) {m : Mode} {items : List Item} (d : Left g m items) (id : TNodeId) (way : Way)
    (ids : List TNodeId)
    (at : At) (func class slot offset : ℕ) (is : (node_in g id).kind ≡ VirtualCall func class slot offset) where
  abbrev object_left : Left g top (SlotIt id way ∷ call_items ids id way at items)
  object_left = before (calling (object id way ids at func class slot offset is)) d

  abbrev found_left : Left g top (SlotIt id way ∷ call_items ids id way at items)
  found_left = before (calling (found id way ids at func class slot offset is)) d

  abbrev NextFits : (known : List Fact) (lead rank : ℕ) → Next → Type 0
  NextFits known lead rank next = Fits p h.func b h.notes book.thrown book.numbers h.rows known lead rank next

  -- ---- the class is read

  module _ (chain : List ScopeKind) (v : Term) (es : List Exception) (ts : List Term) (known : List Fact) (lead rank index after : ℕ) (address : Term) where
    abbrev behind_them : List Term
    behind_them = behind (result_count way) ts

    -- with the place of the class on top
    abbrev class_place : Place
    class_place = with_operands (standing p b book h g object_left chain v es ts) (address ∷ v ∷ below g object_left chain ts)

    abbrev after_class : Next
    after_class = loudly (reads (plus_number v offset) 8 false) (temporaries g d (scopes_behind chain) behind_them)
        (Slot (result_with way ts ++ v ∷ []) class slot (trees_in g ids) ∷ frames g (numbers_of p h.func g) d (scopes_behind chain) es behind_them) (index + 1)
        (place_later class_place (converted_to ULong (variable 0) ∷ in_terms later (v ∷ below g object_left chain ts)))

    class_lands : Filled p b book h g object_left chain v es ts known → Ahead p b book h g found_left chain (index + 1) after
        → NextFits known lead rank after_class
    class_lands f a = (
      refl,
      lands_alike p h.func b h.notes book.thrown (in_facts later known) (index + 1)
          (place_later class_place (converted_to ULong (variable 0) ∷ in_terms later (v ∷ below g object_left chain ts)))
          (place_later class_place (variable 0 ∷ in_terms later (v ∷ below g object_left chain ts)))
          (given p h.func no_answers (in_waitings later (temporaries g found_left chain (v ∷ ts))) (variable 0)
          (in_frames later (frames g (numbers_of p h.func g) found_left chain es (v ∷ ts))))
          (address_alike p h.func (place_later class_place []) (in_terms later (v ∷ below g object_left chain ts)) (index + 1)) lands.0,
      lands.1,
    )
      where
        lands : (l : Lands p h.func b h.notes book.thrown (in_facts later known) no_answers (index + 1)
            (place_later class_place (variable 0 ∷ in_terms later (v ∷ below g object_left chain ts)))
            (given p h.func no_answers (in_waitings later (temporaries g found_left chain (v ∷ ts))) (variable 0)
            (in_frames later (frames g (numbers_of p h.func g) found_left chain es (v ∷ ts))))) × (l.lag ≡ 0)
        lands = loud_landing p b book h g found_left chain (number 0) (variable 0) es (v ∷ ts) known
            (record { all = f.all; so = f.so; types = f.types; knows = f.knows; comes = tt }) tt (index + 1) after a
            (place_later class_place (variable 0 ∷ in_terms later (v ∷ below g object_left chain ts)))
            (place_after p b book h g found_left chain (number 0) (variable 0) es (v ∷ ts) (variable 0 ∷ in_terms later (v ∷ below g object_left chain ts))
            (ap (λ (z : List Term). variable 0 ∷ z) (below_in g later found_left chain (v ∷ ts))))

    pub class_fits : same_term address (plus_number v offset) ≡ true → Filled p b book h g object_left chain v es ts known
        → Ahead p b book h g found_left chain (index + 1) after
        → NextFits known lead rank (followed h.table known index (Load (kind_number ULong)) class_place (comes_of p b book h g object_left chain v es ts))
    class_fits same f a = subst (λ (z : Bool). NextFits known lead rank (cond z after_class refused))
        (sym (both (same_term address (plus_number v offset) && true) true (both (same_term address (plus_number v offset)) true same refl) refl))
        (class_lands f a)

  -- ---- the function is found

  module _ (chain : List ScopeKind) (v : Term) (es : List Exception) (ts : List Term) (known : List Fact) (lead rank index name : ℕ) where
    abbrev comes_next : Outcome
    comes_next = called (temporaries g d (scopes_behind chain) (behind (result_count way) (others ts))) (virtual class slot v)
        (result_with way (others ts) ++ first_word ts ∷ [])
        (trees_in g ids) (frames g (numbers_of p h.func g) d (scopes_behind chain) es (behind (result_count way) (others ts)))

    abbrev found_place : Place
    found_place = with_operands (standing p b book h g found_left chain v es ts) (slot_function class slot v ∷ below g found_left chain ts)

    pub slot_fits : h.table.class_of name ≡ Some class → same_term (bare_address v) v ≡ true
        → LandsOn p h.func b h.notes book.thrown (has_function class slot v ∷ known) lead rank (index + 1) found_place comes_next
        → Fitting p b book h g found_left chain v es ts known lead rank index (SlotOf name slot)
    slot_fits named bare l = subst (λ (z : Option ℕ). NextFits known lead rank (if_found z (λ c. one_of (v ∷ below g found_left chain ts)
        (λ a ws. slots_follow index c slot (standing p b book h g found_left chain v es ts) a ws (comes_of p b book h g found_left chain v es ts)))))
        (sym named)
        (subst (λ (z : Bool). NextFits known lead rank (cond z (finding class slot v (pushes index (standing p b book h g found_left chain v es ts) comes_next
        (slot_function class slot v) (below g found_left chain ts))) refused))
        (sym (both ((class == class) && (slot == slot)) (same_term (bare_address v) v)
        (both (class == class) (slot == slot) (same_itself class) (same_itself slot)) bare)) l)

-- ---- it goes below the object

module _ (p : Program) (b : Bounds) (book : Book) (h : Held) (g : Setting) {m : Mode} {items : List Item} (d : Left g m items) (id : TNodeId)
    (ids : List TNodeId)
    (at : At) (func class slot offset : ℕ) (is : (node_in g id).kind ≡ VirtualCall func class slot offset) (outer : List ScopeKind)
    (v : Term) (es : List Exception) (ts : List Term) (known : List Fact) (lead rank index after : ℕ) where
  pub slot_swapped : (ws : List Term) → Straight known (Swap ∷ []) (slot_function class slot v ∷ first_word ts ∷ ws)
      (first_word ts ∷ slot_function class slot v ∷ ws)
  slot_swapped ws = moves (swapped (first_word ts) (slot_function class slot v)) done

  -- without a class result
  pub object_on_top : Filled p b book h g (found_left p b book h g d id Value ids at func class slot offset is) (Mark OfCall ∷ outer) v es ts known
      → Ahead p b book h g (before (calling (words (by_slot class slot) 0 ids id Value)) (before (closing (close_call at)) d)) (Mark OfCall ∷ outer) index after
      → lead + 0 ≤ b.longest → after + 1 ≤ rank
      → LandsOn p h.func b h.notes book.thrown (has_function class slot v ∷ known) lead rank index
      (with_operands (standing p b book h g (found_left p b book h g d id Value ids at func class slot offset is) (Mark OfCall ∷ outer) v es ts)
      (first_word ts ∷ slot_function class slot v ∷ below g d outer (others ts)))
      (comes_next p b book h g d id Value ids at func class slot offset is (Mark OfCall ∷ outer) v es ts known lead rank index 0)
  object_on_top f a short falls = quiet_landing p b book h g (before (calling (words (by_slot class slot) 0 ids id Value)) (before (closing (close_call at)) d))
      (Mark OfCall ∷ outer) (first_word ts) es (v ∷ others ts) (has_function class slot v ∷ known)
      (record { all = f.all; so = others_so _ ts f.so; types = f.types; knows = λ x bounded holds. (holds.0, f.knows x bounded holds.1); comes = tt })
      lead 0 rank index after a short (inr falls)
      (with_operands (standing p b book h g (found_left p b book h g d id Value ids at func class slot offset is) (Mark OfCall ∷ outer) v es ts)
      (first_word ts ∷ slot_function class slot v ∷ below g d outer (others ts)))
      (comes_next p b book h g d id Value ids at func class slot offset is (Mark OfCall ∷ outer) v es ts known lead rank index 0) refl refl

  -- with one, whose address lies between
  pub object_and_result : Filled p b book h g (found_left p b book h g d id Into ids at func class slot offset is) (Mark OfCall ∷ outer) v es ts known
      → Ahead p b book h g (before (calling (words (by_slot class slot) 1 ids id Into)) (before (closing (close_call at)) d)) (Mark OfCall ∷ outer) index after
      → lead + 0 ≤ b.longest → after + 1 ≤ rank
      → LandsOn p h.func b h.notes book.thrown (has_function class slot v ∷ known) lead rank index
      (with_operands (standing p b book h g (found_left p b book h g d id Into ids at func class slot offset is) (Mark OfCall ∷ outer) v es ts)
      (first_word ts ∷ first_word (others ts) ∷ slot_function class slot v ∷ below g d outer (behind 2 ts)))
      (comes_next p b book h g d id Into ids at func class slot offset is (Mark OfCall ∷ outer) v es ts known lead rank index 0)
  object_and_result f a short falls = quiet_landing p b book h g
      (before (calling (words (by_slot class slot) 1 ids id Into)) (before (closing (close_call at)) d))
      (Mark OfCall ∷ outer) (first_word ts) es (first_word (others ts) ∷ v ∷ behind 2 ts) (has_function class slot v ∷ known)
      (record {
        all = f.all;
        so = two_so (count g d outer) ts f.so;
        types = f.types;
        knows = λ x bounded holds. (holds.0, f.knows x bounded holds.1);
        comes = tt;
      })
      lead 0 rank index after a short (inr falls)
      (with_operands (standing p b book h g (found_left p b book h g d id Into ids at func class slot offset is) (Mark OfCall ∷ outer) v es ts)
      (first_word ts ∷ first_word (others ts) ∷ slot_function class slot v ∷ below g d outer (behind 2 ts)))
      (comes_next p b book h g d id Into ids at func class slot offset is (Mark OfCall ∷ outer) v es ts known lead rank index 0) refl refl
