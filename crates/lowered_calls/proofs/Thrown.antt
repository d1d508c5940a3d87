-- What is thrown: its scalars are put into the exception one by one.
use Rattle.std.proofs.Common.{ℕ, suc, ◌≡◌, ◌+◌, ◌≤◌, ◌⊎◌, inl, refl, ap, sym, ◌∙◌, subst, Bool, true, false, not, cond, List, [], ◌∷◌, Option, Some, length}
use Rattle.std.proofs.Common.{◌==◌, ◌&&◌, arith}
use Rattle.cpp_tree.specs.tx_ints.declared.kinds.IntKind.{IntKind}
use Rattle.cpp_tree.specs.tx_ints.declared.kinds.IntKind.TheVariants.{Bool as BoolKind, Char, SChar, UChar, Short, UShort, Int, UInt, Long, ULong, LLong, ULLong}
use Rattle.cpp_tree.specs.cpp_layout.Layout.{kind_size}
use Rattle.cpp_tree.specs.cpp_types.Typ.{Typ}
use Rattle.cpp_tree.specs.Trees.{kind_of}
use Rattle.cpp_tree.specs.declared.arena.TNodeId.{TNodeId}
use Rattle.cpp_tree.specs.declared.kinds.TKind.{TKind}
use Rattle.cpp_tree.specs.declared.kinds.TKind.TheVariants.{Field}
use Rattle.tx_code.specs.declared.instr.Instr.TheVariants.{Load, NewException, PutException, Throw}
use Rattle.tx_code.specs.Meaning.{size_of}
use Rattle.low_code.specs.declared.scopes.ScopeKind.{ScopeKind}
use Rattle.low_code.specs.Numbers.{kind_number, bytes_kind, bytes_number}
use Rattle.src_mean.specs.Exceptions.{is_object_typ}
use Rattle.src_mean.specs.Linked.{Program}
use Rattle.symbolic_source.specs.Terms.{Term, number, variable, converted_to, plus_number, Exception, made, Puts, untouched, put}
use Rattle.symbolic_source.specs.Frames.{Loaded, Fills, Filled as FilledFrame}
use Rattle.symbolic_source.specs.Outcomes.{Outcome, reads, goes, silent}
use Rattle.symbolic_source.specs.Steps.{given, first_word, fill_field}
use Rattle.symbolic_source.specs.Replacing.{in_terms, in_frames, in_waitings}
use Rattle.symbolic_code.specs.Facts.{Fact, in_facts}
use Rattle.symbolic_code.specs.Same.{same_term}
use Rattle.symbolic_code.specs.Places.{Place, making, nothing, later, with_operands, holding, place_later}
use Rattle.symbolic_code.specs.Following.{Next, refused, quietly, loudly, if_found, loads, puts_in, is_bool}
use Rattle.body_check.specs.Notes.{Bounds, Lands, Fits, Flies, no_answers}
use Rattle.body_check.specs.Calls.{Book, StepFits}
use Rattle.body_check.specs.Linked.{Held}
use Rattle.unwind_lower.specs.declared.items.Item.{Item}
use Rattle.unwind_lower.specs.declared.items.Item.TheVariants.{Thrown}
use Rattle.unwind_lower.specs.Settings.{Setting, node_in}
use Rattle.unwind_lower.specs.Kids.{kids_from}
use Rattle.lowered_frames.specs.Lists.{behind, others, more_by}
use Rattle.lowered_frames.specs.Modes.{Mode, top, gone, tree_in, trees_in}
use Rattle.lowered_frames.specs.Throws.{throwing as throws_it, fills, filled, fills_scalar, scalar_filled, thrown_in, put_as, puts_with}
use Rattle.lowered_frames.specs.Left.{Left, before, throwing, frames, temporaries, below, count}
use Rattle.lowered_frames.proofs.Replaced.{below_in}
use Rattle.lowered_notes.specs.Canonical.{numbers_of}
use Rattle.lowered_notes.proofs.KindNumbers.{kind_found, both, same_sizes, small_sizes}
use Rattle.lowered_notes.proofs.Terms.{others_so}
use Rattle.lowered_steps.specs.Ahead.{standing, comes_of, Fitting, Ahead, Filled}
use Rattle.lowered_steps.proofs.Landings.{quiet_landing, loud_landing, place_after}

-- ---- the kinds of bytes

no_bool : (k : IntKind) → not (is_bool (bytes_kind k)) ≡ true
no_bool BoolKind = refl
no_bool Char = refl
no_bool SChar = refl
no_bool UChar = refl
no_bool Short = refl
no_bool UShort = refl
no_bool Int = refl
no_bool UInt = refl
no_bool Long = refl
no_bool ULong = refl
no_bool LLong = refl
no_bool ULLong = refl

bytes_size : (k : IntKind) → size_of (bytes_kind k) ≡ kind_size k
bytes_size BoolKind = refl
bytes_size Char = refl
bytes_size SChar = refl
bytes_size UChar = refl
bytes_size Short = refl
bytes_size UShort = refl
bytes_size Int = refl
bytes_size UInt = refl
bytes_size Long = refl
bytes_size ULong = refl
bytes_size LLong = refl
bytes_size ULLong = refl

one_more : (n : ℕ) → 1 ≤ n + 1
one_more n = omega arith

module _ (p : Program) (b : Bounds) (book : Book) (h : Held) (g : Setting) {m : Mode} {items : List Item} (d : Left g m items) (id : TNodeId)
    (chain : List ScopeKind) (es : List Exception) (known : List Fact) (lead rank index after : ℕ) where
  abbrev NextFits : Next → Type 0
  NextFits next = Fits p h.func b h.notes book.thrown book.numbers h.rows known lead rank next

  abbrev throws_left : Left g top (Thrown id ∷ items)
  throws_left = before (throwing (throws_it id)) d

  abbrev new_next : Term → List Term → Option Typ → Next
  new_next v ts found = if_found found (λ typ. quietly (index + 1) (holding (standing p b book h g throws_left chain v es ts) (making typ untouched))
      (comes_of p b book h g throws_left chain v es ts))

  -- ---- objects

  module _ (object : is_object_typ (thrown_in g id) ≡ true) where
    abbrev fills_left : (done ids : List TNodeId) → Left g gone (Thrown id ∷ items)
    fills_left done ids = before (throwing (fills id done ids object)) d

    -- the exception is begun
    pub new_fits : (v : Term) (ts : List Term) (ty : ℕ) → h.table.type_of ty ≡ Some (thrown_in g id) → Filled p b book h g throws_left chain v es ts known
        → Ahead p b book h g (fills_left [] (kids_from (node_in g id) 1)) chain (index + 1) after → lead + 1 ≤ b.longest
        → Fitting p b book h g throws_left chain v es ts known lead rank index (NewException ty)
    new_fits v ts ty named f a short = subst (λ (z : Option Typ). NextFits (new_next v ts z)) (sym named)
        (quiet_landing p b book h g (fills_left [] (kids_from (node_in g id) 1)) chain (number 0) es (v ∷ ts) known
        (record { all = f.all; so = f.so; types = f.types; knows = f.knows; comes = tt }) lead 1 rank (index + 1) after a short (inl (one_more lead))
        (holding (standing p b book h g throws_left chain v es ts) (making (thrown_in g id) untouched)) (comes_of p b book h g throws_left chain v es ts) refl
        refl)

    module _ (field : TNodeId) (done ids : List TNodeId) (offset : ℕ) (kind : IntKind) (is : (node_in g field).kind ≡ Field offset kind) where
      abbrev filled_left : Left g top (Thrown id ∷ items)
      filled_left = before (throwing (filled id field done ids offset kind object is)) d

      -- a scalar is read, the place of which lies on top
      module _ (v : Term) (ts : List Term) (address : Term) where
        abbrev terms_behind : List Term
        terms_behind = behind (suc (length done)) ts

        abbrev field_place : Place
        field_place = with_operands (standing p b book h g (fills_left done (field ∷ ids)) chain v es ts)
            (address ∷ first_word ts ∷ below g d chain terms_behind)

        abbrev field_next : Outcome
        field_next = goes (reads (plus_number (first_word ts) offset) (kind_size kind) false) (temporaries g d chain terms_behind)
            (Loaded kind ∷ FilledFrame (thrown_in g id) (first_word ts) offset kind (trees_in g ids) (puts_with g done (others ts))
            ∷ frames g (numbers_of p h.func g) d chain es terms_behind)

        field_comes : kind_of (tree_in g field) ≡ Field offset kind → comes_of p b book h g (fills_left done (field ∷ ids)) chain v es ts ≡ field_next
        unfolding tree_in trees_in
        field_comes shows = ap (λ (k : TKind). fill_field p h.func no_answers (temporaries g d chain terms_behind) (thrown_in g id) (first_word ts) k
            (trees_in g ids)
            (puts_with g done (others ts)) (frames g (numbers_of p h.func g) d chain es terms_behind)) shows
            ∙ ap (λ (z : Bool). cond z field_next (goes silent (temporaries g d chain terms_behind)
            (Fills (thrown_in g id) (first_word ts) (trees_in g ids) (put offset (kind_size kind) (first_word ts) (puts_with g done (others ts)))
            ∷ frames g (numbers_of p h.func g) d chain es terms_behind))) object

        abbrev after_field : Next
        after_field = loudly (reads (plus_number (first_word ts) offset) (kind_size kind) false) (temporaries g d chain terms_behind)
            (Loaded kind ∷ FilledFrame (thrown_in g id) (first_word ts) offset kind (trees_in g ids) (puts_with g done (others ts))
            ∷ frames g (numbers_of p h.func g) d chain es terms_behind) (index + 1)
            (place_later field_place (converted_to kind (variable 0) ∷ in_terms later (first_word ts ∷ below g d chain terms_behind)))

        field_lands : Filled p b book h g (fills_left done (field ∷ ids)) chain v es ts known → Ahead p b book h g filled_left chain (index + 1) after
            → NextFits after_field
        field_lands f a = (small_sizes kind, lands.0, lands.1)
          where
            lands : (l : Lands p h.func b h.notes book.thrown (in_facts later known) no_answers (index + 1)
                (place_later field_place (converted_to kind (variable 0) ∷ in_terms later (first_word ts ∷ below g d chain terms_behind)))
                (given p h.func no_answers (in_waitings later (temporaries g filled_left chain ts)) (converted_to kind (variable 0))
                (in_frames later (frames g (numbers_of p h.func g) filled_left chain es ts)))) × (l.lag ≡ 0)
            lands = loud_landing p b book h g filled_left chain (number 0) (converted_to kind (variable 0)) es ts known
                (record { all = f.all; so = f.so; types = f.types; knows = f.knows; comes = tt }) tt (index + 1) after a
                (place_later field_place (converted_to kind (variable 0) ∷ in_terms later (first_word ts ∷ below g d chain terms_behind)))
                (place_after p b book h g filled_left chain (number 0) (converted_to kind (variable 0)) es ts
                (converted_to kind (variable 0) ∷ in_terms later (first_word ts ∷ below g d chain terms_behind))
                (ap (λ (z : List Term). converted_to kind (variable 0) ∷ z) (below_in g later filled_left chain ts)))

        pub field_fits : kind_of (tree_in g field) ≡ Field offset kind → same_term address (plus_number (first_word ts) offset) ≡ true
            → Filled p b book h g (fills_left done (field ∷ ids)) chain v es ts known → Ahead p b book h g filled_left chain (index + 1) after
            → StepFits p b book h known lead rank index (Load (kind_number kind)) field_place
            (comes_of p b book h g (fills_left done (field ∷ ids)) chain v es ts)
        field_fits shows same f a = subst (λ (z : Outcome). StepFits p b book h known lead rank index (Load (kind_number kind)) field_place z)
            (sym (field_comes shows))
            (subst (λ (z : Option IntKind). NextFits (if_found z
            (λ k. loads index field_place k false address (first_word ts ∷ below g d chain terms_behind) field_next)))
            (sym (kind_found kind))
            (subst (λ (z : Bool). NextFits (cond z after_field refused))
            (sym (both (same_term address (plus_number (first_word ts) offset) && (kind_size kind == size_of kind)) true
            (both (same_term address (plus_number (first_word ts) offset)) (kind_size kind == size_of kind) same (same_sizes kind)) refl))
            (field_lands f a)))

      -- it is put
      module _ (v : Term) (ts : List Term) where
        abbrev put_on : IntKind → Next
        put_on k = puts_in index offset k (standing p b book h g filled_left chain v es ts) (comes_of p b book h g filled_left chain v es ts)
            (making (thrown_in g id) (puts_with g done (others ts)))

        abbrev put_next : ℕ → Next
        put_next size = quietly (index + 1) (holding (with_operands (standing p b book h g filled_left chain v es ts)
            (first_word ts ∷ below g d chain (behind (suc (length done)) ts)))
            (making (thrown_in g id) (put offset size v (puts_with g done (others ts))))) (comes_of p b book h g filled_left chain v es ts)

        put_is : (w : Term) → put_as (node_in g field).kind w (puts_with g done (others ts)) ≡ put offset (kind_size kind) w (puts_with g done (others ts))
        put_is w = ap (λ (z : TKind). put_as z w (puts_with g done (others ts))) is

        put_lands : Filled p b book h g filled_left chain v es ts known → Ahead p b book h g (fills_left (field ∷ done) ids) chain (index + 1) after
            → lead + 1 ≤ b.longest → NextFits (put_next (kind_size kind))
        put_lands f a short = quiet_landing p b book h g (fills_left (field ∷ done) ids) chain (number 0) es (first_word ts ∷ v ∷ others ts) known
            (record { all = f.all; so = others_so (more_by (length done) (count g d chain)) ts f.so; types = f.types; knows = f.knows; comes = tt })
            lead 1 rank (index + 1) after a short (inl (one_more lead))
            (holding (with_operands (standing p b book h g filled_left chain v es ts) (first_word ts ∷ below g d chain (behind (suc (length done)) ts)))
            (making (thrown_in g id) (put offset (kind_size kind) v (puts_with g done (others ts)))))
            (comes_of p b book h g filled_left chain v es ts)
            (ap (λ (z : Puts). holding (with_operands (standing p b book h g filled_left chain v es ts)
            (first_word ts ∷ below g d chain (behind (suc (length done)) ts)))
            (making (thrown_in g id) z)) (sym (put_is v)))
            (ap (λ (z : Puts). given p h.func no_answers (temporaries g d chain (behind (suc (length done)) ts)) (number 0)
            (Fills (thrown_in g id) (first_word ts) (trees_in g ids) z ∷ frames g (numbers_of p h.func g) d chain es (behind (suc (length done)) ts)))
            (sym (put_is v)))

        pub put_fits : Filled p b book h g filled_left chain v es ts known → Ahead p b book h g (fills_left (field ∷ done) ids) chain (index + 1) after
            → lead + 1 ≤ b.longest → Fitting p b book h g filled_left chain v es ts known lead rank index (PutException offset (bytes_number kind))
        put_fits f a short = subst (λ (z : Option IntKind). NextFits (if_found z (λ k. put_on k))) (sym (kind_found (bytes_kind kind)))
            (subst (λ (z : Bool). NextFits (cond z (put_next (size_of (bytes_kind kind))) refused)) (sym (no_bool kind))
            (subst (λ (n : ℕ). NextFits (put_next n)) (sym (bytes_size kind)) (put_lands f a short)))

    -- the address of the object is dropped, and the exception is thrown
    module _ (done : List TNodeId) (v : Term) (ts : List Term) where
      abbrev thrown_place : Place
      thrown_place = with_operands (standing p b book h g (fills_left done []) chain v es ts) (below g d chain (behind (suc (length done)) ts))

      abbrev thrown_exception : Exception
      thrown_exception = made (thrown_in g id) (puts_with g done (others ts))

      pub throw_fits : (l : Flies p h.func b h.notes book.thrown book.numbers h.rows known index (holding thrown_place nothing) thrown_exception
          (comes_of p b book h g (fills_left done []) chain v es ts))
          → book.thrown (thrown_in g id) ≡ true → ((1 ≤ lead) ⊎ (l.rank + 1 ≤ rank))
          → StepFits p b book h known lead rank index Throw thrown_place (comes_of p b book h g (fills_left done []) chain v es ts)
      throw_fits l is on = (l, is, on)

  -- ---- scalars

  module _ (scalar : is_object_typ (thrown_in g id) ≡ false) where
    abbrev scalar_left : Left g gone (Thrown id ∷ items)
    scalar_left = before (throwing (fills_scalar id scalar)) d

    pub new_scalar_fits : (v : Term) (ts : List Term) (ty : ℕ) → h.table.type_of ty ≡ Some (thrown_in g id)
        → Filled p b book h g throws_left chain v es ts known
        → Ahead p b book h g scalar_left chain (index + 1) after → lead + 1 ≤ b.longest
        → Fitting p b book h g throws_left chain v es ts known lead rank index (NewException ty)
    new_scalar_fits v ts ty named f a short = subst (λ (z : Option Typ). NextFits (new_next v ts z)) (sym named)
        (quiet_landing p b book h g scalar_left chain (number 0) es (v ∷ ts) known
        (record { all = f.all; so = f.so; types = f.types; knows = f.knows; comes = tt }) lead 1 rank (index + 1) after a short (inl (one_more lead))
        (holding (standing p b book h g throws_left chain v es ts) (making (thrown_in g id) untouched)) (comes_of p b book h g throws_left chain v es ts) refl
        refl)

    module _ (field : TNodeId) (ids : List TNodeId) (offset : ℕ) (kind : IntKind) (is : (node_in g field).kind ≡ Field offset kind) (v : Term)
        (ts : List Term) where
      abbrev scalar_put : Left g gone (Thrown id ∷ items)
      scalar_put = before (throwing (scalar_filled id field ids scalar)) d

      abbrev scalar_next : ℕ → Outcome → Next
      scalar_next size o = quietly (index + 1) (holding (with_operands (standing p b book h g scalar_left chain v es ts) (below g d chain (others ts)))
          (making (thrown_in g id) (put offset size (first_word ts) untouched))) o

      abbrev scalar_filling : Outcome
      scalar_filling = goes silent (temporaries g d chain (others ts)) (Fills (thrown_in g id) (first_word ts) (trees_in g ids)
          (put offset (kind_size kind) (first_word ts) untouched) ∷ frames g (numbers_of p h.func g) d chain es (others ts))

      scalar_comes : kids_from (node_in g id) 1 ≡ field ∷ ids → kind_of (tree_in g field) ≡ Field offset kind
          → comes_of p b book h g scalar_left chain v es ts ≡ scalar_filling
      unfolding tree_in trees_in
      scalar_comes kids shows = ap (λ (z : List TNodeId). given p h.func no_answers (temporaries g d chain (others ts)) v
          (Fills (thrown_in g id) (first_word ts) (trees_in g z) untouched ∷ frames g (numbers_of p h.func g) d chain es (others ts))) kids
          ∙ (ap (λ (k : TKind). fill_field p h.func no_answers (temporaries g d chain (others ts)) (thrown_in g id) (first_word ts) k (trees_in g ids)
          untouched (frames g (numbers_of p h.func g) d chain es (others ts))) shows
          ∙ ap (λ (z : Bool). cond z (goes (reads (plus_number (first_word ts) offset) (kind_size kind) false) (temporaries g d chain (others ts))
          (Loaded kind ∷ FilledFrame (thrown_in g id) (first_word ts) offset kind (trees_in g ids) untouched
          ∷ frames g (numbers_of p h.func g) d chain es (others ts))) scalar_filling) scalar)

      scalar_is : put_as (node_in g field).kind (first_word ts) untouched ≡ put offset (kind_size kind) (first_word ts) untouched
      scalar_is = ap (λ (z : TKind). put_as z (first_word ts) untouched) is

      scalar_lands : Filled p b book h g scalar_left chain v es ts known → Ahead p b book h g scalar_put chain (index + 1) after → lead + 1 ≤ b.longest
          → NextFits (scalar_next (kind_size kind) scalar_filling)
      scalar_lands f a short = quiet_landing p b book h g scalar_put chain (number 0) es ts known
          (record { all = f.all; so = f.so; types = f.types; knows = f.knows; comes = tt }) lead 1 rank (index + 1) after a short (inl (one_more lead))
          (holding (with_operands (standing p b book h g scalar_left chain v es ts) (below g d chain (others ts)))
          (making (thrown_in g id) (put offset (kind_size kind) (first_word ts) untouched))) scalar_filling
          (ap (λ (z : Puts). holding (with_operands (standing p b book h g scalar_left chain v es ts) (below g d chain (others ts)))
          (making (thrown_in g id) z))
          (sym scalar_is))
          (ap (λ (z : Puts). given p h.func no_answers (temporaries g d chain (others ts)) (number 0)
          (Fills (thrown_in g id) (first_word ts) (trees_in g ids) z ∷ frames g (numbers_of p h.func g) d chain es (others ts))) (sym scalar_is))

      pub scalar_put_fits : kids_from (node_in g id) 1 ≡ field ∷ ids → kind_of (tree_in g field) ≡ Field offset kind
          → Filled p b book h g scalar_left chain v es ts known → Ahead p b book h g scalar_put chain (index + 1) after → lead + 1 ≤ b.longest
          → Fitting p b book h g scalar_left chain v es ts known lead rank index (PutException offset (bytes_number kind))
      scalar_put_fits kids shows f a short =
          subst (λ (z : Outcome). StepFits p b book h known lead rank index (PutException offset (bytes_number kind))
          (standing p b book h g scalar_left chain v es ts) z)
          (sym (scalar_comes kids shows))
          (subst (λ (z : Option IntKind). NextFits (if_found z (λ k. puts_in index offset k (standing p b book h g scalar_left chain v es ts) scalar_filling
          (making (thrown_in g id) untouched)))) (sym (kind_found (bytes_kind kind)))
          (subst (λ (z : Bool). NextFits (cond z (scalar_next (size_of (bytes_kind kind)) scalar_filling) refused)) (sym (no_bool kind))
          (subst (λ (n : ℕ). NextFits (scalar_next n scalar_filling)) (sym (bytes_size kind)) (scalar_lands f a short))))

      pub scalar_throw_fits : (l : Flies p h.func b h.notes book.thrown book.numbers h.rows known index
          (holding (standing p b book h g scalar_put chain v es ts) nothing)
          (made (thrown_in g id) (put_as (node_in g field).kind (first_word ts) untouched)) (comes_of p b book h g scalar_put chain v es ts))
          → book.thrown (thrown_in g id) ≡ true → ((1 ≤ lead) ⊎ (l.rank + 1 ≤ rank))
          → Fitting p b book h g scalar_put chain v es ts known lead rank index Throw
      scalar_throw_fits l is on = (l, is, on)
