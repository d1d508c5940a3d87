-- Destructions, row by row, and in a row object by object, the last one first.
use Rattle.std.proofs.Common.{ℕ, zero, suc, ◌≡◌, ◌+◌, ◌-◌, ◌^◌, ◌≤◌, ◌<◌, ◌⊎◌, refl, ap, sym, ◌∙◌, subst, Bool, true, false, cond, List, [], ◌∷◌, ◌++◌, Some, None, ◌==◌, nat_lt, arith}
use Rattle.tx_ints.specs.declared.kinds.BinOp.TheVariants.{Add, Sub, Mul}
use Rattle.tx_ints.specs.declared.kinds.IntKind.TheVariants.{ULong}
use Rattle.cpp_tree.specs.Trees.{Trees, kind_of}
use Rattle.cpp_tree.specs.declared.arena.TNodeId.{TNodeId}
use Rattle.cpp_tree.specs.declared.kinds.TKind.{TKind}
use Rattle.cpp_tree.specs.declared.kinds.TKind.TheVariants.{Destroy as DestroyRow}
use Rattle.tx_code.specs.declared.instr.Instr.TheVariants.{Push, Pop, Dup, Jump, Call, Bin}
use Rattle.low_code.specs.declared.numbers.TheConstants.{ADDRESS}
use Rattle.low_code.specs.Numbers.{address_sum}
use Rattle.low_code.specs.declared.scopes.ScopeKind.{ScopeKind}
use Rattle.src_mean.specs.Linked.{Func, Program}
use Rattle.symbolic_source.specs.Terms.{Term, number, sum, product, plus_number, one_less, Exception, before as TermBefore}
use Rattle.symbolic_source.specs.Frames.{Frame, Waiting, known as known_func, Due, Destroys, Gives, blocks_in, handled}
use Rattle.symbolic_source.specs.Outcomes.{Outcome, goes, calls, silent, stuck}
use Rattle.symbolic_source.specs.Steps.{given, step_of, destroyed, element_at, destroys_next}
use Rattle.symbolic_code.specs.Facts.{Fact}
use Rattle.symbolic_code.specs.Places.{Place, with_operands}
use Rattle.symbolic_code.specs.Following.{addresses, or_less_one, times}
use Rattle.body_check.specs.Notes.{Bounds, no_answers}
use Rattle.body_check.specs.Calls.{Book, StepFits, Behind, BackWith, ThrownWith, AllThrown, first_of}
use Rattle.body_check.specs.Linked.{Held}
use Rattle.unwind_lower.specs.declared.items.Item.{Item}
use Rattle.unwind_lower.specs.declared.items.Item.TheVariants.{Destroy}
use Rattle.unwind_lower.specs.Settings.{Setting, node_in}
use Rattle.unwind_lower.specs.Kids.{kids_from}
use Rattle.lowered_frames.specs.Modes.{top, gone, tree_in, trees_in}
use Rattle.lowered_frames.specs.Objects.{due, destroying, kept_for}
use Rattle.lowered_frames.specs.Left.{Left, before, making, frames, temporaries, below, opened, caught, operands, AreEntered}
use Rattle.lowered_frames.proofs.Opened.{blocks_are, handlers_are}
use Rattle.lowered_notes.specs.Canonical.{numbers_of}
use Rattle.lowered_notes.specs.Straight.{Straight, done, moves, pushed, doubled, dropped, copied, computed, is_operator}
use Rattle.lowered_notes.proofs.Terms.{first_so}
use Rattle.lowered_notes.proofs.Landing.{lands}
use Rattle.lowered_steps.specs.Ahead.{standing, comes_of, Ahead, Filled}
use Rattle.lowered_steps.proofs.Landings.{quiet_landing}
use Rattle.lowered_objects.specs.Passing.{Passes, is_choice, keep_instrs, last_instrs, offset_instrs}
use Rattle.lowered_objects.proofs.Passing.{joined, offset_moves}
use Rattle.lowered_objects.proofs.Lists.{drop_next, one_at_least, trees_more, trees_none, plus_none, word_is, word_is_some, one_or_more}

one_back : (n : ℕ) → suc n - 1 ≡ n
one_back n = omega arith

is_not_none : (n : ℕ) → (suc n == 0) ≡ false
is_not_none n = grind arith

-- the address stays, or it is not wanted any more
keep_moves : (known : List Fact) (ids : List TNodeId) (w : Term) (ws : List Term) → Straight known (keep_instrs ids) (w ∷ ws) (w ∷ kept_for ids w ++ ws)
keep_moves known [] w ws = done
keep_moves known (id ∷ ids) w ws = moves (doubled w) done

-- the address of an element, from its number
element_moves : (known : List Fact) (l : ℕ) (a : Term) (stride : ℕ) (ws : List Term)
    → Straight known (Bin 2 ADDRESS ∷ address_sum ∷ []) (number stride ∷ number l ∷ a ∷ ws) (element_at a (number l) stride ∷ ws)
element_moves known zero a stride ws = moves (computed Mul (number 0) (number stride) (number 0) refl)
    (subst (λ (z : Term). Straight known (address_sum ∷ []) (number 0 ∷ a ∷ ws) (z ∷ ws)) (plus_none a) (moves (computed Add a (number 0) (plus_number a 0) refl) done))
element_moves known (suc k) a stride ws = moves (computed Mul (number (suc k)) (number stride) (product (number (suc k)) (number stride)) product_is)
    (moves (computed Add a (product (number (suc k)) (number stride)) (sum a (product (number (suc k)) (number stride))) refl) done)
  where
    product_is : addresses known Mul ULong (number (suc k)) (number stride) ≡ Some (product (number (suc k)) (number stride))
    product_is = ap (λ (z : Bool). Some (times z (suc k) (number stride))) (is_not_none k)

-- one less is left, and the address of that object comes on top
last_moves : (known : List Fact) (l : ℕ) (a : Term) (stride : ℕ) (ws : List Term) → nat_lt stride (2 ^ 64) ≡ true
    → Straight known (last_instrs stride) (number (suc l) ∷ a ∷ ws) (element_at a (number l) stride ∷ number l ∷ a ∷ ws)
last_moves known l a stride ws small = moves (pushed 1 refl) (moves (computed Sub (number (suc l)) (number 1) (number l) less_is)
    (moves (copied a (number l)) (moves (copied (number l) a) (moves (pushed stride small) (element_moves known l a stride (number l ∷ a ∷ ws))))))
  where
    less_is : addresses known Sub ULong (number (suc l)) (number 1) ≡ Some (number l)
    less_is = ap (λ (z : Bool). or_less_one known (number (suc l)) 1 (cond z (Some (number (suc l - 1))) None)) (one_or_more (suc l) (one_at_least l))
        ∙ ap (λ (z : ℕ). Some (number z)) (one_back l)

-- so many are left: the last of them is destroyed
round_calls : (p : Program) (f : Func) (ws : List Waiting) (v : Term) (n : ℕ) (a : Term) (stride l : ℕ) (k : List Frame) → suc l < 2 ^ 64
    → given p f no_answers ws v (Destroys n a stride (number (suc l)) ∷ k) ≡ calls (known_func n) (element_at a (number l) stride ∷ []) ws (Destroys n a stride (number l) ∷ k)
round_calls p f ws v n a stride l k small = ap (λ (z : Bool). cond z (given p f no_answers ws v k) (destroys_next ws n a stride (one_less (number (suc l))) k))
    (word_is_some (suc l) (one_at_least l) small)
    ∙ ap (λ (z : Term). destroys_next ws n a stride z k) less_is
  where
    less_is : one_less (number (suc l)) ≡ number l
    less_is = ap (λ (z : Bool). cond z (number (suc l - 1)) (TermBefore (number (suc l)))) (word_is (suc l) small) ∙ ap number (one_back l)

module _ (p : Program) (b : Bounds) (book : Book) (h : Held) (g : Setting) {items : List Item} (d : Left g gone items) (chain : List ScopeKind) (id : TNodeId) (first : ℕ)
    (row : TNodeId) (func offset size stride : ℕ) (ids : List TNodeId) (rows : kids_from (node_in g id) first ≡ row ∷ ids)
    (kind : (node_in g row).kind ≡ DestroyRow func offset size stride) (shown : kind_of (tree_in g row) ≡ DestroyRow func offset size stride)
    (es : List Exception) (known : List Fact) where
  abbrev stepped : Outcome → Outcome
  stepped = step_of p h.func no_answers

  abbrev callee : ℕ
  callee = p.number h.func.unit func

  abbrev here : Left g top (Destroy id first ∷ items)
  here = before (making (due id first)) d

  -- so many are left
  abbrev loop : ℕ → Left g gone (Destroy id first ∷ items)
  loop left = before (making (destroying id first row func offset size stride left ids rows kind)) d

  -- the rows behind
  abbrev next : Left g top (Destroy id (suc first) ∷ items)
  next = before (making (due id (suc first))) d

  next_rows : trees_in g (kids_from (node_in g id) (suc first)) ≡ trees_in g ids
  next_rows = ap (λ (z : List TNodeId). trees_in g z) (drop_next first (node_in g id).kids row ids rows)

  module _ (w : Term) (ts : List Term) where
    abbrev first_address : Term
    first_address = plus_number w offset

    abbrev rest_of_rows : List Frame
    rest_of_rows = Gives w ∷ Due (trees_in g ids) ∷ frames g (numbers_of p h.func g) d chain es ts

    -- the source takes one step to the first row
    row_comes : nat_lt size (2 ^ 64) ≡ true → stepped (comes_of p b book h g here chain w es ts)
        ≡ given p h.func no_answers (temporaries g d chain ts) (number 0) (Destroys callee first_address stride (number size) ∷ rest_of_rows)
    row_comes small = ap (λ (z : Trees). stepped (given p h.func no_answers (temporaries g d chain ts) w (Due z ∷ frames g (numbers_of p h.func g) d chain es ts)))
        (trees_more g (kids_from (node_in g id) first) row ids rows)
        ∙ ap (λ (z : TKind). stepped (destroyed p h.func no_answers (temporaries g d chain ts) w z (trees_in g ids) (frames g (numbers_of p h.func g) d chain es ts))) shown
        ∙ ap (λ (z : Bool). stepped (cond z (goes silent (temporaries g d chain ts) (Destroys callee first_address stride (number size) ∷ rest_of_rows)) stuck)) small

    -- ---- many objects: the loop begins

    pub row_begins : nat_lt size (2 ^ 64) ≡ true → nat_lt offset (2 ^ 64) ≡ true → Filled p b book h g here chain w es ts known
        → Passes p b book h g (standing p b book h g here chain w es ts) (comes_of p b book h g here chain w es ts) (loop size) chain 1 known
        (keep_instrs ids ++ (offset_instrs offset ++ Push size ∷ []))
    row_begins small narrow f = record {
      value = number 0;
      exceptions = es;
      terms = w ∷ ts;
      filled = record { all = f.all; so = f.so; types = f.types; knows = f.knows; comes = tt };
      moved = joined (keep_moves known ids w (below g d chain ts)) (joined (offset_moves known offset narrow w (kept_for ids w ++ below g d chain ts)) (moves (pushed size small) done));
      place_is = refl;
      outcome_is = row_comes small;
    }

    -- what can come of the caller
    module _ (entered : AreEntered g d) (types : AllThrown book.thrown (caught g d es)) where
      leaves_behind : (gives stops : Bool) (index : ℕ) (q : Place) (under : List Term) (k : List Frame) → q.opens ≡ opened g d → q.caught ≡ caught g d es
          → BackWith p b book gives h known index q under (temporaries g d chain ts) (k ++ frames g (numbers_of p h.func g) d chain es ts)
          → (stops ≡ false → ThrownWith p b book h known index q under (temporaries g d chain ts) (k ++ frames g (numbers_of p h.func g) d chain es ts))
          → blocks_in (k ++ frames g (numbers_of p h.func g) d chain es ts) ≡ blocks_in (frames g (numbers_of p h.func g) d chain es ts)
          → handled (k ++ frames g (numbers_of p h.func g) d chain es ts) ≡ handled (frames g (numbers_of p h.func g) d chain es ts)
          → Behind p b book gives stops h known index q under (temporaries g d chain ts) (k ++ frames g (numbers_of p h.func g) d chain es ts)
      leaves_behind gives stops index q under k opens catches back out blocks handlers = record {
        back = back;
        thrown = out;
        opens = opens ∙ sym (blocks ∙ blocks_are g (numbers_of p h.func g) d chain es ts entered);
        caught = ap (λ (z : List Exception). first_of z) catches ∙ (first_so (caught g d es) ∙ sym (handlers ∙ handlers_are g (numbers_of p h.func g) d chain es ts));
        type = subst (λ (z : List Exception). AllThrown book.thrown z) (sym catches) types;
      }

      -- the destructor is called for the last object that is left
      module _ (l : ℕ) (small : suc l < 2 ^ 64) (v : Term) (name index : ℕ) where
        abbrev call_words : List Term
        call_words = number l ∷ first_address ∷ kept_for ids w ++ below g d chain ts

        abbrev call_place : Place
        call_place = with_operands (standing p b book h g (loop (suc l)) chain v es (w ∷ ts)) (element_at first_address (number l) stride ∷ call_words)

        abbrev behind_call : List Frame
        behind_call = Destroys callee first_address stride (number l) ∷ Gives w ∷ Due (trees_in g ids) ∷ []

        loop_back : Filled p b book h g (loop (suc l)) chain v es (w ∷ ts) known → (after : ℕ) → Ahead p b book h g (loop l) chain (index + 1) after → 1 ≤ b.half
            → BackWith p b book false h known index call_place call_words (temporaries g d chain ts) (behind_call ++ frames g (numbers_of p h.func g) d chain es ts)
        loop_back f after a half = record {
          lands = lands p h.func g (loop l) chain (number 0) es (w ∷ ts) f.all f.so b h.notes book.thrown known no_answers 1 (index + 1) after f.types f.knows tt a.there
              (with_operands call_place call_words) (goes silent (temporaries g d chain ts) (Gives (number 0) ∷ behind_call ++ frames g (numbers_of p h.func g) d chain es ts))
              refl refl (a.going no_answers (number 0) es (w ∷ ts) tt);
          some = one_at_least 0;
          short = half;
        }

        pub destructor_fits : Filled p b book h g (loop (suc l)) chain v es (w ∷ ts) known → (after : ℕ) → Ahead p b book h g (loop l) chain (index + 1) after → 1 ≤ b.half
            → h.table.function_of name ≡ Some func → book.takes callee ≡ 1 → book.gives callee ≡ false
            → (book.stops callee ≡ false → ThrownWith p b book h known index call_place call_words (temporaries g d chain ts)
            (behind_call ++ frames g (numbers_of p h.func g) d chain es ts)) → (lead rank : ℕ)
            → StepFits p b book h known lead rank index (Call name 1) call_place (comes_of p b book h g (loop (suc l)) chain v es (w ∷ ts))
        destructor_fits f after a half named takes void out lead rank = record {
          callee = func;
          named = named;
          words = element_at first_address (number l) stride ∷ [];
          under = call_words;
          temporaries = temporaries g d chain ts;
          others = behind_call ++ frames g (numbers_of p h.func g) d chain es ts;
          outcome_is = round_calls p h.func (temporaries g d chain ts) v callee first_address stride l rest_of_rows small;
          operands_are = refl;
          taken = takes;
          behind = leaves_behind (book.gives callee) (book.stops callee) index call_place call_words behind_call refl refl
              (subst (λ (z : Bool). BackWith p b book z h known index call_place call_words (temporaries g d chain ts) (behind_call ++ frames g (numbers_of p h.func g) d chain es ts))
              (sym void) (loop_back f after a half)) out refl refl;
        }

    -- its address comes on top
    pub last_comes_on_top : (l : ℕ) (v : Term) → nat_lt stride (2 ^ 64) ≡ true
        → Straight known (last_instrs stride) (operands g (loop (suc l)) chain v (w ∷ ts))
        (element_at first_address (number l) stride ∷ number l ∷ first_address ∷ kept_for ids w ++ below g d chain ts)
    last_comes_on_top l v small = last_moves known l first_address stride (kept_for ids w ++ below g d chain ts) small

    -- ---- the loop goes on or ends

    pub left_doubled : (l : ℕ) (v : Term) → Straight known (Dup ∷ []) (operands g (loop l) chain v (w ∷ ts)) (number l ∷ operands g (loop l) chain v (w ∷ ts))
    left_doubled l v = moves (doubled (number l)) done

    pub loop_no_choice : (l : ℕ) (v : Term) → suc l < 2 ^ 64 → is_choice (comes_of p b book h g (loop (suc l)) chain v es (w ∷ ts)) ≡ false
    loop_no_choice l v small = ap (λ (z : Outcome). is_choice z) (round_calls p h.func (temporaries g d chain ts) v callee first_address stride l rest_of_rows small)

    pub loop_no_operator : (l : ℕ) (v : Term) → suc l < 2 ^ 64 → is_operator (comes_of p b book h g (loop (suc l)) chain v es (w ∷ ts)) ≡ false
    loop_no_operator l v small = ap (λ (z : Outcome). is_operator z) (round_calls p h.func (temporaries g d chain ts) v callee first_address stride l rest_of_rows small)

    -- back to its top: the source does nothing, and the rank falls
    pub loop_again_fits : (l : ℕ) (v : Term) (lead rank index start after : ℕ) → Filled p b book h g (loop l) chain v es (w ∷ ts) known
        → Ahead p b book h g (loop l) chain start after → lead + 0 ≤ b.longest → ((1 ≤ lead + 0) ⊎ (after + 1 ≤ rank))
        → StepFits p b book h known lead rank index (Jump start) (with_operands (standing p b book h g (loop l) chain v es (w ∷ ts)) (operands g (loop l) chain v (w ∷ ts)))
        (comes_of p b book h g (loop l) chain v es (w ∷ ts))
    loop_again_fits l v lead rank index start after f a short on = quiet_landing p b book h g (loop l) chain v es (w ∷ ts) known f lead 0 rank start after a short on _ _ refl refl

    -- no object is left: the next row, or what is behind the rows
    none_left_comes : (v : Term) → comes_of p b book h g (loop 0) chain v es (w ∷ ts) ≡ given p h.func no_answers (temporaries g d chain ts) w
        (Due (trees_in g ids) ∷ frames g (numbers_of p h.func g) d chain es ts)
    none_left_comes v = refl

    pub row_done : (c : TNodeId) (cs : List TNodeId) (some : ids ≡ c ∷ cs) (v : Term) → Filled p b book h g (loop 0) chain v es (w ∷ ts) known
        → Passes p b book h g (standing p b book h g (loop 0) chain v es (w ∷ ts)) (comes_of p b book h g (loop 0) chain v es (w ∷ ts)) next chain 0 known (Pop ∷ Pop ∷ [])
    row_done c cs some v f = record {
      value = w;
      exceptions = es;
      terms = ts;
      filled = record { all = f.all; so = f.so; types = f.types; knows = f.knows; comes = tt };
      moved = moves (dropped (number 0)) (moves (dropped first_address) (subst (λ (z : List TNodeId). Straight known [] (kept_for z w ++ below g d chain ts) (w ∷ below g d chain ts))
          (sym some) done));
      place_is = refl;
      outcome_is = ap (λ (z : Trees). given p h.func no_answers (temporaries g d chain ts) w (Due z ∷ frames g (numbers_of p h.func g) d chain es ts)) (sym next_rows);
    }

    pub rows_done : ids ≡ [] → (v : Term) → Filled p b book h g (loop 0) chain v es (w ∷ ts) known
        → Passes p b book h g (standing p b book h g (loop 0) chain v es (w ∷ ts)) (comes_of p b book h g (loop 0) chain v es (w ∷ ts)) d chain 0 known (Pop ∷ Pop ∷ [])
    rows_done none_is v f = record {
      value = w;
      exceptions = es;
      terms = ts;
      filled = record { all = f.all; so = f.so; types = f.types; knows = f.knows; comes = tt };
      moved = moves (dropped (number 0)) (moves (dropped first_address) (subst (λ (z : List TNodeId). Straight known [] (kept_for z w ++ below g d chain ts) (below g d chain ts))
          (sym none_is) done));
      place_is = refl;
      outcome_is = ap (λ (z : Trees). given p h.func no_answers (temporaries g d chain ts) w (Due z ∷ frames g (numbers_of p h.func g) d chain es ts)) (trees_none g ids none_is);
    }

    -- ---- one object

    module _ (one : size ≡ 1) where
      one_is_small : 1 < 2 ^ 64
      one_is_small = omega arith

      single_calls : stepped (comes_of p b book h g here chain w es ts)
          ≡ calls (known_func callee) (first_address ∷ []) (temporaries g d chain ts) (Destroys callee first_address stride (number 0) ∷ rest_of_rows)
      single_calls = row_comes (word_is size (subst (λ (z : ℕ). z < 2 ^ 64) (sym one) one_is_small))
          ∙ ap (λ (z : ℕ). given p h.func no_answers (temporaries g d chain ts) (number 0) (Destroys callee first_address stride (number z) ∷ rest_of_rows)) one
          ∙ round_calls p h.func (temporaries g d chain ts) (number 0) callee first_address stride 0 rest_of_rows one_is_small

      -- its address comes on top
      pub single_moves : nat_lt offset (2 ^ 64) ≡ true
          → Straight known (keep_instrs ids ++ offset_instrs offset) (operands g here chain w ts) (first_address ∷ kept_for ids w ++ below g d chain ts)
      single_moves narrow = joined (keep_moves known ids w (below g d chain ts)) (offset_moves known offset narrow w (kept_for ids w ++ below g d chain ts))

      module _ (f : Filled p b book h g here chain w es ts known) (entered : AreEntered g d) (types : AllThrown book.thrown (caught g d es)) (half : 1 ≤ b.half) (name index after : ℕ)
          (named : h.table.function_of name ≡ Some func) (takes : book.takes callee ≡ 1) (void : book.gives callee ≡ false) where
        abbrev single_place : Place
        single_place = with_operands (standing p b book h g here chain w es ts) (first_address ∷ kept_for ids w ++ below g d chain ts)

        abbrev behind_single : List Frame
        behind_single = Destroys callee first_address stride (number 0) ∷ Gives w ∷ Due (trees_in g ids) ∷ []

        abbrev Leaving : Type 0
        Leaving = BackWith p b book false h known index single_place (kept_for ids w ++ below g d chain ts) (temporaries g d chain ts)
            (behind_single ++ frames g (numbers_of p h.func g) d chain es ts)

        abbrev Throwing : Type 0
        Throwing = ThrownWith p b book h known index single_place (kept_for ids w ++ below g d chain ts) (temporaries g d chain ts)
            (behind_single ++ frames g (numbers_of p h.func g) d chain es ts)

        stands : {us : List Term} → kept_for ids w ++ below g d chain ts ≡ us → with_operands single_place (kept_for ids w ++ below g d chain ts) ≡ with_operands single_place us
        stands e = ap (λ (z : List Term). with_operands single_place z) e

        kept_all : (js : List TNodeId) → ids ≡ js → kept_for ids w ++ below g d chain ts ≡ kept_for js w ++ below g d chain ts
        kept_all js e = ap (λ (z : List TNodeId). kept_for z w ++ below g d chain ts) e

        back_to_next : (c : TNodeId) (cs : List TNodeId) → ids ≡ c ∷ cs → Ahead p b book h g next chain (index + 1) after → Leaving
        back_to_next c cs some a = record {
          lands = lands p h.func g next chain w es ts f.all f.so b h.notes book.thrown known no_answers 1 (index + 1) after f.types f.knows tt a.there
              (with_operands single_place (kept_for ids w ++ below g d chain ts))
              (goes silent (temporaries g d chain ts) (Gives (number 0) ∷ behind_single ++ frames g (numbers_of p h.func g) d chain es ts))
              (stands (kept_all (c ∷ cs) some))
              (ap (λ (z : Trees). given p h.func no_answers (temporaries g d chain ts) w (Due z ∷ frames g (numbers_of p h.func g) d chain es ts)) (sym next_rows))
              (a.going no_answers w es ts tt);
          some = one_at_least 0;
          short = half;
        }

        back_to_rest : ids ≡ [] → Ahead p b book h g d chain (index + 1) after → Leaving
        back_to_rest none_is a = record {
          lands = lands p h.func g d chain w es ts f.all f.so b h.notes book.thrown known no_answers 1 (index + 1) after f.types f.knows tt a.there
              (with_operands single_place (kept_for ids w ++ below g d chain ts))
              (goes silent (temporaries g d chain ts) (Gives (number 0) ∷ behind_single ++ frames g (numbers_of p h.func g) d chain es ts))
              (stands (kept_all [] none_is))
              (ap (λ (z : Trees). given p h.func no_answers (temporaries g d chain ts) w (Due z ∷ frames g (numbers_of p h.func g) d chain es ts)) (trees_none g ids none_is))
              (a.going no_answers w es ts tt);
          some = one_at_least 0;
          short = half;
        }

        single_fits : Leaving → (book.stops callee ≡ false → Throwing) → (lead rank : ℕ)
            → StepFits p b book h known lead rank index (Call name 1) single_place (stepped (comes_of p b book h g here chain w es ts))
        single_fits back out lead rank = record {
          callee = func;
          named = named;
          words = first_address ∷ [];
          under = kept_for ids w ++ below g d chain ts;
          temporaries = temporaries g d chain ts;
          others = behind_single ++ frames g (numbers_of p h.func g) d chain es ts;
          outcome_is = single_calls;
          operands_are = refl;
          taken = takes;
          behind = leaves_behind entered types (book.gives callee) (book.stops callee) index single_place (kept_for ids w ++ below g d chain ts) behind_single refl refl
              (subst (λ (z : Bool). BackWith p b book z h known index single_place (kept_for ids w ++ below g d chain ts) (temporaries g d chain ts)
              (behind_single ++ frames g (numbers_of p h.func g) d chain es ts)) (sym void) back) out refl refl;
        }

        -- more rows come behind
        pub single_then_next_fits : (c : TNodeId) (cs : List TNodeId) → ids ≡ c ∷ cs → Ahead p b book h g next chain (index + 1) after → (book.stops callee ≡ false → Throwing)
            → (lead rank : ℕ) → StepFits p b book h known lead rank index (Call name 1) single_place (stepped (comes_of p b book h g here chain w es ts))
        single_then_next_fits c cs some a out lead rank = single_fits (back_to_next c cs some a) out lead rank

        -- it is the last row
        pub single_then_rest_fits : ids ≡ [] → Ahead p b book h g d chain (index + 1) after → (book.stops callee ≡ false → Throwing)
            → (lead rank : ℕ) → StepFits p b book h known lead rank index (Call name 1) single_place (stepped (comes_of p b book h g here chain w es ts))
        single_then_rest_fits none_is a out lead rank = single_fits (back_to_rest none_is a) out lead rank
