-- Arrays that are made element by element.
use Rattle.std.proofs.Common.{ℕ, suc, ◌≡◌, ◌+◌, ◌-◌, ◌*◌, ◌^◌, ◌≤◌, ◌<◌, inl, refl, ap, ap₂, sym, ◌∙◌, subst, Bool, true, false, cond, List, [], ◌∷◌, ◌++◌, Some, None, nat_lt, arith}
use Rattle.std.specs.Prelude.{length}
use Rattle.tx_ints.specs.declared.kinds.BinOp.TheVariants.{Sub}
use Rattle.tx_ints.specs.declared.kinds.IntKind.TheVariants.{ULong}
use Rattle.cpp_tree.specs.Trees.{Tree, Trees, node, none, more, first, rest}
use Rattle.cpp_tree.specs.cpp_types.Typ.{Typ}
use Rattle.cpp_tree.specs.cpp_types.declared.classes.At.{At}
use Rattle.cpp_tree.specs.cpp_types.declared.ranks.Cat.{Cat}
use Rattle.cpp_tree.specs.declared.arena.TNodeId.{TNodeId}
use Rattle.cpp_tree.specs.declared.kinds.TKind.TheVariants.{Elements}
use Rattle.tx_code.specs.declared.instr.Instr.TheVariants.{Push, Over, Pop, Dup, Jump}
use Rattle.low_code.specs.declared.scopes.ScopeKind.{ScopeKind}
use Rattle.low_code.specs.Nodes.{kid_in}
use Rattle.src_mean.specs.Linked.{Func, Program}
use Rattle.src_mean.specs.Frames.{of_pieces}
use Rattle.symbolic_source.specs.Terms.{Term, number, plus_number, one_less, Exception}
use Rattle.symbolic_source.specs.Frames.{Frame, Waiting, at_word, into, waiting, Scope, Each, Run as RunNode, Waits as WaitsFor}
use Rattle.symbolic_source.specs.Outcomes.{Outcome, goes, silent, stuck}
use Rattle.symbolic_source.specs.Steps.{given, step_of, first_word, second_word, each_next}
use Rattle.symbolic_code.specs.Facts.{Fact}
use Rattle.symbolic_code.specs.Places.{Place, with_operands}
use Rattle.symbolic_code.specs.Following.{refused, pushes, addresses, or_less_one}
use Rattle.body_check.specs.Notes.{Bounds, Fits, no_answers}
use Rattle.body_check.specs.Calls.{Book, StepFits}
use Rattle.body_check.specs.Linked.{Held}
use Rattle.unwind_lower.specs.declared.items.Way.{Way}
use Rattle.unwind_lower.specs.declared.items.Way.TheVariants.{Into, Copying}
use Rattle.unwind_lower.specs.declared.items.Item.{Item}
use Rattle.unwind_lower.specs.declared.items.Item.TheVariants.{ElementMade}
use Rattle.unwind_lower.specs.Settings.{Setting, node_in}
use Rattle.unwind_lower.specs.Kids.{kids_from}
use Rattle.lowered_frames.specs.Lists.{behind}
use Rattle.lowered_frames.specs.Modes.{gone, built, copied, tree_in, trees_in}
use Rattle.lowered_frames.specs.Chains.{behind_each, element_waitings}
use Rattle.lowered_frames.specs.Expressions.{run}
use Rattle.lowered_frames.specs.Objects.{Builds, each, element, round_words}
use Rattle.lowered_frames.specs.Left.{Left, before, expression, making, frames, temporaries, count, below, opened, caught, operands}
use Rattle.lowered_frames.proofs.Trees.{first_is, rest_is}
use Rattle.lowered_notes.specs.Canonical.{numbers_of, hold}
use Rattle.lowered_notes.specs.Straight.{Straight, done, moves, pushed, doubled, dropped, swapped, computed, is_operator}
use Rattle.lowered_steps.specs.Ahead.{standing, comes_of, Fitting, Ahead, Filled}
use Rattle.lowered_steps.proofs.Landings.{quiet_landing}
use Rattle.lowered_objects.specs.Passing.{Passes, is_choice, next_instrs}
use Rattle.lowered_objects.proofs.Passing.{joined, offset_moves}
use Rattle.lowered_objects.proofs.Lists.{above, behind_two, plus_first, plus_next, one_less_left, some_left, left_is_some, word_is, one_less_is, one_or_more}

all_left : (n : ℕ) → n - 0 ≡ n
all_left n = omega arith

-- an element waits in the scope of its array, or needs no destruction
element_put : (p : Program) (f : Func) (ws : List Waiting) (v : Term) (address : Term) (destroys : Trees) (init : Tree) (stride : ℕ) (left target source : Term) (us : List Waiting) (k : List Frame)
    → step_of p f no_answers (given p f no_answers ws v (WaitsFor of_pieces (at_word address) destroys ∷ Each init destroys stride left target source ∷ Scope of_pieces false us ∷ k))
    ≡ given p f no_answers ws v (Each init destroys stride left target source ∷ Scope of_pieces false (waiting (at_word address) destroys us) ∷ k)
element_put p f ws v address none init stride left target source us k = refl
element_put p f ws v address (more t ts) init stride left target source us k = refl

element_chooses : (p : Program) (f : Func) (ws : List Waiting) (v : Term) (address : Term) (destroys : Trees) (init : Tree) (stride : ℕ) (left target source : Term) (us : List Waiting) (k : List Frame)
    → is_choice (given p f no_answers ws v (WaitsFor of_pieces (at_word address) destroys ∷ Each init destroys stride left target source ∷ Scope of_pieces false us ∷ k)) ≡ false
element_chooses p f ws v address none init stride left target source us k = refl
element_chooses p f ws v address (more t ts) init stride left target source us k = refl

element_operates : (p : Program) (f : Func) (ws : List Waiting) (v : Term) (address : Term) (destroys : Trees) (init : Tree) (stride : ℕ) (left target source : Term) (us : List Waiting) (k : List Frame)
    → is_operator (given p f no_answers ws v (WaitsFor of_pieces (at_word address) destroys ∷ Each init destroys stride left target source ∷ Scope of_pieces false us ∷ k)) ≡ false
element_operates p f ws v address none init stride left target source us k = refl
element_operates p f ws v address (more t ts) init stride left target source us k = refl

module _ (p : Program) (b : Bounds) (book : Book) (h : Held) (g : Setting) {items : List Item} (d : Left g gone items) (chain : List ScopeKind) (id : TNodeId) (size stride : ℕ)
    (top scope : ℕ) (kind : (node_in g id).kind ≡ Elements size stride) (small : size < 2 ^ 64) where
  abbrev stepped : Outcome → Outcome
  stepped = step_of p h.func no_answers

  abbrev from_each : (way : Way) → Builds way → (n : ℕ) → n ≤ size → Left g gone (ElementMade id way top scope ∷ items)
  from_each way bs n e = before (making (each id size stride n way top scope bs kind e)) d

  abbrev from_element : (way : Way) → Builds way → (n : ℕ) → n + 1 ≤ size → Left g gone (ElementMade id way top scope ∷ items)
  from_element way bs n e = before (making (element id size stride n way top scope bs kind e)) d

  abbrev temps : List Term → List Waiting
  temps ts = temporaries g d (behind_each chain) (behind 2 ts)

  abbrev rest_frames : List Exception → List Term → List Frame
  rest_frames es ts = frames g (numbers_of p h.func g) d (behind_each chain) es (behind 2 ts)

  abbrev rows : Trees
  rows = trees_in g (kids_from (node_in g id) 1)

  abbrev init_tree : Tree
  init_tree = tree_in g (kid_in (node_in g id).kids 0)

  abbrev place_of_words : List Exception → List Term → List Term → Place
  place_of_words es ts us = record {
    operands = us ++ below g d (behind_each chain) (behind 2 ts);
    opens = opened g d;
    caught = caught g d es;
    hold = hold g d (behind_each chain) es (behind 2 ts);
  }

  -- ---- the array begins: so many are left

  module _ (t : Typ) (cat : Cat) (place : At) (is : tree_in g id ≡ node (Elements size stride) t cat place (trees_in g (node_in g id).kids))
      (some : 1 ≤ length (node_in g id).kids) (v : Term) (es : List Exception) (ts : List Term) (known : List Fact) (lead rank index after : ℕ) where
    array_comes : (target source : Term) (k : List Frame) (ws : List Waiting)
        → stepped (given p h.func no_answers ws v (RunNode (into target source) (tree_in g id) ∷ k))
        ≡ given p h.func no_answers ws (number 0) (Each init_tree rows stride (number (size - 0)) (plus_number target (0 * stride)) (plus_number source (0 * stride))
        ∷ Scope of_pieces false [] ∷ k)
    array_comes target source k ws = ap (λ (z : Tree). stepped (given p h.func no_answers ws v (RunNode (into target source) z ∷ k))) is
        ∙ ap (λ (z : Bool). stepped (cond z (goes silent ws (Each (first (trees_in g (node_in g id).kids)) (rest (trees_in g (node_in g id).kids)) stride (number size) target source ∷ Scope of_pieces false [] ∷ k)) stuck)) (word_is size small)
        ∙ ap₂ (λ (y : Tree) (z : Trees). given p h.func no_answers ws (number 0) (Each y z stride (number size) target source ∷ Scope of_pieces false [] ∷ k))
        (first_is g (node_in g id).kids some) (rest_is g (node_in g id).kids)
        ∙ ap (λ (z : ℕ). given p h.func no_answers ws (number 0) (Each init_tree rows stride (number z) target source ∷ Scope of_pieces false [] ∷ k)) (sym (all_left size))
        ∙ ap₂ (λ (y z : Term). given p h.func no_answers ws (number 0) (Each init_tree rows stride (number (size - 0)) y z ∷ Scope of_pieces false [] ∷ k))
        (sym (plus_first target stride)) (sym (plus_first source stride))

    pub array_begins : Filled p b book h g (before (expression (run id Into built)) d) (behind_each chain) v es ts known
        → (e : 0 ≤ size) → Ahead p b book h g (from_each Into tt 0 e) chain (index + 1) after → lead + 1 ≤ b.longest
        → Fitting p b book h g (before (expression (run id Into built)) d) (behind_each chain) v es ts known lead rank index (Push size)
    array_begins f e a short = subst (λ (z : Bool). Fits p h.func b h.notes book.thrown book.numbers h.rows known lead rank
        (cond z (pushes index (standing p b book h g (before (expression (run id Into built)) d) (behind_each chain) v es ts)
        (comes_of p b book h g (before (expression (run id Into built)) d) (behind_each chain) v es ts) (number size)
        (first_word ts ∷ below g d (behind_each chain) (behind 2 ts))) refused)) (sym (word_is size small))
        (quiet_landing p b book h g (from_each Into tt 0 e) chain (number 0) es ts known
        (record { all = f.all; so = f.so; types = f.types; knows = f.knows; comes = tt }) lead 1 rank (index + 1) after a short (inl (above lead)) _ _
        (ap₂ (λ (y : ℕ) (z : Term). place_of_words es ts (number y ∷ z ∷ [])) (sym (all_left size)) (sym (plus_first (first_word ts) stride)))
        (array_comes (first_word ts) (second_word ts) (rest_frames es ts) (temps ts)))

    pub copied_array_begins : Filled p b book h g (before (expression (run id Copying copied)) d) (behind_each chain) v es ts known
        → (e : 0 ≤ size) → Ahead p b book h g (from_each Copying tt 0 e) chain (index + 1) after → lead + 1 ≤ b.longest
        → Fitting p b book h g (before (expression (run id Copying copied)) d) (behind_each chain) v es ts known lead rank index (Push size)
    copied_array_begins f e a short = subst (λ (z : Bool). Fits p h.func b h.notes book.thrown book.numbers h.rows known lead rank
        (cond z (pushes index (standing p b book h g (before (expression (run id Copying copied)) d) (behind_each chain) v es ts)
        (comes_of p b book h g (before (expression (run id Copying copied)) d) (behind_each chain) v es ts) (number size)
        (second_word ts ∷ first_word ts ∷ below g d (behind_each chain) (behind 2 ts))) refused)) (sym (word_is size small))
        (quiet_landing p b book h g (from_each Copying tt 0 e) chain (number 0) es ts known
        (record { all = f.all; so = f.so; types = f.types; knows = f.knows; comes = tt }) lead 1 rank (index + 1) after a short (inl (above lead)) _ _
        (ap (λ (y : ℕ). place_of_words es ts (number y ∷ second_word ts ∷ first_word ts ∷ [])) (sym (all_left size))
        ∙ ap₂ (λ (y z : Term). place_of_words es ts (number (size - 0) ∷ y ∷ z ∷ [])) (sym (plus_first (second_word ts) stride)) (sym (plus_first (first_word ts) stride)))
        (array_comes (first_word ts) (second_word ts) (rest_frames es ts) (temps ts)))

  -- ---- a round

  module _ (n : ℕ) (less : suc n ≤ size) (v : Term) (es : List Exception) (ts : List Term) (known : List Fact) where
    abbrev target : Term
    target = plus_number (first_word ts) (n * stride)

    abbrev source : Term
    source = plus_number (second_word ts) (n * stride)

    round_comes : (k : List Frame) (ws : List Waiting)
        → stepped (given p h.func no_answers ws v (Each init_tree rows stride (number (size - n)) target source ∷ k))
        ≡ given p h.func no_answers ws (number 0) (RunNode (into target source) init_tree ∷ WaitsFor of_pieces (at_word target) rows
        ∷ Each init_tree rows stride (number (size - suc n)) (plus_number (first_word ts) (suc n * stride)) (plus_number (second_word ts) (suc n * stride)) ∷ k)
    round_comes k ws = ap (λ (z : Bool). stepped (cond z (given p h.func no_answers ws v k)
        (each_next ws init_tree rows stride (one_less (number (size - n))) target source k))) (left_is_some size n less small)
        ∙ ap (λ (z : Term). given p h.func no_answers ws (number 0) (RunNode (into target source) init_tree ∷ WaitsFor of_pieces (at_word target) rows
        ∷ Each init_tree rows stride z (plus_number target stride) (plus_number source stride) ∷ k)) (one_less_is size n small)
        ∙ ap₂ (λ (y z : Term). given p h.func no_answers ws (number 0) (RunNode (into target source) init_tree ∷ WaitsFor of_pieces (at_word target) rows
        ∷ Each init_tree rows stride (number (size - suc n)) y z ∷ k)) (plus_next (first_word ts) n stride) (plus_next (second_word ts) n stride)

    -- the address of the next element comes on top
    pub next_element_fits : (e : n ≤ size) (i : n + 1 ≤ size) (lead rank index after : ℕ) → Filled p b book h g (from_each Into tt n e) chain v es ts known
        → Ahead p b book h g (before (expression (run (kid_in (node_in g id).kids 0) Into built)) (from_element Into tt n i)) chain (index + 1) after → lead + 1 ≤ b.longest
        → Fitting p b book h g (from_each Into tt n e) chain v es ts known lead rank index Over
    next_element_fits e i lead rank index after f a short = quiet_landing p b book h g
        (before (expression (run (kid_in (node_in g id).kids 0) Into built)) (from_element Into tt n i)) chain (number 0) es (target ∷ source ∷ ts) known
        (record { all = f.all; so = f.so; types = f.types; knows = f.knows; comes = tt }) lead 1 rank (index + 1) after a short (inl (above lead)) _ _ refl
        (round_comes (Scope of_pieces false (element_waitings g id stride (first_word ts) n) ∷ rest_frames es ts) (temps ts))

    -- it is made, and waits
    pub element_comes : (way : Way) (bs : Builds way) (i : n + 1 ≤ size) (e : suc n ≤ size)
        → stepped (comes_of p b book h g (from_element way bs n i) chain v es ts) ≡ comes_of p b book h g (from_each way bs (suc n) e) chain v es ts
    element_comes way bs i e = element_put p h.func (temps ts) v target rows init_tree stride (number (size - suc n))
        (plus_number (first_word ts) (suc n * stride)) (plus_number (second_word ts) (suc n * stride)) (element_waitings g id stride (first_word ts) n) (rest_frames es ts)

    pub element_no_choice : (way : Way) (bs : Builds way) (i : n + 1 ≤ size) → is_choice (comes_of p b book h g (from_element way bs n i) chain v es ts) ≡ false
    element_no_choice way bs i = element_chooses p h.func (temps ts) v target rows init_tree stride (number (size - suc n))
        (plus_number (first_word ts) (suc n * stride)) (plus_number (second_word ts) (suc n * stride)) (element_waitings g id stride (first_word ts) n) (rest_frames es ts)

    pub element_no_operator : (way : Way) (bs : Builds way) (i : n + 1 ≤ size) → is_operator (comes_of p b book h g (from_element way bs n i) chain v es ts) ≡ false
    element_no_operator way bs i = element_operates p h.func (temps ts) v target rows init_tree stride (number (size - suc n))
        (plus_number (first_word ts) (suc n * stride)) (plus_number (second_word ts) (suc n * stride)) (element_waitings g id stride (first_word ts) n) (rest_frames es ts)

    -- the operands where the next round begins
    abbrev next_words : Way → List Term
    next_words way = round_words way (size - suc n) (suc n * stride) ts ++ below g d (behind_each chain) (behind 2 ts)

    -- the address goes on, and one less is left
    pub next_moves : nat_lt stride (2 ^ 64) ≡ true → (i : n + 1 ≤ size)
        → Straight known (next_instrs stride) (operands g (from_element Into tt n i) chain v ts) (number (size - suc n) ∷ next_words Into)
    next_moves short i = moves (swapped target (number (size - n))) (joined (offset_moves known stride short target _)
        (moves (swapped (number (size - n)) (plus_number target stride)) (moves (pushed 1 refl) (moves (computed Sub (number (size - n)) (number 1) (number (size - n - 1)) one_is)
        (subst (λ (z : ℕ). Straight known (Dup ∷ []) (number (size - n - 1) ∷ plus_number target stride ∷ below g d (behind_each chain) (behind 2 ts))
        (number z ∷ number z ∷ plus_number (first_word ts) (suc n * stride) ∷ below g d (behind_each chain) (behind 2 ts))) (one_less_left size n)
        (subst (λ (z : Term). Straight known (Dup ∷ []) (number (size - n - 1) ∷ plus_number target stride ∷ below g d (behind_each chain) (behind 2 ts))
        (number (size - n - 1) ∷ number (size - n - 1) ∷ z ∷ below g d (behind_each chain) (behind 2 ts))) (plus_next (first_word ts) n stride)
        (moves (doubled (number (size - n - 1))) done)))))))
      where
        one_is : addresses known Sub ULong (number (size - n)) (number 1) ≡ Some (number (size - n - 1))
        one_is = ap (λ (z : Bool). or_less_one known (number (size - n)) 1 (cond z (Some (number (size - n - 1))) None)) (one_or_more (size - n) (some_left size n less))

    -- the code goes back to the next round
    pub go_round_fits : (way : Way) (bs : Builds way) (i : n + 1 ≤ size) (e : suc n ≤ size) (lead rank index after : ℕ)
        → Filled p b book h g (from_element way bs n i) chain v es ts known → Ahead p b book h g (from_each way bs (suc n) e) chain top after → lead + 1 ≤ b.longest
        → StepFits p b book h known lead rank index (Jump top) (with_operands (standing p b book h g (from_element way bs n i) chain v es ts) (next_words way))
        (comes_of p b book h g (from_element way bs n i) chain v es ts)
    go_round_fits way bs i e lead rank index after f a short = quiet_landing p b book h g (from_each way bs (suc n) e) chain v es ts known
        (record { all = f.all; so = f.so; types = f.types; knows = f.knows; comes = tt }) lead 1 rank top after a short (inl (above lead)) _ _ refl (element_comes way bs i e)

    -- the last one was made
    module _ (last : size - suc n ≡ 0) where
      last_comes : (way : Way) (bs : Builds way) (i : n + 1 ≤ size) (e : suc n ≤ size)
          → stepped (stepped (comes_of p b book h g (from_element way bs n i) chain v es ts)) ≡ comes_of p b book h g d (behind_each chain) v es (behind 2 ts)
      last_comes way bs i e = ap (λ (z : Outcome). stepped z) (element_comes way bs i e)
          ∙ ap (λ (z : ℕ). stepped (given p h.func no_answers (temps ts) v (Each init_tree rows stride (number z) (plus_number (first_word ts) (suc n * stride))
          (plus_number (second_word ts) (suc n * stride)) ∷ Scope of_pieces false (element_waitings g id stride (first_word ts) (suc n)) ∷ rest_frames es ts))) last

      pub array_done : (i : n + 1 ≤ size) (e : suc n ≤ size) → Filled p b book h g (from_element Into tt n i) chain v es ts known
          → Passes p b book h g (with_operands (standing p b book h g (from_element Into tt n i) chain v es ts) (next_words Into))
          (comes_of p b book h g (from_element Into tt n i) chain v es ts) d (behind_each chain) 2 known (Pop ∷ Pop ∷ [])
      array_done i e f = record {
        value = v;
        exceptions = es;
        terms = behind 2 ts;
        filled = record { all = f.all; so = behind_two (count g d (behind_each chain)) ts f.so; types = f.types; knows = f.knows; comes = tt };
        moved = moves (dropped _) (moves (dropped _) done);
        place_is = refl;
        outcome_is = last_comes Into tt i e;
      }

      pub copied_array_done : (i : n + 1 ≤ size) (e : suc n ≤ size) → Filled p b book h g (from_element Copying tt n i) chain v es ts known
          → Passes p b book h g (with_operands (standing p b book h g (from_element Copying tt n i) chain v es ts) (next_words Copying))
          (comes_of p b book h g (from_element Copying tt n i) chain v es ts) d (behind_each chain) 2 known (Pop ∷ Pop ∷ Pop ∷ [])
      copied_array_done i e f = record {
        value = v;
        exceptions = es;
        terms = behind 2 ts;
        filled = record { all = f.all; so = behind_two (count g d (behind_each chain)) ts f.so; types = f.types; knows = f.knows; comes = tt };
        moved = moves (dropped _) (moves (dropped _) (moves (dropped _) done));
        place_is = refl;
        outcome_is = last_comes Copying tt i e;
      }
