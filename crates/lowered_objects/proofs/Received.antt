-- An object that waits is put into the scope of its owner, in the source as in the code.
use Rattle.std.proofs.Common.{ℕ, ◌≡◌, refl, ap, ap₂, sym, ◌∙◌, subst, Bool, true, false, List, [], ◌∷◌, ◌++◌, Option, Some}
use Rattle.cpp_tree.specs.declared.arena.TNodeId.{TNodeId}
use Rattle.low_code.specs.declared.scopes.Owner.{Owner}
use Rattle.low_code.specs.declared.scopes.Owner.TheVariants.{Block as OfBlock, Call as OfCall, Full as OfFull, Parts as OfParts}
use Rattle.low_code.specs.declared.scopes.Address.{Address}
use Rattle.low_code.specs.declared.scopes.Address.TheVariants.{Frame as InFrame, Word, Node as OfNode}
use Rattle.low_code.specs.declared.scopes.ScopeKind.{ScopeKind}
use Rattle.low_code.specs.declared.scopes.ScopeKind.TheVariants.{Waits}
use Rattle.symbolic_source.specs.Terms.{Term, Exception}
use Rattle.symbolic_source.specs.Frames.{Frame, Waiting, Scope, puts}
use Rattle.symbolic_source.specs.Frames as symbolic
use Rattle.src_mean.specs.Frames as source
use Rattle.unwind_lower.specs.declared.items.Item.{Item}
use Rattle.unwind_lower.specs.Settings.{Setting, node_in}
use Rattle.unwind_lower.specs.Kids.{kids_from}
use Rattle.lowered_frames.specs.Lists.{behind, exceptions_behind}
use Rattle.lowered_frames.specs.Modes.{Mode, trees_in}
use Rattle.lowered_frames.specs.Chains.{spot_with}
use Rattle.lowered_frames.specs.Expressions.{Expression, expression_frames, drop}
use Rattle.lowered_frames.specs.Calls.{Calling, call_frames, call_scopes, words, bare_built_in, bare}
use Rattle.lowered_frames.specs.Objects.{Making, making_frames, making_scopes, parts, part, part_made, each, element}
use Rattle.lowered_frames.specs.Closings.{Closing, close_block, close_call}
use Rattle.lowered_frames.specs.Statements.{Statement, statement_frames, statement_scopes, rest_of_block, rest_of_switch, select, test_done}
use Rattle.lowered_frames.specs.Throws.{Throwing, throwing_frames, throwing_words, throwing_count, throwing_scopes, throwing as throws_it, fills, filled, fills_scalar, scalar_filled, try_done}
use Rattle.lowered_frames.specs.Left.{Head, expression, calling, making, closing, statement, throwing, head_frames, head_count, head_exceptions, head_scopes, head_temporaries}
use Rattle.lowered_frames.specs.Left.{Left, body_ends, before, other_again, leave, frames, temporaries}
use Rattle.lowered_objects.specs.Scopes.{call_is_plain, making_is_plain, statement_is_plain, throwing_is_plain, head_is_plain, closing_is, receives, source_owner, is_placed}
use Rattle.lowered_objects.proofs.Alike.{SameHead, Alike, alike_before}
use Rattle.lowered_objects.proofs.Lists.{first_of_both, second_of_both}

-- ---- frames that are no scopes

abbrev pub no_scopes : List Frame → Bool
no_scopes [] = true
no_scopes (Scope owner always ws ∷ k) = false
no_scopes (f ∷ k) = no_scopes k

pub puts_behind : (owner : source.Owner) (w : Waiting) (j k l : List Frame) → no_scopes j ≡ true → puts owner w k ≡ Some l → puts owner w (j ++ k) ≡ Some (j ++ l)
puts_behind owner w [] k l n e = e
puts_behind owner w (Scope o always ws ∷ j) k l n e = absurd cc
puts_behind owner w (f ∷ j) k l n e = ap (λ (z : Option (List Frame)). symbolic.behind f z) (puts_behind owner w j k l n e)

module _ (g : Setting) where
  -- ---- heads that do not look at the scopes

  module _ (number : ℕ → ℕ) where
    expression_bare : {m n : Mode} {from to : List Item} (h : Expression g m from n to) (ts : List Term) → no_scopes (expression_frames g h ts) ≡ true
    expression_bare (drop at) ts = refl
    expression_bare h ts = refl

    call_bare : {m n : Mode} {from to : List Item} (h : Calling g m from n to) (ts : List Term) → no_scopes (call_frames g number h ts) ≡ true
    call_bare (bare id way at) ts = refl
    call_bare h ts = refl

    making_bare : {m n : Mode} {from to : List Item} (h : Making g m from n to) → making_is_plain g h ≡ true → (chain : List ScopeKind) (ts : List Term)
        → no_scopes (making_frames g number h chain ts) ≡ true
    making_bare (parts way ids at b) e chain ts = absurd cc
    making_bare (part id way ids at b) e chain ts = absurd cc
    making_bare (part_made id offset way ids at b is) e chain ts = absurd cc
    making_bare (each id c stride built way first scope b is i) e chain ts = absurd cc
    making_bare (element id c stride built way first scope b is i) e chain ts = absurd cc
    making_bare h e chain ts = refl

    statement_bare : {m n : Mode} {from to : List Item} (h : Statement g m from n to) → statement_is_plain g h ≡ true → (ts : List Term)
        → no_scopes (statement_frames g h ts) ≡ true
    statement_bare (rest_of_block ids b) e ts = refl
    statement_bare (rest_of_switch labels ids b) e ts = refl
    statement_bare (select id) e ts = refl
    statement_bare (test_done turn) e ts = refl
    statement_bare h e ts = absurd cc

    throwing_bare : {m n : Mode} {from to : List Item} (h : Throwing g m from n to) (chain : List ScopeKind) (es : List Exception) (ts : List Term)
        → no_scopes (throwing_frames g h chain es ts) ≡ true
    throwing_bare (try_done id scope) chain es ts = refl
    throwing_bare h chain es ts = refl

    pub head_bare : {m n : Mode} {from to : List Item} (h : Head g m from n to) → head_is_plain g h ≡ true → (outer : List Waiting) (chain : List ScopeKind)
        (es : List Exception) (ts : List Term) → no_scopes (head_frames g number h outer chain es ts) ≡ true
    head_bare (expression h) e outer chain es ts = expression_bare h ts
    head_bare (calling h) e outer chain es ts = call_bare h ts
    head_bare (making h) e outer chain es ts = making_bare h e chain ts
    head_bare (closing h) e outer chain es ts = absurd cc
    head_bare (statement h) e outer chain es ts = statement_bare h e ts
    head_bare (throwing h) e outer chain es ts = throwing_bare h chain es ts

    -- their frames

    making_plain : {m n : Mode} {from to : List Item} (h : Making g m from n to) → making_is_plain g h ≡ true → (chain other : List ScopeKind) (ts : List Term)
        → making_frames g number h other ts ≡ making_frames g number h chain ts
    making_plain (parts way ids at b) e chain other ts = absurd cc
    making_plain (part id way ids at b) e chain other ts = absurd cc
    making_plain (part_made id offset way ids at b is) e chain other ts = absurd cc
    making_plain (each id c stride built way first scope b is i) e chain other ts = absurd cc
    making_plain (element id c stride built way first scope b is i) e chain other ts = absurd cc
    making_plain h e chain other ts = refl

    throwing_plain : {m n : Mode} {from to : List Item} (h : Throwing g m from n to) → throwing_is_plain g h ≡ true → (chain other : List ScopeKind)
        (es : List Exception) (ts : List Term) → throwing_frames g h other es ts ≡ throwing_frames g h chain es ts
    throwing_plain (throws_it id) e chain other es ts = refl
    throwing_plain (fills id done ids o) e chain other es ts = refl
    throwing_plain (filled id field done ids offset kind o is) e chain other es ts = refl
    throwing_plain (fills_scalar id o) e chain other es ts = refl
    throwing_plain (scalar_filled id field ids o) e chain other es ts = refl
    throwing_plain h e chain other es ts = absurd cc

    pub head_frames_plain : {m n : Mode} {from to : List Item} (h : Head g m from n to) → head_is_plain g h ≡ true → (outer others : List Waiting)
        (chain other : List ScopeKind) (es : List Exception) (ts : List Term) → head_frames g number h others other es ts ≡ head_frames g number h outer chain es ts
    head_frames_plain (expression h) e outer others chain other es ts = refl
    head_frames_plain (calling h) e outer others chain other es ts = refl
    head_frames_plain (making h) e outer others chain other es ts = making_plain h e chain other ts
    head_frames_plain (closing h) e outer others chain other es ts = absurd cc
    head_frames_plain (statement h) e outer others chain other es ts = refl
    head_frames_plain (throwing h) e outer others chain other es ts = throwing_plain h e chain other es ts

  -- their scopes

  call_stays : {m n : Mode} {from to : List Item} (h : Calling g m from n to) → call_is_plain g h ≡ true → (chain : List ScopeKind) → call_scopes g h chain ≡ chain
  call_stays (words c n ids id way) e chain = refl
  call_stays (bare_built_in id way) e chain = refl
  call_stays h e chain = absurd cc

  making_stays : {m n : Mode} {from to : List Item} (h : Making g m from n to) → making_is_plain g h ≡ true → (chain : List ScopeKind) → making_scopes g h chain ≡ chain
  making_stays (parts way ids at b) e chain = absurd cc
  making_stays (part id way ids at b) e chain = absurd cc
  making_stays (part_made id offset way ids at b is) e chain = absurd cc
  making_stays (each id c stride built way first scope b is i) e chain = absurd cc
  making_stays (element id c stride built way first scope b is i) e chain = absurd cc
  making_stays h e chain = refl

  statement_stays : {m n : Mode} {from to : List Item} (h : Statement g m from n to) → statement_is_plain g h ≡ true → (chain : List ScopeKind)
      → statement_scopes g h chain ≡ chain
  statement_stays (rest_of_block ids b) e chain = refl
  statement_stays (rest_of_switch labels ids b) e chain = refl
  statement_stays (select id) e chain = refl
  statement_stays (test_done turn) e chain = refl
  statement_stays h e chain = absurd cc

  throwing_stays : {m n : Mode} {from to : List Item} (h : Throwing g m from n to) → throwing_is_plain g h ≡ true → (chain : List ScopeKind)
      → throwing_scopes g h chain ≡ chain
  throwing_stays (throws_it id) e chain = refl
  throwing_stays (fills id done ids o) e chain = refl
  throwing_stays (filled id field done ids offset kind o is) e chain = refl
  throwing_stays (fills_scalar id o) e chain = refl
  throwing_stays (scalar_filled id field ids o) e chain = refl
  throwing_stays h e chain = absurd cc

  pub head_stays : {m n : Mode} {from to : List Item} (h : Head g m from n to) → head_is_plain g h ≡ true → (chain : List ScopeKind) → head_scopes g h chain ≡ chain
  head_stays (expression h) e chain = refl
  head_stays (calling h) e chain = call_stays h e chain
  head_stays (making h) e chain = making_stays h e chain
  head_stays (closing h) e chain = absurd cc
  head_stays (statement h) e chain = statement_stays h e chain
  head_stays (throwing h) e chain = throwing_stays h e chain

  -- their words

  throwing_words_plain : {m n : Mode} {from to : List Item} (h : Throwing g m from n to) → throwing_is_plain g h ≡ true → (chain other : List ScopeKind) (ts : List Term)
      → throwing_words g h other ts ≡ throwing_words g h chain ts
  throwing_words_plain (throws_it id) e chain other ts = refl
  throwing_words_plain (fills id done ids o) e chain other ts = refl
  throwing_words_plain (filled id field done ids offset kind o is) e chain other ts = refl
  throwing_words_plain (fills_scalar id o) e chain other ts = refl
  throwing_words_plain (scalar_filled id field ids o) e chain other ts = refl
  throwing_words_plain h e chain other ts = absurd cc

  throwing_count_plain : {m n : Mode} {from to : List Item} (h : Throwing g m from n to) → throwing_is_plain g h ≡ true → (chain other : List ScopeKind)
      → throwing_count g h other ≡ throwing_count g h chain
  throwing_count_plain (throws_it id) e chain other = refl
  throwing_count_plain (fills id done ids o) e chain other = refl
  throwing_count_plain (filled id field done ids offset kind o is) e chain other = refl
  throwing_count_plain (fills_scalar id o) e chain other = refl
  throwing_count_plain (scalar_filled id field ids o) e chain other = refl
  throwing_count_plain h e chain other = absurd cc

  pub plain_same : {m n : Mode} {from to : List Item} (h : Head g m from n to) → head_is_plain g h ≡ true → (chain other : List ScopeKind) → SameHead g h chain other
  plain_same (expression h) e chain other = record { words_so = λ ts. refl; count_so = refl }
  plain_same (calling h) e chain other = record { words_so = λ ts. refl; count_so = refl }
  plain_same (making h) e chain other = record { words_so = λ ts. refl; count_so = refl }
  plain_same (closing h) e chain other = absurd cc
  plain_same (statement h) e chain other = record { words_so = λ ts. refl; count_so = refl }
  plain_same (throwing h) e chain other = record { words_so = λ ts. throwing_words_plain h e chain other ts; count_so = throwing_count_plain h e chain other }

  pub plain_temporaries : {m n : Mode} {from to : List Item} (h : Head g m from n to) → head_is_plain g h ≡ true → (outer : List Waiting) (chain : List ScopeKind)
      (ts : List Term) → head_temporaries g h outer chain ts ≡ outer
  plain_temporaries (expression h) e outer chain ts = refl
  plain_temporaries (calling h) e outer chain ts = refl
  plain_temporaries (making h) e outer chain ts = refl
  plain_temporaries (closing h) e outer chain ts = absurd cc
  plain_temporaries (statement h) e outer chain ts = refl
  plain_temporaries (throwing h) e outer chain ts = refl

  -- ---- an object that waits

  module _ (number : ℕ → ℕ) (owner : Owner) (always : Bool) (address : Address) (id : TNodeId) (first : ℕ) (placed : is_placed address ≡ true) where
    abbrev pub waits_as : ScopeKind
    waits_as = Waits owner always address id first

    abbrev pub waiting_as : Waiting
    waiting_as = record { address = spot_with g address []; destroys = trees_in g (kids_from (node_in g id) first) }

    module _ {m : Mode} {items : List Item} (d : Left g m items) (chain : List ScopeKind) where
      pub record Received : Type 0 where
        pub alike : Alike g d chain (waits_as ∷ chain)
        pub temporaries_so : (ts : List Term) → temporaries g d (waits_as ∷ chain) ts ≡ temporaries g d chain ts
        pub put : (es : List Exception) (ts : List Term) → puts (source_owner owner) waiting_as (frames g number d chain es ts)
            ≡ Some (frames g number d (waits_as ∷ chain) es ts)

    -- behind a head
    received_before : {m n : Mode} {from to : List Item} (h : Head g m from n to) (d : Left g n to) (chain : List ScopeKind) → head_is_plain g h ≡ true
        → Received d chain → Received (before h d) chain
    received_before h d chain e r = record {
      alike = alike_before g h d chain (waits_as ∷ chain) (plain_same h e chain (waits_as ∷ chain))
          (subst (λ (z : List ScopeKind). Alike g d (head_scopes g h chain) z) (sym (head_stays h e (waits_as ∷ chain)))
          (subst (λ (z : List ScopeKind). Alike g d z (waits_as ∷ chain)) (sym (head_stays h e chain)) r.alike));
      temporaries_so = λ ts. plain_temporaries h e (temporaries g d (head_scopes g h (waits_as ∷ chain)) (behind (head_count g h (waits_as ∷ chain)) ts)) (waits_as ∷ chain) ts
          ∙ ap₂ (λ (y : List ScopeKind) (z : ℕ). temporaries g d y (behind z ts)) (head_stays h e (waits_as ∷ chain)) (plain_same h e chain (waits_as ∷ chain)).count_so
          ∙ r.temporaries_so (behind (head_count g h chain) ts)
          ∙ ap (λ (z : List ScopeKind). temporaries g d z (behind (head_count g h chain) ts)) (sym (head_stays h e chain))
          ∙ sym (plain_temporaries h e (temporaries g d (head_scopes g h chain) (behind (head_count g h chain) ts)) chain ts);
      put = λ es ts. puts_behind (source_owner owner) waiting_as
          (head_frames g number h (temporaries g d (head_scopes g h chain) (behind (head_count g h chain) ts)) chain es ts)
          (frames g number d (head_scopes g h chain) (exceptions_behind (head_exceptions g h) es) (behind (head_count g h chain) ts))
          (frames g number d (waits_as ∷ chain) (exceptions_behind (head_exceptions g h) es) (behind (head_count g h chain) ts))
          (head_bare number h e (temporaries g d (head_scopes g h chain) (behind (head_count g h chain) ts)) chain es ts)
          (ap (λ (z : List ScopeKind). puts (source_owner owner) waiting_as
          (frames g number d z (exceptions_behind (head_exceptions g h) es) (behind (head_count g h chain) ts))) (head_stays h e chain)
          ∙ r.put (exceptions_behind (head_exceptions g h) es) (behind (head_count g h chain) ts))
          ∙ ap₂ (λ (y z : List Frame). Some (y ++ z))
          (sym (head_frames_plain number h e (temporaries g d (head_scopes g h chain) (behind (head_count g h chain) ts))
          (temporaries g d (head_scopes g h (waits_as ∷ chain)) (behind (head_count g h (waits_as ∷ chain)) ts)) chain (waits_as ∷ chain) es ts))
          (sym (ap₂ (λ (y : List ScopeKind) (z : ℕ). frames g number d y (exceptions_behind (head_exceptions g h) es) (behind z ts))
          (head_stays h e (waits_as ∷ chain)) (plain_same h e chain (waits_as ∷ chain)).count_so));
    }

  -- at the end of its owner's objects
  module _ (number : ℕ → ℕ) {m : Mode} {items : List Item} (d : Left g m items) (always : Bool) (id : TNodeId) (first : ℕ) where
    block_receives : (all : Bool) (at : _) (chain : List ScopeKind) (address : Address) (placed : is_placed address ≡ true)
        → Received number OfBlock always address id first placed (before (closing (close_block all at)) d) chain
    block_receives all at chain (InFrame offset) placed = record {
      alike = record { counted = refl; lying = λ ts. refl; known = λ ts. refl; held = λ es ts. refl };
      temporaries_so = λ ts. refl;
      put = λ es ts. refl;
    }
    block_receives all at chain (Word offset) placed = absurd cc
    block_receives all at chain (OfNode other) placed = record {
      alike = record { counted = refl; lying = λ ts. refl; known = λ ts. refl; held = λ es ts. refl };
      temporaries_so = λ ts. refl;
      put = λ es ts. refl;
    }

    call_receives : (at : _) (chain : List ScopeKind) (address : Address) (placed : is_placed address ≡ true)
        → Received number OfCall always address id first placed (before (closing (close_call at)) d) chain
    call_receives at chain (InFrame offset) placed = record {
      alike = record { counted = refl; lying = λ ts. refl; known = λ ts. refl; held = λ es ts. refl };
      temporaries_so = λ ts. refl;
      put = λ es ts. refl;
    }
    call_receives at chain (Word offset) placed = absurd cc
    call_receives at chain (OfNode other) placed = record {
      alike = record { counted = refl; lying = λ ts. refl; known = λ ts. refl; held = λ es ts. refl };
      temporaries_so = λ ts. refl;
      put = λ es ts. refl;
    }

  module _ (number : ℕ → ℕ) (always : Bool) (address : Address) (id : TNodeId) (first : ℕ) (placed : is_placed address ≡ true) where
    closing_receives : (owner : Owner) {m n : Mode} {from to : List Item} (h : Closing g m from n to) (d : Left g n to) (chain : List ScopeKind)
        → closing_is g owner h ≡ true → Received number owner always address id first placed (before (closing h) d) chain
    closing_receives OfBlock (close_block all at) d chain e = block_receives number d always id first all at chain address placed
    closing_receives OfCall (close_call at) d chain e = call_receives number d always id first at chain address placed
    closing_receives OfParts (close_call at) d chain e = absurd cc
    closing_receives OfFull (close_call at) d chain e = absurd cc
    closing_receives owner h d chain e = absurd cc

    pub received : (owner : Owner) {m : Mode} {items : List Item} (d : Left g m items) (chain : List ScopeKind) → receives g owner d ≡ true
        → Received number owner always address id first placed d chain
    received owner (body_ends at) chain e = absurd cc
    received owner (before (closing h) d) chain e = closing_receives owner h d chain e
    received owner (before h d) chain e = received_before number owner always address id first placed h d chain (first_of_both (head_is_plain g h) (receives g owner d) e)
        (received owner d chain (second_of_both (head_is_plain g h) (receives g owner d) e))
    received owner (other_again o a c d) chain e = absurd cc
    received owner (leave x cleans origin junk at d o) chain e = absurd cc
