-- Where an object comes to wait in the source, what is left is read in the chain with its scope.
use Rattle.std.proofs.Common.{ℕ, ◌≡◌, inl, inr, refl, ap, ap₂, sym, ◌∙◌, Bool, true, false, cond, List, [], ◌∷◌, ◌++◌, Option, Some}
use Rattle.cpp_tree.specs.declared.arena.TNodeId.{TNodeId}
use Rattle.low_code.specs.declared.scopes.Owner.{Owner}
use Rattle.low_code.specs.declared.scopes.Owner.TheVariants.{Block as OfBlock, Call as OfCall, Parts as OfParts, Full as OfFull}
use Rattle.low_code.specs.declared.scopes.Address.TheVariants.{Frame as OfFrame, Word as OfWord, Node as OfNode}
use Rattle.low_code.specs.declared.scopes.ScopeKind.{ScopeKind}
use Rattle.low_code.specs.declared.scopes.ScopeKind.TheVariants.{Mark, Waits as WaitsIn}
use Rattle.low_code.specs.Scopes.{is_full}
use Rattle.src_mean.specs.Frames.{of_block, of_call, of_pieces}
use Rattle.symbolic_source.specs.Terms.{Term, Exception, local, plus_number}
use Rattle.symbolic_source.specs.Frames.{at_word, at_tree, into, Waiting, Frame, Run, Gives, Items, Words, Parts, Scope, Waits, Cleans, puts}
use Rattle.symbolic_source.specs.Steps.{first_word, second_word}
use Rattle.symbolic_source.specs.Frames as symbolic
use Rattle.unwind_lower.specs.declared.items.Item.{Item}
use Rattle.unwind_lower.specs.Settings.{Setting, node_in}
use Rattle.unwind_lower.specs.Kids.{kids_from}
use Rattle.lowered_frames.specs.Lists.{behind, firsts, more_by, exceptions_behind, turned}
use Rattle.lowered_frames.specs.Modes.{Mode, tree_in, trees_in}
use Rattle.lowered_frames.specs.Chains.{is_mark, before_mark, behind_mark, behind_each, scopes_behind, waitings, words_of_all, part_waitings}
use Rattle.lowered_frames.specs.Calls.{called_count, called_with, Calling, call_scopes, words, bare_built_in}
use Rattle.lowered_frames.specs.Objects.{Making, making_frames, making_scopes, parts, part, part_made, each, element}
use Rattle.lowered_frames.specs.Closings.{Closing, closing_scopes, kept_value, kept_words, kept_count, close_block, close_call, close_full, cleaning}
use Rattle.lowered_frames.specs.Statements.{rest_of_block, rest_of_switch}
use Rattle.lowered_frames.specs.Left.{Head, expression, calling, making, closing, statement, throwing, head_frames, head_words, head_count, head_scopes, head_exceptions, head_temporaries}
use Rattle.lowered_frames.specs.Left.{Left, body_ends, before, other_again, leave, frames, below, temporaries, count}
use Rattle.lowered_frames.specs.Entered.{AwaitsBlock, AwaitsCall, with_full, StartsFull, StartsWithin, IsWithin, CallWithin, MakingWithin, ClosingWithin, HeadWithin, InFull}

-- ---- objects of a block and of a call

module _ (g : Setting) (number : ℕ → ℕ) where
  -- a variable, at an offset of the frame
  pub variable_waits : (offset : ℕ) (id : TNodeId) (first : ℕ) (always : Bool) {m : Mode} {items : List Item} (d : Left g m items) (chain : List ScopeKind)
      (es : List Exception) (ts : List Term) → AwaitsBlock g d
      → puts of_block (record { address = at_word (local offset); destroys = trees_in g (kids_from (node_in g id) first) }) (frames g number d chain es ts)
      ≡ Some (frames g number d (WaitsIn OfBlock always (OfFrame offset) id first ∷ chain) es ts)
  variable_waits offset id first always (before (closing (close_block a at)) d) chain es ts w = refl
  variable_waits offset id first always (before (statement (rest_of_block ids b)) d) chain es ts w =
      ap (λ (z : Option (List Frame)). symbolic.behind (Items (trees_in g ids)) z) (variable_waits offset id first always d chain es ts w)
  variable_waits offset id first always (before (statement (rest_of_switch labels ids b)) d) chain es ts w =
      ap (λ (z : Option (List Frame)). symbolic.behind (Items (trees_in g ids)) z) (variable_waits offset id first always d chain es ts w)
  variable_waits offset id first always d chain es ts w = absurd w

  -- what a node gives the address of when it is destroyed
  pub deferred_waits : (other id : TNodeId) (first : ℕ) (always : Bool) {m : Mode} {items : List Item} (d : Left g m items) (chain : List ScopeKind)
      (es : List Exception) (ts : List Term) → AwaitsBlock g d
      → puts of_block (record { address = at_tree (tree_in g other); destroys = trees_in g (kids_from (node_in g id) first) }) (frames g number d chain es ts)
      ≡ Some (frames g number d (WaitsIn OfBlock always (OfNode other) id first ∷ chain) es ts)
  deferred_waits other id first always (before (closing (close_block a at)) d) chain es ts w = refl
  deferred_waits other id first always (before (statement (rest_of_block ids b)) d) chain es ts w =
      ap (λ (z : Option (List Frame)). symbolic.behind (Items (trees_in g ids)) z) (deferred_waits other id first always d chain es ts w)
  deferred_waits other id first always (before (statement (rest_of_switch labels ids b)) d) chain es ts w =
      ap (λ (z : Option (List Frame)). symbolic.behind (Items (trees_in g ids)) z) (deferred_waits other id first always d chain es ts w)
  deferred_waits other id first always d chain es ts w = absurd w

  -- a member, whose address stays on the stack
  pub member_waits : (t : Term) (offset : ℕ) (id : TNodeId) (first : ℕ) (always : Bool) {m : Mode} {items : List Item} (d : Left g m items) (chain : List ScopeKind)
      (es : List Exception) (ts : List Term) → AwaitsBlock g d
      → puts of_block (record { address = at_word (plus_number t offset); destroys = trees_in g (kids_from (node_in g id) first) }) (frames g number d chain es ts)
      ≡ Some (frames g number d (WaitsIn OfBlock always (OfWord offset) id first ∷ chain) es (t ∷ ts))
  member_waits t offset id first always (before (closing (close_block a at)) d) chain es ts w = refl
  member_waits t offset id first always (before (statement (rest_of_block ids b)) d) chain es ts w =
      ap (λ (z : Option (List Frame)). symbolic.behind (Items (trees_in g ids)) z) (member_waits t offset id first always d chain es ts w)
  member_waits t offset id first always (before (statement (rest_of_switch labels ids b)) d) chain es ts w =
      ap (λ (z : Option (List Frame)). symbolic.behind (Items (trees_in g ids)) z) (member_waits t offset id first always d chain es ts w)
  member_waits t offset id first always d chain es ts w = absurd w

  -- an argument object
  pub argument_waits : (offset : ℕ) (id : TNodeId) (first : ℕ) (always : Bool) {m : Mode} {items : List Item} (d : Left g m items) (chain : List ScopeKind)
      (es : List Exception) (ts : List Term) → AwaitsCall g d
      → puts of_call (record { address = at_word (local offset); destroys = trees_in g (kids_from (node_in g id) first) }) (frames g number d chain es ts)
      ≡ Some (frames g number d (WaitsIn OfCall always (OfFrame offset) id first ∷ chain) es ts)
  argument_waits offset id first always (before (closing (close_call at)) d) chain es ts w = refl
  argument_waits offset id first always (before (calling (words c n ids other way)) d) chain es ts w =
      ap (λ (z : Option (List Frame)). symbolic.behind (Words (called_with number c (behind n ts)) (turned n ts) (trees_in g ids)) z)
      (argument_waits offset id first always d chain es (behind (more_by n (called_count c)) ts) w)
  argument_waits offset id first always d chain es ts w = absurd w

-- ---- temporaries

by_false : {A : Type 0} (b : Bool) (x y : A) → b ≡ false → cond b x y ≡ y
by_false true x y e = absurd cc
by_false false x y e = refl

by_true : {A : Type 0} (b : Bool) (x y : A) → b ≡ true → cond b x y ≡ x
by_true true x y e = refl
by_true false x y e = absurd cc

module _ (offset : ℕ) (id : TNodeId) (first : ℕ) where
  abbrev new : ScopeKind
  new = WaitsIn OfFull true (OfFrame offset) id first

  put_first : (chain : List ScopeKind) → StartsFull chain → with_full new chain ≡ new ∷ chain
  put_first [] s = absurd s
  put_first (k ∷ chain) s = by_true (is_full k) (new ∷ k ∷ chain) (k ∷ with_full new chain) s

  put_further : (k : ScopeKind) (chain : List ScopeKind) → is_full k ≡ false → with_full new (k ∷ chain) ≡ k ∷ with_full new chain
  put_further k chain e = by_false (is_full k) (new ∷ k ∷ chain) (k ∷ with_full new chain) e

  behind_put : (chain : List ScopeKind) → StartsWithin chain → scopes_behind (with_full new chain) ≡ with_full new (scopes_behind chain)
  behind_put [] s = absurd s
  behind_put (k ∷ chain) s = ap scopes_behind (put_further k chain s)

  -- up to a mark that lies within
  before_put : (owner : Owner) (chain : List ScopeKind) → IsWithin owner chain → before_mark owner (with_full new chain) ≡ before_mark owner chain
  before_put owner [] w = absurd w
  before_put owner (k ∷ chain) (e, inl i) = ap (λ (z : List ScopeKind). before_mark owner z) (put_further k chain e)
      ∙ by_true (is_mark owner k) [] (k ∷ before_mark owner (with_full new chain)) i ∙ sym (by_true (is_mark owner k) [] (k ∷ before_mark owner chain) i)
  before_put owner (k ∷ chain) (e, inr (i, w)) = ap (λ (z : List ScopeKind). before_mark owner z) (put_further k chain e)
      ∙ ap (λ (z : List ScopeKind). cond (is_mark owner k) [] (k ∷ z)) (before_put owner chain w)

  behind_mark_put : (owner : Owner) (chain : List ScopeKind) → IsWithin owner chain → behind_mark owner (with_full new chain) ≡ with_full new (behind_mark owner chain)
  behind_mark_put owner [] w = absurd w
  behind_mark_put owner (k ∷ chain) (e, inl i) = ap (λ (z : List ScopeKind). behind_mark owner z) (put_further k chain e)
      ∙ by_true (is_mark owner k) (with_full new chain) (behind_mark owner (with_full new chain)) i
      ∙ ap (λ (z : List ScopeKind). with_full new z) (sym (by_true (is_mark owner k) chain (behind_mark owner chain) i))
  behind_mark_put owner (k ∷ chain) (e, inr (i, w)) = ap (λ (z : List ScopeKind). behind_mark owner z) (put_further k chain e)
      ∙ by_false (is_mark owner k) (with_full new chain) (behind_mark owner (with_full new chain)) i
      ∙ behind_mark_put owner chain w
      ∙ ap (λ (z : List ScopeKind). with_full new z) (sym (by_false (is_mark owner k) chain (behind_mark owner chain) i))

  one_each : (k : ScopeKind) (chain : List ScopeKind) → behind_each (with_full new (k ∷ chain)) ≡ with_full new (behind_each (k ∷ chain))
  one_each (WaitsIn OfFull always address node from) chain = refl
  one_each (WaitsIn OfBlock always address node from) chain = refl
  one_each (WaitsIn OfCall always address node from) chain = refl
  one_each (WaitsIn OfParts always address node from) chain = refl
  one_each (Mark OfFull) chain = refl
  one_each (Mark OfBlock) chain = refl
  one_each (Mark OfCall) chain = refl
  one_each (Mark OfParts) chain = refl
  one_each k chain = refl

  each_put : (chain : List ScopeKind) → behind_each (with_full new chain) ≡ with_full new (behind_each chain)
  each_put [] = refl
  each_put (k ∷ chain) = one_each k chain

  module _ (g : Setting) where
    call_scopes_put : {m n : Mode} {items rest : List Item} (h : Calling g m items n rest) (chain : List ScopeKind) → CallWithin g h chain
        → call_scopes g h (with_full new chain) ≡ with_full new (call_scopes g h chain)
    call_scopes_put (words c n ids other way) chain w = refl
    call_scopes_put (bare_built_in other way) chain w = refl
    call_scopes_put h chain w = behind_put chain w

    making_scopes_put : {m n : Mode} {items rest : List Item} (h : Making g m items n rest) (chain : List ScopeKind) → MakingWithin g h chain
        → making_scopes g h (with_full new chain) ≡ with_full new (making_scopes g h chain)
    making_scopes_put (parts way ids at b) chain w = behind_mark_put OfParts chain w
    making_scopes_put (part other way ids at b) chain w = behind_mark_put OfParts chain w
    making_scopes_put (part_made other off way ids at b is) chain w = behind_mark_put OfParts chain w
    making_scopes_put (each other count stride built way top scope b is e) chain w = each_put chain
    making_scopes_put (element other count stride built way top scope b is e) chain w = each_put chain
    making_scopes_put h chain w = refl

    closing_scopes_put : {m n : Mode} {items rest : List Item} (h : Closing g m items n rest) (chain : List ScopeKind) → ClosingWithin g h chain
        → closing_scopes g h (with_full new chain) ≡ with_full new (closing_scopes g h chain)
    closing_scopes_put (close_call at) chain w = behind_mark_put OfCall chain w
    closing_scopes_put (cleaning owner at) chain w = behind_mark_put owner chain w
    closing_scopes_put (close_block always at) chain w = absurd w
    closing_scopes_put (close_full at) chain w = absurd w

    head_scopes_put : {m n : Mode} {items rest : List Item} (h : Head g m items n rest) (chain : List ScopeKind) → HeadWithin g h chain
        → head_scopes g h (with_full new chain) ≡ with_full new (head_scopes g h chain)
    head_scopes_put (expression h) chain w = refl
    head_scopes_put (calling h) chain w = call_scopes_put h chain w
    head_scopes_put (making h) chain w = making_scopes_put h chain w
    head_scopes_put (closing h) chain w = closing_scopes_put h chain w
    head_scopes_put (statement h) chain w = absurd w
    head_scopes_put (throwing h) chain w = absurd w

    -- how many terms, and which
    head_count_put : {m n : Mode} {items rest : List Item} (h : Head g m items n rest) (chain : List ScopeKind) → HeadWithin g h chain
        → head_count g h (with_full new chain) ≡ head_count g h chain
    head_count_put (expression h) chain w = refl
    head_count_put (calling h) chain w = refl
    head_count_put (making h) chain w = refl
    head_count_put (closing (close_call at)) chain w = ap words_of_all (before_put OfCall chain w)
    head_count_put (closing (cleaning {m} owner at)) chain w = ap (λ (z : List ScopeKind). more_by (kept_count m) (words_of_all z)) (before_put owner chain w)
    head_count_put (closing (close_block always at)) chain w = absurd w
    head_count_put (closing (close_full at)) chain w = absurd w
    head_count_put (statement h) chain w = absurd w
    head_count_put (throwing h) chain w = absurd w

    head_words_put : {m n : Mode} {items rest : List Item} (h : Head g m items n rest) (chain : List ScopeKind) → HeadWithin g h chain → (ts : List Term)
        → head_words g h (with_full new chain) ts ≡ head_words g h chain ts
    head_words_put (expression h) chain w ts = refl
    head_words_put (calling h) chain w ts = refl
    head_words_put (making h) chain w ts = refl
    head_words_put (closing (close_call at)) chain w ts = ap (λ (z : List ScopeKind). firsts (words_of_all z) ts) (before_put OfCall chain w)
    head_words_put (closing (cleaning {m} owner at)) chain w ts =
        ap (λ (z : List ScopeKind). kept_words m ts ++ firsts (words_of_all z) (behind (kept_count m) ts)) (before_put owner chain w)
    head_words_put (closing (close_block always at)) chain w ts = absurd w
    head_words_put (closing (close_full at)) chain w ts = absurd w
    head_words_put (statement h) chain w ts = absurd w
    head_words_put (throwing h) chain w ts = absurd w

    -- no temporaries of its own
    head_temporaries_put : {m n : Mode} {items rest : List Item} (h : Head g m items n rest) (chain other : List ScopeKind) → HeadWithin g h chain
        → (outer : List Waiting) (ts : List Term) → head_temporaries g h outer other ts ≡ outer
    head_temporaries_put (expression h) chain other w outer ts = refl
    head_temporaries_put (calling h) chain other w outer ts = refl
    head_temporaries_put (making h) chain other w outer ts = refl
    head_temporaries_put (closing (close_call at)) chain other w outer ts = refl
    head_temporaries_put (closing (cleaning owner at)) chain other w outer ts = refl
    head_temporaries_put (closing (close_block always at)) chain other w outer ts = absurd w
    head_temporaries_put (closing (close_full at)) chain other w outer ts = absurd w
    head_temporaries_put (statement h) chain other w outer ts = absurd w
    head_temporaries_put (throwing h) chain other w outer ts = absurd w

    -- ---- what is left

    count_by : {m n : Mode} {items rest : List Item} (h : Head g m items n rest) (d : Left g n rest) (chain : List ScopeKind) → HeadWithin g h chain
        → count g d (with_full new (head_scopes g h chain)) ≡ count g d (head_scopes g h chain) → count g (before h d) (with_full new chain) ≡ count g (before h d) chain
    count_by h d chain w e = ap₂ (λ (y : ℕ) (z : List ScopeKind). more_by y (count g d z)) (head_count_put h chain w) (head_scopes_put h chain w)
        ∙ ap (λ (z : ℕ). more_by (head_count g h chain) z) e

    pub count_put : {m : Mode} {items : List Item} (d : Left g m items) (chain : List ScopeKind) → InFull g d chain → count g d (with_full new chain) ≡ count g d chain
    count_put (body_ends at) chain w = absurd w
    count_put (before (closing (close_full at)) d) chain w = ap (λ (z : List ScopeKind). count g (before (closing (close_full at)) d) z) (put_first chain w)
    count_put (before h d) chain w = count_by h d chain w.0 (count_put d (head_scopes g h chain) w.1)
    count_put (other_again o a e d) chain w = absurd w
    count_put (leave x cleans origin junk at d o) chain w = absurd w

    below_by : {m n : Mode} {items rest : List Item} (h : Head g m items n rest) (d : Left g n rest) (chain : List ScopeKind) → HeadWithin g h chain
        → ((ts : List Term) → below g d (with_full new (head_scopes g h chain)) ts ≡ below g d (head_scopes g h chain) ts)
        → (ts : List Term) → below g (before h d) (with_full new chain) ts ≡ below g (before h d) chain ts
    below_by h d chain w e ts = ap₂ (λ (y : List Term) (z : List ScopeKind). y ++ below g d z (behind (head_count g h (with_full new chain)) ts))
        (head_words_put h chain w ts) (head_scopes_put h chain w)
        ∙ ap (λ (z : ℕ). head_words g h chain ts ++ below g d (with_full new (head_scopes g h chain)) (behind z ts)) (head_count_put h chain w)
        ∙ ap (λ (z : List Term). head_words g h chain ts ++ z) (e (behind (head_count g h chain) ts))

    pub below_put : {m : Mode} {items : List Item} (d : Left g m items) (chain : List ScopeKind) → InFull g d chain → (ts : List Term)
        → below g d (with_full new chain) ts ≡ below g d chain ts
    below_put (body_ends at) chain w ts = absurd w
    below_put (before (closing (close_full at)) d) chain w ts = ap (λ (z : List ScopeKind). below g (before (closing (close_full at)) d) z ts) (put_first chain w)
    below_put (before h d) chain w ts = below_by h d chain w.0 (λ us. below_put d (head_scopes g h chain) w.1 us) ts
    below_put (other_again o a e d) chain w ts = absurd w
    below_put (leave x cleans origin junk at d o) chain w ts = absurd w

    temporaries_by : {m n : Mode} {items rest : List Item} (h : Head g m items n rest) (d : Left g n rest) (chain : List ScopeKind) → HeadWithin g h chain
        → (v : Waiting) → ((ts : List Term) → temporaries g d (with_full new (head_scopes g h chain)) ts ≡ v ∷ temporaries g d (head_scopes g h chain) ts)
        → (ts : List Term) → temporaries g (before h d) (with_full new chain) ts ≡ v ∷ temporaries g (before h d) chain ts
    temporaries_by h d chain w v e ts =
        head_temporaries_put h chain (with_full new chain) w (temporaries g d (head_scopes g h (with_full new chain)) (behind (head_count g h (with_full new chain)) ts)) ts
        ∙ ap₂ (λ (y : List ScopeKind) (z : ℕ). temporaries g d y (behind z ts)) (head_scopes_put h chain w) (head_count_put h chain w)
        ∙ e (behind (head_count g h chain) ts)
        ∙ ap (λ (z : List Waiting). v ∷ z)
        (sym (head_temporaries_put h chain chain w (temporaries g d (head_scopes g h chain) (behind (head_count g h chain) ts)) ts))

    pub temporaries_put : {m : Mode} {items : List Item} (d : Left g m items) (chain : List ScopeKind) → InFull g d chain → (ts : List Term)
        → temporaries g d (with_full new chain) ts
        ≡ record { address = at_word (local offset); destroys = trees_in g (kids_from (node_in g id) first) } ∷ temporaries g d chain ts
    temporaries_put (body_ends at) chain w ts = absurd w
    temporaries_put (before (closing (close_full at)) d) chain w ts =
        ap (λ (z : List ScopeKind). temporaries g (before (closing (close_full at)) d) z ts) (put_first chain w)
    temporaries_put (before h d) chain w ts = temporaries_by h d chain w.0 _ (λ us. temporaries_put d (head_scopes g h chain) w.1 us) ts
    temporaries_put (other_again o a e d) chain w ts = absurd w
    temporaries_put (leave x cleans origin junk at d o) chain w ts = absurd w

    module _ (number : ℕ → ℕ) where
      making_frames_put : {m n : Mode} {items rest : List Item} (h : Making g m items n rest) (chain : List ScopeKind) → MakingWithin g h chain → (ts : List Term)
          → making_frames g number h (with_full new chain) ts ≡ making_frames g number h chain ts
      making_frames_put (parts way ids at b) chain w ts = ap (λ (z : List ScopeKind). Parts (trees_in g ids) (first_word ts) (second_word ts)
          ∷ Scope of_pieces false (part_waitings g z (first_word ts)) ∷ []) (before_put OfParts chain w)
      making_frames_put (part other way ids at b) chain w ts = ap (λ (z : List ScopeKind). Run (into (first_word ts) (second_word ts)) (tree_in g other)
          ∷ Parts (trees_in g ids) (first_word ts) (second_word ts) ∷ Scope of_pieces false (part_waitings g z (first_word ts)) ∷ []) (before_put OfParts chain w)
      making_frames_put (part_made other off way ids at b is) chain w ts = ap (λ (z : List ScopeKind).
          Waits of_pieces (at_word (plus_number (first_word ts) off)) (trees_in g (kids_from (node_in g other) 1))
          ∷ Parts (trees_in g ids) (first_word ts) (second_word ts) ∷ Scope of_pieces false (part_waitings g z (first_word ts)) ∷ []) (before_put OfParts chain w)
      making_frames_put h chain w ts = refl

      head_frames_put : {m n : Mode} {items rest : List Item} (h : Head g m items n rest) (chain : List ScopeKind) → HeadWithin g h chain → (outer other : List Waiting)
          (es : List Exception) (ts : List Term) → head_frames g number h outer (with_full new chain) es ts ≡ head_frames g number h other chain es ts
      head_frames_put (expression h) chain w outer other es ts = refl
      head_frames_put (calling h) chain w outer other es ts = refl
      head_frames_put (making h) chain w outer other es ts = making_frames_put h chain w ts
      head_frames_put (closing (close_call at)) chain w outer other es ts = ap (λ (z : List ScopeKind). Scope of_call true (waitings g z ts) ∷ []) (before_put OfCall chain w)
      head_frames_put (closing (cleaning {m} owner at)) chain w outer other es ts =
          ap (λ (z : List ScopeKind). Cleans (waitings g z (behind (kept_count m) ts)) ∷ Gives (kept_value m ts) ∷ []) (before_put owner chain w)
      head_frames_put (closing (close_block always at)) chain w outer other es ts = absurd w
      head_frames_put (closing (close_full at)) chain w outer other es ts = absurd w
      head_frames_put (statement h) chain w outer other es ts = absurd w
      head_frames_put (throwing h) chain w outer other es ts = absurd w

      frames_by : {m n : Mode} {items rest : List Item} (h : Head g m items n rest) (d : Left g n rest) (chain : List ScopeKind) → HeadWithin g h chain
          → ((es : List Exception) (ts : List Term) → frames g number d (with_full new (head_scopes g h chain)) es ts ≡ frames g number d (head_scopes g h chain) es ts)
          → (es : List Exception) (ts : List Term) → frames g number (before h d) (with_full new chain) es ts ≡ frames g number (before h d) chain es ts
      frames_by h d chain w e es ts =
          ap (λ (z : List Frame). z ++ frames g number d (head_scopes g h (with_full new chain)) (exceptions_behind (head_exceptions g h) es)
          (behind (head_count g h (with_full new chain)) ts))
          (head_frames_put h chain w (temporaries g d (head_scopes g h (with_full new chain)) (behind (head_count g h (with_full new chain)) ts))
          (temporaries g d (head_scopes g h chain) (behind (head_count g h chain) ts)) es ts)
          ∙ ap₂ (λ (y : List ScopeKind) (z : ℕ). head_frames g number h (temporaries g d (head_scopes g h chain) (behind (head_count g h chain) ts)) chain es ts
          ++ frames g number d y (exceptions_behind (head_exceptions g h) es) (behind z ts)) (head_scopes_put h chain w) (head_count_put h chain w)
          ∙ ap (λ (z : List Frame). head_frames g number h (temporaries g d (head_scopes g h chain) (behind (head_count g h chain) ts)) chain es ts ++ z)
          (e (exceptions_behind (head_exceptions g h) es) (behind (head_count g h chain) ts))

      pub frames_put : {m : Mode} {items : List Item} (d : Left g m items) (chain : List ScopeKind) → InFull g d chain → (es : List Exception) (ts : List Term)
          → frames g number d (with_full new chain) es ts ≡ frames g number d chain es ts
      frames_put (body_ends at) chain w es ts = absurd w
      frames_put (before (closing (close_full at)) d) chain w es ts =
          ap (λ (z : List ScopeKind). frames g number (before (closing (close_full at)) d) z es ts) (put_first chain w)
      frames_put (before h d) chain w es ts = frames_by h d chain w.0 (λ fs us. frames_put d (head_scopes g h chain) w.1 fs us) es ts
      frames_put (other_again o a e d) chain w es ts = absurd w
      frames_put (leave x cleans origin junk at d o) chain w es ts = absurd w
