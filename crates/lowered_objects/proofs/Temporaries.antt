-- A temporary that is made changes only the temporaries of what is left.
use Rattle.std.proofs.Common.{ℕ, ◌≡◌, refl, ap, ap₂, sym, ◌∙◌, subst, Bool, true, false, cond, not, List, [], ◌∷◌, ◌++◌}
use Rattle.cpp_tree.specs.cpp_types.declared.classes.At.{At}
use Rattle.cpp_tree.specs.declared.arena.TNodeId.{TNodeId}
use Rattle.low_code.specs.declared.scopes.Owner.{Owner}
use Rattle.low_code.specs.declared.scopes.Owner.TheVariants.{Block as OfBlock, Call as OfCall, Full as OfFull, Parts as OfParts}
use Rattle.low_code.specs.declared.scopes.Address.TheVariants.{Frame as InFrame}
use Rattle.low_code.specs.declared.scopes.ScopeKind.{ScopeKind}
use Rattle.low_code.specs.declared.scopes.ScopeKind.TheVariants.{Waits, Each as EachScope}
use Rattle.low_code.specs.Scopes.{is_full}
use Rattle.src_mean.specs.Frames.{of_block, of_call, of_pieces}
use Rattle.symbolic_source.specs.Terms.{Term, Exception, plus_number}
use Rattle.symbolic_source.specs.Frames.{Frame, Waiting, at_word, into, Parts, Scope, Run, Waits as WaitsFor, Cleans, Gives}
use Rattle.symbolic_source.specs.Steps.{first_word, second_word}
use Rattle.unwind_lower.specs.Kids.{kids_from}
use Rattle.unwind_lower.specs.declared.items.Item.{Item}
use Rattle.unwind_lower.specs.Settings.{Setting, node_in}
use Rattle.lowered_frames.specs.Lists.{behind, more_by, firsts, exceptions_behind}
use Rattle.lowered_frames.specs.Modes.{Mode, tree_in, trees_in}
use Rattle.lowered_frames.specs.Chains.{is_mark, is_each, before_mark, behind_mark, scopes_behind, behind_each, words_of_all, waiting_with, waitings, part_waitings}
use Rattle.lowered_frames.specs.Calls.{Calling, call_scopes, words, bare_built_in}
use Rattle.lowered_frames.specs.Objects.{Making, making_frames, making_scopes, parts, part, part_made, each, element}
use Rattle.lowered_frames.specs.Closings.{Closing, closing_frames, closing_scopes, kept_value, kept_words, kept_count, close_block, close_call, close_full, cleaning}
use Rattle.lowered_frames.specs.Left.{Head, expression, calling, making, closing, statement, throwing, head_frames, head_count, head_exceptions, head_scopes, head_temporaries}
use Rattle.lowered_frames.specs.Left.{Left, body_ends, before, other_again, leave, frames, temporaries}
use Rattle.lowered_objects.specs.Scopes.{head_is_plain, with_scope, ends_within, is_within, is_outermost}
use Rattle.lowered_objects.specs.Scopes.{call_within, making_within, closing_within, head_within, is_in_full}
use Rattle.lowered_objects.proofs.Alike.{SameHead, Alike, alike_before}
use Rattle.lowered_objects.proofs.Received.{head_stays, plain_same, head_frames_plain}
use Rattle.lowered_objects.proofs.Lists.{first_of_both, second_of_both}

-- ---- chains

cond_false : {A : Type 0} (b : Bool) (x y : A) → b ≡ false → cond b x y ≡ y
cond_false true x y e = absurd cc
cond_false false x y e = refl

cond_true : {A : Type 0} (b : Bool) (x y : A) → b ≡ true → cond b x y ≡ x
cond_true true x y e = refl
cond_true false x y e = absurd cc

-- what is in a choice, where it is not the first
other_so : (full rest : Bool) → cond full false rest ≡ true → full ≡ false
other_so true rest e = absurd cc
other_so false rest e = refl

rest_so : (full rest : Bool) → cond full false rest ≡ true → rest ≡ true
rest_so true rest e = absurd cc
rest_so false rest e = e

module _ (k : ScopeKind) where
  put_past : (j : ScopeKind) (chain : List ScopeKind) → is_full j ≡ false → with_scope k (j ∷ chain) ≡ j ∷ with_scope k chain
  put_past j chain e = cond_false (is_full j) (k ∷ j ∷ chain) (j ∷ with_scope k chain) e

  marked_before : (mark : Bool) (j : ScopeKind) (rest : Bool) (a c : List ScopeKind) → cond mark true rest ≡ true → (rest ≡ true → a ≡ c)
      → cond mark [] (j ∷ a) ≡ cond mark [] (j ∷ c)
  marked_before true j rest a c e same = refl
  marked_before false j rest a c e same = ap (λ (z : List ScopeKind). j ∷ z) (same e)

  marked_behind : (mark : Bool) (rest : Bool) (chain a c : List ScopeKind) → cond mark true rest ≡ true → (rest ≡ true → a ≡ with_scope k c)
      → cond mark (with_scope k chain) a ≡ with_scope k (cond mark chain c)
  marked_behind true rest chain a c e same = refl
  marked_behind false rest chain a c e same = same e

  pub before_the_same : (owner : Owner) (chain : List ScopeKind) → ends_within owner chain ≡ true → before_mark owner (with_scope k chain) ≡ before_mark owner chain
  before_the_same owner [] e = refl
  before_the_same owner (j ∷ chain) e = ap (λ (z : List ScopeKind). before_mark owner z)
      (put_past j chain (other_so (is_full j) (cond (is_mark owner j) true (ends_within owner chain)) e))
      ∙ marked_before (is_mark owner j) j (ends_within owner chain) (before_mark owner (with_scope k chain)) (before_mark owner chain)
      (rest_so (is_full j) (cond (is_mark owner j) true (ends_within owner chain)) e) (λ i. before_the_same owner chain i)

  pub behind_the_same : (owner : Owner) (chain : List ScopeKind) → ends_within owner chain ≡ true → behind_mark owner (with_scope k chain) ≡ with_scope k (behind_mark owner chain)
  behind_the_same owner [] e = refl
  behind_the_same owner (j ∷ chain) e = ap (λ (z : List ScopeKind). behind_mark owner z)
      (put_past j chain (other_so (is_full j) (cond (is_mark owner j) true (ends_within owner chain)) e))
      ∙ marked_behind (is_mark owner j) (ends_within owner chain) chain (behind_mark owner (with_scope k chain)) (behind_mark owner chain)
      (rest_so (is_full j) (cond (is_mark owner j) true (ends_within owner chain)) e) (λ i. behind_the_same owner chain i)

  not_so : (b : Bool) → not b ≡ true → b ≡ false
  not_so true e = absurd cc
  not_so false e = refl

  pub next_the_same : (chain : List ScopeKind) → is_within chain ≡ true → scopes_behind (with_scope k chain) ≡ with_scope k (scopes_behind chain)
  next_the_same [] e = refl
  next_the_same (j ∷ chain) e = ap (λ (z : List ScopeKind). scopes_behind z) (put_past j chain (not_so (is_full j) e))

  -- the scope of elements is none of a full-expression
  each_by : (full : Bool) (each : Bool) (j : ScopeKind) (chain : List ScopeKind) → is_each k ≡ false → is_full j ≡ full → is_each j ≡ each → (full ≡ true → each ≡ false)
      → behind_each (cond full (k ∷ j ∷ chain) (j ∷ with_scope k chain)) ≡ with_scope k (cond each chain (j ∷ chain))
  each_by true true j chain n e i apart = absurd (differ (apart refl))
    where
      differ : true ≡ false → ⊥
      differ x = absurd cc
  each_by true false j chain n e i apart = cond_false (is_each k) (j ∷ chain) (k ∷ j ∷ chain) n ∙ sym (cond_true (is_full j) (k ∷ j ∷ chain) (j ∷ with_scope k chain) e)
  each_by false true j chain n e i apart = cond_true (is_each j) (with_scope k chain) (j ∷ with_scope k chain) i
  each_by false false j chain n e i apart = cond_false (is_each j) (with_scope k chain) (j ∷ with_scope k chain) i ∙ sym (put_past j chain e)

  apart_from : (j : ScopeKind) → is_full j ≡ true → is_each j ≡ false
  apart_from (EachScope node copies) e = absurd cc
  apart_from j e = refl

  pub each_the_same : (chain : List ScopeKind) → is_each k ≡ false → behind_each (with_scope k chain) ≡ with_scope k (behind_each chain)
  each_the_same [] n = refl
  each_the_same (j ∷ chain) n = each_by (is_full j) (is_each j) j chain n refl refl (λ e. apart_from j e)

module _ (g : Setting) (number : ℕ → ℕ) (always : Bool) (offset : ℕ) (id : TNodeId) (first : ℕ) where
  abbrev pub temporary : ScopeKind
  temporary = Waits OfFull always (InFrame offset) id first

  -- ---- heads

  call_scopes_so : {m n : Mode} {from to : List Item} (h : Calling g m from n to) (chain : List ScopeKind) → call_within g h chain ≡ true
      → call_scopes g h (with_scope temporary chain) ≡ with_scope temporary (call_scopes g h chain)
  call_scopes_so (words c n ids id way) chain e = refl
  call_scopes_so (bare_built_in id way) chain e = refl
  call_scopes_so h chain e = next_the_same temporary chain e

  making_scopes_so : {m n : Mode} {from to : List Item} (h : Making g m from n to) (chain : List ScopeKind) → making_within g h chain ≡ true
      → making_scopes g h (with_scope temporary chain) ≡ with_scope temporary (making_scopes g h chain)
  making_scopes_so (parts way ids at b) chain e = behind_the_same temporary OfParts chain e
  making_scopes_so (part id way ids at b) chain e = behind_the_same temporary OfParts chain e
  making_scopes_so (part_made id offset way ids at b is) chain e = behind_the_same temporary OfParts chain e
  making_scopes_so (each id c stride built way first scope b is i) chain e = each_the_same temporary chain refl
  making_scopes_so (element id c stride built way first scope b is i) chain e = each_the_same temporary chain refl
  making_scopes_so h chain e = refl

  closing_scopes_so : {m n : Mode} {from to : List Item} (h : Closing g m from n to) (chain : List ScopeKind) → closing_within g h chain ≡ true
      → closing_scopes g h (with_scope temporary chain) ≡ with_scope temporary (closing_scopes g h chain)
  closing_scopes_so (close_block all at) chain e = behind_the_same temporary OfBlock chain e
  closing_scopes_so (close_call at) chain e = behind_the_same temporary OfCall chain e
  closing_scopes_so (close_full at) chain e = absurd cc
  closing_scopes_so (cleaning owner at) chain e = behind_the_same temporary owner chain e

  plain_scopes_so : {m n : Mode} {from to : List Item} (h : Head g m from n to) (chain : List ScopeKind) → head_is_plain g h ≡ true
      → head_scopes g h (with_scope temporary chain) ≡ with_scope temporary (head_scopes g h chain)
  plain_scopes_so h chain e = head_stays g h e (with_scope temporary chain) ∙ ap (λ (z : List ScopeKind). with_scope temporary z) (sym (head_stays g h e chain))

  head_scopes_so : {m n : Mode} {from to : List Item} (h : Head g m from n to) (chain : List ScopeKind) → head_within g h chain ≡ true
      → head_scopes g h (with_scope temporary chain) ≡ with_scope temporary (head_scopes g h chain)
  head_scopes_so (expression h) chain e = refl
  head_scopes_so (calling h) chain e = call_scopes_so h chain e
  head_scopes_so (making h) chain e = making_scopes_so h chain e
  head_scopes_so (closing h) chain e = closing_scopes_so h chain e
  head_scopes_so (statement h) chain e = plain_scopes_so (statement h) chain e
  head_scopes_so (throwing h) chain e = plain_scopes_so (throwing h) chain e

  closing_same : {m n : Mode} {from to : List Item} (h : Closing g m from n to) (chain : List ScopeKind) → closing_within g h chain ≡ true
      → SameHead g (closing h) chain (with_scope temporary chain)
  closing_same (close_block all at) chain e = record {
    words_so = λ ts. ap (λ (z : List ScopeKind). firsts (words_of_all z) ts) (before_the_same temporary OfBlock chain e);
    count_so = ap (λ (z : List ScopeKind). words_of_all z) (before_the_same temporary OfBlock chain e);
  }
  closing_same (close_call at) chain e = record {
    words_so = λ ts. ap (λ (z : List ScopeKind). firsts (words_of_all z) ts) (before_the_same temporary OfCall chain e);
    count_so = ap (λ (z : List ScopeKind). words_of_all z) (before_the_same temporary OfCall chain e);
  }
  closing_same (close_full at) chain e = absurd cc
  closing_same (cleaning {m} owner at) chain e = record {
    words_so = λ ts. ap (λ (z : List ScopeKind). kept_words m ts ++ firsts (words_of_all z) (behind (kept_count m) ts)) (before_the_same temporary owner chain e);
    count_so = ap (λ (z : List ScopeKind). more_by (kept_count m) (words_of_all z)) (before_the_same temporary owner chain e);
  }

  head_same : {m n : Mode} {from to : List Item} (h : Head g m from n to) (chain : List ScopeKind) → head_within g h chain ≡ true
      → SameHead g h chain (with_scope temporary chain)
  head_same (expression h) chain e = record { words_so = λ ts. refl; count_so = refl }
  head_same (calling h) chain e = record { words_so = λ ts. refl; count_so = refl }
  head_same (making h) chain e = record { words_so = λ ts. refl; count_so = refl }
  head_same (closing h) chain e = closing_same h chain e
  head_same (statement h) chain e = plain_same g (statement h) e chain (with_scope temporary chain)
  head_same (throwing h) chain e = plain_same g (throwing h) e chain (with_scope temporary chain)

  making_frames_so : {m n : Mode} {from to : List Item} (h : Making g m from n to) (chain : List ScopeKind) → making_within g h chain ≡ true → (ts : List Term)
      → making_frames g number h (with_scope temporary chain) ts ≡ making_frames g number h chain ts
  making_frames_so (parts way ids at b) chain e ts = ap (λ (z : List ScopeKind). parts_over z) (before_the_same temporary OfParts chain e)
    where
      parts_over : List ScopeKind → List Frame
      parts_over z = Parts (trees_in g ids) (first_word ts) (second_word ts) ∷ Scope of_pieces false (part_waitings g z (first_word ts)) ∷ []
  making_frames_so (part id way ids at b) chain e ts = ap (λ (z : List ScopeKind). part_over z) (before_the_same temporary OfParts chain e)
    where
      part_over : List ScopeKind → List Frame
      part_over z = Run (into (first_word ts) (second_word ts)) (tree_in g id) ∷ Parts (trees_in g ids) (first_word ts) (second_word ts)
          ∷ Scope of_pieces false (part_waitings g z (first_word ts)) ∷ []
  making_frames_so (part_made id offset way ids at b is) chain e ts = ap (λ (z : List ScopeKind). made_over z) (before_the_same temporary OfParts chain e)
    where
      made_over : List ScopeKind → List Frame
      made_over z = WaitsFor of_pieces (at_word (plus_number (first_word ts) offset)) (trees_in g (kids_from (node_in g id) 1))
          ∷ Parts (trees_in g ids) (first_word ts) (second_word ts) ∷ Scope of_pieces false (part_waitings g z (first_word ts)) ∷ []
  making_frames_so h chain e ts = refl

  closing_frames_so : {m n : Mode} {from to : List Item} (h : Closing g m from n to) (outer others : List Waiting) (chain : List ScopeKind) → closing_within g h chain ≡ true
      → (ts : List Term) → closing_frames g h others (with_scope temporary chain) ts ≡ closing_frames g h outer chain ts
  closing_frames_so (close_block all at) outer others chain e ts =
      ap (λ (z : List ScopeKind). Scope of_block all (waitings g z ts) ∷ []) (before_the_same temporary OfBlock chain e)
  closing_frames_so (close_call at) outer others chain e ts =
      ap (λ (z : List ScopeKind). Scope of_call true (waitings g z ts) ∷ []) (before_the_same temporary OfCall chain e)
  closing_frames_so (close_full at) outer others chain e ts = absurd cc
  closing_frames_so (cleaning {m} owner at) outer others chain e ts =
      ap (λ (z : List ScopeKind). Cleans (waitings g z (behind (kept_count m) ts)) ∷ Gives (kept_value m ts) ∷ []) (before_the_same temporary owner chain e)

  head_frames_so : {m n : Mode} {from to : List Item} (h : Head g m from n to) (outer others : List Waiting) (chain : List ScopeKind) → head_within g h chain ≡ true
      → (es : List Exception) (ts : List Term) → head_frames g number h others (with_scope temporary chain) es ts ≡ head_frames g number h outer chain es ts
  head_frames_so (expression h) outer others chain e es ts = refl
  head_frames_so (calling h) outer others chain e es ts = refl
  head_frames_so (making h) outer others chain e es ts = making_frames_so h chain e ts
  head_frames_so (closing h) outer others chain e es ts = closing_frames_so h outer others chain e ts
  head_frames_so (statement h) outer others chain e es ts = head_frames_plain g number (statement h) e outer others chain (with_scope temporary chain) es ts
  head_frames_so (throwing h) outer others chain e es ts = head_frames_plain g number (throwing h) e outer others chain (with_scope temporary chain) es ts

  closing_temporaries_so : {m n : Mode} {from to : List Item} (h : Closing g m from n to) (chain : List ScopeKind) → closing_within g h chain ≡ true
      → (outer : List Waiting) (other : List ScopeKind) (ts : List Term) → head_temporaries g (closing h) outer other ts ≡ outer
  closing_temporaries_so (close_full at) chain e outer other ts = absurd cc
  closing_temporaries_so h chain e outer other ts = refl

  head_temporaries_so : {m n : Mode} {from to : List Item} (h : Head g m from n to) (chain : List ScopeKind) → head_within g h chain ≡ true
      → (outer : List Waiting) (other : List ScopeKind) (ts : List Term) → head_temporaries g h outer other ts ≡ outer
  head_temporaries_so (closing h) chain e outer other ts = closing_temporaries_so h chain e outer other ts
  head_temporaries_so h chain e outer other ts = refl

  -- ---- what is left

  module _ {m : Mode} {items : List Item} (d : Left g m items) (chain other : List ScopeKind) where
    pub record Widened : Type 0 where
      pub alike : Alike g d chain other
      pub frames_so : (es : List Exception) (ts : List Term) → frames g number d other es ts ≡ frames g number d chain es ts
      pub more : (ts : List Term) → temporaries g d other ts ≡ waiting_with g temporary [] ++ temporaries g d chain ts

  abbrev pub Wider : {m : Mode} {items : List Item} → Left g m items → List ScopeKind → Type 0
  Wider d chain = Widened d chain (with_scope temporary chain)

  wider_before : {m n : Mode} {from to : List Item} (h : Head g m from n to) (d : Left g n to) (chain : List ScopeKind) → head_within g h chain ≡ true
      → Wider d (head_scopes g h chain) → Wider (before h d) chain
  wider_before h d chain e w = record {
    alike = alike_before g h d chain (with_scope temporary chain) (head_same h chain e)
        (subst (λ (z : List ScopeKind). Alike g d (head_scopes g h chain) z) (sym (head_scopes_so h chain e)) w.alike);
    frames_so = λ es ts. ap₂ (λ (y z : List Frame). y ++ z)
        (head_frames_so h (temporaries g d (head_scopes g h chain) (behind (head_count g h chain) ts))
        (temporaries g d (head_scopes g h (with_scope temporary chain)) (behind (head_count g h (with_scope temporary chain)) ts)) chain e es ts)
        (ap₂ (λ (y : List ScopeKind) (z : ℕ). frames g number d y (exceptions_behind (head_exceptions g h) es) (behind z ts))
        (head_scopes_so h chain e) (head_same h chain e).count_so
        ∙ w.frames_so (exceptions_behind (head_exceptions g h) es) (behind (head_count g h chain) ts));
    more = λ ts. head_temporaries_so h chain e (temporaries g d (head_scopes g h (with_scope temporary chain)) (behind (head_count g h (with_scope temporary chain)) ts))
        (with_scope temporary chain) ts
        ∙ ap₂ (λ (y : List ScopeKind) (z : ℕ). temporaries g d y (behind z ts)) (head_scopes_so h chain e) (head_same h chain e).count_so
        ∙ w.more (behind (head_count g h chain) ts)
        ∙ ap (λ (z : List Waiting). waiting_with g temporary [] ++ z)
        (sym (head_temporaries_so h chain e (temporaries g d (head_scopes g h chain) (behind (head_count g h chain) ts)) chain ts));
  }

  -- at the end of the full-expression
  outermost_with : (chain : List ScopeKind) → is_outermost chain ≡ true → with_scope temporary chain ≡ temporary ∷ chain
  outermost_with [] e = absurd cc
  outermost_with (j ∷ chain) e = cond_true (is_full j) (temporary ∷ j ∷ chain) (j ∷ with_scope temporary chain) e

  full_wider : {m : Mode} {items : List Item} (d : Left g m items) (at : At) (chain : List ScopeKind) → is_outermost chain ≡ true → Wider (before (closing (close_full at)) d) chain
  full_wider d at chain e = subst (λ (z : List ScopeKind). Widened (before (closing (close_full at)) d) chain z) (sym (outermost_with chain e)) (record {
    alike = record { counted = refl; lying = λ ts. refl; known = λ ts. refl; held = λ es ts. refl };
    frames_so = λ es ts. refl;
    more = λ ts. refl;
  })

  closing_wider : {m n : Mode} {from to : List Item} (h : Closing g m from n to) (d : Left g n to) (chain : List ScopeKind) → is_in_full g (before (closing h) d) chain ≡ true
      → (is_in_full g d (closing_scopes g h chain) ≡ true → Wider d (closing_scopes g h chain)) → Wider (before (closing h) d) chain
  closing_wider (close_full at) d chain e next = full_wider d at chain e
  closing_wider h d chain e next = wider_before (closing h) d chain (first_of_both (closing_within g h chain) (is_in_full g d (closing_scopes g h chain)) e)
      (next (second_of_both (closing_within g h chain) (is_in_full g d (closing_scopes g h chain)) e))

  pub wider : {m : Mode} {items : List Item} (d : Left g m items) (chain : List ScopeKind) → is_in_full g d chain ≡ true → Wider d chain
  wider (body_ends at) chain e = absurd cc
  wider (before (closing h) d) chain e = closing_wider h d chain e (λ i. wider d (closing_scopes g h chain) i)
  wider (before h d) chain e = wider_before h d chain (first_of_both (head_within g h chain) (is_in_full g d (head_scopes g h chain)) e)
      (wider d (head_scopes g h chain) (second_of_both (head_within g h chain) (is_in_full g d (head_scopes g h chain)) e))
  wider (other_again o a c d) chain e = absurd cc
  wider (leave x cleans origin junk at d o) chain e = absurd cc
