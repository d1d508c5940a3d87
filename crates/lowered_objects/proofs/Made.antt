-- Objects that are made, and then wait: what is left is read otherwise after one silent step of the source.
use Rattle.std.proofs.Common.{ℕ, ◌≡◌, ◌+◌, ◌≤◌, ◌⊎◌, refl, ap, ap₂, sym, ◌∙◌, Bool, true, false, List, [], ◌∷◌, Some}
use Rattle.cpp_tree.specs.Trees.{Trees}
use Rattle.cpp_tree.specs.cpp_types.declared.classes.At.{At}
use Rattle.cpp_tree.specs.declared.arena.TNodeId.{TNodeId}
use Rattle.cpp_tree.specs.declared.kinds.TKind.TheVariants.{Local, Materialize}
use Rattle.tx_code.specs.declared.instr.Instr.TheVariants.{Dup, FrameAddr}
use Rattle.low_code.specs.declared.scopes.Owner.TheVariants.{Block as OfBlock, Call as OfCall, Full as OfFull}
use Rattle.low_code.specs.declared.scopes.Address.TheVariants.{Frame as InFrame, Word}
use Rattle.low_code.specs.declared.scopes.ScopeKind.{ScopeKind}
use Rattle.low_code.specs.declared.scopes.ScopeKind.TheVariants.{Waits}
use Rattle.low_code.specs.Nodes.{kid_in}
use Rattle.src_mean.specs.Linked.{Program}
use Rattle.src_mean.specs.Frames.{of_block, of_call}
use Rattle.symbolic_source.specs.Terms.{Term, number, local, Exception}
use Rattle.symbolic_source.specs.Frames.{at_word, Waiting, Frame, Scope, Items, waiting}
use Rattle.symbolic_source.specs.Outcomes.{Outcome}
use Rattle.symbolic_source.specs.Steps.{given, step_of, first_word}
use Rattle.symbolic_code.specs.Facts.{Fact}
use Rattle.body_check.specs.Notes.{Bounds, no_answers}
use Rattle.body_check.specs.Calls.{Book}
use Rattle.body_check.specs.Linked.{Held}
use Rattle.unwind_lower.specs.declared.items.Item.{Item}
use Rattle.unwind_lower.specs.declared.items.Way.TheVariants.{Dropped}
use Rattle.unwind_lower.specs.declared.items.Item.TheVariants.{Close, Put}
use Rattle.unwind_lower.specs.Settings.{Setting, node_in, place_in}
use Rattle.unwind_lower.specs.Kids.{kids_from}
use Rattle.lowered_frames.specs.Lists.{others, behind}
use Rattle.lowered_frames.specs.Modes.{Mode, gone, top, IsBare, built, all_run, tree_in, trees_in}
use Rattle.lowered_frames.specs.Chains.{before_mark, behind_mark, waitings, words_of_all}
use Rattle.lowered_frames.specs.Expressions.{run, gives_local}
use Rattle.lowered_frames.specs.Objects.{temporary_made, argument_made, init_plain, plain_made, init_variable, variable_made, init_member, init_doubled, member_made}
use Rattle.lowered_frames.specs.Closings.{close_block}
use Rattle.lowered_frames.specs.Statements.{rest_of_block}
use Rattle.lowered_frames.specs.Left.{Left, before, expression, making, closing, statement, frames, temporaries, count}
use Rattle.lowered_notes.specs.Canonical.{numbers_of}
use Rattle.lowered_notes.proofs.Terms.{others_so}
use Rattle.lowered_notes.proofs.KindNumbers.{same_itself}
use Rattle.lowered_steps.specs.Ahead.{Fitting, Ahead, Filled, AlwaysRereads}
use Rattle.lowered_steps.proofs.Landings.{quiet_landing}
use Rattle.lowered_objects.specs.Scopes.{receives, with_scope, is_in_full}
use Rattle.lowered_objects.proofs.Alike.{filled_alike, place_alike}
use Rattle.lowered_objects.proofs.Received.{Received, received}
use Rattle.lowered_objects.proofs.Temporaries.{Wider, wider}
use Rattle.lowered_objects.proofs.Lists.{others_told, trees_more, trees_none, put_into_its, put_nowhere, plus_none}

module _ (p : Program) (b : Bounds) (book : Book) (h : Held) (g : Setting) where
  abbrev stepped : Outcome → Outcome
  stepped = step_of p h.func no_answers

  -- ---- initialisations: the node is run, and then the object waits

  pub init_plain_reads : {items : List Item} (d : Left g gone items) (chain : List ScopeKind) (id : TNodeId) (e : kids_from (node_in g id) 2 ≡ [])
      → AlwaysRereads p b book h g (before (making (init_plain id e)) d) chain
      (before (expression (run (kid_in (node_in g id).kids 1) _ built)) (before (making plain_made) d)) chain stepped
  init_plain_reads d chain id e v es ts known f = record {
    value = number 0;
    exceptions = es;
    terms = v ∷ number 0 ∷ v ∷ ts;
    filled = record { all = f.all; so = f.so; types = f.types; knows = f.knows; comes = tt };
    told = λ one all. (refl, (one, (refl, (one, all))));
    place_is = refl;
    outcome_is = refl;
  }

  pub plain_made_reads : {items : List Item} (d : Left g gone items) (chain : List ScopeKind) → AlwaysRereads p b book h g (before (making plain_made) d) chain d chain stepped
  plain_made_reads d chain v es ts known f = record {
    value = v;
    exceptions = es;
    terms = others ts;
    filled = record { all = f.all; so = others_so (count g d chain) ts f.so; types = f.types; knows = f.knows; comes = tt };
    told = λ one all. (one, others_told ts all);
    place_is = refl;
    outcome_is = refl;
  }

  pub init_variable_reads : {items : List Item} (d : Left g gone items) (chain : List ScopeKind) (id : TNodeId) (place : ℕ)
      (is : (node_in g (kid_in (node_in g id).kids 0)).kind ≡ Local place)
      → AlwaysRereads p b book h g (before (making (init_variable id place is)) d) chain
      (before (expression (run (kid_in (node_in g id).kids 1) _ built)) (before (making (variable_made id place is)) d)) chain stepped
  init_variable_reads d chain id place is v es ts known f = record {
    value = number 0;
    exceptions = es;
    terms = local (place_in g place) ∷ number 0 ∷ ts;
    filled = record { all = f.all; so = f.so; types = f.types; knows = f.knows; comes = tt };
    told = λ one all. (refl, (same_itself (place_in g place), (refl, all)));
    place_is = refl;
    outcome_is = refl;
  }

  pub init_member_fits : {items : List Item} (d : Left g gone items) (chain : List ScopeKind) (id : TNodeId) (at : At) (v : Term) (es : List Exception) (ts : List Term)
      (known : List Fact) (lead rank index after : ℕ) → Filled p b book h g (before (making (init_member id at)) d) chain v es ts known
      → Ahead p b book h g (before (making (init_doubled id)) d) chain (index + 1) after → lead + 0 ≤ b.longest → ((1 ≤ lead + 0) ⊎ (after + 1 ≤ rank))
      → Fitting p b book h g (before (making (init_member id at)) d) chain v es ts known lead rank index Dup
  init_member_fits d chain id at v es ts known lead rank index after f a short on =
      quiet_landing p b book h g (before (making (init_doubled id)) d) chain v es ts known
      (record { all = f.all; so = f.so; types = f.types; knows = f.knows; comes = tt }) lead 0 rank (index + 1) after a short on _ _ refl refl

  pub init_doubled_reads : {items : List Item} (d : Left g gone items) (chain : List ScopeKind) (id : TNodeId)
      → AlwaysRereads p b book h g (before (making (init_doubled id)) d) chain
      (before (expression (run (kid_in (node_in g id).kids 1) _ built)) (before (making (member_made id)) d)) chain stepped
  init_doubled_reads d chain id v es ts known f = record {
    value = number 0;
    exceptions = es;
    terms = v ∷ number 0 ∷ v ∷ ts;
    filled = record { all = f.all; so = f.so; types = f.types; knows = f.knows; comes = tt };
    told = λ one all. (refl, (one, (refl, (one, all))));
    place_is = refl;
    outcome_is = refl;
  }

  -- ---- objects that wait from then on

  -- a part in a constructor, whose address lies on the stack
  module _ {m : Mode} {items : List Item} (d : Left g m items) (chain : List ScopeKind) (id : TNodeId) (ids : List TNodeId) (bare : IsBare m) (always : Bool) (at : At)
      (c : TNodeId) (cs : List TNodeId) (some : kids_from (node_in g id) 2 ≡ c ∷ cs) where
    abbrev member_waits : ScopeKind
    member_waits = Waits OfBlock false (Word 0) id 2

    abbrev rest_of_members : Left g gone (all_run Dropped ids (Close OfBlock at ∷ items))
    rest_of_members = before (statement (rest_of_block ids bare)) (before (closing (close_block always at)) d)

    pub member_made_reads : AlwaysRereads p b book h g (before (making (member_made id)) rest_of_members) chain rest_of_members (member_waits ∷ chain) stepped
    member_made_reads v es ts known f = record {
      value = v;
      exceptions = es;
      terms = ts;
      filled = record { all = f.all; so = f.so; types = f.types; knows = f.knows; comes = tt };
      told = λ one all. (one, all);
      place_is = refl;
      outcome_is = put_into_its p h.func no_answers (temporaries g rest_of_members chain (others ts)) v of_block (at_word (first_word ts))
          (trees_in g (kids_from (node_in g id) 2)) (frames g (numbers_of p h.func g) rest_of_members chain es (others ts))
          (frames g (numbers_of p h.func g) rest_of_members (member_waits ∷ chain) es ts) (tree_in g c) (trees_in g cs) (trees_more g _ c cs some)
          (ap (λ (z : Term). Some (Items (trees_in g ids)
          ∷ Scope of_block always (record { address = at_word z; destroys = trees_in g (kids_from (node_in g id) 2) }
          ∷ waitings g (before_mark OfBlock chain) (others ts))
          ∷ frames g (numbers_of p h.func g) d (behind_mark OfBlock chain) es (behind (words_of_all (before_mark OfBlock chain)) (others ts))))
          (sym (plus_none (first_word ts))));
    }

  -- a variable
  module _ {items : List Item} (d : Left g gone items) (chain : List ScopeKind) (id : TNodeId) (place : ℕ) (is : (node_in g (kid_in (node_in g id).kids 0)).kind ≡ Local place)
      (c : TNodeId) (cs : List TNodeId) (some : kids_from (node_in g id) 2 ≡ c ∷ cs) (receiving : receives g OfBlock d ≡ true) where
    abbrev variable_waits : ScopeKind
    variable_waits = Waits OfBlock true (InFrame (place_in g place)) id 2

    variable_received : Received g (numbers_of p h.func g) OfBlock true (InFrame (place_in g place)) id 2 refl d chain
    variable_received = received g (numbers_of p h.func g) true (InFrame (place_in g place)) id 2 refl OfBlock d chain receiving

    pub variable_made_reads : AlwaysRereads p b book h g (before (making (variable_made id place is)) d) chain d (variable_waits ∷ chain) stepped
    variable_made_reads v es ts known f = record {
      value = v;
      exceptions = es;
      terms = ts;
      filled = filled_alike p b book h g d chain (variable_waits ∷ chain) variable_received.alike v es ts known
          (record { all = f.all; so = f.so; types = f.types; knows = f.knows; comes = f.comes });
      told = λ one all. (one, all);
      place_is = place_alike p b book h g d chain (variable_waits ∷ chain) variable_received.alike v es ts;
      outcome_is = put_into_its p h.func no_answers (temporaries g d chain ts) v of_block (at_word (local (place_in g place))) (trees_in g (kids_from (node_in g id) 2))
          (frames g (numbers_of p h.func g) d chain es ts) (frames g (numbers_of p h.func g) d (variable_waits ∷ chain) es ts)
          (tree_in g c) (trees_in g cs) (trees_more g _ c cs some) (variable_received.put es ts)
          ∙ ap (λ (z : List Waiting). given p h.func no_answers z v (frames g (numbers_of p h.func g) d (variable_waits ∷ chain) es ts)) (sym (variable_received.temporaries_so ts));
    }

  -- an argument
  module _ {items : List Item} (d : Left g top items) (chain : List ScopeKind) (id : TNodeId) (place : ℕ) (at : At) (is : (node_in g id).kind ≡ Materialize place true) where
    abbrev argument_waits : ScopeKind
    argument_waits = Waits OfCall true (InFrame (place_in g place)) id 1

    abbrev argument_ahead : Left g gone (Put (FrameAddr (place_in g place)) at ∷ items)
    argument_ahead = before (expression (gives_local (place_in g place) at)) d

    module _ (c : TNodeId) (cs : List TNodeId) (some : kids_from (node_in g id) 1 ≡ c ∷ cs) (receiving : receives g OfCall d ≡ true) where
      argument_received : Received g (numbers_of p h.func g) OfCall true (InFrame (place_in g place)) id 1 refl argument_ahead chain
      argument_received = received g (numbers_of p h.func g) true (InFrame (place_in g place)) id 1 refl OfCall argument_ahead chain receiving

      pub argument_made_reads : AlwaysRereads p b book h g (before (making (argument_made id place at is)) d) chain argument_ahead (argument_waits ∷ chain) stepped
      argument_made_reads v es ts known f = record {
        value = v;
        exceptions = es;
        terms = ts;
        filled = filled_alike p b book h g argument_ahead chain (argument_waits ∷ chain) argument_received.alike v es ts known
            (record { all = f.all; so = f.so; types = f.types; knows = f.knows; comes = f.comes });
        told = λ one all. (one, all);
        place_is = place_alike p b book h g argument_ahead chain (argument_waits ∷ chain) argument_received.alike v es ts;
        outcome_is = put_into_its p h.func no_answers (temporaries g d chain ts) v of_call (at_word (local (place_in g place))) (trees_in g (kids_from (node_in g id) 1))
            (frames g (numbers_of p h.func g) argument_ahead chain es ts) (frames g (numbers_of p h.func g) argument_ahead (argument_waits ∷ chain) es ts)
            (tree_in g c) (trees_in g cs) (trees_more g _ c cs some) (argument_received.put es ts)
            ∙ ap (λ (z : List Waiting). given p h.func no_answers z v (frames g (numbers_of p h.func g) argument_ahead (argument_waits ∷ chain) es ts))
            (sym (argument_received.temporaries_so ts));
      }

    -- one that needs no destruction
    module _ (none_is : kids_from (node_in g id) 1 ≡ []) where
      pub argument_simple_reads : AlwaysRereads p b book h g (before (making (argument_made id place at is)) d) chain argument_ahead chain stepped
      argument_simple_reads v es ts known f = record {
        value = v;
        exceptions = es;
        terms = ts;
        filled = record { all = f.all; so = f.so; types = f.types; knows = f.knows; comes = f.comes };
        told = λ one all. (one, all);
        place_is = refl;
        outcome_is = put_nowhere p h.func no_answers (temporaries g d chain ts) v of_call (at_word (local (place_in g place))) (trees_in g (kids_from (node_in g id) 1))
            (frames g (numbers_of p h.func g) argument_ahead chain es ts) (frames g (numbers_of p h.func g) argument_ahead chain es ts) (trees_none g _ none_is);
      }

  -- ---- temporaries

  module _ {items : List Item} (d : Left g top items) (chain : List ScopeKind) (id : TNodeId) (place : ℕ) (at : At) (is : (node_in g id).kind ≡ Materialize place false) where
    abbrev temporary_waits : ScopeKind
    temporary_waits = Waits OfFull true (InFrame (place_in g place)) id 1

    abbrev temporary_ahead : Left g gone (Put (FrameAddr (place_in g place)) at ∷ items)
    temporary_ahead = before (expression (gives_local (place_in g place) at)) d

    module _ (c : TNodeId) (cs : List TNodeId) (some : kids_from (node_in g id) 1 ≡ c ∷ cs) (within : is_in_full g d chain ≡ true) where
      widened : Wider g (numbers_of p h.func g) true (place_in g place) id 1 temporary_ahead chain
      widened = wider g (numbers_of p h.func g) true (place_in g place) id 1 temporary_ahead chain within

      abbrev around : List ScopeKind
      around = with_scope temporary_waits chain

      pub temporary_made_reads : AlwaysRereads p b book h g (before (making (temporary_made id place at is)) d) chain temporary_ahead around stepped
      temporary_made_reads v es ts known f = record {
        value = v;
        exceptions = es;
        terms = ts;
        filled = filled_alike p b book h g temporary_ahead chain around widened.alike v es ts known
            (record { all = f.all; so = f.so; types = f.types; knows = f.knows; comes = f.comes });
        told = λ one all. (one, all);
        place_is = place_alike p b book h g temporary_ahead chain around widened.alike v es ts;
        outcome_is = ap (λ (z : Trees). given p h.func no_answers (waiting (at_word (local (place_in g place))) z (temporaries g d chain ts)) (local (place_in g place))
            (frames g (numbers_of p h.func g) d chain es ts)) (trees_more g _ c cs some)
            ∙ ap (λ (z : Trees). given p h.func no_answers (record { address = at_word (local (place_in g place)); destroys = z } ∷ temporaries g d chain ts)
            (local (place_in g place)) (frames g (numbers_of p h.func g) d chain es ts)) (sym (trees_more g _ c cs some))
            ∙ ap₂ (λ (y : List Waiting) (z : List Frame). given p h.func no_answers y v z) (sym (widened.more ts)) (sym (widened.frames_so es ts));
      }

    -- one that needs no destruction
    module _ (none_is : kids_from (node_in g id) 1 ≡ []) where
      pub temporary_simple_reads : AlwaysRereads p b book h g (before (making (temporary_made id place at is)) d) chain temporary_ahead chain stepped
      temporary_simple_reads v es ts known f = record {
        value = v;
        exceptions = es;
        terms = ts;
        filled = record { all = f.all; so = f.so; types = f.types; knows = f.knows; comes = f.comes };
        told = λ one all. (one, all);
        place_is = refl;
        outcome_is = ap (λ (z : Trees). given p h.func no_answers (waiting (at_word (local (place_in g place))) z (temporaries g d chain ts)) (local (place_in g place))
            (frames g (numbers_of p h.func g) d chain es ts)) (trees_none g _ none_is);
      }
