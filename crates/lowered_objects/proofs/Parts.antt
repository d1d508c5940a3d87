-- Objects that are made part by part, and element by element.
use Rattle.std.proofs.Common.{ℕ, ◌≡◌, ◌+◌, ◌^◌, ◌≤◌, ◌⊎◌, refl, ap, ap₂, ◌∙◌, true, false, List, [], ◌∷◌, nat_lt}
use Rattle.std.specs.Prelude.{length}
use Rattle.cpp_tree.specs.Trees.{Tree, Trees, node}
use Rattle.cpp_tree.specs.cpp_types.Typ.{Typ}
use Rattle.cpp_tree.specs.cpp_types.declared.ranks.Cat.{Cat}
use Rattle.cpp_tree.specs.cpp_types.declared.classes.At.{At}
use Rattle.cpp_tree.specs.declared.arena.TNodeId.{TNodeId}
use Rattle.cpp_tree.specs.declared.kinds.TKind.TheVariants.{Piece}
use Rattle.tx_code.specs.declared.instr.Instr.TheVariants.{Pop}
use Rattle.low_code.specs.declared.scopes.Owner.TheVariants.{Parts as OfParts}
use Rattle.low_code.specs.declared.scopes.Address.TheVariants.{Word}
use Rattle.low_code.specs.declared.scopes.ScopeKind.{ScopeKind}
use Rattle.low_code.specs.declared.scopes.ScopeKind.TheVariants.{Waits}
use Rattle.low_code.specs.Nodes.{kid_in}
use Rattle.src_mean.specs.Linked.{Program}
use Rattle.src_mean.specs.Frames.{of_pieces}
use Rattle.symbolic_source.specs.Terms.{Term, number, plus_number, Exception}
use Rattle.symbolic_source.specs.Frames.{at_word, into, Parts, Scope, Run as RunNode, Waits as WaitsFor}
use Rattle.symbolic_source.specs.Outcomes.{Outcome}
use Rattle.symbolic_source.specs.Steps.{given, step_of, first_word, second_word}
use Rattle.symbolic_source.specs.Small.{is_stuck}
use Rattle.symbolic_code.specs.Facts.{Fact}
use Rattle.body_check.specs.Notes.{Bounds, no_answers}
use Rattle.body_check.specs.Calls.{Book}
use Rattle.body_check.specs.Linked.{Held}
use Rattle.unwind_lower.specs.declared.items.Way.{Way}
use Rattle.unwind_lower.specs.declared.items.Way.TheVariants.{Into, Copying}
use Rattle.unwind_lower.specs.declared.items.Item.{Item}
use Rattle.unwind_lower.specs.Settings.{Setting, node_in}
use Rattle.unwind_lower.specs.Kids.{kids_from}
use Rattle.lowered_frames.specs.Lists.{behind}
use Rattle.lowered_frames.specs.Modes.{gone, built, copied, tree_in, trees_in}
use Rattle.lowered_frames.specs.Expressions.{run}
use Rattle.lowered_frames.specs.Chains.{before_mark, behind_mark, part_waitings}
use Rattle.lowered_frames.specs.Objects.{Builds, parts, part, part_made}
use Rattle.lowered_frames.specs.Left.{Left, before, expression, making, frames, temporaries, count}
use Rattle.lowered_frames.proofs.Trees.{first_is, rest_is}
use Rattle.lowered_notes.specs.Canonical.{numbers_of}
use Rattle.lowered_notes.specs.Straight.{moves, doubled, copied as over}
use Rattle.lowered_steps.specs.Ahead.{standing, comes_of, Fitting, FitsAfter, Ahead, Filled, AlwaysRereads}
use Rattle.lowered_steps.proofs.Landings.{quiet_landing}
use Rattle.lowered_objects.specs.Passing.{Passes, part_instrs}
use Rattle.lowered_objects.proofs.Passing.{joined, offset_moves}
use Rattle.lowered_objects.proofs.Lists.{behind_two, trees_more, trees_none, put_into_its, put_nowhere}

module _ (p : Program) (b : Bounds) (book : Book) (h : Held) (g : Setting) where
  abbrev stepped : Outcome → Outcome
  stepped = step_of p h.func no_answers

  -- ---- parts

  module _ {items : List Item} (d : Left g gone items) (chain : List ScopeKind) (at : At) where
    pub next_part_reads : (way : Way) (bs : Builds way) (id : TNodeId) (ids : List TNodeId)
        → AlwaysRereads p b book h g (before (making (parts way (id ∷ ids) at bs)) d) chain (before (making (part id way ids at bs)) d) chain stepped
    next_part_reads way bs id ids v es ts known f = record {
      value = number 0;
      exceptions = es;
      terms = ts;
      filled = record { all = f.all; so = f.so; types = f.types; knows = f.knows; comes = tt };
      told = λ one all. (refl, all);
      place_is = refl;
      outcome_is = ap (λ (z : Trees). stepped (given p h.func no_answers (temporaries g d (behind_mark OfParts chain) (behind 2 ts)) v
          (Parts z (first_word ts) (second_word ts) ∷ Scope of_pieces false (part_waitings g (before_mark OfParts chain) (first_word ts))
          ∷ frames g (numbers_of p h.func g) d (behind_mark OfParts chain) es (behind 2 ts)))) (trees_more g (id ∷ ids) id ids refl);
    }

    module _ (way : Way) (bs : Builds way) (id : TNodeId) (offset : ℕ) (is : (node_in g id).kind ≡ Piece offset) (ids : List TNodeId) where
      -- a part that waits for an exception
      abbrev part_waits : ScopeKind
      part_waits = Waits OfParts false (Word offset) id 1

      pub part_made_reads : (c : TNodeId) (cs : List TNodeId) → kids_from (node_in g id) 1 ≡ c ∷ cs
          → AlwaysRereads p b book h g (before (making (part_made id offset way ids at bs is)) d) chain (before (making (parts way ids at bs)) d) (part_waits ∷ chain) stepped
      part_made_reads c cs some v es ts known f = record {
        value = v;
        exceptions = es;
        terms = ts;
        filled = record { all = f.all; so = f.so; types = f.types; knows = f.knows; comes = tt };
        told = λ one all. (one, all);
        place_is = refl;
        outcome_is = put_into_its p h.func no_answers (temporaries g d (behind_mark OfParts chain) (behind 2 ts)) v of_pieces (at_word (plus_number (first_word ts) offset))
            (trees_in g (kids_from (node_in g id) 1)) (frames g (numbers_of p h.func g) (before (making (parts way ids at bs)) d) chain es ts)
            (frames g (numbers_of p h.func g) (before (making (parts way ids at bs)) d) (part_waits ∷ chain) es ts)
            (tree_in g c) (trees_in g cs) (trees_more g _ c cs some) refl;
      }

      -- one that needs no destruction
      pub part_simple_reads : kids_from (node_in g id) 1 ≡ []
          → AlwaysRereads p b book h g (before (making (part_made id offset way ids at bs is)) d) chain (before (making (parts way ids at bs)) d) chain stepped
      part_simple_reads simple v es ts known f = record {
        value = v;
        exceptions = es;
        terms = ts;
        filled = record { all = f.all; so = f.so; types = f.types; knows = f.knows; comes = tt };
        told = λ one all. (one, all);
        place_is = refl;
        outcome_is = put_nowhere p h.func no_answers (temporaries g d (behind_mark OfParts chain) (behind 2 ts)) v of_pieces (at_word (plus_number (first_word ts) offset))
            (trees_in g (kids_from (node_in g id) 1)) (frames g (numbers_of p h.func g) (before (making (parts way ids at bs)) d) chain es ts)
            (frames g (numbers_of p h.func g) (before (making (parts way ids at bs)) d) chain es ts) (trees_none g _ simple);
      }

    -- behind the last part the source has left its scope after one step
    pub parts_done : (way : Way) (bs : Builds way) (v : Term) (es : List Exception) (ts : List Term)
        → stepped (comes_of p b book h g (before (making (parts way [] at bs)) d) chain v es ts)
        ≡ comes_of p b book h g d (behind_mark OfParts chain) v es (behind 2 ts)
    parts_done way bs v es ts = ap (λ (z : Trees). stepped (given p h.func no_answers (temporaries g d (behind_mark OfParts chain) (behind 2 ts)) v
        (Parts z (first_word ts) (second_word ts) ∷ Scope of_pieces false (part_waitings g (before_mark OfParts chain) (first_word ts))
        ∷ frames g (numbers_of p h.func g) d (behind_mark OfParts chain) es (behind 2 ts)))) (trees_none g [] refl)

    -- the address is taken
    pub parts_end_fits : (v : Term) (es : List Exception) (ts : List Term) (known : List Fact) (lead rank index after : ℕ)
        → Filled p b book h g (before (making (parts Into [] at tt)) d) chain v es ts known
        → Ahead p b book h g d (behind_mark OfParts chain) (index + 1) after → lead + 0 ≤ b.longest → ((1 ≤ lead + 0) ⊎ (after + 1 ≤ rank))
        → FitsAfter p b book h g (before (making (parts Into [] at tt)) d) chain v es ts known 1 lead rank index Pop
    parts_end_fits v es ts known lead rank index after f a short on = record {
      foreseen = ap (λ (z : Outcome). is_stuck z) (parts_done Into tt v es ts) ∙ a.going no_answers v es (behind 2 ts) tt;
      fits = quiet_landing p b book h g d (behind_mark OfParts chain) v es (behind 2 ts) known
          (record { all = f.all; so = behind_two (count g d (behind_mark OfParts chain)) ts f.so; types = f.types; knows = f.knows; comes = tt })
          lead 0 rank (index + 1) after a short on _ _ refl (parts_done Into tt v es ts);
    }

    -- before, that of what was copied
    pub copied_parts_end_fits : (v : Term) (es : List Exception) (ts : List Term) (known : List Fact) (lead rank index after : ℕ)
        → Filled p b book h g (before (making (parts Copying [] at tt)) d) chain v es ts known
        → Ahead p b book h g (before (making (parts Into [] at tt)) d) chain (index + 1) after → lead + 0 ≤ b.longest → ((1 ≤ lead + 0) ⊎ (after + 1 ≤ rank))
        → Fitting p b book h g (before (making (parts Copying [] at tt)) d) chain v es ts known lead rank index Pop
    copied_parts_end_fits v es ts known lead rank index after f a short on =
        quiet_landing p b book h g (before (making (parts Into [] at tt)) d) chain v es ts known
        (record { all = f.all; so = f.so; types = f.types; knows = f.knows; comes = tt }) lead 0 rank (index + 1) after a short on _ _ refl refl

  -- ---- a part: its address comes on top

  module _ {items : List Item} (d : Left g gone items) (chain : List ScopeKind) (at : At) (id : TNodeId) (offset : ℕ) (kind : (node_in g id).kind ≡ Piece offset)
      (small : nat_lt offset (2 ^ 64) ≡ true) (t : Typ) (cat : Cat) (place : At)
      (is : tree_in g id ≡ node (Piece offset) t cat place (trees_in g (node_in g id).kids)) (some : 1 ≤ length (node_in g id).kids) (ids : List TNodeId)
      (v : Term) (es : List Exception) (ts : List Term) (known : List Fact) where
    part_comes : (way : Way) (bs : Builds way) → stepped (comes_of p b book h g (before (making (part id way ids at bs)) d) chain v es ts)
        ≡ given p h.func no_answers (temporaries g d (behind_mark OfParts chain) (behind 2 ts)) (number 0)
        (RunNode (into (plus_number (first_word ts) offset) (plus_number (second_word ts) offset)) (tree_in g (kid_in (node_in g id).kids 0))
        ∷ WaitsFor of_pieces (at_word (plus_number (first_word ts) offset)) (trees_in g (kids_from (node_in g id) 1))
        ∷ Parts (trees_in g ids) (first_word ts) (second_word ts) ∷ Scope of_pieces false (part_waitings g (before_mark OfParts chain) (first_word ts))
        ∷ frames g (numbers_of p h.func g) d (behind_mark OfParts chain) es (behind 2 ts))
    part_comes way bs = ap (λ (z : Tree). stepped (given p h.func no_answers (temporaries g d (behind_mark OfParts chain) (behind 2 ts)) v
        (RunNode (into (first_word ts) (second_word ts)) z ∷ Parts (trees_in g ids) (first_word ts) (second_word ts)
        ∷ Scope of_pieces false (part_waitings g (before_mark OfParts chain) (first_word ts))
        ∷ frames g (numbers_of p h.func g) d (behind_mark OfParts chain) es (behind 2 ts)))) is
        ∙ ap₂ (λ (y : Tree) (z : Trees). given p h.func no_answers (temporaries g d (behind_mark OfParts chain) (behind 2 ts)) (number 0)
        (RunNode (into (plus_number (first_word ts) offset) (plus_number (second_word ts) offset)) y
        ∷ WaitsFor of_pieces (at_word (plus_number (first_word ts) offset)) z
        ∷ Parts (trees_in g ids) (first_word ts) (second_word ts) ∷ Scope of_pieces false (part_waitings g (before_mark OfParts chain) (first_word ts))
        ∷ frames g (numbers_of p h.func g) d (behind_mark OfParts chain) es (behind 2 ts))) (first_is g (node_in g id).kids some) (rest_is g (node_in g id).kids)

    abbrev part_terms : List Term
    part_terms = plus_number (first_word ts) offset ∷ plus_number (second_word ts) offset ∷ first_word ts ∷ second_word ts ∷ behind 2 ts

    pub part_passes : Filled p b book h g (before (making (part id Into ids at tt)) d) chain v es ts known
        → Passes p b book h g (standing p b book h g (before (making (part id Into ids at tt)) d) chain v es ts)
        (comes_of p b book h g (before (making (part id Into ids at tt)) d) chain v es ts)
        (before (expression (run (kid_in (node_in g id).kids 0) Into built)) (before (making (part_made id offset Into ids at tt kind)) d)) chain 1 known (part_instrs Into offset)
    part_passes f = record {
      value = number 0;
      exceptions = es;
      terms = part_terms;
      filled = record { all = f.all; so = behind_two (count g d (behind_mark OfParts chain)) ts f.so; types = f.types; knows = f.knows; comes = tt };
      moved = moves (doubled (first_word ts)) (offset_moves known offset small (first_word ts) _);
      place_is = refl;
      outcome_is = part_comes Into tt;
    }

    pub copied_part_passes : Filled p b book h g (before (making (part id Copying ids at tt)) d) chain v es ts known
        → Passes p b book h g (standing p b book h g (before (making (part id Copying ids at tt)) d) chain v es ts)
        (comes_of p b book h g (before (making (part id Copying ids at tt)) d) chain v es ts)
        (before (expression (run (kid_in (node_in g id).kids 0) Copying copied)) (before (making (part_made id offset Copying ids at tt kind)) d)) chain 1 known
        (part_instrs Copying offset)
    copied_part_passes f = record {
      value = number 0;
      exceptions = es;
      terms = part_terms;
      filled = record { all = f.all; so = behind_two (count g d (behind_mark OfParts chain)) ts f.so; types = f.types; knows = f.knows; comes = tt };
      moved = moves (over (first_word ts) (second_word ts)) (joined (offset_moves known offset small (first_word ts) _)
          (moves (over (second_word ts) (plus_number (first_word ts) offset)) (offset_moves known offset small (second_word ts) _)));
      place_is = refl;
      outcome_is = part_comes Copying tt;
    }
