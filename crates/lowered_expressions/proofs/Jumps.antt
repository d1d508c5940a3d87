-- Conditionals: the jump to the second branch, and that over it.
use Rattle.std.proofs.Common.{ℕ, ◌+◌, ◌≤◌, inl, inr, refl, List, ◌∷◌}
use Rattle.tx_code.specs.declared.instr.Instr.TheVariants.{Jump, JumpZero}
use Rattle.cpp_tree.specs.declared.arena.TNodeId.{TNodeId}
use Rattle.low_code.specs.declared.scopes.ScopeKind.{ScopeKind}
use Rattle.low_code.specs.Nodes.{kid_in}
use Rattle.src_mean.specs.Linked.{Program}
use Rattle.symbolic_source.specs.Terms.{Term, number, Exception}
use Rattle.symbolic_source.specs.Frames.{Frame, Run}
use Rattle.symbolic_source.specs.Outcomes.{Outcome, silent, goes}
use Rattle.symbolic_code.specs.Facts.{Fact, not_zero}
use Rattle.symbolic_code.specs.Places.{Place, with_operands}
use Rattle.body_check.specs.Notes.{Bounds, LandsOn}
use Rattle.body_check.specs.Calls.{Book}
use Rattle.body_check.specs.Linked.{Held}
use Rattle.unwind_lower.specs.declared.items.Item.{Item}
use Rattle.unwind_lower.specs.declared.items.Other.{Other as OtherPart}
use Rattle.unwind_lower.specs.declared.items.Way.{Way}
use Rattle.unwind_lower.specs.Settings.{Setting, node_in}
use Rattle.lowered_frames.specs.Lists.{behind}
use Rattle.lowered_frames.specs.Modes.{Mode, top, After, way_with, way_count, tree_in}
use Rattle.lowered_frames.specs.Expressions.{run, branch, other}
use Rattle.lowered_frames.specs.Left.{Left, other_again, behind_end, frames, temporaries, below}
use Rattle.lowered_notes.specs.Canonical.{numbers_of}
use Rattle.lowered_steps.specs.Ahead.{IsTold, standing, comes_of, Fitting, Ahead, Filled, AlwaysRereads}
use Rattle.lowered_steps.proofs.Landings.{quiet_landing}
use Rattle.lowered_steps.proofs.Readings.{read_landing}
use Rattle.lowered_steps.proofs.Events.{branch_goes}
use Rattle.lowered_expressions.specs.Heads.{led}

-- what is left is read as it is
module _ (p : Program) (b : Bounds) (book : Book) (h : Held) (g : Setting) {m : Mode} {items : List Item} (d : Left g m items) (chain : List ScopeKind) where
  as_it_is : AlwaysRereads p b book h g d chain d chain (λ (z : Outcome). z)
  as_it_is v es ts known f = record { value = v; exceptions = es; terms = ts; filled = f; told = λ t u. (t, u); place_is = refl; outcome_is = refl }

module _ (p : Program) (b : Bounds) (book : Book) (h : Held) (g : Setting) (chain : List ScopeKind) (es : List Exception) (ts : List Term) (known : List Fact)
    (lead rank index target : ℕ) where
  -- a test decides which branch is run; each stands, and goes on, as it does in front of what is left behind
  module _ {m : Mode} {items : List Item} (d : Left g m items) (id : TNodeId) (way : Way) (x : After (node_in g (kid_in (node_in g id).kids 1)) way m)
      (y : After (node_in g (kid_in (node_in g id).kids 2)) way m) (v : Term) (told : IsTold v) where
    abbrev tested : Left g top (Item.Branch id way ∷ items)
    tested = led (branch id way x y) d

    -- where the branches begin, and what the source does then
    abbrev pub fork : Place
    fork = with_operands (standing p b book h g tested chain v es ts) (below g tested chain ts)

    abbrev run_frames : ℕ → List Frame
    run_frames n = Run (way_with way ts) (tree_in g (kid_in (node_in g id).kids n)) ∷ frames g (numbers_of p h.func g) d chain es (behind (way_count way) ts)

    abbrev pub branch_run : ℕ → Outcome
    branch_run n = goes silent (temporaries g d chain (behind (way_count way) ts)) (run_frames n)

    pub fork_fits : LandsOn p h.func b h.notes book.thrown known lead rank target fork (branch_run 2)
        → LandsOn p h.func b h.notes book.thrown known lead rank (index + 1) fork (branch_run 1)
        → LandsOn p h.func b h.notes book.thrown (not_zero v ∷ known) lead rank (index + 1) fork (branch_run 1)
        → Fitting p b book h g tested chain v es ts known lead rank index (JumpZero target)
    fork_fits there here_too here = branch_goes p b book h g known lead rank index target (standing p b book h g tested chain v es ts) (below g tested chain ts)
        (temporaries g d chain (behind (way_count way) ts)) (temporaries g d chain (behind (way_count way) ts)) (run_frames 2) (run_frames 1) v told there here_too here

    -- where the branches are read as what stands at the target and behind the jump: the rest of a full-expression may be written behind each
    pub read_branch_fits : {k l : Mode} {firsts seconds : List Item} (e : Left g k firsts) (outer : List ScopeKind) (o : Left g l seconds) (around : List ScopeKind)
        (first second : ℕ) → Filled p b book h g tested chain v es ts known
        → AlwaysRereads p b book h g (led (run (kid_in (node_in g id).kids 1) way x) d) chain e outer (λ (z : Outcome). z)
        → AlwaysRereads p b book h g (led (run (kid_in (node_in g id).kids 2) way y) d) chain o around (λ (z : Outcome). z)
        → Ahead p b book h g o around target second → Ahead p b book h g e outer (index + 1) first → lead + 1 ≤ b.longest → 1 ≤ lead + 1
        → Fitting p b book h g tested chain v es ts known lead rank index (JumpZero target)
    read_branch_fits e outer o around first second f reads_first reads_second there here short some = fork_fits
        (read_landing p b book h g (led (run (kid_in (node_in g id).kids 2) way y) d) chain o around (number 0) es ts known
        (reads_second (number 0) es ts known (record { all = f.all; so = f.so; types = f.types; knows = f.knows; comes = tt }))
        lead 1 rank target second there short (inl some) fork (branch_run 2) refl refl)
        (read_landing p b book h g (led (run (kid_in (node_in g id).kids 1) way x) d) chain e outer (number 0) es ts known
        (reads_first (number 0) es ts known (record { all = f.all; so = f.so; types = f.types; knows = f.knows; comes = tt }))
        lead 1 rank (index + 1) first here short (inl some) fork (branch_run 1) refl refl)
        (read_landing p b book h g (led (run (kid_in (node_in g id).kids 1) way x) d) chain e outer (number 0) es ts (not_zero v ∷ known)
        (reads_first (number 0) es ts (not_zero v ∷ known)
        (record { all = f.all; so = f.so; types = f.types; knows = λ x bounded holds. f.knows x bounded holds.1; comes = tt }))
        lead 1 rank (index + 1) first here short (inl some) fork (branch_run 1) refl refl)

    -- where both branches are left to write in front of the same
    pub branch_fits : (first second : ℕ) → Filled p b book h g tested chain v es ts known
        → Ahead p b book h g (led (run (kid_in (node_in g id).kids 2) way y) d) chain target second
        → Ahead p b book h g (led (run (kid_in (node_in g id).kids 1) way x) d) chain (index + 1) first → lead + 1 ≤ b.longest → 1 ≤ lead + 1
        → Fitting p b book h g tested chain v es ts known lead rank index (JumpZero target)
    branch_fits first second f there here short some = read_branch_fits (led (run (kid_in (node_in g id).kids 1) way x) d) chain
        (led (run (kid_in (node_in g id).kids 2) way y) d) chain first second f
        (as_it_is p b book h g (led (run (kid_in (node_in g id).kids 1) way x) d) chain) (as_it_is p b book h g (led (run (kid_in (node_in g id).kids 2) way y) d) chain) there here short some

  -- behind the first branch, a jump over the other one to where it is bound
  module _ {m : Mode} {items : List Item} (d : Left g m items) (o : OtherPart) (v : Term) (after : ℕ) (short : lead + 0 ≤ b.longest) (falls : after + 1 ≤ rank) where
    pub over_fits : (x : After (node_in g o.id) o.way m) → Filled p b book h g (led (other o x) d) chain v es ts known → Ahead p b book h g d chain target after
        → Fitting p b book h g (led (other o x) d) chain v es ts known lead rank index (Jump target)
    over_fits x f a = quiet_landing p b book h g d chain v es ts known (record { all = f.all; so = f.so; types = f.types; knows = f.knows; comes = f.comes })
        lead 0 rank target after a short (inr falls) (standing p b book h g (led (other o x) d) chain v es ts)
        (comes_of p b book h g (led (other o x) d) chain v es ts) refl refl

  -- the same at the end of the full-expression, whose rest is written again for the other branch
  pub over_again_fits : {m n : Mode} {items : List Item} (o : OtherPart) (x : After (node_in g o.id) o.way n) (e : Left g n items) (d : Left g m (behind_end items)) (v : Term)
      (after : ℕ) → lead + 0 ≤ b.longest → after + 1 ≤ rank → Filled p b book h g (other_again o x e d) chain v es ts known → Ahead p b book h g d chain target after
      → Fitting p b book h g (other_again o x e d) chain v es ts known lead rank index (Jump target)
  over_again_fits o x e d v after short falls f a = quiet_landing p b book h g d chain v es ts known
      (record { all = f.all; so = f.so; types = f.types; knows = f.knows; comes = f.comes }) lead 0 rank target after a short (inr falls)
      (standing p b book h g (other_again o x e d) chain v es ts) (comes_of p b book h g (other_again o x e d) chain v es ts) refl refl
