-- What is left says the same in two chains of scopes, if what is left behind its head does so in those behind.
use Rattle.std.proofs.Common.{ℕ, ◌≡◌, ap, ap₂, sym, ◌∙◌, subst, List, ◌++◌}
use Rattle.low_code.specs.declared.scopes.ScopeKind.{ScopeKind}
use Rattle.symbolic_source.specs.Terms.{Term, Exception}
use Rattle.src_mean.specs.Linked.{Program}
use Rattle.symbolic_code.specs.Facts.{Fact, AllHold}
use Rattle.body_check.specs.Notes.{Bounds}
use Rattle.body_check.specs.Calls.{Book}
use Rattle.body_check.specs.Linked.{Held}
use Rattle.lowered_steps.specs.Ahead.{Filled, standing}
use Rattle.lowered_frames.specs.Lists.{AreSo}
use Rattle.lowered_frames.specs.Modes.{topped}
use Rattle.lowered_frames.specs.Left.{opened, caught}
use Rattle.symbolic_code.specs.Places.{Hold}
use Rattle.unwind_lower.specs.declared.items.Item.{Item}
use Rattle.unwind_lower.specs.Settings.{Setting}
use Rattle.lowered_frames.specs.Lists.{behind, more_by, exceptions_behind}
use Rattle.lowered_frames.specs.Modes.{Mode}
use Rattle.lowered_frames.specs.Left.{Head, head_words, head_count, head_exceptions, head_scopes, Left, before, count, below}
use Rattle.lowered_notes.specs.Canonical.{facts, hold, head_facts, head_hold}

module _ (g : Setting) where
  -- a head says the same in two chains
  module _ {m n : Mode} {from to : List Item} (h : Head g m from n to) (chain other : List ScopeKind) where
    pub record SameHead : Type 0 where
      pub words_so : (ts : List Term) → head_words g h other ts ≡ head_words g h chain ts
      pub count_so : head_count g h other ≡ head_count g h chain

  -- and what is left
  module _ {m : Mode} {items : List Item} (d : Left g m items) (chain other : List ScopeKind) where
    pub record Alike : Type 0 where
      pub counted : count g d other ≡ count g d chain
      pub lying : (ts : List Term) → below g d other ts ≡ below g d chain ts
      pub known : (ts : List Term) → facts g d other ts ≡ facts g d chain ts
      pub held : (es : List Exception) (ts : List Term) → hold g d other es ts ≡ hold g d chain es ts

  pub alike_before : {m n : Mode} {from to : List Item} (h : Head g m from n to) (d : Left g n to) (chain other : List ScopeKind) → SameHead h chain other
      → Alike d (head_scopes g h chain) (head_scopes g h other) → Alike (before h d) chain other
  alike_before h d chain other s a = record {
    counted = ap₂ (λ (y z : ℕ). more_by y z) s.count_so a.counted;
    lying = λ ts. ap₂ (λ (y z : List Term). y ++ z) (s.words_so ts)
        (ap (λ (z : ℕ). below g d (head_scopes g h other) (behind z ts)) s.count_so ∙ a.lying (behind (head_count g h chain) ts));
    known = λ ts. ap (λ (z : List Fact). head_facts g h ts ++ z)
        (ap (λ (z : ℕ). facts g d (head_scopes g h other) (behind z ts)) s.count_so ∙ a.known (behind (head_count g h chain) ts));
    held = λ es ts. ap (λ (z : Hold). head_hold g h es ts z)
        (ap (λ (z : ℕ). hold g d (head_scopes g h other) (exceptions_behind (head_exceptions g h) es) (behind z ts)) s.count_so
        ∙ a.held (exceptions_behind (head_exceptions g h) es) (behind (head_count g h chain) ts));
  }

module _ (p : Program) (b : Bounds) (book : Book) (h : Held) (g : Setting) {m : Mode} {items : List Item} (d : Left g m items) (chain other : List ScopeKind)
    (a : Alike g d chain other) where
  -- the same terms can come in the other chain
  pub filled_alike : (v : Term) (es : List Exception) (ts : List Term) (known : List Fact) → Filled p b book h g d chain v es ts known
      → Filled p b book h g d other v es ts known
  filled_alike v es ts known f = record {
    all = f.all;
    so = subst (λ (z : ℕ). AreSo z ts) (sym a.counted) f.so;
    types = f.types;
    knows = λ x bounded holds. subst (λ (z : List Fact). AllHold p h.func x z) (sym (a.known ts)) (f.knows x bounded holds);
    comes = f.comes;
  }

  -- and the code stands at the same place
  pub place_alike : (v : Term) (es : List Exception) (ts : List Term) → standing p b book h g d chain v es ts ≡ standing p b book h g d other v es ts
  place_alike v es ts = ap₂ (λ (y : List Term) (z : Hold). record { operands = topped m v y; opens = opened g d; caught = caught g d es; hold = z })
      (sym (a.lying ts)) (sym (a.held es ts))
