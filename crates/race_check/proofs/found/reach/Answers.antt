use Rattle.std.proofs.Common.{ℕ, ◌≡◌, ◌⊎◌, inl, inr}
use Rattle.tx_events.specs.declared.What.{What}
use Rattle.tx_events.specs.declared.What.TheVariants.{Read, Write, Enter, Leave, Spawned, Joined}
use Rattle.race_check.proofs.ClockSteps.{reached_plain}
use Rattle.race_check.proofs.found.reach.Goals as goal

-- an item that reads, writes, leaves or starts
abbrev Plain : What → Type 0
Plain w = ((x : ℕ) × (y : ℕ) × (w ≡ Read x y)) ⊎ (((x : ℕ) × (y : ℕ) × (w ≡ Write x y)) ⊎ ((w ≡ Leave) ⊎ ((x : ℕ) × (w ≡ Spawned x))))

no_enter : (w : What) → Plain w → w ≡ Enter → ⊥
no_enter w (inl (x, y, e)) h = cc
no_enter w (inr (inl (x, y, e))) h = cc
no_enter w (inr (inr (inl e))) h = cc
no_enter w (inr (inr (inr (x, e)))) h = cc

no_join : (w : What) (child : ℕ) → Plain w → w ≡ Joined child → ⊥
no_join w child (inl (x, y, e)) h = cc
no_join w child (inr (inl (x, y, e))) h = cc
no_join w child (inr (inr (inl e))) h = cc
no_join w child (inr (inr (inr (x, e)))) h = cc

pub returns-in-Read : goal.returns-in-Read
returns-in-Read c =
    reached_plain c.args.items.now c.args.j c.args.item c.requires.there c.requires.regular c.args.clocks.now c.requires.clocked
    (no_enter c.args.item.what c.in-Read.is) (λ child. no_join c.args.item.what child c.in-Read.is)
