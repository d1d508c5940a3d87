-- What the answer means.
use Rattle.std.proofs.Common.{ℕ, ◌≡◌, List, ap, sym, ◌∙◌, arith}
use Rattle.src_bind.specs.Tables.{Given}
use Rattle.src_mean.specs.Source.{source}
use Rattle.src_replay.specs.declared.replaying.Replayed.{Replayed}
use Rattle.src_replay.specs.Orders.{IsReplay, IsNotARun, IsSpent, program_in, layout_in, first_in}
use Rattle.src_replay.proofs.OneAnswer.{only_replay, no_replay, more_cost}
use Rattle.source_runs.specs.Sources.{RunsWithin, RunsWith, end_in}
use Rattle.tx_events.specs.declared.End.{End}

module _ (g : Given) (input order out : List ℕ) (end : End) (most : ℕ) where
  -- the output and end of a replay are those of each other one
  pub runs_so : (r : Replayed) → IsReplay (source (program_in g)) (layout_in g) (first_in g input) order most r → out ≡ r.out.items → end ≡ end_in r.end
      → RunsWith r.started most g input order out end
  runs_so r h same ended = record {
    run = record {
      runs = record { world = h.world; replays = h.replays; out_is = same ∙ h.out_is; end_is = ended ∙ ap end_in h.end_is };
      within = omega (arith, h.cost_is, h.within);
    };
    started_is = h.started_is;
  }

  pub other_end : (r : Replayed) → IsReplay (source (program_in g)) (layout_in g) (first_in g input) order most r → (out ≡ r.out.items → end ≡ end_in r.end → ⊥)
      → RunsWithin most g input order out end → ⊥
  other_end r h other w =
      let only = only_replay (source (program_in g)) (layout_in g) (first_in g input) order most r w.runs.world h w.runs.replays in
      other (w.runs.out_is ∙ sym only.out_is) (w.runs.end_is ∙ ap end_in (sym only.end_is))

  -- the order is none
  pub no_run : (index : ℕ) → IsNotARun (source (program_in g)) (layout_in g) (first_in g input) order most index → RunsWithin most g input order out end → ⊥
  no_run index h w = no_replay (source (program_in g)) (layout_in g) (first_in g input) order most index w.runs.world h w.runs.replays

  -- or it takes more steps
  pub no_time : (index : ℕ) → IsSpent (source (program_in g)) (layout_in g) (first_in g input) order most index → RunsWithin most g input order out end → ⊥
  no_time index h w =
      let more = more_cost (source (program_in g)) (layout_in g) (first_in g input) order most index w.runs.world h w.runs.replays in
      let less = w.within in
      absurd (omega (arith, more, less))
