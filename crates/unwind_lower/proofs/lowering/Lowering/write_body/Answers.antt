use Rattle.std.proofs.Common.{◌≡◌, ◌∙◌, ap, subst}
use Rattle.unwind_lower.specs.declared.items.Item.TheVariants.{Run, BodyEnds}
use Rattle.unwind_lower.specs.declared.items.Way.TheVariants.{Dropped}
use Rattle.unwind_lower.specs.States.{State, state_of, later}
use Rattle.unwind_lower.specs.Settings.{setting_of}
use Rattle.unwind_lower.specs.Steps.{Writes}
use Rattle.unwind_lower.specs.Functions.{started}
use Rattle.unwind_lower.proofs.lowering.Lowering.write_body.Goals as goal

pub returns : goal.returns
unfolding started
returns c =
    let g = setting_of c.args.self.now in
    let body = state_of c.write_all.new.w in
    let starts : state_of c.later-2.new.self ≡ started g c.args.body c.args.at (state_of c.args.w.now) = c.in_ok-later-2.ensures
    ∙ ap (later (Run c.args.body Dropped)) (c.in_ok-later.ensures ∙ ap (later (BodyEnds c.args.at)) c.in_ok-store_words.ensures) in
    record {
      body = body;
      body_written = subst (λ (s : State). Writes g s body) starts c.in_ok-write_all.ensures;
      pads_written = subst (λ (s : State). Writes g s (state_of c.write_all-2.new.w)) c.in_ok-later-3.ensures c.in_ok-write_all-2.ensures;
    }
