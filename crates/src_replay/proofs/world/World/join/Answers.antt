use Rattle.std.proofs.lemmas.Int.{to_z-of_z}
use Rattle.std.proofs.Common.{w32, refl, ap, ◌∙◌, sym, is_some, option_map}
use Rattle.std.proofs.lemmas.Result.{IfOk-weaker}
use Rattle.tx_events.specs.declared.End.TheVariants.{Trapped}
use Rattle.tx_events.specs.declared.Trap.TheVariants.{BadJoin}
use Rattle.tx_events.specs.declared.Event.TheVariants.{Join}
use Rattle.tx_events.specs.declared.Reply.TheVariants.{Nothing}
use Rattle.tx_events.specs.World.{target}
use Rattle.src_mean.specs.Source.{source}
use Rattle.src_replay.specs.Entries.{has_ended}
use Rattle.src_replay.specs.Shown.{world_of}
use Rattle.src_replay.proofs.Arms.{stands_in, took_moved, took_halted, joins_some, joins_none, target_in, few_threads}
use Rattle.src_replay.proofs.world.World.join.Goals as goal

pub returns-then-is_some-clause-took : goal.returns-then-is_some-clause-took
returns-then-is_some-clause-took c = λ program w s stand going e enabled.
    let self = c.args.self.now in
    let t = c.args.t in
    let there = ap (λ o. is_some (option_map has_ended o)) (sym (target_in t c.args.id w s (world_of self) e))
    ∙ (ap (λ i. is_some (option_map has_ended (target t i (world_of self).threads))) (sym (to_z-of_z w32 c.args.id c.ranges.id))
    ∙ (ap is_some (sym (c.target.ensures (few_threads program self stand))) ∙ (sym c.is_some.ensures ∙ c.if-is_some.true))) in
    IfOk-weaker c.goes.result _ _
    (λ r g. took_moved t w s program (Join c.args.id) Nothing (λ z. z) self self c.goes.new.self r e refl (λ f. refl)
    (joins_some t w ((source program).after s Nothing) (target t c.args.id w.threads) enabled there) refl refl g)
    (c.goes.ensures.went program s stand (stands_in t w s (world_of self) e))

pub returns-else-is_some-clause-took : goal.returns-else-is_some-clause-took
returns-else-is_some-clause-took c = λ program w s stand going e enabled.
    let self = c.args.self.now in
    let t = c.args.t in
    let there = ap (λ o. is_some (option_map has_ended o)) (sym (target_in t c.args.id w s (world_of self) e))
    ∙ (ap (λ i. is_some (option_map has_ended (target t i (world_of self).threads))) (sym (to_z-of_z w32 c.args.id c.ranges.id))
    ∙ (ap is_some (sym (c.target.ensures (few_threads program self stand))) ∙ (sym c.is_some.ensures ∙ c.if-is_some.false))) in
    IfOk-weaker c.halt.result _ _ (λ r h. took_halted t w s program (Join c.args.id) (Trapped BadJoin) self self c.halt.new.self r e refl refl refl refl stand
    (joins_none t w ((source program).after s Nothing) (target t c.args.id w.threads) there) h) c.halt.ensures.halted
