use Rattle.std.proofs.Common.{refl, ap, ◌∙◌, sym}
use Rattle.std.proofs.lemmas.Result.{IfOk-weaker}
use Rattle.tx_events.specs.declared.Event.TheVariants.{Inp}
use Rattle.tx_events.specs.declared.Reply.TheVariants.{Byte}
use Rattle.tx_events.specs.World.{byte_of, input_after}
use Rattle.src_replay.specs.Shown.{world_of}
use Rattle.src_replay.proofs.Arms.{stands_in, took_moved, no_bytes_left, byte_replied}
use Rattle.src_replay.proofs.world.World.read.Goals as goal

pub returns-in-Some-clause-took : goal.returns-in-Some-clause-took
returns-in-Some-clause-took c = λ program w s stand going e.
    let self = c.args.self.now in
    let t = c.args.t in
    let parts = c.in-Some.ensures.cases.0 in
    let reply = c.byte_reply-reply.ensures c.in-Some.others.now ∙ sym (ap (λ i. Byte (byte_of i)) parts) in
    IfOk-weaker c.goes.result _ _
    (λ r g. took_moved t w s program Inp c.byte_reply-reply.result (λ z. record z { input = input_after z.input }) self
    (record self { input = c.in-Some.others }) c.goes.new.self r e
    (ap (λ i. record (world_of self) { input = i }) (sym (ap input_after parts))) (λ f. refl)
    (byte_replied program t w s (world_of self) c.byte_reply-reply.result e reply) refl refl g)
    (c.goes.ensures.went program s stand (stands_in t w s (world_of self) e))

pub returns-in-None-clause-took : goal.returns-in-None-clause-took
returns-in-None-clause-took c = λ program w s stand going e.
    let self = c.args.self.now in
    let t = c.args.t in
    let none = no_bytes_left self.input.now c.in-None.ensures.cases in
    IfOk-weaker c.goes-in-None.result _ _
    (λ r g. took_moved t w s program Inp _ (λ z. record z { input = input_after z.input }) self self c.goes-in-None.new.self r e
    (ap (λ i. record (world_of self) { input = i }) (none ∙ sym (ap input_after none))) (λ f. refl)
    (byte_replied program t w s (world_of self) _ e (sym (ap (λ i. Byte (byte_of i)) none))) refl refl g)
    (c.goes-in-None.ensures.went program s stand (stands_in t w s (world_of self) e))
