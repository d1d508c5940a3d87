use Rattle.std.proofs.Common.{sym, ◌∙◌, subst, refl}
use Rattle.std.proofs.lemmas.Bool.{true≢false}
use Rattle.race_check.specs.Blocks.{Enters}
use Rattle.tx_events.specs.declared.What.TheVariants.{Leave}
use Rattle.race_check.proofs.ItemSteps.{same_thread_of, same_what_of}
use Rattle.race_check.proofs.BlockSteps.{blocked_still, put_in}
use Rattle.race_check.proofs.blocks.Blocks.put.Goals as goal

pub returns-then-not-is_leave : goal.returns-then-not-is_leave
returns-then-not-is_leave c =
    blocked_still c.args.items.now c.args.self.now c.args.j c.requires.so_far
    (λ t f d n. true≢false (sym (c.is_leave.ensures.no (same_what_of c.args.items.now c.args.j c.args.item t Leave c.requires.there d))
    ∙ c.if-not-is_leave.true))

pub returns-in_default : goal.returns-in_default
returns-in_default c =
    blocked_still c.args.items.now c.args.self.now c.args.j c.requires.so_far
    (λ t f d n. c.in_default.ensures f (subst (λ z. Enters c.args.items.now z c.args.j f)
    (sym (same_thread_of c.args.items.now c.args.j c.args.item t Leave c.requires.there d)) n))

pub returns : goal.returns
returns c =
    put_in c.args.items.now c.put_block.new.self c.args.item.t c.args.j c.in-Some.entry c.args.j c.args.item c.requires.there refl
    (c.is_leave.ensures.yes c.if-not-is_leave.false) refl
    c.in-Some.ensures c.in_ok-put_block.ensures
