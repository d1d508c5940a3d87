use Rattle.std.proofs.Common.{ℕ, ◌≡◌, ◌==◌, Some, cond, is_none, ap, sym, ◌∙◌, arith}
use Rattle.own_table.specs.Records.{mode_of, mode_in, record_of, raised, stripe_of}
use Rattle.own_table.specs.Stripes.{hold_at}
use Rattle.own_table.proofs.TableLemmas.{stripe_there, holds_changed, answered}
use Rattle.own_table.proofs.stripes.take_record.Goals as goal

pub returns-clause-taken : goal.returns-clause-taken
returns-clause-taken c =
    let stripes = c.args.stripes.now.items in
    let word = c.args.word in
    let there = stripe_there stripes c.stripe_index.result (stripe_of word) c.index_mut-stripe.result.now c.stripe_index.ensures.value
    (omega arith) c.index_mut-stripe.ensures.value in
    let was : (u : ℕ) → mode_of c.holds_at-holds.result u ≡ hold_at stripes u word = λ u. c.holds_at-holds.ensures.modes u
    ∙ ap (λ rs. mode_in (record_of rs word) u) (sym there) in
    holds_changed stripes word c.stripe_index.result c.args.t c.with_hold.result.word c.index_mut-stripe.result.now c.put_at.new.self (Some c.with_hold.result)
    (raised (hold_at stripes c.args.t word) c.args.mode) c.requires.len c.stripe_index.ensures.value c.index_mut-stripe.ensures.value
    (c.with_hold.ensures.word ∙ c.holds_at-holds.ensures.word) c.put_at.ensures.found
    (λ u. c.with_hold.ensures.modes u ∙ (ap (λ o. cond (u == c.args.t) (raised o c.args.mode) (mode_of c.holds_at-holds.result u)) (was c.args.t) ∙ ap
    (λ o. cond (u == c.args.t) (raised (hold_at stripes c.args.t word) c.args.mode) o) (was u)))

pub returns-clause-is_new : goal.returns-clause-is_new
returns-clause-is_new c =
    let stripes = c.args.stripes.now.items in
    let word = c.args.word in
    let there = stripe_there stripes c.stripe_index.result (stripe_of word) c.index_mut-stripe.result.now c.stripe_index.ensures.value
    (omega arith) c.index_mut-stripe.ensures.value in
    answered c.is_none.result c.mode_of.result c.is_none.ensures
    ∙ ap is_none (c.mode_of.ensures ∙ (c.holds_at-holds.ensures.modes c.args.t ∙ ap (λ rs. mode_in (record_of rs word) c.args.t) (sym there)))
