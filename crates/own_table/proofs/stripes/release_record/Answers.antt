use Rattle.std.proofs.Common.{ℕ, ◌≡◌, ◌==◌, Some, None, cond, refl, ap, sym, ◌∙◌, arith}
use Rattle.own_table.specs.Records.{mode_of, mode_in, record_of, stripe_of}
use Rattle.own_table.specs.Stripes.{hold_at}
use Rattle.std.proofs.lemmas.Bool.{eq-eqb}
use Rattle.own_table.proofs.TableLemmas.{stripe_there, holds_changed, free_says_none, none_at, left_at, placed_at}
use Rattle.own_table.proofs.RecordLists.{record_of-nowhere}
use Rattle.own_table.proofs.stripes.release_record.Goals as goal

pub returns-then-is_free-clause-released : goal.returns-then-is_free-clause-released
returns-then-is_free-clause-released c =
    let stripes = c.args.stripes.now.items in
    let word = c.args.word in
    let there = stripe_there stripes c.stripe_index.result (stripe_of word) c.index_mut-stripe.result.now c.stripe_index.ensures.value
    (omega arith) c.index_mut-stripe.ensures.value in
    let was : (u : ℕ) → mode_of c.holds_at.result u ≡ hold_at stripes u word = λ u. c.holds_at.ensures.modes u
    ∙ ap (λ rs. mode_in (record_of rs word) u) (sym there) in
    let free : (u : ℕ) → mode_of c.without_hold-left.result u ≡ None =
    λ u. free_says_none c.without_hold-left.result u c.without_hold-left.ensures.reads (sym c.is_free.ensures ∙ c.if-is_free.true) in
    holds_changed stripes word c.stripe_index.result c.args.t word c.index_mut-stripe.result.now c.remove_at.new.self None None c.requires.len
    c.stripe_index.ensures.value c.index_mut-stripe.ensures.value refl c.remove_at.ensures.found
    (λ u. sym (free u) ∙ (c.without_hold-left.ensures.modes u ∙ ap (λ o. cond (u == c.args.t) None o) (was u)))

pub returns-then-is_free-clause-placed : goal.returns-then-is_free-clause-placed
returns-then-is_free-clause-placed c =
    placed_at c.args.stripes.now.items c.args.word c.stripe_index.result c.index_mut-stripe.result.now c.remove_at.new.self c.requires.len
    c.stripe_index.ensures.value c.index_mut-stripe.ensures.value c.requires.placed
    (λ all. c.remove_at.ensures.kept (λ r. stripe_of r.word == stripe_of c.args.word) all)

pub returns-else-is_free-clause-placed : goal.returns-else-is_free-clause-placed
returns-else-is_free-clause-placed c =
    let same : c.without_hold-left.result.word ≡ c.args.word = c.without_hold-left.ensures.word ∙ c.holds_at.ensures.word in
    placed_at c.args.stripes.now.items c.args.word c.stripe_index.result c.index_mut-stripe.result.now c.put_at.new.self c.requires.len
    c.stripe_index.ensures.value c.index_mut-stripe.ensures.value c.requires.placed
    (λ all. c.put_at.ensures.kept (λ r. stripe_of r.word == stripe_of c.args.word) all
    (eq-eqb (stripe_of c.without_hold-left.result.word) (stripe_of c.args.word) (ap stripe_of same)))

pub returns-else-is_free-clause-released : goal.returns-else-is_free-clause-released
returns-else-is_free-clause-released c =
    let stripes = c.args.stripes.now.items in
    let word = c.args.word in
    let there = stripe_there stripes c.stripe_index.result (stripe_of word) c.index_mut-stripe.result.now c.stripe_index.ensures.value
    (omega arith) c.index_mut-stripe.ensures.value in
    let was : (u : ℕ) → mode_of c.holds_at.result u ≡ hold_at stripes u word = λ u. c.holds_at.ensures.modes u
    ∙ ap (λ rs. mode_in (record_of rs word) u) (sym there) in
    holds_changed stripes word c.stripe_index.result c.args.t c.without_hold-left.result.word c.index_mut-stripe.result.now c.put_at.new.self
    (Some c.without_hold-left.result) None c.requires.len c.stripe_index.ensures.value c.index_mut-stripe.ensures.value
    (c.without_hold-left.ensures.word ∙ c.holds_at.ensures.word) c.put_at.ensures.found
    (λ u. c.without_hold-left.ensures.modes u ∙ ap (λ o. cond (u == c.args.t) None o) (was u))

pub returns-in_default-clause-released : goal.returns-in_default-clause-released
returns-in_default-clause-released c =
    let stripes = c.args.stripes.now.items in
    let word = c.args.word in
    let there = stripe_there stripes c.stripe_index.result (stripe_of word) c.index_mut-stripe.result.now c.stripe_index.ensures.value
    (omega arith) c.index_mut-stripe.ensures.value in
    let absent : record_of c.index_mut-stripe.result.now.records.items word ≡ None =
    record_of-nowhere c.index_mut-stripe.result.now.records.items word (sym c.index_of.ensures ∙ c.in_default.is) in
    holds_changed stripes word c.stripe_index.result c.args.t word c.index_mut-stripe.result.now c.index_mut-stripe.result.now None None c.requires.len
    c.stripe_index.ensures.value c.index_mut-stripe.ensures.value refl (λ w. none_at (record_of c.index_mut-stripe.result.now.records.items) word w absent)
    (λ u. left_at (u == c.args.t) (hold_at stripes u word) (ap (λ rs. mode_in (record_of rs word) u) there ∙ ap (λ o. mode_in o u) absent))
