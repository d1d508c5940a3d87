use Rattle.std.proofs.Common.{ℕ, ◌≡◌, Some, ap, sym, ◌∙◌}
use Rattle.own_table.specs.Records.{is_sound, mode_in, record_of}
use Rattle.own_table.proofs.RecordLists.{found_is, record_at, record_of-nowhere}
use Rattle.own_table.proofs.stripe.Stripe.holds_at.Goals as goal

pub returns-in-Some-clause-word : goal.returns-in-Some-clause-word
returns-in-Some-clause-word c =
    let records = c.args.self.now.records.items in
    let found = record_at records c.in-Some.at c.args.word c.index.result.now (sym c.requires ∙ c.in-Some.is) c.index.ensures in
    (found_is records c.args.word c.index.result.now is_sound found c.args.self.now.sound).0

pub returns-in-Some-clause-modes : goal.returns-in-Some-clause-modes
returns-in-Some-clause-modes c =
    let records = c.args.self.now.records.items in
    let found = record_at records c.in-Some.at c.args.word c.index.result.now (sym c.requires ∙ c.in-Some.is) c.index.ensures in
    λ u. ap (λ o. mode_in o u) (sym found)

pub returns-in-None-clause-modes : goal.returns-in-None-clause-modes
returns-in-None-clause-modes c =
    let none = record_of-nowhere c.args.self.now.records.items c.args.word (sym c.requires ∙ c.in-None.is) in
    λ u. c.free.ensures.free u ∙ ap (λ o. mode_in o u) (sym none)
