use Rattle.std.proofs.Common.{◌==◌, not, ap, ◌∙◌, arith, List}
use Rattle.own_table.specs.declared.hold.HoldRec.{HoldRec}
use Rattle.own_table.specs.Records.{is_sound, record_of}
use Rattle.own_table.proofs.RecordLists.{others_are, record_of-filter, list_all-filter, records_of-filter}
use Rattle.own_table.proofs.stripe.Stripe.remove_at.Goals as goal

pub invariant_of-self : goal.invariant_of-self
invariant_of-self c =
    let records = c.args.self.now.records.items in
    let left = c.remove-taken.ensures.items ∙ others_are records c.args.index c.args.word c.remove-taken.result c.requires (c.args.self.now.once c.args.word) in
    rw left (record {
      sound = list_all-filter is_sound (λ r. not (r.word == c.args.word)) records c.args.self.now.sound;
      once = λ w. omega (arith, records_of-filter (λ r. not (r.word == c.args.word)) records w, c.args.self.now.once w);
    })

pub returns-clause-found : goal.returns-clause-found
returns-clause-found c =
    let records = c.args.self.now.records.items in
    let left = c.remove-taken.ensures.items ∙ others_are records c.args.index c.args.word c.remove-taken.result c.requires (c.args.self.now.once c.args.word) in
    λ w. ap (λ (rs : List HoldRec). record_of rs w) left ∙ record_of-filter records c.args.word w

pub returns-clause-kept : goal.returns-clause-kept
returns-clause-kept c =
    let records = c.args.self.now.records.items in
    let left = c.remove-taken.ensures.items ∙ others_are records c.args.index c.args.word c.remove-taken.result c.requires (c.args.self.now.once c.args.word) in
    λ p all. rw left (list_all-filter p (λ r. not (r.word == c.args.word)) records all)
