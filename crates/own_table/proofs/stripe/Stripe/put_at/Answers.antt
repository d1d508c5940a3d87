use Rattle.std.proofs.Common.{◌≡◌, None, is_some, [], ◌∷◌, ◌++◌, ap, sym, ◌∙◌, arith}
use Rattle.own_table.specs.Records.{is_sound, record_of}
use Rattle.own_table.proofs.LeastWord.{pushed_items}
use Rattle.own_table.proofs.RecordLists.{record_of-set, record_of-push, record_of-nowhere, list_all-set, list_all-push, records_of-set, records_of-push}
use Rattle.own_table.proofs.stripe.Stripe.put_at.Goals as goal

pub invariant_of-self : goal.invariant_of-self
invariant_of-self c = record {
  sound = list_all-set is_sound c.args.self.now.records.items c.in-Some.at c.args.holds c.args.self.now.sound c.requires.sound;
  once = λ w. omega (
    arith,
    records_of-set c.args.self.now.records.items c.in-Some.at c.args.holds w (sym c.requires.index ∙ c.in-Some.is),
    c.args.self.now.once w,
  );
}

pub returns-in-Some-clause-found : goal.returns-in-Some-clause-found
returns-in-Some-clause-found c = λ w. record_of-set c.args.self.now.records.items c.in-Some.at c.args.holds (sym c.requires.index ∙ c.in-Some.is) w

pub returns-in-Some-clause-kept : goal.returns-in-Some-clause-kept
returns-in-Some-clause-kept c = λ p all here. list_all-set p c.args.self.now.records.items c.in-Some.at c.args.holds all here

pub invariant_of-self-in-None : goal.invariant_of-self-in-None
invariant_of-self-in-None c =
    let none : record_of c.args.self.now.records.items c.args.holds.word ≡ None =
    record_of-nowhere c.args.self.now.records.items c.args.holds.word (sym c.requires.index ∙ c.in-None.is) in
    let pushed = pushed_items (c.args.self.now.records.items ++ c.args.holds ∷ []) c.args.self.now.records.items c.push.result
    (c.push.ensures.succeeds (c.requires.capacity (ap is_some c.in-None.is))) c.push.ensures.items in
    rw pushed (record {
      sound = list_all-push is_sound c.args.self.now.records.items c.args.holds c.args.self.now.sound c.requires.sound;
      once = λ w. records_of-push c.args.self.now.records.items c.args.holds w none (c.args.self.now.once w);
    })

pub returns-in-None-clause-found : goal.returns-in-None-clause-found
returns-in-None-clause-found c =
    let none : record_of c.args.self.now.records.items c.args.holds.word ≡ None =
    record_of-nowhere c.args.self.now.records.items c.args.holds.word (sym c.requires.index ∙ c.in-None.is) in
    let pushed = pushed_items (c.args.self.now.records.items ++ c.args.holds ∷ []) c.args.self.now.records.items c.push.result
    (c.push.ensures.succeeds (c.requires.capacity (ap is_some c.in-None.is))) c.push.ensures.items in
    λ w. ap (λ rs. record_of rs w) pushed ∙ record_of-push c.args.self.now.records.items c.args.holds none w
