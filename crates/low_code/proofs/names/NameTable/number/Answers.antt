use Rattle.std.proofs.Common.{◌≡◌, ◌∙◌}
use Rattle.std.proofs.lemmas.Result.{IfOk-weaker}
use Rattle.low_code.specs.Names.{number_of, with_name}
use Rattle.low_code.proofs.Tables.{number_there, names_there, number_new, names_new}
use Rattle.low_code.proofs.names.NameTable.number.Goals as goal

pub returns-in-Some-clause-number : goal.returns-in-Some-clause-number
returns-in-Some-clause-number c =
    IfOk-weaker c.numbered.result (λ n. n ≡ c.in-Some.place) (λ n. n ≡ number_of c.args.name.now c.args.self.now)
    (λ n e. e ∙ number_there c.args.name.now c.self.inside.names.keys c.args.self.now c.self.view_is c.in-Some.place c.in-Some.ensures.index) c.numbered.ensures

pub returns-in-Some-clause-names : goal.returns-in-Some-clause-names
returns-in-Some-clause-names c =
    IfOk-weaker c.numbered.result (λ n. n ≡ c.in-Some.place) (λ n. c.args.self.now ≡ with_name c.args.name.now c.args.self.now)
    (λ n e. names_there c.args.name.now c.self.inside.names.keys c.args.self.now c.self.view_is c.in-Some.ensures.found) c.numbered.ensures

pub returns-in_ok-insert-in-None-clause-number : goal.returns-in_ok-insert-in-None-clause-number
returns-in_ok-insert-in-None-clause-number c =
    c.in_ok-number-in-None.ensures ∙ c.len.ensures.len ∙ number_new c.args.name.now c.self.inside.names.keys c.args.self.now c.self.view_is c.in-None.ensures.found

pub returns-in_ok-insert-in-None-clause-names : goal.returns-in_ok-insert-in-None-clause-names
returns-in_ok-insert-in-None-clause-names c =
    names_new c.args.name.now c.self.inside.names.keys c.args.self.now c.self.view_is c.in_ok-from_slice-in-None.field-0 c.insert.new.self.keys
    c.in_ok-from_slice-in-None.ensures.items c.in_ok-insert-in-None.ensures.keys
