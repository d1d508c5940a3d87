use Rattle.std.proofs.Common.{◌≡◌, [], ◌∷◌, ◌++◌, ap, ◌∙◌, rules, subst}
use Rattle.source_verdict.specs.declared.front.FrontFault.TheVariants.{Memory}
use Rattle.source_verdict.specs.Front.{IsNotRead}
use Rattle.source_verdict.proofs.Texts.{read_next, first_unread}
use Rattle.source_verdict.proofs.front.read_units.Goals as goal

pub returns-in_default-clause-unread : goal.returns-in_default-clause-unread
returns-in_default-clause-unread c =
    first_unread c.args.texts.now c.texts.index c.index-texts-index.result c.index-texts-index.result.items c.texts.units.items Memory c.texts-test.true
    (ap (λ text. text.items) c.index-texts-index.is) c.texts.invariant tt

pub returns-in-Err-clause-unread : goal.returns-in-Err-clause-unread
returns-in-Err-clause-unread c =
    first_unread c.args.texts.now c.texts.index c.index-texts-index.result c.as_slice.result.now c.texts.units.items c.in-Err.fault c.texts-test.true
    (c.as_slice.ensures.value ∙ ap (λ text. text.items) c.index-texts-index.is) c.texts.invariant
    (subst (λ n. IsNotRead n c.as_slice.result.now c.in-Err.fault) c.in-Some.ensures c.in-Err.ensures.unread)

pub returns-then-is_err-clause-unread : goal.returns-then-is_err-clause-unread
returns-then-is_err-clause-unread c =
    first_unread c.args.texts.now c.texts.index c.index-texts-index.result c.index-texts-index.result.items c.texts.units.items Memory c.texts-test.true
    (ap (λ text. text.items) c.index-texts-index.is) c.texts.invariant tt

pub texts-preserved : goal.texts-preserved
texts-preserved c =
    let pushed : c.push.new.self.items ≡ c.texts.units.items ++ c.in-Ok.unit ∷ [] = search rules in
    read_next c.args.texts.now c.texts.index c.in-Some.number c.index-texts-index.result c.as_slice.result.now c.texts.units.items c.push.new.self.items
    c.in-Ok.unit c.texts-test.true c.in-Some.ensures
    (c.as_slice.ensures.value ∙ ap (λ text. text.items) c.index-texts-index.is) pushed c.texts.invariant c.in-Ok.ensures.read
