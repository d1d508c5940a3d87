use Rattle.std.proofs.Common.{◌≡◌, [], ◌∷◌, ◌++◌, map, ap, ◌∙◌, rules}
use Rattle.tx_code.specs.Objects.{object_view}
use Rattle.exec_command.proofs.Texts.{spelled_next, first_wrong}
use Rattle.exec_command.proofs.files.read_objects.Goals as goal

pub returns-in-Err-BadObject-clause-wrong : goal.returns-in-Err-BadObject-clause-wrong
returns-in-Err-BadObject-clause-wrong c =
    let fault = rw c.in-Err-BadObject.field-0-is at c.in-Err-BadObject.ensures.fault in
    rw c.in-Err-BadObject.field-0-is (first_wrong c.args.texts.now c.files.index c.in-Err-BadObject.at c.index-texts-index.result c.as_slice.result.now
    (map object_view c.files.objects.items) c.files-test.true
    (c.as_slice.ensures.value ∙ ap (λ text. text.items) c.index-texts-index.is) c.files.invariant fault.0 fault.1)

pub files-preserved : goal.files-preserved
files-preserved c =
    let pushed : c.push.new.self.items ≡ c.files.objects.items ++ c.in-Ok.object ∷ [] = search rules in
    spelled_next c.args.texts.now c.files.index c.index-texts-index.result c.as_slice.result.now c.files.objects.items c.push.new.self.items c.in-Ok.object
    c.files-test.true
    (c.as_slice.ensures.value ∙ ap (λ text. text.items) c.index-texts-index.is) pushed c.files.invariant c.in-Ok.ensures.object
