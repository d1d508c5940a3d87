use Rattle.std.proofs.Common.{◌≡◌, [], ◌∷◌, ◌++◌, string_bytes, rules}
use Rattle.serde_json.specs.View.{view}
use Rattle.race_report.proofs.Texts.{report_is}
use Rattle.race_report.proofs.report_text.Goals as goal

pub returns : goal.returns
returns c =
    let whole : c.push.new.self.items ≡ (string_bytes c.in_ok-to_string.field-0 ++ 10 ∷ []) = search rules in
    report_is (view c.in_ok-value.value) c.args.words.now (string_bytes c.in_ok-to_string.field-0) c.push.new.self.items c.in_ok-value.ensures
    c.in_ok-to_string.ensures.text whole
