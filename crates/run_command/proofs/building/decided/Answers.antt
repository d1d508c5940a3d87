use Rattle.std.proofs.Common.{◌≡◌, [], ◌∷◌, ap, ◌∙◌, map, string_bytes, subst}
use Rattle.std.proofs.lemmas.Result.{IfOk-weaker}
use Rattle.command_io.specs.Writes.{written_of}
use Rattle.tx_safety.specs.Answers.{checked_in}
use Rattle.source_verdict.specs.Verdict.{Accepts, RefusesTexts}
use Rattle.run_command.specs.Commands.{builds, refuses}
use Rattle.run_command.proofs.building.decided.Goals as goal

pub built-requires : goal.built-requires
built-requires c = let k = rw c.in-Accepted.is at c.in_ok-safe.ensures in
    record {
      well_formed = k.well_formed;
      safe = k.safe;
      plain = c.accepted_declares_plainly.ensures (map (λ t. t.items) c.as_slice-2.result.now) (checked_in c.in-Accepted.safe) k;
    }

pub returns-in-Accepted : goal.returns-in-Accepted
returns-in-Accepted c =
    let texts : map (λ t. t.items) c.as_slice-2.result.now ≡ c.args.text.now ∷ [] = ap (λ l. map (λ t. t.items) l) c.as_slice-2.ensures.value
    ∙ c.in_ok-texts.ensures in
    IfOk-weaker c.built.result _ _
    (λ d h. builds (checked_in c.in-Accepted.safe) (subst (λ l. Accepts l (checked_in c.in-Accepted.safe)) texts
    (rw c.in-Accepted.is at c.in_ok-safe.ensures)) h) c.built.ensures

pub returns : goal.returns
returns c =
    let names : map string_bytes c.as_slice.result.now ≡ c.args.name.now ∷ [] = ap (λ l. map string_bytes l) c.as_slice.ensures.value ∙ c.in_ok-names.ensures in
    let texts : map (λ t. t.items) c.as_slice-2.result.now ≡ c.args.text.now ∷ [] = ap (λ l. map (λ t. t.items) l) c.as_slice-2.ensures.value
    ∙ c.in_ok-texts.ensures in
    let writes = map written_of c.in-Refused.decision.writes.items in
    refuses (subst (λ l. RefusesTexts l (c.args.text.now ∷ []) c.in-Refused.decision.answer writes) names
    (subst (λ l. RefusesTexts (map string_bytes c.as_slice.result.now) l c.in-Refused.decision.answer writes) texts
    (rw c.in-Refused.is at c.in_ok-safe.ensures)))
