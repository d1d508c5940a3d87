use Rattle.std.proofs.Common.{◌∙◌, ap₂}
use Rattle.std.proofs.lemmas.Result.{IfOk-weaker}
use Rattle.clap.specs.Words.{with_rule}
use Rattle.tx_words.proofs.line.runner.Goals as goal

pub returns : goal.returns
returns c = record {
  app = IfOk-weaker c.with-6.result _ _ (λ x h. h ∙ ap₂ with_rule
      (c.in_ok-command-5.ensures.app ∙ ap₂ with_rule (c.in_ok-command-4.ensures.app ∙ ap₂ with_rule
      (c.in_ok-command-3.ensures.app ∙ ap₂ with_rule (c.in_ok-command-2.ensures.app
      ∙ ap₂ with_rule (c.in_ok-command.ensures.app ∙ ap₂ with_rule c.new.ensures.app c.steps.ensures.rule) c.option.ensures.rule) c.option-2.ensures.rule)
      c.option-3.ensures.rule) c.option-4.ensures.rule) c.option-5.ensures.rule) c.with-6.ensures.app;
  local = IfOk-weaker c.with-6.result _ _ (λ x h. h ∙ c.in_ok-command-5.ensures.local ∙ c.in_ok-command-4.ensures.local ∙ c.in_ok-command-3.ensures.local
      ∙ c.in_ok-command-2.ensures.local ∙ c.in_ok-command.ensures.local ∙ c.new.ensures.local) c.with-6.ensures.local;
}
