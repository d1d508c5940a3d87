use Rattle.std.proofs.Common.{◌∙◌, ap, ap₂}
use Rattle.std.proofs.lemmas.Result.{IfOk-weaker}
use Rattle.clap.specs.Words.{App, with_subcommand}
use Rattle.tx_words.specs.Line.{txcc_app}
use Rattle.tx_words.proofs.line.txcc.Goals as goal

pub returns : goal.returns
unfolding txcc_app
returns c =
    IfOk-weaker c.subcommand-10.result _ _ (λ x h. h.shape c.in_ok-explain.ensures.local ∙ ap₂ with_subcommand
    (c.in_ok-subcommand-9.ensures.shape c.in_ok-races.ensures.local ∙ ap₂ with_subcommand
    (c.in_ok-subcommand-8.ensures.shape c.in_ok-asm.ensures.local ∙ ap₂ with_subcommand
    (c.in_ok-subcommand-7.ensures.shape c.in_ok-dis.ensures.local ∙ ap₂ with_subcommand
    (c.in_ok-subcommand-6.ensures.shape c.in_ok-replay.ensures.local ∙ ap₂ with_subcommand
    (c.in_ok-subcommand-5.ensures.shape c.in_ok-exec.ensures.local ∙ ap₂ with_subcommand
    (c.in_ok-subcommand-4.ensures.shape c.in_ok-build.ensures.local ∙ ap₂ with_subcommand
    (c.in_ok-subcommand-3.ensures.shape c.in_ok-selftest.ensures.local ∙ ap₂ with_subcommand
    (c.in_ok-subcommand-2.ensures.shape c.in_ok-check.ensures.local ∙ ap₂ with_subcommand
    (c.in_ok-subcommand.ensures.shape c.in_ok-run.ensures.local ∙ ap₂ with_subcommand c.bare.ensures (ap (λ (a : App). a.top) c.in_ok-run.ensures.app))
    (ap (λ (a : App). a.top) c.in_ok-check.ensures.app)) (ap (λ (a : App). a.top) c.in_ok-selftest.ensures.app))
    (ap (λ (a : App). a.top) c.in_ok-build.ensures.app)) (ap (λ (a : App). a.top) c.in_ok-exec.ensures.app))
    (ap (λ (a : App). a.top) c.in_ok-replay.ensures.app)) (ap (λ (a : App). a.top) c.in_ok-dis.ensures.app))
    (ap (λ (a : App). a.top) c.in_ok-asm.ensures.app)) (ap (λ (a : App). a.top) c.in_ok-races.ensures.app))
    (ap (λ (a : App). a.top) c.in_ok-explain.ensures.app)) c.subcommand-10.ensures
