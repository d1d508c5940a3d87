use Rattle.std.proofs.Common.{◌∙◌, ap, sym, true≢false, Some, is_some}
use Rattle.std.proofs.lemmas.Result.{IfOk-weaker}
use Rattle.clap.specs.Words.{found_of}
use Rattle.clap.proofs.WalkLemmas.{raw_values-rows}
use Rattle.tx_words.proofs.reader.given_texts.Goals as goal

pub returns : goal.returns
returns c = IfOk-weaker c.copies.result _ _ (λ v h. sym (raw_values-rows (found_of c.args.matches.now) c.args.id.now) ∙ sym c.in-Some.ensures ∙ ap Some
    (sym h)) c.copies.ensures

pub unreachable-requires : goal.unreachable-requires
unreachable-requires c = true≢false (sym c.requires ∙ ap is_some (sym (raw_values-rows (found_of c.args.matches.now) c.args.id.now) ∙ sym c.in-None.ensures))
