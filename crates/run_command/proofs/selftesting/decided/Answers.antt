use Rattle.std.proofs.Common.{◌≡◌, false, [], ◌∷◌, ap, ◌∙◌, map, string_bytes, subst}
use Rattle.std.specs.Prelude.{codes}
use Rattle.std.proofs.lemmas.Result.{IfOk-weaker}
use Rattle.command_io.specs.Writes.{written_of}
use Rattle.prog_gen.specs.Program.{program as program_text}
use Rattle.run_command.specs.Runs.{DecidesTexts}
use Rattle.run_command.proofs.selftesting.decided.Goals as goal

pub returns : goal.returns
returns c =
    let names : map string_bytes c.as_slice.result.now ≡ codes "selftest" ∷ [] = ap (λ l. map string_bytes l) c.as_slice.ensures.value
    ∙ c.in_ok-names.ensures in
    let texts : map (λ t. t.items) c.as_slice-2.result.now ≡ program_text c.args.n ∷ [] = ap (λ l. map (λ t. t.items) l) c.as_slice-2.ensures.value
    ∙ c.in_ok-texts.ensures in
    IfOk-weaker c.with_texts.result _ _ (λ d h. record {
      options = c.defaults-options.result;
      are_defaults = c.defaults-options.ensures;
      decides =
          subst (λ l. DecidesTexts c.defaults-options.result false l (program_text c.args.n ∷ []) [] [] d.answer (map written_of d.writes.items)) names
          (subst (λ l. DecidesTexts c.defaults-options.result false (map string_bytes c.as_slice.result.now) l [] [] d.answer
          (map written_of d.writes.items)) texts
          (subst (λ l. DecidesTexts c.defaults-options.result false (map string_bytes c.as_slice.result.now)
          (map (λ t. t.items) c.as_slice-2.result.now) l [] d.answer (map written_of d.writes.items)) c.new-input.ensures.items h));
    }) c.with_texts.ensures
