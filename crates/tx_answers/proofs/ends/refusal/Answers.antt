use Rattle.std.proofs.Common.{refl, ap, ◌∙◌, [], ◌∷◌, ◌++◌, map, codes}
use Rattle.command_io.specs.Writes.{written_of, to_err}
use Rattle.tx_answers.proofs.ends.refusal.Goals as goal

pub returns : goal.returns
returns c = record {
  refusal = record { number = c.args.number; line = c.args.line };
  answer = refl;
  number_is = refl;
  line_is = refl;
  writes_are = ap (map written_of) c.in_ok-writes.ensures.items
      ∙ ap (λ text. to_err text ∷ []) (c.in_ok-text.ensures ∙ ap (λ l. l ++ codes "\n") c.as_slice.ensures.value);
}
