-- What `explain` comes to.
use Rattle.std.specs.Prelude.{◌≡◌, ℕ, true, false, List, [], ◌∷◌, codes}
use Rattle.command_io.specs.Writes.{Written, to_out, to_err}
use Rattle.rule_texts.specs.Rules.{is_rule, rule_of}
use Rattle.rule_texts.specs.declared.table.Explanation.{Explanation}
use Rattle.tx_answers.specs.Ends.{bare}
use Rattle.tx_answers.specs.declared.answer.Answer.{Answer}
use Rattle.tx_answers.specs.declared.answer.Status.TheVariants.{Done, Usage}

-- the lines of the explanation are written to the output
pub record Explains (e : Explanation) (a : Answer) (writes : List Written) : Type 0 where
  pub answer : a ≡ bare Done
  pub writes_are : writes ≡ to_out e.lines.now ∷ []

pub record IsUnknown (a : Answer) (writes : List Written) : Type 0 where
  pub answer : a ≡ bare Usage
  pub writes_are : writes ≡ to_err (codes "usage\n") ∷ []

-- no file is read
pub data DecidesExplanation (rule : List ℕ) (texts : List (List ℕ)) (a : Answer) (writes : List Written) : Type 0 where
  explains : is_rule rule ≡ true → (e : Explanation) → rule_of e ≡ rule → Explains e a writes → DecidesExplanation rule texts a writes
  unknown : is_rule rule ≡ false → IsUnknown a writes → DecidesExplanation rule texts a writes
