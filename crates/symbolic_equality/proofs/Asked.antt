-- Outcomes that ask whether an operator traps.
use Rattle.std.proofs.Common.{ℕ, ◌≡◌, ◌∙◌, sym, ap, Bor}
use Rattle.cpp_tree.specs.tx_ints.declared.kinds.IntKind.{IntKind}
use Rattle.cpp_tree.specs.tx_ints.declared.kinds.BinOp.{BinOp}
use Rattle.cpp_tree.specs.cpp_types.Typ.{Typ}
use Rattle.cpp_tree.specs.declared.program.Program.{Program}
use Rattle.src_mean.specs.Linked.{Func}
use Rattle.symbolic_source.specs.Outcomes as outcomes
use Rattle.symbolic_terms.specs.Meanings.{Meaning, word_of}
use Rattle.symbolic_terms.specs.Shown.{outcome_of}
use Rattle.symbolic_terms.specs.declared.ids.WordId.{WordId}
use Rattle.symbolic_terms.specs.declared.outcomes.Outcome.{Outcome}
use Rattle.symbolic_terms.specs.declared.outcomes.Outcome.TheVariants.{Results}

module _ (types : ℕ → Typ) (m : Meaning) (p : Program) (f : Func) where
  pub same_results : (o q : Outcome) (op op' : BinOp) (kind kind' : IntKind) (left left' right right' : WordId) (then then' : Bor Outcome)
      → o ≡ Results op kind left right then → q ≡ Results op' kind' left' right' then'
      → op ≡ op' → kind ≡ kind' → word_of m left ≡ word_of m left' → word_of m right ≡ word_of m right'
      → outcome_of types m p f then.now ≡ outcome_of types m p f then'.now
      → outcome_of types m p f o ≡ outcome_of types m p f q
  same_results o q op op' kind kind' left left' right right' then then' is other same_op same_kind lefts rights thens =
      ap (outcome_of types m p f) is
      ∙ ap (λ z. outcomes.results z kind (word_of m left) (word_of m right) (outcome_of types m p f then.now)) same_op
      ∙ ap (λ z. outcomes.results op' z (word_of m left) (word_of m right) (outcome_of types m p f then.now)) same_kind
      ∙ ap (λ z. outcomes.results op' kind' z (word_of m right) (outcome_of types m p f then.now)) lefts
      ∙ ap (λ z. outcomes.results op' kind' (word_of m left') z (outcome_of types m p f then.now)) rights
      ∙ ap (λ z. outcomes.results op' kind' (word_of m left') (word_of m right') z) thens
      ∙ ap (outcome_of types m p f) (sym other)
