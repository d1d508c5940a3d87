-- What texts spell as objects.
use Rattle.std.specs.Prelude.{◌≡◌, ℕ, List, [], ◌∷◌, ◌++◌, length, Err}
use Rattle.object_bytes.specs.Objects.{decoded}
use Rattle.object_bytes.specs.Spelling.{Spells}
use Rattle.tx_code.specs.Objects.{ObjectView}
use Rattle.exec_command.specs.declared.files.NoObjects.{NoObjects}
use Rattle.exec_command.specs.declared.files.NoObjects.TheVariants.{Wrong, Memory}

-- each text spells its object
abbrev pub SpellAll : List (List ℕ) → List ObjectView → Type 0
SpellAll [] [] = Unit {0}
SpellAll [] (o ∷ os) = ⊥
SpellAll (text ∷ texts) [] = ⊥
SpellAll (text ∷ texts) (o ∷ os) = Spells o text × SpellAll texts os

-- The texts before the one with this index spell objects, and it spells none: its first wrong field begins at byte `at`.
pub record FirstWrong (texts : List (List ℕ)) (index : ℕ) (at : ℕ) : Type 0 where
  pub before : List (List ℕ)
  pub text : List ℕ
  pub after : List (List ℕ)
  pub objects : List ObjectView
  pub cut : texts ≡ before ++ text ∷ after
  pub index_is : index ≡ length before
  pub spelled : SpellAll before objects
  pub none : (o : ObjectView) → Spells o text → ⊥
  pub first : decoded text ≡ Err at

abbrev pub IsWrong : List (List ℕ) → NoObjects → Type 0
IsWrong texts (Wrong index at) = FirstWrong texts index at
IsWrong texts Memory = Unit {0}
