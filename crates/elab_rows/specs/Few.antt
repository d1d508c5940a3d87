-- Operands by their number.
use Rattle.std.specs.Prelude.{◌≡◌, ◌<◌, ℕ, List, [], ◌∷◌}
use Rattle.elab_casts.specs.elab_ctx.declared.operand.Operand.{Operand}
use Rattle.elab_rows.specs.declared.few.Few.{Few}
use Rattle.elab_rows.specs.declared.few.Few.TheVariants as few

abbrev pub HasOperands : Few → List Operand → Type 0
HasOperands few.None os = os ≡ []
HasOperands (few.One a) os = os ≡ a ∷ []
HasOperands (few.Two a b) os = os ≡ a ∷ b ∷ []
HasOperands (few.Three a b d) os = os ≡ a ∷ b ∷ d ∷ []
HasOperands few.Many os = Unit {0}

abbrev pub AreWithin : ℕ → Few → Type 0
AreWithin n few.None = Unit {0}
AreWithin n (few.One a) = a.id.0 < n
AreWithin n (few.Two a b) = (a.id.0 < n) × (b.id.0 < n)
AreWithin n (few.Three a b d) = (a.id.0 < n) × (b.id.0 < n) × (d.id.0 < n)
AreWithin n few.Many = Unit {0}
