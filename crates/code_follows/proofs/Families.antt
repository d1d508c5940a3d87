-- Families of instructions where the source does something else.
use Rattle.std.proofs.Common.{◌≡◌, ℕ, false, ◌&&◌, List, ◌∷◌, refl, Bor}
use Rattle.cpp_tree.specs.cpp_types.Typ.{Typ}
use Rattle.cpp_tree.specs.declared.program.Program.{Program}
use Rattle.cpp_tree.specs.tx_ints.declared.kinds.BinOp.{BinOp}
use Rattle.cpp_tree.specs.tx_ints.declared.kinds.IntKind.{IntKind}
use Rattle.src_mean.specs.Linked.{Func}
use Rattle.symbolic_source.specs.Terms as symbolic
use Rattle.symbolic_source.specs.Outcomes as outcomes
use Rattle.symbolic_code.specs.Same.{same_term, same_number, same_operator}
use Rattle.symbolic_code.specs.Facts.{Fact}
use Rattle.symbolic_code.specs.Places.{Place, holding, nothing, with_operands}
use Rattle.symbolic_code.specs.Following.{rethrows_caught, throwing, operates, addresses, if_found, pushes, jumps_zero}
use Rattle.symbolic_terms.specs.declared.ids.WordId.{WordId}
use Rattle.symbolic_terms.specs.declared.outcomes.Leading.TheVariants.{Does, Calls, Spawns, Rethrows}
use Rattle.symbolic_terms.specs.declared.outcomes.Outcome.{Outcome}
use Rattle.symbolic_terms.specs.declared.outcomes.Outcome.TheVariants.{Goes, Chooses, Chooses', Results, Results'}
use Rattle.symbolic_terms.specs.Meanings.{Meaning, word_of}
use Rattle.symbolic_terms.specs.Shown.{outcome_of}
use Rattle.code_follows.specs.Jumps.{decided}

pub rethrows_some : (i : ℕ) (q : Place) (o : outcomes.Outcome) (e : symbolic.Exception) (es : List symbolic.Exception) → rethrows_caught i q o (e ∷ es) ≡ throwing e i (holding q nothing) o
rethrows_some i q (outcomes.rethrows temporaries rest) e es = refl
rethrows_some i q _ e es = refl

module _ (types : ℕ → Typ) (m : Meaning) (p : Program) (f : Func) where
  -- the source applies another operator
  pub operates_other : (ks : List Fact) (i : ℕ) (q : Place) (op : BinOp) (k : IntKind) (a b : symbolic.Term) (ws : List symbolic.Term) (oq : BinOp) (j : IntKind) (c d : WordId) (o : Bor Outcome) → (same_operator op oq && same_number k j && (same_term a (word_of m c) && same_term b (word_of m d))) ≡ false → operates ks i q op k a b ws (outcome_of types m p f (Results oq j c d o)) ≡ if_found (addresses ks op k a b) (λ w. pushes i q (outcome_of types m p f (Results oq j c d o)) w ws)
  operates_other ks i q op k a b ws oq j c d o h = rw h

  -- it applies none
  pub operates_plain : (ks : List Fact) (i : ℕ) (q : Place) (op : BinOp) (k : IntKind) (a b : symbolic.Term) (ws : List symbolic.Term) (o : Outcome) → ((oq : BinOp) (j : IntKind) (c d : WordId) (then : Bor Outcome) → o ≡ Results oq j c d then → ⊥) → operates ks i q op k a b ws (outcome_of types m p f o) ≡ if_found (addresses ks op k a b) (λ w. pushes i q (outcome_of types m p f o) w ws)
  operates_plain ks i q op k a b ws (Results' oq j c d r o) h = absurd (h oq j c d _ refl)
  operates_plain ks i q op k a b ws (Goes (Does doing) rest) h = refl
  operates_plain ks i q op k a b ws (Goes (Calls callee words) rest) h = refl
  operates_plain ks i q op k a b ws (Goes (Spawns address argument) rest) h = refl
  operates_plain ks i q op k a b ws (Goes Rethrows rest) h = refl
  operates_plain ks i q op k a b ws _ h = refl

  -- it chooses nothing
  pub jumps_plain : (i n : ℕ) (q : Place) (w : symbolic.Term) (ws : List symbolic.Term) (o : Outcome) → ((word : WordId) (zero other : Bor Outcome) → o ≡ Chooses word zero other → ⊥) → jumps_zero i n q w ws (outcome_of types m p f o) ≡ decided i n (with_operands q ws) w (outcome_of types m p f o)
  jumps_plain i n q w ws (Chooses' c r zero s other) h = absurd (h c _ _ refl)
  jumps_plain i n q (symbolic.number value) ws (Goes (Does doing) rest) h = refl
  jumps_plain i n q (symbolic.number value) ws (Goes (Calls callee words) rest) h = refl
  jumps_plain i n q (symbolic.number value) ws (Goes (Spawns address argument) rest) h = refl
  jumps_plain i n q (symbolic.number value) ws (Goes Rethrows rest) h = refl
  jumps_plain i n q (symbolic.number value) ws _ h = refl
  jumps_plain i n q _ ws (Goes (Does doing) rest) h = refl
  jumps_plain i n q _ ws (Goes (Calls callee words) rest) h = refl
  jumps_plain i n q _ ws (Goes (Spawns address argument) rest) h = refl
  jumps_plain i n q _ ws (Goes Rethrows rest) h = refl
  jumps_plain i n q _ ws _ h = refl
