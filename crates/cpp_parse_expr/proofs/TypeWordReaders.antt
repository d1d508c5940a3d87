-- The words of a type, as many as spell one.
use Rattle.std.proofs.Common.{◌≡◌, ℕ, ◌<◌, inl, inr, true, refl, sym as back, subst, arith, Option, None}
use Rattle.std.proofs.lemmas.Bool.{cases_lt}
use Rattle.cpp_ast.specs.declared.kinds.NodeKind.TheVariants.{SimpleTypeSpecifier}
use Rattle.cpp_syntax.specs.Source.{Source, terminal_at}
use Rattle.cpp_syntax.specs.Terminals.{is_type_word}
use Rattle.cpp_syntax.specs.Types.{spells_a_type}
use Rattle.cpp_syntax.specs.Shapes.{AreTypeWords, BehindWords}
use Rattle.cpp_syntax.specs.Rules.{Lookahead, many, some, where_}
use Rattle.cpp_syntax.specs.Grammar.{leaf}
use Rattle.cpp_syntax.specs.Derivations.{Read, Bodies, Derives, is_node, is_mark, is_last, is_more}
use Rattle.cpp_syntax.specs.View.{BuilderState}
use Rattle.cpp_syntax.specs.Parsed.{ReadsLongest}
use Rattle.cpp_syntax.proofs.Alternatives.{where_chain}
use Rattle.cpp_syntax.proofs.ReaderLoops.{ReadsChain}

-- each token of some words is one
pub each_word : {lookahead : Lookahead → ℕ → Type 0} {bodies : Bodies} {source : Source} {r s : Read} {a b : ℕ} {k : Option ℕ}
    → Derives lookahead bodies source (many (leaf SimpleTypeSpecifier is_type_word)) r a b k s → AreTypeWords source a b
each_word (is_last e f g) c h i = absurd (omega (arith, e, h, i))
each_word {source = source} (is_more {a = a} (is_node (is_mark t e f g) x y) u j) c h i = elim (cases_lt a c) [
  | inl l ↦ each_word u c (omega (arith, e, l)) i
  | inr l ↦ let same : a ≡ c = omega (arith, h, l) in subst (λ (n : ℕ). is_type_word (terminal_at source n) ≡ true) same t
]

both_words : (source : Source) (a m b : ℕ) → AreTypeWords source a m → AreTypeWords source m b → AreTypeWords source a b
both_words source a m b x y c h i = elim (cases_lt c m) [ inl l ↦ x c h l | inr l ↦ y c l i ]

-- words up to the end of those that spell a type
pub reads_words : {source : Source} {a b next : ℕ} {old now : BuilderState} → BehindWords source a b
    → (x : ReadsChain source (leaf SimpleTypeSpecifier is_type_word) (leaf SimpleTypeSpecifier is_type_word) a next old now) → x.marked ≡ None
    → next ≡ b → a < b → ReadsLongest source (where_ spells_a_type (some (leaf SimpleTypeSpecifier is_type_word))) a next None old now
reads_words {source = source} {a = a} {next = next} {old = old} {now = now} w x e f lt =
    let y : ReadsLongest source (where_ spells_a_type (some (leaf SimpleTypeSpecifier is_type_word))) a next x.marked old now = record {
      got = x.got;
      long =
          where_chain x.chain (subst (λ (n : ℕ). spells_a_type source a n ≡ true) (back f) (w.spells lt)) refl
          (λ c l o u h. w.no_more c (omega (arith, f, h)) (both_words source a next c (subst (λ (n : ℕ). AreTypeWords source a n) (back f) w.words)
          (each_word u)));
      gained = x.gained;
      ahead = x.ahead;
      inside = x.inside;
    } in
    subst (λ (k : Option ℕ). ReadsLongest source (where_ spells_a_type (some (leaf SimpleTypeSpecifier is_type_word))) a next k old now) e y
