-- What stands before the type of a declaration.
use Rattle.std.proofs.Common.{◌≡◌, ℕ, ◌+◌, ◌<◌, ◌≤◌, true, refl, subst, arith, length, Some, None}
use Rattle.cpp_ast.specs.declared.kinds.NodeKind.TheVariants.{Attribute}
use Rattle.cpp_syntax.specs.Source.{Source, terminal_at, position_at}
use Rattle.cpp_syntax.specs.Terminals.{open_bracket, close_bracket, optimize_word}
use Rattle.cpp_syntax.specs.Grammar.{attribute}
use Rattle.cpp_syntax.specs.Derivations.{no_read, reads_node, kept_apart}
use Rattle.cpp_syntax.specs.Lookahead.{lookahead}
use Rattle.cpp_syntax.specs.Longest.{LongestMatch}
use Rattle.cpp_syntax.specs.View.{BuilderState, appended}
use Rattle.cpp_syntax.specs.Parsed.{ReadsLongest, NoneOf}
use Rattle.cpp_syntax.proofs.LongestMatches.{word_long, mark_long, node_long, seq, taken, left_out}
use Rattle.cpp_parse.specs.Alternatives.{optional_attribute}
use Rattle.cpp_parse.specs.Answers.{Reaches, IsAttribute}

-- an attribute, token by token
pub attribute_there : (s : Source) (a : ℕ) → open_bracket (terminal_at s a) ≡ true → open_bracket (terminal_at s (a + 1)) ≡ true
    → optimize_word (terminal_at s (a + 1 + 1)) ≡ true → close_bracket (terminal_at s (a + 1 + 1 + 1)) ≡ true
    → close_bracket (terminal_at s (a + 1 + 1 + 1 + 1)) ≡ true → a + 1 + 1 + 1 + 1 < length s.terminals → IsAttribute s a (a + 1 + 1 + 1 + 1 + 1)
attribute_there s a t u v w x i =
    let e : a + 1 + 1 ≡ a + 2 = omega arith in
    record {
      long =
          subst (λ (n : ℕ). LongestMatch (lookahead s) kept_apart s attribute no_read a (a + 1 + 1 + 1 + 1 + 1) None
          (reads_node Attribute (position_at s a) (Some n) no_read)) e
          (node_long (seq (word_long t) (seq (word_long u) (seq (mark_long v) (seq (word_long w) (word_long x) refl) refl) refl) refl));
      end = omega arith;
      inside = omega (arith, i);
    }

pub attribute_read : {s : Source} {a b : ℕ} {v w : BuilderState} (x : IsAttribute s a b)
    → w ≡ appended v (reads_node Attribute (position_at s a) (Some (a + 2)) no_read) → ReadsLongest s attribute a b None v w
attribute_read x e = record { got = _; long = x.long; gained = e; ahead = let i = x.end in omega (arith, i); inside = x.inside }

pub attribute_taken : {s : Source} {a b : ℕ} → IsAttribute s a b → Reaches s optional_attribute a b
attribute_taken x = record { marked = _; got = _; long = taken x.long refl; inside = x.inside }

pub attribute_left_out : {s : Source} {a : ℕ} → NoneOf s attribute a → a ≤ length s.terminals → Reaches s optional_attribute a a
attribute_left_out x h = record { marked = _; got = _; long = left_out x; inside = h }
