-- What a lambda captures: & before a name captures that name.
use Rattle.std.proofs.Common.{◌≡◌, ℕ, ◌+◌, ◌<◌, true, false, not, refl, ◌∙◌, ap, arith, length, Option, Some, None}
use Rattle.cpp_ast.specs.declared.kinds.NodeKind.TheVariants.{CaptureDefault, ReferenceCapture}
use Rattle.cpp_syntax.specs.Source.{Source, terminal_at, position_at}
use Rattle.cpp_syntax.specs.Terminals.{is_name, amp, is_capture_default}
use Rattle.cpp_syntax.specs.Types.{is_before_no_name}
use Rattle.cpp_syntax.specs.Rules.{Lookahead, word, mark, ◌·◌, node, where_}
use Rattle.cpp_syntax.specs.Grammar.{leaf}
use Rattle.cpp_syntax.specs.Derivations.{Read, no_read, reads_node, Bodies, Derives, is_node, is_mark}
use Rattle.cpp_syntax.specs.Longest.{NoDerivation}
use Rattle.cpp_syntax.specs.View.{BuilderState, appended}
use Rattle.cpp_syntax.specs.Parsed.{ReadsLongest}
use Rattle.cpp_syntax.proofs.LongestMatches.{where_refused, word_long, mark_long, node_long, seq}
use Rattle.cpp_parse_expr.proofs.ReaderAnswers.{reads_to}

pub before_no_name : (source : Source) (a b : ℕ) → b ≡ a + 1 → is_name (terminal_at source (a + 1)) ≡ false → is_before_no_name source a b ≡ true
before_no_name source a b e t = ap (λ (n : ℕ). not (is_name (terminal_at source n))) e ∙ ap not t

pub no_default_before : {lookahead : Lookahead → ℕ → Type 0} {bodies : Bodies} {source : Source} {r : Read} {a : ℕ}
    → is_name (terminal_at source (a + 1)) ≡ true
    → NoDerivation lookahead bodies source (where_ is_before_no_name (leaf CaptureDefault is_capture_default)) r a
no_default_before {lookahead = lookahead} {bodies = bodies} {source = source} {r = r} {a = a} t = where_refused only
  where
    only : (b : ℕ) (k : Option ℕ) (s : Read) → Derives lookahead bodies source (leaf CaptureDefault is_capture_default) r a b k s
        → is_before_no_name source a b ≡ false
    only b k s (is_node (is_mark u e f g) h i) = ap (λ (n : ℕ). not (is_name (terminal_at source n))) e ∙ ap not t

-- & and a name
pub reference_there : {source : Source} {a : ℕ} {old new : BuilderState} → amp (terminal_at source a) ≡ true
    → is_name (terminal_at source (a + 1)) ≡ true → a + 1 < length source.terminals
    → new ≡ appended old (reads_node ReferenceCapture (position_at source a) (Some (a + 1)) no_read)
    → ReadsLongest source (node ReferenceCapture (word amp · mark is_name)) a (a + 2) None old new
reference_there {source = source} {a = a} {old = old} {new = new} t u i e =
    let x : ReadsLongest source (node ReferenceCapture (word amp · mark is_name)) a (a + 1 + 1) None old new = record {
      got = reads_node ReferenceCapture (position_at source a) (Some (a + 1)) no_read;
      long = node_long (seq (word_long t) (mark_long u) refl);
      gained = e;
      ahead = omega arith;
      inside = omega (arith, i);
    } in
    reads_to x (omega arith)
