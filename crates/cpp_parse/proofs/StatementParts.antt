-- What readers of the parts of statements answer.
use Rattle.std.proofs.Common.{◌≡◌, ℕ, ◌+◌, ◌<◌, ◌≤◌, Bool, true, false, not, refl, sym as back, arith, length, Option, Some, None, Result, Ok, Err}
use Rattle.std.proofs.lemmas.Bool.{not_from_false}
use Rattle.std.specs.declared.alloc.AllocError.{AllocError}
use Rattle.cpp_ast.specs.declared.kinds.NodeKind.{NodeKind}
use Rattle.cpp_ast.specs.declared.kinds.NodeKind.TheVariants.{Absent}
use Rattle.cpp_syntax.specs.declared.terminal.Terminal.{Terminal}
use Rattle.cpp_syntax.specs.Source.{Source, terminal_at, position_at}
use Rattle.cpp_syntax.specs.Terminals.{semicolon}
use Rattle.cpp_syntax.specs.Rules.{whole, in_block, type_specifier_seq, init_declarator, block_declaration, expression, Lookahead, Rule, nothing, word, ◌·◌}
use Rattle.cpp_syntax.specs.Rules.{form, node, many, if_}
use Rattle.cpp_syntax.specs.Grammar.{list, optional_expression}
use Rattle.cpp_syntax.specs.Derivations.{no_read, reads_node}
use Rattle.cpp_syntax.specs.Lookahead.{lookahead}
use Rattle.cpp_syntax.specs.Longest.{is_free}
use Rattle.cpp_syntax.specs.View.{BuilderState, appended}
use Rattle.cpp_syntax.specs.Parsed.{Leaves, ReadsLongest, NoneOf, ParsesLongest}
use Rattle.cpp_syntax.proofs.Alternatives.{left_filled, empty_always}
use Rattle.cpp_syntax.proofs.IndependentDerivations.{free_none}
use Rattle.cpp_syntax.proofs.LongestMatches.{nothing_long, word_long, mark_long, seq, node_long, node_none, form_none, mark_next_long, seq_ends, if_none}
use Rattle.cpp_syntax.proofs.Readers.{leaves_read}
use Rattle.cpp_syntax.proofs.ReaderLoops.{ReadsMany, any_ends, at_start, reads_if, reads_as}
use Rattle.cpp_parse_expr.proofs.ReaderAnswers.{none_unlike, reads_to}
use Rattle.cpp_parse_expr.proofs.UnmarkedRules.{marks_none, reads_unmarked}
use Rattle.cpp_parse.specs.Lines.{jump}

pub parsed_if : (s : Source) (look : Lookahead) (p : Rule) (a : ℕ) (k : Option ℕ) (v w : BuilderState) (r : Result (Option ℕ) AllocError)
    → lookahead s look a → ParsesLongest s p a k v w r → ParsesLongest s (if_ look p) a k v w r
parsed_if s look p a k v w (Ok (Some next)) i h = reads_if i h
parsed_if s look p a k v w (Ok None) i h = (h.0, if_none h.1)
parsed_if s look p a k v w (Err x) i h = h

-- something was read, or nothing
pub leaves_any : (s : Source) (p : Rule) (a : ℕ) (k : Option ℕ) (v w : BuilderState) (r : Result (Option ℕ) AllocError) → ParsesLongest s p a k v w r
    → Leaves v w
leaves_any s p a k v w (Ok (Some next)) h = leaves_read h
leaves_any s p a k v w (Ok None) h = h.0
leaves_any s p a k v w (Err x) h = h

-- a node that says that there is none
pub absent_there : {s : Source} {a : ℕ} {old new : BuilderState} → a ≤ length s.terminals
    → new ≡ appended old (reads_node Absent (position_at s a) None no_read) → ReadsLongest s (node Absent nothing) a a None old new
absent_there {s = s} {a = a} i e =
    record { got = reads_node Absent (position_at s a) None no_read; long = node_long nothing_long; gained = e; ahead = omega arith; inside = i }

-- an expression that may be left out is there
pub expression_there : {s : Source} {a b : ℕ} {old new : BuilderState} → ReadsLongest s (form expression) a b None old new
    → ReadsLongest s optional_expression a b None old new
expression_there x = reads_as x (left_filled x.long refl (empty_always refl))

-- a word and a semicolon
pub jump_there : {s : Source} {kind : NodeKind} (word_ : Terminal → Bool) {a : ℕ} {old new : BuilderState} → word_ (terminal_at s a) ≡ true
    → semicolon (terminal_at s (a + 1)) ≡ true → a + 1 < length s.terminals → new ≡ appended old (reads_node kind (position_at s a) (Some a) no_read)
    → ReadsLongest s (jump kind word_) a (a + 2) None old new
jump_there {s = s} {kind = kind} word_ {a = a} {old = old} {new = new} t u i e =
    let two : a + 1 + 1 ≡ a + 2 = omega arith in
    let x : ReadsLongest s (jump kind word_) a (a + 1 + 1) None old new = record {
      got = reads_node kind (position_at s a) (Some a) no_read;
      long =
          node_long (seq (mark_long t) (word_long u) refl);
      gained = e;
      ahead = omega arith;
      inside = omega (arith, i);
    } in
    reads_to x (back two)

-- all texts of a rule that stand one behind the other
pub all_read : {s : Source} {p : Rule} {a b : ℕ} {old now : BuilderState} → ReadsMany s p old no_read a b now → NoneOf s p b → is_free p ≡ true
    → marks_none p ≡ true → ReadsLongest s (many p) a b None old now
all_read x n f e = reads_unmarked (at_start (any_ends x (free_none f n))) e

-- Declarations in a block.

abbrev pub declared_rest : Rule
declared_rest = form (type_specifier_seq whole) · list (form (init_declarator in_block)) · word semicolon

pub none_declared : {s : Source} {a : ℕ} → a ≤ length s.terminals → NoneOf s declared_rest a → NoneOf s (form block_declaration) a
none_declared {s = s} {a = a} h n = form_none (node_none (seq_ends mark_next_long n refl refl))

-- nothing, where a semicolon does not stand
pub none_left_out : {s : Source} {a : ℕ} → semicolon (terminal_at s a) ≡ false → NoneOf s (node Absent nothing · word semicolon) a
none_left_out {s = s} {a = a} e = none_unlike (λ z. not (semicolon z)) (not_from_false (semicolon (terminal_at s a)) e) refl refl
