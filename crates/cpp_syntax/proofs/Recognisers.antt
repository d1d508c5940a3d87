-- What recognisers of shapes answer, from what those of the parts do.
--
-- spans_word, spans_mark, spans_leaf, spans_nothing   : one token, and none
-- spans_seq, spans_left, spans_right, spans_taken, ..  : as the lemmas on longest texts, with the trees left open
-- none_seq, none_after, none_neither, none_form, none_node, none_where : where there is no text
use Rattle.std.proofs.Common.{◌≡◌, ℕ, ◌+◌, ◌<◌, ◌≤◌, Bool, true, false, refl, sym as back, ◌∙◌, ap, arith, subst, List, length, Option, Some, None}
use Rattle.cpp_ast.specs.declared.kinds.NodeKind.{NodeKind}
use Rattle.cpp_syntax.specs.declared.terminal.Terminal.{Terminal}
use Rattle.cpp_syntax.specs.Source.{Source, terminal_at, position_at}
use Rattle.cpp_syntax.specs.Rules.{Nonterminal, Lookahead, Positioning, Rule, nothing, word, mark, ◌·◌, ◌∣◌, many, form, node_at, wrap, where_, if_, unless}
use Rattle.cpp_syntax.specs.Rules.{optional}
use Rattle.cpp_syntax.specs.Grammar.{production, leaf}
use Rattle.cpp_syntax.specs.Derivations.{Read, no_read, and_then, first_or, kept_apart, Derives}
use Rattle.cpp_syntax.specs.Lookahead.{lookahead_types}
use Rattle.cpp_syntax.specs.FirstSets.{rule_nullable, rule_first_set}
use Rattle.cpp_syntax.specs.Longest.{LongestMatch, NoDerivation, is_free}
use Rattle.cpp_syntax.specs.Shapes.{SpansBehind, Spans, NoSpan, KnownFrom}
use Rattle.cpp_syntax.proofs.FirstTerminals.{ends_behind}
use Rattle.cpp_syntax.proofs.DisjointFirstSets.{apart}
use Rattle.cpp_syntax.proofs.IndependentDerivations.{free_long, free_none}
use Rattle.cpp_syntax.proofs.LongestMatches.{nothing_long, word_long, mark_long, seq, seq_none, seq_ends, left, right, neither, taken, left_out, form_long}
use Rattle.cpp_syntax.proofs.LongestMatches.{form_none, node_long, node_none, wrap_long, where_long, if_long, unless_long, ManySoFar, many_begins, many_more}
use Rattle.cpp_syntax.proofs.LongestMatches.{many_ends, Chain, chain_begins, chain_more, chain_ends}
use Rattle.cpp_syntax.proofs.Alternatives.{OnlyEmpty, left_filled}

-- a rule that spans behind nothing does behind anything
pub behind_any : {s : Source} {p : Rule} {a b : ℕ} → Spans s p a b → is_free p ≡ true → (r : Read) → SpansBehind s p r a b
behind_any x f r = record { marked = x.marked; got = and_then r x.got; long = free_long f x.long r }

pub span_ahead : {s : Source} {p : Rule} {r : Read} {a b : ℕ} → SpansBehind s p r a b → a ≤ b
span_ahead x = ends_behind x.long.derives

-- One token, and none.

pub spans_nothing : {s : Source} {a : ℕ} → Spans s nothing a a
spans_nothing = record { marked = None; got = no_read; long = nothing_long }

pub spans_word : {s : Source} {test : Terminal → Bool} {a : ℕ} → test (terminal_at s a) ≡ true → Spans s (word test) a (a + 1)
spans_word t = record { marked = None; got = no_read; long = word_long t }

pub spans_mark : {s : Source} {test : Terminal → Bool} {a : ℕ} → test (terminal_at s a) ≡ true → Spans s (mark test) a (a + 1)
spans_mark {a = a} t = record { marked = Some a; got = no_read; long = mark_long t }

pub spans_node : {s : Source} {positioning : Positioning} {kind : NodeKind} {p : Rule} {a b : ℕ} → Spans s p a b → Spans s (node_at positioning kind p) a b
spans_node x = record { marked = None; got = _; long = node_long x.long }

pub spans_leaf : {s : Source} {kind : NodeKind} {test : Terminal → Bool} {a : ℕ} → test (terminal_at s a) ≡ true → Spans s (leaf kind test) a (a + 1)
spans_leaf t = spans_node (spans_mark t)

pub spans_form : {s : Source} {f : Nonterminal} {a b : ℕ} → Spans s (production f) a b → Spans s (form f) a b
spans_form x = record { marked = None; got = _; long = form_long x.long }

-- One rule and then another.

pub spans_then : {s : Source} {p q : Rule} {a m b : ℕ} (x : Spans s p a m) → SpansBehind s q x.got m b → apart p q ≡ true → Spans s (p · q) a b
spans_then x y e = record { marked = _; got = _; long = seq x.long y.long e }

pub spans_seq : {s : Source} {p q : Rule} {a m b : ℕ} → Spans s p a m → Spans s q m b → is_free q ≡ true → apart p q ≡ true → Spans s (p · q) a b
spans_seq x y f e = spans_then x (behind_any y f x.got) e

pub none_seq : {s : Source} {p q : Rule} {a : ℕ} → NoSpan s p a → NoSpan s (p · q) a
none_seq x = seq_none x

pub none_after : {s : Source} {p q : Rule} {a m : ℕ} → Spans s p a m → NoSpan s q m → is_free q ≡ true → rule_nullable q ≡ false → apart p q ≡ true
    → NoSpan s (p · q) a
none_after x y f e d = seq_ends x.long (free_none f y x.got) e d

-- One rule or another.

pub spans_left : {s : Source} {p q : Rule} {a b : ℕ} → Spans s p a b → NoSpan s q a → Spans s (p ∣ q) a b
spans_left x y = record { marked = x.marked; got = x.got; long = left x.long y }

pub spans_right : {s : Source} {p q : Rule} {a b : ℕ} → NoSpan s p a → Spans s q a b → Spans s (p ∣ q) a b
spans_right x y = record { marked = y.marked; got = y.got; long = right x y.long }

pub spans_filled : {s : Source} {p q : Rule} {a b : ℕ} → Spans s p a b → rule_nullable p ≡ false
    → OnlyEmpty (lookahead_types s) kept_apart s q no_read a → Spans s (p ∣ q) a b
spans_filled x e y = record { marked = x.marked; got = x.got; long = left_filled x.long e y }

pub spans_taken : {s : Source} {p : Rule} {a b : ℕ} → Spans s p a b → rule_nullable p ≡ false → Spans s (optional p) a b
spans_taken x e = record { marked = x.marked; got = x.got; long = taken x.long e }

pub spans_left_out : {s : Source} {p : Rule} {a : ℕ} → NoSpan s p a → Spans s (optional p) a a
spans_left_out x = record { marked = None; got = no_read; long = left_out x }

-- What was read behind a rule, any number of times.

pub record SpansChain (s : Source) (q p : Rule) (a b : ℕ) : Type 0 where
  pub marked : Option ℕ
  pub got : Read
  pub chain : Chain (lookahead_types s) kept_apart s q p no_read a b marked got

pub chain_starts : {s : Source} {q p : Rule} {a m : ℕ} → Spans s q a m → apart q p ≡ true → SpansChain s q p a m
chain_starts x e = record { marked = x.marked; got = x.got; chain = chain_begins x.long e }

pub chain_goes : {s : Source} {q p : Rule} {a m b : ℕ} → SpansChain s q p a m → Spans s p m b → is_free p ≡ true → rule_nullable p ≡ false
    → apart p p ≡ true → SpansChain s q p a b
chain_goes x y f e d = let z = behind_any y f x.got in record { marked = _; got = _; chain = chain_more x.chain z.long e d }

pub chain_stops : {s : Source} {q p : Rule} {a b : ℕ} → SpansChain s q p a b → NoSpan s p b → is_free p ≡ true → Spans s (q · many p) a b
chain_stops x y f = record { marked = x.marked; got = x.got; long = chain_ends x.chain (free_none f y x.got) }

pub chain_ahead : {s : Source} {q p : Rule} {a b : ℕ} → SpansChain s q p a b → a ≤ b
chain_ahead x = x.chain.behind

pub record SpansMany (s : Source) (p : Rule) (r : Read) (a b : ℕ) : Type 0 where
  pub marked : Option ℕ
  pub got : Read
  pub so_far : ManySoFar (lookahead_types s) kept_apart s p r a b marked got

pub many_starts : {s : Source} {p : Rule} {r : Read} {a : ℕ} → SpansMany s p r a a
many_starts {r = r} = record { marked = None; got = r; so_far = many_begins }

pub many_goes : {s : Source} {p : Rule} {r : Read} {a m b : ℕ} (x : SpansMany s p r a m) → SpansBehind s p x.got m b → rule_nullable p ≡ false
    → apart p p ≡ true → SpansMany s p r a b
many_goes x y e d = record { marked = _; got = _; so_far = many_more x.so_far y.long e d }

pub many_stops : {s : Source} {p : Rule} {r : Read} {a b : ℕ} (x : SpansMany s p r a b) → NoDerivation (lookahead_types s) kept_apart s p x.got b
    → SpansBehind s (many p) r a b
many_stops x y = record { marked = x.marked; got = x.got; long = many_ends x.so_far y }

pub many_ahead : {s : Source} {p : Rule} {r : Read} {a b : ℕ} → SpansMany s p r a b → a ≤ b
many_ahead x = x.so_far.behind

-- what is known of parameters from an index on is known from later ones on
pub known_later : (s : Source) (table : List ℕ) (a b : ℕ) → a ≤ b → KnownFrom s table a → KnownFrom s table b
known_later s table a b h known c i = known c (omega (arith, h, i))
