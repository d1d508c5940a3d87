-- What is known of a rule's longest text alone, and what readers answer from it.
use Rattle.std.proofs.Common.{◌≡◌, ℕ, true, false, sym as back, subst, Option, Some, None}
use Rattle.cpp_ast.specs.declared.kinds.NodeKind.{NodeKind}
use Rattle.cpp_syntax.specs.declared.positions.Checkpoint.{Checkpoint}
use Rattle.cpp_syntax.specs.Source.{Source}
use Rattle.cpp_syntax.specs.Rules.{Lookahead, at_token, Rule, mark_next, ◌·◌, ◌∣◌, many, node_at, optional}
use Rattle.cpp_syntax.specs.Derivations.{Read, no_read, reads_node, positioned, Bodies, is_mark_next, is_both, is_left, is_right}
use Rattle.cpp_syntax.specs.FirstSets.{rule_nullable}
use Rattle.cpp_syntax.specs.Longest.{LongestMatch, NoDerivation, is_free}
use Rattle.cpp_syntax.specs.View.{BuilderState, appended, IsMark}
use Rattle.cpp_syntax.specs.Parsed.{Leaves, ReadsLongest, NoneOf}
use Rattle.cpp_syntax.proofs.DisjointFirstSets.{apart}
use Rattle.cpp_syntax.proofs.IndependentDerivations.{free_none}
use Rattle.cpp_syntax.proofs.LongestMatches.{carry, seq_ends, left_out, many_begins, many_ends}
use Rattle.cpp_syntax.proofs.Readers.{reads_node_at}
use Rattle.cpp_syntax.proofs.ReaderLoops.{ReadsMany}
use Rattle.cpp_parse_expr.proofs.ReaderAnswers.{many_done}
use Rattle.cpp_parse.specs.Answers.{Reaches}

pub reached : {s : Source} {p : Rule} {a b : ℕ} {k : Option ℕ} {v w : BuilderState} → ReadsLongest s p a b k v w → Reaches s p a b
reached {k = k} x = record { marked = k; got = x.got; long = x.long; inside = x.inside }

-- behind the longest text of a rule
pub none_reached : {s : Source} {p q : Rule} {a m : ℕ} → Reaches s p a m → NoneOf s q m → is_free q ≡ true → rule_nullable q ≡ false
    → apart p q ≡ true → NoneOf s (p · q) a
none_reached x y f e d = seq_ends x.long (free_none f y x.got) e d

-- behind a rule that may be left out and has no text
pub none_skipped : {s : Source} {p q : Rule} {a : ℕ} → NoneOf s p a → NoneOf s q a → rule_nullable q ≡ false → apart (optional p) q ≡ true
    → NoneOf s (optional p · q) a
none_skipped x y e d = seq_ends (left_out x) y e d

-- behind a rule that may stand any number of times and has no text
pub many_none : {lookahead : Lookahead → ℕ → Type 0} {bodies : Bodies} {source : Source} {p : Rule} {r : Read} {a : ℕ}
    → NoDerivation lookahead bodies source p r a → LongestMatch lookahead bodies source (many p) r a a None r
many_none x = many_ends many_begins x

pub none_marked : {lookahead : Lookahead → ℕ → Type 0} {bodies : Bodies} {source : Source} {q : Rule} {r : Read} {a : ℕ}
    → NoDerivation lookahead bodies source q r a → NoDerivation lookahead bodies source (mark_next · q) r a
none_marked x b k t (is_both {l = l} (is_mark_next e f g) v h) = x b l t (carry e g v)

-- A node that has its position where its token is.
pub made_at_token : {s : Source} {kind : NodeKind} {p : Rule} {a b t : ℕ} {v w x : BuilderState} {start : Checkpoint} (y : ReadsLongest s p a b (Some t) v w)
    → IsMark start v
    → ((before : BuilderState) (got : Read) → IsMark start before → w ≡ appended before got → x ≡ appended before
    (reads_node kind (positioned at_token s a (Some t) got.trees) (Some t) got))
    → ReadsLongest s (node_at at_token kind p) a b None v x
made_at_token {v = v} y m f = reads_node_at y (f v y.got m y.gained)

-- many of a rule, as it was read from nothing
pub many_read : {s : Source} {p : Rule} {a b : ℕ} {old now new : BuilderState} (x : ReadsMany s p old no_read a b now) → x.marked ≡ None
    → NoneOf s p b → is_free p ≡ true → new ≡ now → ReadsLongest s (many p) a b None old new
many_read {s = s} {p = p} {a = a} {b = b} {old = old} x e y f g =
    subst (λ (w : BuilderState). ReadsLongest s (many p) a b None old w) (back g) (many_done x e y f)

pub leaves_any : {s : Source} {p : Rule} {before : BuilderState} {r : Read} {a b : ℕ} {now : BuilderState} → ReadsMany s p before r a b now → Leaves before now
leaves_any x = record { extra = x.got; gained = x.gained }

-- of two rules of which none has a text
pub none_left : {s : Source} {p q : Rule} {a : ℕ} → NoneOf s (p ∣ q) a → NoneOf s p a
none_left n b k t u = n b k t (is_left u)

pub none_right : {s : Source} {p q : Rule} {a : ℕ} → NoneOf s (p ∣ q) a → NoneOf s q a
none_right n b k t u = n b k t (is_right u)

pub leaves_gained : {v w : BuilderState} (r : Read) → w ≡ appended v r → Leaves v w
leaves_gained r e = record { extra = r; gained = e }
