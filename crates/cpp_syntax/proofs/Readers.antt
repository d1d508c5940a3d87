-- What readers of rules answer, from what the readers of their parts do.
use Rattle.std.proofs.Common.{◌≡◌, ℕ, ◌+◌, ◌<◌, ◌≤◌, Bool, true, false, refl, sym as back, ◌∙◌, ap, arith, subst, List, length, Option, Some, None}
use Rattle.cpp_ast.specs.declared.kinds.NodeKind.{NodeKind}
use Rattle.cpp_syntax.specs.declared.terminal.Terminal.{Terminal}
use Rattle.cpp_syntax.specs.Source.{Source, terminal_at, position_at}
use Rattle.cpp_syntax.specs.Rules.{Nonterminal, Lookahead, Positioning, at_first, Rule, nothing, word, mark, ◌·◌, ◌∣◌, many, form, node_at, wrap, where_, if_}
use Rattle.cpp_syntax.specs.Rules.{unless, optional}
use Rattle.cpp_syntax.specs.Grammar.{production, leaf}
use Rattle.cpp_syntax.specs.Derivations.{Read, no_read, and_then, first_or, reads_node, positioned, kept_apart}
use Rattle.cpp_syntax.specs.Lookahead.{lookahead}
use Rattle.cpp_syntax.specs.FirstSets.{rule_nullable}
use Rattle.cpp_syntax.specs.Longest.{LongestMatch, NoDerivation, is_free}
use Rattle.cpp_syntax.specs.View.{BuilderState, appended}
use Rattle.cpp_syntax.specs.Parsed.{Leaves, ReadsLongest, NoneOf}
use Rattle.cpp_syntax.proofs.DisjointFirstSets.{apart}
use Rattle.cpp_syntax.proofs.LongestMatches.{nothing_long, word_long, mark_long, word_none, mark_none, seq, seq_none, seq_ends, left, right, neither, taken}
use Rattle.cpp_syntax.proofs.LongestMatches.{left_out, form_long, form_none, node_long, node_none}
use Rattle.cpp_syntax.proofs.IndependentDerivations.{and_then_none, and_then_assoc, free_long, free_none}

-- What was gained.

pub appended_none : (v : BuilderState) → v ≡ appended v no_read
appended_none v = ap (λ (r : Read). record { base = v.base; read = r }) (back (and_then_none v.read))

pub appended_both : (v : BuilderState) (r s : Read) → appended (appended v r) s ≡ appended v (and_then r s)
appended_both v r s = ap (λ (t : Read). record { base = v.base; read = t }) (and_then_assoc v.read r s)

pub leaves_none : (v : BuilderState) → Leaves v v
leaves_none v = record { extra = no_read; gained = appended_none v }

pub leaves_same : {v w : BuilderState} → w ≡ v → Leaves v w
leaves_same {v = v} {w = w} e = record { extra = no_read; gained = e ∙ appended_none v }

pub leaves_both : {u v w : BuilderState} → Leaves u v → Leaves v w → Leaves u w
leaves_both {u = u} x y =
    record {
      extra = and_then x.extra y.extra;
      gained = y.gained ∙ ap (λ (z : BuilderState). appended z y.extra) x.gained ∙ appended_both u x.extra
          y.extra;
    }

pub leaves_read : {s : Source} {p : Rule} {a b : ℕ} {k : Option ℕ} {v w : BuilderState} → ReadsLongest s p a b k v w → Leaves v w
leaves_read x = record { extra = x.got; gained = x.gained }

-- One token, and none.

pub reads_nothing : {s : Source} {a : ℕ} {v : BuilderState} → a ≤ length s.terminals → ReadsLongest s nothing a a None v v
reads_nothing {v = v} i = record { got = no_read; long = nothing_long; gained = appended_none v; ahead = omega arith; inside = i }

pub reads_word : {s : Source} {test : Terminal → Bool} {a : ℕ} {v : BuilderState} → test (terminal_at s a) ≡ true → a < length s.terminals
    → ReadsLongest s (word test) a (a + 1) None v v
reads_word {v = v} t i = record { got = no_read; long = word_long t; gained = appended_none v; ahead = omega arith; inside = omega arith }

pub reads_mark : {s : Source} {test : Terminal → Bool} {a : ℕ} {v : BuilderState} → test (terminal_at s a) ≡ true → a < length s.terminals
    → ReadsLongest s (mark test) a (a + 1) (Some a) v v
reads_mark {v = v} t i = record { got = no_read; long = mark_long t; gained = appended_none v; ahead = omega arith; inside = omega arith }

pub reads_leaf : {s : Source} {kind : NodeKind} {test : Terminal → Bool} {a : ℕ} {v w : BuilderState} → test (terminal_at s a) ≡ true
    → a < length s.terminals → w ≡ appended v (reads_node kind (position_at s a) (Some a) no_read)
    → ReadsLongest s (leaf kind test) a (a + 1) None v w
reads_leaf {s = s} {kind = kind} {test = test} {a = a} t i e =
    record {
      got = reads_node kind (position_at s a) (Some a) no_read;
      long = node_long (mark_long t);
      gained = e;
      ahead = omega arith;
      inside =
          omega arith;
    }

-- One rule and then another.

pub reads_seq : {s : Source} {p q : Rule} {a m b : ℕ} {k l : Option ℕ} {u v w : BuilderState} → ReadsLongest s p a m k u v
    → ReadsLongest s q m b l v w → is_free q ≡ true → apart p q ≡ true → ReadsLongest s (p · q) a b (first_or k l) u w
reads_seq {u = u} x y f d = record {
  got = and_then x.got y.got;
  long = seq x.long (free_long f y.long x.got) d;
  gained = y.gained ∙ ap (λ (z : BuilderState). appended z y.got) x.gained ∙ appended_both u x.got y.got;
  ahead = let i = x.ahead in let j = y.ahead in omega arith;
  inside = y.inside;
}

pub none_seq : {s : Source} {p q : Rule} {a : ℕ} → NoneOf s p a → NoneOf s (p · q) a
none_seq x = seq_none x

pub none_behind : {s : Source} {p q : Rule} {a m : ℕ} {k : Option ℕ} {u v : BuilderState} → ReadsLongest s p a m k u v → NoneOf s q m
    → is_free q ≡ true → rule_nullable q ≡ false → apart p q ≡ true → NoneOf s (p · q) a
none_behind x y f e d = seq_ends x.long (free_none f y x.got) e d

-- One rule or another.

pub reads_left : {s : Source} {p q : Rule} {a b : ℕ} {k : Option ℕ} {v w : BuilderState} → ReadsLongest s p a b k v w → NoneOf s q a
    → ReadsLongest s (p ∣ q) a b k v w
reads_left x y = record { got = x.got; long = left x.long y; gained = x.gained; ahead = x.ahead; inside = x.inside }

pub reads_right : {s : Source} {p q : Rule} {a b : ℕ} {k : Option ℕ} {v w : BuilderState} → NoneOf s p a → ReadsLongest s q a b k v w
    → ReadsLongest s (p ∣ q) a b k v w
reads_right x y = record { got = y.got; long = right x y.long; gained = y.gained; ahead = y.ahead; inside = y.inside }

pub reads_taken : {s : Source} {p : Rule} {a b : ℕ} {k : Option ℕ} {v w : BuilderState} → ReadsLongest s p a b k v w → rule_nullable p ≡ false
    → ReadsLongest s (optional p) a b k v w
reads_taken x e = record { got = x.got; long = taken x.long e; gained = x.gained; ahead = x.ahead; inside = x.inside }

pub reads_left_out : {s : Source} {p : Rule} {a : ℕ} {v w : BuilderState} → NoneOf s p a → a ≤ length s.terminals → w ≡ v
    → ReadsLongest s (optional p) a a None v w
reads_left_out {v = v} x i e = record { got = no_read; long = left_out x; gained = e ∙ appended_none v; ahead = omega arith; inside = i }

-- Forms and nodes.

pub reads_form : {s : Source} {f : Nonterminal} {a b : ℕ} {k : Option ℕ} {v w : BuilderState} → ReadsLongest s (production f) a b k v w
    → ReadsLongest s (form f) a b None v w
reads_form x = record { got = x.got; long = form_long x.long; gained = x.gained; ahead = x.ahead; inside = x.inside }

pub none_form : {s : Source} {f : Nonterminal} {a : ℕ} → NoneOf s (production f) a → NoneOf s (form f) a
none_form x = form_none x

-- a node was made of what was read
pub reads_node_at : {s : Source} {positioning : Positioning} {kind : NodeKind} {p : Rule} {a b : ℕ} {k : Option ℕ} {v w x : BuilderState}
    (y : ReadsLongest s p a b k v w)
    → x ≡ appended v (reads_node kind (positioned positioning s a k (y.got).trees) k y.got) → ReadsLongest s (node_at positioning kind p) a b None v x
reads_node_at {s = s} {positioning = positioning} {kind = kind} {a = a} {k = k} y e =
    record {
      got = reads_node kind (positioned positioning s a k (y.got).trees) k y.got;
      long = node_long y.long;
      gained = e;
      ahead = y.ahead;
      inside
          = y.inside;
    }

pub none_node : {s : Source} {positioning : Positioning} {kind : NodeKind} {p : Rule} {a : ℕ} → NoneOf s p a → NoneOf s (node_at positioning kind p) a
none_node x = node_none x
