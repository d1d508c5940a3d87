-- What stands behind an operand, round which it makes a node: operators, suffixes, the parts of a choice.
use Rattle.std.proofs.Common.{◌≡◌, ℕ, Bool, true, false, ◌||◌, refl, sym as back, ◌∙◌, ap, Option, Some, None, true≢false}
use Rattle.cpp_ast.specs.declared.kinds.NodeKind.{NodeKind}
use Rattle.cpp_syntax.specs.declared.positions.Checkpoint.{Checkpoint}
use Rattle.cpp_syntax.specs.Source.{Source}
use Rattle.cpp_syntax.specs.Rules.{Rule, ◌·◌, ◌∣◌, many, wrap, optional}
use Rattle.cpp_syntax.specs.Derivations.{Read, and_then, first_or, position_of_first, reads_node, kept_apart, is_last}
use Rattle.cpp_syntax.specs.FirstSets.{rule_nullable}
use Rattle.cpp_syntax.specs.Lookahead.{lookahead}
use Rattle.cpp_syntax.specs.Longest.{NoDerivation, is_free}
use Rattle.cpp_syntax.specs.View.{BuilderState, appended, IsMark}
use Rattle.cpp_syntax.specs.Parsed.{ReadsLongest, ReadsBehind, NoneOf, has_trees}
use Rattle.cpp_syntax.proofs.DisjointFirstSets.{apart}
use Rattle.cpp_parse_expr.proofs.TreeAdding.{adds_tree, filled, first_stays}
use Rattle.cpp_syntax.proofs.IndependentDerivations.{free_none}
use Rattle.cpp_syntax.proofs.LongestMatches.{seq, taken, left, right, left_out, wrap_none}
use Rattle.cpp_syntax.proofs.ReaderLoops.{gained_then, long_behind, reads_wrap, ReadsChain, loop_wrap}

-- Behind what was read before.

pub taken_behind : {s : Source} {p : Rule} {r : Read} {a b : ℕ} {old new : BuilderState} → ReadsBehind s p old r a b new → rule_nullable p ≡ false
    → ReadsBehind s (optional p) old r a b new
taken_behind x e = record { marked = x.marked; got = x.got; long = taken x.long e; gained = x.gained; ahead = x.ahead; inside = x.inside }

pub left_behind : {s : Source} {p q : Rule} {r : Read} {a b : ℕ} {old new : BuilderState} → ReadsBehind s p old r a b new
    → NoDerivation (lookahead s) kept_apart s q r a → ReadsBehind s (p ∣ q) old r a b new
left_behind x e = record { marked = x.marked; got = x.got; long = left x.long e; gained = x.gained; ahead = x.ahead; inside = x.inside }

pub right_behind : {s : Source} {p q : Rule} {r : Read} {a b : ℕ} {old new : BuilderState} → NoDerivation (lookahead s) kept_apart s p r a
    → ReadsBehind s q old r a b new → ReadsBehind s (p ∣ q) old r a b new
right_behind e x = record { marked = x.marked; got = x.got; long = right e x.long; gained = x.gained; ahead = x.ahead; inside = x.inside }

-- nothing of a second rule stands behind the first
pub first_alone : {s : Source} {p q : Rule} {a m : ℕ} {k : Option ℕ} {old now new : BuilderState} (x : ReadsLongest s p a m k old now) → new ≡ now
    → NoDerivation (lookahead s) kept_apart s q x.got m → apart p (optional q) ≡ true → ReadsLongest s (p · optional q) a m (first_or k None) old new
first_alone {k = k} {old = old} x e n f = record { got = x.got; long = seq x.long (left_out n) f; gained = e ∙ x.gained; ahead = x.ahead; inside = x.inside }

-- no node round a rule that has no text, whatever was read before
pub no_wrap : {s : Source} {kind : NodeKind} {p : Rule} {a : ℕ} → NoneOf s p a → is_free p ≡ true → (r : Read)
    → NoDerivation (lookahead s) kept_apart s (wrap kind p) r a
no_wrap x e r = wrap_none (free_none e x r)

-- what `wrap` makes of all that was read since a mark
abbrev pub Rounds : Source → NodeKind → ℕ → ℕ → Checkpoint → BuilderState → BuilderState → Type 0
Rounds s kind m t start now new =
    (before : BuilderState) (got : Read) → IsMark start before → now ≡ appended before got → new ≡ appended before
    (reads_node kind (position_of_first s m got.trees) (Some t) got)

rounded : (s : Source) (kind : NodeKind) (m t : ℕ) (start : Checkpoint) (old then_ new : BuilderState) (r g : Read) → has_trees r.trees ≡ true
    → IsMark start old → then_ ≡ appended old (and_then r g) → Rounds s kind m t start then_ new
    → new ≡ appended old (reads_node kind (position_of_first s m r.trees) (Some t) (and_then r g))
rounded s kind m t start old then_ new r g h i e f =
    f old (and_then r g) i e ∙ ap (λ z. appended old (reads_node kind z (Some t) (and_then r g))) (first_stays s m r.trees g.trees h)

pub node_behind : {s : Source} {kind : NodeKind} {q : Rule} {m b t : ℕ} {old now then_ new : BuilderState} {start : Checkpoint} (r : Read)
    → now ≡ appended old r → has_trees r.trees ≡ true → (y : ReadsLongest s q m b (Some t) now then_) → is_free q ≡ true → IsMark start old
    → Rounds s kind m t start then_ new → ReadsBehind s (wrap kind q) old r m b new
node_behind {s = s} {kind = kind} {m = m} {t = t} {old = old} {then_ = then_} {new = new} {start = start} r e h y f i g =
    reads_wrap (long_behind r y f) (rounded s kind m t start old then_ new r y.got h i (gained_then old r y.got e y.gained) g) y.ahead y.inside

-- a node round a first rule and a second behind it
pub round_both : {s : Source} {kind : NodeKind} {p q : Rule} {a m b t : ℕ} {k : Option ℕ} {old now then_ new : BuilderState} {start : Checkpoint}
    (x : ReadsLongest s p a m k old now)
    → (y : ReadsLongest s q m b (Some t) now then_) → adds_tree p ≡ true → is_free q ≡ true → IsMark start old → Rounds s kind m t start then_ new
    → ReadsBehind s (wrap kind q) old x.got m b new
round_both x y e f i g = node_behind x.got x.gained (filled (x.long).derives e) y f i g

pub chain_adds : {s : Source} {q p : Rule} {a m : ℕ} {old now : BuilderState} (x : ReadsChain s q p a m old now) → adds_tree q ≡ true
    → has_trees ((x.got).trees) ≡ true
chain_adds {q = q} {p = p} {m = m} x e = filled ((x.chain).derives m None x.got (is_last refl refl refl)) (left_makes (adds_tree q) (adds_tree (many p)) e)
  where
    left_makes : (b c : Bool) → b ≡ true → (b || c) ≡ true
    left_makes true c e = refl
    left_makes false c e = absurd (true≢false (back e))

-- one more rule behind what a loop has read, and a node round all of it
pub loop_round : {s : Source} {kind : NodeKind} {q p : Rule} {a m b t : ℕ} {old now then_ new : BuilderState} {start : Checkpoint}
    (x : ReadsChain s q (wrap kind p) a m old now)
    → (y : ReadsLongest s p m b (Some t) now then_) → adds_tree q ≡ true → is_free p ≡ true → rule_nullable p ≡ false
    → apart (wrap kind p) (wrap kind p) ≡ true → IsMark start old → Rounds s kind m t start then_ new → ReadsChain s q (wrap kind p) a b old new
loop_round x y e f n d i g = loop_wrap x (node_behind x.got x.gained (chain_adds x e) y f i g) n d
