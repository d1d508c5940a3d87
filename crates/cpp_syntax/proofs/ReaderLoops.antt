-- Loops of readers, and readers that make nodes of what was read before them: over ReadsLongest and ReadsBehind.
--
-- within source a test refl t                     : a is a token's index, since its terminal passes a test that the end does not
-- reads_mark_next, reads_where, reads_before, reads_if, reads_unless, reads_body; reads_as x y (what was read, as the longest of another rule)
-- long_behind r x refl, behind r e x refl         : what was read by itself, as it stands behind r
-- reads_around x e h i                            : a node round all that was read
-- seq_behind x y refl, at_start x                 : a rule, and behind it one that makes nodes of what it read
-- q · many p, as ReadsChain:  loop_begins x refl; loop_around c y refl refl; loop_more c y refl refl refl; loop_ends c f
--                             loop_operand c t y refl e refl (wrap kind (mark test · p): an operator and its operand)
-- many p, as ReadsMany:       any_begins e h; any_around c y refl refl; any_more c y refl refl refl; any_ends c f
use Rattle.std.proofs.Common.{◌≡◌, ℕ, ◌+◌, ◌<◌, ◌≤◌, inl, inr, Bool, true, false, refl, sym as back, ◌∙◌, ap, arith, length, Option, Some, None, true≢false}
use Rattle.std.proofs.lemmas.Bool.{cases_lt}
use Rattle.std.proofs.lemmas.List.{get_or_past}
use Rattle.cpp_ast.specs.declared.kinds.NodeKind.{NodeKind}
use Rattle.cpp_syntax.specs.declared.terminal.Terminal.{Terminal}
use Rattle.cpp_syntax.specs.declared.terminal.Terminal.TheVariants as terminal
use Rattle.cpp_syntax.specs.Source.{Source, terminal_at, position_at}
use Rattle.cpp_syntax.specs.Terminals.{open_brace, close_brace}
use Rattle.cpp_syntax.specs.Rules.{balanced, Lookahead, Rule, word, mark, mark_next, ◌·◌, many, form, wrap, with_body, where_, before_no, if_, unless}
use Rattle.cpp_syntax.specs.Derivations.{Read, no_read, and_then, first_or, position_of_first, reads_node, with_body_apart, kept_apart}
use Rattle.cpp_syntax.specs.FirstSets.{rule_nullable}
use Rattle.cpp_syntax.specs.Lookahead.{lookahead}
use Rattle.cpp_syntax.specs.Longest.{LongestMatch, NoDerivation, is_free}
use Rattle.cpp_syntax.specs.View.{BuilderState, appended}
use Rattle.cpp_syntax.specs.Parsed.{ReadsLongest, ReadsBehind}
use Rattle.cpp_syntax.proofs.FirstTerminals.{ends_behind}
use Rattle.cpp_syntax.proofs.DisjointFirstSets.{apart}
use Rattle.cpp_syntax.proofs.IndependentDerivations.{free_long}
use Rattle.cpp_syntax.proofs.Readers.{appended_none, appended_both}
use Rattle.cpp_syntax.proofs.LongestMatches.{seq, wrap_long, mark_long, mark_next_long, where_long, before_long, if_long, unless_long, body_long, ManySoFar}
use Rattle.cpp_syntax.proofs.LongestMatches.{many_begins, many_more, many_ends, Chain, chain_begins, chain_more, chain_ends}

pub gained_then : (u : BuilderState) {v w : BuilderState} (r s : Read) → v ≡ appended u r → w ≡ appended v s → w ≡ appended u (and_then r s)
gained_then u r s e f = f ∙ ap (λ (z : BuilderState). appended z s) e ∙ appended_both u r s

-- an index whose terminal is not that of the end is one of the tokens
pub within : (source : Source) (a : ℕ) (test : Terminal → Bool) → test terminal.End ≡ false → test (terminal_at source a) ≡ true → a < length source.terminals
within source a test e f = elim (cases_lt a (length source.terminals)) [
  | inl h ↦ h
  | inr h ↦ absurd (true≢false (back f ∙ ap test (get_or_past source.terminals a terminal.End h) ∙ e))
]

-- More rules of which all trees are one's own.

pub reads_mark_next : {source : Source} {a : ℕ} {v : BuilderState} → a ≤ length source.terminals → ReadsLongest source mark_next a a (Some a) v v
reads_mark_next {v = v} h = record { got = no_read; long = mark_next_long; gained = appended_none v; ahead = omega arith; inside = h }

pub reads_where : {source : Source} {test : Source → ℕ → ℕ → Bool} {p : Rule} {a b : ℕ} {k : Option ℕ} {old new : BuilderState}
    → ReadsLongest source p a b k old new → test source a b ≡ true → ReadsLongest source (where_ test p) a b k old new
reads_where x e = record { got = x.got; long = where_long x.long e; gained = x.gained; ahead = x.ahead; inside = x.inside }

pub reads_before : {source : Source} {test : Terminal → Bool} {p : Rule} {a b : ℕ} {k : Option ℕ} {old new : BuilderState}
    → ReadsLongest source p a b k old new → test (terminal_at source b) ≡ false → ReadsLongest source (before_no test p) a b k old new
reads_before x e = record { got = x.got; long = before_long x.long e; gained = x.gained; ahead = x.ahead; inside = x.inside }

pub reads_if : {source : Source} {look : Lookahead} {p : Rule} {a b : ℕ} {k : Option ℕ} {old new : BuilderState} → lookahead source look a
    → ReadsLongest source p a b k old new → ReadsLongest source (if_ look p) a b k old new
reads_if i x = record { got = x.got; long = if_long i x.long; gained = x.gained; ahead = x.ahead; inside = x.inside }

pub reads_unless : {source : Source} {look : Lookahead} {p : Rule} {a b : ℕ} {k : Option ℕ} {old new : BuilderState} → (lookahead source look a → ⊥)
    → ReadsLongest source p a b k old new → ReadsLongest source (unless look p) a b k old new
reads_unless i x = record { got = x.got; long = unless_long i x.long; gained = x.gained; ahead = x.ahead; inside = x.inside }

-- what was read, as the longest text of another rule
pub reads_as : {source : Source} {p q : Rule} {a b : ℕ} {k l : Option ℕ} {old new : BuilderState} (x : ReadsLongest source p a b k old new)
    → LongestMatch (lookahead source) kept_apart source q no_read a b l x.got → ReadsLongest source q a b l old new
reads_as x y = record { got = x.got; long = y; gained = x.gained; ahead = x.ahead; inside = x.inside }

-- a body in braces, kept apart
pub reads_body : {source : Source} {kind : NodeKind} {p : Rule} {a m n lambda : ℕ} {j : Option ℕ} {u : Read} {old now new : BuilderState}
    (x : ReadsLongest source p a m (Some lambda) old now)
    → apart p (word open_brace) ≡ true → open_brace (terminal_at source m) ≡ true
    → LongestMatch (lookahead source) kept_apart source (form balanced) no_read (m + 1) n j u → close_brace (terminal_at source n) ≡ true
    → new ≡ appended old (with_body_apart kind (position_at source a) lambda (m + 1) n x.got)
    → ReadsLongest source (with_body kind p) a (n + 1) None old new
reads_body {source = source} {m = m} {n = n} x e f y g h =
    record {
      got = _;
      long = body_long x.long e f y g;
      gained = h;
      ahead = let i = x.ahead in let l = ends_behind y.derives in omega (arith, i, l);
      inside = let z = within source n close_brace refl g in omega (arith, z);
    }

-- Behind what was read before.

-- what was read by itself, as it stands behind the rest
pub long_behind : {source : Source} {p : Rule} {a b : ℕ} {k : Option ℕ} {now new : BuilderState} (r : Read) (x : ReadsLongest source p a b k now new)
    → is_free p ≡ true → LongestMatch (lookahead source) kept_apart source p r a b k (and_then r x.got)
long_behind r x f = free_long f x.long r

abbrev pub behind : {source : Source} {p : Rule} {a b : ℕ} {k : Option ℕ} {old now new : BuilderState} (r : Read) → now ≡ appended old r
    → ReadsLongest source p a b k now new → is_free p ≡ true → ReadsBehind source p old r a b new
behind {k = k} {old = old} r e x f =
    record {
      marked = k;
      got = and_then r x.got;
      long = free_long f x.long r;
      gained = gained_then old r x.got e x.gained;
      ahead = x.ahead;
      inside =
          x.inside;
    }

-- a node round all that was read
pub reads_wrap : {source : Source} {kind : NodeKind} {p : Rule} {r : Read} {a b : ℕ} {old new : BuilderState} {k : Option ℕ} {s : Read}
    → LongestMatch (lookahead source) kept_apart source p r a b k s → new ≡ appended old (reads_node kind (position_of_first source a r.trees) k s)
    → a ≤ b → b ≤ length source.terminals → ReadsBehind source (wrap kind p) old r a b new
reads_wrap x e h i = record { marked = None; got = _; long = wrap_long x; gained = e; ahead = h; inside = i }

-- A rule, and then another any number of times: what was read so far.

pub record ReadsChain (source : Source) (q p : Rule) (from next : ℕ) (old new : BuilderState) : Type 0 where
  pub marked : Option ℕ
  pub got : Read
  pub chain : Chain (lookahead source) kept_apart source q p no_read from next marked got
  pub gained : new ≡ appended old got
  pub ahead : from ≤ next
  pub inside : next ≤ length source.terminals

abbrev pub loop_begins : {source : Source} {q p : Rule} {a m : ℕ} {k : Option ℕ} {old now : BuilderState} → ReadsLongest source q a m k old now
    → apart q p ≡ true → ReadsChain source q p a m old now
loop_begins {k = k} x e = record { marked = k; got = x.got; chain = chain_begins x.long e; gained = x.gained; ahead = x.ahead; inside = x.inside }

-- one more, which may look at what was read before
abbrev pub loop_wrap : {source : Source} {q p : Rule} {a m b : ℕ} {old now new : BuilderState} (x : ReadsChain source q p a m old now)
    → ReadsBehind source p old x.got m b new → rule_nullable p ≡ false → apart p p ≡ true → ReadsChain source q p a b old new
loop_wrap x y e f =
    record {
      marked = first_or x.marked y.marked;
      got = y.got;
      chain = chain_more x.chain y.long e f;
      gained = y.gained;
      ahead = let h = x.ahead in
          let i = y.ahead in omega (arith, h, i);
      inside = y.inside;
    }

-- one more, which does not
abbrev pub loop_more : {source : Source} {q p : Rule} {a m b : ℕ} {l : Option ℕ} {old now new : BuilderState} → ReadsChain source q p a m old now
    → ReadsLongest source p m b l now new → is_free p ≡ true → rule_nullable p ≡ false → apart p p ≡ true → ReadsChain source q p a b old new
loop_more x y i e f = loop_wrap x (behind x.got x.gained y i) e f

pub loop_ends : {source : Source} {q p : Rule} {a b : ℕ} {old now : BuilderState} (x : ReadsChain source q p a b old now)
    → ((r : Read) → NoDerivation (lookahead source) kept_apart source p r b) → ReadsLongest source (q · many p) a b x.marked old now
loop_ends x y = record { got = x.got; long = chain_ends x.chain (y x.got); gained = x.gained; ahead = x.ahead; inside = x.inside }

-- The same behind what was read before, without a first rule.

pub record ReadsMany (source : Source) (p : Rule) (before : BuilderState) (read : Read) (from next : ℕ) (new : BuilderState) : Type 0 where
  pub marked : Option ℕ
  pub got : Read
  pub so_far : ManySoFar (lookahead source) kept_apart source p read from next marked got
  pub gained : new ≡ appended before got
  pub ahead : from ≤ next
  pub inside : next ≤ length source.terminals

abbrev pub any_begins : {source : Source} {p : Rule} {r : Read} {a : ℕ} {old v : BuilderState} → v ≡ appended old r → a ≤ length source.terminals
    → ReadsMany source p old r a a v
any_begins {r = r} e h = record { marked = None; got = r; so_far = many_begins; gained = e; ahead = omega arith; inside = h }

abbrev pub any_wrap : {source : Source} {p : Rule} {r : Read} {a m b : ℕ} {old now new : BuilderState} (x : ReadsMany source p old r a m now)
    → ReadsBehind source p old x.got m b new → rule_nullable p ≡ false → apart p p ≡ true → ReadsMany source p old r a b new
any_wrap x y e f =
    record {
      marked = first_or x.marked y.marked;
      got = y.got;
      so_far = many_more x.so_far y.long e f;
      gained = y.gained;
      ahead = let h = x.ahead in
          let j = y.ahead in omega (arith, h, j);
      inside = y.inside;
    }

abbrev pub any_more : {source : Source} {p : Rule} {r : Read} {a m b : ℕ} {l : Option ℕ} {old now new : BuilderState}
    → ReadsMany source p old r a m now → ReadsLongest source p m b l now new → is_free p ≡ true → rule_nullable p ≡ false → apart p p ≡ true
    → ReadsMany source p old r a b new
any_more x y i e f = any_wrap x (behind x.got x.gained y i) e f

pub any_ends : {source : Source} {p : Rule} {r : Read} {a b : ℕ} {old now : BuilderState} → ReadsMany source p old r a b now
    → ((r : Read) → NoDerivation (lookahead source) kept_apart source p r b) → ReadsBehind source (many p) old r a b now
any_ends x y = record { marked = x.marked; got = x.got; long = many_ends x.so_far (y x.got); gained = x.gained; ahead = x.ahead; inside = x.inside }

-- what was read behind nothing
pub at_start : {source : Source} {p : Rule} {a b : ℕ} {old new : BuilderState} (x : ReadsBehind source p old no_read a b new)
    → ReadsLongest source p a b x.marked old new
at_start x = record { got = x.got; long = x.long; gained = x.gained; ahead = x.ahead; inside = x.inside }

-- a rule, and behind it one that makes nodes of what it read
pub seq_behind : {source : Source} {p q : Rule} {a m b : ℕ} {k : Option ℕ} {old now new : BuilderState} (x : ReadsLongest source p a m k old now)
    (y : ReadsBehind source q old x.got m b new)
    → apart p q ≡ true → ReadsLongest source (p · q) a b (first_or k y.marked) old new
seq_behind x y e =
    record {
      got = y.got;
      long = seq x.long y.long e;
      gained = y.gained;
      ahead = let h = x.ahead in let i = y.ahead in omega (arith, h, i);
      inside =
          y.inside;
    }

-- one more operator with an operand behind it, round all that was read
abbrev pub loop_operand : {source : Source} {q p : Rule} {kind : NodeKind} {test : Terminal → Bool} {a m b : ℕ} {l : Option ℕ}
    {old now then_ new : BuilderState} (x : ReadsChain source q (wrap kind (mark test · p)) a m old now)
    → test (terminal_at source m) ≡ true → (y : ReadsLongest source p (m + 1) b l now then_) → is_free p ≡ true
    → new ≡ appended old (reads_node kind (position_of_first source m (x.got).trees) (Some m) (and_then x.got y.got))
    → apart (wrap kind (mark test · p)) (wrap kind (mark test · p)) ≡ true → ReadsChain source q (wrap kind (mark test · p)) a b old new
loop_operand {m = m} x t y i e f =
    loop_wrap x (reads_wrap (seq (mark_long t) (long_behind x.got y i) refl) e (let h = y.ahead in omega (arith, h)) y.inside) refl f
