-- Lists with commas, behind the last item of which a comma may stand, as they are read.
use Rattle.std.proofs.Common.{◌≡◌, ℕ, ◌+◌, ◌<◌, ◌≤◌, true, false, refl, ◌∙◌, arith, length, Option, None}
use Rattle.cpp_syntax.specs.Source.{Source, terminal_at}
use Rattle.cpp_syntax.specs.Terminals.{comma}
use Rattle.cpp_syntax.specs.Rules.{form, enumerator_definition}
use Rattle.cpp_syntax.specs.Derivations.{Read, no_read, kept_apart}
use Rattle.cpp_syntax.specs.Lookahead.{lookahead}
use Rattle.cpp_syntax.specs.View.{BuilderState, appended}
use Rattle.cpp_syntax.specs.Parsed.{Leaves, ReadsLongest, NoneOf}
use Rattle.cpp_syntax.proofs.IndependentDerivations.{free_long, free_none}
use Rattle.cpp_syntax.proofs.CommaLists.{Listed, listed_begins, listed_more, open_listed, are_enumerators, enumerators_go}
use Rattle.cpp_syntax.proofs.LongestMatches.{word_long, word_none, taken, left_out, seq_none}
use Rattle.cpp_syntax.proofs.ReaderLoops.{gained_then}
use Rattle.cpp_parse_expr.proofs.ReaderAnswers.{word_and, none_second}
use Rattle.cpp_parse_expr.proofs.UnmarkedRules.{reads_unmarked}
use Rattle.cpp_parse.specs.Alternatives.{enumerators}

-- the enumerators that were read so far
pub record ReadsEnumerators (source : Source) (from next : ℕ) (old new : BuilderState) : Type 0 where
  pub marked : Option ℕ
  pub got : Read
  pub listed : Listed (lookahead source) kept_apart source (form enumerator_definition) no_read from next marked got
  pub gained : new ≡ appended old got
  pub ahead : from ≤ next
  pub inside : next ≤ length source.terminals

pub enumerators_begin : {s : Source} {a m : ℕ} {old now : BuilderState} → ReadsLongest s (form enumerator_definition) a m None old now
    → ReadsEnumerators s a m old now
enumerators_begin x =
    record { marked = None; got = x.got; listed = listed_begins are_enumerators x.long; gained = x.gained; ahead = x.ahead; inside = x.inside }

pub enumerators_more : {s : Source} {a m b : ℕ} {old now new : BuilderState} → ReadsEnumerators s a m old now → comma (terminal_at s m) ≡ true
    → m < length s.terminals → ReadsLongest s (form enumerator_definition) (m + 1) b None now new → ReadsEnumerators s a b old new
enumerators_more {old = old} x t i y =
    let z = word_and t i y refl refl in
    record {
      marked = _;
      got = _;
      listed = listed_more are_enumerators x.listed (free_long refl z.long x.got);
      gained = gained_then old x.got z.got x.gained z.gained;
      ahead = let h = x.ahead in let j = z.ahead in omega (arith, h, j);
      inside = z.inside;
    }

-- no comma follows
pub enumerators_end : {s : Source} {a m : ℕ} {old now : BuilderState} → ReadsEnumerators s a m old now → comma (terminal_at s m) ≡ false
    → ReadsLongest s enumerators a m None old now
enumerators_end x f = reads_unmarked (record {
  got = x.got;
  long = open_listed are_enumerators enumerators_go x.listed (seq_none (word_none f)) (left_out (word_none f));
  gained = x.gained;
  ahead = x.ahead;
  inside = x.inside;
}) refl

-- a comma follows, and no enumerator behind it
pub enumerators_open : {s : Source} {a m : ℕ} {old now new : BuilderState} → ReadsEnumerators s a m old now → comma (terminal_at s m) ≡ true
    → m < length s.terminals → NoneOf s (form enumerator_definition) (m + 1) → new ≡ now → ReadsLongest s enumerators a (m + 1) None old new
enumerators_open x t i n e = reads_unmarked (record {
  got = x.got;
  long = open_listed are_enumerators enumerators_go x.listed (none_second (free_none refl n x.got)) (taken (word_long t) refl);
  gained = e ∙ x.gained;
  ahead = let h = x.ahead in omega (arith, h);
  inside = omega (arith, i);
}) refl

pub leaves_enumerators : {s : Source} {a m : ℕ} {old now : BuilderState} → ReadsEnumerators s a m old now → Leaves old now
leaves_enumerators x = record { extra = x.got; gained = x.gained }
