-- Lists with commas, behind the last item of which a comma may stand, as their readers go over them.
use Rattle.std.proofs.Common.{◌≡◌, ℕ, ◌+◌, ◌<◌, ◌≤◌, true, false, refl, ◌∙◌, arith, length, Option, None}
use Rattle.cpp_syntax.specs.Source.{Source, terminal_at}
use Rattle.cpp_syntax.specs.Terminals.{comma}
use Rattle.cpp_syntax.specs.Rules.{initializer, Rule, word, form, optional}
use Rattle.cpp_syntax.specs.Derivations.{Read, no_read, and_then, first_or, kept_apart}
use Rattle.cpp_syntax.specs.Lookahead.{lookahead}
use Rattle.cpp_syntax.specs.Longest.{LongestMatch, NoDerivation, is_free}
use Rattle.cpp_syntax.specs.View.{BuilderState, appended}
use Rattle.cpp_syntax.specs.Parsed.{Leaves, ReadsLongest, NoneOf}
use Rattle.cpp_syntax.proofs.IndependentDerivations.{free_long, free_none}
use Rattle.cpp_syntax.proofs.CommaLists.{comma_and, AreItems, Listed, listed_begins, listed_more, open_list, begins_goes, open_listed, are_initializers}
use Rattle.cpp_syntax.proofs.CommaLists.{initializers_go}
use Rattle.cpp_syntax.proofs.LongestMatches.{word_long, word_none, seq_none, taken, left_out}
use Rattle.cpp_syntax.proofs.ReaderLoops.{gained_then}
use Rattle.cpp_parse_expr.proofs.ReaderAnswers.{none_second}
use Rattle.cpp_parse_expr.proofs.UnmarkedRules.{reads_unmarked}

-- The items that were read so far.
pub record ReadsListed (source : Source) (item : Rule) (from next : ℕ) (old new : BuilderState) : Type 0 where
  pub marked : Option ℕ
  pub got : Read
  pub listed : Listed (lookahead source) kept_apart source item no_read from next marked got
  pub gained : new ≡ appended old got
  pub ahead : from ≤ next
  pub inside : next ≤ length source.terminals

abbrev pub list_begins : {s : Source} {item : Rule} {a m : ℕ} {k : Option ℕ} {old now : BuilderState} → AreItems item
    → ReadsLongest s item a m k old now → ReadsListed s item a m old now
list_begins {k = k} i x = record { marked = k; got = x.got; listed = listed_begins i x.long; gained = x.gained; ahead = x.ahead; inside = x.inside }

-- a comma, and one more item
abbrev pub list_more : {s : Source} {item : Rule} {a m b : ℕ} {l : Option ℕ} {old now new : BuilderState} → AreItems item
    → ReadsListed s item a m old now → ReadsLongest s (comma_and item) m b l now new → is_free item ≡ true → ReadsListed s item a b old new
list_more {l = l} {old = old} i x y f = record {
  marked = first_or x.marked l;
  got = and_then x.got y.got;
  listed = listed_more i x.listed (free_long f y.long x.got);
  gained = gained_then old x.got y.got x.gained y.gained;
  ahead = let h = x.ahead in let j = y.ahead in omega (arith, h, j);
  inside = y.inside;
}

pub leaves_listed : {s : Source} {item : Rule} {a b : ℕ} {v w : BuilderState} → ReadsListed s item a b v w → Leaves v w
leaves_listed x = record { extra = x.got; gained = x.gained }

-- the items have ended, with or without a comma behind them
list_ended : {s : Source} {item : Rule} {a m b : ℕ} {l : Option ℕ} {old now new : BuilderState} → AreItems item → begins_goes item ≡ true
    → (x : ReadsListed s item a m old now) → NoDerivation (lookahead s) kept_apart s (comma_and item) x.got m
    → LongestMatch (lookahead s) kept_apart s (optional (word comma)) x.got m b l x.got → m ≤ b → b ≤ length s.terminals → new ≡ now
    → ReadsLongest s (open_list item) a b (first_or x.marked l) old new
list_ended i g x n z h j e =
    record { got = x.got; long = open_listed i g x.listed n z; gained = e ∙ x.gained; ahead = let k = x.ahead in omega (arith, k, h); inside = j }

-- Initializers, behind the last of which a comma stands.
pub initializers_and_comma : {s : Source} {a m : ℕ} {old now new : BuilderState} → ReadsListed s (form initializer) a m old now
    → comma (terminal_at s m) ≡ true → m < length s.terminals → NoneOf s (form initializer) (m + 1) → new ≡ now
    → ReadsLongest s (open_list (form initializer)) a (m + 1) None old new
initializers_and_comma x t h n e =
    reads_unmarked (list_ended are_initializers initializers_go x (free_none refl (none_second n) x.got) (taken (word_long t) refl) (omega arith)
    (omega (arith, h)) e) refl

-- And behind which none does.
pub initializers_alone : {s : Source} {a m : ℕ} {old now new : BuilderState} → ReadsListed s (form initializer) a m old now
    → comma (terminal_at s m) ≡ false → new ≡ now → ReadsLongest s (open_list (form initializer)) a m None old new
initializers_alone x t e =
    reads_unmarked (list_ended are_initializers initializers_go x (seq_none (word_none t)) (left_out (word_none t)) (omega arith) x.inside e) refl
