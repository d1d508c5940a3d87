-- A name behind that of a type.
use Rattle.std.proofs.Common.{◌≡◌, ℕ, ◌+◌, ◌<◌, Bool, true, false, refl, sym as back, subst, arith, length, Option, Some, None}
use Rattle.cpp_ast.specs.declared.kinds.NodeKind.{NodeKind}
use Rattle.cpp_syntax.specs.declared.terminal.Terminal.{Terminal}
use Rattle.cpp_syntax.specs.Source.{Source, terminal_at}
use Rattle.cpp_syntax.specs.Terminals.{is_name, colon_colon}
use Rattle.cpp_syntax.specs.Rules.{Lookahead, word, mark, ◌·◌}
use Rattle.cpp_syntax.specs.Grammar.{leaf, type_name}
use Rattle.cpp_syntax.specs.Derivations.{Read, Bodies, Derives, is_node, is_mark, is_both}
use Rattle.cpp_syntax.specs.Longest.{NoDerivation}
use Rattle.cpp_syntax.specs.View.{BuilderState}
use Rattle.cpp_syntax.specs.Parsed.{ReadsLongest}
use Rattle.cpp_syntax.proofs.LongestMatches.{carry, mark_none}
use Rattle.cpp_syntax.proofs.Readers.{reads_seq, reads_word, reads_mark}
use Rattle.cpp_parse_expr.proofs.ReaderAnswers.{none_second, reads_to}

pub leaf_end : {lookahead : Lookahead → ℕ → Type 0} {bodies : Bodies} {source : Source} {kind : NodeKind} {test : Terminal → Bool} {r s : Read}
    {a b : ℕ} {k : Option ℕ}
    → Derives lookahead bodies source (leaf kind test) r a b k s → b ≡ a + 1
leaf_end (is_node (is_mark t e f g) h i) = e

pub qualified_there : {source : Source} {a b : ℕ} {old new : BuilderState} → ReadsLongest source type_name a b None old new
    → colon_colon (terminal_at source (a + 1)) ≡ true → a + 1 < length source.terminals → is_name (terminal_at source (a + 2)) ≡ true
    → a + 2 < length source.terminals → ReadsLongest source (type_name · word colon_colon · mark is_name) a (a + 3) (Some (a + 2)) old new
qualified_there {source = source} {a = a} {b = b} {old = old} {new = new} x t h u i =
    let e : b ≡ a + 1 = leaf_end (x.long).derives in
    let f : b + 1 ≡ a + 2 = omega (arith, e) in
    let y = reads_word {v = new} (subst (λ (n : ℕ). colon_colon (terminal_at source n) ≡ true) (back e) t) (omega (arith, e, h)) in
    let z = reads_mark {v = new} (subst (λ (n : ℕ). is_name (terminal_at source n) ≡ true) (back f) u) (omega (arith, f, i)) in
    let w : ReadsLongest source (type_name · word colon_colon · mark is_name) a (b + 1 + 1) (Some (b + 1)) old new = reads_seq x
    (reads_seq y z refl refl) refl refl in
    subst (λ (n : ℕ). ReadsLongest source (type_name · word colon_colon · mark is_name) a (a + 3) (Some n) old new) f (reads_to w (omega (arith, e)))

-- where no :: and no name stand behind the first token
pub none_qualified : {lookahead : Lookahead → ℕ → Type 0} {bodies : Bodies} {source : Source} {r : Read} {a : ℕ}
    → ((s : Read) → NoDerivation lookahead bodies source (word colon_colon · mark is_name) s (a + 1))
    → NoDerivation lookahead bodies source (type_name · word colon_colon · mark is_name) r a
none_qualified x b k t (is_both {s = s} {l = l} (is_node (is_mark u e f g) h i) v j) = x s b l t (carry e refl v)

pub none_behind_colons : {lookahead : Lookahead → ℕ → Type 0} {bodies : Bodies} {source : Source} {r : Read} (a : ℕ)
    → is_name (terminal_at source (a + 2)) ≡ false → NoDerivation lookahead bodies source (word colon_colon · mark is_name) r (a + 1)
none_behind_colons {source = source} a t =
    let e : a + 1 + 1 ≡ a + 2 = omega arith in none_second (mark_none (subst (λ (n : ℕ). is_name (terminal_at source n) ≡ false) (back e) t))
