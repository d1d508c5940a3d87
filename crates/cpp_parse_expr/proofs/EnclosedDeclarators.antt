-- What readers of declarators in parentheses, of pointers and references, of types and of parameters answer.
use Rattle.std.proofs.Common.{◌≡◌, ℕ, ◌+◌, ◌<◌, ◌≤◌, inl, inr, true, false, ◌&&◌, refl, sym as back, ◌∙◌, subst, arith, length, Option, Some, None, true≢false}
use Rattle.std.proofs.lemmas.Bool.{and_from, and_parts}
use Rattle.cpp_syntax.specs.Source.{Source, terminal_at}
use Rattle.cpp_syntax.specs.Terminals.{close_paren, void_word, std, colon_colon, tx_exception_word, less, greater}
use Rattle.cpp_syntax.specs.Types.{holds_something}
use Rattle.cpp_syntax.specs.Shapes.{begins_thrown_at}
use Rattle.cpp_syntax.specs.Rules.{whole, Naming, named, unnamed, either, in_block, type_id, declarator, Lookahead, Rule, word, mark, ◌·◌, form, optional}
use Rattle.cpp_syntax.specs.Grammar.{cv_qualifiers, pointer_declarator, parenthesized_declarator, parameter_list, tx_exception}
use Rattle.cpp_syntax.specs.Derivations.{Read, no_read, Bodies, Derives, is_word, is_mark, is_both, is_node, is_where}
use Rattle.cpp_syntax.specs.FirstSets.{need_not_name}
use Rattle.cpp_syntax.specs.View.{BuilderState}
use Rattle.cpp_syntax.specs.Parsed.{ReadsLongest, NoneOf}
use Rattle.cpp_syntax.proofs.DisjointFirstSets.{apart}
use Rattle.cpp_syntax.proofs.LongestMatches.{carry, node_none}
use Rattle.cpp_syntax.proofs.ParameterClauses.{clause, clause_void, clause_kept}
use Rattle.cpp_syntax.proofs.Readers.{appended_none, reads_seq, reads_word, reads_mark, none_behind}
use Rattle.cpp_parse_expr.proofs.ReaderAnswers.{none_second, none_second_mark, reads_to}
use Rattle.cpp_parse_expr.proofs.DeclaratorHeads.{omits}

-- What holds of each naming.

pub qualifiers_apart : (n : Naming) → apart cv_qualifiers (form (declarator whole n)) ≡ true
qualifiers_apart named = refl
qualifiers_apart unnamed = refl
qualifiers_apart either = refl
qualifiers_apart in_block = refl

pub declarator_closed : (n : Naming) → apart (form (declarator whole n)) (word close_paren) ≡ true
declarator_closed named = refl
declarator_closed unnamed = refl
declarator_closed either = refl
declarator_closed in_block = refl

-- A declarator that need not name is never missing.

pub always_there : (s : Source) (n : Naming) (a : ℕ) → need_not_name n ≡ true → NoneOf s (form (declarator whole n)) a → ⊥
always_there s n a e x = let o = omits s n no_read a e in x a None o.after o.text

pub no_pointer : (s : Source) (n : Naming) {a m : ℕ} {v w : BuilderState} → ReadsLongest s cv_qualifiers (a + 1) m None v w
    → NoneOf s (form (declarator whole n)) m → NoneOf s (pointer_declarator whole n) a
no_pointer s named x y = node_none (none_second_mark (none_behind x y refl refl (qualifiers_apart named)))
no_pointer s in_block x y = node_none (none_second_mark (none_behind x y refl refl (qualifiers_apart in_block)))
no_pointer s unnamed {m = m} x y = absurd (always_there s unnamed m refl y)
no_pointer s either {m = m} x y = absurd (always_there s either m refl y)

-- Declarators in parentheses.

pub nothing_held : {s : Source} {n : Naming} {a b : ℕ} {v w : BuilderState} → ReadsLongest s (form (declarator whole n)) (a + 1) b None v w
    → b ≡ a + 1 → NoneOf s (parenthesized_declarator whole n) a
nothing_held {a = a} x e c k t (is_where (is_node (is_both (is_mark u f g h) (is_both {s = s'} {m = m'} {k = k'} y (is_word u' f' g' h') i) j) l m) test) =
    let more : a + 2 < c = grind (arith, test) in
    elim ((x.long).longest m' k' s' (carry f h y)) [
      | inl z ↦ let lt = z.0 in omega (arith, lt, e, f', more)
      | inr z ↦ let at = z.0 in omega (arith, at, e, f', more)
    ]

pub held_closed : {s : Source} {n : Naming} (a b : ℕ) {v w : BuilderState} → ReadsLongest s (form (declarator whole n)) (a + 1) b None v w
    → (b ≡ a + 1 → ⊥) → holds_something s a (b + 1) ≡ true
held_closed a b x e = let le = x.ahead in grind (arith, le, e)

pub none_closed : {s : Source} (n : Naming) {a b : ℕ} {v w : BuilderState} → ReadsLongest s (form (declarator whole n)) a b None v w
    → NoneOf s (word close_paren) b → NoneOf s (form (declarator whole n) · word close_paren) a
none_closed n x y = none_behind x y refl refl (declarator_closed n)

-- std::tx_exception<..>

thrown_parts : (s : Source) (a : ℕ) → begins_thrown_at s a ≡ true
    → (std (terminal_at s a) ≡ true) × (colon_colon (terminal_at s (a + 1)) ≡ true) × (tx_exception_word (terminal_at s (a + 2)) ≡ true) ×
    (less (terminal_at s (a + 3)) ≡ true)
thrown_parts s a e =
    let h = and_parts (std (terminal_at s a) && colon_colon (terminal_at s (a + 1)) && tx_exception_word (terminal_at s (a + 2)))
    (less (terminal_at s (a + 3))) e in
    let i = and_parts (std (terminal_at s a) && colon_colon (terminal_at s (a + 1))) (tx_exception_word (terminal_at s (a + 2))) h.0 in
    let j = and_parts (std (terminal_at s a)) (colon_colon (terminal_at s (a + 1))) i.0 in
    (j.0, j.1, i.1, h.1)

abbrev pub thrown : Rule
thrown = word std · word colon_colon · mark tx_exception_word · word less · form (type_id whole) · word greater

pub thrown_read : (s : Source) {a b : ℕ} {v w : BuilderState} → begins_thrown_at s a ≡ true → a + 4 ≤ length s.terminals
    → ReadsLongest s (form (type_id whole)) (a + 4) b None v w → greater (terminal_at s b) ≡ true → b < length s.terminals
    → ReadsLongest s thrown a (b + 1) (Some (a + 2)) v w
thrown_read s {a = a} {b = b} {v = v} {w = w} e i x t j =
    let p = thrown_parts s a e in
    let two : a + 1 + 1 ≡ a + 2 = omega arith in
    let three : a + 2 + 1 ≡ a + 3 = omega arith in
    let four : a + 3 + 1 ≡ a + 4 = omega arith in
    let last : ReadsLongest s (word less · form (type_id whole) · word greater) (a + 3) (b + 1) None v w =
    reads_seq (reads_to (reads_word p.3 (omega (arith, i))) (back four)) (reads_seq x (reads_word t j) refl refl) refl refl in
    let mid : ReadsLongest s (mark tx_exception_word · word less · form (type_id whole) · word greater) (a + 2) (b + 1) (Some (a + 2)) v w =
    reads_seq (reads_to (reads_mark p.2 (omega (arith, i))) (back three)) last refl refl in
    let second : ReadsLongest s (word colon_colon · mark tx_exception_word · word less · form (type_id whole) · word greater) (a + 1) (b + 1)
    (Some (a + 2)) v w =
    reads_seq (reads_to (reads_word p.1 (omega (arith, i))) (back two)) mid refl refl in
    reads_seq (reads_word p.0 (omega (arith, i))) second refl refl

thrown_begins : {lookahead : Lookahead → ℕ → Type 0} {bodies : Bodies} {source : Source} {r s : Read} {a b : ℕ} {k : Option ℕ}
    → Derives lookahead bodies source thrown r a b k s → begins_thrown_at source a ≡ true
thrown_begins {source = source} {a = a} (is_both {m = m1} (is_word t1 e1 f1 g1) (is_both {m = m2} (is_word t2 e2 f2 g2)
    (is_both {m = m3} (is_mark t3 e3 f3 g3) (is_both (is_word t4 e4 f4 g4) x h4) h3) h2) h1) =
    let at2 : m2 ≡ a + 2 = omega (arith, e1, e2) in
    let at3 : m3 ≡ a + 3 = omega (arith, e1, e2, e3) in
    and_from (std (terminal_at source a) && colon_colon (terminal_at source (a + 1)) && tx_exception_word (terminal_at source (a + 2)))
    (less (terminal_at source (a + 3)))
    (and_from (std (terminal_at source a) && colon_colon (terminal_at source (a + 1))) (tx_exception_word (terminal_at source (a + 2)))
    (and_from (std (terminal_at source a)) (colon_colon (terminal_at source (a + 1))) t1 (subst (λ (n : ℕ). colon_colon (terminal_at source n) ≡ true) e1 t2))
    (subst (λ (n : ℕ). tx_exception_word (terminal_at source n) ≡ true) at2 t3))
    (subst (λ (n : ℕ). less (terminal_at source n) ≡ true) at3 t4)

pub not_thrown : (s : Source) (a : ℕ) → begins_thrown_at s a ≡ false → NoneOf s (tx_exception whole) a
not_thrown s a e = node_none (λ b k t x. true≢false (back (thrown_begins x) ∙ e))

pub thrown_none : (s : Source) (a : ℕ) → NoneOf s (form (type_id whole) · word greater) (a + 4) → NoneOf s (tx_exception whole) a
thrown_none s a x =
    let at : a + 1 + 1 + 1 + 1 ≡ a + 4 = omega arith in
    node_none (none_second (none_second (none_second_mark (none_second (subst (λ (n : ℕ). NoneOf s (form (type_id whole) · word greater) n) (back at) x)))))

-- Parameters.

pub void_clause : {s : Source} {a b : ℕ} {u v w : BuilderState} → ReadsLongest s (optional (parameter_list whole)) a b None u v
    → void_word (terminal_at s a) ≡ true → b ≡ a + 1 → w ≡ u → ReadsLongest s (clause whole) a b None u w
void_clause {s = s} {a = a} {u = u} {w = w} x t e f =
    let i = x.inside in
    let y : ReadsLongest s (clause whole) a (a + 1) None u w = record {
      got = no_read;
      long = clause_void x.long t e;
      gained = f ∙ appended_none u;
      ahead = omega arith;
      inside = omega (arith, i, e);
    } in
    reads_to y e

pub kept_clause : {s : Source} {a b : ℕ} {v w : BuilderState} → ReadsLongest s (optional (parameter_list whole)) a b None v w
    → (void_word (terminal_at s a) ≡ true → b ≡ a + 1 → ⊥) → ReadsLongest s (clause whole) a b None v w
kept_clause x f = record { got = x.got; long = clause_kept x.long f; gained = x.gained; ahead = x.ahead; inside = x.inside }
