-- Declarators with the token of the name that they declare.
use Rattle.std.proofs.Common.{◌≡◌, ℕ, inl, inr, true, false, refl, sym as back, subst, Option, None}
use Rattle.cpp_syntax.specs.Source.{Source}
use Rattle.cpp_ast.specs.declared.kinds.NodeKind.TheVariants.{MemberDeclarator}
use Rattle.cpp_syntax.specs.declared.positions.Checkpoint.{Checkpoint}
use Rattle.cpp_syntax.specs.Rules.{at_name, Nonterminal, Rule, mark_name, ◌·◌, form, node_at}
use Rattle.cpp_syntax.specs.Grammar.{production}
use Rattle.cpp_syntax.specs.Derivations.{Read, no_read, and_then, first_or, reads_node, positioned, token_of_name, declared_in, kept_apart, Derives}
use Rattle.cpp_syntax.specs.Derivations.{is_mark_name, is_both, is_form, is_node}
use Rattle.cpp_syntax.specs.Lookahead.{lookahead}
use Rattle.cpp_syntax.specs.FirstSets.{rule_nullable}
use Rattle.cpp_syntax.specs.Longest.{NoDerivation, is_free}
use Rattle.cpp_syntax.specs.View.{BuilderState, appended, IsMark}
use Rattle.cpp_syntax.specs.Parsed.{ReadsLongest, NoneOf}
use Rattle.cpp_syntax.proofs.DisjointFirstSets.{apart, never_both}
use Rattle.cpp_syntax.proofs.FirstTerminals.{not_empty, begins_so}
use Rattle.cpp_syntax.proofs.IndependentDerivations.{free, free_none}
use Rattle.cpp_syntax.proofs.LongestMatches.{carry, seq, mark_name_long, first_or_none}
use Rattle.cpp_syntax.proofs.ReaderLoops.{gained_then, long_behind, seq_behind}
use Rattle.cpp_parse_expr.proofs.ReaderAnswers.{made_at_name}
use Rattle.cpp_parse.specs.Alternatives.{named_declarator}
use Rattle.cpp_parse.specs.Answers.{Reaches}

named_read : {s : Source} {q : Rule} {a m b : ℕ} {u v w : BuilderState} (x : ReadsLongest s named_declarator a m None u v)
    → ReadsLongest s q m b None v w → is_free q ≡ true → apart mark_name q ≡ true → apart named_declarator (mark_name · q) ≡ true
    → ReadsLongest s (named_declarator · mark_name · q) a b (token_of_name (declared_in (x.got).trees)) u w
named_read {s = s} {q = q} {a = a} {m = m} {b = b} {u = u} {w = w} x y f d e =
    let t = token_of_name (declared_in (x.got).trees) in
    subst (λ (k : Option ℕ). ReadsLongest s (named_declarator · mark_name · q) a b k u w) (first_or_none t)
    (seq_behind x (record {
      marked = first_or t None;
      got = and_then x.got y.got;
      long = seq mark_name_long (long_behind x.got y f) d;
      gained =
          gained_then u x.got y.got x.gained y.gained;
      ahead = y.ahead;
      inside = y.inside;
    }) e)

-- a member's declarator with what follows it, whose token is the name that it declares
pub member_made : {s : Source} {q : Rule} {a m b : ℕ} {name : Option ℕ} {u v w new : BuilderState} {start : Checkpoint}
    (x : ReadsLongest s named_declarator a m None u v)
    → ReadsLongest s q m b None v w → is_free q ≡ true → apart mark_name q ≡ true → apart named_declarator (mark_name · q) ≡ true
    → name ≡ token_of_name (declared_in (x.got).trees) → IsMark start u
    → ((before : BuilderState) (got : Read) → IsMark start before → w ≡ appended before got → new ≡ appended before
    (reads_node MemberDeclarator (positioned at_name s a name got.trees) name got))
    → ReadsLongest s (node_at at_name MemberDeclarator (named_declarator · mark_name · q)) a b None u new
member_made {s = s} {q = q} {a = a} {b = b} {u = u} {w = w} x y f d e h i g =
    made_at_name (subst (λ (k : Option ℕ). ReadsLongest s (named_declarator · mark_name · q) a b k u w) (back h) (named_read x y f d e)) i g

-- Where no text of a rule is behind one that has a form's text.
pub none_formed : {s : Source} {f : Nonterminal} {q : Rule} {a : ℕ} → NoneOf s (production f · q) a → is_free q ≡ true → NoneOf s (form f · q) a
none_formed x i b k t (is_both (is_form {t = t'} u e g) v h) = let w = free i v in x b _ _ (is_both u (w.behind t') refl)

-- the same of a member's declarator, behind whose longest text the rest has none
pub none_member : {s : Source} {q o : Rule} {a m : ℕ} → Reaches s named_declarator a m → NoneOf s (q · o) m → is_free q ≡ true → is_free o ≡ true
    → rule_nullable (q · o) ≡ false → apart named_declarator (q · o) ≡ true
    → NoneOf s (node_at at_name MemberDeclarator (named_declarator · mark_name · q) · o) a
none_member {s = s} {q = q} {o = o} x n i j e f b k t (is_both (is_node (is_both {s = s'} {m = m'} {k = k'} u (is_both (is_mark_name g h l) v p) p')
    p'' p''') w z) =
    let v' = free i (carry g l v) in
    let w' = free j w in
    let y : Derives (lookahead s) kept_apart s (q · o) no_read m' b _ _ = is_both (v'.behind no_read) (w'.behind _) refl in
    elim ((x.long).longest m' k' s' u) [
      | inl d ↦ never_both (lookahead s) s named_declarator (q · o) m' f d.1 (begins_so y (not_empty y e))
      | inr d ↦ n b _ _ (carry d.0 refl y)
    ]

-- two rules and a third are the first and the other two
pub none_grouped : {s : Source} {p q o : Rule} {a : ℕ} → NoneOf s (p · q · o) a → NoneOf s ((p · q) · o) a
none_grouped x b k t (is_both (is_both u v e) w f) = x b _ t (is_both u (is_both v w refl) refl)

-- no text behind the token of a declared name
pub none_name : {s : Source} {q : Rule} {a : ℕ} → NoneOf s q a → is_free q ≡ true → (r : Read) → NoDerivation (lookahead s) kept_apart s (mark_name · q) r a
none_name n f r b k t (is_both {l = l} (is_mark_name e g h) v i) = free_none f n r b l t (carry e h v)
