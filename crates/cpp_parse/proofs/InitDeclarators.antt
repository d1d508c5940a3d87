-- Declarators with what initialises them.
use Rattle.std.proofs.Common.{◌≡◌, ℕ, true, false, refl, sym as back, ◌∙◌, subst, arith, Option, None, true≢false}
use Rattle.cpp_syntax.specs.Source.{Source}
use Rattle.cpp_syntax.specs.Terminals.{comma}
use Rattle.cpp_syntax.specs.Rules.{whole, Naming, named, unnamed, either, in_block, declarator, init_declarator, word, mark_name, ◌·◌, form, optional}
use Rattle.cpp_syntax.specs.Grammar.{initializers}
use Rattle.cpp_syntax.specs.Derivations.{no_read, and_then, token_of_name, declared_in, kept_apart}
use Rattle.cpp_syntax.specs.Lookahead.{lookahead}
use Rattle.cpp_syntax.specs.FirstSets.{need_not_name}
use Rattle.cpp_syntax.specs.Longest.{LongestMatch}
use Rattle.cpp_syntax.specs.View.{BuilderState}
use Rattle.cpp_syntax.specs.Parsed.{ReadsLongest}
use Rattle.cpp_syntax.proofs.DisjointFirstSets.{apart}
use Rattle.cpp_syntax.proofs.IndependentDerivations.{free_long}
use Rattle.cpp_syntax.proofs.LongestMatches.{seq, mark_name_long, first_or_none}
use Rattle.cpp_syntax.proofs.ReaderLoops.{gained_then}

-- What holds of each naming that names.

named_apart : (n : Naming) → need_not_name n ≡ false → apart (form (declarator whole n)) (mark_name · optional initializers) ≡ true
named_apart named e = refl
named_apart in_block e = refl
named_apart unnamed e = absurd (true≢false e)
named_apart either e = absurd (true≢false e)

pub declared_apart : (n : Naming) → need_not_name n ≡ false → apart (form (init_declarator n)) (word comma · form (init_declarator n)) ≡ true
declared_apart named e = refl
declared_apart in_block e = refl
declared_apart unnamed e = absurd (true≢false e)
declared_apart either e = absurd (true≢false e)

pub more_apart : (n : Naming) → need_not_name n ≡ false → apart (word comma · form (init_declarator n)) (word comma · form (init_declarator n)) ≡ true
more_apart named e = refl
more_apart in_block e = refl
more_apart unnamed e = absurd (true≢false e)
more_apart either e = absurd (true≢false e)

-- A declarator and what initialises it. The name that the declarator declares is marked.
pub initialised : {s : Source} (n : Naming) {a m b : ℕ} {k : Option ℕ} {u v w : BuilderState} → need_not_name n ≡ false
    → (x : ReadsLongest s (form (declarator whole n)) a m None u v) → ReadsLongest s (optional initializers) m b None v w
    → k ≡ token_of_name (declared_in (x.got).trees) → ReadsLongest s (form (declarator whole n) · mark_name · optional initializers) a b k u w
initialised {s = s} n {a = a} {b = b} {k = k} {u = u} e x y f =
    let token : Option ℕ = token_of_name (declared_in (x.got).trees) in
    let z = seq x.long (seq mark_name_long (free_long refl y.long x.got) refl) (named_apart n e) in
    record {
      got = and_then x.got y.got;
      long =
          subst (λ (l : Option ℕ). LongestMatch (lookahead s) kept_apart s (form (declarator whole n) · mark_name · optional initializers) no_read a
          b l (and_then x.got y.got)) (first_or_none token ∙ back f) z;
      gained = gained_then u x.got y.got x.gained y.gained;
      ahead = let h = x.ahead in let i = y.ahead in omega (arith, h, i);
      inside = y.inside;
    }
