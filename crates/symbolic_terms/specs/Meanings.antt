-- What the numbers of words, of exceptions and of what was put into exceptions mean.
use Rattle.std.specs.Prelude.{ℕ, ◌≡◌, List, [], ◌∷◌, Some, slice_get}
use Rattle.cpp_tree.specs.cpp_types.Typ.{Typ}
use Rattle.symbolic_source.specs.Terms as symbolic
use Rattle.symbolic_terms.specs.declared.ids.WordId.{WordId}
use Rattle.symbolic_terms.specs.declared.ids.ExceptionId.{ExceptionId}
use Rattle.symbolic_terms.specs.declared.ids.PutsId.{PutsId}
use Rattle.symbolic_terms.specs.declared.ids.Terms.{Terms}
use Rattle.symbolic_terms.specs.declared.ids.Terms.TheVariants.{Empty, More'}
use Rattle.symbolic_terms.specs.declared.ids.Exceptions.{Exceptions}
use Rattle.symbolic_terms.specs.declared.ids.Exceptions.TheVariants.{Empty as NoExceptions, More' as MoreExceptions}
use Rattle.symbolic_terms.specs.declared.terms.Term.{Term}
use Rattle.symbolic_terms.specs.declared.terms.Exception.{Exception}
use Rattle.symbolic_terms.specs.declared.terms.Puts.{Puts}
use Rattle.symbolic_terms.specs.declared.words.Words.{Words}
use Rattle.symbolic_terms.specs.Words.{term_of, exception_of, puts_of}

pub record Meaning : Type 0 where
  pub word : ℕ → symbolic.Term
  pub exception : ℕ → symbolic.Exception
  pub puts : ℕ → symbolic.Puts

module _ (m : Meaning) where
  abbrev pub word_of : WordId → symbolic.Term
  word_of w = m.word w.number

  abbrev pub thrown_of : ExceptionId → symbolic.Exception
  thrown_of e = m.exception e.number

  abbrev pub given_of : PutsId → symbolic.Puts
  given_of q = m.puts q.number

  abbrev pub words_of : Terms → List symbolic.Term
  words_of Empty = []
  words_of (More' w p ws) = word_of w ∷ words_of ws

  abbrev pub all_thrown : Exceptions → List symbolic.Exception
  all_thrown NoExceptions = []
  all_thrown (MoreExceptions e p es) = thrown_of e ∷ all_thrown es

-- at the types that numbers of types mean, each number that was given means what was made with it
pub record Agrees (types : ℕ → Typ) (m : Meaning) (made : Words) : Type 0 where
  pub words : (n : ℕ) (t : Term) → slice_get made.terms.items n ≡ Some t → m.word n ≡ term_of types t
  pub exceptions : (n : ℕ) (e : Exception) → slice_get made.exceptions.items n ≡ Some e → m.exception n ≡ exception_of types e
  pub puts : (n : ℕ) (q : Puts) → slice_get made.puts.items n ≡ Some q → m.puts n ≡ puts_of types q
