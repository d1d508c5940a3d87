-- What comes in the place of variables.
use Rattle.std.specs.Prelude.{ℕ, suc, Option, Some, None, slice_get}
use Rattle.cpp_tree.specs.cpp_types.Typ.{Typ}
use Rattle.symbolic_source.specs.Terms as symbolic
use Rattle.symbolic_source.specs.Replacing as source
use Rattle.symbolic_code.specs.Places.{later}
use Rattle.symbolic_terms.specs.declared.terms.Term.{Term}
use Rattle.symbolic_terms.specs.declared.terms.Exception.{Exception}
use Rattle.symbolic_terms.specs.declared.replacing.Replacing.{Replacing}
use Rattle.symbolic_terms.specs.declared.replacing.Replacing.TheVariants.{Later, Rising, Table}
use Rattle.symbolic_terms.specs.Words.{term_of, exception_of}

-- an exception that comes from elsewhere is the first unknown one
abbrev pub rising : source.Replacing
rising = record { word = λ n. symbolic.variable n; exception = λ n. symbolic.unknown (suc n) }

-- at the types that numbers of types mean
module _ (types : ℕ → Typ) where
  abbrev pub word_or_zero : Option Term → symbolic.Term
  word_or_zero None = symbolic.number 0
  word_or_zero (Some w) = term_of types w

  abbrev pub exception_or_first : Option Exception → symbolic.Exception
  exception_or_first None = symbolic.unknown 0
  exception_or_first (Some e) = exception_of types e

  abbrev pub replacing_of : Replacing → source.Replacing
  replacing_of Later = later
  replacing_of Rising = rising
  replacing_of (Table words exceptions) = record { word = λ n. word_or_zero (slice_get words.now n); exception = λ n. exception_or_first (slice_get exceptions.now n) }
