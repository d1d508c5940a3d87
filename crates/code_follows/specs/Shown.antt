-- What comes of an instruction.
use Rattle.std.specs.Prelude.{ℕ}
use Rattle.cpp_tree.specs.cpp_types.Typ.{Typ}
use Rattle.symbolic_source.specs.Outcomes.{Outcome, goes, chooses, results, finds, spawns, rethrows}
use Rattle.symbolic_code.specs.Places as places
use Rattle.symbolic_code.specs.Following as code
use Rattle.symbolic_terms.specs.Meanings.{Meaning, word_of, thrown_of}
use Rattle.symbolic_terms.specs.Shown.{place_of}
use Rattle.code_follows.specs.declared.next.Course.{Course}
use Rattle.code_follows.specs.declared.next.Course.TheVariants.{Quietly, EitherWay, Chosen, UnlessTrap, Finding, Throwing, Loudly, Starting, Rethrowing}
use Rattle.code_follows.specs.declared.next.Next.{Next}
use Rattle.code_follows.specs.declared.next.Next.TheVariants.{Refused, Goes, Ends}

-- where the source does this next; what it is to do too, it does
module _ (m : Meaning) where
  abbrev pub coming : Course → (index : ℕ) → places.Place → Outcome → code.Next
  coming Quietly i q o = code.quietly i q o
  coming (EitherWay word target) i q o = code.either_way (word_of m word) (code.quietly target q o) (code.quietly i q o)
  coming (Chosen word target) i q (chooses w first other) = code.either_way (word_of m word) (code.quietly target q first) (code.quietly i q other)
  coming (Chosen word target) i q o = code.refused
  coming (UnlessTrap op kind left right) i q (results oq j a b o) = code.unless_trap op kind (word_of m left) (word_of m right) (code.quietly i q o)
  coming (UnlessTrap op kind left right) i q o = code.refused
  coming (Finding class slot address) i q (finds c s a o) = code.finding class slot (word_of m address) (code.quietly i q o)
  coming (Finding class slot address) i q o = code.refused
  coming (Throwing exception) i q o = code.throwing (thrown_of m exception) i q o
  coming Loudly i q (goes doing temporaries rest) = code.loudly doing temporaries rest i q
  coming Loudly i q o = code.refused
  coming Starting i q (spawns address argument temporaries rest) = code.starting address argument temporaries rest i q
  coming Starting i q o = code.refused
  coming Rethrowing i q (rethrows temporaries rest) = code.rethrowing temporaries rest i q
  coming Rethrowing i q o = code.refused

-- at what numbers of types, of words and of exceptions mean
module _ (types : ℕ → Typ) (m : Meaning) where
  abbrev pub next_of : Next → Outcome → code.Next
  next_of Refused o = code.refused
  next_of (Goes course index place) o = coming m course index (place_of types m place) o
  next_of (Ends end) o = code.ends end
