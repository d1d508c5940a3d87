-- What was made has a meaning.
use Rattle.std.proofs.Common.{ℕ, ap, Option, Some, None}
use Rattle.std.specs.Prelude.{slice_get}
use Rattle.cpp_tree.specs.cpp_types.Typ.{Typ}
use Rattle.symbolic_source.specs.Terms.{number, unknown, untouched}
use Rattle.symbolic_terms.specs.Words.{term_of, exception_of, puts_of}
use Rattle.symbolic_terms.specs.Meanings.{Meaning, Agrees}
use Rattle.symbolic_terms.specs.declared.words.Words.{Words}
use Rattle.note_landing.specs.declared.compiled.Compiled.{Compiled}
use Rattle.note_landing.specs.declared.notes.Notes.{Notes}
use Rattle.note_landing.specs.Shown.{types_by}
use Rattle.body_notes.specs.Checked.{CheckedBy, HasNotesBy}

abbrev shown_or : {A B : Type 0} → (A → B) → B → Option A → B
shown_or f z None = z
shown_or f z (Some x) = f x

-- each number means what was made with it
abbrev pub meaning_of : (types : ℕ → Typ) → Words → Meaning
meaning_of types made = record {
  word = λ n. shown_or (term_of types) (number 0) (slice_get made.terms.items n);
  exception = λ n. shown_or (exception_of types) (unknown 0) (slice_get made.exceptions.items n);
  puts = λ n. shown_or (puts_of types) untouched (slice_get made.puts.items n);
}

pub agreeing : (types : ℕ → Typ) (made : Words) → Agrees types (meaning_of types made) made
agreeing types made = record {
  words = λ n t e. ap (λ o. shown_or (term_of types) (number 0) o) e;
  exceptions = λ n t e. ap (λ o. shown_or (exception_of types) (unknown 0) o) e;
  puts = λ n t e. ap (λ o. shown_or (puts_of types) untouched o) e;
}

-- notes that fit at each meaning of what was made
pub noted_at : (b : Compiled) (ns : Notes) (made : Words) → ((m : Meaning) → Agrees (types_by b) m made → CheckedBy b m ns) → HasNotesBy b
noted_at b ns made all = record {
  meaning = meaning_of (types_by b) made;
  notes = ns;
  checked = all (meaning_of (types_by b) made) (agreeing (types_by b) made);
}
