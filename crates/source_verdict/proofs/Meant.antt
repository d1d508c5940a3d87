-- What elaboration says of units, said of the texts that they were read from.
use Rattle.std.proofs.Common.{◌≡◌, ℕ, suc, List, [], ◌∷◌, length, sym, subst, ◌∙◌, arith}
use Rattle.cpp_ast.specs.declared.units.Unit.{Unit as UnitRecord}
use Rattle.cpp_ast.specs.Trees.{Trees}
use Rattle.cpp_lex.specs.Tokens.{Lexeme, IsTokens}
use Rattle.cpp_syntax.specs.Classes.{source_of}
use Rattle.cpp_syntax.specs.Lookahead.{IsUnit}
use Rattle.cpp_tree.specs.Units.{TypedProgram}
use Rattle.cpp_tree.specs.declared.faults.ElabFault.{ElabFault}
use Rattle.cpp_tree.specs.declared.faults.ElabFault.TheVariants.{Ill, Override, JumpIntoBlock, Limit, Memory}
use Rattle.elab_rules.specs.Programs.{Source}
use Rattle.elab_units.specs.Outcomes.{UnlessMemory}
use Rattle.elab_units.specs.Programs.{IsProgram, IsFault}
use Rattle.elab_units.specs.Sources.{IsSource, AreFirst}
use Rattle.unit_syntax.specs.Whole.{IsWhole}
use Rattle.source_verdict.specs.Front.{IsRead, AreRead}
use Rattle.source_verdict.specs.Elaborated.{IsSourceOf, AreSourcesOf, AreFirstSources, HasProgram, HasFault}
use Rattle.source_verdict.specs.Verdict.{RefusesFault, RefusesTexts, faulty}
use Rattle.command_io.specs.Writes.{Written}
use Rattle.tx_answers.specs.declared.answer.Answer.{Answer}

abbrev pub OneWhole : Type 0
OneWhole = (unit : UnitRecord) (decls others : Trees) → IsWhole unit decls → IsWhole unit others → decls ≡ others

-- the source of a unit is that of the text which the unit was read from
pub source_read : OneWhole → (n : ℕ) (text : List ℕ) (u : UnitRecord) (x : Source) → IsRead n text u → IsSource u x → IsSourceOf n text x
source_read one n text u x read is =
    let tokens : read.tokens ≡ x.tokens = sym (is.tokens ∙ read.parsed.shows.tokens_are) in
    let decls : read.parsed.decls ≡ x.decls = one u read.parsed.decls x.decls read.parsed.shows.shows is.decls in
    record {
      lexed = subst (IsTokens text) tokens read.lexed;
      derives = subst (λ (ts : Trees). IsUnit (source_of n x.tokens) ts) decls
          (subst (λ (ls : List Lexeme). IsUnit (source_of n ls) read.parsed.decls) tokens read.parsed.derives);
    }

pub first_read : OneWhole → (n : ℕ) (texts : List (List ℕ)) (us : List UnitRecord) (xs : List Source) → AreRead n texts us → AreFirst us xs
    → AreFirstSources n texts xs
first_read one n texts us [] read first = tt
first_read one n [] [] (x ∷ xs) read first = elim first [ ]
first_read one n [] (u ∷ us) (x ∷ xs) read first = elim read [ ]
first_read one n (text ∷ texts) [] (x ∷ xs) read first = elim read [ ]
first_read one n (text ∷ texts) (u ∷ us) (x ∷ xs) read first = (source_read one n text u x read.0 first.0, first_read one (suc n) texts us xs read.1 first.1)

pub all_read : OneWhole → (n : ℕ) (texts : List (List ℕ)) (us : List UnitRecord) (xs : List Source) → length xs ≡ length us → AreRead n texts us
    → AreFirst us xs → AreSourcesOf n texts xs
all_read one n [] [] [] long read first = tt
all_read one n [] [] (x ∷ xs) long read first = elim first [ ]
all_read one n [] (u ∷ us) xs long read first = elim read [ ]
all_read one n (text ∷ texts) [] xs long read first = elim read [ ]
all_read one n (text ∷ texts) (u ∷ us) [] long read first = let e : ⊥ = omega (arith, long) in absurd e
all_read one n (text ∷ texts) (u ∷ us) (x ∷ xs) long read first =
    (source_read one n text u x read.0 first.0, all_read one (suc n) texts us xs (let e : length xs ≡ length us = omega (arith, long) in e) read.1 first.1)

pub program_meant : OneWhole → (texts : List (List ℕ)) (us : List UnitRecord) (p : TypedProgram) → AreRead 0 texts us → IsProgram us p → HasProgram texts p
program_meant one texts us p read is = record { sources = is.sources; are = all_read one 0 texts us is.sources is.all read is.are; is = is.is }

fault_meant : OneWhole → (texts : List (List ℕ)) (us : List UnitRecord) (e : ElabFault) → AreRead 0 texts us → IsFault us e → HasFault texts e
fault_meant one texts us e read is = record {
  sources = is.sources;
  are = first_read one 0 texts us is.sources read is.are;
  is = is.is;
}

-- the fault that is answered is refused; want of memory is none
pub fault_refused : OneWhole → (names texts : List (List ℕ)) (us : List UnitRecord) (e : ElabFault) (a : Answer) (writes : List Written) → AreRead 0 texts us
    → UnlessMemory e (IsFault us e) → RefusesFault names texts e a writes
    → RefusesTexts names texts a writes
fault_refused one names texts us (Ill at rule) a writes read is r = faulty us (Ill at rule) read (fault_meant one texts us (Ill at rule) read is) r
fault_refused one names texts us (Override at rule) a writes read is r =
    faulty us (Override at rule) read (fault_meant one texts us (Override at rule) read is) r
fault_refused one names texts us (JumpIntoBlock at) a writes read is r =
    faulty us (JumpIntoBlock at) read (fault_meant one texts us (JumpIntoBlock at) read is) r
fault_refused one names texts us (Limit at which) a writes read is r = faulty us (Limit at which) read (fault_meant one texts us (Limit at which) read is) r
fault_refused one names texts us Memory a writes read is r = elim r [ ]
