-- Texts that agree in their tokens have the same sources, so the same program or fault.
use Rattle.std.proofs.Common.{◌≡◌, ℕ, suc, List, [], ◌∷◌, subst}
use Rattle.cpp_lex.specs.Tokens.{Lexeme, IsTokens}
use Rattle.cpp_lex.proofs.Laws.{one_tokens}
use Rattle.cpp_tree.specs.Units.{TypedProgram, program_of as shown}
use Rattle.cpp_tree.specs.declared.program.Program.{Program}
use Rattle.cpp_tree.specs.declared.faults.ElabFault.{ElabFault}
use Rattle.elab_rules.specs.Programs.{Source}
use Rattle.source_verdict.specs.Alike.{HaveTokens, AgreeInTokens}
use Rattle.source_verdict.specs.Elaborated.{IsSourceOf, AreSourcesOf, AreFirstSources, HasProgram, HasFault}
use Rattle.source_verdict.specs.Verdict.{Accepts}
use Rattle.source_verdict.proofs.OneProgram.{one_typed}

same_source : (n : ℕ) (text other : List ℕ) (x : Source) → HaveTokens text other → IsSourceOf n text x → IsSourceOf n other x
same_source n text other x h is = record {
  lexed = subst (λ (ts : List Lexeme). IsTokens other ts) (one_tokens text h.tokens x.tokens h.lexed is.lexed) h.other_lexed;
  derives = is.derives;
}

same_sources : (n : ℕ) (texts others : List (List ℕ)) (xs : List Source) → AgreeInTokens texts others → AreSourcesOf n texts xs → AreSourcesOf n others xs
same_sources n [] [] xs agree are = are
same_sources n [] (other ∷ others) xs agree are = elim agree [ ]
same_sources n (text ∷ texts) [] xs agree are = elim agree [ ]
same_sources n (text ∷ texts) (other ∷ others) [] agree are = elim are [ ]
same_sources n (text ∷ texts) (other ∷ others) (x ∷ xs) agree are =
    (same_source n text other x agree.0 are.0, same_sources (suc n) texts others xs agree.1 are.1)

first_sources : (n : ℕ) (texts others : List (List ℕ)) (xs : List Source) → AgreeInTokens texts others → AreFirstSources n texts xs
    → AreFirstSources n others xs
first_sources n texts others [] agree are = tt
first_sources n [] others (x ∷ xs) agree are = elim are [ ]
first_sources n (text ∷ texts) [] (x ∷ xs) agree are = elim agree [ ]
first_sources n (text ∷ texts) (other ∷ others) (x ∷ xs) agree are =
    (same_source n text other x agree.0 are.0, first_sources (suc n) texts others xs agree.1 are.1)

pub same_program : (texts others : List (List ℕ)) (p : TypedProgram) → AgreeInTokens texts others → HasProgram texts p → HasProgram others p
same_program texts others p agree has = record { sources = has.sources; are = same_sources 0 texts others has.sources agree has.are; is = has.is }

pub same_fault : (texts others : List (List ℕ)) (e : ElabFault) → AgreeInTokens texts others → HasFault texts e → HasFault others e
same_fault texts others e agree has = record { sources = has.sources; are = first_sources 0 texts others has.sources agree has.are; is = has.is }

pub accepted_alike : (texts others : List (List ℕ)) (p q : Program) → AgreeInTokens texts others → Accepts texts p → Accepts others q → shown p ≡ shown q
accepted_alike texts others p q agree a b = one_typed others b.units (shown p) (shown q) b.read
    (same_program texts others (shown p) agree a.elaborated) b.elaborated
