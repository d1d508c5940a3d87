-- Texts that are accepted have one program and no fault: their tokens are the only ones, and their units the only ones that these derive.
use Rattle.std.proofs.Common.{◌≡◌, ℕ, suc, List, [], ◌∷◌, sym, ap, ap₂, subst, ◌∙◌, refl, Ok, Err, Bool, true, false}
use Rattle.std.specs.Prelude.{Result}
use Rattle.std.proofs.lemmas.Bool.{false≢true}
use Rattle.cpp_ast.specs.declared.units.Unit.{Unit as UnitRecord}
use Rattle.cpp_ast.specs.Trees.{Trees}
use Rattle.cpp_lex.specs.Tokens.{Lexeme}
use Rattle.cpp_lex.proofs.Laws.{one_tokens}
use Rattle.cpp_syntax.specs.Classes.{source_of}
use Rattle.cpp_syntax.specs.Lookahead.{IsUnit}
use Rattle.cpp_tree.specs.Units.{TypedProgram, program_of as shown}
use Rattle.cpp_tree.specs.declared.program.Program.{Program}
use Rattle.cpp_tree.specs.declared.faults.ElabFault.{ElabFault}
use Rattle.cpp_tree.specs.declared.faults.ElabFault.TheVariants.{Ill, Override, JumpIntoBlock, Limit, Memory}
use Rattle.elab_rules.specs.elab_ctx.Steps.{and_then}
use Rattle.elab_rules.specs.elab_ctx.Ctx.{Traits}
use Rattle.elab_rules.specs.Statements.{State}
use Rattle.elab_rules.specs.Programs.{Source, program_from, program_of, start_behind, with_unit}
use Rattle.elab_rules.specs.Units.{unit_from}
use Rattle.source_verdict.specs.Front.{IsRead, AreRead}
use Rattle.source_verdict.specs.Elaborated.{IsSourceOf, AreSourcesOf, AreFirstSources, HasProgram, HasFault}
use Rattle.source_verdict.specs.Verdict.{Accepts, RefusesFault}
use Rattle.command_io.specs.Writes.{Written}
use Rattle.tx_answers.specs.declared.answer.Answer.{Answer}

same_source : (x y : Source) → x.tokens ≡ y.tokens → x.decls ≡ y.decls → x ≡ y
same_source x y t d = ap₂ (λ (ts : List Lexeme) (ds : Trees). record { tokens = ts; decls = ds }) t d

-- a source of a text that was read is what was read
decls_read : (n : ℕ) (text : List ℕ) (u : UnitRecord) (x : Source) → (read : IsRead n text u) → IsSourceOf n text x → x.decls ≡ read.parsed.decls
decls_read n text u x read is = read.parsed.only x.decls
    (subst (λ (ts : List Lexeme). IsUnit (source_of n ts) x.decls) (one_tokens text x.tokens read.tokens is.lexed read.lexed) is.derives)

one_source : (n : ℕ) (text : List ℕ) (u : UnitRecord) (x y : Source) → IsRead n text u → IsSourceOf n text x → IsSourceOf n text y → x ≡ y
one_source n text u x y read a b = same_source x y (one_tokens text x.tokens y.tokens a.lexed b.lexed)
    (decls_read n text u x read a ∙ sym (decls_read n text u y read b))

one_sources : (n : ℕ) (texts : List (List ℕ)) (us : List UnitRecord) (xs ys : List Source) → AreRead n texts us → AreSourcesOf n texts xs
    → AreSourcesOf n texts ys → xs ≡ ys
one_sources n [] us [] [] read a b = refl
one_sources n [] us [] (y ∷ ys) read a b = elim b [ ]
one_sources n [] us (x ∷ xs) ys read a b = elim a [ ]
one_sources n (text ∷ texts) [] xs ys read a b = elim read [ ]
one_sources n (text ∷ texts) (u ∷ us) [] ys read a b = elim a [ ]
one_sources n (text ∷ texts) (u ∷ us) (x ∷ xs) [] read a b = elim b [ ]
one_sources n (text ∷ texts) (u ∷ us) (x ∷ xs) (y ∷ ys) read a b =
    ap₂ (λ (z : Source) (zs : List Source). z ∷ zs) (one_source n text u x y read.0 a.0 b.0) (one_sources (suc n) texts us xs ys read.1 a.1 b.1)

abbrev value_or : TypedProgram → Result TypedProgram ElabFault → TypedProgram
value_or d (Ok a) = a
value_or d (Err e) = d

pub one_typed : (texts : List (List ℕ)) (us : List UnitRecord) (p q : TypedProgram) → AreRead 0 texts us → HasProgram texts p → HasProgram texts q → p ≡ q
one_typed texts us p q read a b =
    let same : a.sources ≡ b.sources = one_sources 0 texts us a.sources b.sources read a.are b.are in
    ap (value_or p) (sym (subst (λ (xs : List Source). program_of xs ≡ Ok p) same a.is) ∙ b.is)

pub one_program : (texts : List (List ℕ)) (p q : Program) → Accepts texts p → Accepts texts q → shown p ≡ shown q
one_program texts p q a b = one_typed texts a.units (shown p) (shown q) a.read a.elaborated b.elaborated

-- a fault of the first of some steps stays where more follow
still_faulty : (r : Result State ElabFault) (f g : State → Result TypedProgram ElabFault) (e : ElabFault) → ((st : State) → f st ≡ Err e → g st ≡ Err e)
    → and_then r f ≡ Err e → and_then r g ≡ Err e
still_faulty (Ok st) f g e h is = h st is
still_faulty (Err x) f g e h is = is

abbrev is_fault : Result TypedProgram ElabFault → Bool
is_fault (Ok p) = false
is_fault (Err e) = true

-- the fault of the first sources is that of all
first_faulty : (n : ℕ) (texts : List (List ℕ)) (us : List UnitRecord) (firsts all : List Source) → AreRead n texts us → AreFirstSources n texts firsts
    → AreSourcesOf n texts all
    → (i : ℕ) (p : TypedProgram) (traits : List Traits) (e : ElabFault) → program_from i p traits firsts ≡ Err e → program_from i p traits all ≡ Err e
first_faulty n texts us [] all read a b i p traits e is = absurd (false≢true (ap is_fault is))
first_faulty n [] us (x ∷ xs) all read a b i p traits e is = elim a [ ]
first_faulty n (text ∷ texts) [] (x ∷ xs) all read a b i p traits e is = elim read [ ]
first_faulty n (text ∷ texts) (u ∷ us) (x ∷ xs) [] read a b i p traits e is = elim b [ ]
first_faulty n (text ∷ texts) (u ∷ us) (x ∷ xs) (y ∷ ys) read a b i p traits e is =
    subst (λ (z : Source). program_from i p traits (z ∷ ys) ≡ Err e) (one_source n text u x y read.0 a.0 b.0)
    (still_faulty (unit_from x.tokens (start_behind i p traits) x.decls) (λ (st : State). program_from (suc i) (with_unit p x st) st.ctx.traits xs)
    (λ (st : State). program_from (suc i) (with_unit p x st) st.ctx.traits ys) e
    (λ st is'. first_faulty (suc n) texts us xs ys read.1 a.1 b.1 (suc i) (with_unit p x st) st.ctx.traits e is') is)

no_fault : (r : Result TypedProgram ElabFault) (p : TypedProgram) (e : ElabFault) → r ≡ Ok p → r ≡ Err e → ⊥
no_fault r p e is not = false≢true (ap is_fault (sym is ∙ not))

faulty_too : (texts : List (List ℕ)) (p : Program) (e : ElabFault) → Accepts texts p → (f : HasFault texts e) → program_of f.sources ≡ Err e → ⊥
faulty_too texts p e a f is =
    no_fault (program_of a.elaborated.sources) (shown p) e a.elaborated.is
    (first_faulty 0 texts a.units f.sources a.elaborated.sources a.read f.are a.elaborated.are 0 (record { units = []; classes = []; slots = [] }) [] e is)

-- want of memory is no fault of texts, and refuses none
pub not_faulty : (names texts : List (List ℕ)) (p : Program) (e : ElabFault) (a : Answer) (writes : List Written) → Accepts texts p → HasFault texts e
    → RefusesFault names texts e a writes → ⊥
not_faulty names texts p (Ill at rule) a writes accepted f r = faulty_too texts p (Ill at rule) accepted f f.is
not_faulty names texts p (Override at rule) a writes accepted f r = faulty_too texts p (Override at rule) accepted f f.is
not_faulty names texts p (JumpIntoBlock at) a writes accepted f r = faulty_too texts p (JumpIntoBlock at) accepted f f.is
not_faulty names texts p (Limit at which) a writes accepted f r = faulty_too texts p (Limit at which) accepted f f.is
not_faulty names texts p Memory a writes accepted f r = r
