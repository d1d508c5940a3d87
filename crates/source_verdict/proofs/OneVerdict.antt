-- Accepted texts are not refused, unless a token of one stands inside of more constructs than a unit may nest.
use Rattle.std.proofs.Common.{◌≡◌, ◌<◌, ◌≤◌, ◌+◌, ◌∙◌, ℕ, suc, List, [], ◌∷◌, ◌++◌, length, Option, None, is_some, sym, ap, subst, arith}
use Rattle.std.proofs.lemmas.Bool.{false≢true}
use Rattle.cpp_ast.specs.declared.units.Unit.{Unit as UnitRecord}
use Rattle.cpp_ast.specs.Trees.{Trees, unit_depth}
use Rattle.cpp_lex.specs.Tokens.{Lexeme, IsTokens}
use Rattle.cpp_lex.proofs.Laws.{one_tokens, fault_has_no_tokens}
use Rattle.cpp_parse.specs.Units.{NestsTooDeep, in_its_tree, by_its_tokens, deepest_allowed}
use Rattle.cpp_syntax.specs.Classes.{source_of}
use Rattle.cpp_syntax.specs.Lookahead.{IsUnit}
use Rattle.cpp_tree.specs.Units.{TypedProgram, program_of as shown}
use Rattle.cpp_tree.specs.cpp_types.declared.classes.At.{At}
use Rattle.cpp_tree.specs.declared.program.Program.{Program}
use Rattle.cpp_tree.specs.declared.faults.UnsafeReason.{UnsafeReason}
use Rattle.command_io.specs.Writes.{Written}
use Rattle.tx_answers.specs.declared.answer.Answer.{Answer}
use Rattle.std.specs.Prelude.{fold}
use Rattle.tx_unsafe.specs.First.{sooner}
use Rattle.tx_unsafe.specs.declared.finding.Finding.{Finding}
use Rattle.tx_safety.specs.Safe.{IsSafe, FirstUnsafe, first_unsafe}
use Rattle.source_verdict.specs.declared.front.FrontFault.{FrontFault}
use Rattle.source_verdict.specs.declared.front.FrontFault.TheVariants.{Lex, Syntax, Nesting, Memory}
use Rattle.source_verdict.specs.Front.{IsRead, AreRead, IsNotRead}
use Rattle.source_verdict.specs.Verdict.{Accepts, RefusesFront, RefusesTexts, unread, faulty, unsafe_part}
use Rattle.source_verdict.specs.Nested.{IsNestedText, HasNested}
use Rattle.source_verdict.proofs.OneProgram.{one_typed, not_faulty}

-- the unit that was read from a text
record ReadAt (number : ℕ) (text : List ℕ) : Type 0 where
  unit : UnitRecord
  read : IsRead number text unit

read_at : (n : ℕ) (before : List (List ℕ)) (text : List ℕ) (after : List (List ℕ)) (us : List UnitRecord) → AreRead n (before ++ text ∷ after) us
    → ReadAt (n + length before) text
read_at n [] text after [] read = elim read [ ]
read_at n [] text after (u ∷ us) read = let same : n ≡ n + 0 = omega arith in subst (λ (i : ℕ). ReadAt i text) same (record { unit = u; read = read.0 })
read_at n (b ∷ before) text after [] read = elim read [ ]
read_at n (b ∷ before) text after (u ∷ us) read = let same : suc n + length before ≡ n + suc (length before) = omega arith in
    subst (λ (i : ℕ). ReadAt i text) same (read_at (suc n) before text after us read.1)

no_depth : (number : ℕ) (text : List ℕ) (unit : UnitRecord) (tokens : List Lexeme) (token : ℕ) → IsRead number text unit → IsTokens text tokens
    → NestsTooDeep number tokens token → IsNestedText text
no_depth number text unit tokens token read lexed (by_its_tokens nested) = record { tokens = tokens; lexed = lexed; token = token; nested = nested }
no_depth number text unit tokens token read lexed (in_its_tree deep) =
    let derives : IsUnit (source_of number tokens) read.parsed.decls =
    subst (λ (ts : List Lexeme). IsUnit (source_of number ts) read.parsed.decls)
    (one_tokens text read.tokens tokens read.lexed lexed) read.parsed.derives in
    let same : unit_depth read.parsed.decls ≡ unit_depth deep.decls = ap (λ (ts : Trees). unit_depth ts) (deep.only read.parsed.decls derives) in
    let shallow : unit_depth read.parsed.decls ≤ deepest_allowed = read.parsed.shallow in
    let far : deepest_allowed < unit_depth deep.decls = deep.deep in
    absurd (omega arith)

not_unread : (names texts : List (List ℕ)) (number : ℕ) (text : List ℕ) (fault : FrontFault) (a : Answer) (writes : List Written) → ReadAt number text
    → IsNotRead number text fault → RefusesFront names texts number fault a writes → IsNestedText text
not_unread names texts number text (Lex offset) a writes r not refuses = absurd (fault_has_no_tokens text offset not r.read.tokens r.read.lexed)
not_unread names texts number text (Syntax offset) a writes r not refuses =
    absurd (not.none.nothing r.read.parsed.decls (subst (λ (ts : List Lexeme). IsUnit (source_of number ts) r.read.parsed.decls)
    (one_tokens text r.read.tokens not.tokens r.read.lexed not.lexed) r.read.parsed.derives))
not_unread names texts number text (Nesting offset) a writes r not refuses = no_depth number text r.unit not.tokens not.token r.read not.lexed not.nests
not_unread names texts number text Memory a writes r not refuses = elim refuses [ ]

none_first : (p : TypedProgram) → IsSafe p → first_unsafe p ≡ None
unfolding first_unsafe
none_first p safe = ap (λ (fs : List Finding). fold sooner None fs) safe

safe_has_none : (p : TypedProgram) (at : At) (reason : UnsafeReason) → IsSafe p → FirstUnsafe p at reason → ⊥
safe_has_none p at reason safe first = false≢true (ap (λ (f : Option Finding). is_some f) (sym (none_first p safe) ∙ first))

pub only_nested : (names texts : List (List ℕ)) (p : Program) (a : Answer) (writes : List Written) → Accepts texts p → RefusesTexts names texts a writes
    → HasNested texts
only_nested names texts p a writes accepted (unread u is refuses) =
    let all : AreRead 0 (is.before ++ is.text ∷ is.after) accepted.units = subst (λ (ts : List (List ℕ)). AreRead 0 ts accepted.units) is.cut accepted.read in
    let index : 0 + length is.before ≡ u.index = omega (arith, is.index_is) in
    let r : ReadAt u.index is.text = subst (λ (i : ℕ). ReadAt i is.text) index (read_at 0 is.before is.text is.after accepted.units all) in
    record {
      before = is.before;
      text = is.text;
      after = is.after;
      cut = is.cut;
      nested =
          not_unread names texts u.index is.text u.fault a writes r is.unread refuses;
    }
only_nested names texts p a writes accepted (faulty units fault read has refuses) = absurd (not_faulty names texts p fault a writes accepted has refuses)
only_nested names texts p a writes accepted (unsafe_part units q at reason read has first refuses) =
    absurd (safe_has_none (shown q) at reason (subst (λ (t : TypedProgram). IsSafe t)
    (one_typed texts accepted.units (shown p) (shown q) accepted.read accepted.elaborated has) accepted.safe) first)
