-- Pieces from their spellings.
use Rattle.std.proofs.Common.{List, [], ◌∷◌, ◌≡◌, ℕ, ◌+◌, ◌^◌, ◌<◌, ◌≤◌, inl, inr, false, length, None, IsSome, refl, subst, arith, slice_range, nat_le}
use Rattle.std.proofs.lemmas.Bool.{cases_lt}
use Rattle.std.proofs.lemmas.Bool.Decides.{nat_tests}
use Rattle.std.specs.List.{find, list_any, count_by}
use Rattle.cpp_lex.specs.declared.piece.PieceKind.{PieceKind}
use Rattle.cpp_lex.specs.declared.piece.PieceKind.TheVariants.{Blank, LineComment, BlockComment, HashLine, Word, IntegerLiteral, CharacterLiteral}
use Rattle.cpp_lex.specs.declared.piece.PieceKind.TheVariants.{StringLiteral, Punctuator}
use Rattle.tx_ints.specs.declared.kinds.IntKind.{IntKind}
use Rattle.tx_ints.specs.declared.kinds.IntKind.TheVariants.{Bool, Char, SChar, UChar, Short, UShort, Int, UInt, Long, ULong, LLong, ULLong}
use Rattle.cpp_lex.specs.Ints.{int_largest, int_types, int_type_of, int_value, is_decimal, is_u, is_l}
use Rattle.cpp_lex.specs.Quoted.{IsChar, is_char_byte}
use Rattle.cpp_lex.specs.Kinds.{kind_of}
use Rattle.cpp_lex.specs.Pieces.{Spells, IsLegal, PieceAt, NoPiece}
use Rattle.cpp_lex.specs.Tokens.{piece_value}
use Rattle.cpp_lex.specs.Readings.{IsFurthest}
use Rattle.cpp_lex.proofs.Fronts.{piece_by, none_by_kind}
use Rattle.cpp_lex.proofs.Ends.{spelled_within, one_of_after}
use Rattle.cpp_lex.proofs.Values.{char_small, range_length}

pub piece_at : (text : List ℕ) (kind : PieceKind) (from to : ℕ) → IsFurthest (λ to. Spells text kind from to) to → IsLegal text kind from to
    → PieceAt text kind from to
piece_at text kind from to here legal = piece_by text kind from to here.reads here.furthest legal

-- where nothing of the place's kind is spelled, no piece begins
pub nothing_spelled : (text : List ℕ) (kind : PieceKind) (from : ℕ) → kind_of text from ≡ kind → ((to : ℕ) → Spells text kind from to → ⊥) → NoPiece text from
nothing_spelled text kind from e none = none_by_kind text kind from e (λ to p. none to p.spelled)

-- a piece of the place's kind is the furthest spelling
same_end : (text : List ℕ) (kind : PieceKind) (from to end : ℕ) → IsFurthest (λ to. Spells text kind from to) to → PieceAt text kind from end → end ≡ to
same_end text kind from to end here p = let a : end ≤ to = here.furthest end p.spelled in let b : to ≤ end = p.longest kind to here.reads in omega arith

pub not_legal : (text : List ℕ) (kind : PieceKind) (from to : ℕ) → kind_of text from ≡ kind → IsFurthest (λ to. Spells text kind from to) to
    → (IsLegal text kind from to → ⊥) → NoPiece text from
not_legal text kind from to e here illegal = none_by_kind text kind from e
    (λ end p. illegal (subst (λ (n : ℕ). IsLegal text kind from n) (same_end text kind from to end here p) p.legal))

-- no kind holds a value of 2 to the 64 or more
too_great : (value : ℕ) (kind : IntKind) → 2 ^ 64 ≤ value → nat_le value (int_largest kind) ≡ false
too_great value Bool h = grind (arith, nat_tests)
too_great value Char h = grind (arith, nat_tests)
too_great value SChar h = grind (arith, nat_tests)
too_great value UChar h = grind (arith, nat_tests)
too_great value Short h = grind (arith, nat_tests)
too_great value UShort h = grind (arith, nat_tests)
too_great value Int h = grind (arith, nat_tests)
too_great value UInt h = grind (arith, nat_tests)
too_great value Long h = grind (arith, nat_tests)
too_great value ULong h = grind (arith, nat_tests)
too_great value LLong h = grind (arith, nat_tests)
too_great value ULLong h = grind (arith, nat_tests)

none_holds : (value : ℕ) (kinds : List IntKind) → 2 ^ 64 ≤ value → find (λ kind. nat_le value (int_largest kind)) kinds ≡ None
none_holds value [] h = refl
none_holds value (kind ∷ kinds) h = rw (too_great value kind h) (none_holds value kinds h)

no_type : (bytes : List ℕ) (value : ℕ) → 2 ^ 64 ≤ value → IsSome (int_type_of bytes value) → ⊥
unfolding int_type_of
no_type bytes value h some = let none = none_holds value (int_types (is_decimal bytes) (list_any is_u bytes) (count_by is_l bytes)) h in
    let g : IsSome {T = IntKind} None = rw none at some in cc

no_value_legal : (text : List ℕ) (kind : PieceKind) (from to : ℕ) → 2 ^ 64 ≤ piece_value kind (slice_range text from to) → Spells text kind from to
    → IsLegal text kind from to → ⊥
no_value_legal text Blank from to h s l = omega arith
no_value_legal text LineComment from to h s l = omega arith
no_value_legal text BlockComment from to h s l = omega arith
no_value_legal text HashLine from to h s l = omega arith
no_value_legal text Word from to h s l = omega arith
no_value_legal text IntegerLiteral from to h s l = no_type (slice_range text from to) (int_value (slice_range text from to)) h l.typed
no_value_legal text CharacterLiteral from to h s l = let small = char_small text from to s in omega arith
no_value_legal text StringLiteral from to h s l = omega arith
no_value_legal text Punctuator from to h s l = omega arith

pub no_value : (text : List ℕ) (kind : PieceKind) (from to : ℕ) → kind_of text from ≡ kind → IsFurthest (λ to. Spells text kind from to) to
    → 2 ^ 64 ≤ piece_value kind (slice_range text from to) → NoPiece text from
no_value text kind from to e here great = not_legal text kind from to e here (λ legal. no_value_legal text kind from to great here.reads legal)

-- a character has two bytes at least
char_length : (text : List ℕ) (from to : ℕ) → IsChar text from to → 2 ≤ length (slice_range text from to)
char_length text from to s =
    let w = spelled_within text CharacterLiteral from to s in
    let a = one_of_after is_char_byte text (from + 1) s.inner_end s.inner in
    let e : to ≡ s.inner_end + 1 = s.ends in
    let l = range_length text from to w.inside in
    omega arith

pub char_room : (text : List ℕ) (kind : PieceKind) (from to : ℕ) → Spells text kind from to → kind ≡ CharacterLiteral → 2 ≤ length (slice_range text from to)
char_room text kind from to s e = char_length text from to (subst (λ (k : PieceKind). Spells text k from to) e s)

-- a value that is not below 2 to the 64
pub great_value : (value : ℕ) → (value < 2 ^ 64 → ⊥) → 2 ^ 64 ≤ value
great_value value h = elim (cases_lt value (2 ^ 64)) [ inl small ↦ absurd (h small) | inr great ↦ great ]
