-- A text has one list of pieces up to its end or up to the first position where none begins.
use Rattle.std.proofs.Common.{List, [], ◌∷◌, ◌++◌, ◌≡◌, ℕ, ◌≤◌, refl, subst, arith}
use Rattle.cpp_lex.specs.declared.piece.PieceKind.{PieceKind}
use Rattle.cpp_lex.specs.Pieces.{PieceAt, NoPiece, Piece, Pieces, done, next}
use Rattle.cpp_lex.proofs.Fronts.{kind_spelled}

one_kind : (text : List ℕ) (k l : PieceKind) (from a b : ℕ) → PieceAt text k from a → PieceAt text l from b → k ≡ l
one_kind text k l from a b p q = let e = kind_spelled text k from a p.spelled in let f = kind_spelled text l from b q.spelled in cc

one_end : (text : List ℕ) (k l : PieceKind) (from a b : ℕ) → PieceAt text k from a → PieceAt text l from b → a ≡ b
one_end text k l from a b p q = let e : b ≤ a = p.longest l b q.spelled in let f : a ≤ b = q.longest k a p.spelled in omega arith

pub record SameReading (ps qs : List Piece) (to end : ℕ) : Type 0 where
  pub pieces : ps ≡ qs
  pub position : to ≡ end

pub same_reading : (text : List ℕ) {from to end : ℕ} {ps qs : List Piece} → Pieces text from ps to → Pieces text from qs end → NoPiece text to
    → NoPiece text end → SameReading ps qs to end
same_reading text done done h g = record { pieces = refl; position = refl }
same_reading text done (next l q y) h g = absurd (h l _ q)
same_reading text (next k p x) done h g = absurd (g k _ p)
same_reading text {from} {end = end} (next {mid = a} {pieces = ps} k p x) (next {mid = b} {pieces = qs} l q y) h g =
    let e : b ≡ a = one_end text l k from b a q p in
    let f : k ≡ l = one_kind text k l from a b p q in
    let rest = same_reading text x (subst (λ (z : ℕ). Pieces text z qs end) e y) h g in
    let r : ps ≡ qs = rest.pieces in
    record { pieces = cc; position = rest.position }

-- one more piece
pub snoc : (text : List ℕ) {from mid to : ℕ} {pieces : List Piece} (kind : PieceKind) → Pieces text from pieces mid → PieceAt text kind mid to
    → Pieces text from (pieces ++ (record { kind = kind; from = mid; to = to } ∷ [])) to
snoc text kind done p = next kind p done
snoc text kind (next k q rest) p = next k q (snoc text kind rest p)
