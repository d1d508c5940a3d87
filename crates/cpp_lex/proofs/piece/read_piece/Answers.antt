use Rattle.std.proofs.Common.{◌≡◌, arith, IsTrue, false, refl, slice_range}
use Rattle.cpp_lex.specs.Tokens.{piece_value}
use Rattle.cpp_lex.specs.Kinds.{kind_of}
use Rattle.cpp_lex.specs.Pieces.{Spells}
use Rattle.cpp_lex.specs.Readings.{IsFurthest}
use Rattle.cpp_lex.proofs.Ends.{Within, spelled_within}
use Rattle.cpp_lex.proofs.PieceLemmas.{piece_at, nothing_spelled, not_legal, no_value, char_room, great_value}
use Rattle.cpp_lex.proofs.piece.read_piece.Goals as goal
use Rattle.cpp_lex.proofs.piece.read_piece.Goals.{In-Some}

furthest : (c : In-Some) → IsFurthest (λ to. Spells c.args.text.now c.kind_by-kind.result c.args.from to) c.in-Some.to
furthest c = c.in-Some.ensures

within : (c : In-Some) → Within c.args.text.now c.args.from c.in-Some.to
within c = let here = furthest c in spelled_within c.args.text.now c.kind_by-kind.result c.args.from c.in-Some.to here.reads

kind_here : (c : In-Some) → kind_of c.args.text.now c.args.from ≡ c.kind_by-kind.result
kind_here c = cc

pub returns-in_default : goal.returns-in_default
returns-in_default c =
    let e : kind_of c.args.text.now c.args.from ≡ c.kind_by-kind.result = cc in
    nothing_spelled c.args.text.now c.kind_by-kind.result c.args.from e c.in_default.ensures

pub slice_bounds-piece_value-count : goal.slice_bounds-piece_value-count
slice_bounds-piece_value-count c = let w = within (goal.at.slice_bounds-piece_value-count c).In-Some in let after = w.after in omega arith

pub slice_bounds-piece_value-start : goal.slice_bounds-piece_value-start
slice_bounds-piece_value-start c = let w = within (goal.at.slice_bounds-piece_value-start c).In-Some in let after = w.after in omega arith

pub slice_bounds-piece_value-end : goal.slice_bounds-piece_value-end
slice_bounds-piece_value-end c = let w = within (goal.at.slice_bounds-piece_value-end c).In-Some in w.inside

pub piece_value-requires : goal.piece_value-requires
piece_value-requires c = let here = furthest (goal.at.piece_value-requires c).In-Some in
    char_room c.args.text.now c.kind_by-kind.result c.args.from c.in-Some.to here.reads

pub returns-in_default-piece_value : goal.returns-in_default-piece_value
returns-in_default-piece_value c = let d = (goal.at.returns-in_default-piece_value c).In-Some in
    no_value c.args.text.now c.kind_by-kind.result c.args.from c.in-Some.to (kind_here d) (furthest d)
    (great_value (piece_value c.kind_by-kind.result (slice_range c.args.text.now c.args.from c.in-Some.to)) c.in_default-piece_value.ensures)

pub is_legal-requires-clause-ordered : goal.is_legal-requires-clause-ordered
is_legal-requires-clause-ordered c = let w = within (goal.at.is_legal-requires-clause-ordered c).In-Some in let after = w.after in omega arith

pub returns-then-is_legal : goal.returns-then-is_legal
returns-then-is_legal c =
    let d = (goal.at.returns-then-is_legal c).In-Some in
    let value : c.in-Some-piece_value.value ≡ piece_value c.kind_by-kind.result (slice_range c.args.text.now c.args.from c.in-Some.to) =
    c.in-Some-piece_value.ensures.1 in
    record { at = piece_at c.args.text.now c.kind_by-kind.result c.args.from c.in-Some.to (furthest d) (c.if-is_legal.ensures.0 refl); value = value }

pub returns-else-is_legal : goal.returns-else-is_legal
returns-else-is_legal c =
    let d = (goal.at.returns-else-is_legal c).In-Some in
    not_legal c.args.text.now c.kind_by-kind.result c.args.from c.in-Some.to (kind_here d) (furthest d)
    (λ l. let legal : IsTrue false = c.if-is_legal.ensures.1 l in cc)
