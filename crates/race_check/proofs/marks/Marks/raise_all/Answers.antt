use Rattle.std.proofs.Common.{◌<◌, ◌≤◌, arith}
use Rattle.race_check.specs.Marks.{lone, mark}
use Rattle.race_check.proofs.MarkSteps.{added_there, added_others, piece_up}
use Rattle.race_check.proofs.marks.Marks.raise_all.Goals as goal

pub pieces-preserved : goal.pieces-preserved
pieces-preserved c =
    let i = c.pieces.invariant in
    let low : c.args.from ≤ c.pieces.at = i.low in
    let up : c.pieces.at < c.piece_end-end.result = piece_up c.pieces.at c.piece_end-end.result c.piece_end-end.ensures.piece in
    let within : c.piece_end-end.result ≤ c.args.to = c.piece_end-end.ensures.within in
    record {
      low = omega (arith, low, up);
      high = λ le. within;
      none = λ le. absurd (omega (arith, le, low, up, within));
      there = added_there (mark c.args.self.now) (mark c.pieces.self) (mark c.raise_piece.new.self)
          (lone c.args.t c.args.value) c.args.from c.pieces.at c.piece_end-end.result i.there i.others
          c.in_ok-raise_piece.ensures.there c.in_ok-raise_piece.ensures.others;
      others = added_others (mark c.args.self.now) (mark c.pieces.self) (mark c.raise_piece.new.self) c.args.from c.pieces.at c.piece_end-end.result low
          (omega (arith, up)) i.others
          c.in_ok-raise_piece.ensures.others;
    }
