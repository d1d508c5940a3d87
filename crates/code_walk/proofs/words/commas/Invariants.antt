use Rattle.std.proofs.Common.{◌≡◌, ◌≤◌, ◌+◌, drop}
use Rattle.tx_code.specs.Signatures.{commas}
use Rattle.code_walk.proofs.words.commas.Given as goal

abbrev pub invariant-loop-byte : goal.invariant-loop-byte
invariant-loop-byte l = record {
  is : commas 0 l.inside ≡ l.count + commas l.depth (drop l.byte-index l.inside);
  few : l.count ≤ l.byte-index;
  deep : l.depth ≤ l.byte-index;
}
