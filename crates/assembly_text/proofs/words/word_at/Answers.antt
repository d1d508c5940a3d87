use Rattle.std.specs.Char.{is_ascii_lowercase}
use Rattle.std.proofs.lemmas.List.Sums.{prefix_len-le-length}
use Rattle.assembly_text.proofs.words.word_at.Goals as goal

pub split_at-requires : goal.split_at-requires
split_at-requires c = rw c.letters_at.ensures (prefix_len-le-length is_ascii_lowercase c.args.text.now)
