use Rattle.std.proofs.Common.{◌≡◌, ◌+◌, drop, map}
use Rattle.tx_code.specs.Objects.{bytes_of}
use Rattle.image_links.specs.Books.{spelling_place}
use Rattle.image_links.proofs.tables.spelling_place.Given as goal

abbrev pub invariant-loop-n : goal.invariant-loop-n
invariant-loop-n l = spelling_place l.spelling (map bytes_of l.types) ≡ l.n + spelling_place l.spelling (map bytes_of (drop l.n l.types))
