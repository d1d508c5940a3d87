use Rattle.std.proofs.Common.{◌≡◌, ◌==◌, drop}
use Rattle.src_bind.specs.Tables.{linked_of}
use Rattle.src_bind.specs.Bounds.{given}
use Rattle.image_links.specs.Books.{first_place}
use Rattle.image_links.proofs.tables.global_at.Given as goal

abbrev pub invariant-loop-n : goal.invariant-loop-n
invariant-loop-n l = first_place (λ n. (linked_of (given l.bound)).global l.unit n == l.address) l.n (drop l.n l.globals)
    ≡ first_place (λ n. (linked_of (given l.bound)).global l.unit n == l.address) 0 l.globals
