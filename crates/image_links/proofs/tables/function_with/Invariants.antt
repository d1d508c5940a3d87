use Rattle.std.proofs.Common.{◌≡◌, ◌==◌, drop}
use Rattle.src_bind.specs.Tables.{linked_of}
use Rattle.src_bind.specs.Bounds.{given}
use Rattle.image_links.specs.Books.{first_place}
use Rattle.image_links.proofs.tables.function_with.Given as goal

abbrev pub invariant-loop-n : goal.invariant-loop-n
invariant-loop-n l = first_place (λ n. (linked_of (given l.bound)).number l.unit n == l.number) l.n (drop l.n l.funcs)
    ≡ first_place (λ n. (linked_of (given l.bound)).number l.unit n == l.number) 0 l.funcs
