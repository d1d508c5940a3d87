use Rattle.std.proofs.Common.{◌≡◌, ◌==◌, drop, map}
use Rattle.cpp_tree.specs.cpp_types.Typ.{Typ, typ_of}
use Rattle.image_links.specs.Books.{first_typ}
use Rattle.note_landing.specs.Shown.{numbers_by, table_by}
use Rattle.body_notes.proofs.named.type_of.Given as goal

abbrev pub invariant-loop-n : goal.invariant-loop-n
invariant-loop-n l = first_typ (λ (t : Typ). numbers_by l.body t == l.number) (map typ_of (drop l.n l.body.source.types.now)) ≡ (table_by l.body).type_of l.number
