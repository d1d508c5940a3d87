use Rattle.std.proofs.Common.{◌≡◌, ◌==◌, drop, map}
use Rattle.cpp_tree.specs.Units.{definition_of}
use Rattle.src_bind.specs.Tables.{linked_of}
use Rattle.src_bind.specs.Bounds.{given}
use Rattle.image_links.specs.Books.{first_class}
use Rattle.image_links.proofs.tables.class_with.Given as goal

abbrev pub invariant-loop-definition : goal.invariant-loop-definition
invariant-loop-definition l = first_class (λ c. (linked_of (given l.bound)).table c == l.address) (map definition_of (drop l.definition-index l.definitions))
    ≡ first_class (λ c. (linked_of (given l.bound)).table c == l.address) (map definition_of l.definitions)
