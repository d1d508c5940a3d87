use Rattle.std.proofs.Common.{◌≡◌, drop, map, []}
use Rattle.tx_code.specs.Images.{image_func_view}
use Rattle.tx_code.specs.Views.{image_view}
use Rattle.tx_code.specs.Program.{names_of, func_address}
use Rattle.cpp_tree.specs.cpp_types.Typ.{Signature}
use Rattle.cpp_tree.specs.cpp_types.Spelling.{function_spelling}
use Rattle.src_mean.specs.Links.{unsafe}
use Rattle.src_bind.specs.Tables.{typed, linked_of}
use Rattle.src_bind.specs.Bounds.{given}
use Rattle.image_links.specs.Books.{all_places, same_number, is_signature}
use Rattle.image_links.proofs.tables.is_signature.Given as goal

abbrev pub invariant-loop-n : goal.invariant-loop-n
invariant-loop-n l = (sig : Signature) → l.ty ≡ function_spelling (typed (given l.bound)).classes (unsafe sig) []
    → all_places (λ n. same_number ((names_of (image_view l.image)).called l.number (func_address n))
    ((linked_of (given l.bound)).pointed (func_address n) sig)) l.n (map image_func_view (drop l.n l.image.funcs.items))
    ≡ is_signature (image_view l.image) (linked_of (given l.bound)) (typed (given l.bound)) l.number sig
