use Rattle.std.proofs.Common.{◌≡◌, length, map, ap, sym, ◌∙◌, arith}
use Rattle.std.specs.List.{flat_map}
use Rattle.tx_code.specs.Objects.{bytes_of, object_view}
use Rattle.object_bytes.specs.Spelling.{name_bytes, source_bytes}
use Rattle.object_bytes.specs.Objects.{first_class}
use Rattle.object_bytes.proofs.Positions.{parts_of, source_size}
use Rattle.object_file.proofs.reading.first_class.Goals as goal

pub names_size-requires : goal.names_size-requires
names_size-requires c = rw c.deref.ensures.value (omega (arith, (parts_of (object_view c.args.object.now)).names, c.requires.few))

pub overflow_add-result : goal.overflow_add-result
unfolding first_class
overflow_add-result c =
    let o = object_view c.args.object.now in
    let parts = parts_of o in
    let names : c.names_size.result ≡ length (flat_map name_bytes o.names) = c.names_size.ensures
    ∙ ap (λ x. length (flat_map name_bytes (map bytes_of x))) c.deref.ensures.value in
    omega (arith, parts.names, parts.classes, c.requires.few)

pub overflow_add-result-2 : goal.overflow_add-result-2
unfolding first_class
overflow_add-result-2 c =
    let o = object_view c.args.object.now in
    let parts = parts_of o in
    let names : c.names_size.result ≡ length (flat_map name_bytes o.names) = c.names_size.ensures
    ∙ ap (λ x. length (flat_map name_bytes (map bytes_of x))) c.deref.ensures.value in
    let source : c.source_size.result ≡ length (source_bytes o.version o.names o.source) = c.source_size.ensures
    ∙ sym (source_size o.version o.names o.source) in
    omega (arith, parts.names, parts.classes, c.requires.few)

pub overflow_add-result-3 : goal.overflow_add-result-3
unfolding first_class
overflow_add-result-3 c =
    let o = object_view c.args.object.now in
    let parts = parts_of o in
    let names : c.names_size.result ≡ length (flat_map name_bytes o.names) = c.names_size.ensures
    ∙ ap (λ x. length (flat_map name_bytes (map bytes_of x))) c.deref.ensures.value in
    let source : c.source_size.result ≡ length (source_bytes o.version o.names o.source) = c.source_size.ensures
    ∙ sym (source_size o.version o.names o.source) in
    omega (arith, parts.names, parts.classes, c.requires.few)

pub returns : goal.returns
unfolding first_class
returns c =
    let o = object_view c.args.object.now in
    let parts = parts_of o in
    let names : c.names_size.result ≡ length (flat_map name_bytes o.names) = c.names_size.ensures
    ∙ ap (λ x. length (flat_map name_bytes (map bytes_of x))) c.deref.ensures.value in
    let source : c.source_size.result ≡ length (source_bytes o.version o.names o.source) = c.source_size.ensures
    ∙ sym (source_size o.version o.names o.source) in
    omega (arith, parts.names, parts.classes, c.requires.few)
