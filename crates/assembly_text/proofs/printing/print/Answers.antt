use Rattle.std.proofs.Common.{map}
use Rattle.std.specs.List.{flat_map}
use Rattle.tx_code.specs.Objects.{object_view}
use Rattle.assembly_text.specs.declared.line.Record.TheVariants as kind
use Rattle.assembly_text.specs.Lines.{Name, Of, line_text, source_lines, class_lines, global_lines, func_lines, end_text, text_of}
use Rattle.assembly_text.proofs.PrintLaws.{whole}
use Rattle.assembly_text.proofs.printing.print.Goals as goal

pub returns : goal.returns
unfolding text_of
returns c =
    let o = object_view c.args.object.now in
    whole line_text (Of (kind.Txob o.version)) (map Name o.names) (source_lines o.version o.names o.source) (flat_map class_lines o.classes)
    (flat_map global_lines o.globals) (flat_map func_lines o.funcs) end_text _ _ _ _ _ _ _
    (rw c.new-out.ensures.items at c.in_ok-put_version.ensures)
    (rw c.deref.ensures.value at c.in_ok-put_names.ensures)
    (rw c.deref-2.ensures.value at c.in_ok-put_source.ensures)
    (rw c.deref-3.ensures.value at c.in_ok-put_classes.ensures)
    (rw c.deref-4.ensures.value at c.in_ok-put_globals.ensures)
    (rw c.deref-5.ensures.value at c.in_ok-put_funcs.ensures)
    c.in_ok-put_words.ensures
