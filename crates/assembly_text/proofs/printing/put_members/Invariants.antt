use Rattle.std.proofs.Common.{◌≡◌, ◌++◌, take, map}
use Rattle.std.specs.List.{flat_map}
use Rattle.assembly_text.specs.declared.line.Record.TheVariants as kind
use Rattle.assembly_text.specs.Lines.{line_text, Of}
use Rattle.assembly_text.proofs.printing.put_members.Given as goal

abbrev pub invariant-loop-member : goal.invariant-loop-member
invariant-loop-member l = l.out.items ≡ l.fn.out.items ++ flat_map line_text (map (λ m. Of (kind.Member m)) (take l.member-index l.members))
