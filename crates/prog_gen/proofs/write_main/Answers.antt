use Rattle.std.proofs.Common.{codes}
use Rattle.std.specs.Fmt.{decimal}
use Rattle.std.specs.String.{string_bytes}
use Rattle.prog_gen.specs.Program.{printer}
use Rattle.prog_gen.proofs.Lines.{main_pieces}
use Rattle.prog_gen.proofs.write_main.Goals as goal

pub returns : goal.returns
returns c = main_pieces (string_bytes c.args.text.now) printer
    (codes "int main() { int a = __txcc_spawn(w, 0); int b = __txcc_spawn(w, 0); int d = __txcc_spawn(w, 0);\n")
    (codes "__txcc_join(a); __txcc_join(b); __txcc_join(d); long s = 0;\n") (codes "for (int i = 0; i < ") (decimal c.args.n) (codes "; ++i) s = s + c[i];\n")
    (codes "print(s); putchar(10); return 0; }\n") _ _ _ _ _
    c.in_ok-push_str.ensures.bytes c.in_ok-push_str-2.ensures.bytes c.in_ok-push_str-3.ensures.bytes c.in_ok-writeln.ensures.bytes
    c.in_ok-push_str-4.ensures.bytes
