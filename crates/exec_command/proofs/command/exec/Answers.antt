use Rattle.std.proofs.Common.{◌≡◌, [], map, length, string_bytes, refl, rules, arith}
use Rattle.std.proofs.lemmas.List.{length-map}
use Rattle.tx_answers.proofs.Endings.{ends_settled}
use Rattle.exec_command.specs.Exec.{TooMany, no_files, too_many, executes}
use Rattle.exec_command.proofs.command.exec.Goals as goal

pub returns-then-len-gt-MOST_OBJECTS : goal.returns-then-len-gt-MOST_OBJECTS
returns-then-len-gt-MOST_OBJECTS g c =
    let before = g.H.Host.state c.args.host.now in
    let names : length (map string_bytes c.args.exec.now.objects.items) ≡ length c.args.exec.now.objects.items =
    length-map c.args.exec.now.objects.items string_bytes in
    let many : c.len.result ≡ length c.args.exec.now.objects.items = search rules in
    too_many (omega (arith, names, many, c.if-len-gt-MOST_OBJECTS.true))
    (ends_settled no_files TooMany before before
    (g.H.Host.state c.settle.new.host) [] c.too_many.result c.settle.result refl c.too_many.ensures c.settle.ensures)

pub returns : goal.returns
returns g c =
    let names : length (map string_bytes c.args.exec.now.objects.items) ≡ length c.args.exec.now.objects.items =
    length-map c.args.exec.now.objects.items string_bytes in
    let many : c.len.result ≡ length c.args.exec.now.objects.items = search rules in
    executes (omega (arith, names, many, c.if-len-gt-MOST_OBJECTS.false)) c.on_files.ensures
