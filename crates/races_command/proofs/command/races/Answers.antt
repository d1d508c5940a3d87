use Rattle.std.proofs.Common.{◌≡◌, [], map, length, string_bytes, refl, rules, arith}
use Rattle.std.proofs.lemmas.List.{length-map}
use Rattle.run_command.proofs.tx_answers.Endings.{ends_settled}
use Rattle.races_command.specs.Commands.{too_many, reports}
use Rattle.run_command.specs.Commands.{TooMany, no_files}
use Rattle.races_command.proofs.command.races.Goals as goal

pub returns-then-len-gt-MOST_SOURCES : goal.returns-then-len-gt-MOST_SOURCES
returns-then-len-gt-MOST_SOURCES g c =
    let before = g.H.Host.state c.args.host.now in
    let names : length (map string_bytes c.args.races.now.run.sources.items) ≡ length c.args.races.now.run.sources.items =
    length-map c.args.races.now.run.sources.items string_bytes in
    let many : c.len.result ≡ length c.args.races.now.run.sources.items = search rules in
    too_many (omega (arith, names, many, c.if-len-gt-MOST_SOURCES.true))
    (ends_settled no_files TooMany before before
    (g.H.Host.state c.settle.new.host) [] c.too_many_sources.result c.settle.result refl c.too_many_sources.ensures c.settle.ensures)

pub returns : goal.returns
returns g c =
    let names : length (map string_bytes c.args.races.now.run.sources.items) ≡ length c.args.races.now.run.sources.items =
    length-map c.args.races.now.run.sources.items string_bytes in
    let many : c.len.result ≡ length c.args.races.now.run.sources.items = search rules in
    reports (omega (arith, names, many, c.if-len-gt-MOST_SOURCES.false)) c.on_files.ensures
