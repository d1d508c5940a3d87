use Rattle.std.proofs.Common.{map, string_bytes, subst}
use Rattle.std.specs.Prelude.{IfOk}
use Rattle.run_command.specs.command_io.Reads.{StopsReading, ReadsWithin, wanted_each, bytes_of}
use Rattle.run_command.specs.command_io.Writes.{written_of}
use Rattle.run_command.specs.command_io.declared.files.FileKind.TheVariants.{Source}
use Rattle.run_command.specs.tx_answers.Ends.{HaltsAmong}
use Rattle.races_command.specs.Commands.{Decides}
use Rattle.run_command.specs.Commands.{input_file}
use Rattle.races_command.proofs.Moments.{ends_at_sources, ends_at_input, ends_at_schedule, ends_read}
use Rattle.races_command.proofs.command.on_files.Goals as goal

pub returns-in-Err : goal.returns-in-Err
returns-in-Err g c =
    let state = g.H.Host.state in
    ends_at_sources c.args.races.now (state c.args.host.now) (state c.read_each.new.host) (state c.halt_among.new.host) c.in-Err.unread c.halt_among.result
    (subst (λ l. StopsReading (state c.args.host.now) (wanted_each Source (map string_bytes l))
    (state c.read_each.new.host) c.in-Err.unread) c.as_slice-names.ensures.value c.in-Err.ensures.unread)
    (subst (λ l. HaltsAmong (wanted_each Source (map string_bytes l)) c.in-Err.unread (state c.read_each.new.host)
    (state c.halt_among.new.host) c.halt_among.result) c.as_slice-names.ensures.value c.halt_among.ensures)

pub returns-in-Err-read_given : goal.returns-in-Err-read_given
returns-in-Err-read_given g c =
    let state = g.H.Host.state in
    ends_at_input c.args.races.now (state c.args.host.now) (state c.read_each.new.host) (state c.read_given.new.host) (state c.halt_given.new.host)
    (map (λ text. text.items) c.in-Ok.texts.items) c.in-Err-read_given.unread
    c.halt_given.result
    (subst (λ l. ReadsWithin (state c.args.host.now) (wanted_each Source (map string_bytes l)) (map (λ text. text.items) c.in-Ok.texts.items)
    (state c.read_each.new.host)) c.as_slice-names.ensures.value c.in-Ok.ensures.read)
    c.in-Err-read_given.ensures.unread c.halt_given.ensures

pub returns-in-Err-read_schedule : goal.returns-in-Err-read_schedule
returns-in-Err-read_schedule g c =
    let state = g.H.Host.state in
    ends_at_schedule c.args.races.now (state c.args.host.now) (state c.read_each.new.host) (state c.read_given.new.host) (state c.read_schedule.new.host)
    (state c.halt_schedule.new.host)
    (map (λ text. text.items) c.in-Ok.texts.items) (bytes_of
    (input_file c.args.races.now.run) c.in-Ok-read_given.input.items) c.in-Err-read_schedule.unread c.halt_schedule.result
    (subst (λ l. ReadsWithin (state c.args.host.now) (wanted_each Source (map string_bytes l)) (map (λ text. text.items) c.in-Ok.texts.items)
    (state c.read_each.new.host)) c.as_slice-names.ensures.value c.in-Ok.ensures.read)
    c.in-Ok-read_given.ensures.read c.in-Err-read_schedule.ensures.unread c.halt_schedule.ensures

pub returns : goal.returns
returns g c =
    let state = g.H.Host.state in
    let r = c.args.races.now in
    let input = c.in-Ok-read_given.input.items in
    ends_read r (state c.args.host.now) (state c.read_each.new.host) (state c.read_given.new.host) (state c.read_schedule.new.host) (state c.settle.new.host)
    (map (λ text. text.items) c.in-Ok.texts.items) input
    c.in-Ok-read_schedule.schedule.items c.decided.result c.settle.result
    (subst (λ l. ReadsWithin (state c.args.host.now) (wanted_each Source (map string_bytes l)) (map (λ text. text.items) c.in-Ok.texts.items)
    (state c.read_each.new.host)) c.as_slice-names.ensures.value c.in-Ok.ensures.read)
    c.in-Ok-read_given.ensures.read c.in-Ok-read_schedule.ensures.read c.in-Ok-read_given.ensures.empty c.in-Ok-read_schedule.ensures.empty
    (subst (λ l. IfOk c.decided.result (λ d. Decides r (map (λ text. text.items) l) input c.in-Ok-read_schedule.schedule.items d.answer
    (map written_of d.writes.items))) c.as_slice.ensures.value
    (subst (λ s. IfOk c.decided.result (λ d. Decides r (map (λ text. text.items) c.as_slice.result.now) input s d.answer
    (map written_of d.writes.items))) c.as_slice-2.ensures.value c.decided.ensures))
    c.settle.ensures
