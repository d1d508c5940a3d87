use Rattle.std.proofs.Common.{[], ◌∷◌, map, string_bytes, subst}
use Rattle.std.specs.Prelude.{IfOk}
use Rattle.command_io.specs.Reads.{StopsReading, ReadsWithin, wanted, wanted_each, bytes_of}
use Rattle.command_io.specs.Writes.{written_of}
use Rattle.command_io.specs.declared.files.FileKind.TheVariants.{Source, Schedule}
use Rattle.tx_answers.specs.Ends.{HaltsAmong}
use Rattle.replay_command.specs.Replays.{Decides, input_file}
use Rattle.replay_command.proofs.Moments.{ends_at_sources, ends_at_input, ends_at_order, ends_read}
use Rattle.replay_command.proofs.replaying.on_files.Goals as goal

pub returns-in-Err : goal.returns-in-Err
returns-in-Err g c =
    let state = g.H.Host.state in
    ends_at_sources c.args.words.now (state c.args.host.now) (state c.read_each.new.host) (state c.halt_among.new.host) c.in-Err.unread c.halt_among.result
    (subst (λ l. StopsReading (state c.args.host.now) (wanted_each Source (map string_bytes l))
    (state c.read_each.new.host) c.in-Err.unread) c.as_slice-names.ensures.value c.in-Err.ensures.unread)
    (subst (λ l. HaltsAmong (wanted_each Source (map string_bytes l)) c.in-Err.unread (state c.read_each.new.host)
    (state c.halt_among.new.host) c.halt_among.result) c.as_slice-names.ensures.value c.halt_among.ensures)

pub returns-in-Err-read_given : goal.returns-in-Err-read_given
returns-in-Err-read_given g c =
    let state = g.H.Host.state in
    ends_at_input c.args.words.now (state c.args.host.now) (state c.read_each.new.host) (state c.read_given.new.host) (state c.halt_given.new.host)
    (map (λ text. text.items) c.in-Ok.texts.items) c.in-Err-read_given.unread
    c.halt_given.result
    (subst (λ l. ReadsWithin (state c.args.host.now) (wanted_each Source (map string_bytes l)) (map (λ text. text.items) c.in-Ok.texts.items)
    (state c.read_each.new.host)) c.as_slice-names.ensures.value c.in-Ok.ensures.read)
    c.in-Err-read_given.ensures.unread c.halt_given.ensures

pub returns-in-Err-read_file : goal.returns-in-Err-read_file
returns-in-Err-read_file g c =
    let state = g.H.Host.state in
    ends_at_order c.args.words.now (state c.args.host.now) (state c.read_each.new.host) (state c.read_given.new.host) (state c.read_file.new.host)
    (state c.halt_named.new.host)
    (map (λ text. text.items) c.in-Ok.texts.items) (bytes_of
    (input_file c.args.words.now) c.in-Ok-read_given.input.items) c.in-Err-read_file.unread c.halt_named.result
    (subst (λ l. ReadsWithin (state c.args.host.now) (wanted_each Source (map string_bytes l)) (map (λ text. text.items) c.in-Ok.texts.items)
    (state c.read_each.new.host)) c.as_slice-names.ensures.value c.in-Ok.ensures.read)
    c.in-Ok-read_given.ensures.read
    (subst (λ n. StopsReading (state c.read_given.new.host) (wanted Schedule n ∷ [])
    (state c.read_file.new.host) c.in-Err-read_file.unread) c.as_str-order_file.ensures.value c.in-Err-read_file.ensures.unread)
    (subst (λ n. HaltsAmong (wanted Schedule n ∷ []) c.in-Err-read_file.unread (state c.read_file.new.host)
    (state c.halt_named.new.host) c.halt_named.result) c.as_str-order_file.ensures.value c.halt_named.ensures)

pub returns : goal.returns
returns g c =
    let state = g.H.Host.state in
    let e = c.args.words.now in
    let input = c.in-Ok-read_given.input.items in
    ends_read e (state c.args.host.now) (state c.read_each.new.host) (state c.read_given.new.host) (state c.read_file.new.host) (state c.settle.new.host)
    (map (λ text. text.items) c.in-Ok.texts.items) input
    c.in-Ok-read_file.order.items c.decided.result c.settle.result
    (subst (λ l. ReadsWithin (state c.args.host.now) (wanted_each Source (map string_bytes l)) (map (λ text. text.items) c.in-Ok.texts.items)
    (state c.read_each.new.host)) c.as_slice-names.ensures.value c.in-Ok.ensures.read)
    c.in-Ok-read_given.ensures.read
    (subst (λ n. ReadsWithin (state c.read_given.new.host) (wanted Schedule n ∷ []) (c.in-Ok-read_file.order.items ∷ [])
    (state c.read_file.new.host)) c.as_str-order_file.ensures.value c.in-Ok-read_file.ensures.read)
    c.in-Ok-read_given.ensures.empty
    (subst (λ l. IfOk c.decided.result (λ d. Decides e (map (λ text. text.items) l) input c.in-Ok-read_file.order.items d.answer
    (map written_of d.writes.items))) c.as_slice.ensures.value
    (subst (λ n. IfOk c.decided.result (λ d. Decides e (map (λ text. text.items) c.as_slice.result.now) n c.in-Ok-read_file.order.items d.answer
    (map written_of d.writes.items))) c.as_slice-2.ensures.value
    (subst (λ s. IfOk c.decided.result (λ d. Decides e (map (λ text. text.items) c.as_slice.result.now) c.as_slice-2.result.now s d.answer
    (map written_of d.writes.items))) c.as_slice-3.ensures.value c.decided.ensures)))
    c.settle.ensures
