use Rattle.std.proofs.Common.{[], ◌∷◌, refl, rules, ◌∙◌, ap, subst, sym, arith, ◌<◌, ◌≤◌, length}
use Rattle.tx_host.specs.Told.{IsFront}
use Rattle.command_io.specs.Reads.{wanted, limit_of}
use Rattle.command_io.proofs.Steps.{next_fails, next_none, next_passes}
use Rattle.command_io.proofs.files.read_at.Goals as goal

pub returns-in-Err-Failed-clause-unread : goal.returns-in-Err-Failed-clause-unread
returns-in-Err-Failed-clause-unread g c = search (rules, next_fails)

pub returns-in-Err-Memory-clause-unread : goal.returns-in-Err-Memory-clause-unread
returns-in-Err-Memory-clause-unread g c = search (rules, next_none)

pub returns-then-len-limit-clause-unread : goal.returns-then-len-limit-clause-unread
returns-then-len-limit-clause-unread g c =
    let long : limit_of c.args.kind < length c.in-Ok.bytes.items = omega (arith, c.if-len-limit.true, c.limit-2.ensures, c.len.ensures) in
    next_passes c.args.index (g.H.Host.state c.args.host.now) (g.H.Host.state c.read_file.new.self) (wanted c.args.kind c.args.name.now) c.in-Ok.bytes.items
    (subst (λ n. IsFront (g.H.Host.state c.args.host.now).files c.args.name.now n c.in-Ok.bytes.items) c.limit.ensures c.in-Ok.ensures.front)
    long
    (rw c.limit.ensures at c.in-Ok.ensures.read)

pub returns-clause-read : goal.returns-clause-read
returns-clause-read g c = (
  subst (λ n. IsFront (g.H.Host.state c.args.host.now).files c.args.name.now n c.in-Ok.bytes.items) c.limit.ensures c.in-Ok.ensures.front,
  omega (arith, c.if-len-limit.false, c.limit-2.ensures, c.len.ensures),
  rw c.limit.ensures at c.in-Ok.ensures.read,
)
