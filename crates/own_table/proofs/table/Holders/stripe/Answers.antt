use Rattle.std.proofs.Common.{arith}
use Rattle.own_table.proofs.TableLemmas.{own_reads, own_writes, own_words}
use Rattle.own_table.proofs.table.Holders.stripe.Goals as goal

pub returns-clause-once : goal.returns-clause-once
returns-clause-once c = rw c.as_slice.ensures.value c.index-stripe.result.now.once

pub returns-clause-there : goal.returns-clause-there
returns-clause-there c = rw c.as_slice.ensures.value (own_words c.args.self.now.stripes.items c.args.s c.index-stripe.result.now
    (omega (arith, c.args.self.now.table.stripes_len)) c.index-stripe.ensures c.args.self.now.table.placed)

pub returns-clause-readers : goal.returns-clause-readers
returns-clause-readers c = rw c.as_slice.ensures.value
    (λ k d l u. own_reads c.args.self.now.stripes.items c.args.s c.index-stripe.result.now k d
    (omega (arith, c.args.self.now.table.stripes_len)) c.index-stripe.ensures c.args.self.now.table.placed l u)

pub returns-clause-writer : goal.returns-clause-writer
returns-clause-writer c = rw c.as_slice.ensures.value
    (λ k d l u. own_writes c.args.self.now.stripes.items c.args.s c.index-stripe.result.now k d
    (omega (arith, c.args.self.now.table.stripes_len)) c.index-stripe.ensures c.args.self.now.table.placed l u)
