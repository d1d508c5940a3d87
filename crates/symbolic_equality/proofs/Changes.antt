-- Updates with the same parts.
use Rattle.std.proofs.Common.{◌≡◌, ◌∙◌, ap}
use Rattle.src_frames.specs.declared.frames.Change.{Change}

pub same_change : (a b : Change) → a.op ≡ b.op → a.stored ≡ b.stored → a.operation ≡ b.operation → a.volatile ≡ b.volatile → a.old ≡ b.old → a ≡ b
same_change a b op stored operation volatile old =
    ap (λ z. record { op = z; stored = a.stored; operation = a.operation; volatile = a.volatile; old = a.old }) op
    ∙ ap (λ z. record { op = b.op; stored = z; operation = a.operation; volatile = a.volatile; old = a.old }) stored
    ∙ ap (λ z. record { op = b.op; stored = b.stored; operation = z; volatile = a.volatile; old = a.old }) operation
    ∙ ap (λ z. record { op = b.op; stored = b.stored; operation = b.operation; volatile = z; old = a.old }) volatile
    ∙ ap (λ z. record { op = b.op; stored = b.stored; operation = b.operation; volatile = b.volatile; old = z }) old
