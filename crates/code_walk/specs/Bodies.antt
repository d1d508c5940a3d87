-- A body as it is walked: what an index gives on, by its instruction and by the rows that cover it.
use Rattle.std.specs.Prelude.{Bool, true, false, ℕ, List, [], ◌∷◌, ◌++◌, length, Option, Some, None, ◌&&◌, nat_eq, if◌then◌else◌, slice_get}
use Rattle.tx_events.specs.Thread.{Open, Atomic, Sync, same_kind}
use Rattle.tx_code.specs.declared.instr.Instr.{Instr}
use Rattle.tx_code.specs.declared.body.Row.{Row}
use Rattle.tx_code.specs.Objects.{BodyView}
use Rattle.tx_code.specs.Meaning.{covers}
use Rattle.tx_code.specs.Shapes.{Hand, Empty, Builds, Flies, Shape, Table, outgoing, targets, landed}
use Rattle.tx_code.specs.Sound.{Signature, entry}
use Rattle.code_walk.specs.Walk.{Given, given, Space}

-- ---- equal shapes

abbrev pub same_open : Open → Open → Bool
same_open (Atomic k) (Atomic j) = same_kind k j
same_open (Atomic k) Sync = false
same_open Sync (Atomic k) = false
same_open Sync Sync = true

abbrev pub same_opens : List Open → List Open → Bool
same_opens [] [] = true
same_opens [] (p ∷ ps) = false
same_opens (o ∷ os) [] = false
same_opens (o ∷ os) (p ∷ ps) = same_open o p && same_opens os ps

abbrev pub same_hand : Hand → Hand → Bool
same_hand Empty Empty = true
same_hand Empty Builds = false
same_hand Empty Flies = false
same_hand Builds Builds = true
same_hand Builds Empty = false
same_hand Builds Flies = false
same_hand Flies Flies = true
same_hand Flies Empty = false
same_hand Flies Builds = false

abbrev pub same_shape : Shape → Shape → Bool
same_shape s t = nat_eq s.depth t.depth && same_opens s.opens t.opens && nat_eq s.handlers t.handlers && same_hand s.hand t.hand

-- ---- what an index gives on

abbrev pub falls_to : List ℕ → Shape → List (Given Shape)
falls_to [] u = []
falls_to (j ∷ js) u = given j u ∷ falls_to js u

abbrev pub lands_in : List Row → ℕ → Shape → List (Given Shape)
lands_in [] i s = []
lands_in (r ∷ rs) i s = if covers r i then given r.target (landed r.what r.depth s.opens s.handlers) ∷ lands_in rs i s else lands_in rs i s

-- an instruction that does not find its operands gives nothing
abbrev pub given_on : Option Shape → Instr → List Row → ℕ → Shape → List (Given Shape)
given_on None a rows i s = []
given_on (Some u) a rows i s = falls_to (targets a i) u ++ lands_in rows i s

abbrev pub given_by : Table → (own : ℕ) → List Row → Option Instr → ℕ → Shape → List (Given Shape)
given_by x own rows None i s = []
given_by x own rows (Some a) i s = given_on (outgoing x own a s) a rows i s

abbrev pub space : Table → Signature → BodyView → Space Shape
space x g b = record { count = length b.code; entry = entry g; same = same_shape; gives = λ i s. given_by x g.gives b.rows (slice_get b.code i) i s }
