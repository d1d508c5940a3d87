use Rattle.low_code.specs.Writer.{made}
use Rattle.lowered_rows.proofs.Outward.{nested}
use Rattle.lowered_rows.proofs.Entering.{same_within, same_edges, begun_within, begun_edges, added_edges, made_within}
use Rattle.lowered_rows.proofs.Handlers.{handler_within, handler_edges}
use Rattle.lowered_rows.proofs.laws.entered_scopes_are_within.Goals as goal

pub returns-clause-same : goal.returns-clause-same
returns-clause-same c = λ b d e within. same_within b d e within

pub returns-clause-same_edges : goal.returns-clause-same_edges
returns-clause-same_edges c = λ b d e edges. same_edges b d e edges

pub returns-clause-begun : goal.returns-clause-begun
returns-clause-begun c = λ depth at. begun_within depth at

pub returns-clause-begun_edges : goal.returns-clause-begun_edges
returns-clause-begun_edges c = λ depth at. begun_edges depth at

pub returns-clause-entered : goal.returns-clause-entered
returns-clause-entered c = λ kind depth at b within l other. made_within kind depth at b within l other

pub returns-clause-entered_edges : goal.returns-clause-entered_edges
returns-clause-entered_edges c = λ kind depth at b edges other. added_edges b (made kind b.scope depth at b) edges other

pub returns-clause-nested : goal.returns-clause-nested
returns-clause-nested c = λ b within. nested b within

pub returns-clause-handler : goal.returns-clause-handler
returns-clause-handler c = λ at b within none l. handler_within at b within none l

pub returns-clause-handler_edges : goal.returns-clause-handler_edges
returns-clause-handler_edges c = λ at b edges. handler_edges at b edges
