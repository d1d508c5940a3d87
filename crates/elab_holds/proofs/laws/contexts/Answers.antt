use Rattle.elab_holds.proofs.Order.{order_law, listed_law}
use Rattle.elab_holds.proofs.Complete.{complete_law}
use Rattle.elab_holds.proofs.Makers.{makers_law}
use Rattle.elab_holds.proofs.Alone.{alone, slots_law}
use Rattle.elab_holds.proofs.Slots.{names_alone, alone_law}
use Rattle.elab_holds.proofs.Texts.{texts_law}
use Rattle.elab_holds.proofs.Contexts.{settings_are, contexts_law}
use Rattle.elab_holds.proofs.laws.contexts.Goals as goal

pub returns-clause-order : goal.returns-clause-order
returns-clause-order c = order_law

pub returns-clause-settings : goal.returns-clause-settings
returns-clause-settings c = settings_are

pub returns-clause-makers : goal.returns-clause-makers
returns-clause-makers c = makers_law

pub returns-clause-complete : goal.returns-clause-complete
returns-clause-complete c = complete_law

pub returns-clause-listed : goal.returns-clause-listed
returns-clause-listed c = listed_law

pub returns-clause-contexts : goal.returns-clause-contexts
returns-clause-contexts c = contexts_law

pub returns-clause-slots : goal.returns-clause-slots
returns-clause-slots c = slots_law

pub returns-clause-texts : goal.returns-clause-texts
returns-clause-texts c = texts_law

pub returns-clause-alone : goal.returns-clause-alone
returns-clause-alone c = alone_law

pub returns-clause-names : goal.returns-clause-names
returns-clause-names c = names_alone

pub returns-clause-kinds : goal.returns-clause-kinds
returns-clause-kinds c = alone
