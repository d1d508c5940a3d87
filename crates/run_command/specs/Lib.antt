pub use Rattle.bounded_runs.specs as bounded_runs
pub use Rattle.command_io.specs as command_io
pub use Rattle.cpp_tree.specs as cpp_tree
pub use Rattle.exec_command.specs as exec_command
pub use Rattle.held_runs.specs as held_runs
pub use Rattle.schedules.specs as schedules
pub use Rattle.source_verdict.specs as source_verdict
pub use Rattle.src_bind.specs as src_bind
pub use Rattle.tx_answers.specs as tx_answers
pub use Rattle.tx_code.specs as tx_code
pub use Rattle.cpp_tree.specs.tx_events as tx_events
pub use Rattle.tx_host.specs as tx_host
pub use Rattle.tx_safety.specs as tx_safety
pub use Rattle.tx_words.specs as tx_words
pub use Rattle.unit_objects.specs as unit_objects
pub mod Runs
pub mod Commands
pub mod Completes
