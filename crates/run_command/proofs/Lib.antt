pub use Rattle.command_io.proofs as command_io
pub use Rattle.exec_command.proofs as exec_command
pub use Rattle.tx_answers.proofs as tx_answers
mod Folding
pub mod Moments
mod Completing
