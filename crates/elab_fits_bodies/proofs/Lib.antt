pub use Rattle.elab_fits_objects.proofs as elab_fits_objects
pub use Rattle.elab_fits_statements.proofs as elab_fits_statements
pub use Rattle.elab_fits.proofs as elab_fits
pub mod Ends
pub mod Parts
pub mod Bodies
pub mod Plain
pub mod Contexts
pub mod Built
pub mod PlainCopies
pub mod Copied
pub mod Implied
pub mod Members
pub mod Written
