pub mod MemberPieces
pub mod Relocated
pub mod Requalified
pub mod StringForms
