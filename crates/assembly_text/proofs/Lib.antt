pub mod RecordLaws
pub mod RecordsAgain
pub mod FieldLaws
pub mod NameLaws
pub mod LineLaws
pub mod PrintLaws
