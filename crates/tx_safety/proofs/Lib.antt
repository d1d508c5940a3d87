pub mod FuncMarks
pub mod Contents
pub mod FindingLists
pub mod Programs
