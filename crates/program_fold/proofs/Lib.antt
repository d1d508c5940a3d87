mod Findings
mod Folds
