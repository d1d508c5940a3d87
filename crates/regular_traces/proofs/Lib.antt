mod FittingItems
mod NumberedWorlds
pub mod TraceItems
