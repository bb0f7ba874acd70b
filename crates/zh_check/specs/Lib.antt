pub mod Cells
pub mod Differences
pub mod Form
pub mod Lines
pub mod Others
pub mod Reading
pub mod Totals
pub mod Verdicts
