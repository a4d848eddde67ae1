pub mod Seven
pub mod Cells
pub mod Origins
