pub mod Cells
pub mod Flat
pub mod MaskRom
pub mod Of
