pub mod Word
pub mod Operand
pub mod Masks
pub mod Parts
