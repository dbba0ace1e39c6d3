pub mod Origins
pub mod Lines
