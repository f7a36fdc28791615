pub mod ApartLaws
pub mod CompiledLaws
pub mod InsideLaws
pub mod SetLaws
pub mod UniqueLaws
pub mod WholeLaws
