-- Marks at numbers, as the definitions have them.
pub use Rattle.elf_model.specs.Marks.{AreUnmarked, is_marked, marked, marked_numbers}
