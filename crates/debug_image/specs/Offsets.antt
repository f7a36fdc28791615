-- Where tables stand, as the code has it.
use Rattle.std.specs.Prelude.{◌≡◌, ℕ}
use Rattle.debug_image.specs.Tables.{Tables, headers_at, shstrtab_at, shstrtab_end, strtab_at, symtab_at}
use Rattle.debug_image.specs.declared.tables.Offsets as code

pub record AreOffsets (e : ℕ) (t : Tables) (o : code.Offsets) : Type 0 where
  pub symtab : o.symtab ≡ symtab_at e
  pub strtab : o.strtab ≡ strtab_at e t
  pub shstrtab : o.shstrtab ≡ shstrtab_at e t
  pub end : o.end ≡ shstrtab_end e t
  pub headers : o.headers ≡ headers_at e t
