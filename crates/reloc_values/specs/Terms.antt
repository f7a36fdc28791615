-- The terms of values modulo 2 ^ 64.
use Rattle.std.specs.Prelude.{◌≡◌, ◌%◌, ◌^◌}
use Rattle.elf_model.specs.Link.Relocation as relocation
use Rattle.reloc_values.specs.declared.formulas.Terms as code_terms

-- the code's terms are what whole ones leave modulo 2 ^ 64
pub record Reduces (t : code_terms.Terms) (x : relocation.Terms) : Type 0 where
  pub symbol : t.symbol ≡ x.s % 2 ^ 64
  pub addend : x.a ≡ t.addend
  pub place : t.place ≡ x.p % 2 ^ 64
  pub slot : t.slot ≡ x.g % 2 ^ 64
  pub got : t.got ≡ x.got % 2 ^ 64
  pub size : t.size ≡ x.z % 2 ^ 64
  pub thread : t.thread ≡ relocation.modulo_64 x.t
