-- The code's letters of a formula, which count modulo 2 ^ 64.
use Rattle.std.specs.Prelude.{◌≡◌, ℕ, pos, ◌-ℤ◌, ◌%◌, ◌^◌}
use Rattle.field_judge.specs.declared.kinds.Formula.{Formula}
use Rattle.field_judge.specs.declared.kinds.Formula.TheVariants as formula
use Rattle.judge_model.specs.Fields.{Letters}
use Rattle.field_judge.specs.declared.formulas.Terms.{Terms}

-- the code's terms are those of letters, given the thread pointer
pub record AreTerms (t : Terms) (x : Letters) (pointer : ℕ) : Type 0 where
  pub symbol : t.symbol ≡ x.s % 2 ^ 64
  pub addend : t.addend ≡ x.a
  pub place : t.place ≡ x.p % 2 ^ 64
  pub got : t.got ≡ x.got % 2 ^ 64
  pub size : t.size ≡ x.z % 2 ^ 64
  pub pointer_is : t.thread_pointer ≡ pointer % 2 ^ 64
  pub offset : x.t ≡ pos x.s -ℤ pos pointer

-- what a formula adds the addend to, and what it takes away
abbrev pub base_in : Formula → Letters → ℕ
base_in formula.Symbol x = x.s
base_in formula.SymbolFromPlace x = x.s
base_in formula.SymbolFromGot x = x.s
base_in formula.Slot x = x.slot
base_in formula.SlotFromPlace x = x.slot
base_in formula.GotFromPlace x = x.got
base_in formula.Size x = x.z
base_in formula.ThreadOffset x = x.s
base_in formula.ThreadSlotFromPlace x = x.slot

abbrev pub less_in : Formula → Letters → ℕ → ℕ
less_in formula.Symbol x pointer = 0
less_in formula.SymbolFromPlace x pointer = x.p
less_in formula.SymbolFromGot x pointer = x.got
less_in formula.Slot x pointer = x.got
less_in formula.SlotFromPlace x pointer = x.p
less_in formula.GotFromPlace x pointer = x.p
less_in formula.Size x pointer = 0
less_in formula.ThreadOffset x pointer = pointer
less_in formula.ThreadSlotFromPlace x pointer = x.p
