-- Rights as the sum of X 1, W 2 and R 4 (System V gABI 5, "Segment Permissions").
use Rattle.std.specs.Prelude.{ℕ}
use Rattle.loader_model.specs.declared.memory.Rights.{Rights}
use Rattle.loader_model.specs.declared.memory.Rights.TheVariants as right

abbrev pub rights_sum : Rights → ℕ
rights_sum right.Read = 4
rights_sum right.ReadExecute = 5
rights_sum right.ReadWrite = 6
