use Rattle.std.proofs.Common.{◌≡◌, ◌++◌, drop}
use Rattle.std.specs.Prelude.{map}
use Rattle.elf_model.specs.Image.MapRecord.{place_row}
use Rattle.judge_stages.specs.Stages.{key_of}
use Rattle.judge_stages.proofs.keys.keys_of.Given as goal

abbrev pub invariant-loop-line : goal.invariant-loop-line
invariant-loop-line l = l.keys.items ++ map key_of (map place_row (drop l.line-index l.lines)) ≡ map key_of (map place_row l.lines)
