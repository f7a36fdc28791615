-- The member of a group that has a number is the word there.
use Rattle.std.proofs.Common.{◌≡◌, ◌∙◌, ℕ, ◌+◌, ◌-◌, ◌*◌, ◌/◌, ◌<◌, List, Some, ap, arith}
use Rattle.std.specs.List.{slice_get}
use Rattle.std.proofs.lemmas.List.FromFn.{get_or-map-range_with_len, length-map-range_with_len}
use Rattle.std.proofs.lemmas.Option.{slice_get-get_or}
use Rattle.byteview.specs.Numbers.{le, le_at, part}
use Rattle.elf_model.specs.Inputs.ObjectFile.{group_members}
use Rattle.elf_model.specs.declared.records.SectionHeader.{SectionHeader}

pub member_there : (bytes : List ℕ) (s : SectionHeader) (k : ℕ) → k < s.sh_size / 4 - 1 →
    slice_get (group_members bytes s) k ≡ Some (le_at 4 bytes (s.sh_offset + 4 + 4 * k))
member_there bytes s k within =
    let word = λ (i : ℕ). le (part bytes (s.sh_offset + 4 + 4 * i) 4) in
    let n = s.sh_size / 4 - 1 in
    let count = length-map-range_with_len word 0 n in
    slice_get-get_or (group_members bytes s) k 0 (omega (arith, count, within))
    ∙ ap (λ (m : ℕ). Some m) (get_or-map-range_with_len word 0 n k k 0 within (omega arith))
