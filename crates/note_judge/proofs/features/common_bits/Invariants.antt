use Rattle.std.proofs.Common.{◌≡◌, ◌<◌, ◌^◌, drop}
use Rattle.std.specs.Prelude.{bit_and, fold}
use Rattle.note_judge.specs.Notes.{bits_of_bytes}
use Rattle.note_judge.proofs.features.common_bits.Given as goal

abbrev pub invariant-loop-loaded : goal.invariant-loop-loaded
invariant-loop-loaded l =
    (fold (λ bits o. bit_and bits (bits_of_bytes o.object)) l.bits (drop l.loaded-index l.objects)
    ≡ fold (λ bits o. bit_and bits (bits_of_bytes o.object)) 0xffffffff l.objects)
    × (l.bits < 2 ^ 32)
