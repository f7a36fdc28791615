use Rattle.std.proofs.Common.{List, ap, slice_index, sym, ℕ, ◌+◌, ◌≡◌, ◌∙◌, arith}
use Rattle.relocate.proofs.patch_table.apply.Goals as goal

pub returns : goal.returns
returns c = λ p here there bytes.
    c.apply_part.ensures p here there
    (λ k low.
    let at : k ≡ 0 + k = omega arith in
    ap (λ (bs : List ℕ). slice_index bs k) (sym bytes) ∙ ap (slice_index p.bytes) at)
