-- What a write of a number's bytes leaves in front, by the spelling of the number.
use Rattle.std.proofs.Common.{◌≡◌, ℕ, ◌+◌, List, ◌++◌, length, take, ap, sym, ◌∙◌}
use Rattle.byteview.specs.Numbers.{le_bytes}
use Rattle.byteview.proofs.NumberLaws.{length-le_bytes}

pub spelled : (n x at : ℕ) (out old bytes : List ℕ) → take (at + length bytes) out ≡ take at old ++ bytes → bytes ≡ le_bytes n x
    → take (at + n) out ≡ take at old ++ le_bytes n x
spelled n x at out old bytes front e =
    let len : length bytes ≡ n = ap length e ∙ length-le_bytes n x in
    ap (λ (k : ℕ). take (at + k) out) (sym len) ∙ front ∙ ap (λ (xs : List ℕ). take at old ++ xs) e
