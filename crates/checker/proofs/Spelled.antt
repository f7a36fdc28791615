-- The lowest bytes of a number are its spelling in so many bytes.
use Rattle.std.proofs.Common.{◌≡◌, ℕ, ◌≤◌, List, take, ap, ◌∙◌}
use Rattle.byteview.proofs.NumberLaws.{take-le_bytes}
use Rattle.byteview.specs.Numbers.{le_bytes}

pub take-little : (w x : ℕ) (spelled : List ℕ) → spelled ≡ le_bytes 8 x → w ≤ 8 → take w spelled ≡ le_bytes w x
take-little w x spelled e narrow = ap (take w) e ∙ take-le_bytes w 8 x narrow
