-- The bytes of a piece put behind others, and written over in place.
use Rattle.std.proofs.Common.{◌≡◌, ℕ, ◌+◌, List, ◌++◌, drop, length, take, sym, ◌∙◌, ap}
use Rattle.std.proofs.Math.Seq.{drop-append_seam, take-append_seam}
use Rattle.std.proofs.lemmas.List.{length-append}

-- the front of a list that was extended and cut at the end of the old one, and its back
pub front_is : (out bytes d f : List ℕ) (at : ℕ) → at ≡ length out → d ≡ out ++ bytes → f ≡ take at d → f ≡ out
front_is out bytes d f at is_at is_d is_f =
    is_f ∙ (ap (λ (n : ℕ). take n d) is_at ∙ (ap (take (length out)) is_d ∙ take-append_seam out bytes))

pub back_is : (out bytes d b : List ℕ) (at : ℕ) → at ≡ length out → d ≡ out ++ bytes → b ≡ drop at d → b ≡ bytes
back_is out bytes d b at is_at is_d is_b =
    is_b ∙ (ap (λ (n : ℕ). drop n d) is_at ∙ (ap (drop (length out)) is_d ∙ drop-append_seam out bytes))

-- the new back in place of the old one
pub put_is :
    (out bytes f n wanted rest : List ℕ) (len : ℕ) → f ≡ out → n ≡ wanted → length wanted ≡ length bytes → len ≡ length (out ++ bytes) →
    take len ((f ++ n) ++ rest) ≡ out ++ wanted
put_is out bytes f n wanted rest len is_f is_n same is_len =
    let joined : f ++ n ≡ out ++ wanted = ap (λ (xs : List ℕ). xs ++ n) is_f ∙ ap (λ (xs : List ℕ). out ++ xs) is_n in
    let size : len ≡ length (out ++ wanted) =
    is_len ∙ (length-append out bytes ∙ (ap (λ (k : ℕ). length out + k) (sym same) ∙ sym (length-append out wanted))) in
    ap (λ (xs : List ℕ). take len (xs ++ rest)) joined
    ∙ (ap (λ (k : ℕ). take k ((out ++ wanted) ++ rest)) size ∙ take-append_seam (out ++ wanted) rest)
