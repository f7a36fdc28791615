-- An image up to an offset, with another file header in front.
use Rattle.std.proofs.Common.{◌≡◌, ℕ, List, ◌++◌, length, sym, ◌∙◌, ap, append_assoc, take, drop}
use Rattle.std.proofs.lemmas.List.{drop_at, take_at}

pub plain_is :
    (old new programs body tail : List ℕ) (end : ℕ) → length old ≡ 64 → length ((old ++ programs) ++ body) ≡ end →
    new ++ drop 64 (take end ((old ++ programs) ++ (body ++ tail))) ≡ (new ++ programs) ++ body
plain_is old new programs body tail end head long =
    let up_to : take end ((old ++ programs) ++ (body ++ tail)) ≡ old ++ (programs ++ body) =
    ap (take end) (sym (append_assoc (old ++ programs) body tail))
    ∙ (take_at ((old ++ programs) ++ body) tail end long ∙ append_assoc old programs body) in
    ap (λ (xs : List ℕ). new ++ drop 64 xs) up_to
    ∙ (ap (λ (xs : List ℕ). new ++ xs) (drop_at old (programs ++ body) 64 head) ∙ sym (append_assoc new programs body))
