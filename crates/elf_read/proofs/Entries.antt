-- A table with one more entry.
use Rattle.std.proofs.Common.{◌≡◌, ℕ, ◌+◌, ◌*◌, List, [], ◌∷◌, ◌++◌, ap, sym, ◌∙◌, arith}
use Rattle.std.proofs.lemmas.List.{append_assoc}
use Rattle.std.proofs.lemmas.List.FromFn.{map-range_with_len_more}
use Rattle.byteview.specs.Numbers.{part}
use Rattle.elf_model.specs.Inputs.ObjectFile.{entries}

pub entries_more : {X : Type 0} (read : List ℕ → X) (size : ℕ) (bytes : List ℕ) (offset n : ℕ)
    → entries read size bytes offset (n + 1) ≡ entries read size bytes offset n ++ read (part bytes (offset + size * n) size) ∷ []
entries_more read size bytes offset n = map-range_with_len_more (λ i. read (part bytes (offset + size * i) size)) 0 n n (omega arith)

-- one entry more behind a list that ends with the table's first entries
pub entries_pushed : {X : Type 0} (read : List ℕ → X) (size : ℕ) (bytes : List ℕ) (offset n : ℕ) (old now new : List X) (x : X)
    → now ≡ old ++ entries read size bytes offset n → x ≡ read (part bytes (offset + size * n) size) → new ≡ now ++ x ∷ []
    → new ≡ old ++ entries read size bytes offset (n + 1)
entries_pushed read size bytes offset n old now new x now_is x_is new_is =
    new_is ∙ (λ i. now_is i ++ (x_is i ∷ []))
    ∙ append_assoc old (entries read size bytes offset n) (read (part bytes (offset + size * n) size) ∷ [])
    ∙ ap (λ ys. old ++ ys) (sym (entries_more read size bytes offset n))
