-- The first line of a name among those that are left.
use Rattle.std.proofs.Common.{◌≡◌, ℕ, ◌+◌, ◌<◌, ◌≤◌, Bool, true, false, cond, List, length, get_or, drop, map, None, Some, ap, sym, ◌∙◌}
use Rattle.std.specs.Prelude.{find, option_map}
use Rattle.std.proofs.lemmas.List.{drop_all}
use Rattle.elf_model.proofs.Rests.{rest_at}
use Rattle.judge_model.specs.Certificates.{NameRow, is_row_of, name_row}
use Rattle.judge_model.specs.declared.certificate.NameLine.{NameLine}

module _ (rows : List NameLine) (name : List ℕ) (i : ℕ) (d : NameLine) (within : i < length rows) where
  first : (b : Bool) → is_row_of name (name_row (get_or rows i d)) ≡ b →
      find (is_row_of name) (map name_row (drop i rows))
      ≡ cond b (Some (name_row (get_or rows i d))) (find (is_row_of name) (map name_row (drop (i + 1) rows)))
  first b e =
      ap (λ (xs : List NameLine). find (is_row_of name) (map name_row xs)) (rest_at rows i d within)
      ∙ ap (λ (t : Bool). cond t (Some (name_row (get_or rows i d))) (find (is_row_of name) (map name_row (drop (i + 1) rows)))) e

  pub row_here :
      is_row_of name (name_row (get_or rows i d)) ≡ true →
      find (is_row_of name) (map name_row (drop i rows)) ≡ find (is_row_of name) (map name_row rows) →
      Some (get_or rows i d).value ≡ option_map (λ row. row.value) (find (is_row_of name) (map name_row rows))
  row_here e all = ap (option_map (λ (row : NameRow). row.value)) (sym (first true e) ∙ all)

  pub row_later :
      is_row_of name (name_row (get_or rows i d)) ≡ false →
      find (is_row_of name) (map name_row (drop i rows)) ≡ find (is_row_of name) (map name_row rows) →
      find (is_row_of name) (map name_row (drop (i + 1) rows)) ≡ find (is_row_of name) (map name_row rows)
  row_later e all = sym (first false e) ∙ all

pub no_row :
    (rows : List NameLine) (name : List ℕ) (i : ℕ) → length rows ≤ i →
    find (is_row_of name) (map name_row (drop i rows)) ≡ find (is_row_of name) (map name_row rows) →
    None ≡ option_map (λ row. row.value) (find (is_row_of name) (map name_row rows))
no_row rows name i behind all =
    ap (option_map (λ (row : NameRow). row.value))
    (sym (ap (λ (xs : List NameLine). find (is_row_of name) (map name_row xs)) (drop_all i rows behind)) ∙ all)
