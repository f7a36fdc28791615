-- The numbers that are marked, with one more place.
use Rattle.std.proofs.Common.{◌≡◌, ℕ, ◌+◌, Bool, cond, List, [], ◌∷◌, ◌++◌, sym, ◌∙◌}
use Rattle.std.specs.Prelude.{filter}
use Rattle.std.specs.List.{range_with_len}
use Rattle.elf_model.specs.Marks.{is_marked}
use Rattle.elf_model.proofs.Numbering.{filter_range_more}

pub numbers_more : (marks : List Bool) (n : ℕ) (old new : List ℕ) (b : Bool) → old ≡ filter (is_marked marks) (range_with_len 0 n) → is_marked marks n ≡ b
    → new ≡ old ++ cond b (n ∷ []) [] → new ≡ filter (is_marked marks) (range_with_len 0 (n + 1))
numbers_more marks n old new b old_is b_is new_is =
    new_is ∙ (λ j. old_is j ++ cond (sym b_is j) (n ∷ []) []) ∙ sym (filter_range_more (is_marked marks) n)
