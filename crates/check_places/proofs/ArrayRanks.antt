-- Short numbers of decimal digits, and the ranks of sections by their names.
use Rattle.std.proofs.Common.{◌≡◌, ℕ, ◌<◌, Bool, true, false, ◌&&◌, ◌||◌, List, [], ◌∷◌, cond, drop, length, refl, sym, ap, ◌∙◌, arith}
use Rattle.std.specs.Prelude.{codes, nat_eq}
use Rattle.std.specs.Char.{is_ascii_digit}
use Rattle.std.specs.List.{list_all, starts_with}
use Rattle.std.specs.Str.{all_ascii_digits}
use Rattle.std.specs.Str.Parse.{digits_value}
use Rattle.std.proofs.lemmas.Bool.{and_parts, and_from}
use Rattle.elf_model.specs.Link.ArrayOrder.{array_rank, is_array_prefixed, is_numbered}

pub are_ascii_digits : (ds : List ℕ) → list_all is_ascii_digit ds ≡ true → all_ascii_digits ds ≡ true
are_ascii_digits [] all = refl
are_ascii_digits (d ∷ ds) all =
    let both = and_parts (is_ascii_digit d) (list_all is_ascii_digit ds) all in
    and_from (is_ascii_digit d) (all_ascii_digits ds) both.0 (are_ascii_digits ds both.1)

pub rank_of_number : (name ds : List ℕ) → is_numbered name ≡ true → ds ≡ drop 12 name → digits_value 10 ds ≡ array_rank name
unfolding array_rank
rank_of_number name ds e is =
    ap (digits_value 10) is ∙ sym (ap (λ (b : Bool). cond b (digits_value 10 (drop 12 name)) 100000) e)

pub rank_of_other : (name : List ℕ) → (is_numbered name ≡ true → ⊥) → 100000 ≡ array_rank name
unfolding array_rank
rank_of_other name never = by (is_numbered name) refl
  where
    by : (b : Bool) → is_numbered name ≡ b → 100000 ≡ cond b (digits_value 10 (drop 12 name)) 100000
    by true e = absurd (never e)
    by false e = refl

-- Names that are shorter than those of numbered arrays begin otherwise.
and_false : (b : Bool) → (b && false) ≡ false
and_false true = refl
and_false false = refl

too_short : (name prefix : List ℕ) → length name < length prefix → starts_with nat_eq name prefix ≡ false
too_short name [] short = absurd (omega (arith, short))
too_short [] (d ∷ ds) short = refl
too_short (n ∷ ns) (d ∷ ds) short = ap (λ (b : Bool). nat_eq d n && b) (too_short ns ds (omega (arith, short))) ∙ and_false (nat_eq d n)

either_false : (a b : Bool) → a ≡ false → b ≡ false → false ≡ (a || b)
either_false a b e f = rw (e, f) refl

pub short_name : (name : List ℕ) → length name < 12 → false ≡ is_array_prefixed name
short_name name short =
    either_false (starts_with nat_eq name (codes ".init_array.")) (starts_with nat_eq name (codes ".fini_array."))
    (too_short name (codes ".init_array.") short) (too_short name (codes ".fini_array.") short)
