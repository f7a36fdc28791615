-- Numbers with which names end, and ranks by these.
use Rattle.std.proofs.Common.{◌≡◌, ◌∙◌, ℕ, ◌+◌, ◌≤◌, Bool, true, false, List, [], ◌∷◌, cond, drop, length, refl, sym, ap}
use Rattle.std.specs.Char.{is_ascii_digit}
use Rattle.std.specs.List.{list_all}
use Rattle.std.specs.Str.{all_ascii_digits}
use Rattle.std.specs.Str.Parse.{digits_value}
use Rattle.std.proofs.lemmas.Bool.{and_from, and_parts, false_from_ne_true, false≢true}
use Rattle.std.proofs.lemmas.List.{drop_all}
use Rattle.elf_model.specs.Link.ArrayOrder.{array_rank, is_array_prefixed, is_numbered, is_short_number}
use Rattle.judge_model.specs.Runs.{constructor_rank}

pub are_ascii_digits : (ds : List ℕ) → list_all is_ascii_digit ds ≡ true → all_ascii_digits ds ≡ true
are_ascii_digits [] all = refl
are_ascii_digits (d ∷ ds) all =
    let both = and_parts (is_ascii_digit d) (list_all is_ascii_digit ds) all in
    and_from (is_ascii_digit d) (all_ascii_digits ds) both.0 (are_ascii_digits ds both.1)

-- a name that isn't longer has no number from there on
pub no_number : (name : List ℕ) (at : ℕ) → length name ≤ at → is_short_number (drop at name) ≡ true → ⊥
no_number name at short e = false≢true (sym (ap is_short_number (drop_all at name short)) ∙ e)

-- arrays
pub rank_of_number : (name : List ℕ) (n : ℕ) → is_array_prefixed name ≡ true → is_short_number (drop 12 name) ≡ true → n ≡ digits_value 10 (drop 12 name) → n ≡ array_rank name
unfolding array_rank
rank_of_number name n prefixed short is =
    is ∙ sym (ap (λ (b : Bool). cond b (digits_value 10 (drop 12 name)) 100000) (and_from (is_array_prefixed name) (is_short_number (drop 12 name)) prefixed short))

rank_of_other : (name : List ℕ) → (is_numbered name ≡ true → ⊥) → 100000 ≡ array_rank name
unfolding array_rank
rank_of_other name never = sym (ap (λ (b : Bool). cond b (digits_value 10 (drop 12 name)) 100000) (false_from_ne_true (is_numbered name) never))

pub rank_unprefixed : (name : List ℕ) → is_array_prefixed name ≡ false → 100000 ≡ array_rank name
rank_unprefixed name e = rank_of_other name (λ t. false≢true (sym e ∙ (and_parts (is_array_prefixed name) (is_short_number (drop 12 name)) t).0))

pub rank_unnumbered : (name : List ℕ) → (is_short_number (drop 12 name) ≡ true → ⊥) → 100000 ≡ array_rank name
rank_unnumbered name never = rank_of_other name (λ t. never (and_parts (is_array_prefixed name) (is_short_number (drop 12 name)) t).1)

-- constructors
pub constructor_number : (name : List ℕ) (n : ℕ) → is_short_number (drop 7 name) ≡ true → n ≡ digits_value 10 (drop 7 name) → constructor_rank name ≡ 1 + digits_value 10 (drop 7 name)
constructor_number name n short is = ap (λ (b : Bool). cond b (1 + digits_value 10 (drop 7 name)) 0) short

pub constructor_other : (name : List ℕ) → (is_short_number (drop 7 name) ≡ true → ⊥) → constructor_rank name ≡ 0
constructor_other name never = ap (λ (b : Bool). cond b (1 + digits_value 10 (drop 7 name)) 0) (false_from_ne_true (is_short_number (drop 7 name)) never)
