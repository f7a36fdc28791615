-- What a look-up by number tells of a record of a table.
use Rattle.std.proofs.Common.{◌≡◌, ℕ, List, None, Option, Some, SomeIff, ap, sym, subst, ◌∙◌}
use Rattle.std.specs.Prelude.{option_map}
use Rattle.std.specs.List.{All, slice_get}
use Rattle.std.proofs.lemmas.Option.{get_or_from_slice_get, slice_get_within}
use Rattle.byteview.specs.Numbers.{HasText, text}

-- what holds of all records holds of one that was looked up
pub all_at : {X : Type 0} (P : X → Type 0) (xs : List X) (i : ℕ) (x : X) → All P xs → slice_get xs i ≡ Some x → P x
all_at {X} P xs i x all there = subst P (get_or_from_slice_get xs i x x there) (all i x (slice_get_within xs i x there))

-- the text that was found of a record whose text is there
text_is : (o : Option (List ℕ)) (P : Type 0) (v : List ℕ) → P → SomeIff o P v → o ≡ Some v
text_is None P v holds told = absurd (told holds)
text_is (Some x) P v holds told = ap Some told.1

pub text_told : {X : Type 0} (strings : List ℕ) (offset : X → ℕ) (xs : List X) (i : ℕ) (x : X) (o : Option (List ℕ))
    → All (λ y. HasText strings (offset y)) xs → slice_get xs i ≡ Some x → SomeIff o (HasText strings (offset x)) (text strings (offset x))
    → o ≡ option_map (λ y. text strings (offset y)) (slice_get xs i)
text_told {X} strings offset xs i x o named there told =
    text_is o (HasText strings (offset x)) (text strings (offset x)) (all_at (λ y. HasText strings (offset y)) xs i x named there) told
    ∙ ap (option_map (λ y. text strings (offset y))) (sym there)
