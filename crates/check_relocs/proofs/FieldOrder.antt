-- Fields of 1 to 8 bytes in order, as the ranges of bytes that they are.
use Rattle.std.proofs.Common.{◌+◌, ◌<◌, List, arith}
use Rattle.std.specs.Prelude.{All, AllPairs, IsPermutation}
use Rattle.std.proofs.lemmas.List.Elements.{All-weaker}
use Rattle.elf_model.proofs.RangeOrder as ranges
use Rattle.check_relocs.specs.Fields.{AreApart, IsNarrow, IsOrdered, IsRow, Rise}
use Rattle.check_relocs.specs.declared.fields.Field.{Field}

have_bytes : (xs : List Field) → All IsNarrow xs → All (λ f. f.at < f.at + f.width) xs
have_bytes xs narrow = All-weaker IsNarrow (λ (f : Field). f.at < f.at + f.width) (λ f n. let w = n.some in omega (arith, w)) xs narrow

pub rise_apart : (xs : List Field) → All IsNarrow xs → Rise xs → AllPairs AreApart xs
rise_apart xs narrow up = ranges.rise_apart (λ (f : Field). f.section) (λ f. f.at) (λ f. f.at + f.width) xs (have_bytes xs narrow) up

-- both sides, for fields that were put in order
pub ordered_apart :
    (xs ys : List Field) → IsPermutation xs ys → IsPermutation ys xs → All IsNarrow ys → IsOrdered ys → (Rise ys → AllPairs AreApart xs) × (AllPairs AreApart xs → Rise ys)
ordered_apart xs ys there back narrow ordered =
    ranges.ordered_apart (λ (f : Field). f.section) (λ f. f.at) (λ f. f.at + f.width) xs ys there back (have_bytes ys narrow) ordered

-- fields in order are a row of those that they were
pub row_of_sorted : (xs ys : List Field) → IsPermutation xs ys → All IsNarrow ys → Rise ys → IsRow xs ys
row_of_sorted xs ys same narrow up = record {
  same = same;
  rising = ranges.rise_pairs (λ (f : Field). f.section) (λ f. f.at) (λ f. f.at + f.width) ys (have_bytes ys narrow) up;
}
