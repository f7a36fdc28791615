use Rattle.std.proofs.Common.{List, map, subst}
use Rattle.std.specs.Prelude.{IsPermutation}
use Rattle.std.proofs.lemmas.List.Sorted.{IsPermutation-map}
use Rattle.elf_model.specs.Inputs.ArchiveFile.{IndexEntry}
use Rattle.order_judge.specs.MemberNames.{entry_of}
use Rattle.order_judge.proofs.member_names.IndexedInput.new.Goals as goal

pub invariant_of-result : goal.invariant_of-result
invariant_of-result c = record {
  entries = λ unnamed.
      subst (λ (es : List IndexEntry). IsPermutation es (map entry_of c.in_ok-names.names.items)) (c.in_ok-names_in.ensures unnamed)
      (IsPermutation-map entry_of c.in_ok-names_in.field-0.items c.in_ok-names.names.items c.in_ok-names.ensures.same);
  rising = c.in_ok-names.ensures.rising;
}
