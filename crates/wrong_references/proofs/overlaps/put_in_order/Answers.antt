use Rattle.std.proofs.Common.{rules}
use Rattle.std.proofs.lemmas.List.Sorted.{answers_always}
use Rattle.elf_model.proofs.RangeOrder.{sorted_ordered}
use Rattle.wrong_references.specs.declared.overlaps.FieldAt.{FieldAt}
use Rattle.wrong_references.proofs.Sweeps.{ordered_pairs}
use Rattle.wrong_references.proofs.overlaps.put_in_order.Goals as goal

pub returns-clause-ordered : goal.returns-clause-ordered
returns-clause-ordered c =
    ordered_pairs c.sort_by_key.new.self.items
    (sorted_ordered (λ (f : FieldAt). f.section) (λ f. f.start) (λ f. f.start) c.sort_by_key.new.self.items
    (c.in_ok-sort_by_key.ensures.sorted (λ (f : FieldAt). (f.section, f.start)) (answers_always _ _ _ (λ f a r q k. search rules))))
