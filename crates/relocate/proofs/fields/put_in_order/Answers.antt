use Rattle.std.proofs.Common.{rules}
use Rattle.std.proofs.lemmas.List.Sorted.{answers_always}
use Rattle.elf_model.proofs.RangeOrder.{sorted_ordered}
use Rattle.relocate.specs.declared.fields.Field.{Field}
use Rattle.relocate.proofs.fields.put_in_order.Goals as goal

pub returns-clause-ordered : goal.returns-clause-ordered
returns-clause-ordered c =
    sorted_ordered (λ (f : Field). f.section) (λ f. f.start) (λ f. f.end) c.sort_by_key.new.self.items
    (c.in_ok-sort_by_key.ensures.sorted (λ (f : Field). (f.section, f.start)) (answers_always _ _ _ (λ f a r q k. search rules)))
