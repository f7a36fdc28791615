use Rattle.std.proofs.Common.{◌+◌, rules}
use Rattle.std.proofs.lemmas.List.Sorted.{answers_always}
use Rattle.elf_model.proofs.RangeOrder.{sorted_ordered}
use Rattle.input_judge.specs.declared.fields_apart.FieldBytes.{FieldBytes}
use Rattle.input_judge.proofs.fields_apart.sorted.Goals as goal

pub returns-clause-ordered : goal.returns-clause-ordered
returns-clause-ordered c =
    sorted_ordered (λ (f : FieldBytes). f.section) (λ f. f.at) (λ f. f.at + f.width) c.sort_by_key.new.self.items
    (c.in_ok-sort_by_key.ensures.sorted (λ (f : FieldBytes). (f.section, f.at)) (answers_always _ _ _ (λ f a r q k. search rules)))
